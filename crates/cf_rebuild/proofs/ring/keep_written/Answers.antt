use Rattle.std.proofs.Common.{◌≡◌, ℕ, ◌+◌, ◌-◌, ◌<◌, ◌≤◌, ◌⊎◌, List, length, min, take, drop, inl, inr, ◌∙◌, sym, ap, arith}
use Rattle.std.proofs.lemmas.Bool.{cases_lt}
use Rattle.std.proofs.lemmas.List.{length-take-le, length-drop, get_or-take, take_rest}
use Rattle.cf_rebuild.specs.Ring.{cell_at, slot}
use Rattle.cf_rebuild.proofs.Places.{place_within, place_past, option_or-none, untouched, touched, offered_byte, offered_none}
use Rattle.cf_rebuild.proofs.ring.keep_written.Goals as goal
use Rattle.std.proofs.lemmas.Grind.{common_steps}

abbrev front : goal.After-slice_known-6-1 → List ℕ
front c = take c.min.result c.args.text.now

front_length : (c : goal.After-slice_known-6-1) → length (front c) ≡ c.min.result
front_length c = length-take-le c.min.result c.args.text.now (omega (arith, c.min.ensures))

first_is : (c : goal.After-slice_known-6-1) → c.min-first.result ≡ min c.min.result (32768 - slot c.args.start c.args.begin)
first_is c = c.min-first.ensures ∙ ap (λ (n : ℕ). min n (32768 - slot c.args.start c.args.begin)) (front_length c)

first_length : (c : goal.After-slice_known-6-1) → length (take c.min-first.result (front c)) ≡ c.min-first.result
first_length c = length-take-le c.min-first.result (front c) (omega (arith, first_is c, front_length c))

rest_length : (c : goal.After-slice_known-6-1) → length (drop c.min-first.result (front c)) ≡ c.min.result - c.min-first.result
rest_length c = simp length-drop (omega (arith, front_length c))

fits : (c : goal.After-slice_known-6-1) → c.min.result ≤ c.args.room - c.args.begin
fits c = omega (arith, c.min.ensures)

pub returns-clause-before : goal.returns-clause-before
returns-clause-before c = grind (arith, common_steps, take_rest, untouched, fits, first_is, first_length, rest_length)

pub returns-clause-places : goal.returns-clause-places
returns-clause-places c = λ k.
    (let start = c.args.start in
    let begin = c.args.begin in
    let room = c.args.room in
    let text = c.args.text.now in
    let count = c.min.result in
    let ends = c.args.ends.now in
    let old = cell_at c.args.kept.now ends c.args.bytes.now in
    let mid = cell_at c.keep_run.new.kept ends c.keep_run.new.bytes in
    let new = cell_at c.keep_run-2.new.kept ends c.keep_run-2.new.bytes in
    let second = simp take_rest at c.keep_run-2.ensures.others in
    let second_here = simp take_rest at c.keep_run-2.ensures.here in
    let a : (s : ℕ) → (s < slot start begin) ⊎ (slot start begin + c.min-first.result ≤ s) → mid s ≡ old s =
    λ s out. c.keep_run.ensures.others s (elim out [ inl v ↦ inl v | inr v ↦ inr (omega (arith, first_length c, v)) ]) in
    let b : (s : ℕ) → (s < 0) ⊎ (0 + (count - c.min-first.result) ≤ s) → new s ≡ mid s =
    λ s out. second s (elim out [ inl v ↦ inl v | inr v ↦ inr (omega (arith, rest_length c, v)) ]) in
    let now = place_within c.keep_run-2.new.kept ends c.keep_run-2.new.bytes start k in
    let was = place_within c.args.kept.now ends c.args.bytes.now start k in
    let same : k < 32768 → (k < begin) ⊎ (begin + count ≤ k) → new (slot start k) ≡ old (slot start k) =
    untouched start begin room count c.min-first.result c.requires.inside c.if-room-begin.false (fits c) (first_is c) old mid new a b k in
    elim (cases_lt k 32768) [
      | inr past ↦
          (let none = offered_none begin room text k (inr (omega (arith, c.requires.inside.1, c.if-room-begin.false))) in
          let x = place_past c.keep_run-2.new.kept ends c.keep_run-2.new.bytes start k past in
          let y = place_past c.args.kept.now ends c.args.bytes.now start k past in
          rw (none, option_or-none, x, y))
      | inl l ↦
          (let x = now l in
          let y = was l in
          elim (cases_lt k begin) [
            | inl v ↦
                (let none = offered_none begin room text k (inl v) in
                rw (none, option_or-none, x, y) (same l (inl v)))
            | inr v ↦
                elim (cases_lt k (begin + count)) [
                  | inr w ↦
                      (let none = offered_none begin room text k (inr (omega (arith, c.min.ensures, w))) in
                      rw (none, option_or-none, x, y) (same l (inr w)))
                  | inl w ↦
                      (let some = offered_byte begin room text k v (omega (arith, fits c, w)) (omega (arith, c.min.ensures, w)) in
                      let byte = get_or-take count text (k - begin) 0 (omega (arith, v, w)) in
                      let t = touched start begin room count c.min-first.result c.requires.inside c.if-room-begin.false (fits c) (first_is c) (front c) old mid new
                      (λ s lo hi. c.keep_run.ensures.here s lo (omega (arith, first_length c, hi))) a
                      (λ s lo hi. second_here s lo (omega (arith, rest_length c, hi))) b k v w in
                      rw (some, x, y, sym byte) t)
                ]
          ])
    ])

pub returns-then-room-begin-clause-places : goal.returns-then-room-begin-clause-places
returns-then-room-begin-clause-places c = grind (arith, common_steps, offered_none, cases_lt, option_or-none)
