-- The runs of letters, taken place by place.
use Rattle.std.proofs.Common.{◌≡◌, if◌then◌else◌, ◌+◌, ◌-◌, ◌<◌, ◌≤◌, ◌^◌, ◌+ℤ◌, ℕ, ℤ, pos, zero, suc, Bool, true, false, List, [], ◌∷◌, ◌++◌, reverse, Option, Some, None, is_some, option_map, unwrap_or, drop, length, set, slice_get, refl, sym, ap, ◌∙◌, inl, inr, arith, subst, length-append}
use Rattle.std.proofs.lemmas.Bool.{cases_lt, false≢true}
use Rattle.std.specs.BTreeMap.{BTreeMap, get}
use Rattle.std.specs.Ordering.{nat_cmp}
use Rattle.std.proofs.lemmas.List.{reverse-append}
use Rattle.std.proofs.lemmas.Option.{none-some}
use Rattle.cf_stream.specs.Stream.{Letter, letter_count, letter_from}
use Rattle.cf_watch.specs.Carried.{Carried, end_of, top_of}
use Rattle.cf_watch.specs.FlowValue.{FlowValue, StretchValue, flow_value}
use Rattle.cf_watch.specs.Kept.{HasRuns, IsFirst, kept, letter_of_portion, row_value, with_gone}
use Rattle.cf_watch.specs.Stretches.{FirstLetter, Run, apart, first_letter, is_nil, is_own, letter_came, all_stretches, runs_of, stretch_of, stretches_from, stretches_of, with_place}
use Rattle.cf_watch.specs.Watched.{Watched}
use Rattle.cf_watch.specs.Trail.{Heard, IsHeard}
use Rattle.cf_watch.specs.declared.ahead.Portion.{Portion}
use Rattle.cf_watch.specs.declared.flow.Flow.{Flow}
use Rattle.cf_watch.specs.declared.scope.Scope.{Scope}
use Rattle.cf_watch.specs.declared.watching.Trail.{Trail}
use Rattle.cf_watch.proofs.Letters.{shifted}
use Rattle.cf_watch.proofs.Standing.{past_end}

-- places without a letter add no run
pub runs_skip : (f : ℕ → Option FirstLetter) (a n : ℕ) → ((q : ℕ) → a ≤ q → q < a + n → f q ≡ None) → runs_of f (a + n) ≡ runs_of f a
runs_skip f a zero h = let e : a + 0 ≡ a = omega arith in ap (runs_of f) e
runs_skip f a (suc n) h =
    let e : a + suc n ≡ suc (a + n) = omega arith in
    ap (runs_of f) e ∙ ap (λ (o : Option FirstLetter). with_place (a + n) o (runs_of f (a + n))) (h (a + n) (omega arith) (omega arith))
    ∙ runs_skip f a n (λ q v w. h q v (omega (arith, w)))

pub runs_to : (f : ℕ → Option FirstLetter) (a b : ℕ) → a ≤ b → ((q : ℕ) → a ≤ q → q < b → f q ≡ None) → runs_of f b ≡ runs_of f a
runs_to f a b less h =
    let e : a + (b - a) ≡ b = omega (arith, less) in
    ap (runs_of f) (sym e) ∙ runs_skip f a (b - a) (λ q v w. h q v (omega (arith, w, less)))

-- all places from two on are without a letter
pub runs_same : (f : ℕ → Option FirstLetter) (a b : ℕ) → ((q : ℕ) → a ≤ q → f q ≡ None) → ((q : ℕ) → b ≤ q → f q ≡ None) → runs_of f a ≡ runs_of f b
runs_same f a b h i =
    elim (cases_lt a b) [
      | inl v ↦ sym (runs_to f a b (omega (arith, v)) (λ q x y. h q x))
      | inr v ↦ runs_to f b a v (λ q x y. i q x)
    ]

-- the runs hang on the letters alone
pub runs_by : (f g : ℕ → Option FirstLetter) (n : ℕ) → ((q : ℕ) → f q ≡ g q) → runs_of f n ≡ runs_of g n
runs_by f g n h = ap (λ k. runs_of k n) (λ i q. h q i)

pub apart_none : (count : ℕ) (f : ℕ → Option FirstLetter) (q : ℕ) → f q ≡ None → apart count f q ≡ None
apart_none count f q h = either (is_own count q) (f q) h
  where
    either : (b : Bool) (o : Option FirstLetter) → o ≡ None → (if b then None else o) ≡ None
    either true o h = refl
    either false o h = h

apart_same : (count : ℕ) (f g : ℕ → Option FirstLetter) → ((q : ℕ) → is_own count q ≡ false → f q ≡ g q) → (q : ℕ) → apart count f q ≡ apart count g q
apart_same count f g h q = either (is_own count q) refl
  where
    either : (b : Bool) → is_own count q ≡ b → (if b then None else f q) ≡ (if b then None else g q)
    either true e = refl
    either false e = h q e

-- the letters of the first places are taken out, and their runs are there, the last one first
pub record HasFirstRuns (count : ℕ) (all left : BTreeMap ℕ Portion) (runs : List Run) : Type 0 where
  pub from : ℕ
  pub still : (q : ℕ) → from ≤ q → kept left q ≡ kept all q
  pub taken : (r : ℕ) → r < from → get nat_cmp left r ≡ None
  pub are_runs : runs ≡ runs_of (apart count (kept all)) from

-- the letters of the portion that began at the lowest place are among the runs
abbrev pub PutsFirst : (count start : ℕ) → Portion → (old new : List Run) → Type 0
PutsFirst count start p old new =
    (f : ℕ → Option FirstLetter) → ((k : ℕ) → k < letter_count (row_value p.letters) → f (start + k) ≡ letter_of_portion p k) → old ≡ runs_of (apart count f) start →
    new ≡ runs_of (apart count f) (start + letter_count (row_value p.letters))

pub runs_more : (count : ℕ) (all left new : BTreeMap ℕ Portion) (start : ℕ) (p : Portion) (runs more : List Run) → HasFirstRuns count all left runs → IsFirst start p left new →
    PutsFirst count start p runs more → HasFirstRuns count all new more
runs_more count all left new start p runs more was first puts =
    let past : was.from ≤ start = elim (cases_lt start was.from) [
      | inl v ↦ absurd (false≢true (sym (ap is_some (was.taken start v)) ∙ first.begins))
      | inr v ↦ v
    ] in
    let f : ℕ → Option FirstLetter = apart count (kept all) in
    let blank : (q : ℕ) → was.from ≤ q → q < start → f q ≡ None = λ q v w. apart_none count (kept all) q (sym (was.still q v) ∙ first.none_before q w) in
    record {
      from = start + letter_count (row_value p.letters);
      still = λ q v. first.others q v ∙ was.still q (omega (arith, v, past));
      taken = first.gone;
      are_runs = puts (kept all) (λ k v. sym (was.still (start + k) (omega (arith, past))) ∙ first.was k v) (was.are_runs ∙ sym (runs_to f was.from start past blank));
    }

-- ---- behind all letters of a flow

none_from : (c : Carried) (q : ℕ) → 2 ^ 31 + end_of c ≤ q → letter_came c q ≡ None
none_from c q h =
    let p = q - 2 ^ 31 in
    let e : q ≡ p + 2 ^ 31 = omega (arith, h) in
    let none : letter_from c.at c.text p ≡ None = past_end c.at c.text p (omega (arith, h)) in
    ap (option_map (λ (x : Letter). let r : FirstLetter = record { letter = x; number = c.number } in r))
    (ap (letter_from (c.at +ℤ pos (2 ^ 31)) c.text) e ∙ shifted c.at c.text p (2 ^ 31) ∙ none)

none_past_top : (carried : List Carried) (q : ℕ) → 2 ^ 31 + top_of carried ≤ q → first_letter carried q ≡ None
none_past_top [] q h = refl
none_past_top (c ∷ earlier) q h =
    rw (none_past_top earlier q (omega (arith, h)), none_from c q (omega (arith, h))) refl

pub runs_of_flow : (w : Watched) (count : ℕ) (ahead : BTreeMap ℕ Portion) (runs : List Run) →
    ((q : ℕ) → is_own count q ≡ false → kept ahead q ≡ first_letter w.carried q) → HasRuns count ahead runs →
    runs ≡ runs_of (apart count (first_letter w.carried)) (2 ^ 31 + top_of w.carried)
runs_of_flow w count ahead runs holds has =
    let f = apart count (kept ahead) in
    let g = apart count (first_letter w.carried) in
    let none : (q : ℕ) → has.places ≤ q → f q ≡ None = λ q h. apart_none count (kept ahead) q (has.none_behind q h) in
    let same : (q : ℕ) → f q ≡ g q = apart_same count (kept ahead) (first_letter w.carried) holds in
    has.are_runs ∙ runs_by f g has.places same
    ∙ runs_same g has.places (2 ^ 31 + top_of w.carried) (λ q h. sym (same q) ∙ none q h) (λ q h. apart_none count (first_letter w.carried) q (none_past_top w.carried q h))

-- ---- runs as stretches

nil_append : (xs : List Run) (r : Run) → is_nil (xs ++ r ∷ []) ≡ false
nil_append [] r = refl
nil_append (x ∷ xs) r = refl

nil_reversed : (xs : List Run) → is_nil (reverse xs) ≡ is_nil xs
nil_reversed [] = refl
nil_reversed (x ∷ xs) = ap is_nil (reverse-append (x ∷ []) xs) ∙ nil_append (reverse xs) x

-- the last of some runs
pub stretches_last : (f : FlowValue) (gap : ℤ) (xs : List Run) (r : Run) →
    stretches_from f gap (reverse (xs ++ r ∷ [])) ≡ stretch_of f (if is_nil xs then Some gap else None) r ∷ stretches_from f gap (reverse xs)
stretches_last f gap xs r =
    ap (stretches_from f gap) (reverse-append xs (r ∷ []))
    ∙ ap (λ (b : Bool). stretch_of f (if b then Some gap else None) r ∷ stretches_from f gap (reverse xs)) (nil_reversed xs)

-- the stretches hang on the client and the asset of the flow, and not on its bytes
pub gone_stretches : (gone gone_born : List ℕ) (f : Flow) (gap : ℤ) (runs : List Run) →
    stretches_from (flow_value f) gap runs ≡ stretches_from (with_gone gone gone_born f) gap runs
gone_stretches gone gone_born f gap [] = refl
gone_stretches gone gone_born f gap (r ∷ runs) =
    ap (λ (xs : List StretchValue). stretch_of (flow_value f) (if is_nil runs then Some gap else None) r ∷ xs) (gone_stretches gone gone_born f gap runs)

-- the runs of a flow that was heard are its stretches
pub stretches_heard : (by : Scope) (f : Flow) (t : Trail) (w : Watched) (h : Heard) (count : ℕ) (runs : List Run) → IsHeard by f t w h → count ≡ t.base + length f.bytes.items →
    HasRuns count t.ahead runs → stretches_from (flow_value f) (pos count) runs ≡ stretches_of w h.value
stretches_heard by f t w h count runs is counted has =
    let size : count ≡ length h.value.bytes =
    counted ∙ sym (ap (λ (v : FlowValue). length v.bytes) is.value ∙ length-append is.gone f.bytes.items ∙ ap (λ (n : ℕ). n + length f.bytes.items) (is.gone_count ∙ sym is.base)) in
    let holds = subst (λ (n : ℕ). (q : ℕ) → is_own n q ≡ false → kept t.ahead q ≡ first_letter w.carried q) (sym size) is.holds in
    ap (stretches_from (flow_value f) (pos count)) (runs_of_flow w count t.ahead runs holds has)
    ∙ ap (λ (n : ℕ). stretches_from (flow_value f) (pos n) (runs_of (apart n (first_letter w.carried)) (2 ^ 31 + top_of w.carried))) size
    ∙ gone_stretches is.gone is.gone_born f (pos (length h.value.bytes)) (runs_of (apart (length h.value.bytes) (first_letter w.carried)) (2 ^ 31 + top_of w.carried))
    ∙ ap (λ (v : FlowValue). stretches_from v (pos (length h.value.bytes)) (runs_of (apart (length h.value.bytes) (first_letter w.carried)) (2 ^ 31 + top_of w.carried))) (sym is.value)

-- ---- flow by flow

drop_here : {X : Type 0} (xs : List X) (i : ℕ) (x : X) → slice_get xs i ≡ Some x → drop i xs ≡ x ∷ drop (i + 1) xs
drop_here [] i x e = absurd (none-some x e)
drop_here (y ∷ xs) zero x e = ap (λ z. z ∷ xs) (ap (λ o. unwrap_or o y) e)
drop_here (y ∷ xs) (suc i) x e =
    let n : suc i + 1 ≡ suc (i + 1) = omega arith in
    drop_here xs i x e ∙ ap (λ k. x ∷ drop k (y ∷ xs)) (sym n)

-- the stretches of a flow, and those of the flows behind it
pub stretches_on : (ws : List Watched) (flows : List FlowValue) (i : ℕ) (w : Watched) (f : FlowValue) → slice_get ws i ≡ Some w → slice_get flows i ≡ Some f →
    all_stretches (drop i ws) (drop i flows) ≡ stretches_of w f ++ all_stretches (drop (i + 1) ws) (drop (i + 1) flows)
stretches_on ws flows i w f a b = rw (drop_here ws i w a, drop_here flows i f b) refl

other_place : {X : Type 0} (xs : List X) (i k : ℕ) (x : X) → i < k → slice_get (set xs i x) k ≡ slice_get xs k
other_place [] i k x h = refl
other_place (y ∷ xs) zero zero x h = absurd (omega (arith, h))
other_place (y ∷ xs) zero (suc k) x h = refl
other_place (y ∷ xs) (suc i) zero x h = absurd (omega (arith, h))
other_place (y ∷ xs) (suc i) (suc k) x h = other_place xs i k x (omega (arith, h))

pub trails_behind : {X : Type 0} (xs ys : List X) (i : ℕ) (x : X) → ((k : ℕ) → i ≤ k → slice_get xs k ≡ slice_get ys k) → (k : ℕ) → i + 1 ≤ k →
    slice_get (set xs i x) k ≡ slice_get ys k
trails_behind xs ys i x h k v = other_place xs i k x (omega (arith, v)) ∙ h k (omega (arith, v))
