use Rattle.std.proofs.Common.{rules, ◌≡◌, ◌∙◌, ◌+◌, ◌<◌, ℕ, suc, Option, Some, None, if◌then◌else◌, length, map, reverse, slice_index, sym, ap, subst, arith}
use Rattle.cf_stream.specs.Stream.{Byte}
use Rattle.cf_watch.specs.Kept.{run_value}
use Rattle.cf_watch.specs.Stretches.{FirstLetter, apart, is_own, runs_of, with_place}
use Rattle.cf_watch.proofs.stretches.put_bytes.Goals as goal

pub loop-i-preserved : goal.loop-i-preserved
loop-i-preserved c = λ f is was.
    let i = c.loop-i.i in
    let count = c.args.count in
    let bytes = c.args.bytes.now in
    let q = c.args.start + i in
    let g = apart count f in
    let before = reverse (map run_value c.loop-i.runs.items) in
    let letter : FirstLetter = record { letter = Byte (slice_index bytes i); number = c.args.number } in
    let below : i < length bytes = c.loop-i-test.true in
    let at : c.in-Some.place ≡ q = search rules in
    let e : c.args.start + (i + 1) ≡ suc q = omega arith in
    subst (λ (p : ℕ). reverse (map run_value c.put_apart.new.runs.items) ≡ with_place p (if is_own count p then None else Some letter) before) at c.in_ok-put_apart.ensures
    ∙ ap (with_place q (if is_own count q then None else Some letter)) (c.loop-i.invariant f is was)
    ∙ ap (λ (o : Option FirstLetter). with_place q (if is_own count q then None else o) (runs_of g q)) (sym (is i below)) ∙ ap (runs_of g) (sym e)
