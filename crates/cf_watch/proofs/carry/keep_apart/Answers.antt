use Rattle.std.proofs.Common.{◌≡◌, ◌∙◌, ◌+ℤ◌, ◌^◌, ℤ, pos, ap, arith, to_z, of_z, w64}
use Rattle.std.proofs.lemmas.Int.{ints}
use Rattle.cf_watch.specs.Kept.{row_value}
use Rattle.cf_watch.proofs.Taking.{kept_apart}
use Rattle.cf_watch.proofs.carry.keep_apart.Goals as goal

pub returns : goal.returns
returns c =
    let here : to_z w64 (of_z w64 c.args.at) ≡ c.args.at = omega (arith, ints, c.ranges.at.sfits) in
    kept_apart (record { number = c.args.number; at = c.args.at; text = row_value c.args.letters }) c.portion_of-portion.result c.args.ahead.now c.keep_portion.new.ahead c.key_at.result
    (c.key_at.ensures ∙ ap (λ (z : ℤ). z +ℤ pos (2 ^ 31)) here) c.portion_of-portion.ensures.number c.portion_of-portion.ensures.letters c.in_ok-keep_portion.ensures.before c.in_ok-keep_portion.ensures.behind
