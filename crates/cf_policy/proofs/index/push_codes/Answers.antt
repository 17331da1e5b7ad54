use Rattle.std.proofs.Common.{take, ◌≡◌, sym, subst, get_or, refl, arith, rules, ◌+◌, is_ok, nat_abs, to_z, of_z, w64, true, pos}
use Rattle.std.proofs.lemmas.Grind.{common_steps}
use Rattle.std.proofs.lemmas.Int.{ints}
use Rattle.std.proofs.lemmas.List.Elements.{All-get_or}
use Rattle.std.specs.Prelude.{All}
use Rattle.cf_policy.specs.Within.{IsSpanWithin, highest_code}
use Rattle.cf_policy.specs.declared.policy.Span.{Span}
use Rattle.cf_policy.proofs.Pairs.{AddsSome, added_more, added_all}
use Rattle.cf_policy.proofs.index.push_codes.Goals as goal

pub loop-span-preserved : goal.loop-span-preserved
loop-span-preserved c =
    let codes = c.args.rule.now.codes in
    let same : c.as_slice-span-items.result.now ≡ codes = c.as_slice-span-items.ensures in
    let d : Span = record { low = pos 0; high = pos 0 } in
    let ok : is_ok c.push.result ≡ true = search rules in
    let pushed = rw ok at c.push.ensures.items in
    let s = get_or c.as_slice-span-items.result.now c.loop-span.span-index d in
    let each : All (IsSpanWithin (pos 0) highest_code) c.as_slice-span-items.result.now = subst (All (IsSpanWithin (pos 0) highest_code)) (sym same) c.requires.within.codes.each in
    let equal : All (λ t. t.low ≡ t.high) c.as_slice-span-items.result.now = subst (All (λ t. t.low ≡ t.high)) (sym same) c.requires.within.single_codes in
    let within : IsSpanWithin (pos 0) highest_code s = All-get_or (IsSpanWithin (pos 0) highest_code) c.as_slice-span-items.result.now c.loop-span.span-index d c.loop-span-test.true each in
    let single : s.low ≡ s.high = All-get_or (λ t. t.low ≡ t.high) c.as_slice-span-items.result.now c.loop-span.span-index d c.loop-span-test.true equal in
    let code : s.low ≡ pos (nat_abs (to_z w64 (of_z w64 s.low))) = omega (arith, ints, within.above, within.ordered, within.below) in
    subst (λ l. AddsSome c.args.place (take (c.loop-span.span-index + 1) c.as_slice-span-items.result.now) c.args.pairs.now.items l) (sym pushed)
    (added_more c.args.place c.as_slice-span-items.result.now c.loop-span.span-index d c.args.pairs.now.items c.loop-span.pairs.items _ c.loop-span-test.true single refl code c.loop-span.invariant)

pub returns : goal.returns
returns c =
    let codes = c.args.rule.now.codes in
    let whole : take c.loop-span.span-index c.as_slice-span-items.result.now ≡ codes = grind (arith, common_steps) in
    added_all c.args.place c.args.rule.now _ _ c.requires.within.some_code (subst (λ s. AddsSome c.args.place s c.args.pairs.now.items c.loop-span.pairs.items) whole c.loop-span.invariant)
