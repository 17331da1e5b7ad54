use Rattle.std.proofs.Common.{◌≡◌, ◌≤◌, length, pos, true, subst, sym, arith}
use Rattle.std.specs.List.{list_any}
use Rattle.std.proofs.lemmas.List.{take_all}
use Rattle.std.proofs.lemmas.Grind.{common_steps}
use Rattle.std.proofs.lemmas.List.Elements.{All-get_or}
use Rattle.cf_policy.specs.Verdict.{covers}
use Rattle.cf_policy.specs.Within.{IsSpanWithin, highest_point}
use Rattle.cf_policy.specs.declared.policy.Span.{Span}
use Rattle.cf_policy.proofs.PointTable.{some_covers}
use Rattle.cf_policy.proofs.Steps.{between_more}
use Rattle.cf_policy.proofs.point_table.ends_of.Goals as goal

pub ends_with-lower-requires : goal.ends_with-lower-requires
ends_with-lower-requires c =
    let d : Span = record { low = pos 0; high = pos 0 } in
    record { within = All-get_or (IsSpanWithin (pos 0) highest_point) c.args.spans.now c.loop-span.span-index d c.loop-span-test.true c.requires.within.each }

pub loop-span-preserved : goal.loop-span-preserved
loop-span-preserved c =
    let d : Span = record { low = pos 0; high = pos 0 } in
    between_more c.args.spans.now c.loop-span.span-index d c.loop-span.low c.loop-span.high c.ends_with-lower.result.0 c.ends_with-lower.result.1 c.loop-span-test.true c.loop-span.invariant
    c.ends_with-lower.ensures.low c.ends_with-lower.ensures.high c.ends_with-lower.ensures.around

pub returns : goal.returns
returns c = λ point fits takes.
    let spans = c.args.spans.now in
    let some : 1 ≤ length spans = grind (arith, common_steps) in
    c.loop-span.invariant point (subst (λ l. list_any (λ s. covers s (pos point)) l ≡ true) (sym (take_all c.loop-span.span-index spans c.loop-span-test.false)) (some_covers spans (pos point) some takes))
