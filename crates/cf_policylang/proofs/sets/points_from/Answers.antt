use Rattle.std.proofs.Common.{◌∙◌, refl, sym}
use Rattle.toml.specs.View.{view}
use Rattle.cf_policylang.specs.Sets.{point_entry, points_from}
use Rattle.cf_policylang.proofs.Readings.{at_end, hands_on, points_read, points_refused}
use Rattle.cf_policylang.proofs.sets.points_from.Goals as goal

pub returns-in_err-push_points : goal.returns-in_err-push_points
returns-in_err-push_points c =
    hands_on {C = Unit {0}} (λ s. s) _ c.from_residual.result (λ _. c.push_points.new.spans.items) _ c.in_err-push_points.field-0.0 c.from_residual.ensures.1
    c.in_err-push_points.ensures
    (λ r none. sym c.loop-value.invariant
    ∙ points_refused c.args.named.now c.args.place c.deref-value-items.result.now c.args.array.now.items c.deref-value-items.ensures.value
    c.loop-value.value-index c.value-item.result c.loop-value-test.true c.value-item.is c.loop-value.spans.items
    (point_entry c.args.named.now c.args.place (view c.value-item.result)) refl r none)

pub loop-value-preserved : goal.loop-value-preserved
loop-value-preserved c =
    sym (points_read c.args.named.now c.args.place c.deref-value-items.result.now c.args.array.now.items c.deref-value-items.ensures.value
    c.loop-value.value-index c.value-item.result c.loop-value-test.true c.value-item.is c.loop-value.spans.items
    (point_entry c.args.named.now c.args.place (view c.value-item.result)) refl c.push_points.new.spans.items c.in_ok-push_points.ensures)
    ∙ c.loop-value.invariant

pub returns : goal.returns
returns c =
    let end = at_end (λ items. points_from c.args.named.now c.args.place items c.loop-value.spans.items) c.deref-value-items.result.now
    c.args.array.now.items c.deref-value-items.ensures.value c.loop-value.value-index c.loop-value-test.false in
    rw c.new.ensures (sym c.loop-value.invariant ∙ end)
