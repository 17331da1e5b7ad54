use Rattle.std.proofs.Common.{◌∙◌, Err, Ok, sym}
use Rattle.cf_policylang.specs.Lists.{entries_from}
use Rattle.cf_policylang.proofs.Readings.{at_end, entry_next, refuses, runs_out}
use Rattle.cf_policylang.proofs.lists.entries_from.Goals as goal

pub returns-in_err-span : goal.returns-in_err-span
returns-in_err-span c =
    refuses (λ s. s) _ c.from_residual.result c.in_err-span.field-0.0 c.from_residual.ensures.1
    (sym c.loop-value.invariant
    ∙ entry_next c.args.entries c.args.key c.args.place c.deref-value-items.result.now c.args.array.now.items c.deref-value-items.ensures.value
    c.loop-value.value-index c.value-item.result c.loop-value-test.true c.value-item.is c.loop-value.spans.items (Err c.in_err-span.field-0.0)
    (sym c.in_err-span.ensures))

pub returns-in_err-push : goal.returns-in_err-push
returns-in_err-push c = runs_out (λ s. s) _ c.from_residual-in_err-push.result c.from_residual-in_err-push.ensures.1

pub loop-value-preserved : goal.loop-value-preserved
loop-value-preserved c =
    let next =
    entry_next c.args.entries c.args.key c.args.place c.deref-value-items.result.now c.args.array.now.items c.deref-value-items.ensures.value
    c.loop-value.value-index c.value-item.result c.loop-value-test.true c.value-item.is c.loop-value.spans.items (Ok c.in_ok-span.span)
    (sym c.in_ok-span.ensures) in
    rw c.in_ok-push.ensures.items (sym next ∙ c.loop-value.invariant)

pub returns : goal.returns
returns c =
    let end = at_end (λ items. entries_from c.args.entries c.args.key c.args.place items c.loop-value.spans.items) c.deref-value-items.result.now
    c.args.array.now.items c.deref-value-items.ensures.value c.loop-value.value-index c.loop-value-test.false in
    rw c.new.ensures (sym c.loop-value.invariant ∙ end)
