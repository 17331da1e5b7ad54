use Rattle.std.proofs.Common.{◌≡◌, ◌+◌, ◌∙◌, length, drop, sym, ap, subst, arith}
use Rattle.std.proofs.lemmas.Bool.Decides.{nat_tests}
use Rattle.std.proofs.lemmas.List.{nil_from_length}
use Rattle.cf_judge.specs.Found.{IsFoundIn}
use Rattle.cf_watch.specs.FlowValue.{flow_value}
use Rattle.cf_judge.proofs.Reading.{SoFar, broke, broke_inside, found_all, found_break, found_nothing, found_rest, so_far_first, so_far_on, took, took_inside, waits}
use Rattle.cf_judge.proofs.judging.judge_flow.Goals as goal

pub returns-then-is_empty : goal.returns-then-is_empty
returns-then-is_empty c = let e : length c.args.flow.now.bytes.items ≡ 0 = grind (arith, nat_tests, c.if-is_empty.ensures) in found_nothing c.args.site.now (flow_value c.args.flow.now) (nil_from_length c.args.flow.now.bytes.items e)

pub units-init : goal.units-init
units-init c = so_far_first c.args.site.now (flow_value c.args.flow.now) _ c.in_ok-reader.ensures.reader

pub next-requires : goal.next-requires
next-requires c = record { for_site = c.units.invariant.reader.one_each }

pub returns-in-Rest : goal.returns-in-Rest
returns-in-Rest c =
    let same = c.rest_of.ensures ∙ ap (drop c.units.at) c.as_slice.ensures.value in
    found_rest c.args.site.now (flow_value c.args.flow.now) c.units.at c.units.reader c.units.found c.units.invariant
    (waits c.args.site.now (flow_value c.args.flow.now) c.units.at c.units.reader c.units.found c.units.invariant c.rest_of.result.bytes same c.in-Rest.ensures.front)

pub overflow_add-at : goal.overflow_add-at
overflow_add-at c =
    let same = c.rest_of.ensures ∙ ap (drop c.units.at) c.as_slice.ensures.value in
    let b = broke c.args.site.now (flow_value c.args.flow.now) c.units.at c.units.reader c.units.found c.units.invariant c.rest_of.result.bytes same c.in-Broken.reason c.in-Broken.place c.in-Broken.ensures.front in
    let i = broke_inside c.args.site.now (flow_value c.args.flow.now) c.units.at c.units.reader c.units.found c.units.invariant c.in-Broken.place b.0 in
    omega (arith, i, c.args.flow.now.bytes.ok.0, c.args.flow.now.bytes.ok.1, c.args.flow.now.bytes.small)

pub record_at-requires : goal.record_at-requires
record_at-requires c =
    let same = c.rest_of.ensures ∙ ap (drop c.units.at) c.as_slice.ensures.value in
    let b = broke c.args.site.now (flow_value c.args.flow.now) c.units.at c.units.reader c.units.found c.units.invariant c.rest_of.result.bytes same c.in-Broken.reason c.in-Broken.place c.in-Broken.ensures.front in
    let i = broke_inside c.args.site.now (flow_value c.args.flow.now) c.units.at c.units.reader c.units.found c.units.invariant c.in-Broken.place b.0 in
    record { place = omega (arith, i, c.requires.born) }

pub returns-in-Broken : goal.returns-in-Broken
returns-in-Broken c =
    let same = c.rest_of.ensures ∙ ap (drop c.units.at) c.as_slice.ensures.value in
    let b = broke c.args.site.now (flow_value c.args.flow.now) c.units.at c.units.reader c.units.found c.units.invariant c.rest_of.result.bytes same c.in-Broken.reason c.in-Broken.place c.in-Broken.ensures.front in
    let i = broke_inside c.args.site.now (flow_value c.args.flow.now) c.units.at c.units.reader c.units.found c.units.invariant c.in-Broken.place b.0 in
    subst (IsFoundIn c.args.site.now (flow_value c.args.flow.now)) (sym c.with_wrong.ensures)
    (found_break c.args.site.now (flow_value c.args.flow.now) c.units.at c.units.reader c.units.found c.units.invariant c.in-Broken.reason c.in-Broken.place c.record_at.result b.0 b.1 c.record_at.ensures)

pub overflow_add-at-in-Took : goal.overflow_add-at-in-Took
overflow_add-at-in-Took c =
    let same = c.rest_of.ensures ∙ ap (drop c.units.at) c.as_slice.ensures.value in
    let t = took c.args.site.now (flow_value c.args.flow.now) c.units.at c.units.reader c.units.found c.units.invariant c.rest_of.result.bytes same c.in-Took.ruling c.in-Took.place c.in-Took.used c.next.new.self c.in-Took.ensures.front in
    let i = took_inside c.args.site.now (flow_value c.args.flow.now) c.units.at c.units.reader c.units.found c.units.invariant c.in-Took.ruling c.in-Took.place c.in-Took.used c.next.new.self t in
    omega (arith, i.0, c.args.flow.now.bytes.ok.0, c.args.flow.now.bytes.ok.1, c.args.flow.now.bytes.small)

pub overflow_sub-at : goal.overflow_sub-at
overflow_sub-at c =
    let same = c.rest_of.ensures ∙ ap (drop c.units.at) c.as_slice.ensures.value in
    let t = took c.args.site.now (flow_value c.args.flow.now) c.units.at c.units.reader c.units.found c.units.invariant c.rest_of.result.bytes same c.in-Took.ruling c.in-Took.place c.in-Took.used c.next.new.self c.in-Took.ensures.front in
    omega (arith, t.some)

pub record_at-requires-in-Took : goal.record_at-requires-in-Took
record_at-requires-in-Took c =
    let same = c.rest_of.ensures ∙ ap (drop c.units.at) c.as_slice.ensures.value in
    let t = took c.args.site.now (flow_value c.args.flow.now) c.units.at c.units.reader c.units.found c.units.invariant c.rest_of.result.bytes same c.in-Took.ruling c.in-Took.place c.in-Took.used c.next.new.self c.in-Took.ensures.front in
    let i = took_inside c.args.site.now (flow_value c.args.flow.now) c.units.at c.units.reader c.units.found c.units.invariant c.in-Took.ruling c.in-Took.place c.in-Took.used c.next.new.self t in
    record { place = omega (arith, i.0, i.1, c.requires.born) }

pub with_ruling-found-requires : goal.with_ruling-found-requires
with_ruling-found-requires c = omega (arith, c.units.invariant.few, c.units.invariant.inside, c.args.flow.now.bytes.ok.0, c.args.flow.now.bytes.ok.1, c.args.flow.now.bytes.small)

pub units-preserved : goal.units-preserved
units-preserved c =
    let same = c.rest_of.ensures ∙ ap (drop c.units.at) c.as_slice.ensures.value in
    let t = took c.args.site.now (flow_value c.args.flow.now) c.units.at c.units.reader c.units.found c.units.invariant c.rest_of.result.bytes same c.in-Took.ruling c.in-Took.place c.in-Took.used c.next.new.self c.in-Took.ensures.front in
    let i = took_inside c.args.site.now (flow_value c.args.flow.now) c.units.at c.units.reader c.units.found c.units.invariant c.in-Took.ruling c.in-Took.place c.in-Took.used c.next.new.self t in
    subst (SoFar c.args.site.now (flow_value c.args.flow.now) (c.units.at + c.in-Took.used) c.next.new.self) (sym c.with_ruling-found.ensures)
    (so_far_on c.args.site.now (flow_value c.args.flow.now) c.units.at c.units.reader c.units.found c.units.invariant c.in-Took.ruling c.in-Took.place c.in-Took.used c.next.new.self c.record_at-in-Took.result
    c.requires.born t c.record_at-in-Took.ensures)

pub units-smaller : goal.units-smaller
units-smaller c =
    let same = c.rest_of.ensures ∙ ap (drop c.units.at) c.as_slice.ensures.value in
    let t = took c.args.site.now (flow_value c.args.flow.now) c.units.at c.units.reader c.units.found c.units.invariant c.rest_of.result.bytes same c.in-Took.ruling c.in-Took.place c.in-Took.used c.next.new.self c.in-Took.ensures.front in
    let i = took_inside c.args.site.now (flow_value c.args.flow.now) c.units.at c.units.reader c.units.found c.units.invariant c.in-Took.ruling c.in-Took.place c.in-Took.used c.next.new.self t in
    omega (arith, i.0, i.1)

pub returns : goal.returns
returns c = let e = c.units-test.false in found_all c.args.site.now (flow_value c.args.flow.now) c.units.at c.units.reader c.units.found c.units.invariant (omega (arith, e, c.len.ensures, c.args.flow.now.bytes.ok.0))
