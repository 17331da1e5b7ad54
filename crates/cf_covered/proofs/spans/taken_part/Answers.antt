use Rattle.std.proofs.Common.{◌≡◌, ◌≤ℤ◌, sym, subst, true, rules}
use Rattle.std.specs.List.{Contains}
use Rattle.cf_policy.specs.Verdict.{covers}
use Rattle.cf_covered.proofs.SpanLists.{taken_to}
use Rattle.cf_covered.proofs.spans.taken_part.Goals as goal

pub returns-clause-taken : goal.returns-clause-taken
returns-clause-taken c = λ n h.
    let here : Contains c.args.spans.now c.in_ok-first.first.now = search rules in
    let at : covers c.in_ok-first.first.now c.args.span.low ≡ true = search rules in
    let start : covers c.in_ok-first.first.now c.up_to.result.low ≡ true = subst (λ k. covers c.in_ok-first.first.now k ≡ true) (sym c.up_to.ensures.begins) at in
    let end : c.up_to.result.high ≤ℤ c.in_ok-first.first.now.high = search rules in
    taken_to c.args.spans.now c.in_ok-first.first.now c.up_to.result.low c.up_to.result.high n here start end h
