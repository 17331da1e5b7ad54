use Rattle.std.proofs.Common.{◌≡◌, ◌≢◌, ◌∙◌, Some, ap, sym}
use Rattle.std.specs.Prelude.{slice_get}
use Rattle.cf_policy.specs.declared.index.CodePair.{CodePair}
use Rattle.cf_policy.specs.Index.{reason_of_pairs}
use Rattle.cf_policy.proofs.Fronts.{is_rule, not_none, not_other, verdict_ended, verdict_found}
use Rattle.cf_policy.proofs.index.verdict_of_front.Goals.{in-Some+else-pair-act, in_default}
use Rattle.cf_policy.proofs.index.verdict_of_front.Goals as goal

pub verdict_of_rule-requires : goal.verdict_of_rule-requires
verdict_of_rule-requires c =
    let at : slice_get c.args.pairs.now c.first_or_end-place.result ≡ Some c.in-Some.pair = sym c.pair_at.ensures ∙ c.in-Some.is in
    is_rule c.args.rules.now c.in-Some.pair.rule _ (c.first_or_end-place.ensures.here c.in-Some.pair at c.if-pair-act.true)

pub returns-then-pair-act-clause-decides : goal.returns-then-pair-act-clause-decides
returns-then-pair-act-clause-decides c = λ count front.
    let pair = c.in-Some.pair in
    let at : slice_get c.args.pairs.now c.first_or_end-place.result ≡ Some pair = sym c.pair_at.ensures ∙ c.in-Some.is in
    verdict_found c.args.pairs.now c.args.rules.now c.args.act.now c.first_or_end-place.result c.first_or_end-place.ensures.inside c.first_or_end-place.ensures.before
    count pair c.verdict_of_rule.result front at c.if-pair-act.true (c.first_or_end-place.ensures.here pair at c.if-pair-act.true) c.verdict_of_rule.ensures.decides

pub returns-clause-decides : goal.returns-clause-decides
returns-clause-decides c = λ count front.
    let place = c.first_or_end-place.result in
    let other : (p : CodePair) → slice_get c.args.pairs.now place ≡ Some p → p.code ≢ c.args.act.now.code =
    elim c.match-pair_at.branch [
      | in-Some+else-pair-act w ↦ λ p at same. w.if-pair-act.false (ap (λ (q : CodePair). q.code) (not_other _ w.in-Some.pair p (sym c.pair_at.ensures ∙ w.in-Some.is) at) ∙ same)
      | in_default w ↦ λ p at same. not_none _ p (sym c.pair_at.ensures ∙ w.in_default.is) at
    ] in
    verdict_ended c.args.pairs.now c.args.rules.now c.args.act.now place c.first_or_end-place.ensures.inside c.first_or_end-place.ensures.before
    count c.default_reason.result front other
    (c.default_reason.ensures ∙ ap (λ l. reason_of_pairs l c.args.rules.now c.args.act.now) c.split_at.ensures.front)
