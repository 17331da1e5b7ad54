use Rattle.cf_lane.specs.Rings.{is_spent_by}
use Rattle.std.proofs.Common.{rules, subst, sym}
use Rattle.cf_dnpobj.specs.Acts.{acts}
use Rattle.cf_dnpobj.specs.Fragment.{fragment_value}
use Rattle.cf_lane.specs.Dnp3.{IsOfFragment}
use Rattle.cf_lane.proofs.Dnp3Fates.{never_station_of}
use Rattle.cf_lane.proofs.dnp3.judge.judge_request.Goals as goal

pub returns-then-count-le-FEW_ACTS-clause-fragment : goal.returns-then-count-le-FEW_ACTS-clause-fragment
returns-then-count-le-FEW_ACTS-clause-fragment c = λ client is.
    (let all = acts (fragment_value c.args.fragment.now) in
    subst IsOfFragment (sym (c.judge_acts.ensures.fate client all is (sym c.act_count-count.ensures) (λ i act inside gives. search rules)))
    (never_station_of c.args.asset.now client (is_spent_by c.args.rules.now.rings.items c.args.moment) all))

pub returns-clause-fragment : goal.returns-clause-fragment
returns-clause-fragment c = λ client is.
    (let all = acts (fragment_value c.args.fragment.now) in
    subst IsOfFragment (sym (c.judge_acts-2.ensures.fate client all is (sym c.act_count-count.ensures) (λ i act inside gives. search rules)))
    (never_station_of c.args.asset.now client (is_spent_by c.args.rules.now.rings.items c.args.moment) all))
