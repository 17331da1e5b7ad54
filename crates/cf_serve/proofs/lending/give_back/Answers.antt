use Rattle.std.proofs.Common.{subst, sym, ◌∙◌}
use Rattle.cf_lane.specs.Handled.{IsLaneOf}
use Rattle.cf_lane.specs.Rings.{KnowsRules}
use Rattle.cf_relay.specs.Relaying.{RelayingValue}
use Rattle.cf_serve.proofs.lending.give_back.Goals as goal

pub returns-then-has_rates-clause-own : goal.returns-then-has_rates-clause-own
returns-then-has_rates-clause-own c =
    let same = c.into_relaying-relaying.ensures in
    let r = c.into_rings-rings in (
      λ not. cc (sym not ∙ (sym c.has_rates.ensures ∙ c.if-has_rates.true)),
      λ rated. (
        r.result,
        (
          r.ensures.of_site c.args.site.now (subst (λ (v : RelayingValue). IsLaneOf c.args.site.now v.lane) (sym same) c.requires.lane),
          (
            λ before js know. r.ensures.know c.args.site.now before js (subst (λ (v : RelayingValue). KnowsRules c.args.site.now before v.lane.rules js) (sym same) know),
            c.give_back.ensures.own,
          ),
        ),
      ),
    )
