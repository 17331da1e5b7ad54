use Rattle.std.proofs.Common.{subst, arith}
use Rattle.std.proofs.lemmas.List.{take_all}
use Rattle.cf_policy.specs.declared.index.CodePair.{CodePair}
use Rattle.cf_policy.proofs.Runs.{AreSteady, pairs_more}
use Rattle.cf_policy.proofs.run.pairs_until.Goals as goal

pub loop-pair-preserved : goal.loop-pair-preserved
loop-pair-preserved c =
    let d : CodePair = record { code = 0; rule = 0 } in (
      pairs_more c.args.rules.now c.args.pairs.now c.loop-pair.pair-index d c.args.first c.loop-pair.reached c.rule_until-reached.result c.loop-pair-test.true c.rule_until-reached.ensures.stays c.loop-pair.invariant.0 c.rule_until-reached.ensures.steady,
      c.rule_until-reached.ensures.reaches,
      omega (arith, c.rule_until-reached.ensures.stays, c.loop-pair.invariant.2),
    )

pub returns-clause-steady : goal.returns-clause-steady
returns-clause-steady c =
    subst (AreSteady c.args.rules.now c.args.first c.loop-pair.reached) (take_all c.loop-pair.pair-index c.args.pairs.now c.loop-pair-test.false) c.loop-pair.invariant.0
