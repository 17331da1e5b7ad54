use Rattle.std.proofs.Common.{sym, subst}
use Rattle.std.specs.Prelude.{IfOk}
use Rattle.cf_watch.specs.FlowValue.{flow_value}
use Rattle.cf_judge.specs.Found.{IsFoundAt}
use Rattle.cf_judge.proofs.judging.judge_at.Goals as goal

pub site_at_place-site-requires : goal.site_at_place-site-requires
site_at_place-site-requires c = c.requires.flow.asset

pub judge_flow-requires-clause-within : goal.judge_flow-requires-clause-within
judge_flow-requires-clause-within c = c.site_at_place-site.ensures.within c.requires.within

pub judge_flow-requires-clause-born : goal.judge_flow-requires-clause-born
judge_flow-requires-clause-born c = c.requires.flow.born

pub returns : goal.returns
returns c = subst (λ o. IfOk c.judge_flow.result (λ found. IsFoundAt o (flow_value c.args.flow.now) found)) (sym c.site_at_place-site.ensures.site) c.judge_flow.ensures
