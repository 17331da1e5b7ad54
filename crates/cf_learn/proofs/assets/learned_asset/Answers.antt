use Rattle.std.proofs.Common.{map, subst, sym}
use Rattle.cf_watch.specs.FlowValue.{flow_value}
use Rattle.cf_learn.specs.Assets.{IsLearnedAsset}
use Rattle.cf_learn.proofs.Learned.{learned_with}
use Rattle.cf_learn.proofs.assets.learned_asset.Goals as goal

pub returns-clause-learned : goal.returns-clause-learned
returns-clause-learned c =
    let rules = c.in_ok-rules.rules.items in
    subst (IsLearnedAsset c.args.asset.now c.args.place (map flow_value c.args.flows.now)) (sym c.with_rules.ensures)
    (learned_with c.args.asset.now c.args.place (map flow_value c.args.flows.now) c.in-Ok.seen.items c.in-Ok.ensures.seen rules c.requires.within
    c.in_ok-rules.ensures.rules c.in_ok-rules.ensures.allows c.in_ok-rules.ensures.grouped c.in_ok-rules.ensures.within)
