use Rattle.std.proofs.Common.{ap, refl, ◌∙◌}
use Rattle.std.specs.List.{list_all}
use Rattle.cf_policy.specs.Names.{is_name_byte}
use Rattle.cf_lane.proofs.LineFeeds.{asset_plain, rule_plain}
use Rattle.std.specs.Prelude.{slice_get}
use Rattle.cf_lane.proofs.Logging.{logs_by}
use Rattle.cf_lane.proofs.log.log_shown.Goals as goal

pub put_line-requires-clause-names : goal.put_line-requires-clause-names
put_line-requires-clause-names g c = (
  ap (list_all is_name_byte) c.as_str.ensures.text ∙ asset_plain c.args.asset.now c.requires.within,
  ap (list_all is_name_byte) c.rule_name.ensures.name
      ∙ rule_plain c.args.asset.now.rules c.requires.within.rules.each c.args.shown.now.rule (slice_get c.args.asset.now.rules c.args.shown.now.rule) refl,
)

pub returns-clause-desk : goal.returns-clause-desk
returns-clause-desk g c = logs_by _ _ _ c.put_line.ensures.whole c.put_line.ensures.log c.put_line.ensures.cause
