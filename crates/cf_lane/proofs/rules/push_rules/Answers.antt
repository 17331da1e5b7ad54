use Rattle.std.proofs.Common.{rules}
use Rattle.cf_lane.proofs.rules.push_rules.Goals as goal

pub returns : goal.returns
returns c = record {
  more = record {
    rules = c.in_ok-rules.rules;
    added = search rules;
    of_asset = c.in_ok-rules.ensures.of_asset;
    unused = c.in_ok-rules.ensures.knows;
  };
}
