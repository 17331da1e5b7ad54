use Rattle.std.proofs.Common.{refl, rules}
use Rattle.cf_lane.proofs.wire.push_fragments.Goals as goal

pub returns : goal.returns
returns c = record {
  fragments = record { client = c.in_ok-client.client; controller = c.in_ok-controller.controller; to_client = 0; to_controller = 0 };
  added = search rules;
  nothing = record { client = c.in_ok-client.ensures.stands; controller = c.in_ok-controller.ensures.stands; to_client = refl; to_controller = refl };
}
