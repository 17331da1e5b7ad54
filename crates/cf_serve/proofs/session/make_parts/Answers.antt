use Rattle.cf_serve.proofs.session.make_parts.Goals as goal

pub returns-clause-lane : goal.returns-clause-lane
returns-clause-lane c = λ before left. record {
  of_site = c.in_ok-lane.ensures.of_site;
  of_client = c.in_ok-lane.ensures.client;
  counts = c.in_ok-lane.ensures.counts;
  follows = λ to_client to_controller first. c.in_ok-lane.ensures.follows before to_client to_controller first left;
}
