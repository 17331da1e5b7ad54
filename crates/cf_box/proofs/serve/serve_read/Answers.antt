use Rattle.std.proofs.Common.{false, refl, true}
use Rattle.cf_box.proofs.Serving.{takes_by}
use Rattle.cf_box.proofs.serve.serve_read.Goals as goal

pub serve_places-requires-clause-apart : goal.serve_places-requires-clause-apart
serve_places-requires-clause-apart g c =
    takes_by c.args.policy.now c.args.service.now.places.items c.as_slice.result.now false c.as_slice.ensures.value c.if-takes_endpoint.ensures

pub returns-then-takes_endpoint-clause-stops : goal.returns-then-takes_endpoint-clause-stops
returns-then-takes_endpoint-clause-stops g c = (
  record {
    policy = c.args.policy.now;
    has = c.requires.has;
    takes = takes_by c.args.policy.now c.args.service.now.places.items c.as_slice.result.now true c.as_slice.ensures.value c.if-takes_endpoint.ensures;
  },
  record { content = refl; same = refl },
)
