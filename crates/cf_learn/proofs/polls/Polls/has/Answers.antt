use Rattle.std.proofs.Common.{length, subst, sym}
use Rattle.std.proofs.lemmas.Bool.{ltb-true}
use Rattle.cf_learn.specs.Polls.{HaveRequests}
use Rattle.cf_learn.proofs.Polled.{at_place}
use Rattle.cf_learn.proofs.polls.Polls.has.Goals as goal

pub returns-then-poll-client : goal.returns-then-poll-client
returns-then-poll-client c tested seen are =
    at_place c.deref.result.now c.args.place c.in-Some.poll.now c.args.client c.args.pdu.now.bytes
    (ltb-true c.args.place (length c.deref.result.now) (sym c.in-Some.ensures.lookup.0)) c.in-Some.ensures.lookup.1
    c.if-poll-client.true (c.equals.ensures.0 tested) seen (subst (HaveRequests seen) (sym c.deref.ensures.value) are.requests)
