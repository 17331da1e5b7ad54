use Rattle.std.proofs.Common.{length, rules, subst, sym}
use Rattle.std.proofs.lemmas.Bool.{ltb-true}
use Rattle.cf_learn.specs.Polls.{HaveFragments}
use Rattle.cf_learn.proofs.Fragments.{fragment_at}
use Rattle.cf_learn.proofs.polls.Polls.has_fragment.Goals as goal

pub returns-then-asked-client : goal.returns-then-asked-client
returns-then-asked-client c tested seen are =
    fragment_at c.deref.result.now c.args.place c.in-Some-get.asked.now c.args.client c.in-Some.field-0-0 c.args.octets.now.bytes c.in-Some.behind.now
    (ltb-true c.args.place (length c.deref.result.now) (sym c.in-Some-get.ensures.lookup.0)) c.in-Some-get.ensures.lookup.1 c.if-asked-client.true (search rules) c.in-Some.ensures seen
    (subst (HaveFragments seen) (sym c.deref.ensures.value) are.fragments)
