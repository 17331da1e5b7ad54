use Rattle.std.proofs.Common.{subst, sym}
use Rattle.cf_learn.specs.Polls.{HaveFragments}
use Rattle.cf_learn.proofs.Fragments.{one_none}
use Rattle.cf_learn.proofs.polls.no_fragments.Goals as goal

pub loop-preserved : goal.loop-preserved
loop-preserved c seen =
    subst (HaveFragments seen) (sym c.in_ok-push.ensures.items)
    (one_none seen c.loop.fragments.items (record { client = 0; octets = c.new.result }) c.new.ensures.items (c.loop.invariant seen))
