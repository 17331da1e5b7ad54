use Rattle.cf_session_tests.proofs.tests.sessions.begins.Goals as goal

pub invariant_of-result : goal.invariant_of-result
invariant_of-result g c = (
  rw c.expect.ensures at c.policy.ensures.within,
  (rw c.expect-2.ensures at c.new.ensures.sound) c.expect.result.assets,
  rw c.expect-2.ensures at c.new.ensures.last,
)
