use Rattle.std.proofs.Common.{take, ◌≤◌}
use Rattle.cf_policy.proofs.Runs.{SpansSteady}
use Rattle.cf_policy.proofs.run.walked_until.Given as goal

abbrev pub invariant-loop-span : goal.invariant-loop-span
invariant-loop-span l = SpansSteady l.first l.reached (take l.span-index l.spans) × (l.first ≤ l.reached) × (l.reached ≤ l.last)
