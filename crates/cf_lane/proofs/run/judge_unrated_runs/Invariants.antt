use Rattle.std.proofs.Common.{◌≡◌, ◌-◌, ◌≤◌, drop, take, ℕ}
use Rattle.cf_modbus.specs.Acts.{acts}
use Rattle.cf_modbus.specs.Request.{request_value}
use Rattle.cf_policy.specs.Index.{IsIndexOf}
use Rattle.cf_policy.specs.Verdict.{verdict_of}
use Rattle.cf_lane.specs.Acts.{first_refusal, first_shown}
use Rattle.cf_lane.proofs.run.judge_unrated_runs.Given as goal

-- no act so far was refused, and the first that the log shows is kept
abbrev pub invariant-loop-i : goal.invariant-loop-i
invariant-loop-i l = record {
  inside : l.i ≤ l.count;
  so_far : (client : ℕ) → IsIndexOf l.asset client l.index →
      (first_refusal (verdict_of l.asset client) (drop l.i (acts (request_value l.request))) ≡ first_refusal (verdict_of l.asset client) (acts (request_value l.request)))
      × (l.shown ≡ first_shown l.asset.rules (verdict_of l.asset client) (take l.i (acts (request_value l.request))));
}

abbrev pub decreases-loop-i : goal.decreases-loop-i
decreases-loop-i l = l.count - l.i
