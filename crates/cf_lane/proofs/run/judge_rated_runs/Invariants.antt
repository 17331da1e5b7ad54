use Rattle.std.proofs.Common.{◌≡◌, ◌-◌, ◌≤◌, drop, false, get_or, length, take, ℕ}
use Rattle.std.specs.List.{list_any}
use Rattle.cf_modbus.specs.Acts.{acts}
use Rattle.cf_modbus.specs.Request.{request_value}
use Rattle.cf_lane.specs.Acts.{first_refusal, first_shown, is_by}
use Rattle.cf_lane.specs.Rates.{rated}
use Rattle.cf_lane.specs.Rings.{IsRulesOf, says_by}
use Rattle.cf_lane.proofs.run.judge_rated_runs.Given as goal

-- no act so far was refused, and the rated rules that allowed one are marked; the first that the log shows is kept
abbrev pub invariant-loop-i : goal.invariant-loop-i
invariant-loop-i l = record {
  size : length l.used ≡ 16;
  inside : l.i ≤ l.count;
  so_far : (client : ℕ) → IsRulesOf l.asset client l.rules →
      (first_refusal (says_by l.asset client l.rules l.moment) (drop l.i (acts (request_value l.request))) ≡ first_refusal (says_by l.asset client l.rules l.moment) (acts (request_value l.request)))
      × ((place : ℕ) → get_or l.used place false ≡ list_any (λ act. is_by (rated l.asset.rules) place (says_by l.asset client l.rules l.moment act)) (take l.i (acts (request_value l.request))))
      × (l.shown ≡ first_shown l.asset.rules (says_by l.asset client l.rules l.moment) (take l.i (acts (request_value l.request))));
}

abbrev pub decreases-loop-i : goal.decreases-loop-i
decreases-loop-i l = l.count - l.i
