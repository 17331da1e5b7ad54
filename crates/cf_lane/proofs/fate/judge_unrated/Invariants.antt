use Rattle.std.proofs.Common.{◌≡◌, drop, length, List, take, ℕ}
use Rattle.cf_policy.specs.Index.{IsIndexOf}
use Rattle.cf_policy.specs.Verdict.{verdict_of}
use Rattle.cf_view.specs.declared.Act.{Act}
use Rattle.cf_lane.specs.Acts.{GivesActs, first_refusal, first_shown}
use Rattle.cf_lane.proofs.fate.judge_unrated.Given as goal

-- no act so far was refused, and the first that the log shows is kept
abbrev pub invariant-loop-i : goal.invariant-loop-i
invariant-loop-i g l =
    (client : ℕ) (acts : List Act) → IsIndexOf l.asset client l.index → length acts ≡ l.count → GivesActs (goal.F-post g l.act_at) acts →
    (first_refusal (verdict_of l.asset client) (drop l.i acts) ≡ first_refusal (verdict_of l.asset client) acts)
    × (l.shown ≡ first_shown l.asset.rules (verdict_of l.asset client) (take l.i acts))
