use Rattle.std.proofs.Common.{◌≡◌, drop, length, List, ℕ}
use Rattle.cf_policy.specs.Index.{IsIndexOf}
use Rattle.cf_policy.specs.Verdict.{verdict_of}
use Rattle.cf_view.specs.declared.Act.{Act}
use Rattle.cf_lane.specs.Acts.{GivesActs, first_refusal}
use Rattle.cf_judge.proofs.ruling.judge_acts.Given as goal

-- no act so far was refused
abbrev pub invariant-loop-i : goal.invariant-loop-i
invariant-loop-i g l =
    (client : ℕ) (acts : List Act) → IsIndexOf l.asset client l.index → length acts ≡ l.count → GivesActs (goal.F-post g l.act_at) acts →
    first_refusal (verdict_of l.asset client) (drop l.i acts) ≡ first_refusal (verdict_of l.asset client) acts
