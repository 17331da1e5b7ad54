use Rattle.std.proofs.Common.{◌≡◌, ◌<◌, ℕ, slice_get, Some}
use Rattle.cf_learn.specs.Seen.{act_of}
use Rattle.cf_learn.specs.declared.Seen.{Seen}
use Rattle.cf_policy.specs.Laws.{IsAllowed}
use Rattle.cf_policy.specs.Verdict.{verdict_of}
use Rattle.cf_draft.proofs.shown.allows_all.Given as goal

-- what was seen before the place is allowed
abbrev pub invariant-loop-place : goal.invariant-loop-place
invariant-loop-place l =
    (k : ℕ) → k < l.place → (s : Seen) → slice_get l.seen k ≡ Some s → IsAllowed (verdict_of l.drafted s.kind.client (act_of s))
