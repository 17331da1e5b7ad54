use Rattle.std.specs.Prelude.{ℕ, ◌<◌, ◌≡◌, get_or, length}
use Rattle.cf_policy.specs.Index.{IsStartOf}
use Rattle.cf_policy.proofs.index.starts_of.Given as goal

-- the codes before this one have their places
abbrev pub invariant-loop-code : goal.invariant-loop-code
invariant-loop-code l = (length l.starts ≡ 256) × ((code : ℕ) → code < l.code → IsStartOf code l.pairs (get_or l.starts code 0))
