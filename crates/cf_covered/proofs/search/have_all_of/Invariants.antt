use Rattle.std.proofs.Common.{ℕ, ◌<◌, map}
use Rattle.cf_covered.specs.Covered.{HaveCodeOf}
use Rattle.cf_covered.proofs.search.have_all_of.Given as goal

abbrev pub invariant-loop-code : goal.invariant-loop-code
invariant-loop-code l = (code : ℕ) → code < l.code → HaveCodeOf l.protocol (map (λ r. r.now) l.others) l.rule code
