use Rattle.std.proofs.Common.{◌≡◌, drop}
use Rattle.cf_policylang.specs.Sets.{is_set_taken}
use Rattle.cf_policylang.proofs.sets.is_set_taken.Given as goal

-- what is left has one exactly where the whole has one
abbrev pub invariant-loop-set : goal.invariant-loop-set
invariant-loop-set l = is_set_taken (drop l.set-index l.earlier) l.text ≡ is_set_taken l.earlier l.text
