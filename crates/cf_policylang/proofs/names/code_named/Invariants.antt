use Rattle.cf_policylang.proofs.Called.{IsUncalled}
use Rattle.cf_policylang.proofs.names.code_named.Given as goal

-- none of the codes so far has the name
abbrev pub invariant-loop-code : goal.invariant-loop-code
invariant-loop-code l = IsUncalled l.protocol l.name l.code
