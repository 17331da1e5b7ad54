use Rattle.std.proofs.Common.{◌≡◌, take, fold}
use Rattle.cf_policylang.specs.NameNumbers.{with_octet}
use Rattle.cf_policylang.proofs.earlier.name_number.Given as goal

-- the number of what was read
abbrev pub invariant-loop-octet : goal.invariant-loop-octet
invariant-loop-octet l = l.number ≡ fold with_octet 0 (take l.octet-index l.octet-items)
