use Rattle.std.proofs.Common.{map}
use Rattle.cf_covered.specs.Regions.{AreSettled}
use Rattle.cf_covered.proofs.search.are_settled.Given as goal

-- where what is left is settled, all is
abbrev pub invariant-loop : goal.invariant-loop
invariant-loop l = AreSettled l.rule (map (λ r. r.now) l.others) l.code l.left.items → AreSettled l.rule (map (λ r. r.now) l.others) l.code l.fn.regions.items
