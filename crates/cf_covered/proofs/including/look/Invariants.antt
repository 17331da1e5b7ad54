use Rattle.std.proofs.Common.{map}
use Rattle.cf_covered.specs.Outlines.{rules_of}
use Rattle.cf_covered.proofs.OutlineLooks.{Looked}
use Rattle.cf_covered.proofs.including.look.Given as goal

abbrev pub invariant-loop-number : goal.invariant-loop-number
invariant-loop-number l = Looked (rules_of l.earlier) l.outline.rule.now l.number (map (λ r. r.now) l.common.items)
