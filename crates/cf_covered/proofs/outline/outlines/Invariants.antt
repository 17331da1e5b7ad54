use Rattle.std.proofs.Common.{◌≡◌, take}
use Rattle.std.specs.List.{All}
use Rattle.cf_covered.specs.Outlines.{HasHull, rules_of}
use Rattle.cf_covered.proofs.outline.outlines.Given as goal

abbrev pub invariant-loop-rule : goal.invariant-loop-rule
invariant-loop-rule l = (rules_of l.all.items ≡ take l.rule-index l.rules) × All HasHull l.all.items
