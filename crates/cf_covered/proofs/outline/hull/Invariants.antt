use Rattle.std.proofs.Common.{◌≡◌, take, true}
use Rattle.std.specs.List.{All}
use Rattle.cf_covered.specs.declared.outline.TheConstants.{EVERY_NUMBER}
use Rattle.cf_covered.specs.Common.{overlap}
use Rattle.cf_covered.specs.Outlines.{has_ends}
use Rattle.cf_covered.proofs.outline.hull.Given as goal

abbrev pub invariant-loop-span : goal.invariant-loop-span
invariant-loop-span l = record {
  stated : All (λ s. has_ends l.hull s ≡ true) (take l.span-index l.spans);
  within : overlap EVERY_NUMBER l.hull ≡ true;
}
