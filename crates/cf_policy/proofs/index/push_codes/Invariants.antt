use Rattle.std.proofs.Common.{take}
use Rattle.cf_policy.proofs.Pairs.{AddsSome}
use Rattle.cf_policy.proofs.index.push_codes.Given as goal

abbrev pub invariant-loop-span : goal.invariant-loop-span
invariant-loop-span l = AddsSome l.place (take l.span-index l.span-items) l.initial.pairs.items l.pairs.items
