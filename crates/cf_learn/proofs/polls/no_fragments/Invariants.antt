use Rattle.std.proofs.Common.{List}
use Rattle.cf_learn.specs.Polls.{HaveFragments}
use Rattle.cf_learn.specs.declared.seen.Seen.{Seen}
use Rattle.cf_learn.proofs.polls.no_fragments.Given as goal

abbrev pub invariant-loop : goal.invariant-loop
invariant-loop l = (seen : List Seen) → HaveFragments seen l.fragments.items
