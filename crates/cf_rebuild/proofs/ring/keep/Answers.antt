use Rattle.std.proofs.Common.{arith}
use Rattle.std.proofs.lemmas.Int.{to_z-of_z}
use Rattle.std.proofs.lemmas.List.{take_rest}
use Rattle.cf_rebuild.proofs.Offers.{option_or-assoc, offered_left, offered_left_end}
use Rattle.cf_rebuild.proofs.ring.keep.Goals as goal
use Rattle.std.proofs.lemmas.Grind.{common_steps}

pub returns-then-end-clause-places : goal.returns-then-end-clause-places
returns-then-end-clause-places c = grind (arith, common_steps, to_z-of_z, offered_left_end, take_rest, option_or-assoc)

pub returns-then-end-clause-before : goal.returns-then-end-clause-before
returns-then-end-clause-before c = λ k l m. c.keep_text.ensures.before k (omega (arith, c.start_of-begin.ensures.begin, l)) m

pub returns-else-end-clause-places : goal.returns-else-end-clause-places
returns-else-end-clause-places c = grind (arith, common_steps, to_z-of_z, offered_left, take_rest)

pub returns-else-end-clause-before : goal.returns-else-end-clause-before
returns-else-end-clause-before c = λ k l m. c.keep_text.ensures.before k (omega (arith, c.start_of-begin.ensures.begin, l)) m
