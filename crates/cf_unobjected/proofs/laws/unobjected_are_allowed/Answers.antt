use Rattle.cf_unobjected.proofs.Allowed.{allowed}
use Rattle.cf_unobjected.proofs.laws.unobjected_are_allowed.Goals as goal

pub returns : goal.returns
returns c = allowed c.letters_stand_in_order.ensures.place c.letters_stand_in_order.ensures.count c.taken_letters_are_copies.ensures
