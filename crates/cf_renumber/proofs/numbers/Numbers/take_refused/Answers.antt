use Rattle.std.proofs.Common.{sym, ◌∙◌}
use Rattle.cf_renumber.proofs.Counting.{numbering_dropped, admits_dropped}
use Rattle.cf_renumber.proofs.numbers.Numbers.take_refused.Goals as goal

pub invariant_of-self : goal.invariant_of-self
invariant_of-self c =
    let i = c.self.invariant in
    let req = rw (← c.self.view_is) at c.requires.owed in
    rw (c.note_refused.ensures, c.next-self-inside.ensures)
    (i.0, i.1, i.2 ∙ sym (admits_dropped c.self.inside.fates.items), i.3, numbering_dropped _ i.4 req)
