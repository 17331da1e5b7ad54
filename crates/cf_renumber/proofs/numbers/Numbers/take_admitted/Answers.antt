use Rattle.std.proofs.Common.{arith, ◌≡◌, ◌+◌, ◌++◌, ◌∷◌, [], count_by}
use Rattle.cf_renumber.specs.declared.mark.FrameFate.TheVariants as fates
use Rattle.cf_renumber.specs.Counts.{is_admitted}
use Rattle.cf_renumber.proofs.Counting.{numbering_admitted}
use Rattle.cf_renumber.proofs.Lists.{count_by-append}
use Rattle.cf_renumber.proofs.numbers.Numbers.take_admitted.Goals as goal

pub invariant_of-self : goal.invariant_of-self
invariant_of-self c =
    let i = c.self.invariant in
    let req = rw (← c.self.view_is) at c.requires.owed in
    let more : count_by is_admitted (c.self.inside.fates.items ++ fates.Admitted ∷ []) ≡ count_by is_admitted c.self.inside.fates.items + 1 =
    count_by-append is_admitted c.self.inside.fates.items (fates.Admitted ∷ []) in
    rw (c.note_fate.ensures, c.next-self-inside.ensures, c.next-self-inside-2.ensures)
    (i.0, i.1, omega (arith, i.2), i.3, numbering_admitted _ i.4 req)
