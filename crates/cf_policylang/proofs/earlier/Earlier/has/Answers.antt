use Rattle.std.proofs.Common.{sym, ◌∙◌}
use Rattle.cf_policylang.proofs.NameNumbers.{lacks_name}
use Rattle.cf_policylang.proofs.earlier.Earlier.has.Goals as goal

pub returns-else-contains : goal.returns-else-contains
returns-else-contains c =
    let value = rw (c.deref.ensures.value, c.self.invariant, c.name_number.ensures) at c.contains.ensures.value in
    let none = lacks_name c.args.name.now c.self.inside.rules.items (sym value ∙ c.if-contains.false) in
    rw (c.if-contains.false, ← c.self.view_is) (sym none)
