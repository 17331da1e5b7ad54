use Rattle.std.proofs.Common.{List, None, [], ap, arith, length, rules, subst, sym, ◌++◌, ◌∷◌, ◌≡◌}
use Rattle.std.proofs.lemmas.List.{length-append}
use Rattle.cf_serve.specs.Keeping.{AreSingle}
use Rattle.cf_serve.specs.Lending.{KeptValue, kept_at}
use Rattle.cf_serve.proofs.Keyed.{single_more}
use Rattle.cf_serve.proofs.kept.Keeping.add.Goals as goal

pub invariant_of-self : goal.invariant_of-self
invariant_of-self c =
    let items = c.self.inside.kept.items in
    let more : c.push.new.self.items ≡ items ++ c.args.entry ∷ [] = search rules in
    let free = subst (λ (ks : List KeptValue). kept_at ks c.args.entry.place c.args.entry.address ≡ None) (sym c.self.view_is) c.requires.free in (
      subst AreSingle (sym more) (single_more items c.args.entry c.self.invariant.0 free),
      omega (arith, ap length more, length-append items (c.args.entry ∷ []), ap length c.self.view_is, c.requires.room),
      omega (arith, c.self.invariant.2, c.push.ensures.capacity),
    )
