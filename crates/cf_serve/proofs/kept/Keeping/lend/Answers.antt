use Rattle.std.proofs.Common.{List, ap, subst, sym, ◌∙◌}
use Rattle.cf_serve.specs.Lending.{KeepsOthers, KeptValue, Lent, kept_at}
use Rattle.cf_serve.proofs.Keyed.{others_both, others_more, own_more}
use Rattle.cf_serve.proofs.kept.Keeping.lend.Goals as goal

pub returns-clause-lent : goal.returns-clause-lent
returns-clause-lent c =
    let entry : KeptValue = record { place = c.args.place; address = c.args.address; kept = Lent c.args.session } in
    ap (λ (ks : List KeptValue). kept_at ks c.args.place c.args.address) c.add.ensures ∙ own_more c.take-held.new.self entry c.take-held.ensures.gone

pub returns-clause-others : goal.returns-clause-others
returns-clause-others c =
    let entry : KeptValue = record { place = c.args.place; address = c.args.address; kept = Lent c.args.session } in
    others_both c.args.place c.args.address c.args.self.now c.take-held.new.self c.add.new.self c.take-held.ensures.others
    (subst (KeepsOthers c.args.place c.args.address c.take-held.new.self) (sym c.add.ensures) (others_more c.take-held.new.self entry))
