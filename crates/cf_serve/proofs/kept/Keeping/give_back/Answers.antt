use Rattle.std.proofs.Common.{None, Some, ap, false, rules, subst, sym, ◌∙◌, ◌≡◌}
use Rattle.std.proofs.Common.{List}
use Rattle.std.specs.Prelude.{if◌then◌else◌}
use Rattle.cf_lane.specs.Over.{are_over}
use Rattle.cf_serve.specs.Lending.{Has, KeepsOthers, KeptValue, kept_at}
use Rattle.cf_serve.proofs.Keyed.{others_both, others_more, own_more}
use Rattle.cf_serve.proofs.kept.Keeping.give_back.Goals as goal

pub returns-then-not-are_over-clause-own : goal.returns-then-not-are_over-clause-own
returns-then-not-are_over-clause-own c =
    let entry : KeptValue = record { place = c.args.place; address = c.args.address; kept = Has c.args.rings } in
    let counts : are_over c.args.moment c.args.rings ≡ false = search rules in
    ap (λ (ks : List KeptValue). kept_at ks c.args.place c.args.address) c.add.ensures
    ∙ own_more c.take.new.self entry c.take.ensures.gone
    ∙ sym (ap (λ b. if b then None else Some (Has c.args.rings)) counts)

pub returns-then-not-are_over-clause-others : goal.returns-then-not-are_over-clause-others
returns-then-not-are_over-clause-others c =
    let entry : KeptValue = record { place = c.args.place; address = c.args.address; kept = Has c.args.rings } in
    others_both c.args.place c.args.address c.args.self.now c.take.new.self c.add.new.self c.take.ensures.others
    (subst (KeepsOthers c.args.place c.args.address c.take.new.self) (sym c.add.ensures) (others_more c.take.new.self entry))
