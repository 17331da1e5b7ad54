use Rattle.std.proofs.Common.{◌∙◌, ap, subst, ℕ, List}
use Rattle.cf_outside.specs.Desk.{Adds, SentValue, with_item}
use Rattle.cf_outside.specs.declared.files.WriteAnswer.TheVariants as write
use Rattle.cf_leg.specs.Emitted.{spelled}
use Rattle.cf_leg.proofs.Broken.{broken_one}
use Rattle.cf_leg.proofs.send.emit.Goals as goal

pub returns-in-Done-clause-gets : goal.returns-in-Done-clause-gets
unfolding spelled
returns-in-Done-clause-gets g c = λ p is.
    c.in-Done.ensures.packets
    ∙ ap (λ (octets : List ℕ). with_item {A = SentValue} (record { moment = c.args.moment; bytes = octets }) (g.D.Desk.value c.args.desk.now).packets) is

pub returns-in-Failed-clause-gets : goal.returns-in-Failed-clause-gets
unfolding spelled
returns-in-Failed-clause-gets g c = λ p is.
    broken_one c.args.moment _ (g.D.Desk.value c.args.desk.now) (g.D.Desk.value c.emit.new.self)
    (subst (λ (octets : List ℕ). Adds {A = SentValue} (record { moment = c.args.moment; bytes = octets }) ((g.D.Desk.value c.args.desk.now).octets (record { moment = c.args.moment; bytes = octets })) (g.D.Desk.value c.args.desk.now).packets (g.D.Desk.value c.emit.new.self).packets (g.D.Desk.value c.emit.new.self).packet_part write.Failed)
    is c.in-Failed.ensures.packets)
