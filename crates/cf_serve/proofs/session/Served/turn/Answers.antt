use Rattle.std.proofs.Common.{ap, refl}
use Rattle.std.specs.Prelude.{option_map}
use Rattle.cf_links.specs.LinkValue.{told_of}
use Rattle.cf_serve.proofs.Missing.{turn_missed}
use Rattle.cf_serve.proofs.Reaching.{begun_turn, ended_turn}
use Rattle.cf_serve.proofs.Stepping.{on_err}
use Rattle.cf_serve.specs.Phase.{linked_value, listening_of, rings_for}
use Rattle.cf_serve.proofs.session.Served.turn.Goals as goal

pub returns-in-Ended-clause-does : goal.returns-in-Ended-clause-does
returns-in-Ended-clause-does g c =
    ended_turn (listening_of c.args.terms.now) c.args.terms.now.most c.args.self.now.client c.args.self.now.number (g.L.Links.told c.args.links.now)
    (told_of g.L.Links c.args.self.now.number c.reach.new.links) (g.D.Desk.value c.args.desk.now).lines (g.D.Desk.value c.reach.new.desk).lines
    (rings_for c.args.terms.now.site.now c.args.keeping.now c.args.terms.now.place c.args.self.now.client.address)
    (option_map linked_value c.args.self.now.linked) c.in_ok-reach-in-None.field-0 c.in-Ended.end (ap (option_map linked_value) c.in-None.is) c.in-Ended.is
    c.in_ok-reach-in-None.ensures.does

pub returns-in_err-reach-in-None-clause-breaks : goal.returns-in_err-reach-in-None-clause-breaks
returns-in_err-reach-in-None-clause-breaks g c = on_err c.from_residual.result _
    (turn_missed (listening_of c.args.terms.now) c.args.terms.now.most c.args.self.now.client c.args.self.now.number (g.L.Links.told c.args.links.now)
    (told_of g.L.Links c.args.self.now.number c.reach.new.links) (g.D.Desk.value c.args.desk.now).lines (g.D.Desk.value c.reach.new.desk).lines
    (g.D.Desk.value c.reach.new.desk).line_part (option_map linked_value c.args.self.now.linked) (ap (option_map linked_value) c.in-None.is)
    c.in_err-reach-in-None.ensures.breaks)

pub returns-in-Begun-clause-does : goal.returns-in-Begun-clause-does
returns-in-Begun-clause-does g c =
    begun_turn (listening_of c.args.terms.now) c.args.terms.now.most c.args.self.now.client c.args.self.now.number (g.L.Links.told c.args.links.now)
    (told_of g.L.Links c.args.self.now.number c.reach.new.links) (g.D.Desk.value c.args.desk.now).lines (g.D.Desk.value c.reach.new.desk).lines
    (rings_for c.args.terms.now.site.now c.args.keeping.now c.args.terms.now.place c.args.self.now.client.address)
    (option_map linked_value c.args.self.now.linked) _ c.in_ok-reach-in-None.field-0 c.in-Begun.linked (ap (option_map linked_value) c.in-None.is) c.in-Begun.is refl
    c.in_ok-reach-in-None.ensures.does
