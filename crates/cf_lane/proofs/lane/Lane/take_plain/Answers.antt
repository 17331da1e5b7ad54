use Rattle.std.proofs.Common.{arith, refl, sym, ap, ◌∙◌, subst}
use Rattle.cf_modbus.specs.Adu.{adu_value}
use Rattle.cf_outq.specs.SendQueue.{after_push}
use Rattle.cf_outside.specs.Desk.{DeskValue}
use Rattle.cf_lane.specs.Acts.{nothing_shown}
use Rattle.cf_lane.specs.Plain.{HasPlainDecider, IsPlainFate}
use Rattle.cf_lane.specs.Rings.{says_by}
use Rattle.cf_lane.specs.Handled.{LaneValue}
use Rattle.cf_policy.specs.Site.{asset_of}
use Rattle.cf_lane.specs.declared.fate.Fate.TheVariants as fate
use Rattle.cf_lane.proofs.Handling.{with_lines-nothing}
use Rattle.cf_lane.proofs.Saying.{all_idle}
use Rattle.cf_lane.proofs.Taking.{room_less, takes_admitted}
use Rattle.cf_lane.proofs.lane.Lane.take_plain.Goals as goal

pub returns-in-Admitted-clause-takes : goal.returns-in-Admitted-clause-takes
returns-in-Admitted-clause-takes g c =
    let site = c.args.site.now in
    let place = c.args.place in
    let own = c.requires.known.0 in
    let at = c.requires.known.1 in
    let a = adu_value c.args.adu.now in
    let moment = c.args.moment in
    let has = subst (IsPlainFate (asset_of site place) (says_by (asset_of site place) c.args.self.now.client.address own moment) a) c.in-Admitted.is c.requires.known.3 in
    takes_admitted site place moment a c.requires.place _ _ (ap (λ (l : LaneValue). l.client) c.admit_plain.ensures)
    (ap (λ (l : LaneValue). l.wire) c.admit_plain.ensures) own at (c.requires.of_site.rules.each place own at) nothing_shown c.requires.«open» has
    (all_idle place (fate.Admitted nothing_shown) moment c.args.self.now.rules c.admit_plain.new.self.rules own at c.requires.known.2 (ap (λ (l : LaneValue). l.rules) c.admit_plain.ensures))
    (ap (λ (l : LaneValue). l.admitted) c.admit_plain.ensures) (ap (λ (l : LaneValue). l.refused) c.admit_plain.ensures)
    refl (c.push_octets.ensures.queue ∙ ap (after_push c.args.to_controller.now) c.requires.octets)
    (sym (with_lines-nothing (DeskValue.lines (g.D.Desk.value c.args.desk.now))))

pub answer-requires-clause-refused : goal.answer-requires-clause-refused
answer-requires-clause-refused g c =
    let site = c.args.site.now in
    let place = c.args.place in
    let own = c.requires.known.0 in
    (own, c.requires.known.1, subst (IsPlainFate (asset_of site place) (says_by (asset_of site place) c.args.self.now.client.address own c.args.moment) (adu_value c.args.adu.now)) c.in-Refused.is c.requires.known.3)

pub answer-requires-clause-decider : goal.answer-requires-clause-decider
answer-requires-clause-decider g c = subst (HasPlainDecider (asset_of c.args.site.now c.args.place).rules) c.in-Refused.is c.requires.decider

pub answer-requires-clause-client_room : goal.answer-requires-clause-client_room
answer-requires-clause-client_room g c = room_less _ _ _ (omega arith) c.requires.client_room
