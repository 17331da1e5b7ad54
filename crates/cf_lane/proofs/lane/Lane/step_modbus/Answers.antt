use Rattle.std.proofs.Common.{List, ℕ, take, ◌*◌, ◌-◌, ◌≡◌, ◌∙◌, ap, length, refl, sym, subst, inl, arith}
use Rattle.std.specs.Prelude.{slice_range}
use Rattle.cf_modbus.specs.Adu.{adu_value, spelling}
use Rattle.cf_modbus.proofs.Framing.{own_octets}
use Rattle.cf_outq.specs.SendQueue.{Queue, after_push}
use Rattle.cf_lane.specs.Handled.{Grows, IsOpen}
use Rattle.cf_view.specs.declared.Side.{Side}
use Rattle.cf_lane.proofs.Logging.{logs_none}
use Rattle.cf_lane.proofs.Failing.{on_err, misses_unit}
use Rattle.cf_lane.proofs.Units.{adus, begins_same, step_breaks, step_waits}
use Rattle.cf_lane.proofs.Taking.{takes_of_client, takes_of_controller, grows_modbus, grows_more, grows_push, grows_same, room_less, adu_length, adu_least}
use Rattle.cf_lane.proofs.lane.Lane.step_modbus.Goals as goal

-- the octets up to a place
front_is : (xs : List ℕ) (n : ℕ) (whole : List ℕ) → take n xs ≡ whole → slice_range xs 0 n ≡ whole
front_is xs n whole e = (let all : n - 0 ≡ n = omega arith in ap (λ k. take k xs) all) ∙ e

pub take_command-requires-clause-client_room : goal.take_command-requires-clause-client_room
take_command-requires-clause-client_room g c =
    let b = begins_same c.all_of.ensures.bytes c.in-Unit.ensures.true_answer in
    room_less _ _ _ (omega (arith, adu_length _ _ _ b, adu_least _ _ _ b, b.inside)) c.requires.client_room

pub take_command-requires-clause-controller_room : goal.take_command-requires-clause-controller_room
take_command-requires-clause-controller_room g c =
    let b = begins_same c.all_of.ensures.bytes c.in-Unit.ensures.true_answer in
    room_less _ _ _ (omega (arith, adu_length _ _ _ b, b.inside)) c.requires.controller_room

pub push_octets-requires-clause-room : goal.push_octets-requires-clause-room
push_octets-requires-clause-room g c =
    let b = begins_same c.all_of.ensures.bytes c.in-Unit.ensures.true_answer in
    let size = ap length (c.sub.ensures.bytes ∙ front_is _ _ _ (own_octets (adu_value c.in-Unit.unit) c.args.bytes.now.bytes c.in-Unit.used (begins_same c.all_of.ensures.bytes c.in-Unit.ensures.true_answer))) in
    room_less _ _ _ (omega (arith, size, adu_length _ _ _ b, b.inside)) c.requires.client_room

pub returns-in-More-clause-steps : goal.returns-in-More-clause-steps
returns-in-More-clause-steps g c =
    (step_waits c.args.site.now (adus c.args.site.now.first.protocol c.requires.modbus) _ _ c.all_of.ensures.bytes c.in-More.ensures.true_answer, refl)

pub returns-in-Broken-clause-steps : goal.returns-in-Broken-clause-steps
returns-in-Broken-clause-steps g c =
    inl (
      step_breaks c.args.site.now (adus c.args.site.now.first.protocol c.requires.modbus) _ _ c.all_of.ensures.bytes c.args.side c.in-Broken.reason c.in-Broken.ensures.true_answer,
      refl,
    )

pub returns-in_ok-take_command-in-Client-clause-client_grows :
    goal.returns-in_ok-take_command-in-Client-clause-client_grows
returns-in_ok-take_command-in-Client-clause-client_grows g c =
    let b = begins_same c.all_of.ensures.bytes c.in-Unit.ensures.true_answer in
    grows_modbus c.args.site.now c.requires.modbus _ _ c.requires.of_site c.in_ok-take_command-in-Client.ensures.of_site _ _ _
    (grows_more _ _ _ _ _ _ (omega (arith, adu_least _ _ _ b)) c.in_ok-take_command-in-Client.ensures.client_grows)

pub returns-in_ok-take_command-in-Client-clause-controller_grows :
    goal.returns-in_ok-take_command-in-Client-clause-controller_grows
returns-in_ok-take_command-in-Client-clause-controller_grows g c =
    let b = begins_same c.all_of.ensures.bytes c.in-Unit.ensures.true_answer in
    grows_modbus c.args.site.now c.requires.modbus _ _ c.requires.of_site c.in_ok-take_command-in-Client.ensures.of_site _ _ _
    (grows_more _ _ _ _ _ _ (omega (arith, adu_length _ _ _ b)) c.in_ok-take_command-in-Client.ensures.controller_grows)

pub returns-in_ok-take_command-in-Client-clause-steps : goal.returns-in_ok-take_command-in-Client-clause-steps
returns-in_ok-take_command-in-Client-clause-steps g c =
    takes_of_client c.args.site.now c.requires.modbus c.args.moment c.args.bytes.now.bytes c.args.side c.in-Client.is (adu_value c.in-Unit.unit) c.in-Unit.used _ _
    (begins_same c.all_of.ensures.bytes c.in-Unit.ensures.true_answer)
    c.in_ok-take_command-in-Client.ensures.takes

pub returns-in-Controller-clause-steps : goal.returns-in-Controller-clause-steps
returns-in-Controller-clause-steps g c =
    takes_of_controller c.args.site.now c.requires.modbus c.args.moment c.args.bytes.now.bytes c.args.side c.in-Controller.is (adu_value c.in-Unit.unit) c.in-Unit.used _ _
    c.requires.«open» refl (c.push_octets.ensures.queue ∙ ap (after_push c.args.to_client.now) (c.sub.ensures.bytes ∙ front_is _ _ _ (own_octets (adu_value c.in-Unit.unit) c.args.bytes.now.bytes c.in-Unit.used (begins_same c.all_of.ensures.bytes c.in-Unit.ensures.true_answer)))) refl refl
    (begins_same c.all_of.ensures.bytes c.in-Unit.ensures.true_answer)

pub returns-in-Controller-clause-client_grows : goal.returns-in-Controller-clause-client_grows
returns-in-Controller-clause-client_grows g c =
    let b = begins_same c.all_of.ensures.bytes c.in-Unit.ensures.true_answer in
    grows_modbus c.args.site.now c.requires.modbus _ _ c.requires.of_site c.requires.of_site _ _ _
    (subst (λ (q : Queue). Grows (2 * c.in-Unit.used) 0 0 c.args.to_client.now q)
    (sym (c.push_octets.ensures.queue ∙ ap (after_push c.args.to_client.now) (c.sub.ensures.bytes ∙ front_is _ _ _ (own_octets (adu_value c.in-Unit.unit) c.args.bytes.now.bytes c.in-Unit.used (begins_same c.all_of.ensures.bytes c.in-Unit.ensures.true_answer)))))
    (grows_push (2 * c.in-Unit.used) c.args.to_client.now (spelling (adu_value c.in-Unit.unit)) (omega (arith, adu_length _ _ _ b))))

pub returns-in_err-take_command-in-Client-clause-misses : goal.returns-in_err-take_command-in-Client-clause-misses
returns-in_err-take_command-in-Client-clause-misses g c =
    on_err _ _ (misses_unit c.args.site.now c.requires.modbus c.args.moment c.args.side c.in-Client.is c.args.bytes.now.bytes (adu_value c.in-Unit.unit) c.in-Unit.used _ _ _
    (begins_same c.all_of.ensures.bytes c.in-Unit.ensures.true_answer)
    c.in_err-take_command-in-Client.ensures.misses)

pub returns-in_ok-take_command-in-Client-clause-counts : goal.returns-in_ok-take_command-in-Client-clause-counts
returns-in_ok-take_command-in-Client-clause-counts g c =
    let b = begins_same c.all_of.ensures.bytes c.in-Unit.ensures.true_answer in
    omega (arith, adu_least _ _ _ b, c.in_ok-take_command-in-Client.ensures.counts)

pub returns-in-More-clause-of_site : goal.returns-in-More-clause-of_site
returns-in-More-clause-of_site g c = c.requires.of_site

pub returns-in-More-clause-client_grows : goal.returns-in-More-clause-client_grows
returns-in-More-clause-client_grows g c = grows_same _ _ _

pub returns-in-More-clause-controller_grows : goal.returns-in-More-clause-controller_grows
returns-in-More-clause-controller_grows g c = grows_same _ _ _

pub returns-in-More-clause-counts : goal.returns-in-More-clause-counts
returns-in-More-clause-counts g c = omega arith

pub returns-in-More-clause-inside : goal.returns-in-More-clause-inside
returns-in-More-clause-inside g c = omega arith

pub returns-in-More-clause-desk : goal.returns-in-More-clause-desk
returns-in-More-clause-desk g c = logs_none _ c.requires.whole

pub returns-in-Broken-clause-of_site : goal.returns-in-Broken-clause-of_site
returns-in-Broken-clause-of_site g c = c.requires.of_site

pub returns-in-Broken-clause-client_grows : goal.returns-in-Broken-clause-client_grows
returns-in-Broken-clause-client_grows g c = grows_same _ _ _

pub returns-in-Broken-clause-controller_grows : goal.returns-in-Broken-clause-controller_grows
returns-in-Broken-clause-controller_grows g c = grows_same _ _ _

pub returns-in-Broken-clause-counts : goal.returns-in-Broken-clause-counts
returns-in-Broken-clause-counts g c = omega arith

pub returns-in-Broken-clause-inside : goal.returns-in-Broken-clause-inside
returns-in-Broken-clause-inside g c = omega arith

pub returns-in-Broken-clause-desk : goal.returns-in-Broken-clause-desk
returns-in-Broken-clause-desk g c = logs_none _ c.requires.whole

pub take_command-requires-clause-at_least : goal.take_command-requires-clause-at_least
take_command-requires-clause-at_least g c = (begins_same c.all_of.ensures.bytes c.in-Unit.ensures.true_answer).spells.at_least

pub take_command-requires-clause-at_most : goal.take_command-requires-clause-at_most
take_command-requires-clause-at_most g c = (begins_same c.all_of.ensures.bytes c.in-Unit.ensures.true_answer).spells.at_most

pub take_command-requires-clause-octets : goal.take_command-requires-clause-octets
take_command-requires-clause-octets g c = c.sub-octets.ensures.bytes ∙ front_is _ _ _ (own_octets (adu_value c.in-Unit.unit) c.args.bytes.now.bytes c.in-Unit.used (begins_same c.all_of.ensures.bytes c.in-Unit.ensures.true_answer))

pub take_command-requires-clause-open : goal.take_command-requires-clause-open
take_command-requires-clause-open g c = subst (λ (s : Side). IsOpen s c.args.to_client.now c.args.to_controller.now) c.in-Client.is c.requires.«open»

pub take_command-requires-clause-counts : goal.take_command-requires-clause-counts
take_command-requires-clause-counts g c = omega (arith, c.requires.counts, adu_least _ _ _ (begins_same c.all_of.ensures.bytes c.in-Unit.ensures.true_answer), (begins_same c.all_of.ensures.bytes c.in-Unit.ensures.true_answer).inside)

pub push_octets-requires-clause-open : goal.push_octets-requires-clause-open
push_octets-requires-clause-open g c = subst (λ (s : Side). IsOpen s c.args.to_client.now c.args.to_controller.now) c.in-Controller.is c.requires.«open»

pub returns-in_ok-take_command-in-Client-clause-of_site : goal.returns-in_ok-take_command-in-Client-clause-of_site
returns-in_ok-take_command-in-Client-clause-of_site g c = c.in_ok-take_command-in-Client.ensures.of_site

pub returns-in_ok-take_command-in-Client-clause-inside : goal.returns-in_ok-take_command-in-Client-clause-inside
returns-in_ok-take_command-in-Client-clause-inside g c = (begins_same c.all_of.ensures.bytes c.in-Unit.ensures.true_answer).inside

pub returns-in_ok-take_command-in-Client-clause-desk : goal.returns-in_ok-take_command-in-Client-clause-desk
returns-in_ok-take_command-in-Client-clause-desk g c = c.in_ok-take_command-in-Client.ensures.desk

pub returns-in-Controller-clause-of_site : goal.returns-in-Controller-clause-of_site
returns-in-Controller-clause-of_site g c = c.requires.of_site

pub returns-in-Controller-clause-controller_grows : goal.returns-in-Controller-clause-controller_grows
returns-in-Controller-clause-controller_grows g c = grows_same _ _ _

pub returns-in-Controller-clause-counts : goal.returns-in-Controller-clause-counts
returns-in-Controller-clause-counts g c = omega arith

pub returns-in-Controller-clause-inside : goal.returns-in-Controller-clause-inside
returns-in-Controller-clause-inside g c = (begins_same c.all_of.ensures.bytes c.in-Unit.ensures.true_answer).inside

pub returns-in-Controller-clause-desk : goal.returns-in-Controller-clause-desk
returns-in-Controller-clause-desk g c = logs_none _ c.requires.whole
