-- What was sent to a side and told it, in a session in memory.
use Rattle.std.proofs.Common.{◌≡◌, ℕ, Bool, true, false, List, ◌∷◌, cond, Option, Some, None, refl, ap, ◌∙◌}
use Rattle.cf_leg.specs.Calls.{origin_as}
use Rattle.cf_leg.specs.Heard.{opened}
use Rattle.cf_leg.specs.LegValue.{is_open, phase_of}
use Rattle.cf_leg.specs.Told.{is_greeted, letters_sent, peer_number, told}
use Rattle.cf_leg.specs.declared.ends.Ends.{Ends}
use Rattle.cf_packet.specs.Packet.{PacketValue}
use Rattle.cf_view.specs.declared.Side.TheVariants as side
use Rattle.cf_session.specs.Misfit.{controller_number, misfit_by, misfit_of, reach_by}
use Rattle.cf_session.specs.Parts.{SessionValue}
use Rattle.cf_session.specs.Session.{Flow, SessionEvent, client_ends, clients, controller_ends, controllers}
use Rattle.cf_session.specs.Stands.{IsSessionOf}

open_by : (o g : Bool) → is_open (phase_of o g) ≡ o
open_by true g = refl
open_by false true = refl
open_by false false = refl

module _ (flow : Flow) (earlier : List SessionEvent) (event : SessionEvent) (s : SessionValue) (stands : IsSessionOf flow earlier event s) where
  abbrev events : List SessionEvent
  events = event ∷ earlier

  -- the number of the client's SYN
  pub client_is : origin_as s.client.ends.role s.client.phase s.client.other ≡ Some flow.syn.seq
  client_is =
      ap (λ (e : Ends). origin_as e.role s.client.phase s.client.other) stands.parts.client.is
      ∙ ap Some (stands.parts.client.stands.of_other ∙ ap (λ (e : Ends). peer_number e.role (clients events)) stands.parts.client.is)

  is_opened : is_open s.controller.phase ≡ opened (controller_ends flow).role (controllers events)
  is_opened =
      ap is_open stands.parts.controller.stands.of_phase ∙ open_by (opened s.controller.ends.role (controllers events)) (is_greeted (controllers events))
      ∙ ap (λ (e : Ends). opened e.role (controllers events)) stands.parts.controller.is

  other_is : s.controller.other ≡ peer_number (controller_ends flow).role (controllers events)
  other_is = stands.parts.controller.stands.of_other ∙ ap (λ (e : Ends). peer_number e.role (controllers events)) stands.parts.controller.is

  -- that of the controller's, once it has answered
  pub controller_is : origin_as s.controller.ends.role s.controller.phase s.controller.other ≡ controller_number flow events
  controller_is =
      ap (λ (e : Ends). origin_as e.role s.controller.phase s.controller.other) stands.parts.controller.is
      ∙ ap (λ b. cond b (Some s.controller.other) None) is_opened
      ∙ ap (λ n. cond (opened (controller_ends flow).role (controllers events)) (Some n) None) other_is

  sent_to_client : s.to_client.sent ≡ letters_sent (client_ends flow).role (clients events)
  sent_to_client = stands.parts.client.stands.of_sent ∙ ap (λ (e : Ends). letters_sent e.role (clients events)) stands.parts.client.is

  told_to_client : s.client.window.edge ≡ (told (client_ends flow).role (clients events)).edge
  told_to_client = stands.parts.client.stands.of_edge ∙ ap (λ (e : Ends). (told e.role (clients events)).edge) stands.parts.client.is

  sent_to_controller : s.to_controller.sent ≡ letters_sent (controller_ends flow).role (controllers events)
  sent_to_controller = stands.parts.controller.stands.of_sent ∙ ap (λ (e : Ends). letters_sent e.role (controllers events)) stands.parts.controller.is

  told_to_controller : s.controller.window.edge ≡ (told (controller_ends flow).role (controllers events)).edge
  told_to_controller = stands.parts.controller.stands.of_edge ∙ ap (λ (e : Ends). (told e.role (controllers events)).edge) stands.parts.controller.is

  module _ (client : ℕ) (controller : Option ℕ) (p : PacketValue) (is_client : client ≡ flow.syn.seq) (is_controller : controller ≡ controller_number flow events) where
    pub from_client : misfit_by (reach_by side.Client client controller s.to_client.sent s.client.window.edge) p ≡ misfit_of flow events side.Client p
    from_client = rw (is_client, is_controller, sent_to_client, told_to_client) refl

    pub from_controller : misfit_by (reach_by side.Controller client controller s.to_controller.sent s.controller.window.edge) p ≡ misfit_of flow events side.Controller p
    from_controller = rw (is_client, is_controller, sent_to_controller, told_to_controller) refl
