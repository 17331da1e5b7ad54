-- The second half of an event of a session, whatever side the packet came from and however the event ends.
use Rattle.std.proofs.Common.{◌≡◌, ℕ, inr, true, ◌&&◌, List, [], ◌∷◌, ◌++◌, Option, None, refl, sym, ap, ◌∙◌, subst}
use Rattle.std.proofs.lemmas.List.{append-nil}
use Rattle.std.specs.Option.{is_none}
use Rattle.cf_audit.specs.declared.CutReason.{CutReason}
use Rattle.cf_lane.specs.History.{ended_of, taken}
use Rattle.cf_lane.specs.Output.{other}
use Rattle.cf_leg.specs.Calls.{with_letters}
use Rattle.cf_leg.specs.Emits.{IsRight}
use Rattle.cf_leg.specs.Event.{Came, Ending, Greeting, LegEvent, Nothing, Packet, moment}
use Rattle.cf_leg.specs.Heard.{opening}
use Rattle.cf_packet.specs.Packet.{PacketValue}
use Rattle.cf_stream.specs.FirstCopy.{IsTaken, Offer, first_copy}
use Rattle.cf_stream.specs.Stream.{Stream, letter_count}
use Rattle.cf_view.specs.declared.Side.{Side}
use Rattle.cf_session.proofs.Fed.{nothing_fed, taken_more, taken_other}
use Rattle.cf_session.specs.Cuts.{packet_cut}
use Rattle.cf_session.specs.Event.{AreEvents, AreTaken, EndsPacket, IsEvent, IsPacket, IsTick, came_client, came_controller}
use Rattle.cf_session.specs.Session.{Flow, SessionEvent, client_ends, client_of, clients, controller_ends, controllers, has_room, history}
use Rattle.cf_session.specs.Turn.{heard_event}
use Rattle.cf_session.specs.Work.{Work, Works}

-- the history before the event is that after its first half
pub before_history : (es : List SessionEvent) (t : SessionEvent) → t.fed ≡ [] → history (t ∷ es) ≡ history es
before_history es t e = ap (λ x. history es ++ x) e ∙ append-nil (history es)

-- a beginning is no tick
pub not_first : (c : Came) (p : PacketValue) → c ≡ Nothing → c ≡ Greeting p → ⊥
not_first Nothing p a b = cc
not_first (Greeting q) p a b = cc
not_first (Packet q) p a b = cc

pub is_event : (f : Flow) (limit : ℕ) (es : List SessionEvent) (t : SessionEvent) (s : Side) (p : PacketValue) (e : SessionEvent) → AreEvents f limit (t ∷ es) → IsTick f es t.client.tick t → t.cut ≡ None → IsPacket f limit es t s p e → IsEvent f limit es e
is_event f limit [] t s p e are tick going h = absurd (not_first t.controller.came _ tick.controller_came (ap (λ (x : LegEvent). x.came) are.0.controller))
is_event f limit (e0 ∷ es) t s p e are tick going h = inr (t, s, p, tick, going, h)

module _ (f : Flow) (limit : ℕ) (es : List SessionEvent) (t : SessionEvent) (none : t.fed ≡ [])
    (s : Side) (p : PacketValue) (letters : Stream) (w : Work) (why : Option CutReason) (came_c came_d : Came) (ending_c ending_d : Ending) where
  -- the event, whatever side the packet came from and however it ends
  abbrev the_event : SessionEvent
  the_event = heard_event t s letters w why came_c came_d ending_c ending_d

  module _ (of_controller : came_c ≡ came_controller s p) (of_client : came_d ≡ came_client f s p (opening (controller_ends f).role (controllers es) the_event.controller && is_none why))
      (right_c : IsRight (controller_ends f) (controllers es) the_event.controller) (right_d : IsRight (client_ends f) (clients es) the_event.client)
      (are_taken : AreTaken f (the_event ∷ es))
      (unended : ended_of s (history es) ≡ true → letter_count letters ≡ 0)
      (works : Works f.site (client_of f) (history (the_event ∷ es)) w)
      (cut : why ≡ packet_cut f limit es the_event)
      (ends_c : EndsPacket why w.to_controller (has_room f (the_event ∷ es)) ending_c) (ends_d : EndsPacket why w.to_client (has_room f (the_event ∷ es)) ending_d) where
    pub heard_is_packet : IsPacket f limit es t s p the_event
    heard_is_packet = record {
      right = record { controller = right_c; client = right_d };
      controller_on = (refl, refl);
      client_on = (refl, refl);
      controller_came = of_controller;
      client_came = of_client;
      fed = (letters, refl);
      unended = λ e. nothing_fed (moment t.client) s letters (unended e);
      taken = are_taken;
      work = works;
      cut = cut;
      controller_ending = ends_c;
      client_ending = ends_d;
    }

  -- what is taken after it, by what the leg of the packet's side says; the other leg's offers are as before
  pub heard_taken : (own : Side → List Offer) → IsTaken (first_copy (own s)) (with_letters (taken s (history (t ∷ es))) letters) → IsTaken (first_copy (own (other s))) (taken (other s) (history (t ∷ es))) →
      IsTaken (first_copy (own s)) (taken s (history (the_event ∷ es))) × IsTaken (first_copy (own (other s))) (taken (other s) (history (the_event ∷ es)))
  heard_taken own a b =
      let now = moment t.client in (
        subst (IsTaken (first_copy (own s))) (ap (λ h. with_letters (taken s h) letters) (before_history es t none) ∙ sym (taken_more now s (history es) letters)) a,
        subst (IsTaken (first_copy (own (other s)))) (ap (taken (other s)) (before_history es t none) ∙ sym (taken_other now s (history es) letters)) b,
      )
