-- A session heard a packet of a side.
use Rattle.std.proofs.Common.{◌≡◌, ℕ, List, ◌∷◌, ◌++◌, Option, None, sym, ap, ◌∙◌, subst}
use Rattle.cf_audit.specs.declared.CutReason.{CutReason}
use Rattle.cf_lane.specs.Follows.{Rests, with_rest}
use Rattle.cf_lane.specs.History.{ended_of, taken}
use Rattle.cf_driver.specs.Takes.{OnlyPushed}
use Rattle.cf_leg.specs.Calls.{with_letters}
use Rattle.cf_leg.specs.Event.{Came, Ending, LegEvent, Nothing, Packet, Unspoken, moment}
use Rattle.cf_leg.specs.Heard.{offers}
use Rattle.cf_leg.specs.LegValue.{LegValue}
use Rattle.cf_leg.specs.declared.Ends.{Ends}
use Rattle.cf_leg.specs.declared.LegAnswer.{LegAnswer}
use Rattle.cf_outq.specs.SendQueue.{Queue}
use Rattle.cf_packet.specs.Packet.{PacketValue}
use Rattle.cf_policy.specs.Site.{SiteValue}
use Rattle.cf_stream.specs.FirstCopy.{IsTaken, Offer, first_copy}
use Rattle.cf_stream.specs.Stream.{Stream}
use Rattle.cf_view.specs.declared.Side.{Side}
use Rattle.cf_view.specs.declared.Side.TheVariants as side
use Rattle.cf_session.proofs.Events.{before_history, heard_taken}
use Rattle.cf_session.proofs.Hearings.{stands_pushed}
use Rattle.cf_session.specs.Event.{AreTaken}
use Rattle.cf_session.specs.Parts.{AreParts, IsLaneAfter, IsLegBetween, SessionValue, rests}
use Rattle.cf_session.specs.Session.{Flow, SessionEvent, client_ends, client_of, clients, controller_ends, controllers, history}
use Rattle.cf_session.specs.Told.{Told}
use Rattle.cf_session.specs.Turn.{AreUncut, HeardBy, Hearing, IsHalf, ends_of, heard_half, leg_in, legs_of}
use Rattle.cf_session.specs.Work.{Work}

-- the event with nothing come and nothing said is as it was
idle_is : (d : LegEvent) → d.came ≡ Nothing → d.ending ≡ Unspoken → record d { came = Nothing; ending = Unspoken } ≡ d
idle_is d a b =
    ap (λ (x : Came). let r : LegEvent = record d { came = x; ending = Unspoken } in r) (sym a)
    ∙ ap (λ (x : Ending). let r : LegEvent = record d { ending = x } in r) (sym b)

pub idle_leg : (ends : Ends) (leg : LegValue) (q : Queue) (d : LegEvent) (es : List LegEvent) → d.came ≡ Nothing → d.ending ≡ Unspoken → IsLegBetween ends leg q (d ∷ es) → IsLegBetween ends leg q (record d { came = Nothing; ending = Unspoken } ∷ es)
idle_leg ends leg q d es a b h = subst (λ x. IsLegBetween ends leg q (x ∷ es)) (sym (idle_is d a b)) h

-- nothing that came offers nothing
pub idle_taken : (ends : Ends) (d : LegEvent) (es : List LegEvent) (t : _) → d.came ≡ Nothing → IsTaken (first_copy (offers ends.role (d ∷ es))) t → IsTaken (first_copy (offers ends.role es)) t
idle_taken ends d es t a h = subst (λ (x : Came). IsTaken (first_copy (offers ends.role (record d { came = x } ∷ es))) t) a h

pub are_uncut : {f : Flow} {es : List SessionEvent} {t : SessionEvent} {s : SessionValue} {site : SiteValue} → IsHalf t → AreParts f es t s → f.site ≡ site → AreUncut site (client_of f) (rests s) (history (t ∷ es)) t.work s.lane s.to_client s.to_controller
are_uncut {f} {es} {t} {s} half parts is = record {
  lane_stands = subst (λ (a : SiteValue). IsLaneAfter a (client_of f) s.lane (rests s) (history (t ∷ es)) t.work) is parts.lane;
  uncut = half.uncut;
  client_stands = parts.to_client;
  controller_stands = parts.to_controller;
}

-- the other leg, of which only the queue has changed
other_leg : (ends : Ends) (old new : LegValue) (q q' : Queue) (d : LegEvent) (es : List LegEvent) → d.came ≡ Nothing → d.ending ≡ Unspoken → new ≡ old → OnlyPushed q q' → IsLegBetween ends old q (d ∷ es) →
    IsLegBetween ends new q' (record d { came = Nothing; ending = Unspoken } ∷ es)
other_leg ends old new q q' d es a b same pushed h =
    subst (λ l. IsLegBetween ends l q' (record d { came = Nothing; ending = Unspoken } ∷ es)) (sym same) (stands_pushed ends old q q' _ (idle_leg ends old q d es a b h) pushed)

-- the offers of each leg
abbrev own_offers : Flow → List SessionEvent → Side → List Offer
own_offers f events side.Client = offers (client_ends f).role (clients events)
own_offers f events side.Controller = offers (controller_ends f).role (controllers events)

module _ (f : Flow) (es : List SessionEvent) (t : SessionEvent) (half : IsHalf t) (p : PacketValue) (old : SessionValue) (parts : AreParts f es t old) where
  -- what is taken of both sides, once letters of one are
  pub both_taken : (s : Side) (letters : Stream) (w : Work) →
      IsTaken (first_copy (offers (ends_of f s).role (record (leg_in s t) { came = Packet p; ending = Unspoken } ∷ legs_of s es))) (with_letters (taken s (history (t ∷ es))) letters) → AreTaken f (heard_half t s p letters w ∷ es)
  both_taken side.Client letters w own =
      let e = heard_half t side.Client p letters w in
      let b = heard_taken f 0 es t half.fed side.Client p letters w None e.controller.came e.client.came Unspoken Unspoken (own_offers f (e ∷ es)) own
      (idle_taken (controller_ends f) t.controller (controllers es) _ half.controller_came parts.taken.controller) in
      record { client = b.0; controller = b.1 }
  both_taken side.Controller letters w own =
      let e = heard_half t side.Controller p letters w in
      let b = heard_taken f 0 es t half.fed side.Controller p letters w None e.controller.came e.client.came Unspoken Unspoken (own_offers f (e ∷ es)) own
      (idle_taken (client_ends f) t.client (clients es) _ half.client_came parts.taken.client) in
      record { client = b.1; controller = b.0 }

  module _ (new : SessionValue) (answer : LegAnswer) (cut : Option CutReason) (t0 t1 : Told) (site : SiteValue) (is : f.site ≡ site) (time : ℕ) (at : moment t.client ≡ time) where
    abbrev Hears : Side → LegValue → SiteValue → ℕ → Type 0
    Hears s leg a n = Hearing s (ends_of f s) a (client_of f) n (leg_in s t) (legs_of s es) p (rests old) (history (t ∷ es)) t.work leg new.lane new.to_client new.to_controller answer cut t0 t1

    heard_by : (s : Side) (leg : LegValue) (h : Hears s leg f.site (moment t.client)) → with_rest s (rests old) leg.window.pending ≡ rests new →
        IsLegBetween (client_ends f) new.client new.to_client ((heard_half t s p h.letters h.follows.work).client ∷ clients es) →
        IsLegBetween (controller_ends f) new.controller new.to_controller ((heard_half t s p h.letters h.follows.work).controller ∷ controllers es) → HeardBy f es t s p new answer cut t0 t1
    heard_by s leg h rest client controller =
        let w = h.follows in
        let e = heard_half t s p h.letters w.work in
        record {
          letters = h.letters;
          work = w.work;
          parts = record {
            client = client;
            controller = controller;
            lane = subst (λ r. IsLaneAfter f.site (client_of f) new.lane r (history (e ∷ es)) w.work) rest
                (subst (λ h. IsLaneAfter f.site (client_of f) new.lane (with_rest s (rests old) leg.window.pending) (h ++ e.fed) w.work) (before_history es t half.fed) w.lane_stands);
            to_client = w.client_stands;
            to_controller = w.controller_stands;
            taken = both_taken s h.letters w.work h.taken_is;
          };
          answer_is = h.answer_is;
          unended = λ n. h.unended (ap (ended_of s) (before_history es t half.fed) ∙ n);
          cut_is = w.cut_is;
          lines = w.lines;
          log_is = w.log_is;
          told = w.told;
        }

    as_flow : (s : Side) (leg : LegValue) → Hears s leg site time → Hears s leg f.site (moment t.client)
    as_flow s leg h = subst (Hears s leg f.site) (sym at) (subst (λ a. Hears s leg a time) (sym is) h)

    pub client_at : Hears side.Client new.client site time → new.controller ≡ old.controller → OnlyPushed old.to_controller new.to_controller → HeardBy f es t side.Client p new answer cut t0 t1
    client_at h same pushed =
        let own = as_flow side.Client new.client h in
        heard_by side.Client new.client own (ap (λ (l : LegValue). let r : Rests = record { client = new.client.window.pending; controller = l.window.pending } in r) (sym same)) own.leg_stands
        (other_leg (controller_ends f) old.controller new.controller old.to_controller new.to_controller t.controller (controllers es) half.controller_came half.controller_ending same pushed parts.controller)

    pub controller_at : Hears side.Controller new.controller site time → new.client ≡ old.client → OnlyPushed old.to_client new.to_client → HeardBy f es t side.Controller p new answer cut t0 t1
    controller_at h same pushed =
        let own = as_flow side.Controller new.controller h in
        heard_by side.Controller new.controller own (ap (λ (l : LegValue). let r : Rests = record { client = l.window.pending; controller = new.controller.window.pending } in r) (sym same))
        (other_leg (client_ends f) old.client new.client old.to_client new.to_client t.client (clients es) half.client_came half.client_ending same pushed parts.client) own.leg_stands
