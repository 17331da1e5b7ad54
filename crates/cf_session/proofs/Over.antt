-- A session whose events did not cut it, between two of them, read from its events alone.
use Rattle.std.proofs.Common.{◌≡◌, ℕ, ◌^◌, ◌≤◌, min, ◌&&◌, ◌||◌, Bool, true, inl, inr, List, [], ◌∷◌, ◌++◌, map, Option, Some, None, refl, sym, ap, ◌∙◌}
use Rattle.std.proofs.lemmas.Bool.{false≢true}
use Rattle.std.proofs.lemmas.List.{append-nil}
use Rattle.cf_audit.specs.declared.CutReason.{CutReason}
use Rattle.cf_lane.specs.Laws.{QuietBehindEnd, StreamsGoOn}
use Rattle.cf_leg.specs.Event.{Came, Ending, LegEvent, Nothing, is_idle, is_settled, is_spoken, is_unspoken, stream_after, stream_at}
use Rattle.cf_leg.specs.Heard.{end_state, offers, offers_by, opened, shown}
use Rattle.cf_leg.specs.OneStream.{IsRightRun}
use Rattle.cf_leg.specs.Told.{letters_sent}
use Rattle.cf_leg.specs.declared.Ends.{Ends}
use Rattle.cf_leg.specs.declared.Role.{Role}
use Rattle.cf_stream.specs.Stream.{Stream, letter_count, no_letters}
use Rattle.cf_view.specs.declared.Side.{Side}
use Rattle.cf_view.specs.declared.Side.TheVariants as side
use Rattle.cf_session.specs.Event.{AreEvents, AreTaken, EndsPacket, EndsTick, IsBrokenOff, IsEvent}
use Rattle.cf_session.specs.Laws.{AreUncut, FirstCopiesAreTaken, IsSentUpTo}
use Rattle.cf_session.specs.Session.{Flow, SessionEvent, client_ends, clients, controller_ends, controllers, history}
use Rattle.cf_session.specs.Stands.{AreOver}
use Rattle.cf_session.proofs.Beginning.{none_taken}
use Rattle.cf_session.proofs.Fixed.{WorkIsOne, event_right}
use Rattle.cf_session.proofs.OneStream.{stream_of, tick_still}
use Rattle.cf_session.proofs.Short.{leg_run}
use Rattle.cf_session.specs.Turn.{ends_of, leg_in}

-- ---- one leg

abbrev settled_by : Ending → Came → Bool
settled_by ending came = is_spoken ending || (is_unspoken ending && is_idle came)

tick_over : (c : Option CutReason) (e : LegEvent) → c ≡ None → e.came ≡ Nothing → EndsTick c e.ending → settled_by e.ending e.came ≡ true
tick_over None e none came ends = rw (ends, came) refl
tick_over (Some r) e none came ends = cc none

packet_over : (c : Option CutReason) (e : LegEvent) (stream before : Stream) (roomy : Bool) → c ≡ None → EndsPacket c stream roomy e.ending →
    (settled_by e.ending e.came ≡ true) × (stream_at e.ending before ≡ stream)
packet_over None e stream before roomy none ends = (ap (λ x. settled_by x e.came) ends.1, ap (λ x. stream_at x before) ends.1)
packet_over (Some r) e stream before roomy none ends = cc none

-- ---- a cut is the last event

broken_unsettled : (e : LegEvent) → IsBrokenOff e.ending → settled_by e.ending e.came ≡ true → ⊥
broken_unsettled e h s = false≢true (sym (ap (λ x. settled_by x e.came) h.1) ∙ s)

ends_tick : (c : Option CutReason) (e : LegEvent) → EndsTick c e.ending → settled_by e.ending e.came ≡ true → c ≡ None
ends_tick None e h s = refl
ends_tick (Some r) e h s = absurd (broken_unsettled e h s)

ends_packet : (c : Option CutReason) (e : LegEvent) (stream : Stream) (roomy : Bool) → EndsPacket c stream roomy e.ending → settled_by e.ending e.came ≡ true → c ≡ None
ends_packet None e stream roomy h s = refl
ends_packet (Some r) e stream roomy h s = absurd (broken_unsettled e h s)

uncut_one : (f : Flow) (limit : ℕ) (es : List SessionEvent) (e : SessionEvent) → IsEvent f limit es e → settled_by e.controller.ending e.controller.came ≡ true → e.cut ≡ None
uncut_one f limit [] e h s = h.cut
uncut_one f limit (d ∷ es) e (inl h) s = ends_tick e.cut e.controller h.controller_ending s
uncut_one f limit (d ∷ es) e (inr h) s = ends_packet e.cut e.controller e.work.to_controller _ h.5.controller_ending s

uncut_before : (f : Flow) (limit : ℕ) (es : List SessionEvent) (e : SessionEvent) → AreEvents f limit (e ∷ es) → AreUncut es
uncut_before f limit [] e are = tt
uncut_before f limit (d ∷ es) e are =
    (uncut_one f limit es d are.1.0 (event_right f limit (d ∷ es) e are.0).controller.over, uncut_before f limit es d are.1)

-- ---- both

over_all : (f : Flow) (limit : ℕ) (es : List SessionEvent) (e : SessionEvent) → AreEvents f limit (e ∷ es) → AreUncut (e ∷ es) → AreOver es e
over_all f limit [] e are uncut =
    let h = are.0 in
    record {
      client = ap (λ (x : LegEvent). settled_by x.ending x.came) h.client;
      controller = ap (λ (x : LegEvent). settled_by x.ending x.came) h.controller;
      to_client = ap (λ (x : LegEvent). stream_at x.ending no_letters) h.client ∙ ap (λ w. w.to_client) (sym h.work);
      to_controller = ap (λ (x : LegEvent). stream_at x.ending no_letters) h.controller ∙ ap (λ w. w.to_controller) (sym h.work);
    }
over_all f limit (d ∷ es) e are uncut =
    let before = over_all f limit es d are.1 uncut.1 in
    elim are.0 [
      | inl h ↦ record {
        client = tick_over e.cut e.client uncut.0 h.client_came h.client_ending;
        controller = tick_over e.cut e.controller uncut.0 h.controller_came h.controller_ending;
        to_client = tick_still (stream_after (clients (d ∷ es))) e.cut e.client.ending h.client_ending ∙ before.to_client ∙ ap (λ w. w.to_client) (sym h.work);
        to_controller = tick_still (stream_after (controllers (d ∷ es))) e.cut e.controller.ending h.controller_ending ∙ before.to_controller ∙ ap (λ w. w.to_controller) (sym h.work);
      }
      | inr p ↦ (let client = packet_over e.cut e.client e.work.to_client (stream_after (clients (d ∷ es))) _ uncut.0 p.5.client_ending in
          let controller = packet_over e.cut e.controller e.work.to_controller (stream_after (controllers (d ∷ es))) _ uncut.0 p.5.controller_ending in
          record { client = client.0; controller = controller.0; to_client = client.1; to_controller = controller.1 })
    ]

pub are_over : (f : Flow) (limit : ℕ) (es : List SessionEvent) (e : SessionEvent) → AreEvents f limit (e ∷ es) → e.cut ≡ None → AreOver es e
are_over f limit es e are none = over_all f limit es e are (none, uncut_before f limit es e are)

over_leg : {es : List SessionEvent} {e : SessionEvent} (s : Side) → AreOver es e → (is_settled (map (leg_in s) (e ∷ es)) ≡ true) × (stream_after (map (leg_in s) (e ∷ es)) ≡ stream_of s e.work)
over_leg side.Client o = (o.client, o.to_client)
over_leg side.Controller o = (o.controller, o.to_controller)

-- ---- what was taken

still_offered : (r : Role) (es : List LegEvent) (e : LegEvent) → e.came ≡ Nothing → offers r (e ∷ es) ≡ offers r es
still_offered r es e h = ap (λ c. offers_by (end_state r es e) c (offers r es)) h

pub are_taken : (f : Flow) (limit : ℕ) (es : List SessionEvent) (e : SessionEvent) → AreEvents f limit (e ∷ es) → AreTaken f (e ∷ es)
are_taken f limit [] e are =
    let h = are.0 in
    record {
      client = rw (h.client, h.fed) none_taken;
      controller = rw (h.controller, h.fed) none_taken;
    }
are_taken f limit (d ∷ es) e are =
    let before = are_taken f limit es d are.1 in
    elim are.0 [
      | inl h ↦ (let same : history (e ∷ (d ∷ es)) ≡ history (d ∷ es) = ap (λ xs. history (d ∷ es) ++ xs) h.fed ∙ append-nil (history (d ∷ es)) in
          record {
            client = rw (still_offered (client_ends f).role (clients (d ∷ es)) e.client h.client_came, same) before.client;
            controller = rw (still_offered (controller_ends f).role (controllers (d ∷ es)) e.controller h.controller_came, same) before.controller;
          })
      | inr p ↦ p.5.taken
    ]

pub all_taken : FirstCopiesAreTaken
all_taken f limit [] are = record { client = none_taken; controller = none_taken }
all_taken f limit (e ∷ es) are = are_taken f limit es e are

-- ---- how far

abbrev Reach : Type 0
Reach =
    (ends : Ends) (es : List LegEvent) (whole : Stream) → IsRightRun ends es whole → is_settled es ≡ true → opened ends.role es ≡ true →
    letters_sent ends.role es ≡ min (shown ends.role es) (letter_count (stream_after es))

pub reaches : (law : Reach) (go : StreamsGoOn) (quiet : QuietBehindEnd) (one : WorkIsOne) (f : Flow) (limit : ℕ) (es : List SessionEvent) (e : SessionEvent) (s : Side) →
    limit ≤ 2 ^ 30 → AreEvents f limit (e ∷ es) → e.cut ≡ None → IsSentUpTo (ends_of f s).role (map (leg_in s) (e ∷ es)) (stream_of s e.work)
reaches law go quiet one f limit es e s small are none = λ is_open.
    let over = over_leg s (are_over f limit es e are none) in
    law (ends_of f s) (map (leg_in s) (e ∷ es)) _ (leg_run go quiet one f limit (e ∷ es) s small are (uncut_before f limit es e are)) over.0 is_open
    ∙ ap (λ w. min (shown (ends_of f s).role (map (leg_in s) (e ∷ es))) (letter_count w)) over.1
