-- A leg that spoke stands for the events with the speech.
use Rattle.std.proofs.Common.{◌≡◌, ℕ, ◌+◌, ◌^◌, ◌<◌, ◌≤◌, min, max, Bool, true, false, cond, not, ◌&&◌, ◌||◌, List, [], ◌∷◌, ◌++◌, Option, refl, sym, ◌∙◌, ap, subst, arith, inl, inr}
use Rattle.std.specs.Prelude.{MatchBool, nat_lt, ◌==◌}
use Rattle.std.proofs.lemmas.Bool.{cases_Bool, not-false, or_parts, true≢false, false≢true, eqb-true}
use Rattle.cf_outq.specs.SendQueue.{Queue, queue_length}
use Rattle.cf_outq.specs.SendQueue.{IsQueueOf}
use Rattle.cf_packet.specs.Packet.{PacketValue}
use Rattle.cf_rebuild.specs.ReceiveWindow.{Window, IsWindow, base_of}
use Rattle.cf_rebuild.specs.ReceiveWindow.{IsWindowOf}
use Rattle.cf_outside.specs.Desk.{DeskValue, SentValue}
use Rattle.cf_stream.specs.FirstCopy.{Offer}
use Rattle.cf_leg.specs.Calls.{AddressBreaks, Addressed, SpeakingBreaks, Spoken, rearmed}
use Rattle.cf_stream.specs.Position.{sequence_number}
use Rattle.cf_stream.specs.Stream.{Stream, letter_count, no_letters}
use Rattle.cf_leg.proofs.Reach.{carried_after}
use Rattle.cf_leg.proofs.Events.{arms_nothing, open_is, taken_is, opens_greeted, or_cases, own_same, peer_same, mss_same, open_is_greeted, no_greeting, acked_grows}
use Rattle.cf_leg.proofs.Broken.{broken_before}
use Rattle.cf_leg.proofs.Pieces.{count_is}
use Rattle.cf_leg.proofs.Speech.{says_as, told_pieces, told_segment}
use Rattle.cf_leg.specs.Emits.{SaysIf, SpeaksOpen, differs, to_tell, send_mss, peer_mss}
use Rattle.cf_leg.specs.Event.{Unspoken, Spoke, LegEvent, moment, greeted_by, stream_after}
use Rattle.cf_leg.specs.Heard.{opened, opens, end_state, counted, acked, offers, owed}
use Rattle.cf_leg.specs.Timer.{armed, due, tries, rises, has_fired, second, backoff}
use Rattle.cf_leg.specs.LegValue.{LegValue, IsLeg, IsLegOf, first_told, arms, is_open, marks, phase_of, told_of, way_at}
use Rattle.cf_leg.specs.Told.{told, told_at, letters_sent, letters_sent_at, told_by_all, letters_sent_by_all, is_greeted, own_number, peer_number}
use Rattle.cf_leg.specs.declared.ends.Phase.{Phase}
use Rattle.cf_leg.specs.declared.ends.Advertised.{Advertised}
use Rattle.cf_leg.specs.declared.ends.Way.{Way}

-- ---- where nothing differs, the same was told
pub same_told : (t u : Advertised) → differs t u ≡ false → t ≡ u
same_told t u h =
    let k = or_parts (not (t.base == u.base)) (not (t.edge == u.edge)) h in
    let base = eqb-true t.base u.base (not-false (t.base == u.base) k.0) in
    let edge = eqb-true t.edge u.edge (not-false (t.edge == u.edge) k.1) in
    ap (λ (n : ℕ). record { base = n; edge = t.edge }) base ∙ ap (λ (n : ℕ). record { base = u.base; edge = n }) edge

-- ---- what was said, read again
module _ (way : Way) (b t : Advertised) (owes : Bool) (whole : Stream) (mss shown sent : ℕ) (outs : List PacketValue)
    (low : b.base ≤ t.base) (high : t.base < b.base + 2 ^ 31) (e : t.base ≤ t.edge) where
  pub told_said : SaysIf way t (owes || differs b t) whole mss shown sent outs → told_by_all way.other b outs ≡ t
  told_said = says_as way t (owes || differs b t) whole mss shown sent outs (λ ps. told_by_all way.other b ps ≡ t)
      (λ below p. told_pieces way t whole mss shown e b sent outs low high below p)
      (λ past d. told_segment way t (sequence_number way.own sent) no_letters b low high e)
      (λ past d. same_told b t (or_parts owes (differs b t) d).1)

-- ---- what is to be told
module _ (leg : LegValue) (i : IsLeg leg) (w : IsWindow leg.window) (roomy : Bool) where
  pub tell_low : leg.base ≤ base_of leg.window
  tell_low = i.base

  pub tell_high : base_of leg.window < leg.base + 2 ^ 31
  tell_high = omega (arith, i.edge, w.base)

  pub tell_edge : base_of leg.window ≤ (to_tell (told_of leg) (base_of leg.window) roomy).edge
  tell_edge = by roomy
    where
      by : (b : Bool) → base_of leg.window ≤ cond b (base_of leg.window + 16384) leg.window.edge
      by true = omega arith
      by false = w.base

-- ---- the timer
pub arms_is : (o g : Bool) (q : Queue) (a n : ℕ) → q.acked ≡ a → queue_length q ≡ n → arms (phase_of o g) q ≡ cond o (nat_lt a n) g
arms_is true g q a n e f = ap (λ (x : ℕ). nat_lt x (queue_length q)) e ∙ ap (λ (x : ℕ). nat_lt a x) f
arms_is false true q a n e f = refl
arms_is false false q a n e f = refl

-- the deadline after a speech: armed after it, before the event, and before the speech
pub deadline_is : (after before mid rises : Bool) (soon later : ℕ) → ((mid && not before) ≡ true → (after && not before) ≡ true)
    → cond (after && not before) soon (cond ((mid && not before) || rises) soon later) ≡ cond ((after && not before) || rises) soon later
deadline_is true false mid rises soon later k = refl
deadline_is true true true rises soon later k = refl
deadline_is true true false rises soon later k = refl
deadline_is false true true rises soon later k = refl
deadline_is false true false rises soon later k = refl
deadline_is false false true rises soon later k = absurd (false≢true (k refl))
deadline_is false false false rises soon later k = refl

-- what arms before the speech arms after it: o whether the leg is open, o0 whether it was before the event
pub still_arms : (o o0 g g0 : Bool) (a a0 n n0 : ℕ) → a0 ≤ a → (o ≡ true → o0 ≡ false → g0 ≡ true)
    → (cond o (nat_lt a n0) g && not (cond o0 (nat_lt a0 n0) g0)) ≡ true → (cond o (nat_lt a n) g && not (cond o0 (nat_lt a0 n0) g0)) ≡ true
still_arms false o0 g g0 a a0 n n0 l k h = h
still_arms true o0 g g0 a a0 n n0 l k h = absurd (true≢false (sym h ∙ arms_nothing o0 g0 a a0 n0 l (k refl)))

-- ---- the step
pub parts_told : (b n t u : ℕ) (T : Advertised) → b ≡ T.base → n ≡ T.edge → ◌≡◌ {A = Advertised} (record { base = b; edge = n }) T
parts_told b n t u T e f = ap (λ (x : ℕ). record { base = x; edge = n }) e ∙ ap (λ (x : ℕ). record { base = T.base; edge = x }) f

module _ (leg : LegValue) (i : IsLeg leg) (w : IsWindow leg.window) (q : Queue) (roomy : Bool) (now : ℕ) (e : LegEvent) (es : List LegEvent) (whole : Stream) (outs : List PacketValue)
    (at : now ≡ moment e) (h : IsLegOf leg (marks q) (record e { ending = Unspoken } ∷ es)) (s : IsQueueOf q whole) where
  running_is : (q' : Queue) → q'.acked ≡ q.acked → queue_length q' ≡ queue_length q → arms leg.phase q' ≡ armed leg.ends.role (record e { ending = Spoke whole roomy outs } ∷ es)
  running_is q' a l =
      ap (λ (p : Phase). arms p q') h.of_phase
      ∙ arms_is (opened leg.ends.role (record e { ending = Unspoken } ∷ es)) (is_greeted (record e { ending = Unspoken } ∷ es)) q' (acked leg.ends.role (record e { ending = Unspoken } ∷ es)) (letter_count whole)
      (a ∙ h.of_acked) (l ∙ count_is q whole s)

  still : (armed leg.ends.role (record e { ending = Unspoken } ∷ es) && not (armed leg.ends.role es)) ≡ true
      → (armed leg.ends.role (record e { ending = Spoke whole roomy outs } ∷ es) && not (armed leg.ends.role es)) ≡ true
  still =
      still_arms (opened leg.ends.role (record e { ending = Unspoken } ∷ es)) (opened leg.ends.role es) (is_greeted (record e { ending = Unspoken } ∷ es)) (is_greeted es)
      (acked leg.ends.role (record e { ending = Unspoken } ∷ es)) (acked leg.ends.role es) (letter_count whole) (letter_count (stream_after es))
      (acked_grows (end_state leg.ends.role es (record e { ending = Unspoken })) e.came (acked leg.ends.role es))
      (λ o c. opens_greeted (end_state leg.ends.role es (record e { ending = Unspoken })) e.came c (or_cases (opened leg.ends.role es) (opens (end_state leg.ends.role es (record e { ending = Unspoken })) e.came) o c))

  due_is : (q' : Queue) → q'.acked ≡ q.acked → queue_length q' ≡ queue_length q
      → cond (arms leg.phase q' && not leg.running) (now + second) leg.deadline ≡ due leg.ends.role (record e { ending = Spoke whole roomy outs } ∷ es)
  due_is q' a l =
      rw (running_is q' a l, h.of_running, h.of_deadline, at)
      (deadline_is (armed leg.ends.role (record e { ending = Spoke whole roomy outs } ∷ es)) (armed leg.ends.role es) (armed leg.ends.role (record e { ending = Unspoken } ∷ es))
      (counted leg.ends.role es e && rises leg.ends.role es e) (moment e + second)
      (cond (has_fired e) (e.tick + backoff (tries leg.ends.role es + 1)) (due leg.ends.role es)) still)

  own_is : leg.own ≡ own_number leg.ends.role (record e { ending = Spoke whole roomy outs } ∷ es)
  own_is = h.of_own ∙ sym (own_same (record e { ending = Unspoken }) es (Spoke whole roomy outs) leg.ends.role)

  other_is : leg.other ≡ peer_number leg.ends.role (record e { ending = Spoke whole roomy outs } ∷ es)
  other_is = h.of_other ∙ sym (peer_same (record e { ending = Unspoken }) es (Spoke whole roomy outs) leg.ends.role)

  -- what was told and letters_sent before the speech
  quiet : opened leg.ends.role (record e { ending = Unspoken } ∷ es) ≡ true → greeted_by e.came ≡ []
  quiet o = no_greeting leg.ends es (opened leg.ends.role es) (end_state leg.ends.role es e) e.came (open_is_greeted leg.ends.role es) h.of_right.0.came o

  told_before : opened leg.ends.role (record e { ending = Unspoken } ∷ es) ≡ true → told_of leg ≡ told_at leg.ends.role es e
  told_before o =
      parts_told leg.base leg.window.edge 0 0 (told leg.ends.role (record e { ending = Unspoken } ∷ es)) h.of_base h.of_edge
      ∙ ap (λ (ps : List PacketValue). told_by_all (peer_number leg.ends.role (record e { ending = Unspoken } ∷ es)) (told_at leg.ends.role es e) (ps ++ [])) (quiet o)

  carried_before : opened leg.ends.role (record e { ending = Unspoken } ∷ es) ≡ true → q.sent ≡ letters_sent_at leg.ends.role es e
  carried_before o = h.of_sent ∙ ap (λ (ps : List PacketValue). letters_sent_by_all (own_number leg.ends.role (record e { ending = Unspoken } ∷ es)) (letters_sent_at leg.ends.role es e) (ps ++ [])) (quiet o)

  -- and after it
  told_after : (n : Advertised) (o : opened leg.ends.role (record e { ending = Unspoken } ∷ es) ≡ true) → told_by_all leg.other (told_of leg) outs ≡ n → told leg.ends.role (record e { ending = Spoke whole roomy outs } ∷ es) ≡ n
  told_after n o k = rw (quiet o, ← other_is, ← told_before o) k

  sent_after : (n : ℕ) (o : opened leg.ends.role (record e { ending = Unspoken } ∷ es) ≡ true) → letters_sent_by_all leg.own q.sent outs ≡ n → letters_sent leg.ends.role (record e { ending = Spoke whole roomy outs } ∷ es) ≡ n
  sent_after n o k = rw (quiet o, ← own_is, ← carried_before o) k

  mss_is : leg.mss ≡ send_mss (peer_mss leg.ends.role (record e { ending = Spoke whole roomy outs } ∷ es))
  mss_is = h.of_mss ∙ ap send_mss (sym (mss_same (record e { ending = Unspoken }) es (Spoke whole roomy outs) leg.ends.role))

  -- the leg stands for the speech, whose numbers are these
  spoke_as : (base : ℕ) (window : Window) (sent : ℕ) → MatchBool (opened leg.ends.role (record e { ending = Unspoken } ∷ es)) (SpeaksOpen leg.ends es (record e { ending = Spoke whole roomy outs }) whole roomy outs) (outs ≡ []) →
      base ≡ (told leg.ends.role (record e { ending = Spoke whole roomy outs } ∷ es)).base → window.edge ≡ (told leg.ends.role (record e { ending = Spoke whole roomy outs } ∷ es)).edge →
      (opened leg.ends.role (record e { ending = Unspoken } ∷ es) ≡ false → is_greeted (record e { ending = Unspoken } ∷ es) ≡ true → told leg.ends.role (record e { ending = Spoke whole roomy outs } ∷ es) ≡ first_told leg.ends.role) →
      IsWindowOf window (offers leg.ends.role (record e { ending = Unspoken } ∷ es)) → sent ≡ letters_sent leg.ends.role (record e { ending = Spoke whole roomy outs } ∷ es) →
      IsLegOf (rearmed (record leg { base = base; window = window; owes = false }) (record q { sent = sent }) now) (marks (record q { sent = sent })) (record e { ending = Spoke whole roomy outs } ∷ es)
  spoke_as base window sent ending of_base of_edge of_first of_window of_sent = record {
    of_right = (record { over = h.of_right.0.over; fired = h.of_right.0.fired; came = h.of_right.0.came; ending = ending }, h.of_right.1);
    of_phase = h.of_phase;
    of_own = own_is;
    of_other = other_is;
    of_mss = mss_is;
    of_base = of_base;
    of_edge = of_edge;
    of_first = of_first;
    of_window = of_window;
    of_sent = of_sent;
    of_edge_shown = h.of_edge_shown;
    of_shown = h.of_shown;
    of_acked = h.of_acked;
    of_owes = refl;
    of_running = running_is (record q { sent = sent }) refl refl;
    of_deadline = due_is (record q { sent = sent }) refl refl;
    of_fired = h.of_fired;
  }

  -- an open leg
  module _ (o : opened leg.ends.role (record e { ending = Unspoken } ∷ es) ≡ true)
      (says : SaysIf (way_at leg) (to_tell (told_of leg) (base_of leg.window) roomy) (leg.owes || differs (told_of leg) (to_tell (told_of leg) (base_of leg.window) roomy)) whole leg.mss q.shown q.sent outs)
      (window : IsWindowOf (record leg.window { edge = (to_tell (told_of leg) (base_of leg.window) roomy).edge }) (offers leg.ends.role (record e { ending = Unspoken } ∷ es))) where
    speaks_open : SpeaksOpen leg.ends es (record e { ending = Spoke whole roomy outs }) whole roomy outs
    speaks_open = record {
      taken = h.of_window.taken;
      is_taken = h.of_window.is_taken;
      says =
          (let owes : leg.owes ≡ owed leg.ends.role es e = h.of_owes in
          rw (← owes, ← own_is, ← other_is, ← mss_is, ← h.of_shown, ← carried_before o, taken_is h, ← told_before o) says);
    }

    told_now : told leg.ends.role (record e { ending = Spoke whole roomy outs } ∷ es) ≡ to_tell (told_of leg) (base_of leg.window) roomy
    told_now = told_after (to_tell (told_of leg) (base_of leg.window) roomy) o
        (told_said (way_at leg) (told_of leg) (to_tell (told_of leg) (base_of leg.window) roomy) leg.owes whole leg.mss q.shown q.sent outs (tell_low leg i w roomy) (tell_high leg i w roomy) (tell_edge leg i w roomy) says)

    carried_now : letters_sent leg.ends.role (record e { ending = Spoke whole roomy outs } ∷ es) ≡ max q.sent (min q.shown (letter_count whole))
    carried_now = sent_after (max q.sent (min q.shown (letter_count whole))) o
        (carried_after (way_at leg) (to_tell (told_of leg) (base_of leg.window) roomy) (leg.owes || differs (told_of leg) (to_tell (told_of leg) (base_of leg.window) roomy)) whole leg.mss q.shown q.sent outs says)

    pub spoke_open : IsLegOf
        (rearmed (record leg { base = base_of leg.window; window = record leg.window { edge = (to_tell (told_of leg) (base_of leg.window) roomy).edge }; owes = false }) (record q { sent = max q.sent (min q.shown (queue_length q)) }) now)
        (marks (record q { sent = max q.sent (min q.shown (queue_length q)) })) (record e { ending = Spoke whole roomy outs } ∷ es)
    spoke_open = spoke_as (base_of leg.window) (record leg.window { edge = (to_tell (told_of leg) (base_of leg.window) roomy).edge }) (max q.sent (min q.shown (queue_length q)))
        (subst (λ (b : Bool). MatchBool b (SpeaksOpen leg.ends es (record e { ending = Spoke whole roomy outs }) whole roomy outs) (outs ≡ [])) (sym o) speaks_open)
        (ap (λ (t : Advertised). t.base) (sym told_now)) (ap (λ (t : Advertised). t.edge) (sym told_now)) (λ c g. absurd (true≢false (sym o ∙ c))) window
        (ap (λ (n : ℕ). max q.sent (min q.shown n)) (count_is q whole s) ∙ sym carried_now)

  -- a leg that is not open says nothing
  module _ (o : opened leg.ends.role (record e { ending = Unspoken } ∷ es) ≡ false) (none : outs ≡ []) where
    told_still : told leg.ends.role (record e { ending = Spoke whole roomy outs } ∷ es) ≡ told leg.ends.role (record e { ending = Unspoken } ∷ es)
    told_still = rw (peer_same (record e { ending = Unspoken }) es (Spoke whole roomy outs) leg.ends.role, none) refl

    carried_still : letters_sent leg.ends.role (record e { ending = Spoke whole roomy outs } ∷ es) ≡ letters_sent leg.ends.role (record e { ending = Unspoken } ∷ es)
    carried_still = rw (own_same (record e { ending = Unspoken }) es (Spoke whole roomy outs) leg.ends.role, none) refl

    pub spoke_closed : IsLegOf (rearmed leg q now) (marks q) (record e { ending = Spoke whole roomy outs } ∷ es)
    spoke_closed = spoke_as leg.base leg.window q.sent
        (subst (λ (b : Bool). MatchBool b (SpeaksOpen leg.ends es (record e { ending = Spoke whole roomy outs }) whole roomy outs) (outs ≡ [])) (sym o) none)
        (h.of_base ∙ ap (λ (t : Advertised). t.base) (sym told_still)) (h.of_edge ∙ ap (λ (t : Advertised). t.edge) (sym told_still)) (λ c g. told_still ∙ h.of_first c g) h.of_window
        (h.of_sent ∙ sym carried_still)

-- ---- the call
window_opened : (v : Window) (edge : ℕ) (os : List Offer) → IsWindowOf v os → IsWindowOf (record v { edge = edge }) os
window_opened v edge os x = record { taken = x.taken; is_taken = x.is_taken; ended = x.ended; count = x.count; pending = x.pending; ahead = x.ahead }

pub spoken_of : (leg mid new : LegValue) (q q' : Queue) (roomy : Bool) (now : ℕ) (before after : Option (List SentValue))
    → IsLeg leg → IsWindow leg.window → Addressed roomy now leg mid q q' before after → new ≡ rearmed mid q' now → Spoken roomy now leg new q q' before after
spoken_of leg mid new q q' roomy now before after i w a is = record {
  outs = a.outs;
  packets = a.packets;
  stands = λ e es whole at h s.
      elim (cases_Bool (is_open leg.phase)) [
        | inl o ↦ (let open_now : opened leg.ends.role (record e { ending = Unspoken } ∷ es) ≡ true = (sym (open_is h) ∙ o) in
            let is' : new ≡ rearmed (record leg { base = base_of leg.window; window = record leg.window { edge = (to_tell (told_of leg) (base_of leg.window) roomy).edge }; owes = false }) (record q { sent = max q.sent (min q.shown (queue_length q)) }) now =
            is ∙ ap (λ (l : LegValue). rearmed l q' now) (a.leg o) ∙ ap (λ (x : Queue). rearmed (record leg { base = base_of leg.window; window = record leg.window { edge = (to_tell (told_of leg) (base_of leg.window) roomy).edge }; owes = false }) x now) (a.sent o) in
            subst (λ (l : LegValue). IsLegOf l (marks q') (record e { ending = Spoke whole roomy a.outs } ∷ es)) (sym is')
            (subst (λ (x : Queue). IsLegOf (rearmed (record leg { base = base_of leg.window; window = record leg.window { edge = (to_tell (told_of leg) (base_of leg.window) roomy).edge }; owes = false }) (record q { sent = max q.sent (min q.shown (queue_length q)) }) now) (marks x) (record e { ending = Spoke whole roomy a.outs } ∷ es)) (sym (a.sent o))
            (spoke_open leg i w q roomy now e es whole a.outs at h s open_now (a.says o whole s) (window_opened leg.window (to_tell (told_of leg) (base_of leg.window) roomy).edge (offers leg.ends.role (record e { ending = Unspoken } ∷ es)) h.of_window))))
        | inr o ↦ (let closed_now : opened leg.ends.role (record e { ending = Unspoken } ∷ es) ≡ false = (sym (open_is h) ∙ o) in
            let is' : new ≡ rearmed leg q now = is ∙ ap (λ (l : LegValue). rearmed l q' now) (a.same o) ∙ ap (λ (x : Queue). rearmed leg x now) (a.kept o) in
            subst (λ (l : LegValue). IsLegOf l (marks q') (record e { ending = Spoke whole roomy a.outs } ∷ es)) (sym is')
            (subst (λ (x : Queue). IsLegOf (rearmed leg q now) (marks x) (record e { ending = Spoke whole roomy a.outs } ∷ es)) (sym (a.kept o))
            (spoke_closed leg i w q roomy now e es whole a.outs at h s closed_now (a.silent o))))
      ];
}

-- and where the desk broke it off
pub speaking_breaks : (leg : LegValue) (q : Queue) (roomy : Bool) (now : ℕ) (before after : DeskValue) → IsLeg leg → IsWindow leg.window
    → AddressBreaks roomy now leg q before after → SpeakingBreaks roomy now leg q before after
speaking_breaks leg q roomy now before after i w a e es whole at h s =
    let open_now = (sym (open_is h) ∙ a.is_open) in
    let said = a.says.says whole s in
    record {
      outs = a.says.outs ++ said.0;
      right = (spoke_open leg i w q roomy now e es whole (a.says.outs ++ said.0) at h s open_now said.1 (window_opened leg.window (to_tell (told_of leg) (base_of leg.window) roomy).edge (offers leg.ends.role (record e { ending = Unspoken } ∷ es)) h.of_window)).of_right.0;
      breaks = broken_before now a.says.outs said.0 before after a.says.gets;
    }
