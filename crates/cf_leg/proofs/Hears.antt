-- A leg that heard a packet stands for the events with the packet.
use Rattle.std.proofs.Math.Bool.{or-false}
use Rattle.std.proofs.Common.{◌≡◌, ℕ, ◌+◌, ◌<◌, ◌≤◌, max, Bool, true, false, cond, not, ◌&&◌, ◌||◌, List, ◌∷◌, Option, Some, None, refl, sym, ◌∙◌, ap, subst, arith, ℤ, pos, ◌+ℤ◌}
use Rattle.std.specs.Prelude.{nat_lt, int_le, ◌≤ℤ◌}
use Rattle.std.proofs.lemmas.Int.{ints}
use Rattle.std.specs.Option.{option_or, is_some}
use Rattle.std.proofs.lemmas.Bool.{true≢false, false≢true, and_parts, or_left, or_parts}
use Rattle.cf_outq.specs.SendQueue.{Queue}
use Rattle.cf_packet.specs.Packet.{PacketValue}
use Rattle.cf_rebuild.specs.ReceiveWindow.{Window}
use Rattle.cf_rebuild.specs.ReceiveWindow.{IsWindowOf}
use Rattle.cf_stream.specs.FirstCopy.{Offer}
use Rattle.cf_stream.specs.Position.{place_or_zero}
use Rattle.cf_stream.specs.Stream.{letter_count}
use Rattle.cf_leg.proofs.Clocked.{own_idle, peer_idle, mss_idle, greeted_idle, armed_idle}
use Rattle.cf_leg.proofs.Counts.{counts_by, counts_first, counts_open}
use Rattle.cf_leg.proofs.Events.{and_not, arms_nothing, open_is_greeted, acked_grows, option_or_none, or_cases, opens_greeted, phase_is_open}
use Rattle.cf_leg.proofs.Phases.{active_opened, open_opens_not, first_active}
use Rattle.cf_leg.specs.Calls.{Counts, Heard, end_state_of, is_greeted_phase, leg_opened, queue_opened, leg_counted, queue_counted, other_by, mss_by, edge_by, rises_by}
use Rattle.cf_leg.specs.Emits.{peer_mss, send_mss, mss_in}
use Rattle.cf_leg.specs.Event.{Nothing, Packet, Unspoken, LegEvent, moment, stream_after}
use Rattle.cf_leg.specs.Heard.{opens_as, resets_as, is_in_reach, is_at, opened, opens, end_state, answer_to, open_answer, first_answer, has_opened, counts, counts_as, owes_for, acked, shown, offers, ack_place, text_place}
use Rattle.cf_leg.specs.Segment.{has_ack, has_rst, has_syn, letters_in}
use Rattle.cf_leg.specs.LegValue.{LegValue, Marks, IsLegOf, is_open, marks, phase_of}
use Rattle.cf_leg.specs.Timer.{armed, due, tries, rises, has_fired, backoff, second}
use Rattle.cf_leg.specs.Told.{told_at, is_greeted, greeting, own_number, peer_number, syn_ack, syn_ack_in, seq_of}
use Rattle.cf_leg.specs.declared.ends.LegAnswer.{LegAnswer}
use Rattle.cf_leg.specs.declared.ends.LegAnswer.TheVariants as answer
use Rattle.cf_leg.specs.declared.ends.Phase.TheVariants as phase
use Rattle.cf_leg.specs.declared.ends.EndState.{EndState}
use Rattle.cf_leg.specs.declared.ends.Role.{Role}
use Rattle.cf_leg.specs.declared.ends.Role.TheVariants as role

-- ---- the place is that of the definitions
pub phase_greeted : (o g : Bool) → (o ≡ true → g ≡ true) → is_greeted_phase (phase_of o g) ≡ g
phase_greeted true g h = sym (h refl)
phase_greeted false true h = refl
phase_greeted false false h = refl

module _ (leg : LegValue) (q : Queue) (e : LegEvent) (es : List LegEvent) (h : IsLegOf leg (marks q) (record e { came = Nothing; ending = Unspoken } ∷ es)) where
  phase_now : leg.phase ≡ phase_of (opened leg.ends.role es) (is_greeted es)
  phase_now = h.of_phase ∙ ap (λ (b : Bool). phase_of b (is_greeted (record e { came = Nothing; ending = Unspoken } ∷ es))) (or-false (opened leg.ends.role es))
      ∙ ap (λ (b : Bool). phase_of (opened leg.ends.role es) b) (greeted_idle e.tick e.ticked e.fired es)

  greeted_now : is_greeted_phase leg.phase ≡ is_greeted es
  greeted_now = ap is_greeted_phase phase_now ∙ phase_greeted (opened leg.ends.role es) (is_greeted es) (open_is_greeted leg.ends.role es)

  open_now : is_open leg.phase ≡ opened leg.ends.role es
  open_now = ap is_open phase_now ∙ phase_is_open (opened leg.ends.role es) (is_greeted es)

  pub own_now : leg.own ≡ own_number leg.ends.role es
  own_now = h.of_own ∙ own_idle e.tick e.ticked e.fired es leg.ends.role

  pub other_now : leg.other ≡ peer_number leg.ends.role es
  other_now = h.of_other ∙ peer_idle e.tick e.ticked e.fired es leg.ends.role

  pub place_is : end_state_of leg q ≡ end_state leg.ends.role es e
  place_is = rw (greeted_now, open_now, own_now, other_now, h.of_base, h.of_edge, h.of_sent) refl

-- ---- the numbers of the peer once a packet came
module _ (e : LegEvent) (es : List LegEvent) (p : PacketValue) where
  pub own_heard : (r : Role) → own_number r (record e { came = Packet p; ending = Unspoken } ∷ es) ≡ own_number r es
  own_heard (role.Active own) = refl
  own_heard (role.Passive other mss) = ap seq_of (option_or_none (greeting es))

  -- the SYN ACK is that of the packet which opens
  active_syn_ack : (own : ℕ) (b : Bool) → has_opened (answer_to (end_state (role.Active own) es e) p) ≡ b
      → syn_ack own (record e { came = Packet p; ending = Unspoken } ∷ es) ≡ cond b (Some p) (syn_ack own es)
  active_syn_ack own b k = by (syn_ack own es) (active_opened own es) b k
    where
      by : (o : Option PacketValue) → opened (role.Active own) es ≡ is_some o → (b : Bool) → has_opened (answer_to (end_state (role.Active own) es e) p) ≡ b
          → option_or o (syn_ack_in own (is_greeted es) (Packet p)) ≡ cond b (Some p) o
      by (Some x) o true k = absurd (false≢true (sym (ap (λ (b : Bool). has_opened (cond b (open_answer (end_state (role.Active own) es e) p) (first_answer (end_state (role.Active own) es e) p))) o ∙ open_opens_not (end_state (role.Active own) es e) p) ∙ k))
      by (Some x) o false k = refl
      by None o b k =
          (let first = sym (ap (λ (b : Bool). has_opened (cond b (open_answer (end_state (role.Active own) es e) p) (first_answer (end_state (role.Active own) es e) p))) o ∙ first_active own (end_state (role.Active own) es e) p refl refl) ∙ k in
          ap (λ (c : Bool). cond c (Some p) None) first)

  pub peer_heard : (r : Role) (b : Bool) → has_opened (answer_to (end_state r es e) p) ≡ b → peer_number r (record e { came = Packet p; ending = Unspoken } ∷ es) ≡ cond b (other_by r (peer_number r es) p) (peer_number r es)
  peer_heard (role.Active own) true k = ap seq_of (active_syn_ack own true k)
  peer_heard (role.Active own) false k = ap seq_of (active_syn_ack own false k)
  peer_heard (role.Passive other mss) true k = refl
  peer_heard (role.Passive other mss) false k = refl

  pub mss_heard : (r : Role) (b : Bool) → has_opened (answer_to (end_state r es e) p) ≡ b → send_mss (peer_mss r (record e { came = Packet p; ending = Unspoken } ∷ es)) ≡ cond b (mss_by r (send_mss (peer_mss r es)) p) (send_mss (peer_mss r es))
  mss_heard (role.Active own) true k = ap (λ (o : Option PacketValue). send_mss (mss_in o)) (active_syn_ack own true k)
  mss_heard (role.Active own) false k = ap (λ (o : Option PacketValue). send_mss (mss_in o)) (active_syn_ack own false k)
  mss_heard (role.Passive other mss) true k = refl
  mss_heard (role.Passive other mss) false k = refl

-- ---- what opens an active leg does not count, and what opens a passive one does
abbrev pub is_passive : Role → Bool
is_passive (role.Active own) = false
is_passive (role.Passive other mss) = true

pub opening_counts : (r : Role) (a : LegAnswer) → has_opened a ≡ true → counts_as r a ≡ is_passive r
opening_counts (role.Active own) answer.Opened h = refl
opening_counts (role.Passive other mss) answer.Opened h = refl
opening_counts r answer.Counted h = absurd (false≢true h)
opening_counts r answer.Challenged h = absurd (false≢true h)
opening_counts r answer.Ignored h = absurd (false≢true h)
opening_counts r answer.Reset h = absurd (false≢true h)

-- the edge after a packet, by the leg and by the definition
pub edge_heard : (r : Role) (b x : Bool) (before window count : ℕ) → (b ≡ true → x ≡ is_passive r) → (p : PacketValue) → p.window ≡ window
    → cond x (max (cond b (edge_by r before p) before) count) (cond b (edge_by r before p) before) ≡ cond x (max before count) (cond b (max before window) before)
edge_heard r false x before window count k p w = refl
edge_heard (role.Active own) true x before window count k p w = rw (k refl) (ap (λ (n : ℕ). max before n) w)
edge_heard (role.Passive other mss) true x before window count k p w = rw (k refl) refl

-- ---- a packet arms nothing
pub no_arming : (o o0 g : Bool) (a a0 n : ℕ) → a0 ≤ a → (o0 ≡ true → o ≡ true) → (o ≡ true → o0 ≡ false → g ≡ true)
    → (cond o (nat_lt a n) g && not (cond o0 (nat_lt a0 n) g)) ≡ false
no_arming true o0 g a a0 n l m k = arms_nothing o0 g a a0 n l (k refl)
no_arming false true g a a0 n l m k = absurd (false≢true (m refl))
no_arming false false g a a0 n l m k = and_not g

or_true : (b : Bool) → (b || true) ≡ true
or_true true = refl
or_true false = refl

-- ---- the step
module _ (leg : LegValue) (q : Queue) (now : ℕ) (e : LegEvent) (es : List LegEvent) (p : PacketValue) (at : now ≡ moment e) (h : IsLegOf leg (marks q) (record e { came = Nothing; ending = Unspoken } ∷ es)) where
  unarmed : (armed leg.ends.role (record e { came = Packet p; ending = Unspoken } ∷ es) && not (armed leg.ends.role es)) ≡ false
  unarmed =
      ap (λ (g : Bool). cond (opened leg.ends.role (record e { came = Packet p; ending = Unspoken } ∷ es)) (nat_lt (acked leg.ends.role (record e { came = Packet p; ending = Unspoken } ∷ es)) (letter_count (stream_after es))) g && not (armed leg.ends.role es)) (greeted_idle e.tick e.ticked e.fired es)
      ∙ no_arming (opened leg.ends.role (record e { came = Packet p; ending = Unspoken } ∷ es)) (opened leg.ends.role es) (is_greeted es)
      (acked leg.ends.role (record e { came = Packet p; ending = Unspoken } ∷ es)) (acked leg.ends.role es) (letter_count (stream_after es))
      (acked_grows (end_state leg.ends.role es e) (Packet p) (acked leg.ends.role es))
      (or_left (opened leg.ends.role es) (opens (end_state leg.ends.role es e) (Packet p)))
      (λ o c. opens_greeted (end_state leg.ends.role es e) (Packet p) c (or_cases (opened leg.ends.role es) (opens (end_state leg.ends.role es e) (Packet p)) o c))

  -- the deadline before the packet
  deadline_before : leg.deadline ≡ cond (has_fired e) (e.tick + backoff (tries leg.ends.role es + 1)) (due leg.ends.role es)
  deadline_before = h.of_deadline ∙ ap (λ (b : Bool). cond (b || false) (moment e + second) (cond (has_fired e) (e.tick + backoff (tries leg.ends.role es + 1)) (due leg.ends.role es)))
      (ap (λ (b : Bool). b && not (armed leg.ends.role es)) (armed_idle e.tick e.ticked e.fired es leg.ends.role) ∙ and_not (armed leg.ends.role es))

  deadline_heard : (x : Bool) → counts (end_state leg.ends.role es e) p ≡ x → (s : ℕ) → (x ≡ true → s ≡ leg.shown)
      → cond x (cond (rises_by q.acked s (ack_place (end_state leg.ends.role es e) p) p.window) (now + second) leg.deadline) leg.deadline ≡ due leg.ends.role (record e { came = Packet p; ending = Unspoken } ∷ es)
  deadline_heard x kx s ks = by x kx ks
      ∙ ap (λ (b : Bool). cond (b || (counts (end_state leg.ends.role es e) p && rises leg.ends.role es (record e { came = Packet p; ending = Unspoken }))) (moment e + second) (cond (has_fired e) (e.tick + backoff (tries leg.ends.role es + 1)) (due leg.ends.role es))) (sym unarmed)
    where
      by : (x : Bool) → counts (end_state leg.ends.role es e) p ≡ x → (x ≡ true → s ≡ leg.shown)
          → cond x (cond (rises_by q.acked s (ack_place (end_state leg.ends.role es e) p) p.window) (now + second) leg.deadline) leg.deadline
          ≡ cond (counts (end_state leg.ends.role es e) p && rises leg.ends.role es (record e { came = Packet p; ending = Unspoken })) (moment e + second) (cond (has_fired e) (e.tick + backoff (tries leg.ends.role es + 1)) (due leg.ends.role es))
      by false k m = rw (deadline_before, k) refl
      by true k m = rw (h.of_acked, m refl, h.of_edge_shown, at, deadline_before, k) refl

  module _ (b x : Bool) (kb : has_opened (answer_to (end_state leg.ends.role es e) p) ≡ b) (kx : counts (end_state leg.ends.role es e) p ≡ x) where
    passive : b ≡ true → x ≡ is_passive leg.ends.role
    passive k = sym kx ∙ opening_counts leg.ends.role (answer_to (end_state leg.ends.role es e) p) (kb ∙ k)

    opened_heard : opened leg.ends.role (record e { came = Packet p; ending = Unspoken } ∷ es) ≡ (opened leg.ends.role es || b)
    opened_heard = ap (λ (c : Bool). opened leg.ends.role es || c) kb

    phase_heard : cond b phase.Open leg.phase ≡ phase_of (opened leg.ends.role (record e { came = Packet p; ending = Unspoken } ∷ es)) (is_greeted (record e { came = Packet p; ending = Unspoken } ∷ es))
    phase_heard = by b ∙ sym (ap (λ (c : Bool). phase_of c (is_greeted (record e { came = Packet p; ending = Unspoken } ∷ es))) opened_heard)
      where
        by : (c : Bool) → cond c phase.Open leg.phase ≡ phase_of (opened leg.ends.role es || c) (is_greeted (record e { came = Packet p; ending = Unspoken } ∷ es))
        by true = ap (λ (d : Bool). phase_of d (is_greeted (record e { came = Packet p; ending = Unspoken } ∷ es))) (sym (or_true (opened leg.ends.role es)))
        by false = h.of_phase

    shown_heard : cond x (max (cond b (edge_by leg.ends.role leg.shown p) leg.shown) (place_or_zero (ack_place (end_state leg.ends.role es e) p +ℤ pos p.window))) (cond b (edge_by leg.ends.role leg.shown p) leg.shown)
        ≡ shown leg.ends.role (record e { came = Packet p; ending = Unspoken } ∷ es)
    shown_heard = edge_heard leg.ends.role b x leg.shown p.window (place_or_zero (ack_place (end_state leg.ends.role es e) p +ℤ pos p.window)) passive p refl
        ∙ rw (h.of_edge_shown, kb, kx) refl

    queue_shown_heard : cond x (max (cond b (edge_by leg.ends.role q.shown p) q.shown) (place_or_zero (ack_place (end_state leg.ends.role es e) p +ℤ pos p.window))) (cond b (edge_by leg.ends.role q.shown p) q.shown)
        ≡ shown leg.ends.role (record e { came = Packet p; ending = Unspoken } ∷ es)
    queue_shown_heard = ap (λ (n : ℕ). cond x (max (cond b (edge_by leg.ends.role n p) n) (place_or_zero (ack_place (end_state leg.ends.role es e) p +ℤ pos p.window))) (cond b (edge_by leg.ends.role n p) n)) (h.of_shown ∙ sym h.of_edge_shown) ∙ shown_heard

    acked_heard : cond x (max q.acked (place_or_zero (ack_place (end_state leg.ends.role es e) p))) q.acked ≡ acked leg.ends.role (record e { came = Packet p; ending = Unspoken } ∷ es)
    acked_heard = rw (h.of_acked, kx) refl

    fired_heard : cond (x || b) 0 leg.fired ≡ tries leg.ends.role (record e { came = Packet p; ending = Unspoken } ∷ es)
    fired_heard = rw (h.of_fired, kx, kb) refl

    told_first : (o : opened leg.ends.role (record e { came = Packet p; ending = Unspoken } ∷ es) ≡ false) → opened leg.ends.role (record e { came = Nothing; ending = Unspoken } ∷ es) ≡ false
    told_first o = or-false (opened leg.ends.role es) ∙ (or_parts (opened leg.ends.role es) (opens (end_state leg.ends.role es e) (Packet p)) o).0

    -- the window
    window_heard : (w : Window) → (x ≡ true → (os : List Offer) → IsWindowOf leg.window os → IsWindowOf w (record { at = text_place (end_state leg.ends.role es e) p; text = letters_in p; edge = leg.window.edge } ∷ os))
        → (x ≡ false → w ≡ leg.window) → IsWindowOf w (offers leg.ends.role (record e { came = Packet p; ending = Unspoken } ∷ es))
    window_heard w t f = subst (λ (c : Bool). IsWindowOf w (cond c (record { at = text_place (end_state leg.ends.role es e) p; text = letters_in p; edge = (told_at leg.ends.role es e).edge } ∷ offers leg.ends.role es) (offers leg.ends.role es))) (sym kx) (by x t f)
      where
        by : (c : Bool) → (c ≡ true → (os : List Offer) → IsWindowOf leg.window os → IsWindowOf w (record { at = text_place (end_state leg.ends.role es e) p; text = letters_in p; edge = leg.window.edge } ∷ os)) → (c ≡ false → w ≡ leg.window)
            → IsWindowOf w (cond c (record { at = text_place (end_state leg.ends.role es e) p; text = letters_in p; edge = (told_at leg.ends.role es e).edge } ∷ offers leg.ends.role es) (offers leg.ends.role es))
        by true t f = subst (λ (n : ℕ). IsWindowOf w (record { at = text_place (end_state leg.ends.role es e) p; text = letters_in p; edge = n } ∷ offers leg.ends.role es)) h.of_edge (t refl (offers leg.ends.role es) h.of_window)
        by false t f = subst (λ (v : Window). IsWindowOf v (offers leg.ends.role es)) (sym (f refl)) h.of_window

    same_shown : x ≡ true → cond b (edge_by leg.ends.role leg.shown p) leg.shown ≡ leg.shown
    same_shown k = by b passive
      where
        of : (r : Role) → x ≡ is_passive r → edge_by r leg.shown p ≡ leg.shown
        of (role.Active own) m = absurd (true≢false (sym k ∙ m))
        of (role.Passive other mss) m = refl

        by : (c : Bool) → (c ≡ true → x ≡ is_passive leg.ends.role) → cond c (edge_by leg.ends.role leg.shown p) leg.shown ≡ leg.shown
        by true m = of leg.ends.role (m refl)
        by false m = refl

    -- the leg after the packet, its parts chosen one by one
    pub stands_heard : (w : Window) → (x ≡ true → (os : List Offer) → IsWindowOf leg.window os → IsWindowOf w (record { at = text_place (end_state leg.ends.role es e) p; text = letters_in p; edge = leg.window.edge } ∷ os))
        → (x ≡ false → w ≡ leg.window) → w.edge ≡ leg.window.edge
        → IsLegOf (record leg {
          phase = cond b phase.Open leg.phase;
          other = cond b (other_by leg.ends.role leg.other p) leg.other;
          mss = cond b (mss_by leg.ends.role leg.mss p) leg.mss;
          window = w;
          shown = cond x (max (cond b (edge_by leg.ends.role leg.shown p) leg.shown) (place_or_zero (ack_place (end_state leg.ends.role es e) p +ℤ pos p.window))) (cond b (edge_by leg.ends.role leg.shown p) leg.shown);
          fired = cond (x || b) 0 leg.fired;
          deadline = cond x (cond (rises_by q.acked (cond b (edge_by leg.ends.role leg.shown p) leg.shown) (ack_place (end_state leg.ends.role es e) p) p.window) (now + second) leg.deadline) leg.deadline;
          owes = owes_for leg.ends.role p (answer_to (end_state leg.ends.role es e) p);
        })
        (record {
          acked = cond x (max q.acked (place_or_zero (ack_place (end_state leg.ends.role es e) p))) q.acked;
          sent = q.sent;
          shown = cond x (max (cond b (edge_by leg.ends.role q.shown p) q.shown) (place_or_zero (ack_place (end_state leg.ends.role es e) p +ℤ pos p.window))) (cond b (edge_by leg.ends.role q.shown p) q.shown);
        })
        (record e { came = Packet p; ending = Unspoken } ∷ es)
    stands_heard w t f g = record {
      of_right = (record { over = h.of_right.0.over; fired = h.of_right.0.fired; came = tt; ending = tt }, h.of_right.1);
      of_phase = phase_heard;
      of_own = own_now leg q e es h ∙ sym (own_heard e es p leg.ends.role);
      of_other = ap (λ (n : ℕ). cond b (other_by leg.ends.role n p) n) (other_now leg q e es h) ∙ sym (peer_heard e es p leg.ends.role b kb);
      of_mss = ap (λ (n : ℕ). cond b (mss_by leg.ends.role n p) n) (h.of_mss ∙ ap send_mss (mss_idle e.tick e.ticked e.fired es leg.ends.role)) ∙ sym (mss_heard e es p leg.ends.role b kb);
      of_base = h.of_base;
      of_edge = g ∙ h.of_edge;
      of_first = λ o n. h.of_first (told_first o) n;
      of_window = window_heard w t f;
      of_sent = h.of_sent;
      of_edge_shown = shown_heard;
      of_shown = queue_shown_heard;
      of_acked = acked_heard;
      of_owes = refl;
      of_running = h.of_running;
      of_deadline = deadline_heard x kx (cond b (edge_by leg.ends.role leg.shown p) leg.shown) same_shown;
      of_fired = fired_heard;
    }

-- ---- the leg of the code is that
leg_is : (b x : Bool) (leg : LegValue) (p : PacketValue) (w : Window) (a : ℕ) (ack : ℤ) (now : ℕ) (o : Bool) → (x ≡ false → w ≡ leg.window)
    → record (leg_counted x (leg_opened b leg p) w a ack p.window now) { owes = o } ≡ record leg {
      phase = cond b phase.Open leg.phase;
      other = cond b (other_by leg.ends.role leg.other p) leg.other;
      mss = cond b (mss_by leg.ends.role leg.mss p) leg.mss;
      window = w;
      shown = cond x (max (cond b (edge_by leg.ends.role leg.shown p) leg.shown) (place_or_zero (ack +ℤ pos p.window))) (cond b (edge_by leg.ends.role leg.shown p) leg.shown);
      fired = cond (x || b) 0 leg.fired;
      deadline = cond x (cond (rises_by a (cond b (edge_by leg.ends.role leg.shown p) leg.shown) ack p.window) (now + second) leg.deadline) leg.deadline;
      owes = o;
    }
leg_is true true leg p w a ack now o f = refl
leg_is false true leg p w a ack now o f = refl
leg_is true false leg p w a ack now o f = ap (λ (v : Window). record leg { phase = phase.Open; other = other_by leg.ends.role leg.other p; mss = mss_by leg.ends.role leg.mss p; window = v; shown = edge_by leg.ends.role leg.shown p; fired = 0; owes = o }) (sym (f refl))
leg_is false false leg p w a ack now o f = ap (λ (v : Window). record leg { window = v; owes = o }) (sym (f refl))

marks_is : (b x : Bool) (r : Role) (q : Queue) (p : PacketValue) (ack : ℤ)
    → marks (queue_counted x (queue_opened b r q p) ack p.window) ≡ record {
      acked = cond x (max q.acked (place_or_zero ack)) q.acked;
      sent = q.sent;
      shown = cond x (max (cond b (edge_by r q.shown p) q.shown) (place_or_zero (ack +ℤ pos p.window))) (cond b (edge_by r q.shown p) q.shown);
    }
marks_is true true r q p ack = refl
marks_is true false r q p ack = refl
marks_is false true r q p ack = refl
marks_is false false r q p ack = refl

pub window_of : (b : Bool) (leg : LegValue) (p : PacketValue) → (leg_opened b leg p).window ≡ leg.window
window_of true leg p = refl
window_of false leg p = refl

acked_of : (b : Bool) (r : Role) (q : Queue) (p : PacketValue) → (queue_opened b r q p).acked ≡ q.acked
acked_of true r q p = refl
acked_of false r q p = refl

uncounted : (leg : LegValue) (w : Window) (a : ℕ) (ack : ℤ) (size now : ℕ) (x : Bool) → x ≡ false → (leg_counted x leg w a ack size now).window ≡ leg.window
uncounted leg w a ack size now true k = absurd (true≢false k)
uncounted leg w a ack size now false k = refl

pub heard_of : (leg mid after new : LegValue) (q q1 q2 : Queue) (now : ℕ) (p : PacketValue) (given : LegAnswer)
    → given ≡ answer_to (end_state_of leg q) p
    → mid ≡ leg_opened (has_opened given) leg p → q1 ≡ queue_opened (has_opened given) leg.ends.role q p
    → Counts (counts_as leg.ends.role given) (end_state_of leg q) now p mid after q1 q2
    → new ≡ record after { owes = owes_for leg.ends.role p given }
    → Heard now p leg new q q2 given
heard_of leg mid after new q q1 q2 now p given g o oq c n = record {
  answer = λ e es h. g ∙ ap (λ (a : EndState). answer_to a p) (place_is leg q e es h);
  stands = λ e es at h.
      (let here = place_is leg q e es h in
      let same = g ∙ ap (λ (a : EndState). answer_to a p) here in
      let kb = ap has_opened (sym same) in
      let kx = ap (counts_as leg.ends.role) (sym same) in
      let ack = ap (λ (a : EndState). ack_place a p) here in
      let mid_window = ap (λ (l : LegValue). l.window) o ∙ window_of (has_opened given) leg p in
      let still = λ (k : counts_as leg.ends.role given ≡ false). ap (λ (l : LegValue). l.window) c.leg ∙ uncounted mid after.window q1.acked (ack_place (end_state_of leg q) p) p.window now (counts_as leg.ends.role given) k ∙ mid_window in
      let step = stands_heard leg q now e es p at h (has_opened given) (counts_as leg.ends.role given) kb kx after.window
      (λ k os s. subst (λ (a : EndState). IsWindowOf after.window (record { at = text_place a p; text = letters_in p; edge = leg.window.edge } ∷ os)) here
      (subst (λ (v : Window). IsWindowOf after.window (record { at = text_place (end_state_of leg q) p; text = letters_in p; edge = v.edge } ∷ os)) mid_window
      (c.window k os (subst (λ (v : Window). IsWindowOf v os) (sym mid_window) s))))
      still (c.edge ∙ ap (λ (v : Window). v.edge) mid_window) in
      let leg_now = n ∙ ap (λ (l : LegValue). record l { owes = owes_for leg.ends.role p given }) c.leg
      ∙ ap (λ (l : LegValue). record (leg_counted (counts_as leg.ends.role given) l after.window q1.acked (ack_place (end_state_of leg q) p) p.window now) { owes = owes_for leg.ends.role p given }) o
      ∙ ap (λ (m : ℕ). record (leg_counted (counts_as leg.ends.role given) (leg_opened (has_opened given) leg p) after.window m (ack_place (end_state_of leg q) p) p.window now) { owes = owes_for leg.ends.role p given }) (ap (λ (u : Queue). u.acked) oq ∙ acked_of (has_opened given) leg.ends.role q p)
      ∙ ap (λ (z : ℤ). record (leg_counted (counts_as leg.ends.role given) (leg_opened (has_opened given) leg p) after.window q.acked z p.window now) { owes = owes_for leg.ends.role p given }) ack
      ∙ ap (λ (a : LegAnswer). record (leg_counted (counts_as leg.ends.role given) (leg_opened (has_opened given) leg p) after.window q.acked (ack_place (end_state leg.ends.role es e) p) p.window now) { owes = owes_for leg.ends.role p a }) same
      ∙ leg_is (has_opened given) (counts_as leg.ends.role given) leg p after.window q.acked (ack_place (end_state leg.ends.role es e) p) now (owes_for leg.ends.role p (answer_to (end_state leg.ends.role es e) p)) still in
      let marks_now = ap marks (c.moved ∙ ap (λ (u : Queue). queue_counted (counts_as leg.ends.role given) u (ack_place (end_state_of leg q) p) p.window) oq
      ∙ ap (λ (z : ℤ). queue_counted (counts_as leg.ends.role given) (queue_opened (has_opened given) leg.ends.role q p) z p.window) ack)
      ∙ marks_is (has_opened given) (counts_as leg.ends.role given) leg.ends.role q p (ack_place (end_state leg.ends.role es e) p) in
      subst (λ (l : LegValue). IsLegOf l (marks q2) (record e { came = Packet p; ending = Unspoken } ∷ es)) (sym leg_now)
      (subst (λ (m : Marks). IsLegOf (record leg {
        phase = cond (has_opened given) phase.Open leg.phase;
        other = cond (has_opened given) (other_by leg.ends.role leg.other p) leg.other;
        mss = cond (has_opened given) (mss_by leg.ends.role leg.mss p) leg.mss;
        window = after.window;
        shown = cond (counts_as leg.ends.role given) (max (cond (has_opened given) (edge_by leg.ends.role leg.shown p) leg.shown) (place_or_zero (ack_place (end_state leg.ends.role es e) p +ℤ pos p.window))) (cond (has_opened given) (edge_by leg.ends.role leg.shown p) leg.shown);
        fired = cond (counts_as leg.ends.role given || has_opened given) 0 leg.fired;
        deadline = cond (counts_as leg.ends.role given) (cond (rises_by q.acked (cond (has_opened given) (edge_by leg.ends.role leg.shown p) leg.shown) (ack_place (end_state leg.ends.role es e) p) p.window) (now + second) leg.deadline) leg.deadline;
        owes = owes_for leg.ends.role p (answer_to (end_state leg.ends.role es e) p);
      }) m (record e { came = Packet p; ending = Unspoken } ∷ es)) (sym marks_now) step));
}

-- ---- what counts acknowledges what was sent
pub counted_within : (at : EndState) (p : PacketValue) → counts at p ≡ true → ack_place at p ≤ℤ pos at.sent
counted_within at p k = by at.is_open (sym (counts_by at p) ∙ k)
  where
    within : (z : ℤ) (n : ℕ) → int_le z (pos n) ≡ true → z ≤ℤ pos n
    within z n m = omega (arith, ints, m)

    of : (r g o x : Bool) → has_opened (cond r (cond x answer.Reset answer.Ignored) (cond (g && o) answer.Opened answer.Ignored)) ≡ true → o ≡ true
    of true g o true m = absurd (false≢true m)
    of true g o false m = absurd (false≢true m)
    of false true true x m = refl
    of false true false x m = absurd (false≢true m)
    of false false o x m = absurd (false≢true m)

    zero : (z : ℤ) (n : ℕ) → is_at z 0 ≡ true → z ≤ℤ pos n
    zero z n m = omega (arith, ints, (and_parts (int_le z (pos 0)) (int_le (pos 0) z) m).0)

    first : (r : Role) → at.role ≡ r → counts_first r at p ≡ true → ack_place at p ≤ℤ pos at.sent
    first (role.Active own) e m = absurd (false≢true m)
    first (role.Passive other mss) e m =
        (let o = of (has_rst p) at.is_greeted (opens_as at.role at p) (resets_as at.role at p) m in
        let o' : opens_as (role.Passive other mss) at p ≡ true = sym (ap (λ (r : Role). opens_as r at p) e) ∙ o in
        let a = (and_parts (has_ack p) (not (has_syn p || has_rst p) && (is_in_reach at p && is_at (ack_place at p) 0)) o').1 in
        let c = (and_parts (not (has_syn p || has_rst p)) (is_in_reach at p && is_at (ack_place at p) 0) a).1 in
        zero (ack_place at p) at.sent (and_parts (is_in_reach at p) (is_at (ack_place at p) 0) c).1)

    by : (b : Bool) → cond b (counts_open at p) (counts_first at.role at p) ≡ true → ack_place at p ≤ℤ pos at.sent
    by true m = within (ack_place at p) at.sent (and_parts (is_in_reach at p) (int_le (ack_place at p) (pos at.sent)) (and_parts (has_ack p && not (has_syn p || has_rst p)) (is_in_reach at p && int_le (ack_place at p) (pos at.sent)) m).1).1
    by false m = first at.role refl m

pub sent_of : (b : Bool) (r : Role) (q : Queue) (p : PacketValue) → (queue_opened b r q p).sent ≡ q.sent
sent_of true r q p = refl
sent_of false r q p = refl

pub cond_below : (b : Bool) (x y n : ℕ) → x < n → y < n → cond b x y < n
cond_below true x y n h k = h
cond_below false x y n h k = k

pub counts_moves : {at : EndState} {now : ℕ} {p : PacketValue} {new : LegValue} {q q' : Queue} (b : Bool) → b ≡ true → {view leg : LegValue} → view ≡ leg → Counts true at now p view new q q' → Counts b at now p leg new q q'
counts_moves {at} {now} {p} {new} {q} {q'} b e {view} {leg} v c =
    subst (λ (x : Bool). Counts x at now p leg new q q') (sym e) (subst (λ (l : LegValue). Counts true at now p l new q q') v c)
