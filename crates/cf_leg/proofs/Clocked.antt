-- A leg whose clock was called stands for the events with one that has just begun.
use Rattle.std.proofs.Math.Bool.{or-false}
use Rattle.std.proofs.Common.{◌≡◌, ℕ, ◌+◌, ◌-◌, ◌^◌, ◌<◌, Bool, true, false, cond, not, ◌&&◌, ◌||◌, List, [], ◌∷◌, length, Option, Some, None, refl, sym, ◌∙◌, ap, subst, arith, inl, inr}
use Rattle.std.specs.Prelude.{nat_lt, nat_le}
use Rattle.std.specs.Option.{option_or, is_some}
use Rattle.std.proofs.lemmas.Bool.Decides.{nat_tests}
use Rattle.std.proofs.lemmas.Bool.{cases_Bool, false≢true, and_parts}
use Rattle.cf_outq.specs.SendQueue.{Queue, IsQueue}
use Rattle.cf_outq.specs.SendQueue.{IsQueueOf}
use Rattle.cf_packet.specs.Packet.{PacketValue}
use Rattle.cf_stream.specs.Stream.{letter_count}
use Rattle.cf_leg.proofs.Events.{and_not, greeting_right, open_is, option_or_none}
use Rattle.cf_leg.proofs.Edges.{fired_tells, tells_up}
use Rattle.cf_leg.proofs.Pieces.{count_is}
use Rattle.cf_leg.proofs.Sent.{fired_repeats}
use Rattle.cf_stream.proofs.Extends.{extends_none}
use Rattle.cf_outside.specs.Desk.{DeskValue, SentValue}
use Rattle.cf_leg.specs.Calls.{AreQuietBeforeDue, ClockBreaks, Clocked, SendsAgain, answer_again, greeting_as, greeting_of, oldest, is_due}
use Rattle.cf_leg.specs.Emits.{IsGreeting, fired_at, again, repeats, repeat_open, send_mss, peer_mss, mss_in, syn, syn_ack_for}
use Rattle.cf_leg.specs.Event.{Came, Nothing, Greeting, Packet, Ending, Unspoken, Spoke, Cut, LegEvent, begun, clocked, stream_after, is_settled}
use Rattle.cf_leg.specs.Heard.{opened, acked}
use Rattle.cf_leg.specs.LegValue.{LegValue, IsLegOf, Marks, armed_before, is_open, marks, owed_now, phase_of}
use Rattle.cf_leg.specs.Timer.{armed, clock_answer, due, tries, fires, backoff, second}
use Rattle.cf_leg.specs.Told.{told, letters_sent, letters_sent_by_all, greeting, is_greeted, own_number, peer_number, syn_ack, seq_of}
use Rattle.cf_leg.specs.declared.ends.ClockAnswer.{ClockAnswer}
use Rattle.cf_leg.specs.declared.ends.ClockAnswer.TheVariants as answers
use Rattle.cf_leg.specs.declared.ends.Role.{Role}
use Rattle.cf_leg.specs.declared.ends.Role.TheVariants as role
use Rattle.cf_leg.specs.declared.ends.Advertised.{Advertised}

-- ---- an event in which nothing came yet
module _ (now : ℕ) (ticked : Bool) (fired : List PacketValue) (es : List LegEvent) where
  pub own_idle : (r : Role) → own_number r (record { tick = now; ticked = ticked; fired = fired; came = Nothing; ending = Unspoken } ∷ es) ≡ own_number r es
  own_idle (role.Active own) = refl
  own_idle (role.Passive other mss) = ap seq_of (option_or_none (greeting es))

  pub peer_idle : (r : Role) → peer_number r (record { tick = now; ticked = ticked; fired = fired; came = Nothing; ending = Unspoken } ∷ es) ≡ peer_number r es
  peer_idle (role.Active own) = ap seq_of (option_or_none (syn_ack own es))
  peer_idle (role.Passive other mss) = refl

  pub mss_idle : (r : Role) → peer_mss r (record { tick = now; ticked = ticked; fired = fired; came = Nothing; ending = Unspoken } ∷ es) ≡ peer_mss r es
  mss_idle (role.Active own) = ap mss_in (option_or_none (syn_ack own es))
  mss_idle (role.Passive other mss) = refl

  pub greeted_idle : is_greeted (record { tick = now; ticked = ticked; fired = fired; came = Nothing; ending = Unspoken } ∷ es) ≡ is_greeted es
  greeted_idle = ap is_some (option_or_none (greeting es))

  pub opened_idle : (r : Role) → opened r (record { tick = now; ticked = ticked; fired = fired; came = Nothing; ending = Unspoken } ∷ es) ≡ opened r es
  opened_idle r = or-false (opened r es)

  pub armed_idle : (r : Role) → armed r (record { tick = now; ticked = ticked; fired = fired; came = Nothing; ending = Unspoken } ∷ es) ≡ armed r es
  armed_idle r =
      ap (λ (b : Bool). cond b (nat_lt (acked r es) (letter_count (stream_after es))) (is_some (option_or (greeting es) None))) (or-false (opened r es))
      ∙ ap (λ (b : Bool). cond (opened r es) (nat_lt (acked r es) (letter_count (stream_after es))) b) greeted_idle

-- ---- a list whose last event is over
pub settled_armed : (r : Role) (es : List LegEvent) → is_settled es ≡ true → armed_before r es ≡ armed r es
settled_armed r [] h = refl
settled_armed r (e ∷ es) h = by e.came e.ending h
  where
    by : (c : Came) (n : Ending) → is_settled (record e { came = c; ending = n } ∷ es) ≡ true → armed_before r (record e { came = c; ending = n } ∷ es) ≡ armed r (record e { came = c; ending = n } ∷ es)
    by c (Spoke whole roomy outs) k = refl
    by Nothing Unspoken k = sym (armed_idle e.tick e.ticked e.fired es r)
    by (Greeting p) Unspoken k = absurd (false≢true k)
    by (Packet p) Unspoken k = absurd (false≢true k)
    by c (Cut p) k = absurd (false≢true k)

pub settled_owes : (r : Role) (es : List LegEvent) → is_settled es ≡ true → owed_now r es ≡ false
settled_owes r [] h = refl
settled_owes r (e ∷ es) h = by e.came e.ending h
  where
    by : (c : Came) (n : Ending) → is_settled (record e { came = c; ending = n } ∷ es) ≡ true → owed_now r (record e { came = c; ending = n } ∷ es) ≡ false
    by c (Spoke whole roomy outs) k = refl
    by Nothing Unspoken k = refl
    by (Greeting p) Unspoken k = absurd (false≢true k)
    by (Packet p) Unspoken k = absurd (false≢true k)
    by c (Cut p) k = absurd (false≢true k)

-- ---- the step
module _ (leg : LegValue) (m : Marks) (now : ℕ) (es : List LegEvent) (settled : is_settled es ≡ true) (h : IsLegOf leg m es) where
  pub fires_is : (outs : List PacketValue) → fires leg.ends.role es (clocked now outs) ≡ is_due leg now
  fires_is outs =
      ap (λ (b : Bool). b && nat_le (due leg.ends.role es) now) (sym (h.of_running ∙ settled_armed leg.ends.role es settled))
      ∙ ap (λ (n : ℕ). leg.running && nat_le n now) (sym h.of_deadline)

  -- an event that has just begun, after a clock call or without one
  abbrev begins : Bool → List PacketValue → LegEvent
  begins ticked outs = record { tick = now; ticked = ticked; fired = outs; came = Nothing; ending = Unspoken }

  pub idle_stands : (ticked : Bool) (outs : List PacketValue) (deadline fired : ℕ) → outs ≡ fired_at leg.ends es (begins ticked outs)
      → letters_sent_by_all (own_number leg.ends.role es) (letters_sent leg.ends.role es) outs ≡ letters_sent leg.ends.role es
      → deadline ≡ cond (nat_lt 0 (length outs)) (now + backoff (tries leg.ends.role es + 1)) (due leg.ends.role es)
      → fired ≡ cond (nat_lt 0 (length outs)) (tries leg.ends.role es + 1) (tries leg.ends.role es)
      → IsLegOf (record leg { deadline = deadline; fired = fired }) m (begins ticked outs ∷ es)
  idle_stands ticked outs deadline fired right c d f = record {
    of_right = (record { over = settled; fired = right; came = tt; ending = tt }, h.of_right);
    of_phase = h.of_phase ∙ ap (λ (b : Bool). phase_of b (is_greeted es)) (sym (opened_idle now ticked outs es leg.ends.role)) ∙ ap (λ (b : Bool). phase_of (opened leg.ends.role (begins ticked outs ∷ es)) b) (sym (greeted_idle now ticked outs es));
    of_own = h.of_own ∙ sym (own_idle now ticked outs es leg.ends.role);
    of_other = h.of_other ∙ sym (peer_idle now ticked outs es leg.ends.role);
    of_mss = h.of_mss ∙ ap send_mss (sym (mss_idle now ticked outs es leg.ends.role));
    of_base = h.of_base ∙ ap (λ (u : Advertised). u.base) (sym told_still);
    of_edge = h.of_edge ∙ ap (λ (u : Advertised). u.edge) (sym told_still);
    of_first = λ o g. told_still ∙ h.of_first (sym (opened_idle now ticked outs es leg.ends.role) ∙ o) (sym (greeted_idle now ticked outs es) ∙ g);
    of_window = h.of_window;
    of_sent = h.of_sent ∙ sym c;
    of_edge_shown = h.of_edge_shown;
    of_shown = h.of_shown;
    of_acked = h.of_acked;
    of_owes = h.of_owes ∙ settled_owes leg.ends.role es settled;
    of_running = h.of_running ∙ settled_armed leg.ends.role es settled;
    of_deadline = d ∙ ap (λ (b : Bool). cond (b || false) (now + 1 + second) (cond (nat_lt 0 (length outs)) (now + backoff (tries leg.ends.role es + 1)) (due leg.ends.role es)))
        (sym (ap (λ (b : Bool). b && not (armed leg.ends.role es)) (armed_idle now ticked outs es leg.ends.role) ∙ and_not (armed leg.ends.role es)));
    of_fired = f;
  }
    where
      told_still : told leg.ends.role (begins ticked outs ∷ es) ≡ told leg.ends.role es
      told_still = fired_tells leg.ends es h.of_right (tells_up leg.ends es h.of_right) (begins ticked outs) right

-- a leg whose event begins without a clock call
pub begun_stands : (leg : LegValue) (m : Marks) (tick : ℕ) (es : List LegEvent) → is_settled es ≡ true → IsLegOf leg m es → IsLegOf leg m (begun tick ∷ es)
begun_stands leg m tick es settled h = idle_stands leg m tick es settled h false [] leg.deadline leg.fired refl refl h.of_deadline h.of_fired

-- ---- the segment that goes out again
module _ (leg : LegValue) (q : Queue) (es : List LegEvent) (h : IsLegOf leg (marks q) es) where
  pub oldest_is : oldest leg q (stream_after es) ≡ repeat_open leg.ends es
  oldest_is = rw (h.of_own, h.of_other, h.of_base, h.of_edge, h.of_mss, h.of_sent, h.of_acked) refl

  -- the greeting
  pub greeting_is : (p : PacketValue) → greeting es ≡ Some p → greeting_of leg ≡ p
  greeting_is p g = by leg.ends.role (greeting_right leg.ends es h.of_right p g) h.of_own h.of_other
    where
      by : (r : Role) → IsGreeting leg.ends r p → leg.own ≡ own_number r es → leg.other ≡ peer_number r es → greeting_as leg.ends leg.own leg.other r ≡ p
      by (role.Active own) k o n = ap (λ (x : ℕ). syn leg.ends x) o ∙ sym k
      by (role.Passive other mss) k o n = ap (λ (x : ℕ). syn_ack_for leg.ends x leg.own) n ∙ ap (λ (x : ℕ). syn_ack_for leg.ends other x) (o ∙ ap seq_of g) ∙ sym k

-- ---- the call
pub quiet_of : (leg : LegValue) (q : Queue) (now : ℕ) (before : Option (List SentValue)) → is_due leg now ≡ false → Clocked now leg leg q answers.Quiet before before
quiet_of leg q now before k = record {
  outs = [];
  packets = refl;
  stands = λ es st h s. idle_stands leg (marks q) now es st h true [] leg.deadline leg.fired (rw (fires_is leg (marks q) now es st h [] ∙ k) refl) refl h.of_deadline h.of_fired;
  answer = λ es st h s. rw (fires_is leg (marks q) now es st h [] ∙ k) refl;
}

not_due : (running : Bool) (deadline now : ℕ) → now < cond running deadline (2 ^ 64 - 1) → (running && nat_le deadline now) ≡ false
not_due true deadline now h = grind (arith, nat_tests, h)
not_due false deadline now h = refl

pub quiet_before : AreQuietBeforeDue
quiet_before leg q now before h = quiet_of leg q now before (not_due leg.running leg.deadline now h)

pub spent_of : (leg : LegValue) (q : Queue) (now : ℕ) (before : Option (List SentValue)) → is_due leg now ≡ true → nat_lt leg.fired 6 ≡ false → Clocked now leg leg q answers.NoAnswer before before
spent_of leg q now before k m = record {
  outs = [];
  packets = refl;
  stands = λ es st h s. idle_stands leg (marks q) now es st h true [] leg.deadline leg.fired (rw (fires_is leg (marks q) now es st h [] ∙ k, ← h.of_fired, m) refl) refl h.of_deadline h.of_fired;
  answer = λ es st h s. rw (fires_is leg (marks q) now es st h [] ∙ k, ← h.of_fired, m) refl;
}

module _ (leg : LegValue) (q : Queue) (iq : IsQueue q) (now : ℕ) (before after : DeskValue) (failed : Bool)
    (k : is_due leg now ≡ true) (m : nat_lt leg.fired 6 ≡ true) (a : SendsAgain leg q now before after failed)
    (es : List LegEvent) (st : is_settled es ≡ true) (h : IsLegOf leg (marks q) es) (s : IsQueueOf q (stream_after es)) where
  fires_now : fires leg.ends.role es (clocked now (a.out ∷ [])) ≡ true
  fires_now = fires_is leg (marks q) now es st h (a.out ∷ []) ∙ k

  few : nat_lt (tries leg.ends.role es) 6 ≡ true
  few = ap (λ (n : ℕ). nat_lt n 6) (sym h.of_fired) ∙ m

  armed_now : armed leg.ends.role es ≡ true
  armed_now = sym (settled_armed leg.ends.role es st) ∙ sym h.of_running ∙ (and_parts leg.running (nat_le leg.deadline now) k).0

  again_open : is_open leg.phase ≡ true → a.out ∷ [] ≡ repeats leg.ends es
  again_open o = rw (sym (open_is h) ∙ o, a.open_is o (stream_after es) s, oldest_is leg q es h) refl

  greeted_now : is_open leg.phase ≡ false → is_greeted es ≡ true
  greeted_now o = sym (ap (λ (b : Bool). cond b (nat_lt (acked leg.ends.role es) (letter_count (stream_after es))) (is_greeted es)) (sym (open_is h) ∙ o)) ∙ armed_now

  again_first : is_open leg.phase ≡ false → a.out ∷ [] ≡ repeats leg.ends es
  again_first o = rw (sym (open_is h) ∙ o) (by (greeting es) refl (greeted_now o))
    where
      by : (g : Option PacketValue) → greeting es ≡ g → is_some g ≡ true → a.out ∷ [] ≡ again (greeting es)
      by None e n = absurd (false≢true n)
      by (Some p) e n = ap (λ (x : PacketValue). x ∷ []) (a.first_is o ∙ greeting_is leg q es h p e) ∙ sym (ap again e)

  again_is : a.out ∷ [] ≡ fired_at leg.ends es (clocked now (a.out ∷ []))
  again_is = rw (fires_now, few) (elim (cases_Bool (is_open leg.phase)) [ inl o ↦ again_open o | inr o ↦ again_first o ])

  carries_still : letters_sent_by_all (own_number leg.ends.role es) (letters_sent leg.ends.role es) (a.out ∷ []) ≡ letters_sent leg.ends.role es
  carries_still =
      let count = count_is q (stream_after es) s in
      (fired_repeats leg.ends es h.of_right (stream_after es) (extends_none (stream_after es)) (omega (arith, count, iq.limit)) (omega (arith, h.of_sent, s.sent)) (omega arith) (clocked now (a.out ∷ [])) again_is).same

  pub again_stands : IsLegOf (record leg { deadline = now + backoff (leg.fired + 1); fired = leg.fired + 1 }) (marks q) (clocked now (a.out ∷ []) ∷ es)
  again_stands = idle_stands leg (marks q) now es st h true (a.out ∷ []) (now + backoff (leg.fired + 1)) (leg.fired + 1)
      again_is carries_still (ap (λ (n : ℕ). now + backoff (n + 1)) h.of_fired) (ap (λ (n : ℕ). n + 1) h.of_fired)

  given_is : answer_again leg q ≡ cond (opened leg.ends.role es && not (nat_lt (acked leg.ends.role es) (letters_sent leg.ends.role es))) answers.Probed answers.Repeated
  given_is =
      elim (cases_Bool (is_open leg.phase)) [
        | inl o ↦ rw (o, sym (open_is h) ∙ o, h.of_acked, h.of_sent) (turn (nat_lt (acked leg.ends.role es) (letters_sent leg.ends.role es)))
        | inr o ↦ rw (o, sym (open_is h) ∙ o) refl
      ]
    where
      turn : (b : Bool) → cond b answers.Repeated answers.Probed ≡ cond (not b) answers.Probed answers.Repeated
      turn true = refl
      turn false = refl

  pub again_answer : answer_again leg q ≡ clock_answer leg.ends.role es (clocked now (a.out ∷ []))
  again_answer = rw (fires_now, few) given_is

pub again_of : (leg new : LegValue) (q : Queue) (now : ℕ) (given : ClockAnswer) (before after : DeskValue) → IsQueue q
    → is_due leg now ≡ true → nat_lt leg.fired 6 ≡ true → SendsAgain leg q now before after false → given ≡ answer_again leg q
    → new ≡ record leg { fired = leg.fired + 1; deadline = now + backoff (leg.fired + 1) } → Clocked now leg new q given before.packets after.packets
again_of leg new q now given before after iq k m a answer is = record {
  outs = a.out ∷ [];
  packets = a.gets;
  stands = λ es st h s. subst (λ (l : LegValue). IsLegOf l (marks q) (clocked now (a.out ∷ []) ∷ es)) (sym is) (again_stands leg q iq now before after false k m a es st h s);
  answer = λ es st h s. answer ∙ again_answer leg q iq now before after false k m a es st h s;
}

-- the repeat of an end whose desk broke it off is right all the same
pub clock_breaks : (leg : LegValue) (q : Queue) (now : ℕ) (before after : DeskValue) → IsQueue q
    → is_due leg now ≡ true → nat_lt leg.fired 6 ≡ true → SendsAgain leg q now before after true → ClockBreaks now leg q before after
clock_breaks leg q now before after iq k m a = record {
  out = a.out;
  breaks = a.gets;
  right = λ es st h s. (again_stands leg q iq now before after true k m a es st h s).of_right.0;
}
