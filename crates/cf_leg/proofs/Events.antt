-- What of a list of events does not depend on how the last one ends, and what an event in which nothing came leaves.
use Rattle.std.proofs.Common.{◌≡◌, ℕ, ◌≤◌, max, Bool, true, false, cond, ◌&&◌, ◌||◌, List, [], ◌∷◌, refl, sym, ◌∙◌, ap, not, subst, arith, Option, Some, None, inl, inr, ◌+◌, length}
use Rattle.std.proofs.lemmas.Bool.{and_right, cases_Bool, cond_both, true≢false, false≢true}
use Rattle.std.proofs.lemmas.Bool.Decides.{nat_tests}
use Rattle.std.specs.Prelude.{nat_lt}
use Rattle.std.specs.Option.{option_or, is_some}
use Rattle.cf_packet.specs.Packet.{PacketValue}
use Rattle.std.proofs.lemmas.Option.{same_Some}
use Rattle.cf_rebuild.specs.ReceiveWindow.{base_of}
use Rattle.cf_stream.specs.Stream.{letter_count}
use Rattle.cf_leg.specs.LegValue.{IsLegOf, LegValue, Marks, is_open, phase_of}
use Rattle.cf_leg.specs.Emits.{AllRight, Greets, IsGreeting, again, cut_packet, fired_at, peer_mss, repeat_open, rst}
use Rattle.cf_stream.specs.Position.{place_or_zero}
use Rattle.cf_leg.specs.declared.ends.Ends.{Ends}
use Rattle.cf_leg.specs.Event.{Came, Nothing, Greeting, Packet, Ending, LegEvent, greeted_by}
use Rattle.cf_leg.specs.Heard.{opened, opens, end_state_if, first_answer, open_answer, acked_by, counts, ack_place, has_opened, opens_as, resets_as}
use Rattle.cf_leg.specs.Segment.{has_rst}
use Rattle.cf_leg.specs.Told.{greeting, greeting_in, is_greeted, own_number, peer_number}
use Rattle.cf_leg.specs.declared.ends.LegAnswer.TheVariants as answer
use Rattle.cf_leg.specs.declared.ends.EndState.{EndState}
use Rattle.cf_leg.specs.declared.ends.Role.{Role}
use Rattle.cf_leg.specs.declared.ends.Role.TheVariants as role

pub option_or_none : {A : Type 0} (o : Option A) → option_or o None ≡ o
option_or_none None = refl
option_or_none (Some x) = refl

pub and_not : (b : Bool) → (b && not b) ≡ false
and_not true = refl
and_not false = refl

-- ---- the ending of the last event bears on none of these
module _ (e : LegEvent) (es : List LegEvent) (n : Ending) where
  pub own_same : (r : Role) → own_number r (record e { ending = n } ∷ es) ≡ own_number r (e ∷ es)
  own_same (role.Active own) = refl
  own_same (role.Passive other mss) = refl

  pub peer_same : (r : Role) → peer_number r (record e { ending = n } ∷ es) ≡ peer_number r (e ∷ es)
  peer_same (role.Active own) = refl
  peer_same (role.Passive other mss) = refl

  pub mss_same : (r : Role) → peer_mss r (record e { ending = n } ∷ es) ≡ peer_mss r (e ∷ es)
  mss_same (role.Active own) = refl
  mss_same (role.Passive other mss) = refl

-- ---- an open leg has greeted
pub or_cases : (a b : Bool) → (a || b) ≡ true → a ≡ false → b ≡ true
or_cases true b h e = absurd (true≢false e)
or_cases false b h e = h

first_greeted : (at : EndState) (p : PacketValue) → has_opened (first_answer at p) ≡ true → at.is_greeted ≡ true
first_greeted at p h = by (has_rst p) (resets_as at.role at p) at.is_greeted (opens_as at.role at p) h
  where
    by : (a b c d : Bool) → has_opened (cond a (cond b answer.Reset answer.Ignored) (cond (c && d) answer.Opened answer.Ignored)) ≡ true → c ≡ true
    by true true c d k = absurd (false≢true k)
    by true false c d k = absurd (false≢true k)
    by false b true d k = refl
    by false b false d k = absurd (false≢true k)

pub opens_greeted : (at : EndState) (c : Came) → at.is_open ≡ false → opens at c ≡ true → at.is_greeted ≡ true
opens_greeted at Nothing e h = absurd (false≢true h)
opens_greeted at (Greeting p) e h = absurd (false≢true h)
opens_greeted at (Packet p) e h = first_greeted at p (subst (λ (b : Bool). has_opened (cond b (open_answer at p) (first_answer at p)) ≡ true) e h)

greeted_on : (o : Option PacketValue) (p : Option PacketValue) → is_some o ≡ true → is_some (option_or o p) ≡ true
greeted_on None p h = absurd (false≢true h)
greeted_on (Some q) p h = refl

pub open_is_greeted : (r : Role) (es : List LegEvent) → opened r es ≡ true → is_greeted es ≡ true
open_is_greeted r [] h = absurd (false≢true h)
open_is_greeted r (e ∷ es) h =
    elim (cases_Bool (opened r es)) [
      | inl o ↦ greeted_on (greeting es) _ (open_is_greeted r es o)
      | inr o ↦ greeted_on (greeting es) _ (opens_greeted (end_state_if (opened r es) r es e) e.came o (or_cases (opened r es) (opens (end_state_if (opened r es) r es e) e.came) h o))
    ]

-- ---- phases
pub phase_is_open : (o g : Bool) → is_open (phase_of o g) ≡ o
phase_is_open true g = refl
phase_is_open false true = refl
phase_is_open false false = refl

pub open_is : {leg : LegValue} {m : Marks} {es : List LegEvent} → IsLegOf leg m es → is_open leg.phase ≡ opened leg.ends.role es
open_is {leg} {m} {es} h = ap is_open h.of_phase ∙ phase_is_open (opened leg.ends.role es) (is_greeted es)

-- ---- what is taken
pub taken_is : {leg : LegValue} {m : Marks} {es : List LegEvent} (h : IsLegOf leg m es) → letter_count h.of_window.taken ≡ base_of leg.window
taken_is {leg} h = ap (λ (b : Bool). length h.of_window.taken.bytes + cond b 1 0) (sym h.of_window.ended) ∙ ap (λ (n : ℕ). n + cond leg.window.ended 1 0) (sym h.of_window.count)

-- ---- what was sent as a greeting
pub greeting_right : (ends : Ends) (es : List LegEvent) → AllRight ends es → (p : PacketValue) → greeting es ≡ Some p → IsGreeting ends ends.role p
greeting_right ends [] a p g = absurd (false≢true (ap is_some g))
greeting_right ends (e ∷ es) a p g = by (greeting_right ends es a.1) (greeting es) refl e.came a.0.came g
  where
    by : ((x : PacketValue) → greeting es ≡ Some x → IsGreeting ends ends.role x) → (o : Option PacketValue) → greeting es ≡ o → (c : Came) → Greets ends es c → option_or o (greeting_in c) ≡ Some p → IsGreeting ends ends.role p
    by r (Some x) k c b m = r p (k ∙ m)
    by r None k Nothing b m = absurd (false≢true (ap is_some m))
    by r None k (Packet x) b m = absurd (false≢true (ap is_some m))
    by r None k (Greeting x) b m = subst (λ (y : PacketValue). IsGreeting ends ends.role y) (same_Some x p m) b.0

-- ---- a greeting is no greeting of an open leg
pub no_greeting : (ends : Ends) (es : List LegEvent) (b : Bool) (at : EndState) (c : Came) → (b ≡ true → is_greeted es ≡ true) → Greets ends es c → (b || opens at c) ≡ true → greeted_by c ≡ []
no_greeting ends es b at Nothing g h o = refl
no_greeting ends es b at (Packet p) g h o = refl
no_greeting ends es true at (Greeting p) g h o = absurd (true≢false (sym (g refl) ∙ h.1))
no_greeting ends es false at (Greeting p) g h o = absurd (false≢true o)

-- ---- acknowledged letters stay so
pub acked_grows : (at : EndState) (c : Came) (before : ℕ) → before ≤ acked_by at c before
acked_grows at Nothing before = omega arith
acked_grows at (Greeting p) before = omega arith
acked_grows at (Packet p) before = by (counts at p)
  where
    by : (b : Bool) → before ≤ cond b (max before (place_or_zero (ack_place at p))) before
    by true = omega arith
    by false = omega arith

-- ---- what was open or had greeted before arms nothing
pub arms_nothing : (o0 g0 : Bool) (a a0 n : ℕ) → a0 ≤ a → (o0 ≡ false → g0 ≡ true) → (nat_lt a n && not (cond o0 (nat_lt a0 n) g0)) ≡ false
arms_nothing true g0 a a0 n l k = grind (arith, nat_tests, l)
arms_nothing false g0 a a0 n l k = rw (k refl) (and_right (nat_lt a n) false refl)

-- ---- what an end sends, case by case

-- a firing sends nothing, the greeting again, or the repeat of an open end
pub fired_as : (P : List PacketValue → Type 0) (ends : Ends) (es : List LegEvent) (e : LegEvent) → P []
    → ((p : PacketValue) → opened ends.role es ≡ false → greeting es ≡ Some p → P (p ∷ [])) → (opened ends.role es ≡ true → P (repeat_open ends es ∷ [])) → P (fired_at ends es e)
fired_as P ends es e none first repeat = cond_both _ _ _ P (λ _. cond_both _ _ _ P repeat (λ o. by o (greeting es) refl)) (λ _. none)
  where
    by : opened ends.role es ≡ false → (g : Option PacketValue) → greeting es ≡ g → P (again g)
    by o None k = none
    by o (Some p) k = first p o k

-- a cut sends an RST, with or without an acknowledgment
pub cut_as : (P : PacketValue → Type 0) (ends : Ends) (es : List LegEvent) (from count : ℕ) (r : Role)
    → ((number ack : ℕ) → P (rst ends number ack 20)) → ((number : ℕ) → P (rst ends number 0 4)) → P (cut_packet ends es from count r)
cut_as P ends es from count (role.Active own) f g = cond_both _ _ _ P (λ _. f _ _) (λ _. g _)
cut_as P ends es from count (role.Passive other mss) f g = cond_both _ _ _ P (λ _. f _ _) (λ _. f _ _)
