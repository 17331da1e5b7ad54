-- A SYN comes before every packet with ACK.
use Rattle.std.proofs.Common.{◌≡◌, ◌||◌, ◌&&◌, ◌==◌, ℕ, Bool, true, false, inl, inr, List, [], ◌∷◌, ◌++◌, length, refl, sym, ap, ◌∙◌, subst, MatchBool, nat_lt}
use Rattle.cf_unobjected.proofs.Common.{AllByRecursion, AreEvents, Flow, LegEvent, PacketValue, SessionEvent, SynsFirst, all_both, cases_Bool, controller_ends, controllers, false≢true, greeted_by, has_syn, legs_right, packets_of, said_by, sent_in, true≢false}
use Rattle.cf_view.specs.declared.Side.{Side}
use Rattle.std.proofs.lemmas.Bool.{or_parts}
use Rattle.cf_isolation.proofs.Writing.{again_are, came_are, ending_are, greeted, repeat_is}
use Rattle.cf_leg.specs.Emits.{AllRight, EndsBy, IsGreeting, IsRight, SpeaksOpen, cut_packet, fired_at}
use Rattle.cf_leg.specs.Event.{Cut, Ending, Spoke, Unspoken}
use Rattle.cf_leg.specs.Heard.{opened}
use Rattle.cf_leg.specs.Segment.{has_ack}
use Rattle.cf_leg.specs.Told.{greeting}
use Rattle.cf_leg.specs.Timer.{fires, tries}
use Rattle.cf_session.specs.Event.{IsEvent, came_controller}
use Rattle.cf_unobjected.proofs.Towards.{no_syn}
use Rattle.cf_view.specs.declared.Side.TheVariants as side

abbrev NoSyn : PacketValue → Type 0
NoSyn p = has_syn p ≡ false

abbrev NoAck : PacketValue → Type 0
NoAck p = has_ack p ≡ false

-- ---- over lists

syns_none : (b : Bool) (ps : List PacketValue) → AllByRecursion NoSyn ps → SynsFirst b ps
syns_none b [] n = tt
syns_none b (p ∷ ps) n = ((λ h. absurd (false≢true (sym n.0 ∙ h))), syns_none (b || has_ack p) ps n.1)

acks_none : (ps qs : List PacketValue) → AllByRecursion NoAck ps → SynsFirst false qs → SynsFirst false (ps ++ qs)
acks_none [] qs n h = h
acks_none (p ∷ ps) qs n h = ((λ x. refl), subst (λ b. SynsFirst b (ps ++ qs)) (sym n.0) (acks_none ps qs n.1 h))

then_none : (b : Bool) (ps qs : List PacketValue) → SynsFirst b ps → AllByRecursion NoSyn qs → SynsFirst b (ps ++ qs)
then_none b [] qs h n = syns_none b qs n
then_none b (p ∷ ps) qs h n = (h.0, then_none (b || has_ack p) ps qs h.1 n)

-- ---- over the events of the end

module _ (f : Flow) where
  greets_without : (p : PacketValue) → IsGreeting (controller_ends f) (controller_ends f).role p → NoAck p
  greets_without p h = subst NoAck (sym h) refl

  said_without_syn : (es : List LegEvent) (e : LegEvent) → IsRight (controller_ends f) es e → AllByRecursion NoSyn (said_by e.ending)
  said_without_syn es e r =
      ending_are (controller_ends f) NoSyn (λ xs t n s short. no_syn (length s.bytes == 0) s.ended) (λ number ack. refl) (λ number. refl) es e e.ending r.ending

  fired_open : (es : List LegEvent) (e : LegEvent) → opened (controller_ends f).role es ≡ true → AllByRecursion NoSyn (fired_at (controller_ends f) es e)
  fired_open es e h = elim (cases_Bool (fires (controller_ends f).role es e && nat_lt (tries (controller_ends f).role es) 6)) [
    | inl a ↦ rw (a, h) (repeat_is (controller_ends f) NoSyn (λ xs t n s short. no_syn (length s.bytes == 0) s.ended) (λ number ack. refl) (λ number. refl) es, tt)
    | inr a ↦ rw a tt
  ]

  fired_shut : (es : List LegEvent) (e : LegEvent) → AllRight (controller_ends f) es → opened (controller_ends f).role es ≡ false → AllByRecursion NoAck (fired_at (controller_ends f) es e)
  fired_shut es e right h = elim (cases_Bool (fires (controller_ends f).role es e && nat_lt (tries (controller_ends f).role es) 6)) [
    | inl a ↦ rw (a, h) (again_are (controller_ends f) NoAck greets_without (greeting es) (greeted (controller_ends f) NoAck greets_without es right))
    | inr a ↦ rw a tt
  ]

  speaks_shut : (b : Bool) (es : List LegEvent) (e : LegEvent) (whole : _) (roomy : Bool) (ps : List PacketValue) → b ≡ false → MatchBool b (SpeaksOpen (controller_ends f) es e whole roomy ps) (ps ≡ []) → AllByRecursion NoAck ps
  speaks_shut true es e whole roomy ps h g = absurd (true≢false h)
  speaks_shut false es e whole roomy ps h g = subst (AllByRecursion NoAck) (sym g) tt

  cut_shut : (es : List LegEvent) (from count : ℕ) → opened (controller_ends f).role es ≡ false → NoAck (cut_packet (controller_ends f) es from count (controller_ends f).role)
  cut_shut es from count h = rw h refl

  said_shut : (es : List LegEvent) (e : LegEvent) (x : Ending) → opened (controller_ends f).role (e ∷ es) ≡ false → EndsBy (controller_ends f) es e x → AllByRecursion NoAck (said_by x)
  said_shut es e Unspoken h g = tt
  said_shut es e (Spoke whole roomy outs) h g = speaks_shut (opened (controller_ends f).role (e ∷ es)) es e whole roomy outs h g
  said_shut es e (Cut p) h g = (subst NoAck (sym g.rst) (cut_shut (e ∷ es) _ _ h), tt)

  -- nothing with ACK goes out before the end is open
  shut : (es : List LegEvent) → AllRight (controller_ends f) es → opened (controller_ends f).role es ≡ false → AllByRecursion NoAck (packets_of es)
  shut [] right h = tt
  shut (e ∷ es) right h =
      let before = (or_parts (opened (controller_ends f).role es) _ h).0 in
      all_both NoAck (packets_of es) _ (shut es right.1 before)
      (all_both NoAck e.fired _ (subst (AllByRecursion NoAck) (sym right.0.fired) (fired_shut es e right.1 before))
      (all_both NoAck (greeted_by e.came) _ (came_are (controller_ends f) NoAck greets_without es e.came right.0.came) (said_shut es e e.ending h right.0.ending)))

  none_from : (s : Side) (p : PacketValue) → greeted_by (came_controller s p) ≡ []
  none_from side.Client p = refl
  none_from side.Controller p = refl

  no_greeting : (limit : ℕ) (d : SessionEvent) (es : List SessionEvent) (e : SessionEvent) → IsEvent f limit (d ∷ es) e → greeted_by e.controller.came ≡ []
  no_greeting limit d es e (inl h) = ap greeted_by h.controller_came
  no_greeting limit d es e (inr h) = ap greeted_by h.5.controller_came ∙ none_from h.1 h.2

  -- an event of an open end sends no SYN
  event_open : (limit : ℕ) (es : List SessionEvent) (e : SessionEvent) → AreEvents f limit (e ∷ es) → opened (controller_ends f).role (controllers es) ≡ true →
      AllByRecursion NoSyn (e.controller.fired ++ sent_in e.controller)
  event_open limit [] e are h = absurd (false≢true h)
  event_open limit (d ∷ es) e are h =
      let right = (legs_right f limit (e ∷ (d ∷ es)) are).controller.0 in
      all_both NoSyn e.controller.fired _ (subst (AllByRecursion NoSyn) (sym right.fired) (fired_open (controllers (d ∷ es)) e.controller h))
      (subst (λ ps. AllByRecursion NoSyn (ps ++ said_by e.controller.ending)) (sym (no_greeting limit d es e are.0)) (said_without_syn (controllers (d ∷ es)) e.controller right))

  pub syns_first : (limit : ℕ) (es : List SessionEvent) → AreEvents f limit es → SynsFirst false (packets_of (controllers es))
  syns_first limit [] are = tt
  syns_first limit (e ∷ es) are =
      let all = (legs_right f limit (e ∷ es) are).controller in
      let ps = packets_of (controllers es) in
      elim (cases_Bool (opened (controller_ends f).role (controllers es))) [
        | inl a ↦ then_none false ps _ (syns_first limit es are.1) (event_open limit es e are a)
        | inr a ↦
            acks_none ps _ (shut (controllers es) all.1 a)
            (acks_none e.controller.fired _ (subst (AllByRecursion NoAck) (sym all.0.fired) (fired_shut (controllers es) e.controller all.1 a))
            (acks_none (greeted_by e.controller.came) _ (came_are (controller_ends f) NoAck greets_without (controllers es) e.controller.came all.0.came)
            (syns_none false (said_by e.controller.ending) (said_without_syn (controllers es) e.controller all.0))))
      ]
