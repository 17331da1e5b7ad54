-- Laws of the loop of `feed`.
use Rattle.cf_lane.specs.Caller.{RateMoments}
use Rattle.cf_audit.specs.declared.line.CutReason.{CutReason}
use Rattle.cf_lane.proofs.Histories.{Along, along_more, fed_broken, fed_cut, fed_whole, of_whole_log}
use Rattle.cf_lane.proofs.Taking.{grows_both, grows_more, room_left, room_less}
use Rattle.cf_lane.proofs.Units.{short_unit, units_of_octets}
use Rattle.cf_lane.specs.Follows.{AddsTo, Follows, IsEndBehindCut, Rests, over, rest_of, with_rest}
use Rattle.cf_lane.specs.Handled.{Breaks, Grows, HasRoom, IsOpen, State, Steps, TakesUnit, WritesLog, cut_in, letters_in}
use Rattle.cf_lane.specs.History.{Element, bytes_at, letters_at}
use Rattle.cf_lane.specs.Unit.{SpellsUnit}
use Rattle.cf_lane.specs.declared.lane.Step.{Step}
use Rattle.cf_outside.proofs.Desks.{keeps_both, keeps_none}
use Rattle.cf_outq.specs.SendQueue.{Queue}
use Rattle.cf_outside.specs.Faults.{HasCause}
use Rattle.cf_outside.specs.Desk.{DeskValue}
use Rattle.cf_policy.specs.Site.{SiteValue}
use Rattle.cf_view.proofs.OctetLists.{IsOctets-drop}
use Rattle.cf_view.specs.Framing.{IsPartial}
use Rattle.cf_view.specs.Octets.{IsOctets}
use Rattle.cf_view.specs.declared.Side.{Side}
use Rattle.std.proofs.Common.{Bool, List, None, Option, Some, [], ap, arith, drop, false, inl, inr, length, refl, subst, sym, true, ℕ, ◌*◌, ◌++◌, ◌+◌, ◌-◌, ◌<◌, ◌∙◌, ◌∷◌, ◌≡◌, ◌≤◌, ◌⊎◌}
use Rattle.std.proofs.lemmas.List.{length-drop}
use Rattle.cf_view.specs.declared.Side.TheVariants as side
use Rattle.cf_lane.specs.declared.lane.Step.TheVariants as step

-- a step that takes no unit
abbrev pub Stops : Step → Type 0
Stops st = (st ≡ step.More) ⊎ ((reason : CutReason) × (st ≡ step.Cut reason))

pub no_letters : (st : Step) → Stops st → letters_in st ≡ 0
no_letters st (inl more) = ap letters_in more
no_letters st (inr cut) = ap letters_in cut.1

pub grows_none : (d : ℕ) (q : Queue) → Grows 0 d d q q
grows_none d q = record { kept = omega arith; pushed = omega arith; rest = refl }

pub writes_none : (d : DeskValue) → WritesLog d d
writes_none d = record { packets = refl; packet_part = refl; stays = λ e. e; line_part = λ e. refl; keeps = keeps_none d }

pub writes_both : (c d e : DeskValue) → WritesLog c d → WritesLog d e → WritesLog c e
writes_both c d e a b = record {
  packets = b.packets ∙ a.packets;
  packet_part = b.packet_part ∙ a.packet_part;
  stays = λ w. a.stays (b.stays w);
  line_part = λ w. b.line_part w ∙ a.line_part (b.stays w);
  keeps = keeps_both c d e a.keeps b.keeps;
}

-- a cause that came later came
pub cause_after : (a b c : ℕ) (P : Type 0) → a ≤ b → HasCause b c P → HasCause a c P
cause_after a b c P l h = record {
  later = omega (arith, h.later, l);
  rose = λ p. (let r = h.rose p in omega (arith, r, l));
}

-- a queue that grew is open where it was
pub open_stays : (s : Side) (m n d e : ℕ) (c k c' k' : Queue) → IsOpen s c k → Grows m d e c c' → Grows n d e k k' → IsOpen s c' k'
open_stays side.Client m n d e c k c' k' o a b = ap (λ (q : Queue). q.ended) b.rest ∙ o
open_stays side.Controller m n d e c k c' k' o a b = ap (λ (q : Queue). q.ended) a.rest ∙ o

pub room_for_rest : (bytes rest : List ℕ) (used d e : ℕ) (p q : Queue) → rest ≡ drop used bytes → used ≤ length bytes → HasRoom (d + 2 * length bytes) p → Grows (2 * used) d e p q →
    HasRoom (e + 2 * length rest) q
room_for_rest bytes rest used d e p q is inside r g =
    let size : length rest + used ≡ length bytes = omega (arith, ap length is, length-drop used bytes, inside) in
    room_left (2 * used) (2 * length rest) d e p q (room_less (d + 2 * length bytes) (d + (2 * used + 2 * length rest)) p (omega (arith, size)) r) g

module _ (site : SiteValue) (moment : ℕ) (s : Side) (bytes rest : List ℕ) (used : ℕ) (left : rest ≡ drop used bytes) (inside : used ≤ length bytes) where
  rest_length : length rest + used ≡ length bytes
  rest_length = omega (arith, ap length left, length-drop used bytes, inside)

  pub within : (st : Step) → letters_in st ≤ length rest → used + letters_in st ≤ length bytes
  within st l = omega (arith, l, rest_length)

  pub along_took : (old mid new : State) (st : Step) (n : ℕ) → st ≡ step.Took n → Along site moment s bytes used old mid → Steps site moment s rest mid new st →
      Along site moment s bytes (used + n) old new
  along_took old mid new st n is a steps =
      along_more site moment s bytes used n old mid new a (subst (λ xs. TakesUnit site moment s xs n None mid new) left (subst (Steps site moment s rest mid new) is steps))

  pub some_letters : (mid new : State) (st : Step) (n : ℕ) → st ≡ step.Took n → Steps site moment s rest mid new st → 0 < n
  some_letters mid new st n is steps = (subst (Steps site moment s rest mid new) is steps).some_bytes

  pub smaller : (st : Step) (n : ℕ) → st ≡ step.Took n → 0 < n → letters_in st ≤ length rest → length bytes - (used + n) < length bytes - used
  smaller st n is some l = omega (arith, some, l, ap letters_in is, rest_length)

  pub grows_took : (d e g : ℕ) (p q r : Queue) (st : Step) (n : ℕ) → st ≡ step.Took n → Grows (2 * used) d e p q → Grows (2 * letters_in st) e g q r → Grows (2 * (used + n)) d g p r
  grows_took d e g p q r st n is a b =
      grows_more (2 * used + 2 * letters_in st) (2 * (used + n)) d g p r (omega (arith, ap letters_in is)) (grows_both (2 * used) (2 * letters_in st) d e g p q r a b)

  pub grows_end : (d e g : ℕ) (p q r : Queue) (st : Step) → Stops st → Grows (2 * used) d e p q → Grows (2 * letters_in st) e g q r → Grows (2 * used) d g p r
  grows_end d e g p q r st stops a b =
      grows_more (2 * used + 2 * letters_in st) (2 * used) d g p r (omega (arith, no_letters st stops)) (grows_both (2 * used) (2 * letters_in st) d e g p q r a b)

took_stops : {P : Type 0} (n : ℕ) → Stops (step.Took n) → P
took_stops n (inl e) = cc
took_stops n (inr e) = cc e.1

module _ (site : SiteValue) (moment : ℕ) (s : Side) (bytes rest : List ℕ) (used : ℕ) (old mid new : State)
    (a : Along site moment s bytes used old mid) (left : rest ≡ drop used bytes) where
  -- where no whole unit is left, or the step cuts, the history goes on by the piece
  pub apart_stop : (st : Step) → Steps site moment s rest mid new st → IsOctets bytes → Stops st →
      (past : RateMoments) (h : List Element) (rests : Rests) (first own : Option (List (List ℕ))) (piece : List ℕ) (ended : Bool) → IsEndBehindCut ended (cut_in st) →
      bytes ≡ rest_of s rests ++ piece → Follows site past h rests None first (over own old) →
      AddsTo site past (h ++ letters_at moment s piece ended ∷ []) (with_rest s rests (drop used bytes)) (cut_in st) first own old.lines new
  apart_stop step.More steps octets stops past h rests first own piece true behind is f = absurd behind
  apart_stop step.More steps octets stops past h rests first own piece false behind is f =
      subst (λ (n : State). AddsTo site past (h ++ bytes_at moment s piece ∷ []) (with_rest s rests (drop used bytes)) None first own old.lines n) (sym steps.1)
      (fed_whole site past h rests first own moment s piece bytes used old mid is f a (subst (IsPartial (SpellsUnit site.first.protocol)) left steps.0))
  apart_stop (step.Cut reason) (inl here) octets stops past h rests first own piece ended behind is f =
      subst (λ (n : State). AddsTo site past (h ++ letters_at moment s piece ended ∷ []) (with_rest s rests (drop used bytes)) (Some reason) first own old.lines n) (sym here.1)
      (fed_broken site past h rests first own moment s piece bytes used old mid is f a ended reason (subst (λ xs. Breaks site s xs reason) left here.0))
  apart_stop (step.Cut reason) (inr unit) octets stops past h rests first own piece ended behind is f =
      let n = unit.1.0 in
      fed_cut site past h rests first own moment s piece bytes used n old mid new is f a ended reason (subst (λ xs. TakesUnit site moment s xs n (Some reason) mid new) left unit.1.1)
      (units_of_octets site.first.protocol (drop n (drop used bytes)) (IsOctets-drop (drop used bytes) n (IsOctets-drop bytes used octets))) (with_rest s rests (drop used bytes))
  apart_stop (step.Took n) steps octets stops past h rests first own piece ended behind is f = took_stops n stops

  pub follows_stop : (st : Step) → Steps site moment s rest mid new st → IsOctets bytes → Stops st →
      (past : RateMoments) (h : List Element) (rests : Rests) (first : Option (List (List ℕ))) (piece : List ℕ) (ended : Bool) → IsEndBehindCut ended (cut_in st) →
      bytes ≡ rest_of s rests ++ piece → Follows site past h rests None first old →
      Follows site past (h ++ letters_at moment s piece ended ∷ []) (with_rest s rests (drop used bytes)) (cut_in st) first new
  follows_stop st steps octets stops past h rests first piece ended behind is f =
      of_whole_log site past (h ++ letters_at moment s piece ended ∷ []) (with_rest s rests (drop used bytes)) (cut_in st) first old new
      (apart_stop st steps octets stops past h rests first old.lines piece ended behind is f)

  -- what is left is shorter than a unit
  pub little_left : (st : Step) → Steps site moment s rest mid new st → Stops st → cut_in st ≡ None → length (drop used bytes) < 300
  little_left step.More steps stops none = short_unit site.first.protocol (drop used bytes) (subst (IsPartial (SpellsUnit site.first.protocol)) left steps.0)
  little_left (step.Cut reason) steps stops none = let e : Some reason ≡ None = none in cc
  little_left (step.Took n) steps stops none = took_stops n stops

  -- the lane stays that of its client
  pub same_client : (st : Step) → Steps site moment s rest mid new st → Stops st → new.lane.client ≡ old.lane.client
  same_client step.More steps stops = ap (λ (x : State). x.lane.client) steps.1 ∙ a.handled.client
  same_client (step.Cut reason) (inl here) stops = ap (λ (x : State). x.lane.client) here.1 ∙ a.handled.client
  same_client (step.Cut reason) (inr unit) stops = unit.1.1.handled.client ∙ a.handled.client
  same_client (step.Took n) steps stops = steps.handled.client ∙ a.handled.client
