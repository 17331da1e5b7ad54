-- What segments carry of the list that their letters were cut from.
use Rattle.std.proofs.lemmas.Option.{none-some}
use Rattle.std.proofs.Common.{◌≡◌, ℕ, suc, ◌+◌, ◌-◌, ◌<◌, ◌≤◌, min, Bool, true, false, cond, ◌&&◌, List, [], ◌∷◌, length, take, drop, get_or, refl, sym, ◌∙◌, ap, subst, arith, ℤ, pos, negsuc, inl, inr, Option, Some, None, length-take, length-drop}
use Rattle.std.specs.Prelude.{◌==◌, nat_lt}
use Rattle.std.proofs.lemmas.Bool.{and_parts, cases_lt, cases_Bool, eqb-true, lt-ltb, le-ltb, eq-eqb}
use Rattle.std.proofs.lemmas.List.{get_or-drop, get_or-take, get_or_append_left, length-append}
use Rattle.std.specs.Option.{option_or}
use Rattle.cf_packet.specs.Packet.{PacketValue}
use Rattle.cf_stream.specs.Position.{sequence_number, position}
use Rattle.cf_stream.specs.Stream.{Stream, Letter, Byte, End, Carries, Extends, IsPart, letter_at, letter_count, letter_from, no_letters, part}
use Rattle.cf_leg.proofs.Speech.{carried_segment, position_ahead, says_as, segment_stream}
use Rattle.cf_leg.specs.Emits.{Pieces, SaysIf, piece}
use Rattle.cf_leg.specs.OneStream.{CarryAll, first_in, letter_in}
use Rattle.cf_leg.specs.Segment.{letters_in}
use Rattle.cf_leg.specs.Told.{letters_sent_by, letters_sent_by_all}
use Rattle.cf_leg.specs.declared.ends.Advertised.{Advertised}
use Rattle.cf_leg.specs.declared.ends.Way.{Way}

-- ---- letters and their places

pub at_inside : (t : Stream) (i : ℕ) (l : Letter) → letter_at t i ≡ Some l → i < letter_count t
at_inside t i l e =
    elim (cases_lt i (length t.bytes)) [
      | inl v ↦ omega arith
      | inr v ↦
          elim (cases_Bool ((i == length t.bytes) && t.ended)) [
            | inl k ↦ (let parts = and_parts (i == length t.bytes) t.ended k in
                let here = eqb-true i (length t.bytes) parts.0 in
                rw parts.1 (omega (arith, here)))
            | inr k ↦ (let none = rw (le-ltb i (length t.bytes) v, k) at e in absurd (none-some l none))
          ]
    ]

at_some : (t : Stream) (i : ℕ) → i < letter_count t → (l : Letter) × (letter_at t i ≡ Some l)
at_some t i h = by t.ended refl h
  where
    by : (b : Bool) → t.ended ≡ b → i < length t.bytes + cond b 1 0 → (l : Letter) × (letter_at t i ≡ Some l)
    by false k l = (Byte (get_or t.bytes i 0), rw (lt-ltb i (length t.bytes) (omega (arith, l))) refl)
    by true k l =
        elim (cases_lt i (length t.bytes)) [
          | inl v ↦ (Byte (get_or t.bytes i 0), rw (lt-ltb i (length t.bytes) v) refl)
          | inr v ↦ (let here : i ≡ length t.bytes = omega (arith, l) in
              (End, rw (le-ltb i (length t.bytes) v, eq-eqb i (length t.bytes) here, k) refl))
        ]

module _ (a : ℕ) (t : Stream) where
  pub from_inside : (q : ℕ) (l : Letter) → letter_from (pos a) t q ≡ Some l → (a ≤ q) × (q < a + letter_count t)
  from_inside q l e =
      elim (cases_lt q a) [
        | inl v ↦ (let none = rw (lt-ltb q a v) at e in absurd (none-some l none))
        | inr v ↦ (let there = rw (le-ltb q a v) at e in let inside = at_inside t (q - a) l there in (v, omega (arith, inside)))
      ]

  pub from_some : (q : ℕ) → a ≤ q → q < a + letter_count t → (l : Letter) × (letter_from (pos a) t q ≡ Some l)
  from_some q low high = rw (le-ltb q a low) (at_some t (q - a) (omega arith))

-- ---- the first of two
pub some_left : (x y : Option Letter) (l : Letter) → x ≡ Some l → (m : Letter) × (option_or x y ≡ Some m)
some_left x y l e = (l, ap (λ (o : Option Letter). option_or o y) e)

pub some_right : (x y : Option Letter) → (l : Letter) × (y ≡ Some l) → (m : Letter) × (option_or x y ≡ Some m)
some_right None y h = h
some_right (Some l) y h = (l, refl)

-- ---- a part of a list

module _ (s : Stream) (a n : ℕ) (ended : Bool) (h : IsPart s a n ended) where
  long : length (take n (drop a s.bytes)) ≡ n
  long = rw (length-take, length-drop) (omega (arith, h.inside))

  part_letter : (q : ℕ) → a ≤ q → q < a + letter_count (part s a n ended) → letter_from (pos a) (part s a n ended) q ≡ letter_at s q
  part_letter q low high = by ended h.at_end high
    where
      place : a + (q - a) ≡ q
      place = omega arith

      byte : (e : Bool) → q < a + n → letter_from (pos a) (part s a n e) q ≡ letter_at s q
      byte e l =
          rw (le-ltb q a low, long, lt-ltb (q - a) n (omega arith), lt-ltb q (length s.bytes) (omega (arith, h.inside)))
          (ap (λ (x : ℕ). Some (Byte x)) (get_or-take n (drop a s.bytes) (q - a) 0 (omega arith) ∙ get_or-drop a s.bytes (q - a) 0 ∙ ap (λ (i : ℕ). get_or s.bytes i 0) place))

      by : (e : Bool) → (e ≡ true → (s.ended ≡ true) × (a + n ≡ length s.bytes)) → q < a + (length (take n (drop a s.bytes)) + cond e 1 0) → letter_from (pos a) (part s a n e) q ≡ letter_at s q
      by false f l = byte false (omega (arith, long))
      by true f l =
          elim (cases_lt q (a + n)) [
            | inl v ↦ byte true v
            | inr v ↦ (let g = f refl in
                let here : q ≡ length s.bytes = omega (arith, g.1, long) in
                let last : q - a ≡ n = omega (arith, long) in
                rw (le-ltb q a low, long, le-ltb (q - a) n (omega arith), eq-eqb (q - a) n last, le-ltb q (length s.bytes) (omega arith), eq-eqb q (length s.bytes) here, g.0) refl)
          ]

  pub part_carries : Carries s (pos a) (part s a n ended)
  part_carries q l e = (let i = from_inside a (part s a n ended) q l e in sym (part_letter q i.0 i.1) ∙ e)

-- ---- letters of a list that goes on
letters_on : (s t : Stream) → Extends s t → (q : ℕ) (l : Letter) → letter_at s q ≡ Some l → letter_at t q ≡ Some l
letters_on s t x q l e =
    elim (cases_Bool s.ended) [
      | inl b ↦ ap (λ (u : Stream). letter_at u q) (x.ended b) ∙ e
      | inr b ↦ (let inside = at_inside s q l e in
          let short = rw b at inside in
          let below : q < length s.bytes = omega (arith, short) in
          let there : q < length t.bytes = rw (x.bytes, length-append) (omega arith) in
          let old = rw (lt-ltb q (length s.bytes) below) at e in
          rw (lt-ltb q (length t.bytes) there, x.bytes) (ap (λ (n : ℕ). Some (Byte n)) (get_or_append_left s.bytes x.more 0 q below) ∙ old))
    ]

carries_on : (s t : Stream) → Extends s t → (z : ℤ) (text : Stream) → Carries s z text → Carries t z text
carries_on s t x z text c q l e = letters_on s t x q l (c q l e)

pub carries_none : (s : Stream) (z : ℤ) → Carries s z no_letters
carries_none s (pos a) q l e = (let i = from_inside a no_letters q l e in absurd (omega (arith, i.0, i.1)))
carries_none s (negsuc a) q l e = absurd (omega (arith, at_inside no_letters (q + suc a) l e))

-- ---- pieces

pub piece_part : (s : Stream) (mss edge from : ℕ) → from < min edge (letter_count s)
    → IsPart s from (min mss (min edge (length s.bytes) - from)) (s.ended && (((from + min mss (min edge (length s.bytes) - from)) == length s.bytes) && nat_lt (length s.bytes) edge))
piece_part s mss edge from l = record {
  inside = by s.ended l;
  at_end = λ k. (let a = and_parts s.ended _ k in let b = and_parts (((from + min mss (min edge (length s.bytes) - from)) == length s.bytes)) _ a.1 in (a.0, eqb-true _ _ b.0));
}
  where
    by : (b : Bool) → from < min edge (length s.bytes + cond b 1 0) → from + min mss (min edge (length s.bytes) - from) ≤ length s.bytes
    by true k = omega arith
    by false k = omega arith

module _ (way : Way) (t : Advertised) (s whole : Stream) (x : Extends s whole) (mss edge : ℕ) where
  pub carry_piece : (from : ℕ) → from < min edge (letter_count s) → Carries whole (pos from) (piece s mss edge from)
  carry_piece from l = carries_on s whole x (pos from) (piece s mss edge from) (part_carries s from _ _ (piece_part s mss edge from l))

  pub carry_pieces : (from : ℕ) (outs : List PacketValue) → Pieces way t s mss edge from outs → CarryAll whole way.own from outs
  carry_pieces from [] h = tt
  carry_pieces from (p ∷ ps) h =
      let one : letters_sent_by way.own from p ≡ from + letter_count (piece s mss edge from) =
      rw h.1 (carried_segment way t (sequence_number way.own from) (piece s mss edge from) from refl) in
      let text = ap letters_in h.1 ∙ segment_stream way t (sequence_number way.own from) (piece s mss edge from) in
      let at = ap (λ (x : PacketValue). position x.seq way.own from) h.1 ∙ position_ahead way.own from from (omega arith) (omega arith) in (
        subst (λ (z : ℤ). Carries whole z (letters_in p)) (sym at) (subst (λ (u : Stream). Carries whole (pos from) u) (sym text) (carry_piece from h.0)),
        subst (λ (n : ℕ). CarryAll whole way.own n ps) (sym one) (carry_pieces (from + letter_count (piece s mss edge from)) ps h.2),
      )

  -- every place from the first one on, up to the last, has a letter
  pub pieces_some : (from : ℕ) (outs : List PacketValue) → Pieces way t s mss edge from outs → (q : ℕ) → from ≤ q → q < letters_sent_by_all way.own from outs → (l : Letter) × (first_in way.own from outs q ≡ Some l)
  pieces_some from [] h q low high = absurd (omega (arith, low, high))
  pieces_some from (p ∷ ps) h q low high =
      let one : letters_sent_by way.own from p ≡ from + letter_count (piece s mss edge from) =
      rw h.1 (carried_segment way t (sequence_number way.own from) (piece s mss edge from) from refl) in
      let text = ap letters_in h.1 ∙ segment_stream way t (sequence_number way.own from) (piece s mss edge from) in
      let at = ap (λ (x : PacketValue). position x.seq way.own from) h.1 ∙ position_ahead way.own from from (omega arith) (omega arith) in
      let here : letter_in way.own from p q ≡ letter_from (pos from) (piece s mss edge from) q =
      ap (λ (z : ℤ). letter_from z (letters_in p) q) at ∙ ap (λ (u : Stream). letter_from (pos from) u q) text in
      elim (cases_lt q (from + letter_count (piece s mss edge from))) [
        | inl v ↦ (let some = from_some from (piece s mss edge from) q low v in some_left (letter_in way.own from p q) (first_in way.own (letters_sent_by way.own from p) ps q) some.0 (here ∙ some.1))
        | inr v ↦ (let past = subst (λ (n : ℕ). q < letters_sent_by_all way.own n ps) one high in
            let rest = pieces_some (from + letter_count (piece s mss edge from)) ps h.2 q v past in
            some_right (letter_in way.own from p q) (first_in way.own (letters_sent_by way.own from p) ps q)
            (rest.0, ap (λ (n : ℕ). first_in way.own n ps q) one ∙ rest.1))
      ]

  pub carry_said : (due : Bool) (from : ℕ) (outs : List PacketValue) → SaysIf way t due s mss edge from outs → CarryAll whole way.own from outs
  carry_said due from outs = says_as way t due s mss edge from outs (λ ps. CarryAll whole way.own from ps) (λ below p. carry_pieces from outs p) (λ past d. (carries_none whole _, tt)) (λ past d. tt)

  pub said_some : (due : Bool) (from : ℕ) (outs : List PacketValue) → SaysIf way t due s mss edge from outs → (q : ℕ) → from ≤ q → q < letters_sent_by_all way.own from outs → (l : Letter) × (first_in way.own from outs q ≡ Some l)
  said_some due from outs h q low = says_as way t due s mss edge from outs (λ ps. q < letters_sent_by_all way.own from ps → (l : Letter) × (first_in way.own from ps q ≡ Some l))
      (λ below p high. pieces_some from outs p q low high)
      (λ past d high. (let still = carried_segment way t (sequence_number way.own from) no_letters from refl in absurd (omega (arith, low, high, still))))
      (λ past d high. absurd (omega (arith, low, high))) h
