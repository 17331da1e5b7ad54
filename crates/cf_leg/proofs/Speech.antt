-- What segments tell and carry, read again.
use Rattle.std.proofs.Common.{◌≡◌, ℕ, ◌+◌, ◌-◌, ◌/◌, ◌%◌, ◌^◌, ◌<◌, ◌≤◌, min, max, Bool, true, false, cond, not, ◌&&◌, List, [], ◌∷◌, length, refl, ◌∙◌, ap, arith, pos, ◌+ℤ◌, ◌-ℤ◌, inl, inr, length-take, length-drop, subst, sym}
use Rattle.std.specs.Prelude.{MatchBool, ◌==◌, nat_lt}
use Rattle.std.proofs.lemmas.Bool.{and_parts, cases_Bool, cond_both, eqb-true, ltb-false, ltb-true, lt-ltb, le-ltb}
use Rattle.std.proofs.lemmas.Int.{ints}
use Rattle.cf_packet.specs.Packet.{PacketValue}
use Rattle.cf_stream.specs.Position.{place_or_zero, sequence_number, position, signed32}
use Rattle.cf_stream.specs.Stream.{Stream, letter_count, no_letters}
use Rattle.cf_leg.specs.Emits.{Pieces, SaysIf, piece}
use Rattle.cf_leg.specs.Segment.{segment, has_ack, has_rst, letters_in, letters_of}
use Rattle.cf_leg.specs.Told.{told_by, told_by_all, letters_sent_by, letters_sent_by_all}
use Rattle.cf_leg.specs.declared.ends.Advertised.{Advertised}
use Rattle.cf_leg.specs.declared.ends.Way.{Way}

-- a place from a base on is read as itself
pub position_ahead : (origin base p : ℕ) → base ≤ p → p < base + 2 ^ 31 → position (sequence_number origin p) origin base ≡ pos p
position_ahead origin base p l h =
    let d : (sequence_number origin p + 2 ^ 32 - sequence_number origin base) % 2 ^ 32 ≡ p - base = omega arith in
    rw (d, lt-ltb (p - base) (2 ^ 31) (omega arith)) (ap pos (omega arith))

-- and one before it
pub position_behind : (origin base p : ℕ) → p < base → base ≤ p + 2 ^ 31 → position (sequence_number origin p) origin base ≡ pos p
position_behind origin base p l h =
    let d : (sequence_number origin p + 2 ^ 32 - sequence_number origin base) % 2 ^ 32 ≡ 2 ^ 32 - (base - p) = omega arith in
    let n = 2 ^ 32 - (base - p) in
    ap (λ (n : ℕ). pos base +ℤ signed32 n) d
    ∙ ap (λ (b : Bool). pos base +ℤ cond b (pos (2 ^ 32 - (base - p))) (pos (2 ^ 32 - (base - p)) -ℤ pos (2 ^ 32))) (le-ltb (2 ^ 32 - (base - p)) (2 ^ 31) (omega arith))
    ∙ back base (base - p) (2 ^ 32 - (base - p)) (2 ^ 32) (omega arith) (omega arith) ∙ ap pos (omega arith)
  where
    back : (a d n m : ℕ) → d ≤ a → n + d ≡ m → pos a +ℤ (pos n -ℤ pos m) ≡ pos (a - d)
    back a d n m l e = omega (arith, ints)

-- ---- the flags of a segment

ack_bit : (b c : Bool) → ((16 + cond b 0 8 + cond c 1 0) / 16 % 2 == 1) ≡ true
ack_bit true true = refl
ack_bit true false = refl
ack_bit false true = refl
ack_bit false false = refl

rst_bit : (b c : Bool) → ((16 + cond b 0 8 + cond c 1 0) / 4 % 2 == 1) ≡ false
rst_bit true true = refl
rst_bit true false = refl
rst_bit false true = refl
rst_bit false false = refl

fin_bit : (b c : Bool) → ((16 + cond b 0 8 + cond c 1 0) % 2 == 1) ≡ c
fin_bit true true = refl
fin_bit true false = refl
fin_bit false true = refl
fin_bit false false = refl

module _ (way : Way) (t : Advertised) (number : ℕ) (s : Stream) where
  segment_ack : has_ack (segment way t number s) ≡ true
  segment_ack = ack_bit (length s.bytes == 0) s.ended

  segment_rst : has_rst (segment way t number s) ≡ false
  segment_rst = rst_bit (length s.bytes == 0) s.ended

  pub segment_letters : letters_of (segment way t number s) ≡ letter_count s
  segment_letters = ap (λ (b : Bool). length s.bytes + cond b 1 0) (fin_bit (length s.bytes == 0) s.ended)

  pub segment_stream : letters_in (segment way t number s) ≡ s
  segment_stream = ap (λ (b : Bool). let r : Stream = record { bytes = s.bytes; ended = b } in r) (fin_bit (length s.bytes == 0) s.ended)

  -- it tells what it was given to tell
  pub told_segment : (b : Advertised) → b.base ≤ t.base → t.base < b.base + 2 ^ 31 → t.base ≤ t.edge → told_by way.other b (segment way t number s) ≡ t
  told_segment b low high e =
      let tells : (has_ack (segment way t number s) && not (has_rst (segment way t number s))) ≡ true = rw (segment_ack, segment_rst) refl in
      let at = position_ahead way.other b.base t.base low high in
      let base : place_or_zero (position (sequence_number way.other t.base) way.other b.base) ≡ t.base = ap place_or_zero at in
      rw (tells, base) (ap (λ (n : ℕ). record { base = t.base; edge = n }) (omega (arith, e)))

  -- and carries its letters from its place on
  pub carried_segment : (at : ℕ) → number ≡ sequence_number way.own at → letters_sent_by way.own at (segment way t number s) ≡ at + letter_count s
  carried_segment at is =
      let place : position number way.own at ≡ pos at = rw is (position_ahead way.own at at (omega arith) (omega arith)) in
      elim (cases_Bool (letter_count s == 0)) [
        | inl e ↦ rw (segment_letters, e) (omega (arith, eqb-true (letter_count s) 0 e))
        | inr e ↦ rw (segment_letters, e, place) (omega arith)
      ]

-- ---- pieces

module _ (whole : Stream) (mss edge from : ℕ) where
  -- a piece ends below the edge and in the stream
  pub piece_short : from < min edge (letter_count whole) → from + letter_count (piece whole mss edge from) ≤ min edge (letter_count whole)
  piece_short l =
      let n = min mss (min edge (length whole.bytes) - from) in
      elim (cases_Bool whole.ended) [
        | inl e ↦ (let some = rw e at l in
            elim (cases_Bool (((from + n) == length whole.bytes) && nat_lt (length whole.bytes) edge)) [
              | inl k ↦ (let parts = and_parts ((from + n) == length whole.bytes) (nat_lt (length whole.bytes) edge) k in
                  let here = eqb-true (from + n) (length whole.bytes) parts.0 in
                  let below = ltb-true (length whole.bytes) edge parts.1 in
                  rw (e, k, length-take, length-drop) (omega (arith, some, here, below)))
              | inr k ↦ rw (e, k, length-take, length-drop) (omega (arith, some))
            ])
        | inr e ↦ (let some = rw e at l in rw (e, length-take, length-drop) (omega (arith, some)))
      ]

module _ (way : Way) (t : Advertised) (whole : Stream) (mss edge : ℕ) (e : t.base ≤ t.edge) where
  -- once a piece told it, the others tell the same
  pub told_again : (from : ℕ) (outs : List PacketValue) → Pieces way t whole mss edge from outs → told_by_all way.other t outs ≡ t
  told_again from [] h = refl
  told_again from (p ∷ ps) h =
      let one : told_by way.other t p ≡ t = rw h.1 (told_segment way t (sequence_number way.own from) (piece whole mss edge from) t (omega arith) (omega arith) e) in
      rw one (told_again (from + letter_count (piece whole mss edge from)) ps h.2)

  pub told_pieces : (b : Advertised) (from : ℕ) (outs : List PacketValue) → b.base ≤ t.base → t.base < b.base + 2 ^ 31
      → from < min edge (letter_count whole) → Pieces way t whole mss edge from outs → told_by_all way.other b outs ≡ t
  told_pieces b from [] low high some h = absurd (omega (arith, some, h))
  told_pieces b from (p ∷ ps) low high some h =
      let one : told_by way.other b p ≡ t = rw h.1 (told_segment way t (sequence_number way.own from) (piece whole mss edge from) b low high e) in
      rw one (told_again (from + letter_count (piece whole mss edge from)) ps h.2)

module _ (way : Way) (t : Advertised) (whole : Stream) (mss edge : ℕ) where
  pub carried_pieces : (from : ℕ) (outs : List PacketValue) → Pieces way t whole mss edge from outs → letters_sent_by_all way.own from outs ≡ max from (min edge (letter_count whole))
  carried_pieces from [] h = omega (arith, h)
  carried_pieces from (p ∷ ps) h =
      let one : letters_sent_by way.own from p ≡ from + letter_count (piece whole mss edge from) =
      rw h.1 (carried_segment way t (sequence_number way.own from) (piece whole mss edge from) from refl) in
      let short = piece_short whole mss edge from h.0 in
      rw one (carried_pieces (from + letter_count (piece whole mss edge from)) ps h.2 ∙ omega (arith, short, h.0))

-- ---- a speech is the pieces of what is left, or, where nothing is, a segment without letters or none
pub says_as : (way : Way) (t : Advertised) (due : Bool) (whole : Stream) (mss edge from : ℕ) (outs : List PacketValue) (P : List PacketValue → Type 0)
    → (from < min edge (letter_count whole) → Pieces way t whole mss edge from outs → P outs)
    → (min edge (letter_count whole) ≤ from → due ≡ true → P (segment way t (sequence_number way.own from) no_letters ∷ []))
    → (min edge (letter_count whole) ≤ from → due ≡ false → P []) → SaysIf way t due whole mss edge from outs → P outs
says_as way t due whole mss edge from outs P some one none h = by (nat_lt from (min edge (letter_count whole))) refl h
  where
    by : (x : Bool) → nat_lt from (min edge (letter_count whole)) ≡ x
        → MatchBool x (Pieces way t whole mss edge from outs) (outs ≡ cond due (segment way t (sequence_number way.own from) no_letters ∷ []) []) → P outs
    by true k p = some (ltb-true from (min edge (letter_count whole)) k) p
    by false k e = (let past = ltb-false from (min edge (letter_count whole)) k in subst P (sym e) (cond_both due _ _ P (one past) (none past)))
