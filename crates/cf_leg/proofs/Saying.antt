-- What a leg can say: from each place of a stream on there are pieces, and each has a letter.
use Rattle.std.proofs.Common.{◌≡◌, ℕ, zero, suc, ◌+◌, ◌-◌, ◌<◌, ◌≤◌, min, Bool, true, false, cond, ◌&&◌, List, [], ◌∷◌, length, drop, take, refl, arith, inl, inr, Option, Some, None, length-take, length-drop}
use Rattle.std.specs.Prelude.{◌==◌, nat_lt}
use Rattle.std.proofs.lemmas.Bool.{cases_lt, eqb-false, ltb-false}
use Rattle.cf_packet.specs.Packet.{PacketValue}
use Rattle.cf_stream.specs.Position.{sequence_number}
use Rattle.cf_stream.specs.Stream.{Stream, letter_count}
use Rattle.cf_leg.specs.Emits.{Pieces, piece, send_mss}
use Rattle.cf_leg.specs.Segment.{segment}
use Rattle.cf_leg.specs.declared.ends.Advertised.{Advertised}
use Rattle.cf_leg.specs.declared.ends.Way.{Way}

pub send_mss_some : (o : Option ℕ) → 0 < send_mss o
send_mss_some None = omega arith
send_mss_some (Some m) = omega arith

-- a piece has a letter
pub piece_some : (s : Stream) (mss edge from : ℕ) → 0 < mss → from < min edge (letter_count s) → 0 < letter_count (piece s mss edge from)
piece_some s mss edge from m l = by s.ended refl l
  where
    n : ℕ
    n = min mss (min edge (length s.bytes) - from)

    by : (b : Bool) → s.ended ≡ b → from < min edge (length s.bytes + cond b 1 0)
        → 0 < length (take (min mss (min edge (length s.bytes) - from)) (drop from s.bytes)) + cond (b && (((from + min mss (min edge (length s.bytes) - from)) == length s.bytes) && nat_lt (length s.bytes) edge)) 1 0
    by false k h = rw (length-take, length-drop) (omega (arith, h, m))
    by true k h = of ((from + min mss (min edge (length s.bytes) - from)) == length s.bytes) (nat_lt (length s.bytes) edge) refl refl
      where
        of : (x y : Bool) → ((from + min mss (min edge (length s.bytes) - from)) == length s.bytes) ≡ x → nat_lt (length s.bytes) edge ≡ y
            → 0 < length (take (min mss (min edge (length s.bytes) - from)) (drop from s.bytes)) + cond (x && y) 1 0
        of true true e f = rw (length-take, length-drop) (omega arith)
        of true false e f = (let past = ltb-false (length s.bytes) edge f in rw (length-take, length-drop) (omega (arith, h, m, past)))
        of false y e f = rw (length-take, length-drop) (omega (arith, h, m, not_there e))
          where
            not_there : ((from + min mss (min edge (length s.bytes) - from)) == length s.bytes) ≡ false → 0 < min mss (min edge (length s.bytes) - from)
            not_there e = elim (cases_lt 0 (min mss (min edge (length s.bytes) - from))) [ inl v ↦ v | inr v ↦ absurd (eqb-false (from + min mss (min edge (length s.bytes) - from)) (length s.bytes) e (omega (arith, h, m, v))) ]

-- from each place on there are pieces
module _ (way : Way) (t : Advertised) (whole : Stream) (mss edge : ℕ) (some : 0 < mss) where
  pub all_pieces : (fuel from : ℕ) → min edge (letter_count whole) ≤ from + fuel → (outs : List PacketValue) × Pieces way t whole mss edge from outs
  all_pieces zero from h = ([], omega (arith, h))
  all_pieces (suc n) from h =
      elim (cases_lt from (min edge (letter_count whole))) [
        | inl l ↦ (let carries = piece_some whole mss edge from some l in
            let rest = all_pieces n (from + letter_count (piece whole mss edge from)) (omega (arith, h, carries)) in
            (segment way t (sequence_number way.own from) (piece whole mss edge from) ∷ rest.0, (l, refl, rest.1)))
        | inr g ↦ ([], g)
      ]
