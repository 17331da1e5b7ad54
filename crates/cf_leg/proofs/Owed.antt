-- One segment without letters goes out where one is owed and no letter goes out.
use Rattle.std.proofs.Common.{◌≡◌, ℕ, ◌+◌, ◌<◌, min, Bool, true, false, cond, ◌&&◌, ◌||◌, List, [], ◌∷◌, refl, ◌∙◌, ap, subst, arith}
use Rattle.std.specs.Prelude.{MatchBool, ◌==◌}
use Rattle.std.proofs.lemmas.Bool.{ne_eqb}
use Rattle.cf_packet.specs.Packet.{PacketValue}
use Rattle.cf_stream.proofs.Taken.{same_taken}
use Rattle.cf_stream.specs.FirstCopy.{IsTaken, first_copy}
use Rattle.cf_stream.specs.Position.{sequence_number}
use Rattle.cf_stream.specs.Stream.{Stream, letter_count}
use Rattle.cf_leg.proofs.Saying.{piece_some, send_mss_some}
use Rattle.cf_leg.proofs.Speech.{says_as, segment_letters}
use Rattle.cf_leg.specs.Emits.{IsRight, Pieces, SaysIf, SpeaksOpen, differs, empties, letters_of_all, peer_mss, piece, send_mss, to_tell, way_of}
use Rattle.cf_leg.specs.Event.{Spoke, LegEvent}
use Rattle.cf_leg.specs.Heard.{offers, opened, owed, shown}
use Rattle.cf_leg.specs.Segment.{letters_of}
use Rattle.cf_leg.specs.Told.{letters_sent_at, told_at}
use Rattle.cf_leg.specs.declared.ends.Ends.{Ends}
use Rattle.cf_leg.specs.declared.ends.Advertised.{Advertised}
use Rattle.cf_leg.specs.declared.ends.Way.{Way}

module _ (way : Way) (t : Advertised) (s : Stream) (mss edge : ℕ) (m : 0 < mss) where
  pieces_full : (from : ℕ) (outs : List PacketValue) → Pieces way t s mss edge from outs → empties outs ≡ 0
  pieces_full from [] h = refl
  pieces_full from (p ∷ ps) h =
      let count : letters_of p ≡ letter_count (piece s mss edge from) = ap letters_of h.1 ∙ segment_letters way t (sequence_number way.own from) (piece s mss edge from) in
      let some = piece_some s mss edge from m h.0 in
      let none : (letters_of p == 0) ≡ false = ne_eqb (letters_of p) 0 (λ z. omega (arith, count, some, z)) in
      let rest = pieces_full (from + letter_count (piece s mss edge from)) ps h.2 in
      rw none (omega (arith, rest))

  pieces_carry : (from : ℕ) (outs : List PacketValue) → from < min edge (letter_count s) → Pieces way t s mss edge from outs → 0 < letters_of_all outs
  pieces_carry from [] l h = absurd (omega (arith, l, h))
  pieces_carry from (p ∷ ps) l h =
      let count : letters_of p ≡ letter_count (piece s mss edge from) = ap letters_of h.1 ∙ segment_letters way t (sequence_number way.own from) (piece s mss edge from) in
      let some = piece_some s mss edge from m l in
      omega (arith, count, some)

  said_once : (due : Bool) (from : ℕ) (outs : List PacketValue) → SaysIf way t due s mss edge from outs → empties outs ≡ cond ((letters_of_all outs == 0) && due) 1 0
  said_once due from outs = says_as way t due s mss edge from outs (λ ps. empties ps ≡ cond ((letters_of_all ps == 0) && due) 1 0)
      (λ below p.
      (let carry = pieces_carry from outs below p in
      let none : (letters_of_all outs == 0) ≡ false = ne_eqb (letters_of_all outs) 0 (λ z. omega (arith, carry, z)) in
      rw none (pieces_full from outs p)))
      (λ past d. rw d refl) (λ past d. rw d refl)

pub owed_once : (ends : Ends) (es : List LegEvent) (e : LegEvent) (whole : Stream) (roomy : Bool) (outs : List PacketValue) (taken : Stream)
    → IsRight ends es (record e { ending = Spoke whole roomy outs }) → opened ends.role (record e { ending = Spoke whole roomy outs } ∷ es) ≡ true
    → IsTaken (first_copy (offers ends.role (record e { ending = Spoke whole roomy outs } ∷ es))) taken
    → empties outs ≡ cond ((letters_of_all outs == 0) && (owed ends.role es e || differs (told_at ends.role es e) (to_tell (told_at ends.role es e) (letter_count taken) roomy))) 1 0
owed_once ends es e whole roomy outs taken h o t =
    let s = subst (λ (b : Bool). MatchBool b (SpeaksOpen ends es (record e { ending = Spoke whole roomy outs }) whole roomy outs) (outs ≡ [])) o h.ending in
    let took = same_taken (first_copy (offers ends.role (record e { ending = Spoke whole roomy outs } ∷ es))) s.taken taken s.is_taken t in
    said_once (way_of ends (record e { ending = Spoke whole roomy outs } ∷ es)) (to_tell (told_at ends.role es e) (letter_count s.taken) roomy) whole
    (send_mss (peer_mss ends.role (record e { ending = Spoke whole roomy outs } ∷ es))) (shown ends.role (record e { ending = Spoke whole roomy outs } ∷ es)) (send_mss_some (peer_mss ends.role (record e { ending = Spoke whole roomy outs } ∷ es)))
    (owed ends.role es e || differs (told_at ends.role es e) (to_tell (told_at ends.role es e) (letter_count s.taken) roomy)) (letters_sent_at ends.role es e) outs s.says
    ∙ ap (λ (u : Stream). cond ((letters_of_all outs == 0) && (owed ends.role es e || differs (told_at ends.role es e) (to_tell (told_at ends.role es e) (letter_count u) roomy))) 1 0) took
