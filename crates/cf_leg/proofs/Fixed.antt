-- What a leg sends is fixed by the events before, what came, the list of its queue and whether there is room.
use Rattle.std.proofs.Common.{◌≡◌, ℕ, ◌+◌, min, Bool, true, false, cond, ◌||◌, List, [], ◌∷◌, refl, sym, ◌∙◌, ap, subst, arith}
use Rattle.std.specs.Prelude.{MatchBool, nat_lt}
use Rattle.cf_packet.specs.Packet.{PacketValue}
use Rattle.cf_stream.proofs.Taken.{same_taken}
use Rattle.cf_stream.specs.FirstCopy.{first_copy}
use Rattle.cf_stream.specs.Position.{sequence_number}
use Rattle.cf_stream.specs.Stream.{Stream, letter_count, no_letters}
use Rattle.cf_leg.proofs.Events.{own_same, peer_same, mss_same}
use Rattle.cf_leg.specs.Emits.{IsRight, Pieces, Says, SpeaksOpen, differs, piece, peer_mss, send_mss, to_tell, way_of}
use Rattle.cf_leg.specs.Event.{Ending, Spoke, LegEvent}
use Rattle.cf_leg.specs.Heard.{opened, owed, shown, offers}
use Rattle.cf_leg.specs.Segment.{segment}
use Rattle.cf_leg.specs.Told.{told_at, letters_sent_at, own_number, peer_number}
use Rattle.cf_leg.specs.declared.ends.Ends.{Ends}
use Rattle.cf_leg.specs.declared.ends.Advertised.{Advertised}
use Rattle.cf_leg.specs.declared.ends.Way.{Way}

pub same_pieces : (way : Way) (t : Advertised) (whole : Stream) (mss edge from : ℕ) (xs ys : List PacketValue) → Pieces way t whole mss edge from xs → Pieces way t whole mss edge from ys → xs ≡ ys
same_pieces way t whole mss edge from [] [] h k = refl
same_pieces way t whole mss edge from [] (y ∷ ys) h k = absurd (omega (arith, h, k.0))
same_pieces way t whole mss edge from (x ∷ xs) [] h k = absurd (omega (arith, k, h.0))
same_pieces way t whole mss edge from (x ∷ xs) (y ∷ ys) h k =
    ap (λ (p : PacketValue). p ∷ xs) (h.1 ∙ sym k.1) ∙ ap (λ (ps : List PacketValue). y ∷ ps) (same_pieces way t whole mss edge (from + letter_count (piece whole mss edge from)) xs ys h.2 k.2)

same_says : (b : Bool) (way : Way) (t : Advertised) (d : List PacketValue) (whole : Stream) (mss edge from : ℕ) (xs ys : List PacketValue)
    → MatchBool b (Pieces way t whole mss edge from xs) (xs ≡ d) → MatchBool b (Pieces way t whole mss edge from ys) (ys ≡ d) → xs ≡ ys
same_says true way t d whole mss edge from xs ys h k = same_pieces way t whole mss edge from xs ys h k
same_says false way t d whole mss edge from xs ys h k = h ∙ sym k

-- a firing
pub same_fired : (ends : Ends) (es : List LegEvent) (e : LegEvent) (fired : List PacketValue) (n : Ending) → IsRight ends es e → IsRight ends es (record e { fired = fired; ending = n }) → fired ≡ e.fired
same_fired ends es e fired n h k = k.fired ∙ sym h.fired

-- a speech
pub same_speech : (ends : Ends) (es : List LegEvent) (e : LegEvent) (whole : Stream) (roomy : Bool) (xs ys : List PacketValue)
    → IsRight ends es (record e { ending = Spoke whole roomy xs }) → IsRight ends es (record e { ending = Spoke whole roomy ys }) → xs ≡ ys
same_speech ends es e whole roomy xs ys h k = by (opened ends.role (record e { ending = Spoke whole roomy xs } ∷ es)) h.ending k.ending
  where
    of : SpeaksOpen ends es (record e { ending = Spoke whole roomy xs }) whole roomy xs → SpeaksOpen ends es (record e { ending = Spoke whole roomy ys }) whole roomy ys → xs ≡ ys
    of a b =
        (let r = ends.role in
        let own = own_same e es (Spoke whole roomy ys) ends.role ∙ sym (own_same e es (Spoke whole roomy xs) ends.role) in
        let other = peer_same e es (Spoke whole roomy ys) ends.role ∙ sym (peer_same e es (Spoke whole roomy xs) ends.role) in
        let mss = ap send_mss (mss_same e es (Spoke whole roomy ys) ends.role ∙ sym (mss_same e es (Spoke whole roomy xs) ends.role)) in
        let ways : way_of ends (record e { ending = Spoke whole roomy ys } ∷ es) ≡ way_of ends (record e { ending = Spoke whole roomy xs } ∷ es) =
        ap (λ (n : ℕ). record { source = ends.own; dest = ends.peer; own = n; other = peer_number ends.role (record e { ending = Spoke whole roomy ys } ∷ es) }) own
        ∙ ap (λ (n : ℕ). record { source = ends.own; dest = ends.peer; own = own_number ends.role (record e { ending = Spoke whole roomy xs } ∷ es); other = n }) other in
        let took = same_taken (first_copy (offers ends.role (record e { ending = Spoke whole roomy xs } ∷ es))) b.taken a.taken b.is_taken a.is_taken in
        let there = subst (λ (v : Way). Says v (told_at ends.role es e) (to_tell (told_at ends.role es e) (letter_count a.taken) roomy) (owed ends.role es e) whole (send_mss (peer_mss ends.role (record e { ending = Spoke whole roomy xs } ∷ es))) (shown ends.role (record e { ending = Spoke whole roomy xs } ∷ es)) (letters_sent_at ends.role es e) ys) ways
        (subst (λ (n : ℕ). Says (way_of ends (record e { ending = Spoke whole roomy ys } ∷ es)) (told_at ends.role es e) (to_tell (told_at ends.role es e) (letter_count a.taken) roomy) (owed ends.role es e) whole n (shown ends.role (record e { ending = Spoke whole roomy xs } ∷ es)) (letters_sent_at ends.role es e) ys) mss
        (subst (λ (u : Stream). Says (way_of ends (record e { ending = Spoke whole roomy ys } ∷ es)) (told_at ends.role es e) (to_tell (told_at ends.role es e) (letter_count u) roomy) (owed ends.role es e) whole (send_mss (peer_mss ends.role (record e { ending = Spoke whole roomy ys } ∷ es))) (shown ends.role (record e { ending = Spoke whole roomy xs } ∷ es)) (letters_sent_at ends.role es e) ys) took b.says)) in
        same_says (nat_lt (letters_sent_at ends.role es e) (min (shown ends.role (record e { ending = Spoke whole roomy xs } ∷ es)) (letter_count whole)))
        (way_of ends (record e { ending = Spoke whole roomy xs } ∷ es)) (to_tell (told_at ends.role es e) (letter_count a.taken) roomy)
        (cond (owed ends.role es e || differs (told_at ends.role es e) (to_tell (told_at ends.role es e) (letter_count a.taken) roomy)) (segment (way_of ends (record e { ending = Spoke whole roomy xs } ∷ es)) (to_tell (told_at ends.role es e) (letter_count a.taken) roomy) (sequence_number (own_number ends.role (record e { ending = Spoke whole roomy xs } ∷ es)) (letters_sent_at ends.role es e)) no_letters ∷ []) [])
        whole (send_mss (peer_mss ends.role (record e { ending = Spoke whole roomy xs } ∷ es))) (shown ends.role (record e { ending = Spoke whole roomy xs } ∷ es)) (letters_sent_at ends.role es e) xs ys a.says there)

    by : (o : Bool) → MatchBool o (SpeaksOpen ends es (record e { ending = Spoke whole roomy xs }) whole roomy xs) (xs ≡ []) → MatchBool o (SpeaksOpen ends es (record e { ending = Spoke whole roomy ys }) whole roomy ys) (ys ≡ []) → xs ≡ ys
    by true a b = of a b
    by false a b = a ∙ sym b
