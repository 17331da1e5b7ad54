-- What the segments of one event carry, and how many letters have gone out after it.
use Rattle.std.proofs.lemmas.Option.{none-some}
use Rattle.std.proofs.Common.{◌≡◌, ℕ, suc, ◌+◌, ◌%◌, ◌^◌, ◌<◌, ◌≤◌, min, max, Bool, true, false, cond, List, [], ◌∷◌, ◌++◌, refl, sym, ◌∙◌, ap, subst, arith, ℤ, pos, negsuc, inl, inr, Some, ◌+ℤ◌}
use Rattle.std.specs.Prelude.{MatchBool, ◌==◌, nat_lt}
use Rattle.std.proofs.lemmas.Bool.{cases_Bool, ltb-true}
use Rattle.cf_packet.specs.Packet.{PacketValue}
use Rattle.cf_stream.specs.Position.{place_or_zero, position, sequence_number}
use Rattle.cf_stream.specs.Stream.{Stream, Letter, Carries, Extends, letter_count, letter_from, no_letters}
use Rattle.cf_leg.proofs.Carried.{at_inside, carries_none, carry_piece, carry_said, from_inside, said_some, some_right}
use Rattle.cf_leg.proofs.Events.{cut_as, fired_as, greeting_right, option_or_none}
use Rattle.cf_leg.proofs.Reach.{carried_after}
use Rattle.cf_leg.proofs.Speech.{piece_short, position_behind, segment_letters, segment_stream}
use Rattle.cf_leg.specs.Emits.{AllRight, EndsBy, Greets, IsGreeting, IsRight, SpeaksOpen, cut_packet, fired_at, peer_mss, piece, repeat_open, send_mss, way_of}
use Rattle.cf_leg.specs.Event.{Came, Nothing, Greeting, Packet, Ending, Unspoken, Spoke, Cut, LegEvent, greeted_by, said_by, sent_in, stream_after, stream_at}
use Rattle.cf_leg.specs.Heard.{acked, opened, shown}
use Rattle.cf_leg.specs.OneStream.{CarryAll, first_in, letter_in}
use Rattle.cf_leg.specs.Segment.{letters_in, segment}
use Rattle.cf_leg.specs.Told.{letters_sent, letters_sent_at, letters_sent_by, letters_sent_by_all, own_number, told}
use Rattle.cf_leg.specs.declared.ends.Ends.{Ends}
use Rattle.cf_leg.specs.declared.ends.Role.{Role}
use Rattle.cf_leg.specs.declared.ends.Role.TheVariants as role

-- segments that go out where so many letters were sent: they carry letters of a list, each place from there on has one, and
-- no letter comes to the top or past it
pub record Goes (whole : Stream) (own sent top : ℕ) (ps : List PacketValue) : Type 0 where
  pub carries : CarryAll whole own sent ps
  pub low : sent ≤ letters_sent_by_all own sent ps
  pub high : letters_sent_by_all own sent ps ≤ max sent top
  pub some : (q : ℕ) → sent ≤ q → q < letters_sent_by_all own sent ps → (l : Letter) × (first_in own sent ps q ≡ Some l)

-- segments without a new letter
pub record Repeats (whole : Stream) (own sent : ℕ) (ps : List PacketValue) : Type 0 where
  pub carries : CarryAll whole own sent ps
  pub same : letters_sent_by_all own sent ps ≡ sent
  pub old : (q : ℕ) (l : Letter) → first_in own sent ps q ≡ Some l → q < sent

-- ---- segments without letters
sends_none : (own sent : ℕ) (p : PacketValue) → letters_in p ≡ no_letters → letters_sent_by own sent p ≡ sent
sends_none own sent p h = ap (λ (s : Stream). cond (letter_count s == 0) sent (max sent (place_or_zero (position p.seq own sent +ℤ pos (letter_count s))))) h

carry_none : (whole : Stream) (z : ℤ) (text : Stream) → text ≡ no_letters → Carries whole z text
carry_none whole z text h = subst (λ (s : Stream). Carries whole z s) (sym h) (carries_none whole z)

no_letter_from : (z : ℤ) (q : ℕ) (l : Letter) → letter_from z no_letters q ≡ Some l → ⊥
no_letter_from (pos a) q l e = (let i = from_inside a no_letters q l e in omega (arith, i.0, i.1))
no_letter_from (negsuc a) q l e = (let i = at_inside no_letters (q + suc a) l e in omega (arith, i))

repeats_none : (whole : Stream) (own sent : ℕ) → Repeats whole own sent []
repeats_none whole own sent = record { carries = tt; same = refl; old = λ q l e. absurd (none-some l e) }

repeats_empty : (whole : Stream) (own sent : ℕ) (p : PacketValue) → letters_in p ≡ no_letters → Repeats whole own sent (p ∷ [])
repeats_empty whole own sent p h = record {
  carries = (carry_none whole (position p.seq own sent) (letters_in p) h, tt);
  same = sends_none own sent p h;
  old = λ q l e.
      absurd (no_letter_from (position p.seq own sent) q l
      (ap (λ (s : Stream). letter_from (position p.seq own sent) s q) (sym h) ∙ sym (option_or_none (letter_in own sent p q)) ∙ e));
}

goes_still : (whole : Stream) (own sent top : ℕ) (ps : List PacketValue) → Repeats whole own sent ps → Goes whole own sent top ps
goes_still whole own sent top ps r = record {
  carries = r.carries;
  low = omega (arith, r.same);
  high = omega (arith, r.same);
  some = λ q low high. absurd (omega (arith, r.same, low, high));
}

-- a segment without letters before the others
goes_behind : (whole : Stream) (own sent top : ℕ) (p : PacketValue) (ps : List PacketValue) → letters_in p ≡ no_letters → Goes whole own sent top ps → Goes whole own sent top (p ∷ ps)
goes_behind whole own sent top p ps h g =
    let same = sends_none own sent p h in
    record {
      carries = (carry_none whole (position p.seq own sent) (letters_in p) h, subst (λ (n : ℕ). CarryAll whole own n ps) (sym same) g.carries);
      low = subst (λ (n : ℕ). sent ≤ letters_sent_by_all own n ps) (sym same) g.low;
      high = subst (λ (n : ℕ). letters_sent_by_all own n ps ≤ max sent top) (sym same) g.high;
      some = λ q low high.
          (let there = g.some q low (subst (λ (n : ℕ). q < letters_sent_by_all own n ps) same high) in
          some_right (letter_in own sent p q) (first_in own (letters_sent_by own sent p) ps q) (there.0, ap (λ (n : ℕ). first_in own n ps q) same ∙ there.1));
    }

greeting_empty : (ends : Ends) (r : Role) (p : PacketValue) → IsGreeting ends r p → letters_in p ≡ no_letters
greeting_empty ends (role.Active own) p h = ap letters_in h
greeting_empty ends (role.Passive other mss) p h = ap letters_in h

cut_empty : (ends : Ends) (es : List LegEvent) (from count : ℕ) (r : Role) → letters_in (cut_packet ends es from count r) ≡ no_letters
cut_empty ends es from count r = cut_as (λ p. letters_in p ≡ no_letters) ends es from count r (λ n a. refl) (λ n. refl)

-- ---- a firing
module _ (ends : Ends) (es : List LegEvent) (all : AllRight ends es) (whole : Stream) (x : Extends (stream_after es) whole) (limit : letter_count whole ≤ 2 ^ 31)
    (within : letters_sent ends.role es ≤ letter_count (stream_after es)) (short : letter_count (stream_after es) ≤ letter_count whole) where
  open_repeats : Repeats whole (own_number ends.role es) (letters_sent ends.role es) (repeat_open ends es ∷ [])
  open_repeats = by (nat_lt (acked ends.role es) (letters_sent ends.role es)) refl
    where
      text : Stream
      text = piece (stream_after es) (send_mss (peer_mss ends.role es)) (letters_sent ends.role es) (acked ends.role es)

      out : PacketValue
      out = segment (way_of ends es) (told ends.role es) (sequence_number (own_number ends.role es) (acked ends.role es)) text

      by : (b : Bool) → nat_lt (acked ends.role es) (letters_sent ends.role es) ≡ b
          → Repeats whole (own_number ends.role es) (letters_sent ends.role es)
          (cond b (segment (way_of ends es) (told ends.role es) (sequence_number (own_number ends.role es) (acked ends.role es)) (piece (stream_after es) (send_mss (peer_mss ends.role es)) (letters_sent ends.role es) (acked ends.role es)))
          (segment (way_of ends es) (told ends.role es) ((own_number ends.role es + acked ends.role es) % 2 ^ 32) no_letters) ∷ [])
      by false e = repeats_empty whole (own_number ends.role es) (letters_sent ends.role es) (segment (way_of ends es) (told ends.role es) ((own_number ends.role es + acked ends.role es) % 2 ^ 32) no_letters) refl
      by true e =
          (let from = acked ends.role es in
          let sent = letters_sent ends.role es in
          let own = own_number ends.role es in
          let p = segment (way_of ends es) (told ends.role es) (sequence_number own from) (piece (stream_after es) (send_mss (peer_mss ends.role es)) sent from) in
          let below = ltb-true from sent e in
          let at = position_behind own sent from below (omega (arith, within, short, limit)) in
          let inside : from < min sent (letter_count (stream_after es)) = omega (arith, below, within) in
          let stops = piece_short (stream_after es) (send_mss (peer_mss ends.role es)) sent from inside in
          let letters = segment_stream (way_of ends es) (told ends.role es) (sequence_number own from) (piece (stream_after es) (send_mss (peer_mss ends.role es)) sent from) in
          let count = segment_letters (way_of ends es) (told ends.role es) (sequence_number own from) (piece (stream_after es) (send_mss (peer_mss ends.role es)) sent from) in
          record {
            carries = (
              subst (λ (z : ℤ). Carries whole z (letters_in p)) (sym at)
                  (subst (λ (u : Stream). Carries whole (pos from) u) (sym letters) (carry_piece (way_of ends es) (told ends.role es) (stream_after es) whole x (send_mss (peer_mss ends.role es)) sent from inside)),
              tt,
            );
            same =
                elim (cases_Bool (letter_count (piece (stream_after es) (send_mss (peer_mss ends.role es)) sent from) == 0)) [
                  | inl z ↦ rw (count, z) refl
                  | inr z ↦ rw (count, z, at) (omega (arith, stops))
                ];
            old = λ q l k.
                (let there = ap (λ (u : Stream). letter_from (pos from) u q) (sym letters) ∙ ap (λ (z : ℤ). letter_from z (letters_in p) q) (sym at) ∙ sym (option_or_none (letter_in own sent p q)) ∙ k in
                let i = from_inside from (piece (stream_after es) (send_mss (peer_mss ends.role es)) sent from) q l there in
                omega (arith, i.1, stops));
          })

  pub fired_repeats : (e : LegEvent) → e.fired ≡ fired_at ends es e → Repeats whole (own_number ends.role es) (letters_sent ends.role es) e.fired
  fired_repeats e f =
      let own = own_number ends.role es in
      let sent = letters_sent ends.role es in
      subst (λ (ps : List PacketValue). Repeats whole own sent ps) (sym f)
      (fired_as (λ ps. Repeats whole own sent ps) ends es e (repeats_none whole own sent)
      (λ p o k. repeats_empty whole own sent p (greeting_empty ends ends.role p (greeting_right ends es all p k))) (λ o. open_repeats))

-- ---- the packet half
module _ (ends : Ends) (es : List LegEvent) (e : LegEvent) (whole : Stream) where
  said_goes : (own sent : ℕ) (n : Ending) → own ≡ own_number ends.role (e ∷ es) → sent ≡ letters_sent_at ends.role es e → Extends (stream_at n (stream_after es)) whole
      → EndsBy ends es e n → Goes whole own sent (min (shown ends.role (e ∷ es)) (letter_count (stream_at n (stream_after es)))) (said_by n)
  said_goes own sent Unspoken o c x h = goes_still whole own sent _ [] (repeats_none whole own sent)
  said_goes own sent (Cut p) o c x h = goes_still whole own sent _ (p ∷ []) (repeats_empty whole own sent p (ap letters_in h.rst ∙ cut_empty ends (e ∷ es) _ _ ends.role))
  said_goes own sent (Spoke w roomy outs) o c x h =
      subst (λ (m : ℕ). Goes whole m sent (min (shown ends.role (e ∷ es)) (letter_count w)) outs) (sym o)
      (subst (λ (m : ℕ). Goes whole (own_number ends.role (e ∷ es)) m (min (shown ends.role (e ∷ es)) (letter_count w)) outs) (sym c) (by (opened ends.role (e ∷ es)) h))
    where
      by : (b : Bool) → MatchBool b (SpeaksOpen ends es e w roomy outs) (outs ≡ []) → Goes whole (own_number ends.role (e ∷ es)) (letters_sent_at ends.role es e) (min (shown ends.role (e ∷ es)) (letter_count w)) outs
      by false none = subst (λ (ps : List PacketValue). Goes whole (own_number ends.role (e ∷ es)) (letters_sent_at ends.role es e) (min (shown ends.role (e ∷ es)) (letter_count w)) ps) (sym none)
          (goes_still whole _ _ _ [] (repeats_none whole _ _))
      by true s =
          (let went = carried_after (way_of ends (e ∷ es)) _ _ w (send_mss (peer_mss ends.role (e ∷ es))) (shown ends.role (e ∷ es)) (letters_sent_at ends.role es e) outs s.says in
          record {
            carries = carry_said (way_of ends (e ∷ es)) _ w whole x (send_mss (peer_mss ends.role (e ∷ es))) (shown ends.role (e ∷ es)) _ (letters_sent_at ends.role es e) outs s.says;
            low = omega (arith, went);
            high = omega (arith, went);
            some = λ q low high. said_some (way_of ends (e ∷ es)) _ w whole x (send_mss (peer_mss ends.role (e ∷ es))) (shown ends.role (e ∷ es)) _ (letters_sent_at ends.role es e) outs s.says q low high;
          })

  pub event_goes : IsRight ends es e → Extends (stream_after (e ∷ es)) whole
      → Goes whole (own_number ends.role (e ∷ es)) (letters_sent_at ends.role es e) (min (shown ends.role (e ∷ es)) (letter_count (stream_after (e ∷ es)))) (sent_in e)
  event_goes r x = by e.came r.came
    where
      said : Goes whole (own_number ends.role (e ∷ es)) (letters_sent_at ends.role es e) (min (shown ends.role (e ∷ es)) (letter_count (stream_after (e ∷ es)))) (said_by e.ending)
      said = said_goes (own_number ends.role (e ∷ es)) (letters_sent_at ends.role es e) e.ending refl refl x r.ending

      by : (c : Came) → Greets ends es c → Goes whole (own_number ends.role (e ∷ es)) (letters_sent_at ends.role es e) (min (shown ends.role (e ∷ es)) (letter_count (stream_after (e ∷ es)))) (greeted_by c ++ said_by e.ending)
      by Nothing g = said
      by (Packet p) g = said
      by (Greeting p) g = goes_behind whole (own_number ends.role (e ∷ es)) (letters_sent_at ends.role es e) _ p (said_by e.ending) (greeting_empty ends ends.role p g.0) said
