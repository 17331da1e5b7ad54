-- What is told never moves back.
use Rattle.std.proofs.lemmas.Option.{none-some}
use Rattle.std.proofs.Common.{◌≡◌, ℕ, ◌+◌, ◌-◌, ◌^◌, ◌%◌, ◌⊎◌, ◌<◌, ◌≤◌, Bool, true, false, cond, ◌||◌, List, [], ◌∷◌, ◌++◌, length, refl, sym, ◌∙◌, ap, subst, arith, inl, inr, Option, Some, None}
use Rattle.std.specs.Prelude.{MatchBool, nat_lt}
use Rattle.std.specs.Option.{option_or, is_some}
use Rattle.std.proofs.lemmas.Bool.{cases_lt, cases_Bool, le-ltb, or_parts, true≢false, false≢true}
use Rattle.cf_packet.specs.Packet.{PacketValue}
use Rattle.cf_stream.proofs.Taken.{same_taken, some_taken, taken_extends}
use Rattle.cf_stream.specs.FirstCopy.{IsTaken, Offer, first_copy, offered}
use Rattle.cf_stream.specs.Position.{place_or_zero, position, sequence_number}
use Rattle.cf_stream.specs.Stream.{End, Letter, Stream, letter_count, no_letters}
use Rattle.cf_leg.proofs.Events.{cut_as, fired_as, greeting_right, open_is_greeted, option_or_none}
use Rattle.cf_leg.proofs.Speech.{position_ahead, told_segment}
use Rattle.cf_leg.proofs.Spoken.{told_said}
use Rattle.cf_leg.proofs.Streams.{count_grows}
use Rattle.cf_leg.specs.Emits.{AllRight, EndsBy, Greets, IsGreeting, IsRight, SpeaksOpen, cut_packet, fired_at, peer_mss, piece, repeat_open, send_mss, syn_ack_for, to_tell, way_of}
use Rattle.cf_leg.specs.Event.{Came, Nothing, Greeting, Packet, Ending, Unspoken, Spoke, Cut, LegEvent, greeted_by, said_by, stream_after}
use Rattle.cf_leg.specs.Heard.{acked, counts, end_state, offers, offers_by, opened, opens, owed, shown, text_place}
use Rattle.cf_leg.specs.LegValue.{first_told}
use Rattle.cf_leg.specs.Segment.{letters_in, segment}
use Rattle.cf_leg.specs.Told.{greeting, greeting_in, is_greeted, letters_sent, letters_sent_at, own_number, peer_number, told, told_at, told_by, told_by_all}
use Rattle.cf_leg.specs.declared.ends.Ends.{Ends}
use Rattle.cf_leg.specs.declared.ends.Role.{Role}
use Rattle.cf_leg.specs.declared.ends.Role.TheVariants as role
use Rattle.cf_leg.specs.declared.ends.Advertised.{Advertised}

-- ---- what holds of what was told, along a list of right events
pub record TellsUp (ends : Ends) (es : List LegEvent) : Type 0 where
  pub order : (told ends.role es).base ≤ (told ends.role es).edge
  pub near : (told ends.role es).edge ≤ (told ends.role es).base + 16384
  pub low : (s : Stream) → IsTaken (first_copy (offers ends.role es)) s → (told ends.role es).base ≤ letter_count s
  pub high : (p : ℕ) (l : Letter) → first_copy (offers ends.role es) p ≡ Some l → p < (told ends.role es).edge
  pub first : opened ends.role es ≡ false → is_greeted es ≡ true → told ends.role es ≡ first_told ends.role
  pub none : is_greeted es ≡ false → told ends.role es ≡ record { base = 0; edge = 0 }

-- from one told to the next, where this was offered by then
record Up (os : List Offer) (t u : Advertised) : Type 0 where
  order : u.base ≤ u.edge
  near : u.edge ≤ u.base + 16384
  base : t.base ≤ u.base
  edge : t.edge ≤ u.edge
  low : (s : Stream) → IsTaken (first_copy os) s → u.base ≤ letter_count s

-- ---- a greeting
syn_ack_tells : (ends : Ends) (other number base edge : ℕ) → base ≡ 0 → ◌≡◌ {A = Advertised} (told_by other (record { base = base; edge = edge }) (syn_ack_for ends other number)) (record { base = 0; edge = 16384 })
syn_ack_tells ends other number base edge z =
    let zero : place_or_zero (position (sequence_number other 0) other 0) ≡ 0 = ap place_or_zero (position_ahead other 0 0 (omega arith) (omega arith)) in
    ap (λ (n : ℕ). let t : Advertised = record { base = place_or_zero (position (sequence_number other 0) other n); edge = place_or_zero (position (sequence_number other 0) other n) + 16384 } in t) z
    ∙ ap (λ (n : ℕ). let t : Advertised = record { base = n; edge = n + 16384 } in t) zero

-- the first one, and one that goes out again, tell the same
pub greeting_tells : (ends : Ends) (r : Role) (es : List LegEvent) (p : PacketValue) (t : Advertised) → IsGreeting ends r p → t.base ≡ 0 → (r ≡ r → t ≡ record { base = 0; edge = 0 } ⊎ t ≡ first_told r) → told_by (peer_number r es) t p ≡ first_told r
greeting_tells ends (role.Active own) es p t k z f = subst (λ (x : PacketValue). told_by (peer_number (role.Active own) es) t x ≡ first_told (role.Active own)) (sym k) (by (f refl))
  where
    by : (t ≡ record { base = 0; edge = 0 }) ⊎ (t ≡ first_told (role.Active own)) → t ≡ first_told (role.Active own)
    by (inl e) = e
    by (inr e) = e
greeting_tells ends (role.Passive other mss) es p t k z f =
    subst (λ (x : PacketValue). told_by other t x ≡ first_told (role.Passive other mss)) (sym k) (syn_ack_tells ends other p.seq t.base t.edge z)

first_base : (r : Role) → (first_told r).base ≡ 0
first_base (role.Active own) = refl
first_base (role.Passive other mss) = refl

-- ---- a firing
module _ (ends : Ends) (es : List LegEvent) (all : AllRight ends es) (h : TellsUp ends es) where
  open_tells : told_by (peer_number ends.role es) (told ends.role es) (repeat_open ends es) ≡ told ends.role es
  open_tells = by (nat_lt (acked ends.role es) (letters_sent ends.role es))
    where
      of : (number : ℕ) (s : Stream) → told_by (peer_number ends.role es) (told ends.role es) (segment (way_of ends es) (told ends.role es) number s) ≡ told ends.role es
      of number s = told_segment (way_of ends es) (told ends.role es) number s (told ends.role es) (omega arith) (omega arith) h.order

      by : (b : Bool) → told_by (peer_number ends.role es) (told ends.role es)
          (cond b (segment (way_of ends es) (told ends.role es) (sequence_number (own_number ends.role es) (acked ends.role es)) (piece (stream_after es) (send_mss (peer_mss ends.role es)) (letters_sent ends.role es) (acked ends.role es)))
          (segment (way_of ends es) (told ends.role es) ((own_number ends.role es + acked ends.role es) % 2 ^ 32) no_letters)) ≡ told ends.role es
      by true = of (sequence_number (own_number ends.role es) (acked ends.role es)) (piece (stream_after es) (send_mss (peer_mss ends.role es)) (letters_sent ends.role es) (acked ends.role es))
      by false = of ((own_number ends.role es + acked ends.role es) % 2 ^ 32) no_letters

  pub fired_tells : (e : LegEvent) → e.fired ≡ fired_at ends es e → told_at ends.role es e ≡ told ends.role es
  fired_tells e f = ap (λ (ps : List PacketValue). told_by_all (peer_number ends.role es) (told ends.role es) ps) f
      ∙ fired_as (λ ps. told_by_all (peer_number ends.role es) (told ends.role es) ps ≡ told ends.role es) ends es e refl
      (λ p o k. (let t = h.first o (ap is_some k) in
      greeting_tells ends ends.role es p (told ends.role es) (greeting_right ends es all p k) (ap (λ (u : Advertised). u.base) t ∙ first_base ends.role) (λ _. inr t) ∙ sym t))
      (λ o. open_tells)

-- ---- the packet half
some_last : (o : Option PacketValue) (p : PacketValue) → is_some (option_or o (Some p)) ≡ true
some_last None p = refl
some_last (Some q) p = refl

cut_tells : (ends : Ends) (es : List LegEvent) (from count : ℕ) (r : Role) (other : ℕ) (t : Advertised) → told_by other t (cut_packet ends es from count r) ≡ t
cut_tells ends es from count r other t = cut_as (λ p. told_by other t p ≡ t) ends es from count r (λ n a. refl) (λ n. refl)

option_or_some : (o : Option Letter) (x : Option Letter) (l : Letter) → o ≡ Some l → option_or o x ≡ Some l
option_or_some o x l e = ap (λ (y : Option Letter). option_or y x) e

module _ (ends : Ends) (e : LegEvent) (es : List LegEvent) (right : IsRight ends es e) (all : AllRight ends es) (h : TellsUp ends es) where
  same : told_at ends.role es e ≡ told ends.role es
  same = fired_tells ends es all h e right.fired

  -- what was offered before stays, and nothing was offered at the edge told or past it
  kept : (p : ℕ) (l : Letter) → first_copy (offers ends.role es) p ≡ Some l → first_copy (offers ends.role (e ∷ es)) p ≡ Some l
  kept p l k = by e.came
    where
      of : (b : Bool) (o : Offer) → first_copy (cond b (o ∷ offers ends.role es) (offers ends.role es)) p ≡ Some l
      of true o = option_or_some (first_copy (offers ends.role es) p) (offered o p) l k
      of false o = k

      by : (c : Came) → first_copy (offers_by (end_state ends.role es e) c (offers ends.role es)) p ≡ Some l
      by Nothing = k
      by (Greeting q) = k
      by (Packet q) = of (counts (end_state ends.role es e) q) (record { at = text_place (end_state ends.role es e) q; text = letters_in q; edge = (told_at ends.role es e).edge })

  below : (p : ℕ) (l : Letter) → first_copy (offers ends.role (e ∷ es)) p ≡ Some l → p < (told ends.role es).edge
  below p l k = by e.came k
    where
      last : (o : Offer) → o.edge ≡ (told ends.role es).edge → (x : Option Letter) → first_copy (offers ends.role es) p ≡ x → option_or x (offered o p) ≡ Some l → p < (told ends.role es).edge
      last o m (Some y) z w = h.high p y z
      last o m None z w =
          elim (cases_lt p o.edge) [
            | inl v ↦ omega (arith, m, v)
            | inr v ↦ (let none = rw (le-ltb p o.edge v) at w in absurd (none-some l none))
          ]

      of : (b : Bool) (o : Offer) → o.edge ≡ (told ends.role es).edge → first_copy (cond b (o ∷ offers ends.role es) (offers ends.role es)) p ≡ Some l → p < (told ends.role es).edge
      of true o m w = last o m (first_copy (offers ends.role es) p) refl w
      of false o m w = h.high p l w

      by : (c : Came) → first_copy (offers_by (end_state ends.role es e) c (offers ends.role es)) p ≡ Some l → p < (told ends.role es).edge
      by Nothing w = h.high p l w
      by (Greeting q) w = h.high p l w
      by (Packet q) w = of (counts (end_state ends.role es e) q) (record { at = text_place (end_state ends.role es e) q; text = letters_in q; edge = (told_at ends.role es e).edge }) (ap (λ (t : Advertised). t.edge) same) w

  within : (s : Stream) → IsTaken (first_copy (offers ends.role (e ∷ es))) s → letter_count s ≤ (told ends.role es).edge
  within s t =
      elim (cases_Bool s.ended) [
        | inl b ↦ (let last = below (length s.bytes) End (t.ended b) in rw b (omega (arith, last)))
        | inr b ↦
            elim (cases_lt 0 (length s.bytes)) [
              | inl v ↦ (let last = below (length s.bytes - 1) _ (t.bytes (length s.bytes - 1) (omega (arith, v))) in rw b (omega (arith, last, v)))
              | inr v ↦ rw b (omega (arith, v))
            ]
      ]

  above : (s : Stream) → IsTaken (first_copy (offers ends.role (e ∷ es))) s → (told ends.role es).base ≤ letter_count s
  above s t =
      let old = some_taken (offers ends.role es) in
      let longer = count_grows old.0 s (taken_extends (first_copy (offers ends.role es)) (first_copy (offers ends.role (e ∷ es))) kept old.0 s old.1 t) in
      let low = h.low old.0 old.1 in
      omega (arith, longer, low)

  stays : Up (offers ends.role (e ∷ es)) (told ends.role es) (told ends.role es)
  stays = record { order = h.order; near = h.near; base = omega arith; edge = omega arith; low = above }

  stays_at : (t : Advertised) → t ≡ told ends.role es → Up (offers ends.role (e ∷ es)) (told ends.role es) t
  stays_at t k = subst (λ (u : Advertised). Up (offers ends.role (e ∷ es)) (told ends.role es) u) (sym k) stays

  -- a speech that tells how many letters are taken
  moves : (taken : Stream) (roomy : Bool) → IsTaken (first_copy (offers ends.role (e ∷ es))) taken → Up (offers ends.role (e ∷ es)) (told ends.role es) (to_tell (told ends.role es) (letter_count taken) roomy)
  moves taken roomy t = by roomy
    where
      counts_all : (s : Stream) → IsTaken (first_copy (offers ends.role (e ∷ es))) s → letter_count taken ≤ letter_count s
      counts_all s u = (let one = ap (λ (v : Stream). letter_count v) (same_taken (first_copy (offers ends.role (e ∷ es))) taken s t u) in omega (arith, one))

      by : (b : Bool) → Up (offers ends.role (e ∷ es)) (told ends.role es) (to_tell (told ends.role es) (letter_count taken) b)
      by true = (let a = above taken t in record { order = omega arith; near = omega arith; base = a; edge = omega (arith, a, h.near); low = counts_all })
      by false = (let a = above taken t in let w = within taken t in record { order = w; near = omega (arith, a, h.near); base = a; edge = omega arith; low = counts_all })

  said_up : (n : Ending) → EndsBy ends es e n → (t : Advertised) → t ≡ told ends.role es → Up (offers ends.role (e ∷ es)) (told ends.role es) (told_by_all (peer_number ends.role (e ∷ es)) t (said_by n))
  said_up Unspoken g t k = stays_at t k
  said_up (Cut p) g t k = stays_at _ (ap (λ (x : PacketValue). told_by (peer_number ends.role (e ∷ es)) t x) g.rst ∙ cut_tells ends (e ∷ es) _ _ ends.role (peer_number ends.role (e ∷ es)) t ∙ k)
  said_up (Spoke whole roomy outs) g t k = by (opened ends.role (e ∷ es)) g
    where
      by : (b : Bool) → MatchBool b (SpeaksOpen ends es e whole roomy outs) (outs ≡ []) → Up (offers ends.role (e ∷ es)) (told ends.role es) (told_by_all (peer_number ends.role (e ∷ es)) t outs)
      by false n = stays_at _ (ap (λ (ps : List PacketValue). told_by_all (peer_number ends.role (e ∷ es)) t ps) n ∙ k)
      by true s =
          (let m = moves s.taken roomy s.is_taken in
          let w = within s.taken s.is_taken in
          let low = above s.taken s.is_taken in
          let at = ap (λ (u : Advertised). u.base) same in
          let there = subst (λ (u : Advertised). Up (offers ends.role (e ∷ es)) (told ends.role es) (to_tell u (letter_count s.taken) roomy)) (sym same) m in
          subst (λ (u : Advertised). Up (offers ends.role (e ∷ es)) (told ends.role es) u)
          (sym (ap (λ (u : Advertised). told_by_all (peer_number ends.role (e ∷ es)) u outs) (k ∙ sym same)
          ∙ told_said (way_of ends (e ∷ es)) (told_at ends.role es e) (to_tell (told_at ends.role es e) (letter_count s.taken) roomy) (owed ends.role es e) whole
          (send_mss (peer_mss ends.role (e ∷ es))) (shown ends.role (e ∷ es)) (letters_sent_at ends.role es e) outs
          (omega (arith, at, low)) (omega (arith, at, w, h.near)) there.order s.says))
          there)

  -- an end that is not open tells nothing more
  said_first : (n : Ending) → EndsBy ends es e n → opened ends.role (e ∷ es) ≡ false → (t : Advertised) → told_by_all (peer_number ends.role (e ∷ es)) t (said_by n) ≡ t
  said_first Unspoken g o t = refl
  said_first (Cut p) g o t = ap (λ (x : PacketValue). told_by (peer_number ends.role (e ∷ es)) t x) g.rst ∙ cut_tells ends (e ∷ es) _ _ ends.role (peer_number ends.role (e ∷ es)) t
  said_first (Spoke whole roomy outs) g o t =
      (let none : outs ≡ [] = subst (λ (b : Bool). MatchBool b (SpeaksOpen ends es e whole roomy outs) (outs ≡ [])) o g in
      ap (λ (ps : List PacketValue). told_by_all (peer_number ends.role (e ∷ es)) t ps) none)

  -- all of the packet half
  record Then (t : Advertised) : Type 0 where
    up : Up (offers ends.role (e ∷ es)) (told ends.role es) t
    first : opened ends.role (e ∷ es) ≡ false → is_greeted (e ∷ es) ≡ true → t ≡ first_told ends.role
    none : is_greeted (e ∷ es) ≡ false → t ≡ record { base = 0; edge = 0 }

  open_before : opened ends.role (e ∷ es) ≡ false → opened ends.role es ≡ false
  open_before o = (or_parts (opened ends.role es) (opens (end_state ends.role es e) e.came) o).0

  closed_unless_greeted : is_greeted (e ∷ es) ≡ false → opened ends.role (e ∷ es) ≡ false
  closed_unless_greeted n =
      elim (cases_Bool (opened ends.role (e ∷ es))) [
        | inl o ↦ absurd (true≢false (sym (open_is_greeted ends.role (e ∷ es) o) ∙ n))
        | inr o ↦ o
      ]

  then_quiet : greeted_by e.came ≡ [] → greeting_in e.came ≡ None → Then (told ends.role (e ∷ es))
  then_quiet s n = record {
    up = subst (λ (u : Advertised). Up (offers ends.role (e ∷ es)) (told ends.role es) u) (sym is) (said_up e.ending right.ending (told_at ends.role es e) same);
    first = λ o g. is ∙ said_first e.ending right.ending o (told_at ends.role es e) ∙ same ∙ h.first (open_before o) (sym greeted ∙ g);
    none = λ g. is ∙ said_first e.ending right.ending (closed_unless_greeted g) (told_at ends.role es e) ∙ same ∙ h.none (sym greeted ∙ g);
  }
    where
      is : told ends.role (e ∷ es) ≡ told_by_all (peer_number ends.role (e ∷ es)) (told_at ends.role es e) (said_by e.ending)
      is = ap (λ (ps : List PacketValue). told_by_all (peer_number ends.role (e ∷ es)) (told_at ends.role es e) (ps ++ said_by e.ending)) s

      greeted : is_greeted (e ∷ es) ≡ is_greeted es
      greeted = ap (λ (o : Option PacketValue). is_some (option_or (greeting es) o)) n ∙ ap is_some (option_or_none (greeting es))

  then_greeting : (p : PacketValue) → e.came ≡ Greeting p → Greets ends es (Greeting p) → Then (told ends.role (e ∷ es))
  then_greeting p k g = record {
    up = subst (λ (u : Advertised). Up (offers ends.role (e ∷ es)) (told ends.role es) u) (sym is) (begins ends.role);
    first = λ o m. is;
    none = λ m. absurd (true≢false (sym greets ∙ m));
  }
    where
      zero : told ends.role es ≡ record { base = 0; edge = 0 }
      zero = h.none g.1

      greets : is_greeted (e ∷ es) ≡ true
      greets = ap (λ (c : Came). is_some (option_or (greeting es) (greeting_in c))) k ∙ some_last (greeting es) p

      shut : opened ends.role es ≡ false
      shut = elim (cases_Bool (opened ends.role es)) [ inl o ↦ absurd (true≢false (sym (open_is_greeted ends.role es o) ∙ g.1)) | inr o ↦ o ]

      closed : opened ends.role (e ∷ es) ≡ false
      closed = ap (λ (c : Came). opened ends.role es || opens (end_state ends.role es e) c) k ∙ ap (λ (b : Bool). b || false) shut

      at_zero : told_at ends.role es e ≡ record { base = 0; edge = 0 }
      at_zero = same ∙ zero

      is : told ends.role (e ∷ es) ≡ first_told ends.role
      is =
          ap (λ (c : Came). told_by_all (peer_number ends.role (e ∷ es)) (told_at ends.role es e) (greeted_by c ++ said_by e.ending)) k
          ∙ said_first e.ending right.ending closed (told_by (peer_number ends.role (e ∷ es)) (told_at ends.role es e) p)
          ∙ greeting_tells ends ends.role (e ∷ es) p (told_at ends.role es e) g.0 (ap (λ (u : Advertised). u.base) at_zero) (λ _. inl at_zero)

      base_zero : (told ends.role es).base ≡ 0
      base_zero = ap (λ (u : Advertised). u.base) zero

      edge_zero : (told ends.role es).edge ≡ 0
      edge_zero = ap (λ (u : Advertised). u.edge) zero

      begins : (r : Role) → Up (offers ends.role (e ∷ es)) (told ends.role es) (first_told r)
      begins (role.Active own) = record { order = omega arith; near = omega arith; base = omega (arith, base_zero); edge = omega (arith, edge_zero); low = λ s t. omega arith }
      begins (role.Passive other mss) = record { order = omega arith; near = omega arith; base = omega (arith, base_zero); edge = omega (arith, edge_zero); low = λ s t. omega arith }

  event_then : (c : Came) → e.came ≡ c → Greets ends es c → Then (told ends.role (e ∷ es))
  event_then Nothing k g = then_quiet (ap greeted_by k) (ap greeting_in k)
  event_then (Packet p) k g = then_quiet (ap greeted_by k) (ap greeting_in k)
  event_then (Greeting p) k g = then_greeting p k g

  pub event_tells : TellsUp ends (e ∷ es)
  event_tells =
      let t = event_then e.came refl right.came in
      record {
        order = t.up.order;
        near = t.up.near;
        low = t.up.low;
        high = λ p l k. (let b = below p l k in let u = t.up.edge in omega (arith, b, u));
        first = t.first;
        none = t.none;
      }

  pub event_up : ((told ends.role es).base ≤ (told ends.role (e ∷ es)).base) × ((told ends.role es).edge ≤ (told ends.role (e ∷ es)).edge)
  event_up = (let t = event_then e.came refl right.came in (t.up.base, t.up.edge))

pub tells_up : (ends : Ends) (es : List LegEvent) → AllRight ends es → TellsUp ends es
tells_up ends [] a = record {
  order = omega arith;
  near = omega arith;
  low = λ s t. omega arith;
  high = λ p l k. absurd (none-some l k);
  first = λ o g. absurd (false≢true g);
  none = λ g. refl;
}
tells_up ends (e ∷ es) a = event_tells ends e es a.0 a.1 (tells_up ends es a.1)

pub edges_up : (ends : Ends) (e : LegEvent) (es : List LegEvent) → AllRight ends (e ∷ es)
    → ((told ends.role es).base ≤ (told ends.role (e ∷ es)).base) × ((told ends.role es).edge ≤ (told ends.role (e ∷ es)).edge)
edges_up ends e es a = event_up ends e es a.0 a.1 (tells_up ends es a.1)
