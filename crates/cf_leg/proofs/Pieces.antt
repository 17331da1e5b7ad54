-- Pieces of a queue, and the segments that carry them.
use Rattle.std.proofs.Common.{◌≡◌, ℕ, ◌+◌, ◌-◌, ◌<◌, ◌≤◌, min, max, Bool, true, false, cond, not, ◌&&◌, List, [], ◌∷◌, ◌++◌, length, refl, sym, ◌∙◌, ap, arith, Some, append_assoc, eq-eqb, lt-ltb, subst, drop, take, ◌⊎◌, inl, inr, ℤ}
use Rattle.std.specs.Prelude.{MatchBool, ◌==◌, nat_lt, ◌↔◌, IsTrue}
use Rattle.std.proofs.Math.Seq.{take-append-add}
use Rattle.std.proofs.lemmas.List.{append-nil, length-take, length-drop}
use Rattle.std.proofs.lemmas.Bool.{cases_lt, true≢false, eqb-true, ltb-true, ltb-false}
use Rattle.cf_outside.specs.Desk.{DeskValue}
use Rattle.cf_outq.specs.SendQueue.{Queue, IsPiece, IsAnswer, carried, piece_letters, queue_length}
use Rattle.cf_outq.specs.SendQueue.{IsQueueOf}
use Rattle.cf_outq.specs.declared.Piece.{Piece}
use Rattle.cf_packet.specs.Packet.{PacketValue}
use Rattle.cf_stream.specs.Position.{place_or_zero, sequence_number}
use Rattle.cf_stream.specs.Stream.{Stream, letter_count, no_letters}
use Rattle.cf_leg.specs.Calls.{SaysTo, SendsPiece, SendsSome, SendsNew}
use Rattle.cf_leg.proofs.Broken.{all_or_first, gets_after}
use Rattle.cf_leg.proofs.Saying.{all_pieces}
use Rattle.cf_leg.specs.Emits.{Pieces, SaysIf, piece}
use Rattle.cf_leg.specs.Emitted.{GetsSegments}
use Rattle.cf_leg.specs.Segment.{segment}
use Rattle.cf_leg.specs.declared.ends.Advertised.{Advertised}
use Rattle.cf_leg.specs.declared.ends.Way.{Way}

same_end : (x a : Bool) (n m l : ℕ) → (IsTrue x ↔ (IsTrue a × (n ≡ m) × (m < l))) → x ≡ (a && ((n == m) && nat_lt m l))
same_end true a n m l h = let k = h.0 refl in rw (k.0, eq-eqb n m k.1, lt-ltb m l k.2) refl
same_end false a n m l h = by a (n == m) (nat_lt m l) refl refl refl
  where
    by : (b c d : Bool) → a ≡ b → (n == m) ≡ c → nat_lt m l ≡ d → false ≡ (b && (c && d))
    by true true true e f g = h.1 (e, eqb-true n m f, ltb-true m l g)
    by true true false e f g = refl
    by true false d e f g = refl
    by false c d e f g = refl

-- a piece of a queue is that of the list that it stands for
module _ (q : Queue) (whole : Stream) (h : IsQueueOf q whole) (mss from limit : ℕ) (p : Piece) (i : IsPiece q mss from limit p) where
  len_is : p.len ≡ min mss (min limit (length whole.bytes) - from)
  len_is = i.len ∙ ap (λ (n : ℕ). min mss (min limit n - from)) h.pushed

  end_is : p.end ≡ (whole.ended && (((from + p.len) == length whole.bytes) && nat_lt (length whole.bytes) limit))
  end_is = same_end p.end q.ended (from + p.len) q.pushed limit i.end ∙ rw (h.ended, h.pushed) refl

  pub piece_is : carried whole p ≡ piece whole mss limit from
  piece_is = rw (i.at, end_is, len_is) refl

-- where there is a piece, a letter is left
pub left_of : (q : Queue) (mss : ℕ) (p : Piece) → IsAnswer q mss q.sent q.shown (Some p) → q.sent < min q.shown (queue_length q)
left_of q mss p answer =
    elim (cases_lt q.sent (min q.shown (queue_length q))) [
      | inl l ↦ l
      | inr g ↦ absurd (true≢false (answer.none.1 g))
    ]

-- a piece stays below its limit
pub piece_within : (q : Queue) (mss from limit : ℕ) (p : Piece) → IsPiece q mss from limit p → from ≤ min limit (queue_length q) → from + piece_letters p ≤ min limit (queue_length q)
piece_within q mss from limit p i l = by p.end refl
  where
    by : (b : Bool) → p.end ≡ b → from + piece_letters p ≤ min limit (queue_length q)
    by true e = let k = i.end.0 e in rw (e, k.0) (omega (arith, k.1, k.2))
    by false e = rw e (omega (arith, i.len, l))

-- how many letters a piece has
module _ (q : Queue) (whole : Stream) (h : IsQueueOf q whole) (mss from limit : ℕ) (p : Piece) (i : IsPiece q mss from limit p) where
  pub piece_count : letter_count (piece whole mss limit from) ≡ piece_letters p
  piece_count =
      let fits : p.len ≤ length (drop (place_or_zero p.at) whole.bytes) = rw i.at (simp length-drop (omega (arith, len_is q whole h mss from limit p i))) in
      ap (λ (u : Stream). letter_count u) (sym (piece_is q whole h mss from limit p i)) ∙ (ap (λ (n : ℕ). n + cond p.end 1 0) (length-take p.len (drop (place_or_zero p.at) whole.bytes) ∙ omega (arith, fits)))

module _ (way : Way) (t : Advertised) (mss : ℕ) (q before after : Queue) (now : ℕ) (old mid new : DeskValue) (failed : Bool) (p : Piece)
    (some : SendsSome way t mss q before.sent now old.packets mid.packets)
    (octets : mid.octets ≡ old.octets)
    (shown : before.shown ≡ q.shown)
    (low : q.sent ≤ before.sent)
    (letters : 0 < piece_letters p)
    (answer : IsAnswer before mss before.sent before.shown (Some p))
    (one : SendsPiece way t after p now mid new failed)
    (stands_before : (whole : Stream) → IsQueueOf q whole → IsQueueOf before whole)
    (stands_after : (whole : Stream) → IsQueueOf q whole → IsQueueOf after whole) where
  abbrev outs : List PacketValue
  outs = some.outs ++ segment way t (sequence_number way.own (place_or_zero p.at)) (record { bytes = one.text; ended = p.end }) ∷ []

  out_is : (whole : Stream) → IsQueueOf q whole
      → segment way t (sequence_number way.own (place_or_zero p.at)) (record { bytes = one.text; ended = p.end }) ≡ segment way t (sequence_number way.own before.sent) (piece whole mss q.shown before.sent)
  out_is whole s =
      let text : ◌≡◌ {A = Stream} (record { bytes = one.text; ended = p.end }) (carried whole p) = ap (λ (b : List ℕ). record { bytes = b; ended = p.end }) (one.carries whole (stands_after whole s)) in
      let is : ◌≡◌ {A = Stream} (record { bytes = one.text; ended = p.end }) (piece whole mss q.shown before.sent) =
      text ∙ piece_is before whole (stands_before whole s) mss before.sent before.shown p answer.piece ∙ ap (λ (n : ℕ). piece whole mss n before.sent) shown in
      ap (λ (u : Stream). segment way t (sequence_number way.own (place_or_zero p.at)) u) is
      ∙ ap (λ (z : ℤ). segment way t (sequence_number way.own (place_or_zero z)) (piece whole mss q.shown before.sent)) answer.piece.at

  left : (whole : Stream) → IsQueueOf q whole → before.sent < min q.shown (letter_count whole)
  left whole s =
      let b = stands_before whole s in
      elim (cases_lt before.sent (min q.shown (letter_count whole))) [
        | inl l ↦ l
        | inr g ↦ absurd (true≢false (answer.none.1 (rw (shown, b.pushed, b.ended) g)))
      ]

  -- with it and what may follow it they are the pieces
  goes_on : (whole : Stream) → IsQueueOf q whole → (more : List PacketValue) → Pieces way t whole mss q.shown (before.sent + piece_letters p) more → Pieces way t whole mss q.shown q.sent (outs ++ more)
  goes_on whole s more rest =
      let count : letter_count (piece whole mss q.shown before.sent) ≡ piece_letters p = subst (λ (n : ℕ). letter_count (piece whole mss n before.sent) ≡ piece_letters p) shown (piece_count before whole (stands_before whole s) mss before.sent before.shown p answer.piece) in
      let rest' = subst (λ (n : ℕ). Pieces way t whole mss q.shown (before.sent + n) more) (sym count) rest in
      let one_more = segment way t (sequence_number way.own (place_or_zero p.at)) (record { bytes = one.text; ended = p.end }) in
      subst (λ (ps : List PacketValue). Pieces way t whole mss q.shown q.sent ps) (sym (append_assoc some.outs (one_more ∷ []) more))
      (some.pieces whole s (one_more ∷ more) (left whole s, out_is whole s, rest'))

  gets : GetsSegments failed now outs old new
  gets = gets_after failed now some.outs (segment way t (sequence_number way.own (place_or_zero p.at)) (record { bytes = one.text; ended = p.end }) ∷ []) old mid new some.packets octets one.gets

  pub sends_one_more : failed ≡ false → SendsSome way t mss q (before.sent + piece_letters p) now old.packets new.packets
  sends_one_more f = record {
    outs = outs;
    packets = subst (λ (b : Bool). GetsSegments b now outs old new) f gets;
    none = λ e. absurd (omega (arith, e, low, letters));
    pieces = goes_on;
  }

  pub sends_first : failed ≡ true → 0 < mss → q.sent < min q.shown (queue_length q) → SendsNew way t mss q now old new true
  sends_first f some_mss below = record {
    outs = outs;
    gets = subst (λ (b : Bool). GetsSegments b now outs old new) f gets;
    none = λ e. absurd (omega (arith, e, below));
    pieces = λ whole s.
        (let rest = all_pieces way t whole mss q.shown some_mss (min q.shown (letter_count whole)) (before.sent + piece_letters p) (omega arith) in
        (rest.0, goes_on whole s rest.0 rest.1));
  }

pub sends_all : (way : Way) (t : Advertised) (mss : ℕ) (q : Queue) (now sent : ℕ) (old new : DeskValue) → SendsSome way t mss q sent now old.packets new.packets
    → min q.shown (queue_length q) ≤ sent → q.sent ≤ sent → sent ≤ max q.sent (min q.shown (queue_length q)) → SendsNew way t mss q now old new false
sends_all way t mss q now sent old new some none low high = record {
  none = λ l. (refl, some.none (omega (arith, l, low, high)));
  outs = some.outs;
  gets = some.packets;
  pieces = λ whole s. rw append-nil at (some.pieces whole s [] (rw (← s.pushed, ← s.ended) none));
}

pub count_is : (q : Queue) (whole : Stream) → IsQueueOf q whole → queue_length q ≡ letter_count whole
count_is q whole s = ap (λ (n : ℕ). n + cond q.ended 1 0) s.pushed ∙ ap (λ (b : Bool). length whole.bytes + cond b 1 0) s.ended

-- ---- what is said
module _ (way : Way) (t : Advertised) (mss : ℕ) (due : Bool) (q : Queue) (now : ℕ) (old mid new : DeskValue) where
  abbrev alone : List PacketValue
  alone = segment way t (sequence_number way.own q.sent) no_letters ∷ []

  says_if : (some : Bool) → some ≡ nat_lt q.sent (min q.shown (queue_length q)) → (whole : Stream) → IsQueueOf q whole → (outs : List PacketValue)
      → MatchBool some (Pieces way t whole mss q.shown q.sent outs) (outs ≡ cond due alone []) → SaysIf way t due whole mss q.shown q.sent outs
  says_if some e whole s outs = subst (λ (b : Bool). MatchBool b (Pieces way t whole mss q.shown q.sent outs) (outs ≡ cond due alone [])) (e ∙ ap (λ (n : ℕ). nat_lt q.sent (min q.shown n)) (count_is q whole s))

  -- the pieces were broken off
  pub says_first : SendsNew way t mss q now old new true → SaysTo way t mss due q now old new true
  says_first h = record {
    outs = h.outs;
    gets = h.gets;
    says = λ whole s. (let x = h.pieces whole s in (x.0, says_if true (sym (some (cases_lt q.sent (min q.shown (queue_length q))))) whole s (h.outs ++ x.0) x.1));
  }
    where
      some : (q.sent < min q.shown (queue_length q)) ⊎ (min q.shown (queue_length q) ≤ q.sent) → nat_lt q.sent (min q.shown (queue_length q)) ≡ true
      some (inl l) = lt-ltb q.sent (min q.shown (queue_length q)) l
      some (inr g) = absurd (true≢false (h.none g).0)

  -- after the pieces, or where there is none
  pub says_of : (failed some : Bool) → some ≡ nat_lt q.sent (min q.shown (queue_length q)) → SendsNew way t mss q now old mid false → mid.octets ≡ old.octets
      → GetsSegments failed now (cond (due && not some) alone []) mid new → SaysTo way t mss due q now old new failed
  says_of failed some e sends octets h = record {
    outs = sends.outs ++ cond (due && not some) alone [];
    gets = gets_after failed now sends.outs (cond (due && not some) alone []) old mid new sends.gets octets h;
    says = λ whole s. all_or_first failed (SaysIf way t due whole mss q.shown q.sent) _ (says_if some e whole s _ (by some due e whole s));
  }
    where
      by : (b d : Bool) → b ≡ nat_lt q.sent (min q.shown (queue_length q)) → (whole : Stream) → IsQueueOf q whole
          → MatchBool b (Pieces way t whole mss q.shown q.sent (sends.outs ++ cond (d && not b) alone [])) (sends.outs ++ cond (d && not b) alone [] ≡ cond d alone [])
      by true true e whole s = subst (Pieces way t whole mss q.shown q.sent) (sym (append-nil sends.outs)) (sends.pieces whole s)
      by true false e whole s = subst (Pieces way t whole mss q.shown q.sent) (sym (append-nil sends.outs)) (sends.pieces whole s)
      by false true e whole s = ap (λ (ps : List PacketValue). ps ++ alone) (sends.none (ltb-false q.sent (min q.shown (queue_length q)) (sym e))).1
      by false false e whole s = append-nil sends.outs ∙ (sends.none (ltb-false q.sent (min q.shown (queue_length q)) (sym e))).1

-- a text that stands behind 40 octets, and a head that was put over these
pub headed : (head out text : List ℕ) (len : ℕ) → length head ≡ 40 → take (40 + len - 40) (drop 40 out) ≡ text →
    take (40 + len) (head ++ drop 40 out) ≡ head ++ text
headed head out text len long is =
    let count : 40 + len ≡ length head + len = omega (arith, long) in
    let size : len ≡ 40 + len - 40 = omega arith in
    ap (λ n. take n (head ++ drop 40 out)) count ∙ take-append-add head (drop 40 out) len ∙ ap (λ n. head ++ take n (drop 40 out)) size ∙ ap (λ xs. head ++ xs) is
