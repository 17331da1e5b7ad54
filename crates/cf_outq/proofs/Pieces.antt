-- What a piece carries of the stream that its queue stands for, and of every stream that goes on from there.
use Rattle.std.proofs.Common.{◌≡◌, ℕ, ◌+◌, ◌-◌, ◌≤◌, true, length, take, drop, sym, ◌∙◌, ap, arith}
use Rattle.std.proofs.lemmas.List.{length-append, length-drop, drop-append-le, take-append-le, drop-drop}
use Rattle.std.proofs.lemmas.Int.{ints}
use Rattle.cf_stream.proofs.Letters.{letters-part}
use Rattle.cf_stream.proofs.PlaceOrZero.{place_or_zero_from}
use Rattle.cf_stream.specs.Position.{place_or_zero}
use Rattle.cf_stream.specs.Stream.{Stream, letters, IsPart, Extends}
use Rattle.cf_outq.specs.SendQueue.{Queue, IsQueueOf, IsPiece, piece_letters, carried, IsUnacked}
use Rattle.cf_outq.specs.declared.piece.Piece.{Piece}

module _ (q : Queue) (w whole : Stream) (h : IsQueueOf q w) (x : Extends w whole) where
  stays_long : length w.bytes ≤ length whole.bytes
  stays_long = rw x.bytes (omega (arith, length-append w.bytes x.more))

  module _ (mss from limit : ℕ) (p : Piece) (inside : from ≤ q.pushed) (i : IsPiece q mss from limit p) where
    at_from : place_or_zero p.at ≡ from
    at_from = ap place_or_zero i.at

    pub piece_is_part : IsPart whole (place_or_zero p.at) p.len p.end
    piece_is_part = record {
      inside = rw at_from (omega (arith, stays_long, i.len, h.pushed));
      at_end = λ e.
          (let f = (i.end).0 e in
          let ended : w.ended ≡ true = sym h.ended ∙ f.0 in
          let same : w ≡ whole = sym (x.ended ended) in (
            ap (λ (s : Stream). s.ended) (sym same) ∙ ended,
            rw at_from (f.1 ∙ h.pushed ∙ ap (λ (s : Stream). length s.bytes) same),
          ));
    }

    pub letters-piece : letters (carried whole p) ≡ take (piece_letters p) (drop from (letters whole))
    letters-piece = letters-part whole (place_or_zero p.at) p.len p.end piece_is_part ∙ ap (λ (n : ℕ). take (piece_letters p) (drop n (letters whole))) at_from

module _ (q : Queue) (w whole : Stream) (h : IsQueueOf q w) (x : Extends w whole) (p : Piece) (u : IsUnacked q p) where
  pub copied : take p.len (drop (place_or_zero p.at - q.acked) q.kept) ≡ (carried whole p).bytes
  copied =
      let at = place_or_zero_from q.acked p.at u.from in
      let from : q.acked ≤ place_or_zero p.at = omega (arith, ints, at, u.from) in
      let to : place_or_zero p.at + p.len ≤ length w.bytes = omega (arith, ints, at, u.to, h.pushed) in
      let place : q.acked + (place_or_zero p.at - q.acked) ≡ place_or_zero p.at = omega arith in
      let inside : place_or_zero p.at ≤ length w.bytes = omega arith in
      let fits : p.len ≤ length (drop (place_or_zero p.at) w.bytes) = simp length-drop (omega arith) in
      rw (h.kept, drop-drop, place, x.bytes, drop-append-le (place_or_zero p.at) w.bytes x.more inside)
      (sym (take-append-le p.len (drop (place_or_zero p.at) w.bytes) x.more fits))
