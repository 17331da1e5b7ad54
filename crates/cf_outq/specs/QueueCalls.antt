-- Steps of the proof: lists of calls of a queue, with their answers: `IsQueueRun`. The newest call stands first, so that what was
-- before a call is the list after it.
use Rattle.std.specs.Prelude.{◌≡◌, ℕ, ◌+◌, ◌-◌, ◌^◌, ◌<◌, ◌≤◌, false, List, [], ◌∷◌, ◌++◌, length, take, drop, Option, Some, ℤ, pos, ◌≤ℤ◌}
use Rattle.cf_stream.specs.Position.{place_or_zero}
use Rattle.cf_stream.specs.Stream.{Stream, Letter, no_letters, with_bytes, with_end, letters}
use Rattle.cf_outq.specs.declared.piece.Piece.{Piece}
use Rattle.cf_outq.specs.SendQueue.{Queue, IsAnswer, IsUnacked, piece_letters, carried, empty, after_push, after_end, after_shown}
use Rattle.cf_outq.specs.SendQueue.{after_acked, after_sent, queue_size}

pub data QueueCall : Type 0 where
  Push : List ℕ → QueueCall
  Close : QueueCall
  Shown : ℤ → QueueCall
  Acked : ℤ → QueueCall
  NextPiece : ℕ → Option Piece → QueueCall
  FirstPiece : ℕ → Option Piece → QueueCall
  Copy : Piece → List ℕ → QueueCall

-- the queue that the calls leave
abbrev pub after : List QueueCall → Queue
after [] = empty
after (Push bytes ∷ earlier) = after_push (after earlier) bytes
after (Close ∷ earlier) = after_end (after earlier)
after (Shown edge ∷ earlier) = after_shown (after earlier) edge
after (Acked position ∷ earlier) = after_acked (after earlier) position
after (NextPiece mss answer ∷ earlier) = after_sent (after earlier) answer
after (FirstPiece mss answer ∷ earlier) = after earlier
after (Copy piece bytes ∷ earlier) = after earlier

-- the call may be made on the first queue with this answer, and leaves the second
abbrev pub QueueStep : QueueCall → Queue → Queue → Type 0
QueueStep (Push bytes) old new =
    (old.ended ≡ false) × (length bytes + length old.kept ≤ queue_size) × (old.pushed + length bytes ≤ 2 ^ 31)
    × (new ≡ after_push old bytes)
QueueStep Close old new = (old.ended ≡ false) × (old.pushed < 2 ^ 31) × (new ≡ after_end old)
QueueStep (Shown edge) old new = new ≡ after_shown old edge
QueueStep (Acked position) old new = (position ≤ℤ pos old.sent) × (new ≡ after_acked old position)
QueueStep (NextPiece mss answer) old new =
    (0 < mss) × IsAnswer old mss old.sent old.shown answer × (new ≡ after_sent old answer)
QueueStep (FirstPiece mss answer) old new = (0 < mss) × IsAnswer old mss old.acked old.sent answer × (new ≡ old)
QueueStep (Copy piece bytes) old new =
    IsUnacked old piece × (bytes ≡ take piece.len (drop (place_or_zero piece.at - old.acked) old.kept)) × (new ≡ old)

-- calls from an empty queue on, each of which may be made on the queue that the earlier ones left
abbrev pub IsQueueRun : List QueueCall → Type 0
IsQueueRun [] = Unit {0}
IsQueueRun (call ∷ earlier) = QueueStep call (after earlier) (after (call ∷ earlier)) × IsQueueRun earlier

-- the list of all that was pushed
abbrev pub pushed_by : List QueueCall → Stream
pushed_by [] = no_letters
pushed_by (Push bytes ∷ earlier) = with_bytes (pushed_by earlier) bytes
pushed_by (Close ∷ earlier) = with_end (pushed_by earlier)
pushed_by (_ ∷ earlier) = pushed_by earlier

-- the letters of the new pieces, in the order in which they were given
abbrev pub sent_by : Stream → List QueueCall → List Letter
sent_by whole [] = []
sent_by whole (NextPiece mss (Some p) ∷ earlier) = sent_by whole earlier ++ letters (carried whole p)
sent_by whole (_ ∷ earlier) = sent_by whole earlier

-- each piece that was sent again has the letters from the oldest one on that was not acknowledged, none of them unsent
-- then; and each copy has the bytes of its piece
abbrev pub Repeats : Stream → List QueueCall → Type 0
Repeats whole [] = Unit {0}
Repeats whole (FirstPiece mss (Some p) ∷ earlier) =
    (letters (carried whole p) ≡ take (piece_letters p) (drop (after earlier).acked (letters whole)))
    × ((after earlier).acked + piece_letters p ≤ (after earlier).sent)
    × Repeats whole earlier
Repeats whole (Copy p bytes ∷ earlier) = (bytes ≡ (carried whole p).bytes) × Repeats whole earlier
Repeats whole (_ ∷ earlier) = Repeats whole earlier
