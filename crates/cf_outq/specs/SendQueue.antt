-- Steps of the proof: the queue of what one TCP end has to send, `Queue`, and when it stands for the list of all that was pushed,
-- `IsQueueOf`.
--
-- Its counts are of letters from the first one on. RFC 9293, section 3.3.1, has them as sequence numbers: acked is
-- SND.UNA, sent is SND.NXT, and shown is the greatest SND.UNA + SND.WND that the peer has told.
use Rattle.std.specs.Prelude.{◌≡◌, ℕ, ◌+◌, ◌-◌, ◌^◌, ◌<◌, ◌≤◌, ◌↔◌, min, max, IsTrue, IfSome, IsNone, Bool, true, false, if◌then◌else◌}
use Rattle.std.specs.Prelude.{List, [], ◌++◌, length, drop, Option, Some, None, ℤ, pos, ◌≤ℤ◌, ◌+ℤ◌}
use Rattle.cf_stream.specs.Position.{place_or_zero}
use Rattle.cf_stream.specs.Stream.{Stream, letter_count, part}
use Rattle.cf_outq.specs.declared.piece.Piece.{Piece}

-- what a contract sees of an `Outq`
pub record Queue : Type 0 where
  -- the bytes that are not acknowledged
  pub kept : List ℕ
  -- how many bytes were ever pushed, and whether End was
  pub pushed : ℕ
  pub ended : Bool
  -- how many letters were acknowledged, and how many went out at least once
  pub acked : ℕ
  pub sent : ℕ
  -- the greatest edge that was shown
  pub shown : ℕ

-- the number of letters that were ever pushed
abbrev pub queue_length : Queue → ℕ
queue_length q = q.pushed + (if q.ended then 1 else 0)

-- the bytes that a queue has room for. This project's own choice
abbrev pub queue_size : ℕ
queue_size = 131072

-- what holds of every queue, whatever was pushed: its marks stand in this order, and it keeps no more than it has room for
pub record IsQueue (q : Queue) : Type 0 where
  pub kept : length q.kept ≡ q.pushed - q.acked
  pub room : length q.kept ≤ queue_size
  pub acked : q.acked ≤ q.sent
  pub sent : q.sent ≤ queue_length q
  pub limit : queue_length q ≤ 2 ^ 31
  pub shown : q.sent ≤ q.shown
  pub edge : q.shown < 2 ^ 63

-- the number of letters of a piece
abbrev pub piece_letters : Piece → ℕ
piece_letters p = p.len + (if p.end then 1 else 0)

-- what a piece carries of a stream
abbrev pub carried : Stream → Piece → Stream
carried whole p = part whole (place_or_zero p.at) p.len p.end

-- the queue stands for the list of all that was pushed
pub record IsQueueOf (q : Queue) (whole : Stream) : Type 0 where
  pub ended : q.ended ≡ whole.ended
  pub pushed : q.pushed ≡ length whole.bytes
  pub kept : q.kept ≡ drop q.acked whole.bytes
  pub acked : q.acked ≤ q.sent
  pub sent : q.sent ≤ letter_count whole
  pub shown : q.sent ≤ q.shown

-- the piece has the letters from a place up to a limit: at most mss bytes, and End where it follows them
pub record IsPiece (q : Queue) (mss from limit : ℕ) (p : Piece) : Type 0 where
  pub at : p.at ≡ pos from
  pub len : p.len ≡ min mss (min limit q.pushed - from)
  pub end : IsTrue p.end ↔ (IsTrue q.ended × (from + p.len ≡ q.pushed) × (q.pushed < limit))

-- the answer is a piece with a letter, or nothing exactly where no letter from a place on is below the limit
pub record IsAnswer (q : Queue) (mss from limit : ℕ) (answer : Option Piece) : Type 0 where
  pub none : IsNone answer ↔ (min limit (queue_length q) ≤ from)
  pub piece : IfSome answer (IsPiece q mss from limit)

-- the bytes of the piece were pushed and are not acknowledged, so that they can be copied
pub record IsUnacked (q : Queue) (p : Piece) : Type 0 where
  pub from : pos q.acked ≤ℤ p.at
  pub to : (p.at +ℤ pos p.len) ≤ℤ pos q.pushed

-- a new queue
abbrev pub empty : Queue
empty = record { kept = []; pushed = 0; ended = false; acked = 0; sent = 0; shown = 0 }

abbrev pub after_push : Queue → List ℕ → Queue
after_push q bytes = record q { kept = q.kept ++ bytes; pushed = q.pushed + length bytes }

abbrev pub after_end : Queue → Queue
after_end q = record q { ended = true }

-- the edge shown only rises
abbrev pub after_shown : Queue → ℤ → Queue
after_shown q edge = record q { shown = max q.shown (place_or_zero edge) }

-- what is acknowledged only rises, and its bytes go
abbrev pub after_acked : Queue → ℤ → Queue
after_acked q position =
    let acked = max q.acked (place_or_zero position) in
    record q { acked = acked; kept = drop (acked - q.acked) q.kept }

-- the letters of the piece were sent
abbrev pub after_sent : Queue → Option Piece → Queue
after_sent q None = q
after_sent q (Some p) = record q { sent = q.sent + piece_letters p }
