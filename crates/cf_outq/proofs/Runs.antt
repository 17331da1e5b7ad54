-- Runs of a queue.
use Rattle.std.proofs.Common.{◌≡◌, ℕ, ◌+◌, ◌≤◌, ℤ, pos, ◌≤ℤ◌, false, List, [], ◌∷◌, take, min, Option, Some, None, inl, inr, refl, sym, ◌∙◌, rules, arith}
use Rattle.std.proofs.lemmas.Grind.{common_steps}
use Rattle.std.proofs.lemmas.Bool.{cases_lt, true≢false}
use Rattle.std.proofs.Math.Seq.{take-add}
use Rattle.cf_stream.proofs.Extends.{extends_none, extends_both, extends_bytes, extends_end}
use Rattle.cf_outq.proofs.Pieces.{letters-piece, copied}
use Rattle.cf_stream.specs.Stream.{Stream, letters, letter_count, Extends, with_bytes, with_end}
use Rattle.cf_outq.specs.SendQueue.{Queue, IsQueueOf, IsPiece, IsAnswer, queue_length, piece_letters, after_push, after_end, after_shown, after_acked, after_sent}
use Rattle.cf_outq.specs.QueueCalls.{QueueCall, Push, Close, Shown, Acked, NextPiece, FirstPiece, Copy, after, QueueStep, IsQueueRun, pushed_by, sent_by, Repeats}
use Rattle.cf_outq.specs.declared.piece.Piece.{Piece}

stands_push : (q : Queue) (w : Stream) (bytes : List ℕ) → q.ended ≡ false → IsQueueOf q w → IsQueueOf (after_push q bytes) (with_bytes w bytes)
stands_push q w bytes o h = search (rules, common_steps)

stands_end : (q : Queue) (w : Stream) → q.ended ≡ false → IsQueueOf q w → IsQueueOf (after_end q) (with_end w)
stands_end q w o h = search (rules, common_steps)

stands_shown : (q : Queue) (w : Stream) (edge : ℤ) → IsQueueOf q w → IsQueueOf (after_shown q edge) w
stands_shown q w edge h = search (rules, common_steps)

stands_acked : (q : Queue) (w : Stream) (position : ℤ) → position ≤ℤ pos q.sent → IsQueueOf q w → IsQueueOf (after_acked q position) w
stands_acked q w position l h = search (rules, common_steps)

stands_sent : (q : Queue) (w : Stream) (mss : ℕ) (answer : Option Piece) → IsAnswer q mss q.sent q.shown answer → IsQueueOf q w → IsQueueOf (after_sent q answer) w
stands_sent q w mss None a h = h
stands_sent q w mss (Some p) a h = search (rules, common_steps)

pub stands_run : (calls : List QueueCall) → IsQueueRun calls → IsQueueOf (after calls) (pushed_by calls)
stands_run [] r = search rules
stands_run (Push bytes ∷ earlier) r = stands_push (after earlier) (pushed_by earlier) bytes r.0.0 (stands_run earlier r.1)
stands_run (Close ∷ earlier) r = stands_end (after earlier) (pushed_by earlier) r.0.0 (stands_run earlier r.1)
stands_run (Shown edge ∷ earlier) r = stands_shown (after earlier) (pushed_by earlier) edge (stands_run earlier r.1)
stands_run (Acked position ∷ earlier) r = stands_acked (after earlier) (pushed_by earlier) position r.0.0 (stands_run earlier r.1)
stands_run (NextPiece mss answer ∷ earlier) r = stands_sent (after earlier) (pushed_by earlier) mss answer r.0.1 (stands_run earlier r.1)
stands_run (FirstPiece mss answer ∷ earlier) r = stands_run earlier r.1
stands_run (Copy piece bytes ∷ earlier) r = stands_run earlier r.1

-- what was pushed before a call goes on by it
extends_call : (call : QueueCall) (earlier : List QueueCall) → QueueStep call (after earlier) (after (call ∷ earlier)) → IsQueueRun earlier → Extends (pushed_by earlier) (pushed_by (call ∷ earlier))
extends_call (Push bytes) earlier m r = extends_bytes (pushed_by earlier) bytes (sym (stands_run earlier r).ended ∙ m.0)
extends_call Close earlier m r = extends_end (pushed_by earlier) (sym (stands_run earlier r).ended ∙ m.0)
extends_call (Shown edge) earlier m r = extends_none (pushed_by earlier)
extends_call (Acked position) earlier m r = extends_none (pushed_by earlier)
extends_call (NextPiece mss answer) earlier m r = extends_none (pushed_by earlier)
extends_call (FirstPiece mss answer) earlier m r = extends_none (pushed_by earlier)
extends_call (Copy piece bytes) earlier m r = extends_none (pushed_by earlier)

-- a new piece begins with a letter that was not sent
begins_inside : (q : Queue) (w : Stream) (mss from limit : ℕ) (p : Piece) → IsQueueOf q w → IsAnswer q mss from limit (Some p) → from ≤ q.pushed
begins_inside q w mss from limit p h a =
    elim (cases_lt from (queue_length q)) [
      | inl v ↦ (let one : queue_length q ≤ q.pushed + 1 = grind arith in omega arith)
      | inr v ↦ absurd (true≢false ((a.none).1 (omega arith)))
    ]

-- a piece that is sent again has no letter at the limit or past it
ends_below : (q : Queue) (mss from limit : ℕ) (p : Piece) → from ≤ limit → IsPiece q mss from limit p → from + piece_letters p ≤ limit
ends_below q mss from limit p l i = grind arith

module _ (whole : Stream) where
  sent_so_far : (calls : List QueueCall) → IsQueueRun calls → Extends (pushed_by calls) whole → sent_by whole calls ≡ take (after calls).sent (letters whole)
  sent_so_far [] r x = refl
  sent_so_far (NextPiece mss (Some p) ∷ earlier) r x =
      let q = after earlier in
      let h = stands_run earlier r.1 in
      let inside = begins_inside q (pushed_by earlier) mss q.sent q.shown p h r.0.1 in
      let piece = letters-piece q (pushed_by earlier) whole h x mss q.sent q.shown p inside r.0.1.piece in
      rw (sent_so_far earlier r.1 x, piece) (sym (take-add q.sent (piece_letters p) (letters whole)))
  sent_so_far (call ∷ earlier) r x = sent_so_far earlier r.1 (extends_both _ _ whole (extends_call call earlier r.0 r.1) x)

  repeats_so_far : (calls : List QueueCall) → IsQueueRun calls → Extends (pushed_by calls) whole → Repeats whole calls
  repeats_so_far [] r x = tt
  repeats_so_far (FirstPiece mss (Some p) ∷ earlier) r x =
      let q = after earlier in
      let h = stands_run earlier r.1 in
      let i = r.0.1.piece in
      let inside = begins_inside q (pushed_by earlier) mss q.acked q.sent p h r.0.1 in (
        letters-piece q (pushed_by earlier) whole h x mss q.acked q.sent p inside i,
        ends_below q mss q.acked q.sent p h.acked i,
        repeats_so_far earlier r.1 x,
      )
  repeats_so_far (Copy p bytes ∷ earlier) r x = (
    r.0.1 ∙ copied (after earlier) (pushed_by earlier) whole (stands_run earlier r.1) x p r.0.0,
    repeats_so_far earlier r.1 x,
  )
  repeats_so_far (call ∷ earlier) r x = repeats_so_far earlier r.1 (extends_both _ _ whole (extends_call call earlier r.0 r.1) x)

pub sent_run : (calls : List QueueCall) → IsQueueRun calls → sent_by (pushed_by calls) calls ≡ take (after calls).sent (letters (pushed_by calls))
sent_run calls r = sent_so_far (pushed_by calls) calls r (extends_none (pushed_by calls))

pub repeats_run : (calls : List QueueCall) → IsQueueRun calls → Repeats (pushed_by calls) calls
repeats_run calls r = repeats_so_far (pushed_by calls) calls r (extends_none (pushed_by calls))

pub stops_run : (calls : List QueueCall) (mss : ℕ) → IsQueueRun (NextPiece mss None ∷ calls) → (after calls).sent ≡ min (after calls).shown (letter_count (pushed_by calls))
stops_run calls mss r =
    let h = stands_run calls r.1 in
    let least = (r.0.1.none).0 refl in
    let count : queue_length (after calls) ≡ letter_count (pushed_by calls) = rw (h.pushed, h.ended) refl in
    omega (arith, least, h.sent, h.shown, count)
