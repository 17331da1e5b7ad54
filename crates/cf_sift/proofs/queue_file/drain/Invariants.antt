use Rattle.std.proofs.Common.{◌≡◌, ◌∷◌, [], ℕ, drop, length, take}
use Rattle.cf_outq.specs.SendQueue.{IsQueueOf}
use Rattle.cf_outside.specs.Files.{with_appended}
use Rattle.cf_outside.specs.Frames.{OnlyWrites}
use Rattle.cf_stream.specs.Stream.{Stream}
use Rattle.cf_sift.proofs.queue_file.drain.Given as goal

abbrev pub invariant-pieces : goal.invariant-pieces
invariant-pieces g l =
    let content = g.F.Files.content in
    record {
      gone : ℕ;
      left : l.queue.kept ≡ drop gone l.fn.queue.kept;
      file : content l.files l.name ≡ with_appended (content l.fn.files l.name) (take gone l.fn.queue.kept);
      pushed : l.queue.pushed ≡ l.fn.queue.pushed;
      ended : l.queue.ended ≡ l.fn.queue.ended;
      stands : (whole : Stream) → IsQueueOf l.fn.queue whole → IsQueueOf l.queue whole;
      writes : OnlyWrites (l.name ∷ []) content g.F.Files.read_faults g.F.Files.write_faults l.fn.files l.files ⊥;
      buffer : length l.buffer ≡ 4096;
    }

abbrev pub decreases-pieces : goal.decreases-pieces
decreases-pieces g l = length l.queue.kept
