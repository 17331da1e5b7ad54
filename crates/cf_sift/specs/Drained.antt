-- Steps of the proof: what a call does that moves a queue's bytes to the end of a file: `Drains` and `MovesPart`.
use Rattle.std.specs.Prelude.{◌≡◌, ℕ, ◌+◌, [], take, drop}
use Rattle.cf_outq.specs.SendQueue.{Queue}
use Rattle.cf_outside.specs.Files.{Content, with_appended}

-- all bytes that the queue kept went to the end of the file
pub record Drains (old new : Queue) (before after : Content) : Type 0 where
  pub kept : new.kept ≡ []
  pub file : after ≡ with_appended before old.kept
  pub pushed : new.pushed ≡ old.pushed
  pub ended : new.ended ≡ old.ended

-- an append failed: so many bytes had gone before it, it put perhaps some more, and the queue keeps all but those that had gone
pub record MovesPart (old new : Queue) (before after : Content) : Type 0 where
  pub gone : ℕ
  pub more : ℕ
  pub kept : new.kept ≡ drop gone old.kept
  pub file : after ≡ with_appended before (take (gone + more) old.kept)
  pub pushed : new.pushed ≡ old.pushed
  pub ended : new.ended ≡ old.ended
