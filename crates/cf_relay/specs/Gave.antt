-- Steps of the proof: what giving does to a queue and to the links of a session: `Gave` and `FinishesBy`.
use Rattle.cf_links.specs.Links.{SessionTold, with_answers}
use Rattle.cf_outq.specs.SendQueue.{Queue}
use Rattle.cf_outside.specs.Pair.{Entry, Finished}
use Rattle.cf_view.specs.declared.Side.{Side}
use Rattle.std.specs.Prelude.{Bool, Err, List, Ok, Result, [], false, length, true, ℕ, ◌++◌, ◌+◌, ◌<◌, ◌∷◌, ◌≡◌, ◌⊎◌}
use Rattle.cf_relay.specs.Answers.{given, idles_after}
use Rattle.cf_relay.specs.Turn.{BeginsToGive, GivesQueued}
use Rattle.cf_relay.specs.declared.stop.Stop.{Stop}
use Rattle.cf_relay.specs.declared.stop.Stop.TheVariants as stop

-- the answers were added, and the bytes given left the queue's front
pub record Gave (s : Side) (old new : Queue) (told_before told_after : SessionTold) (idle_before idle_after : ℕ)
    (answers : List Entry) : Type 0 where
  pub tells : told_after ≡ with_answers told_before answers
  pub counts : idle_after ≡ idles_after idle_before answers
  pub kept : old.kept ≡ given s answers ++ new.kept
  pub acked : new.acked ≡ old.acked + length (given s answers)
  pub pushed : new.pushed ≡ old.pushed
  pub ended : new.ended ≡ old.ended

-- a side was given what is queued for it; the relay stops at the Idle that completes their number, or at a call that fails
abbrev pub GaveBy : Side → (most : ℕ) → (old new : Queue) → (told_before told_after : SessionTold) →
    (idle_before idle_after : ℕ) → Result Unit Stop → Type 0
GaveBy s most old new before after idle idle' (Ok done) =
    (answers : List Entry) × Gave s old new before after idle idle' answers × GivesQueued s old.kept answers × (idle' < most)
GaveBy s most old new before after idle idle' (Err stop.Idle) =
    (answers : List Entry) × Gave s old new before after idle idle' answers × GivesQueued s old.kept answers × (idle' ≡ most)
GaveBy s most old new before after idle idle' (Err stop.Link) =
    (answers : List Entry) × Gave s old new before after idle idle' answers × BeginsToGive s old.kept answers × (idle' < most)
GaveBy s most old new before after idle idle' (Err stop.Write) = ⊥
GaveBy s most old new before after idle idle' (Err (stop.Cut reason)) = ⊥

-- no byte of a queue is left, but End is, and its side was not closed
abbrev pub OnlyEndIsLeft : Queue → (finished : Bool) → Type 0
OnlyEndIsLeft q finished = (q.kept ≡ []) × (q.ended ≡ true) × (finished ≡ false)

-- a side was closed exactly where End is all that is left for it, and it was not closed before
abbrev pub FinishesBy : Side → Queue → (finished_before finished_after : Bool) → (told_before told_after : SessionTold)
    → Result Unit Stop → Type 0
FinishesBy s q finished finished' before after (Ok done) =
    (OnlyEndIsLeft q finished × (finished' ≡ true) × (after ≡ with_answers before (Finished s ∷ []))) ⊎
    ((OnlyEndIsLeft q finished → ⊥) × (finished' ≡ finished) × (after ≡ before))
FinishesBy s q finished finished' before after (Err stop.Link) = (finished' ≡ finished) × (after ≡ before)
FinishesBy s q finished finished' before after (Err stop.Idle) = ⊥
FinishesBy s q finished finished' before after (Err stop.Write) = ⊥
FinishesBy s q finished finished' before after (Err (stop.Cut reason)) = ⊥
