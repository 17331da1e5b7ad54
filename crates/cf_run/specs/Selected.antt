-- The output of an event, selected by its moments: IsSelected. So the file of what was sent, read by moments alone, is the list of what
-- the events sent.
use Rattle.std.specs.Prelude.{◌≡◌, ℕ, ◌+◌, ◌≤◌, ◌==◌, List, [], ◌∷◌, filter}
use Rattle.cf_policy.specs.declared.Asset.{Asset}
use Rattle.cf_session.specs.Sent.{Sent}
use Rattle.cf_run.specs.Trace.{AreRunEvents, RunEvent, sent, sent_in_first, sent_in_second, tick_of}

-- the packets of a moment
abbrev pub with_moment : ℕ → List Sent → List Sent
with_moment moment all = filter (λ s. s.moment == moment) all

-- the moment of the newest event, 0 where there is none
abbrev pub last_moment : List RunEvent → ℕ
last_moment [] = 0
last_moment (event ∷ earlier) = event.input.moment

-- each moment is at least two microseconds after the one before
abbrev pub Rises : List RunEvent → Type 0
Rises [] = Unit {0}
Rises (event ∷ earlier) = (last_moment earlier + 2 ≤ event.input.moment) × Rises earlier

-- the packets of a half are those with its moment, and later events change nothing of that
pub record IsSelected (event : RunEvent) (earlier : List RunEvent) : Type 0 where
  pub first : with_moment (tick_of event.input) (sent (event ∷ earlier)) ≡ sent_in_first event
  pub second : with_moment event.input.moment (sent (event ∷ earlier)) ≡ sent_in_second event
  pub before : (moment : ℕ) → moment ≤ last_moment earlier → with_moment moment (sent (event ∷ earlier)) ≡ with_moment moment (sent earlier)

abbrev pub SelectsByMoment : Type 0
SelectsByMoment =
    (assets : List Asset) (limit : ℕ) (event : RunEvent) (earlier : List RunEvent) → AreRunEvents assets limit (event ∷ earlier)
    → Rises (event ∷ earlier) → IsSelected event earlier
