-- Steps of the proof: how what a recorder keeps stands for the records that it took: `IsRecorderOf`.
use Rattle.std.specs.Prelude.{◌≡◌, List, length, map, reverse}
use Rattle.cf_policy.specs.declared.Asset.{Asset}
use Rattle.cf_records.specs.Capture.{Record}
use Rattle.cf_watch.specs.Seen.{seen_by}
use Rattle.cf_watch.specs.Trail.{IsWatchOf, KeepsAll, all_kept}
use Rattle.cf_watch.specs.declared.recorder.Recorder.{Recorder}
use Rattle.cf_watch.specs.declared.scope.Scope.{Scope}
use Rattle.cf_watch.specs.declared.scope.Scope.TheVariants as scope

-- it took these records, the newest first: their flows are kept as their scope says, and for a recording their stamps
pub record IsRecorderFor (by : Scope) (assets : List Asset) (newest : List Record) (r : Recorder) : Type 0 where
  pub heard : IsWatchOf by r.count r.watch (seen_by by assets newest) (all_kept r.watch.flows.items)
  pub all : KeepsAll r.watch
  pub count : length newest ≡ r.count
  pub stamped : by ≡ scope.Recording → r.stamps.items ≡ map (λ r. r.stamp) (reverse newest)

-- it took these records of a recording, the oldest first
abbrev pub IsRecorderOf : List Asset → (records : List Record) → Recorder → Type 0
IsRecorderOf assets records r = IsRecorderFor scope.Recording assets (reverse records) r

-- it took some
abbrev pub HasRecorded : List Asset → Recorder → Type 0
HasRecorded assets r = (records : List Record) × IsRecorderOf assets records r
