-- Steps of the proof: what a watcher sees where all packets of a flow carry the letters of one stream: `CarryOneStream`.
use Rattle.std.specs.Prelude.{◌≡◌, ◌++◌, ℕ, List, None}
use Rattle.std.specs.List.{AllByRecursion}
use Rattle.cf_stream.specs.Stream.{Carries, Stream}
use Rattle.cf_watch.specs.Carried.{Carried, HasBytes, HasConflict}

-- no conflict, and the bytes are a beginning of the stream's
pub record SeesOneStream (whole : Stream) (carried : List Carried) : Type 0 where
  pub no_conflict : HasConflict carried None
  pub bytes : (bytes : List ℕ) → HasBytes carried bytes → (more : List ℕ) × (whole.bytes ≡ bytes ++ more)

abbrev pub CarryOneStream : Type 0
CarryOneStream = (whole : Stream) (carried : List Carried) → AllByRecursion (λ c. Carries whole c.at c.text) carried
    → SeesOneStream whole carried
