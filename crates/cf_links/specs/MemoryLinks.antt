-- Beside the proof: what links in memory hold, and what the calls do to them: `entries_told` and `serves_in`.
use Rattle.std.specs.Prelude.{◌≤◌, ◌&&◌, ℕ, ◌+◌, Bool, false, if◌then◌else◌, List, Result, Ok, Err, map, nat_le, slice_get}
use Rattle.std.specs.Prelude.{unwrap_or, vec_capacity, vec_len}
use Rattle.std.specs.List.{sum_by}
use Rattle.cf_outside.specs.Faults.{counted}
use Rattle.cf_outside.specs.MemoryPair.{entry_value}
use Rattle.cf_links.specs.Links.{Came, Left, LinksEntry, Of, Opened, Ready, Woke}
use Rattle.cf_links.specs.declared.memory_links.LinksTold.{LinksTold}
use Rattle.cf_links.specs.declared.memory_links.LinksTold.TheVariants as told
use Rattle.cf_links.specs.declared.memory_links.MemoryLinks.{MemoryLinks}

-- an answer that was kept, with its bytes as a list
abbrev pub links_entry : LinksTold → LinksEntry
links_entry (told.Opened place moment) = Opened place moment
links_entry (told.Woke moment) = Woke moment
links_entry (told.Came session place client) = Came session place client
links_entry (told.Ready session) = Ready session
links_entry (told.Of session answer) = Of session (entry_value answer)
links_entry (told.Left session) = Left session

-- the answers that were kept
abbrev pub entries_told : List LinksTold → List LinksEntry
entries_told = map links_entry

-- 1 for a session that stands, and 0 for another
abbrev pub standing : Bool → ℕ
standing stands = if stands then 1 else 0

abbrev pub open_count : List Bool → ℕ
open_count all = sum_by standing all

-- a list of answers has room for so many more, beside the last answer of each session that stands
abbrev pub HasRoom : (more length capacity : ℕ) → List Bool → Type 0
HasRoom more length capacity stands = length + open_count stands + more ≤ capacity

abbrev pub has_room : MemoryLinks → Bool
has_room links = nat_le (vec_len links.told + open_count links.stands.items) (vec_capacity links.told)

-- whether a session stands
abbrev pub stands_at : List Bool → (session : ℕ) → Bool
stands_at all session = unwrap_or (slice_get all session) false

-- a session stands, and its last answer has room
abbrev pub serves_in : MemoryLinks → ℕ → Bool
serves_in links session = has_room links && stands_at links.stands.items session

-- the count of the lacks of memory
abbrev pub lacks_after : {A E : Type 0} → Result A E → ℕ → ℕ
lacks_after (Ok done) lacks = lacks
lacks_after (Err lack) lacks = counted lacks
