-- The flows of a review that begin with a SYN are those of the judge: SynFlowsAreWatched.
use Rattle.std.specs.Prelude.{◌≡◌, Bool, List, [], ◌∷◌, is_none}
use Rattle.std.specs.List.{AllByRecursion, filter}
use Rattle.cf_policy.specs.declared.Asset.{Asset}
use Rattle.cf_records.specs.Capture.{Record}
use Rattle.cf_watch.specs.Carried.{Carried, top_of}
use Rattle.cf_watch.specs.Seen.{far, packet_by, seen_by}
use Rattle.cf_watch.specs.Watched.{Watched, watched}
use Rattle.cf_watch.specs.declared.Scope.TheVariants as scope

-- a flow begins with a SYN, and not amid its stream
abbrev pub begins_with_syn : Watched → Bool
begins_with_syn w = is_none w.midstream

-- a record in which a review reads what the judge does: all but those of a Linux cooked capture, those whose frame has a VLAN tag, and those
-- whose TCP checksum is partial
abbrev pub IsReadAlike : Record → Type 0
IsReadAlike r = packet_by scope.Recording r.link r.body ≡ packet_by scope.Connections r.link r.body

-- no packet of those that came begins more than 1 MiB below the newest position before it. The newest stands first
abbrev pub IsNear : List Carried → Type 0
IsNear [] = Unit {0}
IsNear (c ∷ earlier) = (far (top_of earlier) c.at ≡ 0) × IsNear earlier

-- the flows of a capture of such records that begin with a SYN, in their order, where no packet of the judge's flows begins more than 1 MiB
-- below the newest position: a review reads no letter that stands there
abbrev pub SynFlowsAreWatched : Type 0
SynFlowsAreWatched =
    (assets : List Asset) (newest : List Record) → AllByRecursion IsReadAlike newest
    → AllByRecursion (λ w. IsNear w.carried) (watched assets newest)
    → filter begins_with_syn (seen_by scope.Recording assets newest) ≡ watched assets newest
