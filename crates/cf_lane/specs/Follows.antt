-- The judged items of a history, `AreJudged`, and when a lane, its two queues and the log stand for them: `Follows`.
use Rattle.cf_audit.specs.declared.line.CutReason.{CutReason}
use Rattle.cf_lane.specs.Caller.{Caller, RateMoments, caller_at}
use Rattle.cf_lane.specs.Fate.{HaveFates}
use Rattle.cf_lane.specs.Handled.{Knows, State}
use Rattle.cf_lane.specs.History.{Element, bytes_at, bytes_of}
use Rattle.cf_lane.specs.Item.{AreItems, Placed}
use Rattle.cf_lane.specs.Judged.{Judged, fate_cut, cut_of, place_of}
use Rattle.cf_lane.specs.Log.{lines, with_lines}
use Rattle.cf_lane.specs.Output.{stream_to}
use Rattle.cf_lane.specs.Unit.{SpellsUnit, UnitValue}
use Rattle.cf_outq.specs.SendQueue.{IsQueueOf}
use Rattle.cf_policy.specs.Site.{SiteValue}
use Rattle.cf_policy.specs.declared.Protocol.{Protocol}
use Rattle.cf_view.specs.Units.{IsUnitsThenRest}
use Rattle.cf_view.specs.declared.Endpoint.{Endpoint}
use Rattle.cf_view.specs.declared.Side.{Side}
use Rattle.std.specs.List.{concat}
use Rattle.std.specs.Prelude.{Bool, List, None, Option, Some, [], drop, false, map, take, true, ℕ, ◌++◌, ◌∷◌, ◌≡◌}
use Rattle.cf_view.specs.declared.Side.TheVariants as side

-- no item follows the first that cuts, and none is missing before it
abbrev pub GoesOnAfter : Option CutReason → (later : List Judged) → (going : Type 0) → Type 0
GoesOnAfter None later going = going
GoesOnAfter (Some reason) later going = later ≡ []

-- items are dropped only after one that cuts
abbrev pub DropsBehindCut : (judged : List Judged) → (dropped : List Placed) → Type 0
DropsBehindCut [] dropped = dropped ≡ []
DropsBehindCut (j ∷ js) dropped = GoesOnAfter (fate_cut j.fate) js (DropsBehindCut js dropped)

-- the judged items of a history: its items up to the first that cuts, each with its fate after the earlier ones
pub record AreJudged (site : SiteValue) (client : Caller) (history : List Element) (judged : List Judged) : Type 0 where
  pub items : List Placed
  pub are_items : AreItems site.first.protocol [] history items
  pub dropped : List Placed
  pub are_first : items ≡ map place_of judged ++ dropped
  pub goes_on : DropsBehindCut judged dropped
  pub fates : HaveFates site client [] judged

-- what is left of each side: bytes that are no whole unit
pub record Rests : Type 0 where
  pub client : List ℕ
  pub controller : List ℕ

abbrev pub rest_of : Side → Rests → List ℕ
rest_of side.Client r = r.client
rest_of side.Controller r = r.controller

abbrev pub with_rest : Side → Rests → List ℕ → Rests
with_rest side.Client r rest = record { client = rest; controller = r.controller }
with_rest side.Controller r rest = record { client = r.client; controller = rest }

abbrev pub no_rests : Rests
no_rests = record { client = []; controller = [] }

pub record IsRest (p : Protocol) (bytes rest : List ℕ) : Type 0 where
  pub units : List UnitValue
  pub cut : IsUnitsThenRest (SpellsUnit p) units bytes rest

-- the rests of both sides, where no item cut
abbrev pub AreRests : Protocol → List Element → Rests → Option CutReason → Type 0
AreRests p history rests None = IsRest p (bytes_of side.Client history) rests.client
    × IsRest p (bytes_of side.Controller history) rests.controller
AreRests p history rests (Some reason) = Unit {0}

-- lane, queues and log stand for a history: the queues have the two streams, the log has the lines after what it had
-- first, and the cut is that of the history. Earlier sessions used what is given as before
pub record Follows (site : SiteValue) (before : RateMoments) (history : List Element) (rests : Rests) (cut : Option CutReason)
    (first : Option (List (List ℕ))) (now : State) : Type 0 where
  pub judged : List Judged
  pub are_judged : AreJudged site (caller_at now.lane.client.address before) history judged
  pub is_cut : cut_of judged ≡ cut
  pub are_rests : AreRests site.first.protocol history rests cut
  pub knows : Knows site before now judged
  pub client_stream : IsQueueOf now.to_client (stream_to site side.Client judged)
  pub controller_stream : IsQueueOf now.to_controller (stream_to site side.Controller judged)
  pub of_lines : now.lines ≡ with_lines first (lines site now.lane.client [] judged)

-- a state over another log
abbrev pub over : Option (List (List ℕ)) → State → State
over log s = record s { lines = log }

-- a log got lines by which a history goes on, which stands over lines of its own: the log may have lines of others besides
pub record AddsTo (site : SiteValue) (before : RateMoments) (history : List Element) (rests : Rests) (cut : Option CutReason)
    (first own old : Option (List (List ℕ))) (now : State) : Type 0 where
  pub more : List (List ℕ)
  pub added : now.lines ≡ with_lines old more
  pub follows : Follows site before history rests cut first (over (with_lines own more) now)

-- an End may stand after bytes in one element where the bytes cut: it is then no item
abbrev pub IsEndBehindCut : (ended : Bool) → Option CutReason → Type 0
IsEndBehindCut false cut = Unit {0}
IsEndBehindCut true None = ⊥
IsEndBehindCut true (Some reason) = Unit {0}

-- a log has, after what it had first, the first lines of a history's items, and the octets after its last line are a beginning
-- of the lines that follow
pub record Began (site : SiteValue) (before : RateMoments) (client : Endpoint) (history : List Element) (first log : Option (List (List ℕ)))
    (part : List ℕ) : Type 0 where
  pub judged : List Judged
  pub are_judged : AreJudged site (caller_at client.address before) history judged
  pub count : ℕ
  pub of_lines : log ≡ with_lines first (take count (lines site client [] judged))
  pub some : ℕ
  pub of_part : part ≡ take some (concat (drop count (lines site client [] judged)))

-- a piece was handled up to a unit whose line failed: the log has the first lines of the history up to there
pub record BeganWithin (site : SiteValue) (before : RateMoments) (client : Endpoint) (history : List Element) (moment : ℕ) (s : Side)
    (piece : List ℕ) (first log : Option (List (List ℕ))) (part : List ℕ) : Type 0 where
  pub handled : List ℕ
  pub rest : List ℕ
  pub piece_is : piece ≡ handled ++ rest
  pub began : Began site before client (history ++ bytes_at moment s handled ∷ []) first log part

-- the failure of a call in each history that was followed
abbrev pub FailsWithin : SiteValue → ℕ → Side → List ℕ → State → (log : Option (List (List ℕ))) → (part : List ℕ) → Type 0
FailsWithin site moment s bytes old log part =
    (before : RateMoments) (h : List Element) (rests : Rests) (first : Option (List (List ℕ))) (piece : List ℕ) →
    bytes ≡ rest_of s rests ++ piece → Follows site before h rests None first old →
    BeganWithin site before old.lane.client h moment s piece first log part

-- a log has the lines by which such a history goes on up to a line that failed, and a part of what follows
pub record BeganApart (site : SiteValue) (before : RateMoments) (client : Endpoint) (history : List Element)
    (first own old log : Option (List (List ℕ))) (part : List ℕ) : Type 0 where
  pub more : List (List ℕ)
  pub added : log ≡ with_lines old more
  pub began : Began site before client history first (with_lines own more) part

pub record BeganApartWithin (site : SiteValue) (before : RateMoments) (client : Endpoint) (history : List Element) (moment : ℕ) (s : Side)
    (piece : List ℕ) (first own old log : Option (List (List ℕ))) (part : List ℕ) : Type 0 where
  pub more : List (List ℕ)
  pub added : log ≡ with_lines old more
  pub began : BeganWithin site before client history moment s piece first (with_lines own more) part

-- the failure of a call in each history that was followed over lines of its own
abbrev pub FailsApart : SiteValue → ℕ → Side → List ℕ → State → (log : Option (List (List ℕ))) → (part : List ℕ) → Type 0
FailsApart site moment s bytes old log part =
    (before : RateMoments) (h : List Element) (rests : Rests) (first own : Option (List (List ℕ))) (piece : List ℕ) →
    bytes ≡ rest_of s rests ++ piece →
    Follows site before h rests None first (over own old) →
    BeganApartWithin site before old.lane.client h moment s piece first own old.lines log part
