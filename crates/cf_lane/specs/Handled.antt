-- Steps of the proof: what a lane does with the units at the front of a side's bytes: `Handled` and `Steps`. Nothing here speaks of a
-- history: the items before are any items that lane and queues stand for.
use Rattle.cf_audit.specs.declared.line.CutReason.{CutReason}
use Rattle.cf_lane.specs.Caller.{RateMoments, caller_at}
use Rattle.cf_lane.specs.Fate.{HasFate, HaveFates}
use Rattle.cf_lane.specs.Item.{Item, Took, placed}
use Rattle.cf_lane.specs.Judged.{Judged, fate_cut, cut_of, has_ended, is_admitted, is_refused, one_if}
use Rattle.cf_lane.specs.Kept.{IsWireOf, KnowsWire, wire_debt}
use Rattle.cf_lane.specs.Log.{lines, with_lines}
use Rattle.cf_lane.specs.Output.{outputs}
use Rattle.cf_lane.specs.Unit.{Adu, SpellsUnit, UnitValue, unit_break}
use Rattle.cf_lane.specs.declared.fate.Fate.{Fate}
use Rattle.cf_lane.specs.declared.lane.Decided.{Decided}
use Rattle.cf_lane.specs.declared.lane.Step.{Step}
use Rattle.cf_lane.specs.declared.wire.Wire.{Wire}
use Rattle.cf_modbus.specs.Adu.{AduValue}
use Rattle.cf_outq.specs.SendQueue.{Queue, after_end, after_push, queue_size}
use Rattle.cf_outside.specs.Desk.{DeskValue, KeepsDesk}
use Rattle.cf_lane.specs.Rings.{AllGoOn, AreRulesOf, HasFewAt, KnowsRules}
use Rattle.cf_lane.specs.declared.rules.Rules.{Rules}
use Rattle.cf_policy.specs.Site.{SiteValue, assets_of}
use Rattle.cf_policy.specs.declared.Protocol.{Protocol}
use Rattle.cf_view.specs.Framing.{Begins, BreaksAt, IsPartial}
use Rattle.cf_view.specs.declared.Endpoint.{Endpoint}
use Rattle.cf_view.specs.declared.base.Framed.{Framed}
use Rattle.cf_view.specs.declared.Side.{Side}
use Rattle.std.specs.List.{concat}
use Rattle.std.specs.Prelude.{List, None, Option, Some, [], count_by, false, length, take, true, ℕ, ◌*◌, ◌++◌, ◌+◌, ◌<◌, ◌^◌, ◌∷◌, ◌≡◌, ◌≤◌, ◌⊎◌}
use Rattle.cf_audit.specs.declared.line.CutReason.TheVariants as cut
use Rattle.cf_view.specs.declared.base.Framed.TheVariants as framed
use Rattle.cf_policy.specs.declared.Protocol.TheVariants as protocol
use Rattle.cf_view.specs.declared.Side.TheVariants as side
use Rattle.cf_lane.specs.declared.lane.Step.TheVariants as step

-- what a contract sees of a `Lane`
pub record LaneValue : Type 0 where
  pub client : Endpoint
  pub admitted : ℕ
  pub refused : ℕ
  -- the rules of each asset of its site, for the client
  pub rules : List Rules
  pub wire : Wire

-- a lane with its two queues and the log
pub record State : Type 0 where
  pub lane : LaneValue
  pub to_client : Queue
  pub to_controller : Queue
  pub lines : Option (List (List ℕ))

abbrev pub state : LaneValue → Queue → Queue → Option (List (List ℕ)) → State
state lane to_client to_controller lines = record { lane = lane; to_client = to_client; to_controller = to_controller; lines = lines }

-- the lane is one of the site: its rules and what it keeps for the protocol are the site's
pub record IsLaneOf (site : SiteValue) (lane : LaneValue) : Type 0 where
  pub rules : AreRulesOf site lane.client.address lane.rules
  pub wire : IsWireOf site.first.protocol (length (assets_of site)) lane.wire

-- what the lane and its queues know of earlier items: the numbers are counts, a queue has ended where the other side has, and
-- what was used of the rules with a rate is known, and what the lane keeps for its protocol stands for them until one cuts
pub record Knows (site : SiteValue) (before : RateMoments) (s : State) (earlier : List Judged) : Type 0 where
  pub admitted : s.lane.admitted ≡ count_by (λ j. is_admitted j.fate) earlier
  pub refused : s.lane.refused ≡ count_by (λ j. is_refused j.fate) earlier
  pub client_ended : s.to_client.ended ≡ has_ended side.Controller earlier
  pub controller_ended : s.to_controller.ended ≡ has_ended side.Client earlier
  pub rules : KnowsRules site before s.lane.rules earlier
  pub wire : cut_of earlier ≡ None → KnowsWire site s.lane.wire earlier

-- what judged items do after the earlier ones
pub record Does (site : SiteValue) (before : RateMoments) (earlier js : List Judged) (old new : State) : Type 0 where
  pub knows : Knows site before new (earlier ++ js)
  pub fates : HaveFates site (caller_at old.lane.client.address before) earlier js
  pub of_client : new.to_client ≡ after_push old.to_client (outputs site side.Client earlier js)
  pub of_controller : new.to_controller ≡ after_push old.to_controller (outputs site side.Controller earlier js)
  pub of_lines : new.lines ≡ with_lines old.lines (lines site old.lane.client earlier js)
  -- nothing follows an End
  pub client_quiet : old.to_client.ended ≡ true → outputs site side.Client earlier js ≡ []
  pub controller_quiet : old.to_controller.ended ≡ true → outputs site side.Controller earlier js ≡ []

-- items that were handled, whatever earlier sessions used and whatever came before them that does not cut
pub record Handled (site : SiteValue) (js : List Judged) (old new : State) : Type 0 where
  pub client : new.lane.client ≡ old.lane.client
  pub does : (before : RateMoments) (earlier : List Judged) → cut_of earlier ≡ None → Knows site before old earlier
      → Does site before earlier js old new

abbrev pub judged : ℕ → Item → Fate → Judged
judged moment item f = record { moment = moment; item = item; fate = f }

-- one unit at the front was handled
pub record TakesUnit (site : SiteValue) (moment : ℕ) (s : Side) (bytes : List ℕ) (used : ℕ) (cut : Option CutReason) (old new : State) : Type 0
  where
    pub unit : UnitValue
    pub begins : Begins (SpellsUnit site.first.protocol) bytes unit used
    pub some_bytes : 0 < used
    pub fate : Fate
    pub is_cut : fate_cut fate ≡ cut
    pub handled : Handled site (judged moment (Took s unit) fate ∷ []) old new

-- an octet at the front is one that no unit has there
pub record Breaks (site : SiteValue) (s : Side) (bytes : List ℕ) (reason : CutReason) : Type 0 where
  pub place : ℕ
  pub breaks : BreaksAt (SpellsUnit site.first.protocol) bytes place
  pub is_reason : reason ≡ cut.Framing s (unit_break site.first.protocol place)

-- what a step answers: a unit, none yet, or a cut, which comes by an octet, or by a unit of IEC 104
abbrev pub Steps : SiteValue → ℕ → Side → List ℕ → State → State → Step → Type 0
Steps site moment s bytes old new (step.Took used) = TakesUnit site moment s bytes used None old new
Steps site moment s bytes old new step.More = IsPartial (SpellsUnit site.first.protocol) bytes × (new ≡ old)
Steps site moment s bytes old new (step.Cut reason) =
    (Breaks site s bytes reason × (new ≡ old))
    ⊎ ((site.first.protocol ≡ protocol.Iec104) × ((used : ℕ) × TakesUnit site moment s bytes used (Some reason) old new))

-- the octets that unfinished DNP3 fragments may still put out; a lane of another protocol has none
abbrev pub debt : LaneValue → ℕ
debt lane = wire_debt lane.wire

-- what a queue keeps grew, with what is owed, by at most so much; all else of it is as it was
pub record Grows (most debt_before debt_now : ℕ) (old new : Queue) : Type 0 where
  pub kept : length new.kept + debt_now ≤ length old.kept + debt_before + most
  pub pushed : new.pushed + debt_now ≤ old.pushed + debt_before + most
  pub rest : new ≡ record old { kept = new.kept; pushed = new.pushed }

abbrev pub letters_in : Step → ℕ
letters_in (step.Took used) = used
letters_in step.More = 0
letters_in (step.Cut reason) = 0

-- why a step cuts the session, if it does
abbrev pub cut_in : Step → Option CutReason
cut_in (step.Cut reason) = Some reason
cut_in st = None

-- a client's command was taken by its fate
pub record TakesCommand (site : SiteValue) (moment : ℕ) (a : AduValue) (old new : State) : Type 0 where
  pub fate : Fate
  pub uncut : fate_cut fate ≡ None
  pub handled : Handled site (judged moment (Took side.Client (Adu a)) fate ∷ []) old new

-- the numbers rose by one command at most for so many letters
abbrev pub CountsBy : ℕ → LaneValue → LaneValue → Type 0
CountsBy most old new = new.admitted + new.refused ≤ old.admitted + old.refused + most

-- a lane counts an item of the asset of a place, of this fate, at a moment: its numbers and its rules go on
pub record Counts (place : ℕ) (f : Fate) (moment : ℕ) (old new : LaneValue) : Type 0 where
  pub client : new.client ≡ old.client
  pub admitted : new.admitted ≡ old.admitted + one_if (is_admitted f)
  pub refused : new.refused ≡ old.refused + one_if (is_refused f)
  pub rules : AllGoOn place f moment old.rules new.rules
  pub wire : new.wire ≡ old.wire

-- what a unit of so many octets led to
abbrev pub step_by : Option CutReason → ℕ → Step
step_by None used = step.Took used
step_by (Some reason) used = step.Cut reason

-- a unit at the front was taken with this fate, by the asset of a place: it is handled once the lane has counted it
pub record TakesUncounted (site : SiteValue) (moment : ℕ) (s : Side) (bytes : List ℕ) (used place : ℕ) (f : Fate) (old mid : State) : Type 0
  where
    pub unit : UnitValue
    pub begins : Begins (SpellsUnit site.first.protocol) bytes unit used
    pub some_bytes : 0 < used
    -- a unit cuts by its numbers alone
    pub cuts : (reason : CutReason) → fate_cut f ≡ Some reason → site.first.protocol ≡ protocol.Iec104
    pub handled : (lane : LaneValue) → Counts place f moment mid.lane lane →
        Handled site (judged moment (Took s unit) f ∷ []) old (state lane mid.to_client mid.to_controller mid.lines)

-- what stands at the front of a side's bytes: a unit that was taken, none yet, or an octet that no unit has there
abbrev pub Fronts : SiteValue → ℕ → Side → List ℕ → (old mid : State) → Framed Decided → Type 0
Fronts site moment s bytes old mid (framed.Unit d used) = TakesUncounted site moment s bytes used d.place d.fate old mid
Fronts site moment s bytes old mid framed.More = IsPartial (SpellsUnit site.first.protocol) bytes × (mid ≡ old)
Fronts site moment s bytes old mid (framed.Broken reason) = Breaks site s bytes (cut.Framing s reason) × (mid ≡ old)

-- what the front led to
abbrev pub step_at : Side → Framed Decided → Step
step_at s (framed.Unit d used) = step_by (fate_cut d.fate) used
step_at s framed.More = step.More
step_at s (framed.Broken reason) = step.Cut (cut.Framing s reason)

-- a lane counts what stands at the front
abbrev pub CountsFront : Framed Decided → ℕ → (old new : LaneValue) → Type 0
CountsFront (framed.Unit d used) moment old new = Counts d.place d.fate moment old new
CountsFront framed.More moment old new = new ≡ old
CountsFront (framed.Broken reason) moment old new = new ≡ old

-- the asset of what stands at the front has rules
abbrev pub FewAtFront : Framed Decided → List Rules → Type 0
FewAtFront (framed.Unit d used) all = HasFewAt d.place all
FewAtFront framed.More all = Unit {0}
FewAtFront (framed.Broken reason) all = Unit {0}

-- the commands that may be counted at the front, at most
abbrev pub most_counted : Framed Decided → ℕ
most_counted (framed.Unit d used) = 1
most_counted framed.More = 0
most_counted (framed.Broken reason) = 0

-- the number of octets of the front that go on
abbrev pub taken_in : Framed Decided → ℕ
taken_in (framed.Unit d used) = letters_in (step_by (fate_cut d.fate) used)
taken_in framed.More = 0
taken_in (framed.Broken reason) = 0

-- the two queues and the log
pub record Outlets : Type 0 where
  pub to_client : Queue
  pub to_controller : Queue
  pub lines : Option (List (List ℕ))

abbrev pub outlets : Queue → Queue → Option (List (List ℕ)) → Outlets
outlets to_client to_controller lines = record { to_client = to_client; to_controller = to_controller; lines = lines }

-- a lane of this client with these rules, which keeps this for its protocol and counted so many commands
abbrev pub lane_at : Endpoint → List Rules → Wire → (admitted refused : ℕ) → Outlets → State
lane_at client rules wire admitted refused out =
    state (record { client = client; admitted = admitted; refused = refused; rules = rules; wire = wire }) out.to_client out.to_controller
    out.lines

-- what stands at the front, for a lane that counted any number of commands
abbrev pub FrontsOf : SiteValue → Endpoint → List Rules → ℕ → Side → List ℕ → (before after : Wire) → (old new : Outlets)
    → Framed Decided → Type 0
FrontsOf site client rules moment s bytes before after old new answer =
    (admitted refused : ℕ) → Fronts site moment s bytes (lane_at client rules before admitted refused old)
    (lane_at client rules after admitted refused new) answer

-- the queue to the other side is open, so that the side's bytes may go on
abbrev pub IsOpen : Side → (to_client to_controller : Queue) → Type 0
IsOpen side.Client to_client to_controller = to_controller.ended ≡ false
IsOpen side.Controller to_client to_controller = to_client.ended ≡ false

-- the octets that unfinished fragments of so many assets may still put out, at most: 5,300 for the two of one asset of DNP3
abbrev pub debt_by : Protocol → (count : ℕ) → ℕ
debt_by protocol.Modbus count = 0
debt_by protocol.Dnp3 count = 5300 * count
debt_by protocol.Iec104 count = 0

-- those of the assets of a site
abbrev pub debt_limit : SiteValue → ℕ
debt_limit site = debt_by site.first.protocol (length (assets_of site))

-- what is left of a side because it is no whole unit has fewer octets
abbrev pub rest_limit : ℕ
rest_limit = 300

-- the queue has room for so many bytes, End besides
pub record HasRoom (most : ℕ) (q : Queue) : Type 0 where
  pub room : length q.kept + most ≤ queue_size
  pub limit : q.pushed + most < 2 ^ 31

-- the queue to the other side has its End, and the other queue is as it was
abbrev pub EndsOther : Side → (to_client to_controller new_client new_controller : Queue) → Type 0
EndsOther side.Client c k c' k' = (c' ≡ c) × (k' ≡ after_end k)
EndsOther side.Controller c k c' k' = (c' ≡ after_end c) × (k' ≡ k)

-- an End may still be put into the queue to the other side
abbrev pub MayEnd : Side → (to_client to_controller : Queue) → Type 0
MayEnd side.Client c k = k.pushed < 2 ^ 31
MayEnd side.Controller c k = c.pushed < 2 ^ 31

-- the desk's log has these lines more
abbrev pub HasAdded : List (List ℕ) → DeskValue → DeskValue → Type 0
HasAdded more old new = new.lines ≡ with_lines old.lines more

-- a log has these lines; or it has none of them, and the octets after its last line are a beginning of theirs
abbrev pub MayHaveMore : List (List ℕ) → (old log : Option (List (List ℕ))) → (part : List ℕ) → Type 0
MayHaveMore more old log part = ((log ≡ old) × ((k : ℕ) × (part ≡ take k (concat more)))) ⊎ ((log ≡ with_lines old more) × (part ≡ []))

abbrev pub MayHaveAdded : List (List ℕ) → DeskValue → DeskValue → Type 0
MayHaveAdded more old new = MayHaveMore more old.lines new.lines new.line_part

-- a desk of which nothing but the log was written: no packet was emitted, it is the same one, and files of other names are as they were.
-- One that is whole was so, and nothing but lines was added
pub record WritesLog (old new : DeskValue) : Type 0 where
  pub packets : new.packets ≡ old.packets
  pub packet_part : new.packet_part ≡ old.packet_part
  pub stays : new.whole ≡ true → old.whole ≡ true
  pub line_part : new.whole ≡ true → new.line_part ≡ old.line_part
  pub keeps : KeepsDesk old new

-- an item has these lines, whatever came before it that does not cut
abbrev pub HasLines : SiteValue → State → Judged → List (List ℕ) → Type 0
HasLines site old j more = (before : RateMoments) (earlier : List Judged) → cut_of earlier ≡ None → Knows site before old earlier
    → lines site old.lane.client earlier (j ∷ []) ≡ more

-- a unit has this fate, whatever came before it that does not cut
abbrev pub IsFated : SiteValue → ℕ → State → Side → UnitValue → Fate → Type 0
IsFated site moment old s unit f = (before : RateMoments) (earlier : List Judged) → cut_of earlier ≡ None → Knows site before old earlier
    → HasFate site (caller_at old.lane.client.address before) earlier (placed moment (Took s unit)) f

-- a command was judged, and the log may have a part of its line or all of it
pub record MissesCommand (site : SiteValue) (moment : ℕ) (a : AduValue) (old : State) (log : Option (List (List ℕ))) (part : List ℕ) : Type 0
  where
    pub fate : Fate
    pub uncut : fate_cut fate ≡ None
    pub has : IsFated site moment old side.Client (Adu a) fate
    pub more : List (List ℕ)
    pub are_more : HasLines site old (judged moment (Took side.Client (Adu a)) fate) more
    pub line : MayHaveMore more old.lines log part

-- a unit was judged, and the log may have a part of its line or all of it
pub record Misses (site : SiteValue) (moment : ℕ) (s : Side) (bytes : List ℕ) (old : State) (log : Option (List (List ℕ))) (part : List ℕ) :
    Type 0 where
  pub used : ℕ
  pub unit : UnitValue
  pub begins : Begins (SpellsUnit site.first.protocol) bytes unit used
  pub fate : Fate
  pub uncut : fate_cut fate ≡ None
  pub has : IsFated site moment old s unit fate
  pub more : List (List ℕ)
  pub are_more : HasLines site old (judged moment (Took s unit) fate) more
  pub line : MayHaveMore more old.lines log part

-- the failure of a call of a lane that counted any number of commands
abbrev pub MissesOf : SiteValue → Endpoint → List Rules → ℕ → Side → List ℕ → (before : Wire) → (old : Outlets) → (log : Option (List (List ℕ)))
    → (part : List ℕ) → Type 0
MissesOf site client rules moment s bytes before old log part =
    (admitted refused : ℕ) → Misses site moment s bytes (lane_at client rules before admitted refused old) log part
