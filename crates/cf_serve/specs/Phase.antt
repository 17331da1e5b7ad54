-- A session of a service between two rounds, and what a turn does to it. The main definitions are `StandsAs` and `TurnDoes`. This
-- project's own.
use Rattle.cf_audit.specs.Line.{Again, Begun, Close, Cut, Gone, Lost, NoMemory, Silent, Unreached, WhatValue}
use Rattle.cf_lane.specs.Caller.{RateMoments}
use Rattle.cf_lane.specs.Handled.{IsLaneOf}
use Rattle.cf_lane.specs.Judged.{Judged}
use Rattle.cf_lane.specs.Log.{line_about, with_lines}
use Rattle.cf_lane.specs.Over.{are_over}
use Rattle.cf_lane.specs.Ring.{RingValue}
use Rattle.cf_lane.specs.Rings.{AreRingsOf, IsLeft, KnowRings, KnowsRules}
use Rattle.cf_lane.specs.SiteRates.{used_at}
use Rattle.cf_links.specs.Links.{LinksEntry, LinksPlace, SessionTold, with_answers}
use Rattle.cf_links.specs.Service.{LosesSession}
use Rattle.cf_outside.specs.Pair.{Entry, Moment, met_at}
use Rattle.cf_policy.specs.Site.{SiteValue}
use Rattle.cf_relay.specs.Answers.{client_of, history_of}
use Rattle.cf_relay.specs.Relaying.{AreClosed, IsSound, RelayingValue, relaying_value}
use Rattle.cf_relay.specs.Stands.{IsCounted, StandsFor}
use Rattle.cf_relay.specs.Turn.{AreItemsOf, DoesStages, turns}
use Rattle.cf_view.specs.declared.Endpoint.{Endpoint}
use Rattle.cf_relay.specs.declared.directions.Directions.TheVariants as both
use Rattle.cf_relay.specs.declared.stop.Stop.{Stop}
use Rattle.cf_relay.specs.declared.stop.Stop.TheVariants as stop
use Rattle.std.specs.Prelude.{Bool, Err, List, None, Ok, Result, false, true, Option, Some, [], if◌then◌else◌, is_some, map, not, option_map, ℕ}
use Rattle.std.specs.Prelude.{◌++◌, ◌-◌, ◌∷◌, ◌≡◌, ◌⊎◌}
use Rattle.cf_serve.specs.Debt.{Admits, Refuses, debt_with, must_rest, no_debt}
use Rattle.cf_serve.specs.Lending.{Has, IsFree, KeptRings, KeptValue, Lends, Lent, kept_at, rings_in}
use Rattle.cf_serve.specs.Rounds.{IsAgain, IsTurn, Seat, TurnOf, has_rates, turn_entries}
use Rattle.cf_serve.specs.Session.{EndsSo, Listening}
use Rattle.cf_serve.specs.declared.debt.Debt.{Debt}
use Rattle.cf_serve.specs.declared.end.SessionEnd.{SessionEnd}
use Rattle.cf_serve.specs.declared.end.SessionEnd.TheVariants as end
use Rattle.cf_serve.specs.declared.minute.Tally.{Tally}
use Rattle.cf_serve.specs.declared.session.Linked.{Linked}
use Rattle.cf_serve.specs.declared.session.Reached.{Reached}
use Rattle.cf_serve.specs.declared.session.Reached.TheVariants as reached
use Rattle.cf_serve.specs.declared.session.Served.{Served}
use Rattle.cf_serve.specs.declared.session.Terms.{Terms}
use Rattle.cf_serve.specs.declared.table.Place.{Place}

-- a relay whose controller was reached, and the client that was met
pub record LinkedValue : Type 0 where
  pub met : Endpoint
  pub now : RelayingValue
  pub debt : Debt

abbrev pub linked_value : Linked → LinkedValue
linked_value linked = record { met = linked.met; now = relaying_value linked.relaying; debt = linked.debt }

-- what a session has to pay for, and how many of its commands were refused; nothing before its controller is reached
abbrev pub debt_at : Option LinkedValue → Debt
debt_at None = no_debt
debt_at (Some v) = v.debt

abbrev pub refused_at : Option LinkedValue → ℕ
refused_at None = 0
refused_at (Some v) = v.now.lane.refused

abbrev pub admitted_at : Option LinkedValue → ℕ
admitted_at None = 0
admitted_at (Some v) = v.now.lane.admitted

-- both numbers of its commands
abbrev pub counts_at : Option LinkedValue → Tally
counts_at linked = record { admitted = admitted_at linked; refused = refused_at linked }

-- nothing was taken of a session before its relay begins; of one that is a relay the numbers and what its rules know are those of its items
abbrev pub KnowsOf : Listening → (before : RateMoments) → List Entry → Option LinkedValue → Type 0
KnowsOf at before es None = history_of es ≡ []
KnowsOf at before es (Some v) =
    (js : List Judged) × (AreItemsOf at.site before es js
    × (IsCounted js v.now.lane.admitted v.now.lane.refused × KnowsRules at.site before v.now.lane.rules js))

-- what a session leaves: what it found, or, where it is a relay, what it began with and what it used itself
abbrev pub LeavesOf : Listening → (before found : RateMoments) → List Entry → Option LinkedValue → (left : RateMoments) → Type 0
LeavesOf at before found es None left = left ≡ found
LeavesOf at before found es (Some v) left =
    (js : List Judged) × (AreItemsOf at.site before es js × (KnowsRules at.site before v.now.lane.rules js × (left ≡ used_at at.site before js)))

-- what a turn at a moment leaves of the debt
abbrev pub Owes : (moment : ℕ) → (old new : Option LinkedValue) → Type 0
Owes moment old new = debt_at new ≡ debt_with (debt_at old) moment (refused_at new - refused_at old)

-- a session: its seat, and its relay once the controller is reached
pub record Phase : Type 0 where
  pub seat : Seat
  pub linked : Option LinkedValue

abbrev pub phase_of : Served → Phase
phase_of served = record {
  seat = record { session = served.number; place = served.place; client = served.client };
  linked = option_map linked_value served.linked;
}

-- a seat by its parts
abbrev pub seat_at : (session place : ℕ) → Endpoint → Seat
seat_at session place client = record { session = session; place = place; client = client }

-- the last line of a session whose client came again
abbrev pub again_line : SiteValue → Endpoint → (moment : ℕ) → Option LinkedValue → List ℕ
again_line site client moment linked = line_about site.first client moment (Again (admitted_at linked) (refused_at linked))

-- the site and the port of a session
abbrev pub listening_of : Terms → Listening
listening_of terms = record { site = terms.site.now; port = terms.port }

-- the controller was reached, and so many turns were made
pub record StandsLinked (at : Listening) (before : RateMoments) (most : ℕ) (es : List Entry) (own : List (List ℕ)) (v : LinkedValue) : Type 0 where
  pub moment : ℕ
  pub count : ℕ
  pub answers : List Entry
  pub split : es ≡ met_at at.port at.site.first.endpoint v.met ∷ Moment moment ∷ answers
  pub does : DoesStages at.site before most (turns both.Separate count)
      (met_at at.port at.site.first.endpoint v.met ∷ Moment moment ∷ []) answers
  pub stands : StandsFor at.site before (Some (line_about at.site.first v.met moment Begun ∷ []))
      (met_at at.port at.site.first.endpoint v.met ∷ Moment moment ∷ answers) v.now (Some own)

-- what is kept of a session stands for its own answers and its own lines
abbrev pub StandsAs : Listening → (before : RateMoments) → (most : ℕ) → List Entry → (own : List (List ℕ)) → Option LinkedValue → Type 0
StandsAs at before most es own None = (es ≡ []) × (own ≡ [])
StandsAs at before most es own (Some v) = StandsLinked at before most es own v

-- what lets a session be given one turn more, whatever its list
abbrev pub MayTurn : Listening → (most : ℕ) → Option LinkedValue → Type 0
MayTurn at most None = Unit {0}
MayTurn at most (Some v) = IsSound at.site most v.now × (AreClosed v.now → ⊥)

-- what a turn leaves: a session that stands, or one that ended, of which the numbers are kept still
abbrev pub TurnLeaves : Listening → (before : RateMoments) → (most : ℕ) → (client : Endpoint) → List Entry → (own : List (List ℕ))
    → Option LinkedValue → Option SessionEnd → Type 0
TurnLeaves at before most client es own linked None = StandsAs at before most es own linked
TurnLeaves at before most client es own linked (Some end) = EndsSo at before most client es own end × KnowsOf at before es linked

-- a relay that begins does so with what was left; nothing is said of any other session
abbrev pub BeginsWith : (left : Option (List (List RingValue))) → (before : RateMoments) → (old new : Option LinkedValue) → Type 0
BeginsWith left before None None = Unit {0}
BeginsWith left before None (Some v) = IsLeft left before
BeginsWith left before (Some u) new = Unit {0}

-- a turn adds answers, and lines to the log, whatever came before
pub record TurnDoes (at : Listening) (left : Option (List (List RingValue))) (most : ℕ) (client : Endpoint) (told told_after : SessionTold)
    (log log_after : Option (List (List ℕ))) (old new : Option LinkedValue) (end : Option SessionEnd) : Type 0 where
  pub answers : List Entry
  pub tells : told_after ≡ with_answers told answers
  pub leaves : (before : RateMoments) (es : List Entry) (own : List (List ℕ)) → BeginsWith left before old new
      → StandsAs at before most es own old → (lines : List (List ℕ)) × ((log_after ≡ with_lines log lines)
      × TurnLeaves at before most client (es ++ answers) (own ++ lines) new end)

-- what came of asking for a controller: nothing yet, a relay that has made no turn, or an end
abbrev pub ReachLeaves : Listening → (left : Option (List (List RingValue))) → (most : ℕ) → (client : Endpoint) → List Entry
    → (own : List (List ℕ)) → Reached → Type 0
ReachLeaves at left most client es own reached.Waiting = (es ≡ []) × (own ≡ [])
ReachLeaves at left most client es own (reached.Begun linked) =
    (before : RateMoments) → IsLeft left before → StandsLinked at before most es own (linked_value linked)
ReachLeaves at left most client es own (reached.Ended end) =
    ((before : RateMoments) → EndsSo at before most client es own end) × (history_of es ≡ [])

-- asking for it adds answers and lines, behind those of the session before
pub record ReachDoes (at : Listening) (left : Option (List (List RingValue))) (most : ℕ) (client : Endpoint) (before : List Entry)
    (told told_after : SessionTold) (log log_after : Option (List (List ℕ))) (reached : Reached) : Type 0 where
  pub answers : List Entry
  pub lines : List (List ℕ)
  pub tells : told_after ≡ with_answers told answers
  pub added : log_after ≡ with_lines log lines
  pub leaves : ReachLeaves at left most client (before ++ answers) lines reached

-- a relay that begins has nothing to pay for, and its client has the address that came
abbrev pub BeginsFree : (client : Endpoint) → Reached → Type 0
BeginsFree client reached.Waiting = Unit {0}
BeginsFree client (reached.Begun linked) =
    (linked.debt ≡ no_debt) × (((linked_value linked).now.lane.refused ≡ 0) × (linked.met.address ≡ client.address))
BeginsFree client (reached.Ended end) = Unit {0}

-- at a site with rates a relay has what is kept of its client, as long as it stands
abbrev pub HasLent : SiteValue → List KeptValue → Seat → Option LinkedValue → Type 0
HasLent site store seat None = Unit {0}
HasLent site store seat (Some v) = has_rates site ≡ true → kept_at store seat.place seat.client.address ≡ Some (Lent seat.session)

-- what was left to a client: its rings, where the site has rates
abbrev pub rings_for : SiteValue → List KeptValue → (place address : ℕ) → Option (List (List RingValue))
rings_for site store place address = if has_rates site then rings_in (kept_at store place address) else None

-- what is kept as a controller was asked for: a relay that begins has it
pub record ReachKeeps (site : SiteValue) (seat : Seat) (moment : ℕ) (store store_after : List KeptValue) (answer : Reached) : Type 0 where
  pub lends : Lends seat.session moment store store_after
  pub free : (linked : Linked) → answer ≡ reached.Begun linked → has_rates site ≡ true
      → IsFree (kept_at store seat.place seat.client.address)
  pub lent : (linked : Linked) → answer ≡ reached.Begun linked → has_rates site ≡ true
      → kept_at store_after seat.place seat.client.address ≡ Some (Lent seat.session)

-- a relay that begins stands, is of a client of the address that came, and what is kept of it was free; and a relay stays one
abbrev pub BeginsBy : SiteValue → Seat → (store : List KeptValue) → (stays_on : Bool) → (old new : Option LinkedValue) → Type 0
BeginsBy site seat store stays_on None None = Unit {0}
BeginsBy site seat store stays_on None (Some v) =
    (stays_on ≡ true) × ((v.met.address ≡ seat.client.address)
    × (has_rates site ≡ true → IsFree (kept_at store seat.place seat.client.address)))
BeginsBy site seat store stays_on (Some u) None = ⊥
BeginsBy site seat store stays_on (Some u) (Some v) = Unit {0}

-- the lane of a relay is one of the site, also behind its end
abbrev pub HasLane : SiteValue → Option LinkedValue → Type 0
HasLane site None = Unit {0}
HasLane site (Some v) = IsLaneOf site v.now.lane

-- what is kept behind a turn
pub record TurnKeeps (site : SiteValue) (seat : Seat) (moment : ℕ) (store store_after : List KeptValue) (stays_on : Bool)
    (old new : Option LinkedValue) : Type 0 where
  pub lends : Lends seat.session moment store store_after
  pub lent : HasLent site store seat old → HasLent site store_after seat new
  pub begins : BeginsBy site seat store stays_on old new
  pub lane : HasLane site new

-- what is kept of a client behind the end of a session: at a site with rates the rings of its relay, or nothing where they count no more
abbrev pub IsGivenBack : SiteValue → (moment : ℕ) → Option LinkedValue → (old new : Option KeptRings) → Type 0
IsGivenBack site moment None old new = new ≡ old
IsGivenBack site moment (Some v) old new =
    (has_rates site ≡ false → new ≡ old)
    × (has_rates site ≡ true → (rings : List (List RingValue)) × (AreRingsOf site rings
    × (((before : RateMoments) (js : List Judged) → KnowsRules site before v.now.lane.rules js → KnowRings rings (used_at site before js))
    × (new ≡ (if are_over moment rings then None else Some (Has rings))))))

-- what a relay begins with, in the turn in which it does
abbrev pub begun_by : (before : RateMoments) → (old new : Option LinkedValue) → Option RateMoments
begun_by before None None = None
begun_by before None (Some v) = Some before
begun_by before (Some u) new = None

-- a relay that begins may have its turns
abbrev pub IsSoundBegun : Listening → (most : ℕ) → Reached → Type 0
IsSoundBegun at most reached.Waiting = Unit {0}
IsSoundBegun at most (reached.Begun linked) = MayTurn at most (Some (linked_value linked))
IsSoundBegun at most (reached.Ended end) = Unit {0}

-- the end of a session by what its relay answered, where that is no failed write
abbrev pub end_of : Result Unit Stop → (closed : Bool) → Option SessionEnd
end_of (Ok done) true = Some end.Closed
end_of (Ok done) false = None
end_of (Err stop.Idle) closed = Some end.Silent
end_of (Err stop.Link) closed = Some end.Lost
end_of (Err stop.Write) closed = None
end_of (Err (stop.Cut reason)) closed = Some (end.Cut reason)

-- what the last line of a session says
abbrev pub last_value : SessionEnd → (admitted refused : ℕ) → WhatValue
last_value end.Closed admitted refused = Close admitted refused
last_value (end.Cut reason) admitted refused = Cut reason
last_value end.Silent admitted refused = Silent admitted refused
last_value end.Lost admitted refused = Lost admitted refused
last_value end.Unreached admitted refused = Unreached
last_value end.Gone admitted refused = Gone
last_value end.Again admitted refused = Again admitted refused
last_value end.NoMemory admitted refused = NoMemory

-- the sites that are served, each with the port at which its clients come
abbrev pub listening_at : Place → Listening
listening_at place = record { site = place.site; port = place.at.port }

abbrev pub listenings : List Place → List Listening
listenings places = map listening_at places

-- what a round is to one session, whatever came before: its end where its client came again, a turn where it is ready, and else nothing.
-- The earlier sessions of its client had used what is given as before as its relay began, and left what it found as it ended
pub record SeatDoes (at : Listening) (again : Bool) (before found : RateMoments) (most moment : ℕ) (es : List Entry) (own : List (List ℕ))
    (told told_after : Option (List LinksEntry)) (log log_after : Option (List (List ℕ))) (old new : Phase) (stays : Bool) : Type 0 where
  pub turn : TurnOf
  pub seat : turn.seat ≡ old.seat
  pub is_turn : IsTurn moment turn
  pub again_is : IsAgain again turn
  pub rests : must_rest (debt_at old.linked) moment ≡ true → turn.ready ≡ false
  pub idle : turn.ready ≡ false → turn.refused ≡ 0
  pub refuses : Refuses at before es turn.answers turn.refused
  pub passive : turn.ready ≡ false → turn.admitted ≡ 0
  pub admits : Admits at before es turn.answers turn.admitted
  pub counts : (turn.admitted ≡ admitted_at new.linked - admitted_at old.linked) × (turn.refused ≡ refused_at new.linked - refused_at old.linked)
  pub owes : turn.end ≡ None → debt_at new.linked ≡ debt_with (debt_at old.linked) moment turn.refused
  pub tells : told_after ≡ option_map (λ entries. entries ++ turn_entries turn) told
  pub added : log_after ≡ with_lines log turn.lines
  pub ended : is_some turn.end ≡ not stays
  pub leaves : TurnLeaves at before most old.seat.client (es ++ turn.answers) (own ++ turn.lines) new.linked turn.end
  pub begun : turn.begun ≡ begun_by before old.linked new.linked
  pub met : (b : RateMoments) → turn.begun ≡ Some b → (client_of turn.answers).address ≡ old.seat.client.address
  pub left : turn.end ≡ None ⊎ LeavesOf at before found (es ++ turn.answers) new.linked turn.left

-- a session that ended was left, and any other is served as before
abbrev pub KeepsPlace : (session : ℕ) → LinksPlace → LinksPlace → (stays : Bool) → Type 0
KeepsPlace session old new true = new ≡ old
KeepsPlace session old new false = LosesSession session old new
