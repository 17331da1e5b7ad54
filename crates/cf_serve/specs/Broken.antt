-- What a service did where a line of its log failed. The main definition is `IsBroken`. This project's own.
--
-- All rounds but the last are whole. Of the last there is what came before the line that failed, and nothing behind it: no client was
-- taken, no session was asked, and nothing was given. The sessions that stood were left. Of the line the log has a beginning, or all.
use Rattle.cf_lane.specs.Caller.{RateMoments}
use Rattle.cf_audit.specs.Line.{Listen}
use Rattle.cf_lane.specs.Log.{line_about, with_lines}
use Rattle.cf_links.specs.Links.{LinksEntry, answers_of}
use Rattle.cf_outside.specs.Files.{Content, GoesOn, content_gone_on}
use Rattle.cf_outside.specs.Lines.{file_lines, file_part}
use Rattle.cf_outside.specs.Pair.{Entry}
use Rattle.cf_outside.specs.declared.files.WriteAnswer.TheVariants as write
use Rattle.cf_relay.specs.Ends.{IsWriteEnd, LogContents}
use Rattle.cf_relay.specs.declared.directions.Directions.TheVariants as both
use Rattle.cf_view.specs.declared.Endpoint.{Endpoint}
use Rattle.std.specs.List.{AllByRecursion, concat, flat_map}
use Rattle.std.specs.Prelude.{Bool, List, None, Option, Some, [], drop, false, length, map, option_map, slice_get, take, true, ℕ, ◌++◌}
use Rattle.std.specs.Prelude.{◌-◌, ◌<◌, ◌^◌, ◌∷◌, ◌≡◌, ◌⊎◌}
use Rattle.cf_serve.specs.Debt.{AreMeasured, debt_of, must_rest}
use Rattle.cf_serve.specs.Kept.{AreBegun, before_in}
use Rattle.cf_serve.specs.Phase.{listenings}
use Rattle.cf_serve.specs.Door.{first_lobby}
use Rattle.cf_serve.specs.Minute.{all_lines, last_from, minute_lines}
use Rattle.cf_serve.specs.Rounds.{AreArrivals, AreRounds, AreTurns, Arrival, IsRound, Round, Seat, TurnOf, answers_in, lines_in}
use Rattle.cf_serve.specs.Rounds.{IsAgainOf, lobby_behind, must_end, round_entries, round_lines, stays, taken_of, turns_of}
use Rattle.cf_serve.specs.Served.{IfEnded, IsClient, left_of, listen_lines, opened_from}
use Rattle.cf_serve.specs.Session.{EndsSo, Listening}
use Rattle.cf_serve.specs.declared.door.Closing.{Closing}
use Rattle.cf_serve.specs.declared.door.Lobby.{Lobby}
use Rattle.cf_serve.specs.declared.end.SessionEnd.{SessionEnd}
use Rattle.cf_serve.specs.declared.table.Place.{Place}

-- a beginning of a line that failed, or all of it, which the log has behind its whole lines
abbrev pub BeginsLine : (line : List ℕ) → (whole : List (List ℕ)) → (part : List ℕ) → Type 0
BeginsLine line whole part = ((whole ≡ []) × ((some : ℕ) × (part ≡ take some line))) ⊎ ((whole ≡ line ∷ []) × (part ≡ []))

-- ---- the session whose line failed

-- a session's own lines are the first of these, and what stands behind them is a beginning of the rest
abbrev pub own_begun : (own : List (List ℕ)) → (part : List ℕ) → LogContents
own_begun own part = record {
  Holds = λ all. own ≡ all;
  Begins = λ all. (count some : ℕ) × (own ≡ take count all) × (part ≡ take some (concat (drop count all)));
}

-- a failed line that was the last one of a session, which has all of its end but that
pub record LastLineFails (at : Listening) (past : RateMoments) (most : ℕ) (client : Endpoint) (es : List Entry) (own : List (List ℕ))
    (part : List ℕ) : Type 0 where
  pub end : SessionEnd
  pub before : List (List ℕ)
  pub line : List ℕ
  pub ends : EndsSo at past most client es (before ++ line ∷ []) end
  pub whole : List (List ℕ)
  pub own_is : own ≡ before ++ whole
  pub begins : BeginsLine line whole part

-- or it was the open line, or one amid a turn: the session is a relay whose write failed
abbrev pub FailsSo : Listening → (past : RateMoments) → (most : ℕ) → (client : Endpoint) → List Entry → (own : List (List ℕ))
    → (part : List ℕ) → Type 0
FailsSo at past most client es own part =
    LastLineFails at past most client es own part ⊎ IsWriteEnd both.Separate at.site past at.port most (own_begun own part) es

-- a client that failed by its own answers and its own lines, and by what its earlier sessions had used as it began, alone
abbrev pub IsFailedClient : List Listening → (most : ℕ) → List TurnOf → Seat → (part : List ℕ) → Type 0
IsFailedClient places most past seat part =
    (at : Listening) → slice_get places seat.place ≡ Some at
    → FailsSo at (before_in seat.session past) most seat.client (answers_in seat.session past) (lines_in seat.session past) part

-- ---- the round that breaks off

-- a client was closed, and its line failed: it is the last that came
pub record ComingFails (places : List Listening) (moment from : ℕ) (lobby : Lobby) (standing : List Seat) (arrivals : List Arrival)
    (part : List ℕ) : Type 0 where
  pub before : List Arrival
  pub seat : Seat
  pub closed : Option Closing
  pub line : List ℕ
  -- all who came, with the lines that were theirs
  pub come : AreArrivals places moment from lobby standing (before ++ record { seat = seat; closed = closed; lines = line ∷ [] } ∷ [])
  pub whole : List (List ℕ)
  pub are : arrivals ≡ before ++ record { seat = seat; closed = closed; lines = whole } ∷ []
  pub begins : BeginsLine line whole part

-- the round breaks off there: no session had its turn, and each stands as it stood
pub record BreaksInArrivals (places : List Listening) (most : ℕ) (past : List TurnOf) (lobby : Lobby) (standing : List Seat) (r : Round)
    (left : List Seat) (part : List ℕ) : Type 0 where
  pub fails : ComingFails places r.moment 0 lobby standing r.arrivals part
  pub no_turns : r.turns ≡ []
  pub measured : AreMeasured places [] past
  pub begun : AreBegun places [] past
  pub all : left ≡ standing ++ taken_of r.arrivals
  pub stand : AllByRecursion (λ (s : Seat). IsClient places most past s []) left

-- the turn whose line failed: the session was ready, and had not to rest; or it was ended as its client came again
abbrev pub FailsIn : (again rests : Bool) → TurnOf → Type 0
FailsIn true rests t = (t.ready ≡ false) × (t.answers ≡ [])
FailsIn false rests t = (t.ready ≡ true) × (rests ≡ false)

-- a line of a turn failed: the sessions before had theirs, those behind did not, and each but this one stands as it stood
pub record TurnFails (places : List Listening) (most moment : ℕ) (past : List TurnOf) (stood : List Seat) (turns : List TurnOf)
    (left : List Seat) (part : List ℕ) : Type 0 where
  pub before : List TurnOf
  pub turn : TurnOf
  pub behind : List Seat
  pub are : turns ≡ before ++ turn ∷ []
  pub in_turn : map (λ (t : TurnOf). t.seat) before ++ turn.seat ∷ behind ≡ stood
  pub each : AreTurns moment before
  pub again : AllByRecursion (IsAgainOf places stood) before
  pub measured : AreMeasured places [] (past ++ before)
  pub begun : AreBegun places [] (past ++ turns)
  pub its_moment : turn.moment ≡ moment
  pub fails_in : FailsIn (must_end places stood turn.seat) (must_rest (debt_of turn.seat.session (past ++ before)) moment) turn
  pub no_end : turn.end ≡ None
  -- a relay whose open line failed did not begin
  pub no_begin : turn.begun ≡ None
  pub all : left ≡ flat_map stays before ++ turn.seat ∷ behind
  pub others : AllByRecursion (λ (s : Seat). IsClient places most (past ++ turns) s []) (flat_map stays before ++ behind)
  pub was : IsClient places most (past ++ before) turn.seat []
  pub fails : IsFailedClient places most (past ++ turns) turn.seat part

abbrev pub BreaksInTurns : List Listening → (most : ℕ) → (past : List TurnOf) → (lobby : Lobby) → (standing : List Seat) → Round
    → (left : List Seat) → (part : List ℕ) → Type 0
BreaksInTurns places most past lobby standing r left part =
    AreArrivals places r.moment 0 lobby standing r.arrivals
    × TurnFails places most r.moment past (standing ++ taken_of r.arrivals) r.turns left part

-- the line of a place failed where a minute was over: the round was whole, the places before have their lines, and those behind have none
pub record BreaksInMinute (places : List Place) (last : Option ℕ) (most : ℕ) (past : List TurnOf) (lobby : Lobby) (standing : List Seat)
    (r : Round) (minute : List (List ℕ)) (left : List Seat) (part : List ℕ) : Type 0 where
  pub is_round : IsRound (listenings places) lobby standing r (lobby_behind lobby r.moment r.arrivals) left
  pub measured : AreMeasured (listenings places) [] (past ++ r.turns)
  pub begun : AreBegun (listenings places) [] (past ++ r.turns)
  pub stand : AllByRecursion (λ (s : Seat). IsClient (listenings places) most (past ++ r.turns) s []) left
  pub before : List (List ℕ)
  pub line : List ℕ
  pub behind : List (List ℕ)
  pub all : minute_lines places last past r ≡ before ++ line ∷ behind
  pub whole : List (List ℕ)
  pub are : minute ≡ before ++ whole
  pub begins : BeginsLine line whole part

-- a round that breaks off, from the sessions that stand to those that are left, with the lines of its minute that the log has
abbrev pub BreaksOff : List Place → (last : Option ℕ) → (most : ℕ) → (past : List TurnOf) → (lobby : Lobby) → (standing : List Seat) → Round
    → (minute : List (List ℕ)) → (left : List Seat) → (part : List ℕ) → Type 0
BreaksOff places last most past lobby standing r minute left part =
    ((minute ≡ []) × BreaksInArrivals (listenings places) most past lobby standing r left part)
    ⊎ (((minute ≡ []) × BreaksInTurns (listenings places) most past lobby standing r left part)
    ⊎ BreaksInMinute places last most past lobby standing r minute left part)

-- ---- the service

-- the line of a place that was opened failed, before the first round
pub record ListenFails (places : List Place) (entries : List LinksEntry) (lines : List (List ℕ)) (part : List ℕ) : Type 0 where
  pub moments : List ℕ
  pub place : Place
  pub is_next : slice_get places (length moments) ≡ Some place
  pub moment : ℕ
  pub told : entries ≡ opened_from 0 (moments ++ moment ∷ [])
  pub whole : List (List ℕ)
  pub logged : lines ≡ listen_lines places moments ++ whole
  pub begins : BeginsLine (line_about place.site.first place.at moment Listen) whole part

-- a line failed in a round: those before it are whole, the sessions that stand as it breaks off are left, and each session's own answers
-- are those of its turns
pub record RoundFails (places : List Place) (most : ℕ) (entries : List LinksEntry) (lines : List (List ℕ)) (part : List ℕ) : Type 0 where
  pub moments : List ℕ
  pub opened : length moments ≡ length places
  pub rounds : List Round
  pub made : length rounds < 2 ^ 64 - 1
  pub lobby : Lobby
  pub standing : List Seat
  pub in_turn : AreRounds (listenings places) first_lobby [] rounds lobby standing
  pub round : Round
  pub left : List Seat
  pub minute : List (List ℕ)
  pub breaks : BreaksOff places (last_from None rounds) most (turns_of rounds) lobby standing round minute left part
  pub told : entries ≡ opened_from 0 moments ++ (flat_map round_entries (rounds ++ round ∷ []) ++ left_of left)
  pub logged : lines ≡ listen_lines places moments ++ (all_lines places None [] rounds ++ (round_lines round ++ minute))
  pub answers : (session : ℕ) → answers_of session entries ≡ answers_in session (turns_of (rounds ++ round ∷ []))
  pub ended : AllByRecursion (λ (t : TurnOf). IfEnded (listenings places) most (turns_of (rounds ++ round ∷ [])) t t.end)
      (turns_of (rounds ++ round ∷ []))

-- what a service did until a line failed: the list of the links, the whole lines of the log, and what stands behind them
abbrev pub IsBroken : List Place → (most : ℕ) → List LinksEntry → (lines : List (List ℕ)) → (part : List ℕ) → Type 0
IsBroken places most entries lines part = ListenFails places entries lines part ⊎ RoundFails places most entries lines part

-- the links told so many entries more, and the log has so many lines more, which are those of a service whose line failed
abbrev pub Breaks : List Place → (most : ℕ) → (told after : Option (List LinksEntry)) → (log log' : Option (List (List ℕ)))
    → (part : List ℕ) → Type 0
Breaks places most told after log log' part =
    (entries : List LinksEntry) × ((lines : List (List ℕ)) × ((after ≡ option_map (λ es. es ++ entries) told)
    × ((log' ≡ with_lines log lines) × IsBroken places most entries lines part)))

-- a log that is gone on with; or one that itself failed, and nothing was asked of the links
abbrev pub BreaksLog : List Place → (most : ℕ) → (told after : Option (List LinksEntry)) → (log log' : Content) → Type 0
BreaksLog places most told after log log' =
    ((after ≡ told) × GoesOn log log' write.Failed)
    ⊎ Breaks places most told after (file_lines (content_gone_on log)) (file_lines log') (file_part log')
