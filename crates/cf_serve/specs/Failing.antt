-- Steps of the proof: what a call leaves whose line of the log failed, whatever came before. The main definitions are `MissesTurn`, of a
-- session, and `MissesStep`, `MissesTurns`, `MissesArrival`, `MissesRound` and `MissesRounds`, of the table.
use Rattle.cf_lane.specs.Caller.{RateMoments}
use Rattle.cf_lane.specs.Log.{with_lines}
use Rattle.cf_links.specs.Links.{LinksEntry, SessionTold, with_answers}
use Rattle.cf_outside.specs.Pair.{Entry}
use Rattle.cf_relay.specs.Answers.{history_of}
use Rattle.cf_view.specs.declared.Endpoint.{Endpoint}
use Rattle.std.specs.List.{AllByRecursion, flat_map}
use Rattle.std.specs.Prelude.{Bool, List, None, Option, Some, [], length, option_map, ℕ, ◌++◌, ◌∷◌, ◌≡◌}
use Rattle.cf_serve.specs.Broken.{BeginsLine, BreaksOff, ComingFails, FailsIn, FailsSo, IsFailedClient, TurnFails}
use Rattle.cf_serve.specs.Debt.{debt_of, must_rest}
use Rattle.cf_serve.specs.Kept.{AreBegun}
use Rattle.cf_serve.specs.Lending.{KeptValue}
use Rattle.cf_serve.specs.Minute.{all_lines, last_from}
use Rattle.cf_serve.specs.Phase.{KnowsOf, LinkedValue, Phase, StandsAs, listenings}
use Rattle.cf_serve.specs.Rounds.{AreRounds, Arrival, Round, Seat, TurnOf, arrival_entries, round_entries, round_lines, turn_entries}
use Rattle.cf_serve.specs.Rounds.{must_end, taken_of, turns_of}
use Rattle.cf_serve.specs.Served.{IfEnded, IsClient}
use Rattle.cf_serve.specs.Session.{EndsSo, Listening}
use Rattle.cf_serve.specs.Table.{Keeps, seats_of}
use Rattle.cf_serve.specs.declared.debt.Debt.{Debt}
use Rattle.cf_serve.specs.declared.door.Lobby.{Lobby}
use Rattle.cf_serve.specs.declared.end.SessionEnd.{SessionEnd}
use Rattle.cf_serve.specs.declared.table.Place.{Place}

-- a turn adds answers and lines with which a session ends, once its last line stands behind them
pub record EndsTurn (at : Listening) (most : ℕ) (client : Endpoint) (told told_after : SessionTold) (log log_after : Option (List (List ℕ)))
    (line : List ℕ) (old new : Option LinkedValue) (end : SessionEnd) : Type 0 where
  pub answers : List Entry
  pub tells : told_after ≡ with_answers told answers
  pub ends : (before : RateMoments) (es : List Entry) (own : List (List ℕ)) → StandsAs at before most es own old →
      (lines : List (List ℕ)) × ((log_after ≡ with_lines log lines)
      × (EndsSo at before most client (es ++ answers) ((own ++ lines) ++ line ∷ []) end × KnowsOf at before (es ++ answers) new))

-- nothing was taken of a session that had not begun
abbrev pub TakesNone : Option LinkedValue → List Entry → Type 0
TakesNone None es = history_of es ≡ []
TakesNone (Some v) es = Unit {0}

-- a line of a turn failed
pub record MissesTurn (at : Listening) (most : ℕ) (client : Endpoint) (told told_after : SessionTold)
    (log log_after : Option (List (List ℕ))) (part : List ℕ) (old : Option LinkedValue) : Type 0 where
  pub answers : List Entry
  pub tells : told_after ≡ with_answers told answers
  pub fails : (before : RateMoments) (es : List Entry) (own : List (List ℕ)) → StandsAs at before most es own old →
      (lines : List (List ℕ)) × ((log_after ≡ with_lines log lines)
      × (FailsSo at before most client (es ++ answers) (own ++ lines) part × TakesNone old (es ++ answers)))

-- a line failed as a controller was asked for, behind the answers of the session before
pub record MissesReach (at : Listening) (most : ℕ) (client : Endpoint) (earlier : List Entry) (told told_after : SessionTold)
    (log log_after : Option (List (List ℕ))) (part : List ℕ) : Type 0 where
  pub answers : List Entry
  pub lines : List (List ℕ)
  pub tells : told_after ≡ with_answers told answers
  pub added : log_after ≡ with_lines log lines
  pub fails : (before : RateMoments) → FailsSo at before most client (earlier ++ answers) lines part
  pub quiet : history_of (earlier ++ answers) ≡ []

-- what a round is to the session whose line failed
pub record MissesSeat (at : Listening) (again : Bool) (before : RateMoments) (most moment : ℕ) (es : List Entry) (own : List (List ℕ))
    (told told_after : Option (List LinksEntry)) (log log_after : Option (List (List ℕ))) (part : List ℕ) (seat : Seat) (debt : Debt)
    (old : Option LinkedValue) : Type 0 where
  pub turn : TurnOf
  pub its : turn.seat ≡ seat
  pub its_moment : turn.moment ≡ moment
  pub fails_in : FailsIn again (must_rest debt moment) turn
  pub no_end : turn.end ≡ None
  pub no_begin : turn.begun ≡ None
  pub tells : told_after ≡ option_map (λ entries. entries ++ turn_entries turn) told
  pub added : log_after ≡ with_lines log turn.lines
  pub fails : FailsSo at before most seat.client (es ++ turn.answers) (own ++ turn.lines) part
  pub takes : TakesNone old (es ++ turn.answers)

-- what it is to the table, where all sessions stay
pub record MissesStep (places : List Listening) (most moment : ℕ) (past : List TurnOf) (index : ℕ) (told told_after : Option (List LinksEntry))
    (log log_after : Option (List (List ℕ))) (part : List ℕ) (old new : List Phase) : Type 0 where
  pub before : List Phase
  pub it : Phase
  pub after : List Phase
  pub was : old ≡ before ++ it ∷ after
  pub at : length before ≡ index
  pub kept : seats_of new ≡ seats_of old
  pub turn : TurnOf
  pub seat : turn.seat ≡ it.seat
  pub its_moment : turn.moment ≡ moment
  pub fails_in : FailsIn (must_end places (seats_of old) it.seat) (must_rest (debt_of it.seat.session past) moment) turn
  pub no_end : turn.end ≡ None
  pub no_begin : turn.begun ≡ None
  pub tells : told_after ≡ option_map (λ entries. entries ++ turn_entries turn) told
  pub added : log_after ≡ with_lines log turn.lines
  pub ended : AllByRecursion (λ (t : TurnOf). IfEnded places most (past ++ turn ∷ []) t t.end) (past ++ turn ∷ [])
  pub begun : AreBegun places [] (past ++ turn ∷ [])
  pub others : AllByRecursion (λ (p : Phase). IsClient places most (past ++ turn ∷ []) p.seat []) (before ++ after)
  pub stood : IsClient places most past it.seat []
  pub fails : IsFailedClient places most (past ++ turn ∷ []) it.seat part

-- the turns of a round, up to the one whose line failed
pub record MissesTurns (places : List Listening) (most moment : ℕ) (past : List TurnOf) (told told_after : Option (List LinksEntry))
    (log log_after : Option (List (List ℕ))) (part : List ℕ) (old new : List Phase) : Type 0 where
  pub turns : List TurnOf
  pub tells : told_after ≡ option_map (λ entries. entries ++ flat_map turn_entries turns) told
  pub added : log_after ≡ with_lines log (flat_map (λ (t : TurnOf). t.lines) turns)
  pub ended : AllByRecursion (λ (t : TurnOf). IfEnded places most (past ++ turns) t t.end) (past ++ turns)
  pub fails : TurnFails places most moment past (seats_of old) turns (seats_of new) part

-- clients that came at the places from one on, up to the one whose line failed
pub record MissesArrival (places : List Listening) (most moment from : ℕ) (lobby lobby_after : Lobby)
    (told told_after : Option (List LinksEntry)) (log log_after : Option (List (List ℕ)))
    (part : List ℕ) (old new : List Phase) : Type 0 where
  pub arrivals : List Arrival
  pub tells : told_after ≡ option_map (λ entries. entries ++ flat_map arrival_entries arrivals) told
  pub added : log_after ≡ with_lines log (flat_map (λ (a : Arrival). a.lines) arrivals)
  pub fails : ComingFails places moment from lobby (seats_of old) arrivals part
  pub seats : seats_of new ≡ seats_of old ++ taken_of arrivals
  pub keeps : (store : List KeptValue) (past : List TurnOf) → Keeps places most store lobby.next past old
      → Keeps places most store lobby_after.next past new

-- a line of several failed: the log has those before it
pub record MissesLine (all : List (List ℕ)) (log log_after : Option (List (List ℕ))) (part : List ℕ) : Type 0 where
  pub before : List (List ℕ)
  pub line : List ℕ
  pub behind : List (List ℕ)
  pub are : all ≡ before ++ line ∷ behind
  pub whole : List (List ℕ)
  pub added : log_after ≡ with_lines log (before ++ whole)
  pub begins : BeginsLine line whole part

-- a round that breaks off
pub record MissesRound (places : List Place) (most : ℕ) (lobby : Lobby) (last : Option ℕ) (past : List TurnOf)
    (told told_after : Option (List LinksEntry)) (log log_after : Option (List (List ℕ)))
    (part : List ℕ) (old new : List Phase) : Type 0 where
  pub round : Round
  pub tells : told_after ≡ option_map (λ entries. entries ++ round_entries round) told
  pub minute : List (List ℕ)
  pub added : log_after ≡ with_lines log (round_lines round ++ minute)
  pub ended : AllByRecursion (λ (t : TurnOf). IfEnded (listenings places) most (past ++ round.turns) t t.end) (past ++ round.turns)
  pub breaks : BreaksOff places last most past lobby (seats_of old) round minute (seats_of new) part

-- rounds, of which the last breaks off
pub record MissesRounds (places : List Place) (most : ℕ) (lobby : Lobby) (last : Option ℕ) (made : ℕ) (past : List TurnOf)
    (told told_after : Option (List LinksEntry)) (log log_after : Option (List (List ℕ)))
    (part : List ℕ) (old new : List Phase) : Type 0 where
  pub rounds : List Round
  pub count : length rounds ≡ made
  pub round : Round
  pub tells : told_after ≡ option_map (λ entries. entries ++ flat_map round_entries (rounds ++ round ∷ [])) told
  pub minute : List (List ℕ)
  pub added : log_after ≡ with_lines log (all_lines places last past rounds ++ (round_lines round ++ minute))
  pub ended : AllByRecursion (λ (t : TurnOf). IfEnded (listenings places) most (past ++ turns_of (rounds ++ round ∷ [])) t t.end)
      (past ++ turns_of (rounds ++ round ∷ []))
  pub mid : Lobby
  pub standing : List Seat
  pub in_turn : AreRounds (listenings places) lobby (seats_of old) rounds mid standing
  pub breaks : BreaksOff places (last_from last rounds) most (past ++ turns_of rounds) mid standing round minute (seats_of new) part
