-- Steps of the proof: the sessions that stand, as a list, and what they stand for: `IsTable` and `Keeps`.
use Rattle.cf_links.specs.Links.{LinksEntry}
use Rattle.cf_lane.specs.Log.{with_lines}
use Rattle.cf_view.specs.declared.Endpoint.{Endpoint}
use Rattle.std.specs.List.{AllByRecursion, flat_map}
use Rattle.std.specs.Prelude.{Bool, Err, Ok, Result, List, None, Option, Some, [], false, if◌then◌else◌, length, map, option_map}
use Rattle.std.specs.Prelude.{slice_get, true, ℕ, ◌++◌, ◌+◌, ◌<◌}
use Rattle.std.specs.Prelude.{◌∷◌, ◌≡◌, ◌≤◌, ◌==◌}
use Rattle.cf_lane.specs.Caller.{RateMoments}
use Rattle.cf_serve.specs.Debt.{AreMeasured, debt_of}
use Rattle.cf_serve.specs.Kept.{AreBegun, before_in, begins_in}
use Rattle.cf_serve.specs.Lending.{Fits, IsStored, KeptValue}
use Rattle.cf_serve.specs.Minute.{IsTallied, all_lines, last_behind, last_from, minute_lines}
use Rattle.cf_serve.specs.Phase.{HasLent, LinkedValue, MayTurn, Phase, StandsAs, debt_at, listenings}
use Rattle.cf_serve.specs.Rounds.{AreArrivals, AreRounds, AreTurns, Arrival, IsAgainOf, IsRound, IsTurn, Round, Seat, TurnOf, answers_in}
use Rattle.cf_serve.specs.Rounds.{arrival_entries, ends_in, lines_in, lobby_behind, must_end, round_entries, round_lines, stays, taken_of}
use Rattle.cf_serve.specs.Rounds.{turn_entries, turns_of}
use Rattle.cf_serve.specs.Session.{EndsSo, Listening}
use Rattle.cf_serve.specs.declared.door.Lobby.{Lobby}
use Rattle.cf_serve.specs.declared.end.SessionEnd.{SessionEnd}
use Rattle.cf_serve.specs.declared.fault.ServeFault.{ServeFault}
use Rattle.cf_serve.specs.declared.fault.ServeFault.TheVariants as fault
use Rattle.cf_serve.specs.declared.minute.Minutes.{Minutes}
use Rattle.cf_serve.specs.declared.minute.Tally.{Tally}
use Rattle.cf_serve.specs.declared.table.Place.{Place}

-- numbers count up, from one on and below another
abbrev pub IsBetween : (low high : ℕ) → List Phase → Type 0
IsBetween low high [] = low ≤ high
IsBetween low high (p ∷ ps) = (low ≤ p.seat.session) × IsBetween (p.seat.session + 1) high ps

-- what lets a session be given a turn
pub record MayGo (places : List Listening) (most : ℕ) (store : List KeptValue) (serves : ℕ → Bool) (p : Phase) : Type 0 where
  pub placed : p.seat.place < length places
  pub may : (at : Listening) → slice_get places p.seat.place ≡ Some at → MayTurn at most p.linked
  pub served : serves p.seat.session ≡ true
  pub lent : (at : Listening) → slice_get places p.seat.place ≡ Some at → HasLent at.site store p.seat p.linked

-- the sessions that stand, in the order of their numbers; the links have them, and none of a number from `next` on. What is kept of clients
-- fits their sites
pub record IsTable (places : List Listening) (most : ℕ) (store : List KeptValue) (serves : ℕ → Bool) (next : ℕ) (ps : List Phase) : Type 0
  where
    pub ordered : IsBetween 0 next ps
    pub each : AllByRecursion (MayGo places most store serves) ps
    pub free : (session : ℕ) → next ≤ session → serves session ≡ false
    pub fits : Fits places store

-- the seats of the sessions that stand
abbrev pub seats_of : List Phase → List Seat
seats_of ps = map (λ (p : Phase). p.seat) ps

-- of no session that stands the client came again
abbrev pub AreCalm : List Listening → (standing : List Seat) → Type 0
AreCalm places standing = AllByRecursion (λ (s : Seat). must_end places standing s ≡ false) standing

-- a session in its place had its turn: it stays there, and its client did not come again, or it is there no longer
pub record SeatsStep (places : List Listening) (index : ℕ) (old new : List Seat) (stays_on : Bool) : Type 0 where
  pub before : List Seat
  pub it : Seat
  pub after : List Seat
  pub was : old ≡ before ++ it ∷ after
  pub at : length before ≡ index
  pub is : new ≡ before ++ ((if stays_on then it ∷ [] else []) ++ after)
  pub calm : stays_on ≡ true → must_end places old it ≡ false

-- a relay has begun once, and any other session not at all
abbrev pub BegunAs : Option LinkedValue → List RateMoments → Type 0
BegunAs None begun = begun ≡ []
BegunAs (Some v) begun = (b : RateMoments) × (begun ≡ b ∷ [])

-- what lets them be left: the links have each
pub record MayLeave (serves : ℕ → Bool) (next : ℕ) (ps : List Phase) : Type 0 where
  pub ordered : IsBetween 0 next ps
  pub served : AllByRecursion (λ (p : Phase). serves p.seat.session ≡ true) ps

-- a session that stands is kept by what it had of the turns so far
pub record IsHeld (places : List Listening) (most : ℕ) (past : List TurnOf) (p : Phase) : Type 0 where
  pub no_end : ends_in p.seat.session past ≡ []
  pub debt : debt_at p.linked ≡ debt_of p.seat.session past
  pub begun : BegunAs p.linked (begins_in p.seat.session past)
  pub stands : (at : Listening) → slice_get places p.seat.place ≡ Some at
      → StandsAs at (before_in p.seat.session past) most (answers_in p.seat.session past) (lines_in p.seat.session past) p.linked

-- a session that ended has had this end, and stands no longer
pub record IsOver (places : List Listening) (most : ℕ) (past : List TurnOf) (ps : List Phase) (t : TurnOf) (end : SessionEnd) : Type 0 where
  pub gone : AllByRecursion (λ (p : Phase). (p.seat.session == t.seat.session) ≡ false) ps
  pub one_end : ends_in t.seat.session past ≡ end ∷ []
  pub ends : (at : Listening) → slice_get places t.seat.place ≡ Some at
      → EndsSo at (before_in t.seat.session past) most t.seat.client (answers_in t.seat.session past) (lines_in t.seat.session past) end

abbrev pub IfOver : List Listening → (most : ℕ) → List TurnOf → List Phase → TurnOf → Option SessionEnd → Type 0
IfOver places most past ps t None = Unit {0}
IfOver places most past ps t (Some end) = IsOver places most past ps t end

-- the turns so far are those of these sessions, and of sessions that ended, all with numbers below `next`; and what is kept of clients is
-- what they left
pub record Keeps (places : List Listening) (most : ℕ) (store : List KeptValue) (next : ℕ) (past : List TurnOf) (ps : List Phase) : Type 0 where
  pub early : AllByRecursion (λ (t : TurnOf). t.seat.session < next) past
  pub measured : AreMeasured places [] past
  pub begun : AreBegun places [] past
  pub stored : IsStored places store past
  pub held : AllByRecursion (IsHeld places most past) ps
  pub over : AllByRecursion (λ (t : TurnOf). IfOver places most past ps t t.end) past

-- a session in its place had its turn: it stays there, or it is there no longer
pub record StepDoes (places : List Listening) (most : ℕ) (store : List KeptValue) (next moment : ℕ) (past : List TurnOf) (index : ℕ)
    (told told_after : Option (List LinksEntry)) (log log_after : Option (List (List ℕ))) (tallies tallies_after : List Tally)
    (old new : List Phase) (stays_on : Bool) : Type 0 where
  pub before : List Phase
  pub it : Phase
  pub after : List Phase
  pub left : List Phase
  pub was : old ≡ before ++ it ∷ after
  pub at : length before ≡ index
  pub is : new ≡ before ++ (left ++ after)
  pub turn : TurnOf
  pub seat : turn.seat ≡ it.seat
  pub is_turn : IsTurn moment turn
  pub again : IsAgainOf places (seats_of old) turn
  pub tells : told_after ≡ option_map (λ entries. entries ++ turn_entries turn) told
  pub added : log_after ≡ with_lines log turn.lines
  pub stay : map (λ (p : Phase). p.seat) left ≡ stays turn
  pub count : length left ≡ (if stays_on then 1 else 0)
  pub keeps : Keeps places most store next (past ++ turn ∷ []) new
  pub tallied : IsTallied tallies past → IsTallied tallies_after (past ++ turn ∷ [])

-- each session that stands had its turn, in their order
pub record TurnsDo (places : List Listening) (most : ℕ) (store : List KeptValue) (next moment : ℕ) (past : List TurnOf) (told told_after : Option (List LinksEntry))
    (log log_after : Option (List (List ℕ))) (tallies tallies_after : List Tally) (old new : List Phase) : Type 0 where
  pub turns : List TurnOf
  pub tells : told_after ≡ option_map (λ entries. entries ++ flat_map turn_entries turns) told
  pub added : log_after ≡ with_lines log (flat_map (λ (t : TurnOf). t.lines) turns)
  pub in_turn : map (λ (t : TurnOf). t.seat) turns ≡ map (λ (p : Phase). p.seat) old
  pub each : AreTurns moment turns
  pub again : AllByRecursion (IsAgainOf places (seats_of old)) turns
  pub stay : map (λ (p : Phase). p.seat) new ≡ flat_map stays turns
  pub keeps : Keeps places most store next (past ++ turns) new
  pub tallied : IsTallied tallies past → IsTallied tallies_after (past ++ turns)

-- the first of them had theirs, the rest not yet
pub record TurnsBegin (places : List Listening) (most : ℕ) (store : List KeptValue) (next moment : ℕ) (past : List TurnOf) (index : ℕ)
    (told told_after : Option (List LinksEntry))
    (log log_after : Option (List (List ℕ))) (tallies tallies_after : List Tally) (old new : List Phase) : Type 0 where
  pub done : List Phase
  pub rest : List Phase
  pub was : new ≡ done ++ rest
  pub at : length done ≡ index
  pub turns : List TurnOf
  pub tells : told_after ≡ option_map (λ entries. entries ++ flat_map turn_entries turns) told
  pub added : log_after ≡ with_lines log (flat_map (λ (t : TurnOf). t.lines) turns)
  pub in_turn : map (λ (t : TurnOf). t.seat) turns ++ map (λ (p : Phase). p.seat) rest ≡ map (λ (p : Phase). p.seat) old
  pub each : AreTurns moment turns
  pub again : AllByRecursion (IsAgainOf places (seats_of old)) turns
  pub stay : map (λ (p : Phase). p.seat) done ≡ flat_map stays turns
  pub keeps : Keeps places most store next (past ++ turns) new
  pub tallied : IsTallied tallies past → IsTallied tallies_after (past ++ turns)

-- a session whose controller is not reached yet
abbrev pub new_phase : (session place : ℕ) → Endpoint → Phase
new_phase session place client = record { seat = record { session = session; place = place; client = client }; linked = None }

-- clients that came at the places from one on and below another; each that was taken is in the table from here on
pub record Arrive (places : List Listening) (most moment from upto : ℕ) (lobby lobby_after : Lobby)
    (told told_after : Option (List LinksEntry)) (log log_after : Option (List (List ℕ))) (old new : List Phase) : Type 0 where
  pub arrivals : List Arrival
  pub tells : told_after ≡ option_map (λ entries. entries ++ flat_map arrival_entries arrivals) told
  pub added : log_after ≡ with_lines log (flat_map (λ (a : Arrival). a.lines) arrivals)
  pub come : AreArrivals places moment from lobby (seats_of old) arrivals
  pub below : AllByRecursion (λ (a : Arrival). a.seat.place < upto) arrivals
  pub seats : seats_of new ≡ seats_of old ++ taken_of arrivals
  pub counts : lobby_after ≡ lobby_behind lobby moment arrivals
  pub keeps : (store : List KeptValue) (past : List TurnOf) → Keeps places most store lobby.next past old
      → Keeps places most store lobby_after.next past new

-- what is kept for the lines of a minute: from when the next minute counts, and the commands of these turns
pub record IsMinuteOf (minutes : Minutes) (last : Option ℕ) (past : List TurnOf) : Type 0 where
  pub last_is : minutes.last ≡ last
  pub tallied : IsTallied minutes.tallies past

-- a whole round, whatever came before
pub record RoundDoes (places : List Place) (most : ℕ) (store : List KeptValue) (lobby lobby_after : Lobby) (minutes_after : Minutes) (last : Option ℕ)
    (past : List TurnOf) (told told_after : Option (List LinksEntry)) (log log_after : Option (List (List ℕ)))
    (old new : List Phase) : Type 0 where
  pub round : Round
  pub tells : told_after ≡ option_map (λ entries. entries ++ round_entries round) told
  pub added : log_after ≡ with_lines log (round_lines round ++ minute_lines places last past round)
  pub is_round : IsRound (listenings places) lobby (seats_of old) round lobby_after (seats_of new)
  pub keeps : Keeps (listenings places) most store lobby_after.next (past ++ round.turns) new
  pub minutes : IsMinuteOf minutes_after (last_behind last round.moment) (past ++ round.turns)

-- round after round, so many of them
pub record RoundsDo (places : List Place) (most : ℕ) (store : List KeptValue) (lobby lobby_after : Lobby) (minutes_after : Minutes) (last : Option ℕ) (made : ℕ)
    (past : List TurnOf) (told told_after : Option (List LinksEntry)) (log log_after : Option (List (List ℕ)))
    (old new : List Phase) : Type 0 where
  pub rounds : List Round
  pub count : length rounds ≡ made
  pub tells : told_after ≡ option_map (λ entries. entries ++ flat_map round_entries rounds) told
  pub added : log_after ≡ with_lines log (all_lines places last past rounds)
  pub in_turn : AreRounds (listenings places) lobby (seats_of old) rounds lobby_after (seats_of new)
  pub keeps : Keeps (listenings places) most store lobby_after.next (past ++ turns_of rounds) new
  pub minutes : IsMinuteOf minutes_after (last_from last rounds) (past ++ turns_of rounds)

-- the service goes on, or its wait failed: all rounds were whole
abbrev pub IfWhole : Result Unit ServeFault → Type 0 → Type 0
IfWhole (Ok done) all = all
IfWhole (Err fault.Loop) all = all
IfWhole (Err fault.Write) all = Unit {0}
IfWhole (Err fault.NoMemory) all = Unit {0}
