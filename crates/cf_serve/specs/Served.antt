-- What a service did: its rounds, and each session by itself. The main definition is `IsServed`. This project's own.
use Rattle.cf_audit.specs.Line.{Listen}
use Rattle.cf_lane.specs.Log.{line_about, with_lines}
use Rattle.cf_links.specs.Links.{Left, LinksEntry, Opened, answers_of}
use Rattle.std.specs.List.{AllByRecursion, flat_map}
use Rattle.std.specs.Prelude.{Err, List, None, Ok, Option, Result, Some, [], length, map, option_map, slice_get, ℕ, ◌++◌, ◌+◌, ◌-◌}
use Rattle.std.specs.Prelude.{◌<◌, ◌^◌, ◌∷◌, ◌≡◌, ◌⊎◌}
use Rattle.cf_serve.specs.Debt.{AreMeasured}
use Rattle.cf_serve.specs.Kept.{AreBegun, before_in}
use Rattle.cf_serve.specs.Phase.{listenings}
use Rattle.cf_serve.specs.Door.{first_lobby}
use Rattle.cf_serve.specs.Minute.{all_lines}
use Rattle.cf_serve.specs.Rounds.{AreRounds, Round, Seat, TurnOf, answers_in, ends_in, lines_in, round_entries}
use Rattle.cf_serve.specs.Rounds.{turns_of}
use Rattle.cf_serve.specs.Session.{IsSession, Listening}
use Rattle.cf_serve.specs.declared.door.Lobby.{Lobby}
use Rattle.cf_serve.specs.declared.end.SessionEnd.{SessionEnd}
use Rattle.cf_serve.specs.declared.fault.ServeFault.{ServeFault}
use Rattle.cf_serve.specs.declared.table.Place.{Place}

-- the places that were opened, each at its moment
abbrev pub opened_from : (place : ℕ) → (moments : List ℕ) → List LinksEntry
opened_from place [] = []
opened_from place (moment ∷ moments) = Opened place moment ∷ opened_from (place + 1) moments

-- the lines of listening places
abbrev pub listen_lines : List Place → (moments : List ℕ) → List (List ℕ)
listen_lines [] moments = []
listen_lines (place ∷ places) [] = []
listen_lines (place ∷ places) (moment ∷ moments) = line_about place.site.first place.at moment Listen ∷ listen_lines places moments

-- the sessions that stand at last are left
abbrev pub left_of : List Seat → List LinksEntry
left_of standing = map (λ (s : Seat). Left s.session) standing

-- a client that came is a session by its own answers and its own lines, and by what its earlier sessions had used as it began, alone
abbrev pub IsClient : List Listening → (most : ℕ) → List TurnOf → Seat → List SessionEnd → Type 0
IsClient places most past seat ends =
    (at : Listening) → slice_get places seat.place ≡ Some at
    → IsSession at (before_in seat.session past) most seat.client (answers_in seat.session past) (lines_in seat.session past) ends

-- the last turn of a session that ended, and that end alone
abbrev pub IfEnded : List Listening → (most : ℕ) → List TurnOf → TurnOf → Option SessionEnd → Type 0
IfEnded places most past t None = Unit {0}
IfEnded places most past t (Some end) = (ends_in t.seat.session past ≡ end ∷ []) × IsClient places most past t.seat (end ∷ [])

-- what a service did until it stopped, where no write failed: the list of the links, and the lines of the log
pub record IsServed (places : List Place) (most : ℕ) (entries : List LinksEntry) (lines : List (List ℕ)) : Type 0 where
  pub moments : List ℕ
  pub rounds : List Round
  pub lobby : Lobby
  pub standing : List Seat
  pub told : entries ≡ opened_from 0 moments ++ (flat_map round_entries rounds ++ left_of standing)
  -- behind each round at which a minute is over stands the line of each place
  pub logged : lines ≡ listen_lines places moments ++ all_lines places None [] rounds
  -- no round begins before every place was opened
  pub opened : (length moments ≡ length places) ⊎ (rounds ≡ [])
  pub in_turn : AreRounds (listenings places) first_lobby [] rounds lobby standing
  -- each session's own answers are those of its turns
  pub answers : (session : ℕ) → answers_of session entries ≡ answers_in session (turns_of rounds)
  pub ended : AllByRecursion (λ (t : TurnOf). IfEnded (listenings places) most (turns_of rounds) t t.end) (turns_of rounds)
  -- who has too many refused commands to pay for has no turn
  pub measured : AreMeasured (listenings places) [] (turns_of rounds)
  -- each session begins with what the earlier ones of its client left
  pub begun : AreBegun (listenings places) [] (turns_of rounds)
  pub stand : AllByRecursion (λ (s : Seat). IsClient (listenings places) most (turns_of rounds) s []) standing

-- places were opened, from the first on
pub record OpensDo (places : List Place) (count : ℕ) (told told_after : Option (List LinksEntry))
    (log log_after : Option (List (List ℕ))) : Type 0 where
  pub moments : List ℕ
  pub all : length moments ≡ count
  pub tells : told_after ≡ option_map (λ entries. entries ++ opened_from 0 moments) told
  pub added : log_after ≡ with_lines log (listen_lines places moments)

-- the rounds after which a service answers so: after all that there are numbers for, or before the last of them is whole
abbrev pub HasMade : Result Unit ServeFault → (made : ℕ) → Type 0
HasMade (Ok done) made = made ≡ 2 ^ 64 - 1
HasMade (Err fault) made = made < 2 ^ 64 - 1

-- the links told so many entries more, and the log has so many lines more, which are those of a service, of so many rounds
abbrev pub Serves : List Place → (most : ℕ) → (Made : ℕ → Type 0) → (told after : Option (List LinksEntry))
    → (log log' : Option (List (List ℕ))) → Type 0
Serves places most Made told after log log' =
    (entries : List LinksEntry) × ((lines : List (List ℕ)) × ((after ≡ option_map (λ es. es ++ entries) told)
    × ((log' ≡ with_lines log lines) × ((served : IsServed places most entries lines) × Made (length served.rounds)))))
