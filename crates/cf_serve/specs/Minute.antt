-- The line of a minute, which says that the service lives. The main definitions are `minute_lines` and `all_lines`. This project's own.
--
-- Behind the first round at which a minute or more is over since the last such lines, or since the first round where none were yet, each
-- listening place has one line: how many of its sessions stand then, and how many commands of all its sessions were admitted and refused so
-- far, those of sessions that ended included. So the numbers do not fall, and a line that is lost takes nothing from the next. A place at
-- which no client ever came has its line too. Where the clock was set back the lines come at once.
use Rattle.cf_audit.specs.Line.{Stands}
use Rattle.cf_lane.specs.Log.{line_about}
use Rattle.std.specs.List.{flat_map, sum_by}
use Rattle.std.specs.Prelude.{Bool, List, None, Option, Some, [], false, get_or, if◌then◌else◌, length, min, nat_le, nat_lt, replicate, ℕ, ◌++◌, ◌+◌}
use Rattle.std.specs.Prelude.{◌-◌, ◌<◌, ◌==◌, ◌^◌, ◌||◌, ◌∷◌, ◌≡◌}
use Rattle.cf_serve.specs.Rounds.{Round, Seat, TurnOf, count_of, round_lines, stays}
use Rattle.cf_serve.specs.declared.minute.Minutes.{Minutes}
use Rattle.cf_serve.specs.declared.minute.Tally.{Tally}
use Rattle.cf_serve.specs.declared.table.Place.{Place}

-- a minute is over at a moment, since the last lines or the first round; or the clock was set back
abbrev pub is_over : (last : Option ℕ) → (moment : ℕ) → Bool
is_over None moment = false
is_over (Some last) moment = nat_lt moment last || nat_le 60000000 (moment - last)

-- from when the next minute counts, behind a round at a moment
abbrev pub last_behind : (last : Option ℕ) → (moment : ℕ) → Option ℕ
last_behind None moment = Some moment
last_behind (Some last) moment = Some (if is_over (Some last) moment then moment else last)

-- and behind rounds
abbrev pub last_from : (last : Option ℕ) → List Round → Option ℕ
last_from last [] = last
last_from last (r ∷ rs) = last_from (last_behind last r.moment) rs

-- a number of commands as it is told: the greatest that there is a number for stands for all greater ones
abbrev pub told_count : (count : ℕ) → ℕ
told_count count = min count (2 ^ 64 - 1)

-- the commands of all sessions of a listening place that were admitted in some turns, and those that were refused
abbrev pub admitted_by : (place : ℕ) → List TurnOf → ℕ
admitted_by place turns = sum_by (λ (t : TurnOf). if t.seat.place == place then t.admitted else 0) turns

abbrev pub refused_by : (place : ℕ) → List TurnOf → ℕ
refused_by place turns = sum_by (λ (t : TurnOf). if t.seat.place == place then t.refused else 0) turns

-- both as they are told
abbrev pub commands_of : List TurnOf → (place : ℕ) → Tally
commands_of turns place = record { admitted = told_count (admitted_by place turns); refused = told_count (refused_by place turns) }

-- the line of a listening place
abbrev pub stands_line : Place → (standing : ℕ) → Tally → (moment : ℕ) → List ℕ
stands_line place standing tally moment = line_about place.site.first place.at moment (Stands standing tally.admitted tally.refused)

-- the lines of listening places from a number on, where these sessions stand and these are their commands
abbrev pub stands_lines : List Place → (number : ℕ) → List Seat → (commands : ℕ → Tally) → (moment : ℕ) → List (List ℕ)
stands_lines [] number standing commands moment = []
stands_lines (place ∷ places) number standing commands moment =
    stands_line place (count_of number standing) (commands number) moment ∷ stands_lines places (number + 1) standing commands moment

-- the lines where a minute is over, and else none
abbrev pub lines_at : List Place → (last : Option ℕ) → List Seat → (commands : ℕ → Tally) → (moment : ℕ) → List (List ℕ)
lines_at places last standing commands moment = if is_over last moment then stands_lines places 0 standing commands moment else []

-- the lines of a minute behind a round, and behind the turns that were before it
abbrev pub minute_lines : List Place → (last : Option ℕ) → (past : List TurnOf) → Round → List (List ℕ)
minute_lines places last past r = lines_at places last (flat_map stays r.turns) (commands_of (past ++ r.turns)) r.moment

-- the lines of rounds, and those of a minute behind each at which one is over
abbrev pub all_lines : List Place → (last : Option ℕ) → (past : List TurnOf) → List Round → List (List ℕ)
all_lines places last past [] = []
all_lines places last past (r ∷ rs) =
    (round_lines r ++ minute_lines places last past r) ++ all_lines places (last_behind last r.moment) (past ++ r.turns) rs

-- what is kept where no round was yet
abbrev pub no_tally : Tally
no_tally = record { admitted = 0; refused = 0 }

abbrev pub no_minutes : Minutes
no_minutes = record { last = None; tallies = replicate 256 no_tally }

-- what is kept of the commands of a listening place, and with those of one turn more
abbrev pub tally_at : List Tally → (place : ℕ) → Tally
tally_at tallies place = get_or tallies place no_tally

abbrev pub tally_with : (tally before after : Tally) → Tally
tally_with tally before after = record {
  admitted = told_count (tally.admitted + (after.admitted - before.admitted));
  refused = told_count (tally.refused + (after.refused - before.refused));
}

-- what is kept of the commands are those of these turns
pub record IsTallied (tallies : List Tally) (turns : List TurnOf) : Type 0 where
  pub all : length tallies ≡ 256
  pub each : (place : ℕ) → place < 256 → tally_at tallies place ≡ commands_of turns place
