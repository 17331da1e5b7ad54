-- Clients that are closed as they come, and their lines. The main definitions are `is_named`, `is_due`, `is_due_after` and
-- `closed_lines`. This project's own.
--
-- A stranger is closed as it comes. The first has a line; each later one where a minute has passed since the last line, or a second
-- where that line has another address. A line has how many strangers came since the line before it. So as long as the clock is not
-- set back there is at most one such line a second, and one a minute for an address that comes alone.
--
-- A client for which there is no place is closed too, so that nothing that it sends waits until there is one. The first at a listening
-- place has a line; each later one where a second has passed since the last such line of that place. A line has how many came there since
-- the line before it.
use Rattle.cf_audit.specs.Line.{Away, Stranger, WhatValue}
use Rattle.cf_lane.specs.Log.{line_about}
use Rattle.cf_outside.specs.Faults.{counted}
use Rattle.cf_policy.specs.Verdict.{is_allow, takes}
use Rattle.cf_policy.specs.Site.{SiteValue, assets_of}
use Rattle.cf_policy.specs.declared.policy.Asset.{Asset}
use Rattle.cf_view.specs.declared.Endpoint.{Endpoint}
use Rattle.std.specs.List.{list_any}
use Rattle.std.specs.Prelude.{Bool, List, None, Option, Some, [], get_or, if◌then◌else◌, nat_le, nat_lt, pos, replicate, set, true, ℕ}
use Rattle.std.specs.Prelude.{◌&&◌, ◌+◌, ◌-◌, ◌∷◌, ◌==◌, ◌||◌}
use Rattle.cf_serve.specs.Session.{Listening}
use Rattle.cf_serve.specs.declared.door.Closing.{Closing}
use Rattle.cf_serve.specs.declared.door.Closing.TheVariants as closing
use Rattle.cf_serve.specs.declared.door.Crowd.{Crowd}
use Rattle.cf_serve.specs.declared.door.Door.{Door}
use Rattle.cf_serve.specs.declared.door.LastLine.{LastLine}
use Rattle.cf_serve.specs.declared.door.Lobby.{Lobby}

-- some rule of an asset that allows has the address: it states no clients, or has it among them
abbrev pub is_named_by : Asset → (client : ℕ) → Bool
is_named_by asset client = list_any (λ r. is_allow r.action && takes r.clients (pos client)) asset.rules

-- so has a rule of some asset of the site
abbrev pub is_named : SiteValue → (client : ℕ) → Bool
is_named site client = list_any (λ a. is_named_by a client) (assets_of site)

-- a minute behind the last line, and a second where that has another address; or the clock was set back
abbrev pub is_due_behind : Option LastLine → (moment address : ℕ) → Bool
is_due_behind None moment address = true
is_due_behind (Some last) moment address =
    nat_lt moment last.moment || nat_le (if last.address == address then 60000000 else 1000000) (moment - last.moment)

-- a stranger that comes at a moment from an address has a line
abbrev pub is_due : Door → (moment address : ℕ) → Bool
is_due door moment address = is_due_behind door.last moment address

-- what is kept of the strangers once it has come
abbrev pub door_with : Door → (moment address : ℕ) → Door
door_with door moment address =
    if is_due door moment address then record { last = Some (record { moment = moment; address = address }); since = 0 }
    else record { last = door.last; since = counted door.since }

-- a second behind the last line about a client for which there was no place; or the clock was set back
abbrev pub is_due_after : Option ℕ → (moment : ℕ) → Bool
is_due_after None moment = true
is_due_after (Some last) moment = nat_lt moment last || nat_le 1000000 (moment - last)

-- what is kept of the clients for which a listening place had no place, once one more has come
abbrev pub crowd_with : Crowd → (moment : ℕ) → Crowd
crowd_with crowd moment =
    if is_due_after crowd.last moment then record { last = Some moment; since = 0 } else record { last = crowd.last; since = counted crowd.since }

abbrev pub nobody : Crowd
nobody = record { last = None; since = 0 }

-- what is kept where no client came yet
abbrev pub first_lobby : Lobby
first_lobby = record { next = 0; door = record { last = None; since = 0 }; crowds = replicate 256 nobody }

-- the crowd of a listening place
abbrev pub crowd_at : Lobby → (place : ℕ) → Crowd
crowd_at lobby place = get_or lobby.crowds place nobody

-- a client that is closed has a line
abbrev pub has_line : Closing → Lobby → (place moment address : ℕ) → Bool
has_line closing.Stranger lobby place moment address = is_due lobby.door moment address
has_line closing.Away lobby place moment address = is_due_after (crowd_at lobby place).last moment

-- the number of clients that its line tells
abbrev pub came_by : Closing → Lobby → (place : ℕ) → ℕ
came_by closing.Stranger lobby place = counted lobby.door.since
came_by closing.Away lobby place = counted (crowd_at lobby place).since

-- what its line says
abbrev pub closing_value : Closing → (came : ℕ) → WhatValue
closing_value closing.Stranger came = Stranger came
closing_value closing.Away came = Away came

-- the line about a client that is closed, where it has one
abbrev pub closed_lines : Closing → Listening → Lobby → (place : ℕ) → Endpoint → (moment : ℕ) → List (List ℕ)
closed_lines why at lobby place client moment =
    if has_line why lobby place moment client.address then line_about at.site.first client moment (closing_value why (came_by why lobby place)) ∷ []
    else []

-- what is kept of all clients once one has come that is closed: a number is used up
abbrev pub lobby_closed : Closing → Lobby → (place moment address : ℕ) → Lobby
lobby_closed closing.Stranger lobby place moment address =
    record { next = lobby.next + 1; door = door_with lobby.door moment address; crowds = lobby.crowds }
lobby_closed closing.Away lobby place moment address =
    record { next = lobby.next + 1; door = lobby.door; crowds = set lobby.crowds place (crowd_with (crowd_at lobby place) moment) }
