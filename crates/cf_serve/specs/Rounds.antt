-- The rounds of a service: what the links answered and what the log got, in the order of the loop. The main definitions are `Round`,
-- `round_entries`, `round_lines` and `AreRounds`. This project's own.
--
-- In a round at most one client comes at each listening place: it is taken, or closed where no rule of an asset of its site names it or
-- there is no place for it. Then each session that stands has one place, in the order in which the sessions came: a turn where the links
-- say that something can move for it, and else nothing. A session of a client that came again at a site with rates is ended there and
-- not asked.
use Rattle.cf_lane.specs.Caller.{RateMoments}
use Rattle.cf_links.specs.Links.{Came, Left, LinksEntry, Of, Ready, Woke}
use Rattle.cf_outside.specs.Pair.{Entry}
use Rattle.cf_policy.specs.Site.{SiteValue, assets_of}
use Rattle.cf_policy.specs.declared.Asset.{Asset}
use Rattle.cf_view.specs.declared.Endpoint.{Endpoint}
use Rattle.std.specs.List.{AllByRecursion, flat_map, list_any, sum_by}
use Rattle.std.specs.Prelude.{Bool, List, None, Option, Some, [], false, if◌then◌else◌, is_some, length, map, nat_lt, option_to_list}
use Rattle.std.specs.Prelude.{slice_get, true, ℕ, ◌&&◌, ◌++◌, ◌+◌}
use Rattle.std.specs.Prelude.{◌∷◌, ◌≡◌, ◌≤◌, ◌==◌, ◌⊎◌}
use Rattle.cf_serve.specs.Door.{closed_lines, is_named, lobby_closed}
use Rattle.cf_serve.specs.Session.{Listening}
use Rattle.cf_serve.specs.declared.door.Closing.{Closing}
use Rattle.cf_serve.specs.declared.door.Closing.TheVariants as closing
use Rattle.cf_serve.specs.declared.door.Lobby.{Lobby}
use Rattle.cf_serve.specs.declared.end.SessionEnd.{SessionEnd}
use Rattle.cf_serve.specs.declared.end.SessionEnd.TheVariants as end

-- a session's number, that of the listening place to which its client came, and the endpoint from which it came
pub record Seat : Type 0 where
  pub session : ℕ
  pub place : ℕ
  pub client : Endpoint

-- a client that came, and why it was closed as it came; else it was taken
pub record Arrival : Type 0 where
  pub seat : Seat
  pub closed : Option Closing
  pub lines : List (List ℕ)

-- what a round was to one session: the moment of the round, its answers, the lines that it got, how many of its commands were admitted and
-- how many refused, and its end where this was its last. Where its relay began, what it began with: what the client's earlier sessions had
-- used of the rules that have a rate; and where it ended, what all of them used, this one among them
pub record TurnOf : Type 0 where
  pub seat : Seat
  pub moment : ℕ
  pub ready : Bool
  pub answers : List Entry
  pub lines : List (List ℕ)
  pub admitted : ℕ
  pub refused : ℕ
  pub end : Option SessionEnd
  pub begun : Option RateMoments
  pub left : RateMoments

-- a round, and the moment at which it began
pub record Round : Type 0 where
  pub moment : ℕ
  pub arrivals : List Arrival
  pub turns : List TurnOf

abbrev pub left_by : {A : Type 0} → ℕ → Option A → List LinksEntry
left_by session None = []
left_by session (Some end) = Left session ∷ []

abbrev pub turn_entries : TurnOf → List LinksEntry
turn_entries t =
    if t.ready then Ready t.seat.session ∷ (map (Of t.seat.session) t.answers ++ left_by t.seat.session t.end)
    else left_by t.seat.session t.end

abbrev pub arrival_entries : Arrival → List LinksEntry
arrival_entries a = Came a.seat.session a.seat.place a.seat.client ∷ left_by a.seat.session a.closed

-- the clients that were taken
abbrev pub taken_by : Arrival → List Seat
taken_by a = elim a.closed [ None ↦ a.seat ∷ [] | Some why ↦ [] ]

abbrev pub taken_of : List Arrival → List Seat
taken_of arrivals = flat_map taken_by arrivals

-- the answers of a round, in the order of the loop
abbrev pub round_entries : Round → List LinksEntry
round_entries r = Woke r.moment ∷ (flat_map arrival_entries r.arrivals ++ flat_map turn_entries r.turns)

-- the lines of a round
abbrev pub round_lines : Round → List (List ℕ)
round_lines r = flat_map (λ (a : Arrival). a.lines) r.arrivals ++ flat_map (λ (t : TurnOf). t.lines) r.turns

-- the turns of some rounds, in their order
abbrev pub turns_of : List Round → List TurnOf
turns_of rounds = flat_map (λ (r : Round). r.turns) rounds

-- what one session has of some turns
abbrev pub part : {A : Type 0} → (TurnOf → List A) → (session : ℕ) → List TurnOf → List A
part of session past = flat_map (λ (t : TurnOf). if t.seat.session == session then of t else []) past

-- the answers of a session, its lines, and its ends, of which there is one at most
abbrev pub answers_in : (session : ℕ) → List TurnOf → List Entry
answers_in session past = part (λ (t : TurnOf). t.answers) session past

abbrev pub lines_in : (session : ℕ) → List TurnOf → List (List ℕ)
lines_in session past = part (λ (t : TurnOf). t.lines) session past

abbrev pub ends_in : (session : ℕ) → List TurnOf → List SessionEnd
ends_in session past = part (λ (t : TurnOf). option_to_list t.end) session past

-- a turn is of the moment of its round; a session that is not ready has no answer, and does not begin; and it has no line and no end, but
-- where its client came again
abbrev pub IsTurn : (moment : ℕ) → TurnOf → Type 0
IsTurn moment t =
    (t.moment ≡ moment)
    × (t.ready ≡ false → (t.answers ≡ []) × ((t.begun ≡ None) × ((t.end ≡ Some end.Again) ⊎ ((t.lines ≡ []) × (t.end ≡ None)))))

abbrev pub AreTurns : (moment : ℕ) → List TurnOf → Type 0
AreTurns moment [] = Unit {0}
AreTurns moment (t ∷ ts) = IsTurn moment t × AreTurns moment ts

-- 1 for a session of the listening place, and 0 for another
abbrev pub is_of : (place : ℕ) → Seat → ℕ
is_of place seat = if seat.place == place then 1 else 0

abbrev pub count_of : (place : ℕ) → List Seat → ℕ
count_of place standing = sum_by (is_of place) standing

-- whether there is a place for one more client: fewer than 256 sessions stand, and fewer than 32 of that listening place
abbrev pub has_place : List Seat → (place : ℕ) → Bool
has_place standing place = nat_lt (length standing) 256 && nat_lt (count_of place standing) 32

-- why a client is closed as it comes to a listening place, if it is: no rule of an asset of the site names it, or there is no place for it
abbrev pub closing_of : SiteValue → (standing : List Seat) → (place address : ℕ) → Option Closing
closing_of site standing place address =
    if is_named site address then if has_place standing place then None else Some closing.Away else Some closing.Stranger

-- the line of a client that came at a listening place, if it has one
abbrev pub arrival_lines : Listening → Lobby → (moment : ℕ) → Arrival → List (List ℕ)
arrival_lines at lobby moment a =
    elim a.closed [ None ↦ [] | Some why ↦ closed_lines why at lobby a.seat.place a.seat.client moment ]

-- what is kept of all clients behind one more, and behind more of them
abbrev pub lobby_with : Lobby → (moment : ℕ) → Arrival → Lobby
lobby_with lobby moment a = elim a.closed [
  | None ↦ record lobby { next = lobby.next + 1 }
  | Some why ↦ lobby_closed why lobby a.seat.place moment a.seat.client.address
]

abbrev pub lobby_behind : Lobby → (moment : ℕ) → List Arrival → Lobby
lobby_behind lobby moment [] = lobby
lobby_behind lobby moment (a ∷ more) = lobby_behind (lobby_with lobby moment a) moment more

-- a client came at a listening place, one from a number on: it has the next number; whether it is closed is what the rules of the site's
-- assets and the sessions that stand say; and it has its line where it is closed and a line is due
pub record IsArrival (places : List Listening) (moment from : ℕ) (lobby : Lobby) (standing : List Seat) (a : Arrival) : Type 0 where
  pub later : from ≤ a.seat.place
  pub at : Listening
  pub listens : slice_get places a.seat.place ≡ Some at
  pub number : a.seat.session ≡ lobby.next
  pub why : a.closed ≡ closing_of at.site standing a.seat.place a.seat.client.address
  pub own_lines : a.lines ≡ arrival_lines at lobby moment a

-- arrivals from a listening place on, each at its own
abbrev pub AreArrivals : List Listening → (moment : ℕ) → (from : ℕ) → (lobby : Lobby) → (standing : List Seat) → List Arrival → Type 0
AreArrivals places moment from lobby standing [] = Unit {0}
AreArrivals places moment from lobby standing (a ∷ more) =
    IsArrival places moment from lobby standing a
    × AreArrivals places moment (a.seat.place + 1) (lobby_with lobby moment a) (standing ++ taken_by a) more

-- a session is of the client of this listening place and address, or of the client of another session
abbrev pub is_client : (place address : ℕ) → Seat → Bool
is_client place address seat = seat.place == place && seat.client.address == address

abbrev pub is_same_client : Seat → Seat → Bool
is_same_client seat other = is_client other.place other.client.address seat

-- some rule of an asset has a rate
abbrev pub has_own_rates : Asset → Bool
has_own_rates asset = list_any (λ r. is_some r.rate) asset.rules

-- so has some rule of an asset of the site
abbrev pub has_rates : SiteValue → Bool
has_rates site = list_any has_own_rates (assets_of site)

-- another session of the same client came later, and so did one among these
abbrev pub is_later : Seat → (other : Seat) → Bool
is_later seat other = is_same_client other seat && nat_lt seat.session other.session

abbrev pub has_later : List Seat → Seat → Bool
has_later standing seat = list_any (is_later seat) standing

-- the client of a session came again, at a site that has rates: they are one client's, over all its sessions, one after the other
abbrev pub must_end : List Listening → (standing : List Seat) → Seat → Bool
must_end places standing seat =
    elim (slice_get places seat.place) [ None ↦ false | Some at ↦ has_rates at.site && has_later standing seat ]

-- such a session is not asked, and ends; no other ends so
abbrev pub IsAgain : (again : Bool) → TurnOf → Type 0
IsAgain true t = (t.ready ≡ false) × (t.end ≡ Some end.Again)
IsAgain false t = t.end ≡ Some end.Again → ⊥

-- of a turn of a round in which these sessions stand
abbrev pub IsAgainOf : List Listening → (standing : List Seat) → TurnOf → Type 0
IsAgainOf places standing t = IsAgain (must_end places standing t.seat) t

-- the sessions that stand behind a round
abbrev pub stays : TurnOf → List Seat
stays t = elim t.end [ None ↦ t.seat ∷ [] | Some end ↦ [] ]

-- each session that stands, and each that was taken, has one place in the round
pub record IsRound (places : List Listening) (lobby : Lobby) (standing : List Seat) (r : Round) (lobby_after : Lobby)
    (standing_after : List Seat) : Type 0 where
  pub arrive : AreArrivals places r.moment 0 lobby standing r.arrivals
  pub in_turn : map (λ (t : TurnOf). t.seat) r.turns ≡ standing ++ taken_of r.arrivals
  pub each : AreTurns r.moment r.turns
  pub again : AllByRecursion (IsAgainOf places (standing ++ taken_of r.arrivals)) r.turns
  pub counts : lobby_after ≡ lobby_behind lobby r.moment r.arrivals
  pub stay : standing_after ≡ flat_map stays r.turns

-- one after the other, from what is kept of the clients and the sessions that stand to those behind the last
abbrev pub AreRounds : List Listening → (lobby : Lobby) → (standing : List Seat) → List Round → (lobby_after : Lobby)
    → (standing_after : List Seat) → Type 0
AreRounds places lobby standing [] lobby_after standing_after = (lobby_after ≡ lobby) × (standing_after ≡ standing)
AreRounds places lobby standing (r ∷ rs) lobby_after standing_after =
    (n : Lobby) × ((s : List Seat) × (IsRound places lobby standing r n s × AreRounds places n s rs lobby_after standing_after))
