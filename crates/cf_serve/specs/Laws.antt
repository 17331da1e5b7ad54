-- Laws of a service. The main definitions are `EachIsAlone`, `IsolatesSessions`, `StrangersAreRefused`, `FloodsAreBounded` and
-- `RatesLastOverSessions`. This project's own.
use Rattle.cf_lane.specs.Caller.{RateMoments}
use Rattle.cf_links.specs.Links.{LinksEntry, answers_of}
use Rattle.cf_outside.specs.Pair.{Entry}
use Rattle.cf_relay.specs.Answers.{given}
use Rattle.cf_view.specs.declared.Endpoint.{Endpoint}
use Rattle.cf_view.specs.declared.Side.{Side}
use Rattle.std.specs.List.{AllByRecursion}
use Rattle.std.specs.Prelude.{Bool, List, [], ◌∷◌, false, true, ℕ, ◌*◌, ◌++◌, ◌+◌, ◌<◌, ◌≡◌, ◌≤◌}
use Rattle.cf_policy.specs.Laws.{IsAllowed}
use Rattle.cf_policy.specs.Verdict.{verdict_of}
use Rattle.cf_policy.specs.Site.{SiteValue, asset_of}
use Rattle.cf_view.specs.declared.base.Act.{Act}
use Rattle.cf_serve.specs.Door.{is_named}
use Rattle.cf_serve.specs.Debt.{refused_in, second_of}
use Rattle.cf_serve.specs.Rounds.{TurnOf, ends_in, lines_in, turns_of}
use Rattle.cf_serve.specs.Served.{IsServed}
use Rattle.cf_serve.specs.Session.{IsSession, Listening}
use Rattle.cf_lane.specs.Caller.{none_before}
use Rattle.cf_lane.specs.Judged.{Judged}
use Rattle.cf_lane.specs.SiteRates.{KeepsRates}
use Rattle.cf_policy.specs.Verdict.{is_empty}
use Rattle.cf_relay.specs.Turn.{AreItemsOf}
use Rattle.std.specs.List.{flat_map}
use Rattle.std.specs.Prelude.{Some, if◌then◌else◌, is_some, slice_get, ◌&&◌, ◌==◌}
use Rattle.cf_serve.specs.Kept.{before_in, begins_in}
use Rattle.cf_serve.specs.Phase.{listenings}
use Rattle.cf_serve.specs.Rounds.{answers_in, is_client}
use Rattle.cf_serve.specs.declared.table.Place.{Place}
use Rattle.cf_serve.specs.declared.end.SessionEnd.{SessionEnd}
use Rattle.cf_serve.specs.declared.end.SessionEnd.TheVariants as end

-- the session was a relay to its end: its controller was reached, memory was not wanting, and its client did not come again
abbrev pub was_relayed : SessionEnd → Bool
was_relayed end.Closed = true
was_relayed (end.Cut reason) = true
was_relayed end.Silent = true
was_relayed end.Lost = true
was_relayed end.Unreached = false
was_relayed end.Gone = false
was_relayed end.Again = false
was_relayed end.NoMemory = false

-- sessions that stand, or ended and were a relay
abbrev pub AreRelayed : List SessionEnd → Type 0
AreRelayed [] = Unit {0}
AreRelayed (end ∷ ends) = was_relayed end ≡ true

-- what a session puts in the log follows from its own answers, from what its client's earlier sessions had used as it began, and from how
-- it ended, whatever the other sessions do
abbrev pub EachIsAlone : Type 0
EachIsAlone =
    (at : Listening) (before : RateMoments) (most : ℕ) (client other_client : Endpoint) (es : List Entry) (own other : List (List ℕ))
    (ends : List SessionEnd)
    → AreRelayed ends → IsSession at before most client es own ends → IsSession at before most other_client es other ends → own ≡ other

-- two services, a session of each of the same place, with the same before them: where their own answers and their ends are the same, each
-- side was given the same, and their lines are the same. The other sessions, their number and their order may differ in every way
abbrev pub IsolatesSessions : Type 0
IsolatesSessions =
    (places others : List Place) (at : Listening) (before : RateMoments) (most : ℕ) (entries other_entries : List LinksEntry) (lines other_lines : List (List ℕ))
    (one : IsServed places most entries lines) (two : IsServed others most other_entries other_lines) (k l : ℕ)
    (client other_client : Endpoint)
    → IsSession at before most client (answers_of k entries) (lines_in k (turns_of one.rounds)) (ends_in k (turns_of one.rounds))
    → IsSession at before most other_client (answers_of l other_entries) (lines_in l (turns_of two.rounds)) (ends_in l (turns_of two.rounds))
    → answers_of k entries ≡ answers_of l other_entries → ends_in k (turns_of one.rounds) ≡ ends_in l (turns_of two.rounds)
    → AreRelayed (ends_in l (turns_of two.rounds))
    → ((s : Side) → given s (answers_of k entries) ≡ given s (answers_of l other_entries))
    × (lines_in k (turns_of one.rounds) ≡ lines_in l (turns_of two.rounds))

-- a client that no rule of an asset of the site names is allowed nothing at any of them, so closing it takes nothing from anybody
abbrev pub StrangersAreRefused : Type 0
StrangersAreRefused =
    (site : SiteValue) (client k : ℕ) (act : Act) → is_named site client ≡ false → IsAllowed (verdict_of (asset_of site k) client act) → ⊥

-- turns that lie in so many seconds in a row
abbrev pub LieIn : (first count : ℕ) → List TurnOf → Type 0
LieIn first count turns = AllByRecursion (λ (t : TurnOf). (first ≤ second_of t.moment) × (second_of t.moment < first + count)) turns

-- turns of which none refuses more
abbrev pub RefuseAtMost : (limit : ℕ) → List TurnOf → Type 0
RefuseAtMost limit turns = AllByRecursion (λ (t : TurnOf). t.refused ≤ limit) turns

-- a session has at most 100 commands refused a second, and once what a single turn can refuse: so in any turns in a row of a service that
-- lie in so many seconds in a row
abbrev pub FloodsAreBounded : Type 0
FloodsAreBounded =
    (places : List Place) (most : ℕ) (entries : List LinksEntry) (lines : List (List ℕ)) (served : IsServed places most entries lines)
    (before turns behind : List TurnOf) (session first count limit : ℕ) → turns_of served.rounds ≡ before ++ (turns ++ behind)
    → LieIn first count turns → RefuseAtMost limit turns → refused_in session turns ≤ count * 100 + limit

-- a turn behind others in which a session begins: its relay begins there, and had not before
abbrev pub begins_at : (past : List TurnOf) → TurnOf → Bool
begins_at past t = is_some t.begun && is_empty (begins_in t.seat.session past)

-- the number of the session, where one of the client of this listening place and address begins
abbrev pub began_at : (place address : ℕ) → (past : List TurnOf) → TurnOf → List ℕ
began_at place address past t = if is_client place address t.seat && begins_at past t then t.seat.session ∷ [] else []

-- the sessions of a client that begin in turns behind others, in that order
abbrev pub sessions_of : (place address : ℕ) → (past : List TurnOf) → List TurnOf → List ℕ
sessions_of place address past [] = []
sessions_of place address past (t ∷ ts) = began_at place address past t ++ sessions_of place address (past ++ t ∷ []) ts

-- the turns up to the one in which a session begins
abbrev pub turns_to : (session : ℕ) → List TurnOf → List TurnOf
turns_to session [] = []
turns_to session (t ∷ ts) = t ∷ (if t.seat.session == session && is_some t.begun then [] else turns_to session ts)

-- the items of a session: those of its own answers, after what it began with. Its clock does not go back behind where it began: none of
-- them is at a moment before that of a round up to that one
pub record IsSessionOf (site : SiteValue) (turns : List TurnOf) (session : ℕ) (js : List Judged) : Type 0 where
  pub items : AreItemsOf site (before_in session turns) (answers_in session turns) js
  pub forward : AllByRecursion (λ (j : Judged). AllByRecursion (λ (t : TurnOf). t.moment ≤ j.moment) (turns_to session turns)) js

-- those of each of these sessions
abbrev pub AreSessionsOf : SiteValue → List TurnOf → (sessions : List ℕ) → List (List Judged) → Type 0
AreSessionsOf site turns [] [] = Unit {0}
AreSessionsOf site turns [] (js ∷ more) = ⊥
AreSessionsOf site turns (session ∷ later) [] = ⊥
AreSessionsOf site turns (session ∷ later) (js ∷ more) = IsSessionOf site turns session js × AreSessionsOf site turns later more

-- over all sessions of a client address at a site, one after the other, no rule of an asset lets more commands to that asset through than
-- its rate: a new connection begins with what the earlier ones had used of that asset's rules, and no rate is shared by two assets
abbrev pub RatesLastOverSessions : Type 0
RatesLastOverSessions =
    (places : List Place) (most : ℕ) (entries : List LinksEntry) (lines : List (List ℕ)) (served : IsServed places most entries lines)
    (place address : ℕ) (at : Listening) (sessions : List (List Judged)) → slice_get (listenings places) place ≡ Some at
    → AreSessionsOf at.site (turns_of served.rounds) (sessions_of place address [] (turns_of served.rounds)) sessions
    → KeepsRates at.site none_before (flat_map (λ js. js) sessions)
