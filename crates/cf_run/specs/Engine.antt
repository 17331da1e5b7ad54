-- Steps of the proof: what the sessions in memory stand for, `AreAll`, and what the first half of an event does to them, `TickAll`.
use Rattle.std.specs.Prelude.{◌≡◌, ℕ, Bool, true, false, ◌+◌, ◌≤◌, List, [], ◌∷◌, ◌++◌, take, drop, count_by, None, Some}
use Rattle.std.specs.List.{All, AllByRecursion, flat_map}
use Rattle.std.specs.Option.{is_some}
use Rattle.cf_leg.specs.Event.{moment}
use Rattle.cf_policy.specs.Site.{SiteValue, site_from}
use Rattle.cf_policy.specs.declared.Asset.{Asset}
use Rattle.cf_session.specs.Parts.{SessionValue}
use Rattle.cf_session.specs.Sent.{sent_first}
use Rattle.cf_session.specs.Session.{Flow, SessionEvent, is_expired}
use Rattle.cf_session.specs.Stands.{IsSessionOf, IsSound, Ticks, due_of}
use Rattle.cf_session.specs.Told.{Told, with_both}
use Rattle.cf_run.specs.Table.{Session}
use Rattle.cf_run.specs.Trace.{AreTicks, kept, logged_ticks, ticked}
use Rattle.cf_run.specs.declared.entry.Entry.{Entry}

-- ---- what holds whatever happened

-- a session in memory serves the site at its place, and has the moment at which it is due beside it
pub record IsSoundEntry (assets : List Asset) (limit : ℕ) (entry : Entry) : Type 0 where
  pub site : SiteValue
  pub at : site_from assets entry.asset ≡ Some site
  pub sound : IsSound site entry.session
  pub limit_is : SessionValue.limit entry.session ≡ limit
  pub due_is : entry.due ≡ due_of entry.session

abbrev pub AreSound : List Asset → (limit : ℕ) → List Entry → Type 0
AreSound assets limit table = AllByRecursion (IsSoundEntry assets limit) table

-- sessions of which none is due before a moment
abbrev pub AreDueFrom : (moment : ℕ) → List Entry → Type 0
AreDueFrom moment table = All (λ entry. moment ≤ entry.due) table

-- ---- what it stands for

-- a session in memory is one of the table: its site is that of its place, and its last event was at the last moment or before
pub record IsOneBy (assets : List Asset) (last : ℕ) (entry : Entry) (flow : Flow) (earlier : List SessionEvent) (event : SessionEvent) :
    Type 0 where
  pub stands : IsSessionOf flow earlier event entry.session
  pub site : site_from assets entry.asset ≡ Some flow.site
  pub last_moment : moment event.client ≤ last

abbrev pub IsOneWith : List Asset → (last : ℕ) → Entry → Flow → List SessionEvent → Type 0
IsOneWith assets last entry flow [] = ⊥
IsOneWith assets last entry flow (event ∷ earlier) = IsOneBy assets last entry flow earlier event

abbrev pub IsOne : List Asset → (last : ℕ) → Entry → Session → Type 0
IsOne assets last entry session = IsOneWith assets last entry session.flow session.events

-- the sessions in memory are those of the table, in their order
abbrev pub AreAll : List Asset → (last : ℕ) → List Entry → List Session → Type 0
AreAll assets last [] [] = Unit {0}
AreAll assets last [] (session ∷ table) = ⊥
AreAll assets last (entry ∷ entries) [] = ⊥
AreAll assets last (entry ∷ entries) (session ∷ table) = IsOne assets last entry session × AreAll assets last entries table

-- ---- the first half, session by session

-- what became of a session in the first half: it goes on, it expired, or it was cut
abbrev pub TickAs : Flow → List SessionEvent → (tick : ℕ) → SessionValue → (old new : Told) → (stays cuts : Bool) → Type 0
TickAs flow events tick s old new true cuts =
    (event : SessionEvent) × Ticks flow events tick old new event × (event.cut ≡ None) × IsSessionOf flow events event s
TickAs flow events tick s old new false true = (event : SessionEvent) × Ticks flow events tick old new event × (is_some event.cut ≡ true)
TickAs flow events tick s old new false false = (is_expired flow events tick ≡ true) × (new ≡ old)

-- the clock call of one session of the table
abbrev pub TickAt : List Asset → (tick : ℕ) → (before after : Entry) → (old new : Told) → (stays cuts : Bool) → Type 0
TickAt assets tick before after old new stays cuts =
    (after.asset ≡ before.asset)
    × ((flow : Flow) (earlier : List SessionEvent) (event : SessionEvent) → IsSessionOf flow earlier event before.session
    → site_from assets before.asset ≡ Some flow.site →
    TickAs flow (event ∷ earlier) tick after.session old new stays cuts)

-- the first halves of all sessions of the table
pub record TickAll (assets : List Asset) (tick : ℕ) (table : List Session) (entries : List Entry) (old new : Told) (cuts : ℕ) : Type 0 where
  pub ticks : List SessionEvent
  pub are : AreTicks tick (kept tick table) ticks
  pub all : AreAll assets (tick + 1) entries (ticked ticks tick table)
  pub told : new ≡ with_both old (flat_map sent_first ticks) (logged_ticks (kept tick table) ticks)
  pub cuts_is : cuts ≡ count_by (λ t. is_some t.cut) ticks

-- a tick of the first sessions alone: those in memory before this place are what became of them
pub record TickSome (assets : List Asset) (tick : ℕ) (table : List Session) (entries : List Entry) (place : ℕ) (old new : Told) (cuts : ℕ) :
    Type 0 where
  pub done : List Session
  pub rest : List Session
  pub split : table ≡ done ++ rest
  pub some : TickAll assets tick done (take place entries) old new cuts
  pub others : AreAll assets tick (drop place entries) rest
