-- Sessions in memory none of which is due before a moment: one of them changes, and the first half of an event passes them by.
use Rattle.std.proofs.Common.{◌≡◌, ℕ, zero, suc, ◌+◌, ◌<◌, ◌≤◌, true, false, List, [], ◌∷◌, ◌++◌, length, take, drop, Option, Some, None, refl, sym, subst, arith, add-one}
use Rattle.std.specs.Prelude.{slice_get, slice_set}
use Rattle.std.specs.List.{remove}
use Rattle.std.proofs.lemmas.Option.{slice_get_within, get_or_from_slice_get}
use Rattle.std.proofs.lemmas.List.Elements.{All-append, All-drop, All-push, All-set, All-take, All-weaker}
use Rattle.cf_policy.specs.declared.Asset.{Asset}
use Rattle.cf_session.specs.Stands.{AreQuietBeforeDue}
use Rattle.cf_session.specs.Told.{Told}
use Rattle.cf_run.specs.Engine.{AreAll, AreDueFrom, AreSound, IsSoundEntry, TickAll, TickAt, TickSome}
use Rattle.cf_run.specs.Entries.{without_at}
use Rattle.cf_run.specs.Table.{Session}
use Rattle.cf_run.specs.declared.entry.Entry.{Entry}
use Rattle.cf_run.proofs.Soundness.{first_of, sound_at}
use Rattle.cf_run.proofs.Timers.{quiet_as, removed_is, some_all, some_first, some_more}

-- the one at a place
pub due_at : (moment : ℕ) (table : List Entry) (place : ℕ) (entry : Entry) → AreDueFrom moment table → slice_get table place ≡ Some entry → moment ≤ entry.due
due_at moment table place entry due at =
    subst (λ (e : Entry). moment ≤ e.due) (get_or_from_slice_get table place entry entry at) (due place entry (slice_get_within table place entry at))

pub due_sooner : (moment sooner : ℕ) (table : List Entry) → sooner ≤ moment → AreDueFrom moment table → AreDueFrom sooner table
due_sooner moment sooner table le due = All-weaker (λ (e : Entry). moment ≤ e.due) (λ (e : Entry). sooner ≤ e.due) (λ e h. omega (arith, le, h)) table due

pub due_set : (moment : ℕ) (table : List Entry) (place : ℕ) (entry : Entry) → AreDueFrom moment table → moment ≤ entry.due → AreDueFrom moment (slice_set table place entry)
due_set moment table place entry due one = All-set (λ (e : Entry). moment ≤ e.due) table place entry one due

pub due_removed : (moment : ℕ) (table : List Entry) (place : ℕ) → AreDueFrom moment table → AreDueFrom moment (remove table place)
due_removed moment table place due =
    let P : Entry → Type 0 = λ e. moment ≤ e.due in
    subst (AreDueFrom moment) (sym (removed_is table place)) (All-append P (take place table) (drop (place + 1) table) (All-take P place table due) (All-drop P (place + 1) table due))

pub due_without : (moment : ℕ) (table : List Entry) (closed : Option ℕ) → AreDueFrom moment table → AreDueFrom moment (without_at table closed)
due_without moment table None due = due
due_without moment table (Some place) due = due_removed moment table place due

pub due_pushed : (moment : ℕ) (table : List Entry) (entry : Entry) → AreDueFrom moment table → moment ≤ entry.due → AreDueFrom moment (table ++ entry ∷ [])
due_pushed moment table entry due one = All-push (λ (e : Entry). moment ≤ e.due) table entry due one

-- one more of them, and a moment that is no later than it and the old one
pub due_more : (moment sooner : ℕ) (table : List Entry) (entry : Entry) → AreDueFrom moment table → sooner ≤ moment → sooner ≤ entry.due → AreDueFrom sooner (table ++ entry ∷ [])
due_more moment sooner table entry due le one = due_pushed sooner table entry (due_sooner moment sooner table le due) one

-- ---- the first half of an event

-- a session that is not due stays as it is
quiet_at : (law : AreQuietBeforeDue) (assets : List Asset) (limit tick : ℕ) (entry : Entry) (desk : Told) → IsSoundEntry assets limit entry → tick < entry.due →
    TickAt assets tick entry entry desk desk true false
quiet_at law assets limit tick entry desk one early = (
  refl,
  λ flow earlier event stands site.
      quiet_as flow (event ∷ earlier) tick entry.session desk (law flow earlier event entry.session tick desk stands (subst (λ n. tick < n) one.due_is early)),
)

-- the walk passes it by
pub quiet_more : (law : AreQuietBeforeDue) (assets : List Asset) (limit tick : ℕ) (known : List Session) (entries : List Entry) (place : ℕ) (old new : Told) (n : ℕ) →
    AreSound assets limit entries → place < length entries → ((entry : Entry) → slice_get entries place ≡ Some entry → tick < entry.due) →
    TickSome assets tick known entries place old new n → TickSome assets tick known entries (place + 1) old new n
quiet_more law assets limit tick known entries place old new n sound inside early some =
    let x = first_of entries place inside in
    let as_many : n + 0 ≡ n = omega arith in
    subst (TickSome assets tick known entries (place + 1) old new) as_many
    (some_more assets tick known place entries old new new x.0 x.0 (drop (place + 1) entries) entries (place + 1) true false n some x.2
    (quiet_at law assets limit tick x.0 new (sound_at assets limit entries place x.0 sound x.1) (early x.0 x.1)) refl x.3)

module _ (law : AreQuietBeforeDue) (assets : List Asset) (limit tick moment : ℕ) (before : tick < moment) (known : List Session) (entries : List Entry) (desk : Told)
    (sound : AreSound assets limit entries) (due : AreDueFrom moment entries) (all : AreAll assets tick entries known) where
  quiet_some : (place : ℕ) → place ≤ length entries → TickSome assets tick known entries place desk desk 0
  quiet_some zero le = some_first assets tick known entries desk all
  quiet_some (suc place) le =
      let inside : place < length entries = omega (arith, le) in
      subst (λ n. TickSome assets tick known entries n desk desk 0) (add-one place)
      (quiet_more law assets limit tick known entries place desk desk 0 sound inside (λ entry at. omega (arith, before, due_at moment entries place entry due at)) (quiet_some place (omega (arith, le))))

  -- and all of them, where none is due
  pub quiet_all : TickAll assets tick known entries desk desk 0
  quiet_all = some_all assets tick known entries (length entries) desk desk 0 (quiet_some (length entries) (omega arith)) (omega arith)
