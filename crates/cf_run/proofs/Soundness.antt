-- Sessions in memory that are sound, one of which changes.
use Rattle.std.proofs.Common.{◌≡◌, ℕ, zero, suc, ◌+◌, ◌<◌, ◌≤◌, List, [], ◌∷◌, ◌++◌, length, get_or, add-one, take, drop, Some, Bool, true, false, not, ◌&&◌, refl, sym, ap, ◌∙◌, subst, arith}
use Rattle.std.specs.Prelude.{slice_get, slice_set}
use Rattle.std.specs.List.{AllByRecursion as Each, remove}
use Rattle.std.proofs.lemmas.Option.{same_Some, slice_get-get_or, slice_get_read}
use Rattle.std.proofs.lemmas.List.{take_more}
use Rattle.std.proofs.Math.Seq.{drop-cons}
use Rattle.cf_lane.specs.Judged.{one_if}
use Rattle.cf_policy.specs.Site.{SiteValue, site_from}
use Rattle.cf_policy.specs.declared.Asset.{Asset}
use Rattle.cf_session.specs.Parts.{SessionValue}
use Rattle.cf_session.specs.Stands.{IsLife, IsSound, due_of}
use Rattle.cf_session.specs.declared.life.Life.{Life}
use Rattle.cf_session.specs.declared.life.Life.TheVariants as life
use Rattle.cf_run.specs.Entries.{cuts_by, stays_by}
use Rattle.cf_run.specs.Engine.{AreSound, IsSoundEntry}
use Rattle.cf_run.specs.declared.entry.Entry.{Entry}

-- what holds of each holds of the one at a place
each_at : {A : Type 0} (P : A → Type 0) (xs : List A) (place : ℕ) (x : A) → Each P xs → slice_get xs place ≡ Some x → P x
each_at P [] place x each at = cc
each_at P (a ∷ xs) zero x each at = subst P (same_Some a x at) each.0
each_at P (a ∷ xs) (suc place) x each at = each_at P xs place x each.1 at

pub sound_at : (assets : List Asset) (limit : ℕ) (table : List Entry) (place : ℕ) (entry : Entry) → AreSound assets limit table → slice_get table place ≡ Some entry →
    IsSoundEntry assets limit entry
sound_at assets limit table place entry sound at = each_at (IsSoundEntry assets limit) table place entry sound at

pub stands_at : (assets : List Asset) (limit : ℕ) (table : List Entry) (place : ℕ) (entry : Entry) → AreSound assets limit table → place < length table →
    entry ≡ get_or table place entry → (slice_get table place ≡ Some entry) × IsSoundEntry assets limit entry
stands_at assets limit table place entry sound inside is =
    let at = slice_get_read table (length table) place entry refl inside is in
    (at, sound_at assets limit table place entry sound at)

pub sound_set : (assets : List Asset) (limit : ℕ) (table : List Entry) (place : ℕ) (entry : Entry) → AreSound assets limit table → IsSoundEntry assets limit entry →
    AreSound assets limit (slice_set table place entry)
sound_set assets limit [] place entry sound one = tt
sound_set assets limit (e ∷ es) zero entry sound one = (one, sound.1)
sound_set assets limit (e ∷ es) (suc place) entry sound one = (sound.0, sound_set assets limit es place entry sound.1 one)

pub sound_removed : (assets : List Asset) (limit : ℕ) (table : List Entry) (place : ℕ) → AreSound assets limit table → AreSound assets limit (remove table place)
sound_removed assets limit [] zero sound = tt
sound_removed assets limit [] (suc place) sound = tt
sound_removed assets limit (e ∷ es) zero sound = sound.1
sound_removed assets limit (e ∷ es) (suc place) sound = (sound.0, sound_removed assets limit es place sound.1)

pub sound_pushed : (assets : List Asset) (limit : ℕ) (table : List Entry) (entry : Entry) → AreSound assets limit table → IsSoundEntry assets limit entry →
    AreSound assets limit (table ++ entry ∷ [])
sound_pushed assets limit [] entry sound one = (one, tt)
sound_pushed assets limit (e ∷ es) entry sound one = (sound.0, sound_pushed assets limit es entry sound.1 one)

-- the state of a session after a call, where its site and its limit are as they were
pub sound_after : (assets : List Asset) (limit : ℕ) (entry : Entry) (site : SiteValue) (s : SessionValue) → IsSoundEntry assets limit entry → site_from assets entry.asset ≡ Some site →
    IsSound site s → s.limit ≡ SessionValue.limit entry.session → (due : ℕ) → due ≡ due_of s → IsSoundEntry assets limit (record { session = s; asset = entry.asset; due = due })
sound_after assets limit entry site s one at sound same due due_is = record { site = site; at = at; sound = sound; limit_is = same ∙ one.limit_is; due_is = due_is }

-- a session that stays is one of those that live on
pub lives : (l : Life) → stays_by l ≡ true → IsLife l
lives life.Live h = tt
lives life.Closed h = tt
lives l h = cc

-- the session at a place, and the lists before and after it
pub first_of : (table : List Entry) (place : ℕ) → place < length table →
    (entry : Entry) × (slice_get table place ≡ Some entry) × (drop place table ≡ entry ∷ drop (place + 1) table) × (take (place + 1) table ≡ take place table ++ entry ∷ [])
first_of [] place h = absurd (omega (arith, h))
first_of (e ∷ es) place h =
    let table = e ∷ es in
    (get_or table place e, slice_get-get_or table place e h, drop-cons table place e h ∙ ap (λ n. get_or table place e ∷ drop n table) (sym (add-one place)), take_more table place e h)

-- a session that was cut does not stay
pub cuts_stay : (l : Life) → one_if (not (stays_by l) && cuts_by l) ≡ one_if (cuts_by l)
cuts_stay life.Live = refl
cuts_stay l = refl

pub cuts_gone : (l : Life) → stays_by l ≡ true → one_if (cuts_by l) ≡ 0
cuts_gone (life.Cut because) h = cc
cuts_gone l h = refl

pub one_less : (b : Bool) → one_if b ≤ 1
one_less true = omega arith
one_less false = omega arith
