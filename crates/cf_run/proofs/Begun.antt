-- A session that begins, and what a packet is to the sessions in memory.
use Rattle.std.proofs.Common.{◌≡◌, ℕ, zero, suc, ◌-◌, ◌<◌, ◌≤◌, List, [], ◌∷◌, ◌++◌, length, Option, Some, None, refl, ap, subst, arith}
use Rattle.std.specs.List.{remove}
use Rattle.std.proofs.lemmas.List.Edits.{length-remove}
use Rattle.cf_leg.specs.Event.{LegEvent}
use Rattle.cf_policy.specs.Site.{site_from}
use Rattle.cf_policy.specs.declared.Asset.{Asset}
use Rattle.cf_session.specs.Parts.{SessionValue}
use Rattle.cf_session.specs.Session.{Flow, SessionEvent, client_of}
use Rattle.cf_session.specs.Stands.{Begins}
use Rattle.cf_session.specs.Told.{Told}
use Rattle.cf_run.specs.Engine.{AreAll, AreSound, IsOneBy}
use Rattle.cf_run.specs.Entries.{others, without_at}
use Rattle.cf_run.specs.Receiving.{Beginning}
use Rattle.cf_run.specs.Table.{Session, place_of, without}
use Rattle.cf_run.specs.declared.entry.Entry.{Entry}
use Rattle.cf_run.proofs.Soundness.{sound_removed}
use Rattle.cf_run.proofs.Timers.{all-one}

all_removed_at : (assets : List Asset) (last : ℕ) (xs : List Entry) (ss : List Session) (i : ℕ) → AreAll assets last xs ss → AreAll assets last (remove xs i) (remove ss i)
all_removed_at assets last [] [] zero all = tt
all_removed_at assets last [] [] (suc i) all = tt
all_removed_at assets last (x ∷ xs) (s ∷ ss) zero all = all.1
all_removed_at assets last (x ∷ xs) (s ∷ ss) (suc i) all = (all.0, all_removed_at assets last xs ss i all.1)
all_removed_at assets last xs ss i all = absurd all

-- without the closed session of a flow
all_without : (assets : List Asset) (last : ℕ) (xs : List Entry) (ss : List Session) (o : Option ℕ) → AreAll assets last xs ss →
    AreAll assets last (without_at xs o) (elim o [ Some place ↦ remove ss place | None ↦ ss ])
all_without assets last xs ss None all = all
all_without assets last xs ss (Some place) all = all_removed_at assets last xs ss place all

pub sound_without : (assets : List Asset) (limit : ℕ) (xs : List Entry) (o : Option ℕ) → AreSound assets limit xs → AreSound assets limit (without_at xs o)
sound_without assets limit xs None sound = sound
sound_without assets limit xs (Some place) sound = sound_removed assets limit xs place sound

pub length_without : (xs : List Entry) (o : Option ℕ) → ((place : ℕ) → o ≡ Some place → place < length xs) → length (without_at xs o) ≡ others (length xs) o
length_without xs None inside = refl
length_without xs (Some place) inside = omega (arith, length-remove xs place (inside place refl))

-- the session that began stands last
pub begun_last : (assets : List Asset) (now place : ℕ) (closed : Option ℕ) (flow : Flow) (table : List Session) (entries : List Entry) (old new : Told) (s : SessionValue) (due : ℕ) →
    1 ≤ now → AreAll assets now entries table → site_from assets place ≡ Some flow.site → closed ≡ place_of (client_of flow) flow.site.first.endpoint table →
    Begins flow (now - 1) s old new →
    (event : SessionEvent) × Beginning assets now flow table (without_at entries closed ++ record { session = s; asset = place; due = due } ∷ []) old new event
begun_last assets now place closed flow table entries old new s due some all at is b =
    let e = b.event in
    let tick : e.client.tick ≡ now - 1 = ap (λ (l : LegEvent). l.tick) b.is_beginning.client in
    let one : IsOneBy assets now (record { session = s; asset = place; due = due }) flow [] e =
    record { stands = b.stands; site = at; last_moment = omega (arith, tick, some) } in
    let rest : AreAll assets now (without_at entries closed) (without (client_of flow) flow.site.first.endpoint table) =
    subst (λ o. AreAll assets now (without_at entries closed) (elim o [ Some place ↦ remove table place | None ↦ table ])) is (all_without assets now entries table closed all) in (
      e,
      record {
        is = b.is_beginning;
        told = b.told;
        all = all-one assets now (without_at entries closed) (without (client_of flow) flow.site.first.endpoint table) (record { session = s; asset = place; due = due }) (record { flow = flow; events = e ∷ [] }) rest one;
      },
    )
