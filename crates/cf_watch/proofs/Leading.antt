-- Records that follow each other from the front of a file, as a reader finds them one by one.
use Rattle.std.proofs.Common.{ℕ, zero, suc, ◌+◌, List, [], ◌∷◌, ◌++◌, drop, Some, None, Ok, refl, subst, ap, append_assoc}
use Rattle.std.proofs.lemmas.List.{append-nil, drop-drop}
use Rattle.cf_outside.specs.Files.{Content, untold, absent, holds}
use Rattle.cf_records.proofs.Behind.{StandsBehind}
use Rattle.cf_records.specs.Capture.{AreRecords, AtPlace, IsLast, LastPlace, Record, form_behind}
use Rattle.cf_records.specs.Form.{first_place}
use Rattle.cf_records.specs.Reader.{FindsRecord, HasFormIn, PassesTo, ReaderValue}
use Rattle.cf_records.specs.declared.Form.{Form}
use Rattle.cf_view.specs.declared.LinkSet.{LinkSet}
use Rattle.cf_records.specs.declared.NextRecord.TheVariants as next
use Rattle.cf_watch.specs.Watch.{HasRecords}

-- with these records in front, the records from a place on are those of the file, as far as it is told; there its form is this one
abbrev pub Leads : Content → (start file_form : Form) → (place : ℕ) → List Record → Type 0
Leads untold start file_form place records = Unit {0}
Leads absent start file_form place records = ⊥
Leads (holds all) start file_form place records =
    (more : List Record) (last : LastPlace) → AreRecords file_form place (drop place all) more last →
    AreRecords start (first_place start) (drop (first_place start) all) (records ++ more) last

pub leads_first : (kinds : LinkSet) (file : Content) (start : Form) → HasFormIn kinds file (Ok start) → Leads file start start (first_place start) []
leads_first kinds untold start h = tt
leads_first kinds absent start h = absurd h
leads_first kinds (holds all) start h = λ more last are. are

-- after blocks that are passed over stand the records that stand before them
passed_back : (all : List ℕ) (count : ℕ) (old new : Form) (from place : ℕ) (rs : List Record) (last : LastPlace) → PassesTo all count old from new place →
    AreRecords new place (drop place all) rs last → AreRecords old from (drop from all) rs last
passed_back all zero old new from place rs last (same, here) are =
    subst (λ n. AreRecords old n (drop n all) rs last) here (subst (λ x. AreRecords x place (drop place all) rs last) same are)
passed_back all (suc count) old new from place rs last (used, at, rest) are =
    let (pieces, behind, is) = passed_back all count (form_behind old (drop from all)) new (from + used) place rs last rest are in
    (None ∷ pieces, (used, at, rw drop-drop behind), is)

pub leads_on : (file : Content) (start : Form) (old new : ReaderValue) (stamp : ℕ) (records : List Record) → Leads file start old.form old.place records →
    FindsRecord file old new (next.Whole stamp) →
    Leads file start new.form new.place (records ++ record { stamp = stamp; link = new.link; body = new.body } ∷ [])
leads_on untold start old new stamp records leads found = tt
leads_on absent start old new stamp records leads found = absurd leads
leads_on (holds all) start old new stamp records leads (count, f, place, used, passes, at, behind, there) = λ more last are.
    let r : Record = record { stamp = stamp; link = new.link; body = new.body } in
    let (pieces, rest, is) = subst (λ n. AreRecords (form_behind f (drop place all)) n (drop n all) more last) there
    (subst (λ x. AreRecords x new.place (drop new.place all) more last) behind are) in
    let here : AreRecords f place (drop place all) (r ∷ more) last =
    (Some r ∷ pieces, (used, at, rw drop-drop rest), ap (λ rs. r ∷ rs) is) in
    rw append_assoc (leads (r ∷ more) last (passed_back all count old.form f old.place place (r ∷ more) last passes here))

-- the records end where something else stands
pub leads_to : (file : Content) (start : Form) (old : ReaderValue) (place : ℕ) (records : List Record) (found : AtPlace) → Leads file start old.form old.place records →
    StandsBehind file old place found → IsLast found → HasRecords file start records (record { place = place; found = found })
leads_to untold start old place records found leads stands is = tt
leads_to absent start old place records found leads stands is = absurd leads
leads_to (holds all) start old place records found leads (count, f, passes, at) is =
    rw append-nil at (leads [] (record { place = place; found = found })
    (passed_back all count old.form f old.place place [] (record { place = place; found = found }) passes ([], (refl, at, is), refl)))
