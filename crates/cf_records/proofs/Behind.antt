-- What a reader found, as what stands after the blocks that it passed over.
use Rattle.std.proofs.Common.{◌≡◌, ◌≢◌, ℕ, ◌^◌, ◌≤◌, List, drop, arith}
use Rattle.cf_outside.specs.Files.{Content, untold, absent, holds}
use Rattle.cf_records.specs.Capture.{AtPlace, Cut, FileEnd, Fits, Large, Refused, TooLong, at_place}
use Rattle.cf_records.specs.Form.{first_place}
use Rattle.cf_records.specs.Reader.{Finds, FindsRecord, PassesTo, ReaderValue, StopsAt}
use Rattle.cf_records.specs.declared.blocks.BlockRefusal.{BlockRefusal}
use Rattle.cf_records.specs.declared.form.Form.{Form}
use Rattle.cf_records.specs.declared.form.Form.TheVariants as form
use Rattle.cf_records.specs.declared.record_reader.NextRecord.{NextRecord}
use Rattle.cf_records.specs.declared.record_reader.NextRecord.TheVariants as answer

-- after blocks that are passed over this stands at a place
abbrev pub StandsBehind : Content → ReaderValue → ℕ → AtPlace → Type 0
StandsBehind untold old place found = Unit {0}
StandsBehind absent old place found = ⊥
StandsBehind (holds all) old place found =
    (count : ℕ) × (f : Form) × PassesTo all count old.form old.place f place × (at_place f place (drop place all) ≡ found)

-- where a reader stops, and where a record stands that is too late
stopped_at : (file : Content) (old new : ReaderValue) (given : NextRecord) (found : AtPlace) → given ≢ answer.Failed →
    ((all : List ℕ) → Finds all old new given → StopsAt all old new found) → FindsRecord file old new given → StandsBehind file old new.place found
stopped_at untold old new given found other stops f = tt
stopped_at absent old new given found other stops f = absurd (other f)
stopped_at (holds all) old new given found other stops f = let (count, passes, at) = stops all f in (count, new.form, passes, at)

pub stands_end : (file : Content) (old new : ReaderValue) → FindsRecord file old new answer.End → StandsBehind file old new.place FileEnd
stands_end file old new f = stopped_at file old new answer.End FileEnd (λ e. cc) (λ all h. h) f

pub stands_cut : (file : Content) (old new : ReaderValue) → FindsRecord file old new answer.Cut → StandsBehind file old new.place Cut
stands_cut file old new f = stopped_at file old new answer.Cut Cut (λ e. cc) (λ all h. h) f

pub stands_long : (file : Content) (old new : ReaderValue) → FindsRecord file old new answer.TooLong → StandsBehind file old new.place TooLong
stands_long file old new f = stopped_at file old new answer.TooLong TooLong (λ e. cc) (λ all h. h) f

pub stands_refused : (file : Content) (old new : ReaderValue) (number : BlockRefusal) → FindsRecord file old new (answer.Refused number) → StandsBehind file old new.place (Refused number)
stands_refused file old new number f = stopped_at file old new (answer.Refused number) (Refused number) (λ e. cc) (λ all h. h) f

pub stands_large : (file : Content) (old new : ReaderValue) → FindsRecord file old new answer.Large → StandsBehind file old new.place Large
stands_large file old new f = stopped_at file old new answer.Large Large (λ e. cc) (λ all h. h) f

pub stands_late : (file : Content) (old new : ReaderValue) (stamp : ℕ) → FindsRecord file old new (answer.Whole stamp) →
    (place : ℕ) × (used : ℕ) × StandsBehind file old place (Fits (record { stamp = stamp; link = new.link; body = new.body }) used)
stands_late untold old new stamp f = (0, 0, tt)
stands_late absent old new stamp f = cc
stands_late (holds all) old new stamp (count, f, place, used, passes, at, behind, there) = (place, used, (count, f, passes, at))

-- the first place is near
pub first_near : (f : Form) (place : ℕ) → place ≡ first_place f → place ≤ 2 ^ 40
first_near (form.Classic h) place e = omega (arith, e)
first_near (form.Blocks section) place e = omega (arith, e)
