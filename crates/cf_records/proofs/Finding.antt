-- What a reader answers, by what was read after the blocks that it passed over.
use Rattle.std.proofs.Common.{ℕ, ◌+◌, ◌≤◌, List, slice_range, Err, refl}
use Rattle.cf_outside.specs.Files.{Content, untold, absent, holds}
use Rattle.cf_outside.specs.Part.{IsFilled}
use Rattle.cf_view.specs.declared.LinkKind.{LinkKind}
use Rattle.cf_view.specs.declared.LinkSet.{LinkSet}
use Rattle.cf_records.specs.Form.{FormsAs}
use Rattle.cf_records.specs.Pieces.{FindsBehind, IsPastRecord, IsNoRecord}
use Rattle.cf_records.specs.Reader.{FindsRecord, Finds, OpensIn, ReaderValue}
use Rattle.cf_records.specs.declared.form.Form.{Form}
use Rattle.cf_records.specs.declared.record_reader.NextRecord.{NextRecord}
use Rattle.cf_records.specs.declared.record_reader.NextRecord.TheVariants as next
use Rattle.cf_records.specs.declared.record_reader.OpenFault.{OpenFault}
use Rattle.cf_records.specs.declared.record_reader.OpenFault.TheVariants as fault
use Rattle.cf_records.specs.declared.record_reader.Piece.TheVariants as piece
use Rattle.cf_records.proofs.Forms.{has_form}

pub not_opened : (kinds : LinkSet) (file : Content) (octets : List ℕ) (why : OpenFault) → IsFilled file 0 28 octets → FormsAs kinds octets (Err why) → OpensIn kinds file (Err why)
not_opened kinds file octets (fault.Refused refusal) f h = has_form kinds file octets (Err refusal) f h
not_opened kinds file octets fault.Read f h = tt
not_opened kinds file octets fault.NoMemory f h = tt

-- a record
pub record_found : (file : Content) (old : ReaderValue) (g : Form) (place stamp from to used : ℕ) (link : LinkKind) (buffer : List ℕ) →
    FindsBehind file old.form old.place g place buffer (piece.Record stamp link from to used) →
    FindsRecord file old (record { form = g; place = place + used; link = link; body = slice_range buffer from to }) (next.Whole stamp)
record_found untold old g place stamp from to used link buffer h = tt
record_found absent old g place stamp from to used link buffer h = cc
record_found (holds all) old g place stamp from to used link buffer (count, f, p, at, behind) = (count, f, place, used, p, at, behind, refl)

ends_all : (all : List ℕ) (old new : ReaderValue) (buffer : List ℕ) (answer : NextRecord) →
    FindsBehind (holds all) old.form old.place new.form new.place buffer (piece.Ends answer) → Finds all old new answer
ends_all all old new buffer (next.Whole stamp) (count, p, h) = absurd h
ends_all all old new buffer answer h = h

-- none
pub ends_found : (file : Content) (old new : ReaderValue) (buffer : List ℕ) (answer : NextRecord) →
    FindsBehind file old.form old.place new.form new.place buffer (piece.Ends answer) → FindsRecord file old new answer
ends_found untold old new buffer answer h = tt
ends_found absent old new buffer answer h = cc
ends_found (holds all) old new buffer answer h = ends_all all old new buffer answer h

pub goes_on : (answer : NextRecord) (from to : ℕ) → IsNoRecord answer → from ≤ to → IsPastRecord answer from to
goes_on (next.Whole stamp) from to none l = absurd none
goes_on answer from to none l = l
