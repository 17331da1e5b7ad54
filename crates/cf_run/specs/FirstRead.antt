-- Steps of the proof: what a run has read before its outputs are created: `BeginsWithRead`.
use Rattle.std.specs.Prelude.{◌≡◌, Ok}
use Rattle.cf_outside.specs.Files.{Content}
use Rattle.cf_records.specs.Form.{first_place}
use Rattle.cf_records.specs.Reader.{FindsRecord, HasForm, ReaderValue}
use Rattle.cf_records.specs.declared.NextRecord.{NextRecord}

-- the file has a form, and what was read first is what it has behind its header
pub record BeginsWithRead (file : Content) (reader : ReaderValue) (first : NextRecord) : Type 0 where
  pub opened : ReaderValue
  pub has_form : HasForm file (Ok opened.form)
  pub place : opened.place ≡ first_place opened.form
  pub found : FindsRecord file opened reader first
