-- Why the capture of a command is refused, and where its records end: `RefusesIn` and `EndsIn`.
use Rattle.std.specs.Prelude.{◌⊎◌, ℕ, List, Ok, Err}
use Rattle.cf_outside.specs.Files.{Content}
use Rattle.cf_records.specs.Capture.{AtPlace, Clock, Large, LastPlace, Record, Refused, TooLong}
use Rattle.cf_records.specs.Reader.{HasFormIn}
use Rattle.cf_view.specs.declared.LinkSet.{LinkSet}
use Rattle.cf_view.specs.declared.LinkSet.TheVariants as set
use Rattle.cf_records.specs.declared.BlockRefusal.{BlockRefusal}
use Rattle.cf_records.specs.declared.BlockRefusal.TheVariants as block
use Rattle.cf_records.specs.declared.Form.{Form}
use Rattle.cf_records.specs.declared.FormRefusal.{FormRefusal}
use Rattle.cf_records.specs.declared.FormRefusal.TheVariants as form
use Rattle.cf_ending.specs.declared.ending.CaptureRefusal.{CaptureRefusal}
use Rattle.cf_ending.specs.declared.ending.CaptureRefusal.TheVariants as refusal

-- why a capture is refused by its header, or by its first section header
abbrev pub form_refusal : FormRefusal → CaptureRefusal
form_refusal form.Short = refusal.Short
form_refusal form.Magic = refusal.Magic
form_refusal form.Version = refusal.Version
form_refusal form.LinkType = refusal.LinkType
form_refusal form.Section = refusal.Section

-- the refusal of a capture by a block of it
abbrev pub block_refusal : BlockRefusal → CaptureRefusal
block_refusal block.Block = refusal.Block
block_refusal block.Section = refusal.Section
block_refusal block.Interface = refusal.Interface
block_refusal block.Resolution = refusal.Resolution

-- of a file of these link types whose records, up to the last place, are told by `Has`: a run tests their moments, a listing does not
module _ (kinds : LinkSet) (Has : Content → Form → List Record → LastPlace → Type 0) (file : Content) where
  -- it has a form, and records up to this place, at which this stands
  pub record EndsIn (found : AtPlace) (place : ℕ) : Type 0 where
    pub form : Form
    pub has_form : HasFormIn kinds file (Ok form)
    pub records : List Record
    pub are_records : Has file form records (record { place = place; found = found })

  -- the same at some place
  abbrev pub EndsSomewhere : AtPlace → Type 0
  EndsSomewhere found = (place : ℕ) × EndsIn found place

  -- its header, a record or a block is refused so
  abbrev pub RefusesIn : CaptureRefusal → Type 0
  RefusesIn refusal.Short = HasFormIn kinds file (Err form.Short)
  RefusesIn refusal.Magic = HasFormIn kinds file (Err form.Magic)
  RefusesIn refusal.Version = HasFormIn kinds file (Err form.Version)
  RefusesIn refusal.LinkType = HasFormIn kinds file (Err form.LinkType)
  RefusesIn refusal.TooLong = EndsSomewhere TooLong
  RefusesIn refusal.Clock = EndsSomewhere Clock
  RefusesIn refusal.Large = EndsSomewhere Large
  RefusesIn refusal.Long = ⊥
  RefusesIn refusal.Block = EndsSomewhere (Refused block.Block)
  RefusesIn refusal.Section = HasFormIn kinds file (Err form.Section) ⊎ EndsSomewhere (Refused block.Section)
  RefusesIn refusal.Interface = EndsSomewhere (Refused block.Interface)
  RefusesIn refusal.Resolution = EndsSomewhere (Refused block.Resolution)

-- the same of a file of Ethernet or raw IP
module _ (Has : Content → Form → List Record → LastPlace → Type 0) (file : Content) where
  abbrev pub EndsAt : (found : AtPlace) (place : ℕ) → Type 0
  EndsAt found place = EndsIn set.Plain Has file found place

  abbrev pub Refuses : CaptureRefusal → Type 0
  Refuses r = RefusesIn set.Plain Has file r
