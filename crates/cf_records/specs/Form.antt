-- What form a capture file has: form_of, and form_in where Linux cooked captures are read too. Which files are read is this project's own.
use Rattle.std.specs.Prelude.{◌≡◌, ℕ, nat_lt, if◌then◌else◌, List, length, slice_get, Option, None, Result, Ok, Err}
use Rattle.cf_pcap.specs.Header.{header_in}
use Rattle.cf_pcap.specs.declared.header.Header.{Header}
use Rattle.cf_pcap.specs.declared.header.HeaderRefusal.{HeaderRefusal}
use Rattle.cf_pcap.specs.declared.header.HeaderRefusal.TheVariants as header
use Rattle.cf_pcapng.specs.Block.{is_section, is_wrong_section, order_at}
use Rattle.cf_pcapng.specs.Section.{before_sections, no_section}
use Rattle.cf_pcapng.specs.declared.block.Interface.{Interface}
use Rattle.cf_view.specs.declared.LinkSet.{LinkSet}
use Rattle.cf_view.specs.declared.LinkSet.TheVariants as set
use Rattle.cf_records.specs.declared.form.Form.{Form}
use Rattle.cf_records.specs.declared.form.Form.TheVariants as form
use Rattle.cf_records.specs.declared.form.FormRefusal.{FormRefusal}
use Rattle.cf_records.specs.declared.form.FormRefusal.TheVariants as refusal
use Rattle.cf_records.specs.declared.record_reader.OpenFault.{OpenFault}
use Rattle.cf_records.specs.declared.record_reader.OpenFault.TheVariants as fault

-- a classic file, with its header, or why it is none
abbrev pub classic_form : Result Header HeaderRefusal → Result Form FormRefusal
classic_form (Ok found) = Ok (form.Classic found)
classic_form (Err header.Short) = Err refusal.Short
classic_form (Err header.Magic) = Err refusal.Magic
classic_form (Err header.Version) = Err refusal.Version
classic_form (Err header.LinkType) = Err refusal.LinkType

-- a file that begins with a section header is a pcapng file; every other is a classic one. These link types are read
abbrev pub form_in : LinkSet → List ℕ → Result Form FormRefusal
form_in kinds octets =
    if is_section octets then
    (if nat_lt (length octets) 28 then Err refusal.Short
    else if is_wrong_section (order_at no_section.big_endian octets) octets then Err refusal.Section
    else Ok (form.Blocks (before_sections kinds)))
    else classic_form (header_in kinds octets)

-- the form of a file of Ethernet or raw IP
abbrev pub form_of : List ℕ → Result Form FormRefusal
form_of octets = form_in set.Plain octets

-- the place of the first record or block: after the header of a classic file, and at the front of a pcapng file, whose first
-- section header is its first block
abbrev pub first_place : Form → ℕ
first_place (form.Classic found) = 24
first_place (form.Blocks section) = 0

-- the octets that a record or a block has at most
abbrev pub room_of : Form → ℕ
room_of (form.Classic found) = 262160
room_of (form.Blocks section) = 16777216

-- the interface of a number in the section of a pcapng file
abbrev pub interface_of : Form → ℕ → Option Interface
interface_of (form.Classic found) number = None
interface_of (form.Blocks section) number = slice_get section.interfaces number

-- what is answered about a file's octets
abbrev pub FormsAs : LinkSet → List ℕ → Result Form OpenFault → Type 0
FormsAs kinds octets (Ok file_form) = form_in kinds octets ≡ Ok file_form
FormsAs kinds octets (Err (fault.Refused of)) = form_in kinds octets ≡ Err of
FormsAs kinds octets (Err fault.NoMemory) = Unit {0}
FormsAs kinds octets (Err fault.Read) = ⊥
