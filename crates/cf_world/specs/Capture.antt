-- The capture of a world: IsCaptureOf says of which records its octets are, and BeginsEach that each session begins in them.
-- draft-ietf-opsawg-pcap; the settings are this project's own.
use Rattle.std.specs.Prelude.{◌≡◌, ◌≤◌, ◌<◌, ℕ, ◌+◌, List, [], ◌∷◌, Ok, length, take, drop}
use Rattle.std.specs.List.{AllByRecursion, Contains}
use Rattle.cf_pcap.specs.Header.{header_of, output_header, output_octets}
use Rattle.cf_records.specs.Capture.{FileEnd, Record}
use Rattle.cf_records.specs.Moments.{AreTimed, first_moment}
use Rattle.cf_records.specs.declared.Form.TheVariants as form
use Rattle.cf_hosts.specs.Sessions.{HasPacket, IsSyn}

-- the first record's stamp is at least so much, and that of each other one at least 2 milliseconds later than the one before
abbrev pub AreSpaced : (least : ℕ) → List Record → Type 0
AreSpaced least [] = Unit {0}
AreSpaced least (r ∷ rs) = (least ≤ r.stamp) × AreSpaced (r.stamp + 2000) rs

-- a capture file of these records alone: its header is the one that is written, each record is allowed and has its moment, each
-- is a packet, and the file ends after the last one
pub record IsCaptureOf (records : List Record) (octets : List ℕ) : Type 0 where
  pub header : take 24 octets ≡ output_octets
  pub read : header_of octets ≡ Ok output_header
  pub timed : AreTimed (form.Classic output_header) first_moment 24 (drop 24 octets) records
      (record { place = length octets; found = FileEnd })
  pub packets : AllByRecursion HasPacket records
  pub apart : AreSpaced first_moment records

-- each of so many sessions has one among the records
abbrev pub BeginsEach : (sessions : ℕ) → List Record → Type 0
BeginsEach sessions records = (session : ℕ) → session < sessions → (r : Record) × Contains records r × IsSyn session r
