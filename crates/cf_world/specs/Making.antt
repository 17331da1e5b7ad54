-- Steps of the proof: the making of a capture, record by record: `AppendsRecords` says what the records append to its file.
use Rattle.std.specs.Prelude.{◌≡◌, ◌≤◌, ◌<◌, ℕ, ◌+◌, List, [], ◌∷◌, ◌++◌, Result, Ok, Err, length, take}
use Rattle.std.specs.List.{flat_map}
use Rattle.cf_outside.specs.Files.{Content, with_appended}
use Rattle.cf_pcap.specs.Header.{output_header}
use Rattle.cf_pcap.specs.Record.{Whole, head_octets, record_of}
use Rattle.cf_view.specs.Moment.{moment_limit}
use Rattle.cf_records.specs.Capture.{Record}
use Rattle.cf_records.specs.Moments.{first_moment}
use Rattle.cf_hosts.specs.Sessions.{HasPacket}
use Rattle.cf_world.specs.Capture.{BeginsEach}
use Rattle.cf_world.specs.declared.world.TheConstants.{RECORD_LIMIT}
use Rattle.cf_world.specs.declared.world.WorldFault.{WorldFault}

-- the octets of a record
abbrev pub record_octets : Record → List ℕ
record_octets r = head_octets r.stamp (length r.body) ++ r.body

abbrev pub records_octets : List Record → List ℕ
records_octets rs = flat_map record_octets rs

-- a record that is read again, whatever follows
abbrev pub IsReadAgain : Record → Type 0
IsReadAgain r = (rest : List ℕ) → record_of output_header (record_octets r ++ rest) ≡ Whole r.stamp r.body (16 + length r.body)

-- a record that is made: its link kind is that of the header, its moment is below the limit, it has at most 1,500 octets, and they are a
-- packet
pub record IsMade (r : Record) : Type 0 where
  pub link : r.link ≡ output_header.link
  pub below : r.stamp < moment_limit
  pub short : length r.body ≤ 1500
  pub packet : HasPacket r
  pub again : IsReadAgain r

-- records that are made, of which the first is stamped no earlier than a least moment, and each other one at least 2 milliseconds
-- later than the one before
abbrev pub AreMade : (least : ℕ) → List Record → Type 0
AreMade least [] = Unit {0}
AreMade least (r ∷ rs) = (least ≤ r.stamp) × IsMade r × AreMade (r.stamp + 2000) rs

-- the least stamp of a record after these
abbrev pub least_after : (least : ℕ) → List Record → ℕ
least_after least [] = least
least_after least (r ∷ rs) = least_after (r.stamp + 2000) rs

-- what one record appends; after a fault a beginning of it may stand there
abbrev pub AppendsRecord : Record → (old new : Content) → Result Unit WorldFault → Type 0
AppendsRecord r old new (Ok _) = new ≡ with_appended old (record_octets r)
AppendsRecord r old new (Err fault) = (k : ℕ) × (new ≡ with_appended old (take k (record_octets r)))

-- records were made, and are appended whole
pub record AppendsAll (sessions : ℕ) (old new : Content) : Type 0 where
  pub records : List Record
  pub made : AreMade first_moment records
  pub few : length records ≤ RECORD_LIMIT
  pub begins : length records < RECORD_LIMIT → BeginsEach sessions records
  pub in_file : new ≡ with_appended old (records_octets records)

-- or so many of their first octets are
pub record AppendsPart (old new : Content) : Type 0 where
  pub records : List Record
  pub made : AreMade first_moment records
  pub few : length records ≤ RECORD_LIMIT
  pub count : ℕ
  pub in_file : new ≡ with_appended old (take count (records_octets records))

abbrev pub AppendsRecords : (sessions : ℕ) → (old new : Content) → Result Unit WorldFault → Type 0
AppendsRecords sessions old new (Ok _) = AppendsAll sessions old new
AppendsRecords sessions old new (Err fault) = AppendsPart old new
