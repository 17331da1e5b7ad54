-- The capture file of sent packets is read as these packets at these moments: RunsAreReadBack, read from the end.
use Rattle.std.specs.Prelude.{◌≡◌, ℕ, ◌<◌, ◌≤◌, ◌^◌, List, drop, length, map, Ok}
use Rattle.std.specs.List.{AllByRecursion}
use Rattle.cf_leg.specs.Emitted.{spelled}
use Rattle.cf_packet.specs.Packet.{read_record}
use Rattle.cf_packet.specs.Written.{IsWritable}
use Rattle.cf_pcap.specs.Header.{output_header}
use Rattle.cf_view.specs.Moment.{moment_limit}
use Rattle.cf_policy.specs.declared.Asset.{Asset}
use Rattle.cf_records.specs.Capture.{AreRecords, FileEnd, LastPlace, Record}
use Rattle.cf_records.specs.Form.{form_of}
use Rattle.cf_run.specs.Run.{IsRun}
use Rattle.cf_run.specs.Trace.{Input, sent}
use Rattle.cf_records.specs.declared.Form.{Form}
use Rattle.cf_records.specs.declared.Form.TheVariants as form
use Rattle.cf_run.specs.declared.summary.Summary.{Summary}
use Rattle.cf_session.specs.Sent.{Sent}
use Rattle.cf_view.specs.Octets.{IsOctets}
use Rattle.cf_view.specs.declared.LinkKind.TheVariants as link

-- a packet may be written at its moment
pub record MayBeWritten (s : Sent) : Type 0 where
  pub moment : s.moment < moment_limit
  pub packet : IsWritable s.packet

-- the form of the files that are written
abbrev pub output_form : Form
output_form = form.Classic output_header

-- the record of a packet that was sent
abbrev pub record_by : Sent → Record
record_by s = record { stamp = s.moment; link = link.RawIp; body = spelled s.packet }

-- a packet whose octets are read as it
abbrev pub IsReadAgain : Sent → Type 0
IsReadAgain s = read_record link.RawIp (spelled s.packet) ≡ Ok s.packet

-- octets that have the header, and a record for each packet, in their order, up to their end
pub record ReadsAs (octets : List ℕ) (all : List Sent) : Type 0 where
  pub has_form : form_of octets ≡ Ok output_form
  pub last : LastPlace
  pub ends : last.found ≡ FileEnd
  pub are : AreRecords output_form 24 (drop 24 octets) (map record_by all) last
  pub packets : AllByRecursion IsReadAgain all

-- the output capture of a run over records in time is read as what its events sent
abbrev pub RunsAreReadBack : Type 0
RunsAreReadBack =
    (assets : List Asset) (limit : ℕ) (given : List Input) (out log : List ℕ) (summary : Summary)
    (run : IsRun assets limit given out log summary) →
    AllByRecursion (λ i. i.moment < moment_limit) given → IsOctets out → length out ≤ 2 ^ 40 → ReadsAs out (sent run.events)
