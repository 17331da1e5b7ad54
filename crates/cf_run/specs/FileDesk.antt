-- Steps of the proof: what a desk over two files tells: `file_desk`.
use Rattle.std.specs.Prelude.{ℕ, ◌&&◌, not, Bool, true, None, Some, List, [], ◌∷◌, bytes_eq}
use Rattle.std.specs.Borrow.{GName}
use Rattle.cf_outside.specs.Desk.{DeskValue}
use Rattle.cf_outside.specs.Files.{Content}
use Rattle.cf_outside.specs.Lines.{file_lines, file_part, ends_with_line}
use Rattle.cf_session.specs.Told.{Told}
use Rattle.cf_run.specs.OutputFile.{file_packets, packet_part, record_octets, ends_with_record}

-- a desk that writes packets to one file and lines to another, through lent files: it tells the packets of the one and the
-- lines of the other, and is whole where no call failed, the two names differ, and the next record and line stand alone
abbrev pub file_desk : (failed : Bool) → (lender : GName) → (faults : ℕ) → (reads : List ℕ → ℕ) → (out log : List ℕ) → (List ℕ → Content) → DeskValue
file_desk failed lender faults reads out log content = record {
  packets = file_packets (content out);
  lines = file_lines (content log);
  packet_part = packet_part (content out);
  line_part = file_part (content log);
  octets = record_octets;
  whole = not failed && not (bytes_eq out log) && ends_with_record (content out) && ends_with_line (content log);
  faults = faults;
  lender = Some lender;
  reads = reads;
  names = out ∷ log ∷ [];
  content = content;
}

-- what it tells of its two files
abbrev pub files_told : (out log : List ℕ) → (List ℕ → Content) → Told
files_told out log content = record { packets = file_packets (content out); lines = file_lines (content log) }

-- a desk over them, whatever was called
abbrev pub files_desk : (out log : List ℕ) → (List ℕ → Content) → DeskValue
files_desk out log content = record {
  packets = file_packets (content out);
  lines = file_lines (content log);
  packet_part = packet_part (content out);
  line_part = file_part (content log);
  octets = record_octets;
  whole = true;
  faults = 0;
  lender = None;
  reads = λ _. 0;
  names = out ∷ log ∷ [];
  content = content;
}

-- the next record and the next line stand alone
abbrev pub are_whole : (out log : List ℕ) → (List ℕ → Content) → Bool
are_whole out log content = ends_with_record (content out) && ends_with_line (content log)
