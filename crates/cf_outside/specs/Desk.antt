-- What a desk tells, and what its calls do to it. The main definitions are `DeskValue`, and `Emits` and `PutsLine`, one for
-- each call.
use Rattle.std.specs.Prelude.{◌≡◌, ◌≢◌, ◌≤◌, ◌⊎◌, ℕ, Bool, false, not, ◌&&◌}
use Rattle.std.specs.Prelude.{Option, None, Some, option_map, List, [], ◌∷◌, ◌++◌, take}
use Rattle.std.specs.Borrow.{GName}
use Rattle.cf_outside.specs.Faults.{HasCause}
use Rattle.cf_outside.specs.Files.{Content}
use Rattle.cf_outside.specs.Lines.{file_lines, file_part, ends_with_line}
use Rattle.cf_outside.specs.declared.files.WriteAnswer.{WriteAnswer}
use Rattle.cf_outside.specs.declared.files.WriteAnswer.TheVariants as write

-- a packet that was emitted, and its moment in microseconds
pub record SentValue : Type 0 where
  pub moment : ℕ
  pub bytes : List ℕ

-- what a desk tells: its two lists, each where it tells it, whether it may be called, and how often a call failed; the octets
-- that stand after the last whole packet and after the last whole line, and the octets of a packet where it keeps them; and
-- of a desk over lent files the reference that it writes through, how often a read of each file failed there, the names of its own
-- files, and every file behind that reference
pub record DeskValue : Type 0 where
  pub packets : Option (List SentValue)
  pub lines : Option (List (List ℕ))
  pub packet_part : List ℕ
  pub line_part : List ℕ
  pub octets : SentValue → List ℕ
  pub whole : Bool
  pub faults : ℕ
  pub lender : Option GName
  pub reads : List ℕ → ℕ
  pub names : List (List ℕ)
  pub content : List ℕ → Content

-- a list with one more item at its end, where it is told
abbrev pub with_item : {A : Type 0} → A → Option (List A) → Option (List A)
with_item item items = option_map (λ all. all ++ item ∷ []) items

-- an item was added; after a failure it may have been added all the same, and else a beginning of its octets may stand after
-- the last whole item
abbrev pub Adds : {A : Type 0} → A → (octets : List ℕ) → Option (List A) → Option (List A) → (part : List ℕ) → WriteAnswer → Type 0
Adds item octets old new part write.Done = new ≡ with_item item old
Adds item octets old new part write.Failed =
    ((new ≡ old) × ((k : ℕ) × (part ≡ take k octets))) ⊎ ((new ≡ with_item item old) × (part ≡ []))

-- a desk is whole until a call fails
abbrev pub whole_after : Bool → WriteAnswer → Bool
whole_after whole write.Done = whole
whole_after whole write.Failed = false

-- a name is none of these
abbrev pub IsNoneOf : List (List ℕ) → List ℕ → Type 0
IsNoneOf [] other = Unit {0}
IsNoneOf (name ∷ names) other = (other ≢ name) × IsNoneOf names other

-- whatever was put there, the desk is the same one, its count has not fallen, and files of other names are as they were
pub record KeepsDesk (old new : DeskValue) : Type 0 where
  pub later : old.faults ≤ new.faults
  pub lender : new.lender ≡ old.lender
  pub reads : new.reads ≡ old.reads
  pub names : new.names ≡ old.names
  pub octets : new.octets ≡ old.octets
  pub others : (other : List ℕ) → IsNoneOf old.names other → new.content other ≡ old.content other

-- a call that emits a packet
pub record Emits (moment : ℕ) (packet : List ℕ) (old new : DeskValue) (answer : WriteAnswer) : Type 0 where
  pub packets : Adds (record { moment = moment; bytes = packet }) (old.octets (record { moment = moment; bytes = packet }))
      old.packets new.packets new.packet_part answer
  pub packet_part : answer ≡ write.Done → new.packet_part ≡ old.packet_part
  pub lines : new.lines ≡ old.lines
  pub line_part : new.line_part ≡ old.line_part
  pub whole : new.whole ≡ whole_after old.whole answer
  pub cause : HasCause old.faults new.faults (answer ≡ write.Failed)
  pub keeps : KeepsDesk old new

-- a call that puts a line
pub record PutsLine (text : List ℕ) (old new : DeskValue) (answer : WriteAnswer) : Type 0 where
  pub packets : new.packets ≡ old.packets
  pub packet_part : new.packet_part ≡ old.packet_part
  pub lines : Adds text text old.lines new.lines new.line_part answer
  pub line_part : answer ≡ write.Done → new.line_part ≡ old.line_part
  pub whole : new.whole ≡ whole_after old.whole answer
  pub cause : HasCause old.faults new.faults (answer ≡ write.Failed)
  pub keeps : KeepsDesk old new

-- a desk that writes a log alone, through lent files: it tells the log's lines and no packets, and is whole where no call
-- failed and nothing stands after the log's last line feed, since the next line would else join it
abbrev pub line_desk : (failed : Bool) → (lender : GName) → (faults : ℕ) → (reads : List ℕ → ℕ) → (log : List ℕ) → (List ℕ → Content) → DeskValue
line_desk failed lender faults reads log content = record {
  packets = None;
  lines = file_lines (content log);
  packet_part = [];
  line_part = file_part (content log);
  octets = λ sent. [];
  whole = not failed && ends_with_line (content log);
  faults = faults;
  lender = Some lender;
  reads = reads;
  names = log ∷ [];
  content = content;
}
