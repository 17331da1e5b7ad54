-- What a call leaves as it was: of files `OnlyReads`, `OnlyWrites` and `KeepsOtherFiles`; and, steps of the proof, of a desk beside
-- what it puts there `OnlyEmits`, `OnlyLogs` and `EmitsAndLogs`.
use Rattle.std.specs.Prelude.{◌≡◌, ℕ, Bool, true, false, List}
use Rattle.cf_outside.specs.Desk.{DeskValue, IsNoneOf, KeepsDesk}
use Rattle.cf_outside.specs.Faults.{HasCause, HasCauseIn}
use Rattle.cf_outside.specs.Files.{Content}

-- packets were emitted and lines put, perhaps none: where the desk did not fail it is whole, and nothing new stands after its last
-- whole packet and its last whole line; a failure has its cause
pub record EmitsAndLogs (old new : DeskValue) (failed : Bool) : Type 0 where
  pub packet_part : failed ≡ false → new.packet_part ≡ old.packet_part
  pub line_part : failed ≡ false → new.line_part ≡ old.line_part
  pub whole : failed ≡ false → new.whole ≡ true
  pub keeps : KeepsDesk old new
  pub cause : HasCause old.faults new.faults (failed ≡ true)

-- packets alone were emitted: no line was put, not even in part
pub record OnlyEmits (old new : DeskValue) (failed : Bool) : Type 0 where
  pub lines : new.lines ≡ old.lines
  pub line_part : new.line_part ≡ old.line_part
  pub rest : EmitsAndLogs old new failed

-- lines alone were put: no packet was emitted, not even in part
pub record OnlyLogs (old new : DeskValue) (failed : Bool) : Type 0 where
  pub packets : new.packets ≡ old.packets
  pub packet_part : new.packet_part ≡ old.packet_part
  pub rest : EmitsAndLogs old new failed

-- every file but those that are written is as it was
abbrev pub KeepsOtherFiles : (written : List (List ℕ)) → (before after : List ℕ → Content) → Type 0
KeepsOtherFiles written before after = (other : List ℕ) → IsNoneOf written other → after other ≡ before other

-- files of these names alone were written: every other file is as it was, a failed call has its cause in a write that failed, and no
-- read failed
pub record OnlyWrites {A : Type 0} (names : List (List ℕ)) (content : A → List ℕ → Content) (read_faults : A → List ℕ → ℕ)
    (write_faults : A → ℕ) (old new : A) (failed : Type 0) : Type 0 where
  pub others : KeepsOtherFiles names (content old) (content new)
  pub cause : HasCause (write_faults old) (write_faults new) failed
  pub reads : read_faults new ≡ read_faults old

-- the file of this name was read alone: each file is as it was, a failed call has its cause in a read of that file that failed, no
-- read of another one failed, and no write
pub record OnlyReads {A : Type 0} (name : List ℕ) (content : A → List ℕ → Content) (read_faults : A → List ℕ → ℕ)
    (write_faults : A → ℕ) (old new : A) (failed : Type 0) : Type 0 where
  pub same : content new ≡ content old
  pub cause : HasCauseIn name (read_faults old) (read_faults new) failed
  pub writes : write_faults new ≡ write_faults old
