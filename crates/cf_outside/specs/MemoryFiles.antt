-- Beside the proof: what files in memory hold, `MemoryFilesValue`, and what the calls do to them: `MemoryReads`, `MemoryCreates`,
-- `MemoryAppends` and `MemoryGoesOn`, one for each call.
use Rattle.std.specs.Prelude.{◌≡◌, ◌≢◌, ◌⊎◌, ◌≤◌, ℕ, min, Option, None, Some, IsSome, List, [], ◌∷◌, ◌++◌, length, take, drop}
use Rattle.std.specs.declared.alloc.Global.{Global}
use Rattle.std.specs.declared.vec.Vec.{Vec}
use Rattle.std.specs.BTreeMap.{get_by_text}
use Rattle.cf_outside.specs.Faults.{counted}
use Rattle.cf_outside.specs.Files.{Content, untold, absent, holds, content_gone_on, with_appended}
use Rattle.cf_outside.specs.Memory.{left_in}
use Rattle.cf_outside.specs.declared.script.Fail.{Fail}
use Rattle.cf_outside.specs.declared.memory_files.MemoryFiles.{MemoryFiles}
use Rattle.cf_outside.specs.declared.files.ReadAnswer.{ReadAnswer}
use Rattle.cf_outside.specs.declared.files.ReadAnswer.TheVariants as read
use Rattle.cf_outside.specs.declared.files.WriteAnswer.{WriteAnswer}
use Rattle.cf_outside.specs.declared.files.WriteAnswer.TheVariants as write

-- an entry of a map of files
abbrev pub content_of : Option (Vec ℕ Global) → Content
content_of None = absent
content_of (Some bytes) = holds bytes.items

-- the file of a name
abbrev pub file_in : MemoryFiles → List ℕ → Content
file_in files name = content_of (get_by_text files.files name)

-- each file by its name, the script, the counts, and the names of the files of which a read failed, the newest first
pub record MemoryFilesValue : Type 0 where
  pub content : List ℕ → Content
  pub fails : List Fail
  pub calls : ℕ
  pub read_faults : ℕ
  pub write_faults : ℕ
  pub lacks : ℕ
  pub failed_reads : List (List ℕ)

abbrev pub memory_files_value : MemoryFiles → MemoryFilesValue
memory_files_value files = record {
  content = file_in files;
  fails = files.fails.items;
  calls = files.calls;
  read_faults = files.read_faults;
  write_faults = files.write_faults;
  lacks = files.lacks;
  failed_reads = files.failed_reads.names;
}

-- the bytes that the next call leaves, where the script has it fail
abbrev pub next_file_fail : MemoryFilesValue → Option ℕ
next_file_fail files = left_in files.fails (counted files.calls)

-- what stands in a file from a place on
abbrev pub file_rest : Content → ℕ → List ℕ
file_rest untold at = []
file_rest absent at = []
file_rest (holds all) at = drop at all

-- a read of a file: as many bytes as there are and the buffer takes, which keeps what stood after them; it fails where it is
-- scripted or there is no such file, and takes no memory
abbrev pub MemoryReads : List ℕ → ℕ → List ℕ → List ℕ → MemoryFilesValue → MemoryFilesValue → ReadAnswer → Type 0
MemoryReads name at before after old new (read.Got n) =
    (next_file_fail old ≡ None) × (1 ≤ n) × (n ≡ min (length before) (length (file_rest (old.content name) at)))
    × (after ≡ take n (file_rest (old.content name) at) ++ drop n before) × (new ≡ record old { calls = counted old.calls })
MemoryReads name at before after old new read.End =
    (next_file_fail old ≡ None) × (old.content name ≢ absent) × (file_rest (old.content name) at ≡ []) × (after ≡ before)
    × (new ≡ record old { calls = counted old.calls })
MemoryReads name at before after old new read.Failed =
    (IsSome (next_file_fail old) ⊎ (old.content name ≡ absent)) × (after ≡ before)
    × (new ≡ record old { calls = counted old.calls; read_faults = counted old.read_faults; failed_reads = name ∷ old.failed_reads })

-- files of which one was written: beside it just the count of calls moves, after a failure that of the faults, and for want
-- of memory that of the lacks
abbrev pub with_content : (List ℕ → Content) → MemoryFilesValue → MemoryFilesValue
with_content content files = record files { content = content; calls = counted files.calls }

abbrev pub with_write_fault : (List ℕ → Content) → MemoryFilesValue → MemoryFilesValue
with_write_fault content files = record files { content = content; calls = counted files.calls; write_faults = counted files.write_faults }

abbrev pub with_write_lack : (List ℕ → Content) → MemoryFilesValue → MemoryFilesValue
with_write_lack content files =
    record files { content = content; calls = counted files.calls; write_faults = counted files.write_faults; lacks = counted files.lacks }

-- a creation; one that failed left the file as it was, and want of memory does not come where the script has it fail
abbrev pub MemoryCreates : List ℕ → MemoryFilesValue → MemoryFilesValue → WriteAnswer → Type 0
MemoryCreates name old new write.Done =
    (next_file_fail old ≡ None) × (new.content name ≡ holds []) × (new ≡ with_content new.content old)
MemoryCreates name old new write.Failed =
    (new.content name ≡ old.content name)
    × ((IsSome (next_file_fail old) × (new ≡ with_write_fault new.content old))
    ⊎ ((next_file_fail old ≡ None) × (new ≡ with_write_lack new.content old)))

-- an append; a failure by the script leaves as many bytes as it says; want of memory leaves none, and does not come where the
-- script leaves none or there is no such file
abbrev pub MemoryAppends : List ℕ → List ℕ → MemoryFilesValue → MemoryFilesValue → WriteAnswer → Type 0
MemoryAppends name bytes old new write.Done =
    (next_file_fail old ≡ None) × (old.content name ≢ absent) × (new.content name ≡ with_appended (old.content name) bytes)
    × (new ≡ with_content new.content old)
MemoryAppends name bytes old new write.Failed =
    ((left : ℕ) × (next_file_fail old ≡ Some left) × (new.content name ≡ with_appended (old.content name) (take left bytes))
    × (new ≡ with_write_fault new.content old))
    ⊎ ((old.content name ≡ absent) × (new.content name ≡ absent) × (new ≡ with_write_fault new.content old))
    ⊎ ((next_file_fail old ≢ Some 0) × (old.content name ≢ absent) × (new.content name ≡ old.content name)
    × (new ≡ with_write_lack new.content old))

-- a file made ready to be gone on with; a call that failed left it as it was, and want of memory does not come where the script
-- has it fail
abbrev pub MemoryGoesOn : List ℕ → MemoryFilesValue → MemoryFilesValue → WriteAnswer → Type 0
MemoryGoesOn name old new write.Done =
    (next_file_fail old ≡ None) × (new.content name ≡ content_gone_on (old.content name)) × (new ≡ with_content new.content old)
MemoryGoesOn name old new write.Failed =
    (new.content name ≡ old.content name)
    × ((IsSome (next_file_fail old) × (new ≡ with_write_fault new.content old))
    ⊎ ((next_file_fail old ≡ None) × (new ≡ with_write_lack new.content old)))
