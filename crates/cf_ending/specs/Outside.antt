-- What the objects outside tell at a moment, and their counts of faults: the main definition is `Outside`.
use Rattle.std.specs.Prelude.{◌≡◌, ◌⊎◌, ◌≤◌, ℕ, List, [], ◌∷◌, Option}
use Rattle.cf_outside.specs.Desk.{IsNoneOf}
use Rattle.cf_outside.specs.Faults.{Rose}
use Rattle.cf_outside.specs.Files.{Content}
use Rattle.cf_outside.specs.PairValue.{PairValue, pair_value}
use Rattle.cf_outside.specs.declared.Files.{Ghosts as FilesOf}
use Rattle.cf_outside.specs.declared.Pair.{Ghosts as PairOf}
use Rattle.cf_outside.specs.declared.Sink.{Ghosts as SinkOf}
use Rattle.cf_words.specs.Command.{Command, input_files}

-- the files by their names, and how often a read of each failed, and a creation or an append of any
pub record FilesValue : Type 0 where
  pub content : List ℕ → Content
  pub read_faults : List ℕ → ℕ
  pub write_faults : ℕ

-- all bytes put, and how often a put failed
pub record SinkValue : Type 0 where
  pub text : Option (List ℕ)
  pub faults : ℕ

-- the files, the sink and the pair, each with what it tells and its counts of faults
pub record Outside : Type 0 where
  pub files : FilesValue
  pub sink : SinkValue
  pub pair : PairValue

-- what the files tell, and their counts of faults
abbrev pub files_value : {F : Type 0} → FilesOf F → F → FilesValue
files_value F files = record { content = F.content files; read_faults = F.read_faults files; write_faults = F.write_faults files }

-- what the sink tells, and its count of faults
abbrev pub sink_value : {O : Type 0} → SinkOf O → O → SinkValue
sink_value O out = record { text = O.text out; faults = O.faults out }

-- the three together
abbrev pub outside : FilesValue → SinkValue → PairValue → Outside
outside files sink pair = record { files = files; sink = sink; pair = pair }

-- what the three objects that the program is handed tell, and their counts of faults
abbrev pub outside_value : {F O P : Type 0} → FilesOf F → SinkOf O → PairOf P → F → O → P → Outside
outside_value F O P files out pair = outside (files_value F files) (sink_value O out) (pair_value P pair)

-- of one of these names the count has risen
abbrev pub RoseIn : (names : List (List ℕ)) → (before after : List ℕ → ℕ) → Type 0
RoseIn [] before after = ⊥
RoseIn (name ∷ names) before after = Rose (before name) (after name) ⊎ RoseIn names before after

-- no count has fallen, and that of every other name than these is as it was
pub record RisesIn (names : List (List ℕ)) (before after : List ℕ → ℕ) : Type 0 where
  pub later : (name : List ℕ) → before name ≤ after name
  pub others : (other : List ℕ) → IsNoneOf names other → after other ≡ before other

-- a read of a file that the command reads failed in between
abbrev pub ReadFailed : Command → Outside → Outside → Type 0
ReadFailed c before after = RoseIn (input_files c) before.files.read_faults after.files.read_faults

-- a creation, an append or a put failed in between
abbrev pub WriteFailed : Outside → Outside → Type 0
WriteFailed before after = Rose before.files.write_faults after.files.write_faults ⊎ Rose before.sink.faults after.sink.faults

-- files of these names were read, and no others, and no file changed
pub record ReadsOnly (names : List (List ℕ)) (before after : FilesValue) : Type 0 where
  pub content : after.content ≡ before.content
  pub reads : RisesIn names before.read_faults after.read_faults
  pub writes : after.write_faults ≡ before.write_faults

-- no count of the files falls, and no read of other files than these failed
pub record FilesNeverFall (names : List (List ℕ)) (before after : FilesValue) : Type 0 where
  pub reads : RisesIn names before.read_faults after.read_faults
  pub writes : before.write_faults ≤ after.write_faults
