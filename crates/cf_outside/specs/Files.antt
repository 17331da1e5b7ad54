-- What an object outside tells of a file, and what the calls on files do to it. The main definitions are `Content`, and
-- `ReadsAt`, `Creates`, `Appends` and `GoesOn`, one for each call; below them stand a file read whole and one written in pieces.
use Rattle.std.specs.Prelude.{◌≡◌, ◌≢◌, ◌<◌, ◌≤◌, ◌==◌, ◌-◌, ◌⊎◌, ℕ, List, [], ◌∷◌, ◌++◌, length, take, drop, slice_get, unwrap_or}
use Rattle.std.specs.Prelude.{if◌then◌else◌}
use Rattle.cf_outside.specs.declared.files.ReadAnswer.{ReadAnswer}
use Rattle.cf_outside.specs.declared.files.ReadAnswer.TheVariants as read
use Rattle.cf_outside.specs.declared.files.WriteAnswer.{WriteAnswer}
use Rattle.cf_outside.specs.declared.files.WriteAnswer.TheVariants as write

-- what is told of a file: nothing, that there is none, or what it holds
pub data Content : Type 0 where
  -- nothing, as real files
  untold : Content
  -- there is no such file
  absent : Content
  -- its bytes
  holds : List ℕ → Content

-- a file after it was created
abbrev pub content_after_create : Content → Content
content_after_create untold = untold
content_after_create absent = holds []
content_after_create (holds all) = holds []

-- a file with bytes at its end
abbrev pub with_appended : Content → List ℕ → Content
with_appended untold bytes = untold
with_appended absent bytes = absent
with_appended (holds all) bytes = holds (all ++ bytes)

-- what a text needs at its end, so that its last line has its line feed
abbrev pub missing_feed : List ℕ → List ℕ
missing_feed all = if unwrap_or (slice_get all (length all - 1)) 10 == 10 then [] else 10 ∷ []

-- a file that is gone on with, line by line
abbrev pub content_gone_on : Content → Content
content_gone_on untold = untold
content_gone_on absent = holds []
content_gone_on (holds all) = holds (all ++ missing_feed all)

-- bytes that stand at a place
abbrev pub HasAt : Content → ℕ → List ℕ → Type 0
HasAt untold at bytes = Unit {0}
HasAt absent at bytes = ⊥
HasAt (holds all) at bytes = take (length bytes) (drop at all) ≡ bytes

-- the file has no byte at that place or past it
abbrev pub IsAtEnd : Content → ℕ → Type 0
IsAtEnd untold at = Unit {0}
IsAtEnd absent at = ⊥
IsAtEnd (holds all) at = length all ≤ at

-- every file but the one of this name is as it was
abbrev pub KeepsOthers : List ℕ → (List ℕ → Content) → (List ℕ → Content) → Type 0
KeepsOthers name old new = (other : List ℕ) → other ≢ name → new other ≡ old other

-- a read at a place into a buffer
abbrev pub ReadsAt : Content → ℕ → List ℕ → ReadAnswer → Type 0
ReadsAt file at buffer (read.Got n) = (1 ≤ n) × (n ≤ length buffer) × HasAt file at (take n buffer)
ReadsAt file at buffer read.End = IsAtEnd file at
ReadsAt file at buffer read.Failed = Unit {0}

-- a creation; one that failed may have been done all the same
abbrev pub Creates : Content → Content → WriteAnswer → Type 0
Creates old new write.Done = new ≡ content_after_create old
Creates old new write.Failed = (new ≡ old) ⊎ (new ≡ content_after_create old)

-- an append to a file that is there; one that failed may have put a prefix
abbrev pub Appends : List ℕ → Content → Content → WriteAnswer → Type 0
Appends bytes old new write.Done = (old ≢ absent) × (new ≡ with_appended old bytes)
Appends bytes old new write.Failed = (k : ℕ) × (new ≡ with_appended old (take k bytes))

-- a file made ready to be gone on with; a call that failed may have done so all the same
abbrev pub GoesOn : Content → Content → WriteAnswer → Type 0
GoesOn old new write.Done = new ≡ content_gone_on old
GoesOn old new write.Failed = (new ≡ old) ⊎ (new ≡ content_gone_on old)

-- the file begins with these bytes
abbrev pub BeginsWith : Content → List ℕ → Type 0
BeginsWith untold bytes = Unit {0}
BeginsWith absent bytes = length bytes ≡ 0
BeginsWith (holds all) bytes = take (length bytes) all ≡ bytes

-- the file is these bytes
abbrev pub IsWhole : Content → List ℕ → Type 0
IsWhole untold bytes = Unit {0}
IsWhole absent bytes = ⊥
IsWhole (holds all) bytes = bytes ≡ all

-- the file has more bytes than so many
abbrev pub IsLongerThan : Content → ℕ → Type 0
IsLongerThan untold limit = Unit {0}
IsLongerThan absent limit = ⊥
IsLongerThan (holds all) limit = limit < length all

-- a file that was created and got these bytes
abbrev pub content_after_write : Content → List ℕ → Content
content_after_write old bytes = with_appended (content_after_create old) bytes

-- a file as it was, or one that was created and got a prefix of these bytes
abbrev pub IsPartly : List ℕ → Content → Content → Type 0
IsPartly bytes old new = (new ≡ old) ⊎ ((k : ℕ) × (new ≡ content_after_write old (take k bytes)))
