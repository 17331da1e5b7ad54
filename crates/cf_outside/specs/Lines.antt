-- The lines of a text, each of which ends with its only line feed: `is_line` and `file_lines`.
use Rattle.std.specs.Prelude.{ℕ, ◌==◌, Bool, true, false, Option, None, Some, List, [], ◌∷◌, ◌++◌, if◌then◌else◌}
use Rattle.cf_outside.specs.Files.{Content, untold, absent, holds}

-- a list without an octet
abbrev pub is_nothing : List ℕ → Bool
is_nothing [] = true
is_nothing (byte ∷ bytes) = false

-- a line: its line feed is its last octet and its only one
abbrev pub is_line : List ℕ → Bool
is_line [] = false
is_line (byte ∷ bytes) = if byte == 10 then is_nothing bytes else is_line bytes

-- the whole lines of a text whose first line begins with this part
abbrev pub lines_from : List ℕ → List ℕ → List (List ℕ)
lines_from part [] = []
lines_from part (byte ∷ bytes) = if byte == 10 then (part ++ byte ∷ []) ∷ lines_from [] bytes else lines_from (part ++ byte ∷ []) bytes

-- what stands after its last line feed
abbrev pub rest_from : List ℕ → List ℕ → List ℕ
rest_from part [] = part
rest_from part (byte ∷ bytes) = if byte == 10 then rest_from [] bytes else rest_from (part ++ byte ∷ []) bytes

-- the whole lines of a file, where it is told
abbrev pub file_lines : Content → Option (List (List ℕ))
file_lines untold = None
file_lines absent = None
file_lines (holds all) = Some (lines_from [] all)

-- what stands after the last line feed of a file, as far as it is told
abbrev pub file_part : Content → List ℕ
file_part untold = []
file_part absent = []
file_part (holds all) = rest_from [] all

-- a content that is empty or ends with a line
abbrev pub ends_with_line : Content → Bool
ends_with_line untold = true
ends_with_line absent = true
ends_with_line (holds all) = is_nothing (rest_from [] all)
