-- Steps of the proof: a part of a file, read into a buffer: `IsFilled`.
use Rattle.std.specs.Prelude.{◌≡◌, ℕ, List, length, take, drop}
use Rattle.cf_outside.specs.Files.{Content, untold, absent, holds}

-- octets that, if there are any, were read at a place of a file
abbrev pub HasRead : Content → ℕ → List ℕ → Type 0
HasRead untold place octets = Unit {0}
HasRead absent place octets = length octets ≡ 0
HasRead (holds all) place octets = take (length octets) (drop place all) ≡ octets

-- octets that are the first of those at a place of a file, so many or all, as far as it is told
abbrev pub IsFilled : Content → (place size : ℕ) → List ℕ → Type 0
IsFilled untold place size octets = Unit {0}
IsFilled absent place size octets = ⊥
IsFilled (holds all) place size octets = octets ≡ take size (drop place all)
