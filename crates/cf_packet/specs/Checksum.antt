-- The Internet checksum: checksum_of and is_right. RFC 1071, section 1.
use Rattle.std.specs.Prelude.{◌≡◌, ℕ, ◌+◌, ◌-◌, ◌*◌, ◌≤◌, ◌==◌, nat_lt, Bool, if◌then◌else◌, List, [], ◌∷◌}

-- the words of 16 bits of octets, the high octet first; an odd octet at the end is padded by a zero
abbrev pub words : List ℕ → List ℕ
words [] = []
words (high ∷ []) = (high * 256) ∷ []
words (high ∷ low ∷ octets) = (high * 256 + low) ∷ words octets

-- the one's complement sum of two words: a carry out of the 16 bits is added at the low end
abbrev pub plus : ℕ → ℕ → ℕ
plus a b = if nat_lt (a + b) 65536 then a + b else a + b - 65535

-- the one's complement sum of words
unfoldable pub ones_sum : List ℕ → ℕ
ones_sum [] = 0
ones_sum (w ∷ ws) = plus w (ones_sum ws)

-- the checksum of octets in which its own field is 0: the complement of their sum
abbrev pub checksum_of : List ℕ → ℕ
checksum_of octets = 65535 - ones_sum (words octets)

-- octets with their checksum in them are right: their sum has all bits set
abbrev pub is_right : List ℕ → Bool
is_right octets = ones_sum (words octets) == 65535

-- the sum of words with no carry added
abbrev pub total : List ℕ → ℕ
total [] = 0
total (w ∷ ws) = w + total ws

-- a number from which the carries of the words can be told: it is their sum, and 65535 so many times more
pub record Gathers (sum : ℕ) (octets : List ℕ) : Type 0 where
  pub carries : ℕ
  pub value : sum ≡ total (words octets) + 65535 * carries
  pub few : carries ≤ total (words octets)
