-- Steps of the proof: the number that stands beside an earlier rule, made of its name: name_number.
use Rattle.std.specs.Prelude.{ℕ, ◌+◌, ◌*◌, ◌%◌, ◌^◌, List, fold}

-- an octet more
abbrev pub with_octet : ℕ → ℕ → ℕ
with_octet number octet = (number * 257 % 2 ^ 32 + octet) % 2 ^ 32

-- the octets as a number to the base 257, of which 32 bits are kept
abbrev pub name_number : List ℕ → ℕ
name_number name = fold with_octet 0 name
