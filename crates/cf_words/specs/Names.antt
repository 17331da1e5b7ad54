-- Names of files (`are_names`) and numbers (`printed_number`) among the words.
use Rattle.std.specs.Prelude.{ℕ, ◌==◌, ◌^◌, Bool, true, not, ◌&&◌, nat_le, nat_lt, if◌then◌else◌, List, [], ◌∷◌, length, Option, None, Some}
use Rattle.std.specs.Prelude.{decimal, bytes_eq, option_and_then}
use Rattle.std.specs.List.{list_any}
use Rattle.std.specs.Str.Parse.{digits_value}

-- the number of 64 bits that the text is as it is printed: decimal, without sign or leading zeros
abbrev pub printed_number : List ℕ → Option ℕ
printed_number text =
    let n = digits_value 10 text in
    if nat_lt n (2 ^ 64) && bytes_eq text (decimal n) then Some n else None

-- the number of a text, if it is from low to high
abbrev pub printed_number_in : ℕ → ℕ → List ℕ → Option ℕ
printed_number_in low high text = option_and_then (λ n. if nat_le low n && nat_le n high then Some n else None) (printed_number text)

-- no name is empty, and no two are equal
abbrev pub are_names : List (List ℕ) → Bool
are_names [] = true
are_names (name ∷ names) = not (length name == 0) && (not (list_any (λ other. bytes_eq name other) names) && are_names names)
