-- Which texts are numbers, addresses and ranges: printed_number, address and number_span.
use Rattle.std.specs.Prelude.{ℕ, ◌+◌, ◌*◌, ℤ, pos, nat_abs, int_le, Bool, ◌&&◌, ◌||◌, nat_eq, nat_lt, if◌then◌else◌, List, [], ◌∷◌, length}
use Rattle.std.specs.Prelude.{drop, Option, Some, None, unwrap_or, option_map, option_and_then, codes, bytes_eq}
use Rattle.std.specs.List.{starts_with}
use Rattle.std.specs.Fmt.{signed_decimal}
use Rattle.std.specs.Str.Parse.{signed_digits_value}
use Rattle.cf_policy.specs.declared.policy.Span.{Span}

-- the number that the text's digits write, if the text is how that number is printed: decimal digits without leading
-- zeros, after a `-` if it is below zero
abbrev pub printed_number : List ℕ → Option ℤ
printed_number text = let z = signed_digits_value 10 text in if bytes_eq text (signed_decimal z) then Some z else None

-- a `+`, or a zero before another digit or after `-`, which no number has as it is printed
abbrev pub has_spare : List ℕ → Bool
has_spare text =
    starts_with nat_eq text (codes "+")
    || (starts_with nat_eq text (codes "-0") || (nat_lt 1 (length text) && starts_with nat_eq text (codes "0")))

-- the number, if it is from low to high
abbrev pub within : ℤ → ℤ → ℤ → Option ℤ
within low high z = if int_le low z && int_le z high then Some z else None

-- the number of a text, where it lies in the range
abbrev pub printed_number_in : ℤ → ℤ → List ℕ → Option ℤ
printed_number_in low high text = option_and_then (within low high) (printed_number text)

-- what stands before and what stands after the first place at which the mark stands
abbrev pub split_at_mark : List ℕ → List ℕ → Option (List ℕ × List ℕ)
split_at_mark mark [] = None
split_at_mark mark (b ∷ bs) =
    if starts_with nat_eq (b ∷ bs) mark then Some ([], drop (length mark) (b ∷ bs))
    else option_map (λ p. (b ∷ p.0, p.1)) (split_at_mark mark bs)

-- the first and the last of a range; a text without `..` is both
abbrev pub ends : List ℕ → List ℕ × List ℕ
ends text = unwrap_or (split_at_mark (codes "..") text) (text, text)

-- the span from a to b, if a is not above b
abbrev pub span : ℤ → ℤ → Option Span
span a b = if int_le a b then Some (record { low = a; high = b }) else None

-- a range by what its ends mean, or one such end
abbrev pub span_by : (List ℕ → Option ℤ) → List ℕ → Option Span
span_by read text = let both = ends text in option_and_then (λ a. option_and_then (span a) (read both.1)) (read both.0)

-- a number from low to high, or a range of such numbers
abbrev pub number_span : ℤ → ℤ → List ℕ → Option Span
number_span low high text = span_by (printed_number_in low high) text

-- an octet of a dotted address
abbrev pub octet : List ℕ → Option ℕ
octet text = option_map nat_abs (printed_number_in (pos 0) (pos 255) text)

-- the number of four octets, the first the highest
abbrev pub joined : ℕ → ℕ → ℕ → ℕ → ℕ
joined a b c d = ((a * 256 + b) * 256 + c) * 256 + d

-- the address of four octets, each a text
abbrev pub octets : List ℕ → List ℕ → List ℕ → List ℕ → Option ℕ
octets a b c d =
    option_and_then (λ i. option_and_then (λ j. option_and_then (λ k. option_map (joined i j k) (octet d)) (octet c)) (octet b)) (octet a)

-- four octets with points between them
abbrev pub address : List ℕ → Option ℕ
address text =
    option_and_then (λ p. option_and_then (λ q. option_and_then (λ r. octets p.0 q.0 r.0 r.1)
    (split_at_mark (codes ".") q.1)) (split_at_mark (codes ".") p.1)) (split_at_mark (codes ".") text)
