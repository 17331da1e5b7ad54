-- Object headers with their objects, `headers_in`, which stands last: group, variation, qualifier, range, and the objects. IEEE
-- 1815-2012, section 4.2.2.
use Rattle.std.specs.Prelude.{◌≡◌, ℕ, zero, suc, ◌+◌, ◌-◌, ◌≤◌, ◌&&◌, ◌||◌, ◌==◌, nat_lt, nat_le, if◌then◌else◌, Bool, List, [], ◌∷◌}
use Rattle.std.specs.Prelude.{length, take, drop, slice_index, Option, Some, None, Result, Ok, Err}
use Rattle.cf_view.specs.Octets.{u16_le_at}
use Rattle.cf_dnpobj.specs.declared.fragment.FragmentRefusal.{FragmentRefusal}
use Rattle.cf_dnpobj.specs.declared.fragment.FragmentRefusal.TheVariants as refusal
use Rattle.cf_dnpobj.specs.declared.object.Layout.{Layout}
use Rattle.cf_dnpobj.specs.Objects.{layout_of, takes, is_span, is_all, width, range_size, objects_size}

-- a number of so many octets, the low one first
abbrev pub number_at : ℕ → List ℕ → ℕ → ℕ
number_at w octets i = if w == 0 then 0 else (if w == 1 then slice_index octets i else u16_le_at octets i)

-- the number of objects that the range of the first header tells; 0 where its start is above its stop
abbrev pub count_of : List ℕ → ℕ
count_of octets =
    let q = slice_index octets 2 in
    if is_span q then number_at (width q) octets (3 + width q) + 1 - number_at (width q) octets 3 else number_at (width q) octets 3

-- the size of the first header with objects of a layout
abbrev pub size_of : Layout → List ℕ → ℕ
size_of l octets = 3 + range_size (slice_index octets 2) + objects_size l (slice_index octets 2) (count_of octets)

-- a qualifier that is taken, a whole range, one object at least or all points, and whole objects
abbrev pub is_whole : Layout → List ℕ → Bool
is_whole l octets =
    let q = slice_index octets 2 in
    takes l q && (nat_le (3 + range_size q) (length octets)
    && ((is_all q || nat_lt 0 (count_of octets)) && nat_le (size_of l octets) (length octets)))

-- the size of the first header with its objects, where they lie so
abbrev pub sized : Option Layout → List ℕ → Result ℕ FragmentRefusal
sized None octets = Err refusal.Object
sized (Some l) octets = if is_whole l octets then Ok (size_of l octets) else Err refusal.Parameter

-- the size of the first header with its objects, in a request with this code, or its fault
abbrev pub header_size : ℕ → List ℕ → Result ℕ FragmentRefusal
header_size code octets =
    if nat_lt (length octets) 3 then Err refusal.Parameter
    else sized (layout_of code (slice_index octets 0) (slice_index octets 1)) octets

-- the octets are one header with its objects
abbrev pub IsHeader : ℕ → List ℕ → Type 0
IsHeader code octets = header_size code octets ≡ Ok (length octets)

-- the octets begin with this header
pub record BeginsWithHeader (code : ℕ) (octets header : List ℕ) : Type 0 where
  pub header_is : IsHeader code header
  pub size : header_size code octets ≡ Ok (length header)
  pub front : header ≡ take (length header) octets
  pub inside : length header ≤ length octets
  pub least : 3 ≤ length header
  pub range : 3 + range_size (slice_index header 2) ≤ length header

-- a header before others
abbrev pub with_first : List ℕ → Result (List (List ℕ)) FragmentRefusal → Result (List (List ℕ)) FragmentRefusal
with_first h (Ok hs) = Ok (h ∷ hs)
with_first h (Err e) = Err e

-- the first header, of this size, and then what the rest is
abbrev pub after_size : Result ℕ FragmentRefusal → List ℕ → (List ℕ → Result (List (List ℕ)) FragmentRefusal)
    → Result (List (List ℕ)) FragmentRefusal
after_size (Err e) octets more = Err e
after_size (Ok size) octets more = with_first (take size octets) (more (drop size octets))

-- the headers from the front, at most so many, or the first fault
abbrev pub headers_by : ℕ → ℕ → List ℕ → Result (List (List ℕ)) FragmentRefusal
headers_by most code [] = Ok []
headers_by zero code (o ∷ octets) = Err refusal.Parameter
headers_by (suc n) code (o ∷ octets) = after_size (header_size code (o ∷ octets)) (o ∷ octets) (λ rest. headers_by n code rest)

-- all headers from the front, each with its objects, or the first fault
abbrev pub headers_in : ℕ → List ℕ → Result (List (List ℕ)) FragmentRefusal
headers_in code octets = headers_by (length octets) code octets
