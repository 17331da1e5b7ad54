-- The headers of a fragment, one after the other.
use Rattle.std.proofs.Common.{◌≡◌, ℕ, zero, suc, ◌+◌, ◌-◌, ◌<◌, ◌≤◌, ◌&&◌, ◌||◌, nat_lt, nat_le, if◌then◌else◌, Bool, true, false, List, [], ◌∷◌, length, take, drop, slice_index, Option, Some, None, Result, Ok, Err, refl, sym, ◌∙◌, ap, arith}
use Rattle.std.proofs.lemmas.List.{length-drop, length-take-le, get_or-take}
use Rattle.std.proofs.lemmas.Bool.{le-ltb}
use Rattle.std.proofs.lemmas.Bool.Decides.{nat_tests}
use Rattle.cf_dnpobj.specs.declared.fragment.FragmentRefusal.{FragmentRefusal}
use Rattle.cf_dnpobj.specs.declared.fragment.FragmentRefusal.TheVariants as refusal
use Rattle.cf_dnpobj.specs.declared.object.Layout.{Layout}
use Rattle.cf_dnpobj.specs.Objects.{takes, is_span, is_all, width, range_size, objects_size}
use Rattle.cf_dnpobj.specs.Headers.{number_at, count_of, size_of, is_whole, sized, header_size, BeginsWithHeader, with_first, after_size, headers_by, headers_in}
use Rattle.std.proofs.lemmas.Grind.{common_steps}

abbrev IsLong : Result ℕ FragmentRefusal → Type 0
IsLong (Ok n) = 3 ≤ n
IsLong (Err e) = Unit {0}

sized_long : (l : Option Layout) (xs : List ℕ) → IsLong (sized l xs)
sized_long None xs = tt
sized_long (Some l) xs = elim (is_whole l xs) as (λ b. IsLong (if b then Ok (size_of l xs) else Err refusal.Parameter)) [ true ↦ omega arith | false ↦ tt ]

long : (code : ℕ) (xs : List ℕ) → IsLong (header_size code xs)
long code xs = grind (arith, nat_tests, common_steps, sized_long)

-- a longer limit changes nothing
same_after : (n m code : ℕ) (r : Result ℕ FragmentRefusal) (o : ℕ) (xs : List ℕ) → IsLong r → length xs ≤ n → length xs ≤ m →
    ((ys : List ℕ) → length ys ≤ n → length ys ≤ m → headers_by n code ys ≡ headers_by m code ys) →
    after_size r (o ∷ xs) (λ rest. headers_by n code rest) ≡ after_size r (o ∷ xs) (λ rest. headers_by m code rest)
same_after n m code r o xs h1 h2 h3 h4 = grind (arith, nat_tests, common_steps, length-drop)

same_headers : (n m code : ℕ) (xs : List ℕ) → length xs ≤ n → length xs ≤ m → headers_by n code xs ≡ headers_by m code xs
same_headers n m code [] h k = refl
same_headers zero m code (o ∷ xs) h k = absurd (omega (arith, h))
same_headers (suc n) zero code (o ∷ xs) h k = absurd (omega (arith, k))
same_headers (suc n) (suc m) code (o ∷ xs) h k =
    same_after n m code (header_size code (o ∷ xs)) o xs (long code (o ∷ xs)) (omega (arith, h)) (omega (arith, k)) (λ ys a b. same_headers n m code ys a b)

-- one header, and then the rest
pub after_first : (code : ℕ) (xs : List ℕ) (size : ℕ) → 0 < length xs → 3 ≤ size → header_size code xs ≡ Ok size →
    headers_in code xs ≡ with_first (take size xs) (headers_in code (drop size xs))
after_first code xs size h1 h2 h3 = grind (arith, nat_tests, common_steps, length-drop, same_headers)

pub headers_step : (code : ℕ) (xs h : List ℕ) → BeginsWithHeader code xs h → headers_in code xs ≡ with_first h (headers_in code (drop (length h) xs))
headers_step code xs h b = grind (arith, common_steps, after_first)

pub with_first_ok : (h : List ℕ) (r : Result (List (List ℕ)) FragmentRefusal) (hs : List (List ℕ)) → with_first h r ≡ Ok hs → (later : List (List ℕ)) × (r ≡ Ok later) × (hs ≡ h ∷ later)
with_first_ok h (Ok later) hs e = (let same : hs ≡ h ∷ later = cc in (later, refl, same))
with_first_ok h (Err x) hs e = cc

-- where all headers are whole, the first one is, and those of the rest are
pub headers_later : (code : ℕ) (xs h : List ℕ) (hs : List (List ℕ)) → BeginsWithHeader code xs h → headers_in code xs ≡ Ok hs →
    (later : List (List ℕ)) × (headers_in code (drop (length h) xs) ≡ Ok later) × (hs ≡ h ∷ later)
headers_later code xs h hs b e = with_first_ok h (headers_in code (drop (length h) xs)) hs (sym (headers_step code xs h b) ∙ e)

-- a header's octets are read from its front alone
number_front : (w i size : ℕ) (xs : List ℕ) → w ≤ 2 → i + w ≤ size → number_at w (take size xs) i ≡ number_at w xs i
number_front zero i size xs l h = refl
number_front (suc zero) i size xs l h = get_or-take size xs i 0 (omega (arith, h))
number_front (suc (suc zero)) i size xs l h = grind (arith, common_steps, get_or-take)
number_front (suc (suc (suc w))) i size xs l h = absurd (omega (arith, l))

width_small : (q : ℕ) → width q ≤ 2
width_small q = grind (arith, nat_tests)

same_count : (q : ℕ) (xs : List ℕ) (size : ℕ) → 3 + range_size q ≤ size →
    (if is_span q then number_at (width q) (take size xs) (3 + width q) + 1 - number_at (width q) (take size xs) 3 else number_at (width q) (take size xs) 3)
    ≡ (if is_span q then number_at (width q) xs (3 + width q) + 1 - number_at (width q) xs 3 else number_at (width q) xs 3)
same_count q xs size h = grind (arith, common_steps, number_front, width_small)

pub count_front : (xs : List ℕ) (size : ℕ) → 3 ≤ size → 3 + range_size (slice_index xs 2) ≤ size → count_of (take size xs) ≡ count_of xs
count_front xs size h r = grind (arith, common_steps, get_or-take, same_count)

-- the size by qualifier, count and octets that are there
unfoldable pub sized_by : Layout → ℕ → ℕ → ℕ → Result ℕ FragmentRefusal
sized_by l q n len =
    if takes l q && (nat_le (3 + range_size q) len && ((is_all q || nat_lt 0 n) && nat_le (3 + range_size q + objects_size l q n) len))
    then Ok (3 + range_size q + objects_size l q n) else Err refusal.Parameter

pub le_true : (a b : ℕ) → a ≤ b → nat_le a b ≡ true
le_true a b h = grind (arith, nat_tests)

fewer : (a c : Bool) (r s n m : ℕ) → m ≤ n → r ≤ m → (if a && (nat_le r n && (c && nat_le s n)) then Ok s else Err refusal.Parameter) ≡ Ok m →
    (if a && (nat_le r m && (c && nat_le s m)) then Ok s else Err refusal.Parameter) ≡ Ok m
fewer a c r s n m h1 h2 h3 = grind (arith, nat_tests, common_steps, le_true)

sized_fewer : (l : Layout) (q n len size : ℕ) → size ≤ len → 3 + range_size q ≤ size → sized_by l q n len ≡ Ok size → sized_by l q n size ≡ Ok size
unfolding sized_by
sized_fewer l q n len size h k e = fewer (takes l q) (is_all q || nat_lt 0 n) (3 + range_size q) (3 + range_size q + objects_size l q n) len size h k e

pub sized_is : (l : Layout) (xs : List ℕ) → sized (Some l) xs ≡ sized_by l (slice_index xs 2) (count_of xs) (length xs)
unfolding sized_by
sized_is l xs = refl

sized_front : (l : Option Layout) (xs : List ℕ) (size : ℕ) → 3 ≤ size → size ≤ length xs → 3 + range_size (slice_index xs 2) ≤ size → sized l xs ≡ Ok size → sized l (take size xs) ≡ Ok size
sized_front None xs size a b c e = cc
sized_front (Some l) xs size a b c e =
    let q : slice_index (take size xs) 2 ≡ slice_index xs 2 = get_or-take size xs 2 0 (omega (arith, a)) in
    sized_is l (take size xs)
    ∙ ap (λ (k : ℕ). sized_by l k (count_of (take size xs)) (length (take size xs))) q
    ∙ ap (λ (n : ℕ). sized_by l (slice_index xs 2) n (length (take size xs))) (count_front xs size a c)
    ∙ ap (λ (len : ℕ). sized_by l (slice_index xs 2) (count_of xs) len) (length-take-le size xs b)
    ∙ sized_fewer l (slice_index xs 2) (count_of xs) (length xs) size b c (sym (sized_is l xs) ∙ e)

-- the octets of the first header are that header
pub header_again : (code : ℕ) (xs : List ℕ) (size : ℕ) → 3 ≤ size → size ≤ length xs → 3 + range_size (slice_index xs 2) ≤ size → header_size code xs ≡ Ok size → header_size code (take size xs) ≡ Ok size
header_again code xs size a b c e =
    grind (arith, nat_tests, common_steps, long, length-take-le, get_or-take, le-ltb, sized_front)

pub begins_with_header : (code : ℕ) (xs : List ℕ) (size : ℕ) → header_size code xs ≡ Ok size → 3 ≤ size → size ≤ length xs → 3 + range_size (slice_index xs 2) ≤ size → BeginsWithHeader code xs (take size xs)
begins_with_header code xs size e a b c = grind (arith, common_steps, long, length-take-le, get_or-take, header_again)
