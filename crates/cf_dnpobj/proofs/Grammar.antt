-- What is read is spelled, and the reverse.
use Rattle.std.proofs.Common.{◌≡◌, ◌↔◌, ℕ, zero, suc, ◌+◌, ◌≤◌, ◌&&◌, ◌||◌, nat_lt, nat_le, not, if◌then◌else◌, Bool, true, false, List, [], ◌∷◌, ◌++◌, length, take, drop, slice_index, Option, Some, None, Result, Ok, Err, refl, sym, ◌∙◌, ap, subst, arith, length-append, take-append-drop}
use Rattle.std.specs.List.{AllByRecursion, concat}
use Rattle.std.proofs.Math.Seq.{take-append_seam, drop-append_seam}
use Rattle.std.proofs.lemmas.Bool.{le-ltb, lt-ltb, cases_lt}
use Rattle.std.proofs.lemmas.Bool.Decides.{nat_tests}
use Rattle.std.proofs.lemmas.List.{get_or_append_left, length-take-le}
use Rattle.cf_dnpobj.specs.declared.fragment.FragmentRefusal.{FragmentRefusal}
use Rattle.cf_dnpobj.specs.declared.fragment.FragmentRefusal.TheVariants as refusal
use Rattle.cf_dnpobj.specs.declared.object.Layout.{Layout}
use Rattle.cf_dnpobj.specs.Objects.{layout_of, takes, is_all, is_function, range_size, objects_size}
use Rattle.cf_dnpobj.specs.Headers.{count_of, sized, header_size, IsHeader, with_first, after_size, headers_by, headers_in}
use Rattle.cf_dnpobj.specs.Fragment.{FragmentValue, SpellsRequest, takes_headers, counted, with_headers, read_octets}
use Rattle.cf_dnpobj.proofs.Headers.{le_true, sized_by, sized_is, count_front, with_first_ok, after_first, header_again}
use Rattle.cf_dnpobj.proofs.InOrder.{if_true, if_false}
use Rattle.cf_dnpobj.proofs.Replies.{fields, past_refusal, with_some}
use Rattle.std.proofs.lemmas.Grind.{common_steps}

le_from : (a b : ℕ) → nat_le a b ≡ true → a ≤ b
le_from a b h = grind (arith, nat_tests)

size_facts : (c : Bool) (s n m : ℕ) → (if c && nat_le s n then Ok s else Err refusal.Parameter) ≡ Ok m → (s ≡ m) × (s ≤ n)
size_facts c s n m h1 = grind (arith, nat_tests, common_steps, le_from)

-- what a size tells of the octets that are there
whole_facts : (a c : Bool) (r s n m : ℕ) → (if a && (nat_le r n && (c && nat_le s n)) then Ok s else Err refusal.Parameter) ≡ Ok m → (s ≡ m) × (s ≤ n)
whole_facts a c r s n m h1 = grind (arith, nat_tests, common_steps, size_facts)

sized_facts : (l : Layout) (q n len size : ℕ) → sized_by l q n len ≡ Ok size → (3 + range_size q ≤ size) × (size ≤ len)
unfolding sized_by
sized_facts l q n len size e =
    (let f = whole_facts (takes l q) (is_all q || nat_lt 0 n) (3 + range_size q) (3 + range_size q + objects_size l q n) len size e in
    (omega (arith, f.0), omega (arith, f.0, f.1)))

layout_facts : (l : Option Layout) (xs : List ℕ) (size : ℕ) → sized l xs ≡ Ok size → (3 + range_size (slice_index xs 2) ≤ size) × (size ≤ length xs)
layout_facts None xs size e = cc
layout_facts (Some l) xs size e = sized_facts l (slice_index xs 2) (count_of xs) (length xs) size (sym (sized_is l xs) ∙ e)

-- a size is told where there are three octets at least
head_there : (code : ℕ) (xs : List ℕ) (size : ℕ) → header_size code xs ≡ Ok size → (3 ≤ length xs) × (sized (layout_of code (slice_index xs 0) (slice_index xs 1)) xs ≡ Ok size)
head_there code xs size e = grind (arith, nat_tests, common_steps, cases_lt, lt-ltb, le-ltb)

header_facts : (code : ℕ) (xs : List ℕ) (size : ℕ) → header_size code xs ≡ Ok size → (3 + range_size (slice_index xs 2) ≤ size) × (size ≤ length xs)
header_facts code xs size e = layout_facts (layout_of code (slice_index xs 0) (slice_index xs 1)) xs size (head_there code xs size e).1

-- the headers of octets are these octets
abbrev Are : ℕ → List ℕ → List (List ℕ) → Type 0
Are code xs hs = (concat hs ≡ xs) × AllByRecursion (IsHeader code) hs

after_header : (n code o : ℕ) (xs : List ℕ) (r : Result ℕ FragmentRefusal) (hs : List (List ℕ)) → header_size code (o ∷ xs) ≡ r →
    ((ys : List ℕ) (later : List (List ℕ)) → headers_by n code ys ≡ Ok later → Are code ys later) →
    after_size r (o ∷ xs) (λ rest. headers_by n code rest) ≡ Ok hs → Are code (o ∷ xs) hs
after_header n code o xs (Err x) hs is more e = cc
after_header n code o xs (Ok size) hs is more e =
    let all = o ∷ xs in
    let w = with_first_ok (take size all) (headers_by n code (drop size all)) hs e in
    let l = more (drop size all) w.0 w.1 in
    let f = header_facts code all size is in
    let long = length-take-le size all f.1 in
    let first : IsHeader code (take size all) = header_again code all size (omega (arith, f.0)) f.1 f.0 is ∙ ap Ok (sym long) in (
      ap concat w.2 ∙ ap (λ (ys : List ℕ). take size all ++ ys) l.0 ∙ take-append-drop size all,
      subst (AllByRecursion (IsHeader code)) (sym w.2) (first, l.1),
    )

pub are_headers : (n code : ℕ) (xs : List ℕ) (hs : List (List ℕ)) → headers_by n code xs ≡ Ok hs → Are code xs hs
are_headers n code [] [] e = (refl, tt)
are_headers n code [] (h ∷ hs) e = cc
are_headers zero code (o ∷ xs) hs e = cc
are_headers (suc n) code (o ∷ xs) hs e = after_header n code o xs (header_size code (o ∷ xs)) hs refl (λ ys later is. are_headers n code ys later is) e

-- a header stays one, whatever follows
more_there : (a c : Bool) (r s n k m : ℕ) → n ≤ k → (if a && (nat_le r n && (c && nat_le s n)) then Ok s else Err refusal.Parameter) ≡ Ok m →
    (if a && (nat_le r k && (c && nat_le s k)) then Ok s else Err refusal.Parameter) ≡ Ok m
more_there a c r s n k m h1 h2 = grind (arith, nat_tests, common_steps, le_true, le_from)

sized_more : (l : Layout) (q n len more size : ℕ) → len ≤ more → sized_by l q n len ≡ Ok size → sized_by l q n more ≡ Ok size
unfolding sized_by
sized_more l q n len more size h e = more_there (takes l q) (is_all q || nat_lt 0 n) (3 + range_size q) (3 + range_size q + objects_size l q n) len more size h e

sized_longer : (l : Option Layout) (h more : List ℕ) (size : ℕ) → 3 ≤ length h → 3 + range_size (slice_index h 2) ≤ length h → sized l h ≡ Ok size → sized l (h ++ more) ≡ Ok size
sized_longer None h more size a b e = cc
sized_longer (Some l) h more size a b e =
    let xs = h ++ more in
    let q : slice_index xs 2 ≡ slice_index h 2 = get_or_append_left h more 0 2 (omega (arith, a)) in
    let range : 3 + range_size (slice_index xs 2) ≤ length h = subst (λ (k : ℕ). 3 + range_size k ≤ length h) (sym q) b in
    let n : count_of xs ≡ count_of h = sym (count_front xs (length h) a range) ∙ ap count_of (take-append_seam h more) in
    sized_is l xs
    ∙ ap (λ (k : ℕ). sized_by l k (count_of xs) (length xs)) q
    ∙ ap (λ (k : ℕ). sized_by l (slice_index h 2) k (length xs)) n
    ∙ sized_more l (slice_index h 2) (count_of h) (length h) (length xs) size (omega (arith, length-append h more)) (sym (sized_is l h) ∙ e)

header_longer : (code : ℕ) (h more : List ℕ) → IsHeader code h → header_size code (h ++ more) ≡ Ok (length h)
header_longer code h more is =
    let there = head_there code h (length h) is in
    let f = header_facts code h (length h) is in
    let g : slice_index (h ++ more) 0 ≡ slice_index h 0 = get_or_append_left h more 0 0 (omega (arith, there.0)) in
    let v : slice_index (h ++ more) 1 ≡ slice_index h 1 = get_or_append_left h more 0 1 (omega (arith, there.0)) in
    let layout = layout_of code (slice_index h 0) (slice_index h 1) in
    if_false (nat_lt (length (h ++ more)) 3) (Err refusal.Parameter) (sized (layout_of code (slice_index (h ++ more) 0) (slice_index (h ++ more) 1)) (h ++ more))
    (le-ltb (length (h ++ more)) 3 (omega (arith, length-append h more, there.0)))
    ∙ ap (λ (k : ℕ). sized (layout_of code k (slice_index (h ++ more) 1)) (h ++ more)) g
    ∙ ap (λ (k : ℕ). sized (layout_of code (slice_index h 0) k) (h ++ more)) v
    ∙ sized_longer layout h more (length h) there.0 f.0 there.1

headers_back : (code : ℕ) (hs : List (List ℕ)) → AllByRecursion (IsHeader code) hs → headers_in code (concat hs) ≡ Ok hs
headers_back code [] all = refl
headers_back code (h ∷ hs) all =
    let rest = concat hs in
    let there = head_there code h (length h) all.0 in
    after_first code (h ++ rest) (length h) (omega (arith, length-append h rest, there.0)) there.0 (header_longer code h rest all.0)
    ∙ ap (λ (ys : List ℕ). with_first ys (headers_in code (drop (length h) (h ++ rest)))) (take-append_seam h rest)
    ∙ ap (λ (ys : List ℕ). with_first h (headers_in code ys)) (drop-append_seam h rest)
    ∙ ap (with_first h) (headers_back code hs all.1)

-- what each test tells
test_false : (b : Bool) (x : FragmentRefusal) (r : Result FragmentValue FragmentRefusal) (f : FragmentValue) → Ok f ≡ (if b then Err x else r) → b ≡ false
test_false true x r f e = cc
test_false false x r f e = refl

test_true : (b : Bool) (f g : FragmentValue) → Ok f ≡ (if b then Ok g else Err refusal.Parameter) → b ≡ true
test_true true f g e = refl
test_true false f g e = cc

takes_true : (xs : List ℕ) (r : Result (List (List ℕ)) FragmentRefusal) (f : FragmentValue) (hs : List (List ℕ)) → r ≡ Ok hs → Ok f ≡ with_headers xs (counted r) → takes_headers (slice_index xs 1) (length hs) ≡ true
takes_true xs r f hs is e =
    test_true (takes_headers (slice_index xs 1) (length hs)) f (fields xs) (e ∙ ap (λ (q : Result (List (List ℕ)) FragmentRefusal). with_headers xs (counted q)) is)

not_false : (b : Bool) → not b ≡ false → b ≡ true
not_false true e = refl
not_false false e = sym e

at_least : (a b : ℕ) → nat_lt a b ≡ false → b ≤ a
at_least a b e = grind (arith, nat_tests)

two : (xs : List ℕ) → 2 ≤ length xs → xs ≡ slice_index xs 0 ∷ slice_index xs 1 ∷ drop 2 xs
two xs h1 = grind (arith, nat_tests, common_steps)

spelled : (xs : List ℕ) (f : FragmentValue) → Ok f ≡ read_octets xs → SpellsRequest f xs
spelled xs f e =
    let code = slice_index xs 1 in
    let behind = with_headers xs (counted (headers_in code (drop 2 xs))) in
    let third : Result FragmentValue FragmentRefusal = if not (is_function code) then Err refusal.Function else behind in
    let second : Result FragmentValue FragmentRefusal = if nat_lt (slice_index xs 0) 0xc0 then Err refusal.NotSingle else third in
    let a = past_refusal (nat_lt (length xs) 2) refusal.Short second f e in
    let b = past_refusal (nat_lt (slice_index xs 0) 0xc0) refusal.NotSingle third f a in
    let c = past_refusal (not (is_function code)) refusal.Function behind f b in
    let s = with_some xs (headers_in code (drop 2 xs)) f c in
    let are = are_headers (length (drop 2 xs)) code (drop 2 xs) s.0 s.1 in
    subst (λ (g : FragmentValue). SpellsRequest g xs) (sym s.2)
    (record {
      single = at_least (slice_index xs 0) 0xc0 (test_false (nat_lt (slice_index xs 0) 0xc0) refusal.NotSingle third f a);
      function = not_false (is_function code) (test_false (not (is_function code)) refusal.Function behind f b);
      headers = s.0;
      are = are.1;
      taken = takes_true xs (headers_in code (drop 2 xs)) f s.0 s.1 c;
      objects = sym are.0;
      spelled = two xs (at_least (length xs) 2 (test_false (nat_lt (length xs) 2) refusal.Short second f e));
    })

read_back : (xs : List ℕ) (f : FragmentValue) → SpellsRequest f xs → read_octets xs ≡ Ok f
read_back xs f s = grind (arith, nat_tests, common_steps, if_false, le-ltb, headers_back, if_true)

pub read_is_spelled : (octets : List ℕ) (f : FragmentValue) → read_octets octets ≡ Ok f ↔ SpellsRequest f octets
read_is_spelled octets f = (λ e. spelled octets f (sym e), λ s. read_back octets f s)
