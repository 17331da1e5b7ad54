-- Numbers of headers and of acts, header by header.
use Rattle.std.proofs.Common.{◌≡◌, ℕ, zero, suc, ◌+◌, ◌-◌, ◌<◌, ◌≤◌, List, [], ◌∷◌, length, take, drop, true, false, Result, Ok, Err, refl, sym, ◌∙◌, ap, subst, arith, length-append}
use Rattle.std.specs.List.{sum_by, flat_map}
use Rattle.std.proofs.lemmas.List.{length-drop, take_all, drop-drop}
use Rattle.std.proofs.lemmas.List.Concat.{flat_map-cons}
use Rattle.std.proofs.lemmas.List.FromFn.{length-map-range_with_len}
use Rattle.std.proofs.lemmas.List.Sums.{sum_by-cons}
use Rattle.std.proofs.lemmas.Bool.{false≢true}
use Rattle.cf_dnpobj.specs.declared.fragment.FragmentRefusal.{FragmentRefusal}
use Rattle.cf_dnpobj.specs.Headers.{BeginsWithHeader, header_size, with_first, after_size, headers_by, headers_in}
use Rattle.cf_dnpobj.specs.Fragment.{counted}
use Rattle.cf_dnpobj.specs.Acts.{summed, header_count, header_acts, acts_in}
use Rattle.cf_dnpobj.proofs.Headers.{headers_step}
use Rattle.std.proofs.lemmas.Grind.{common_steps}

-- the number after some others
abbrev pub plus : ℕ → Result ℕ FragmentRefusal → Result ℕ FragmentRefusal
plus n (Ok m) = Ok (n + m)
plus n (Err e) = Err e

plus-plus : (a b : ℕ) (r : Result ℕ FragmentRefusal) → plus a (plus b r) ≡ plus (a + b) r
plus-plus a b (Ok n) = ap Ok (omega arith)
plus-plus a b (Err e) = refl

counted_first : (h : List ℕ) (r : Result (List (List ℕ)) FragmentRefusal) → counted (with_first h r) ≡ plus 1 (counted r)
counted_first h (Ok hs) = ap Ok (omega arith)
counted_first h (Err e) = refl

summed_first : (code : ℕ) (h : List ℕ) (r : Result (List (List ℕ)) FragmentRefusal) → summed code (with_first h r) ≡ plus (header_count code h) (summed code r)
summed_first code h (Ok hs) = ap Ok (sum_by-cons (header_count code) h hs)
summed_first code h (Err e) = refl

-- the rest of octets from a place on
pub rest_is : (xs rest : List ℕ) (place len : ℕ) → len ≡ length xs → place ≤ len → rest ≡ take (len - place) (drop place xs) → rest ≡ drop place xs
rest_is xs rest place len is inside e = e ∙ take_all (len - place) (drop place xs) (omega (arith, length-drop place xs, is))

-- the header that the rest from a place on begins with
pub header_at : (code : ℕ) (xs rest h : List ℕ) (place len : ℕ) → len ≡ length xs → place ≤ len → rest ≡ take (len - place) (drop place xs) → BeginsWithHeader code rest h → BeginsWithHeader code (drop place xs) h
header_at code xs rest h place len is inside e b = subst (λ (ys : List ℕ). BeginsWithHeader code ys h) (rest_is xs rest place len is inside e) b

module _ (code : ℕ) (xs h : List ℕ) (place : ℕ) (b : BeginsWithHeader code (drop place xs) h) where
  pub count_more : (n : ℕ) → counted (headers_in code xs) ≡ plus n (counted (headers_in code (drop place xs))) → counted (headers_in code xs) ≡ plus (n + 1) (counted (headers_in code (drop (place + length h) xs)))
  count_more n inv =
      let later = headers_in code (drop (length h) (drop place xs)) in
      inv ∙ ap (λ r. plus n (counted r)) (headers_step code (drop place xs) h b)
      ∙ ap (plus n) (counted_first h later) ∙ plus-plus n 1 (counted later)
      ∙ ap (λ (ys : List ℕ). plus (n + 1) (counted (headers_in code ys))) (drop-drop (length h) place xs)

  pub sum_more : (n m : ℕ) → m ≡ header_count code h → summed code (headers_in code xs) ≡ plus n (summed code (headers_in code (drop place xs))) → summed code (headers_in code xs) ≡ plus (n + m) (summed code (headers_in code (drop (place + length h) xs)))
  sum_more n m is inv =
      let later = headers_in code (drop (length h) (drop place xs)) in
      inv ∙ ap (λ r. plus n (summed code r)) (headers_step code (drop place xs) h b)
      ∙ ap (plus n) (summed_first code h later) ∙ plus-plus n (header_count code h) (summed code later)
      ∙ ap (λ (k : ℕ). plus (n + k) (summed code later)) (sym is)
      ∙ ap (λ (ys : List ℕ). plus (n + m) (summed code (headers_in code ys))) (drop-drop (length h) place xs)

with_first_some : (h : List ℕ) (r : Result (List (List ℕ)) FragmentRefusal) → with_first h r ≡ Ok [] → ⊥
with_first_some h (Ok hs) e = cc
with_first_some h (Err x) e = cc

-- a header has so many acts
pub header_counted : (code : ℕ) (h : List ℕ) → length (header_acts code h) ≡ header_count code h
header_counted code h = grind (arith, common_steps, length-map-range_with_len)

all_counted : (code : ℕ) (hs : List (List ℕ)) → length (flat_map (header_acts code) hs) ≡ sum_by (header_count code) hs
all_counted code [] = refl
all_counted code (h ∷ hs) = grind (arith, common_steps, all_counted code hs, flat_map-cons, length-append, header_counted, sum_by-cons)

not_nothing : (r : Result ℕ FragmentRefusal) (xs : List ℕ) (more : List ℕ → Result (List (List ℕ)) FragmentRefusal) → after_size r xs more ≡ Ok [] → ⊥
not_nothing (Err x) xs more e = cc
not_nothing (Ok size) xs more e = with_first_some (take size xs) (more (drop size xs)) e

-- octets that are there are no list of no header
pub some_headers : (code : ℕ) (xs : List ℕ) → 0 < length xs → headers_in code xs ≡ Ok [] → ⊥
some_headers code [] some e = absurd (omega (arith, some))
some_headers code (o ∷ xs) some e = not_nothing (header_size code (o ∷ xs)) (o ∷ xs) (λ rest. headers_by (length xs) code rest) e

sum_is : (code : ℕ) (r : Result (List (List ℕ)) FragmentRefusal) (n : ℕ) → (r ≡ Ok [] → ⊥) → Ok n ≡ summed code r → n ≡ length (acts_in code r)
sum_is code (Ok []) n some e = absurd (some refl)
sum_is code (Ok (h ∷ hs)) n some e = (let m : n ≡ sum_by (header_count code) (h ∷ hs) = cc in m ∙ sym (all_counted code (h ∷ hs)))
sum_is code (Err x) n some e = cc

pub acts_summed : (code : ℕ) (xs : List ℕ) (n : ℕ) → 0 < length xs → Ok n ≡ summed code (headers_in code xs) → n ≡ length (acts_in code (headers_in code xs))
acts_summed code xs n some e = sum_is code (headers_in code xs) n (some_headers code xs some) e

pub above_zero : (n : ℕ) → (n ≡ 0 → false ≡ true) → 0 < n
above_zero zero h = absurd (false≢true (h refl))
above_zero (suc n) h = omega arith
