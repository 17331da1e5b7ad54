-- Remarks in the order of their records, after a stable sort.
use Rattle.std.proofs.Common.{◌≡◌, ◌<◌, ◌≤◌, ◌∙◌, ◌==◌, ℕ, List, [], ◌∷◌, Bool, true, false, cond, length, map, get_or, not, ◌&&◌, refl, sym, ap, subst, arith, Result, Ok, Err, OnOk}
use Rattle.std.specs.List.{filter}
use Rattle.std.specs.List.Sorted.{IsNonDecreasingBy, IsStableByKey, ties}
use Rattle.std.specs.Result.{is_err}
use Rattle.std.specs.Ordering.{is_lt, nat_cmp}
use Rattle.std.proofs.lemmas.List.{get_or-map, length-map}
use Rattle.std.proofs.lemmas.List.Elements.{filter_agree}
use Rattle.std.proofs.lemmas.Bool.Decides.{nat_tests}
use Rattle.cf_audit.specs.declared.line.Why.TheVariants as why
use Rattle.cf_review.specs.Remark.{RemarkValue, remark_value}
use Rattle.cf_review.specs.Review.{AreInOrder, is_at}
use Rattle.cf_review.specs.declared.remark.Matter.TheVariants as matter
use Rattle.cf_review.specs.declared.remark.Remark.{Remark}

module _ {X Y : Type 0} (f : X → Y) (p : Y → Bool) where
  by_test : (b : Bool) (x : X) (ys : List Y) (xs : List X) → ys ≡ map f xs → cond b (f x ∷ ys) ys ≡ map f (cond b (x ∷ xs) xs)
  by_test true x ys xs e = ap (λ zs. f x ∷ zs) e
  by_test false x ys xs e = e

  filter_of_map : (xs : List X) → filter p (map f xs) ≡ map f (filter (λ x. p (f x)) xs)
  filter_of_map [] = refl
  filter_of_map (x ∷ xs) = by_test (p (f x)) x (filter p (map f xs)) (filter (λ y. p (f y)) xs) (filter_of_map xs)

-- two numbers tie where they are the same
one_test : (a b : ℕ) → (not (is_lt (nat_cmp a b)) && not (is_lt (nat_cmp b a))) ≡ (b == a)
one_test a b = grind (arith, nat_tests)

-- some remark with a record's number
of_number : ℕ → Remark
of_number number = record { at_record = number; client = record { address = 0; port = 0 }; asset = 0; what = matter.Stray why.Short }

of_each_value : (number : ℕ) (xs ys : List Remark) → IsStableByKey (λ r. r.at_record) nat_cmp xs ys → filter (is_at number) (map remark_value ys) ≡ filter (is_at number) (map remark_value xs)
unfolding of_number
of_each_value number xs ys stable =
    let same : (zs : List Remark) → filter (λ r. is_at number (remark_value r)) zs ≡ filter (ties (λ (x y : Remark). is_lt (nat_cmp x.at_record y.at_record)) (of_number number)) zs =
    filter_agree (λ r. is_at number (remark_value r)) (ties (λ (x y : Remark). is_lt (nat_cmp x.at_record y.at_record)) (of_number number)) (λ r. sym (one_test number r.at_record)) in
    filter_of_map remark_value (is_at number) ys ∙ ap (map remark_value) (same ys ∙ stable (of_number number) ∙ sym (same xs)) ∙ sym (filter_of_map remark_value (is_at number) xs)

rising_value : (ys : List Remark) → IsNonDecreasingBy (λ r. r.at_record) ys → IsNonDecreasingBy (λ r. r.at_record) (map remark_value ys)
rising_value [] h i j d low inside = absurd (omega (arith, inside))
rising_value (y ∷ ys) h i j d low inside =
    let size : length (map remark_value (y ∷ ys)) ≡ length (y ∷ ys) = length-map (y ∷ ys) remark_value in
    let below : j < length (y ∷ ys) = omega (arith, inside, size) in
    let at_i = get_or-map remark_value (y ∷ ys) i y d (omega (arith, low, below)) in
    let at_j = get_or-map remark_value (y ∷ ys) j y d below in
    let le = h i j y low below in
    subst (λ (r : RemarkValue). r.at_record ≤ (get_or (map remark_value (y ∷ ys)) j d).at_record) (sym at_i)
    (subst (λ (r : RemarkValue). (get_or (y ∷ ys) i y).at_record ≤ r.at_record) (sym at_j) le)

pub in_order : (all : List RemarkValue) (xs ys : List Remark) → all ≡ map remark_value xs → IsNonDecreasingBy (λ r. r.at_record) ys → IsStableByKey (λ r. r.at_record) nat_cmp xs ys →
    AreInOrder all (map remark_value ys)
in_order all xs ys are rising stable = record {
  rising = rising_value ys rising;
  of_each = λ number. of_each_value number xs ys stable ∙ ap (filter (is_at number)) (sym are);
}

pub when_done : {A E : Type 0} {P : Type 0} (r : Result A E) → is_err r ≡ false → OnOk r P → P
when_done (Ok x) e p = p
when_done (Err x) e p = cc e
