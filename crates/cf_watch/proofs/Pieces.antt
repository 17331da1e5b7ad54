-- Pieces of records, and the numbers that they stand for.
use Rattle.std.proofs.Common.{◌≡◌, ◌+◌, ◌-◌, ◌<◌, ◌≤◌, ◌++◌, ◌∷◌, [], ◌∙◌, ℕ, zero, suc, true, false, nat_le, List, length, drop, get_or, refl, sym, ap, inl, inr, arith, if◌then◌else◌, replicate, length-append, append_assoc, leb, leb-true, leb-false}
use Rattle.std.specs.List.Sorted.{IsPartitionPoint}
use Rattle.std.proofs.lemmas.Bool.{cases_lt}
use Rattle.std.proofs.lemmas.Bool.Decides.{nat_tests}
use Rattle.std.proofs.Math.Seq.{drop-drop}
use Rattle.std.proofs.lemmas.List.{append-nil, drop-append-le, drop_all, get_or-drop, get_or_append_left, get_or_push, length-drop, replicate-append-replicate}
use Rattle.std.proofs.lemmas.List.Sorted.{IsNonDecreasingBy-drop, IsNonDecreasingBy-push}
use Rattle.cf_watch.specs.Pieces.{ArePieces, IsLastRecord, born_of, record_by}
use Rattle.cf_watch.specs.declared.born.Piece.{Piece}

-- no piece begins at a place or before it
pub record_none : (none : ℕ) (xs : List Piece) (p : ℕ) → ((k : ℕ) (d : Piece) → k < length xs → p < (get_or xs k d).first) → record_by none xs p ≡ none
record_none none [] p later = refl
record_none none (x ∷ xs) p later =
    let first = later 0 x (omega arith) in
    let f : nat_le x.first p ≡ false = grind (arith, nat_tests, first) in
    rw f (record_none none xs p (λ k d lt. later (suc k) d (omega (arith, lt))))

-- the last piece that begins at a place or before it
pub record_here : (none : ℕ) (xs : List Piece) (i p : ℕ) (d : Piece) → i < length xs → (get_or xs i d).first ≤ p →
    ((k : ℕ) (e : Piece) → i < k → k < length xs → p < (get_or xs k e).first) → record_by none xs p ≡ (get_or xs i d).number
record_here none [] i p d inside here later = absurd (omega (arith, inside))
record_here none (x ∷ xs) zero p d inside here later =
    let t : nat_le x.first p ≡ true = grind (arith, nat_tests, here) in
    rw t (record_none x.number xs p (λ k e lt. later (suc k) e (omega arith) (omega (arith, lt))))
record_here none (x ∷ xs) (suc i) p d inside here later =
    record_here (if nat_le x.first p then x.number else none) xs i p d (omega (arith, inside)) here
    (λ k e lt under. later (suc k) e (omega (arith, lt)) (omega (arith, under)))

-- a piece that begins further on does not change the record of a place
pub record_more : (none : ℕ) (xs : List Piece) (x : Piece) (p : ℕ) → p < x.first → record_by none (xs ++ x ∷ []) p ≡ record_by none xs p
record_more none [] x p later = let f : nat_le x.first p ≡ false = grind (arith, nat_tests, later) in rw f refl
record_more none (y ∷ xs) x p later = record_more (if nat_le y.first p then y.number else none) xs x p later

pub born_length : (xs : List Piece) (n : ℕ) → length (born_of xs n) ≡ n
born_length xs zero = refl
born_length xs (suc n) = length-append (born_of xs n) (record_by 0 xs n ∷ []) ∙ omega (arith, born_length xs n)

pub born_at : (xs : List Piece) (n i : ℕ) → i < n → get_or (born_of xs n) i 0 ≡ record_by 0 xs i
born_at xs zero i inside = absurd (omega (arith, inside))
born_at xs (suc n) i inside =
    elim (cases_lt i n) [
      | inl lt ↦ get_or_append_left (born_of xs n) (record_by 0 xs n ∷ []) 0 i (omega (arith, lt, born_length xs n)) ∙ born_at xs n i lt
      | inr ge ↦
          let e : i ≡ n = omega (arith, inside, ge) in
          get_or_push (born_of xs n) (record_by 0 xs n) 0 i (born_length xs n ∙ sym e) ∙ ap (record_by 0 xs) (sym e)
    ]

pub born_more : (xs : List Piece) (x : Piece) (n : ℕ) → n ≤ x.first → born_of (xs ++ x ∷ []) n ≡ born_of xs n
born_more xs x zero le = refl
born_more xs x (suc n) le =
    ap (λ (ys : List ℕ). ys ++ record_by 0 (xs ++ x ∷ []) n ∷ []) (born_more xs x n (omega (arith, le)))
    ∙ ap (λ (m : ℕ). born_of xs n ++ m ∷ []) (record_more 0 xs x n (omega (arith, le)))

-- ---- more numbers, all the same

-- from a place on all records are this one
pub on_all : (xs : List Piece) (n more number : ℕ) → ((p : ℕ) → n ≤ p → record_by 0 xs p ≡ number) → born_of xs (n + more) ≡ born_of xs n ++ replicate more number
on_all xs n zero number all = let e : n + 0 ≡ n = omega arith in ap (born_of xs) e ∙ sym (append-nil (born_of xs n))
on_all xs n (suc more) number all =
    let e : n + suc more ≡ suc (n + more) = omega arith in
    let size : more + 1 ≡ suc more = omega arith in
    let one : replicate more number ++ number ∷ [] ≡ replicate (suc more) number = replicate-append-replicate more 1 number ∙ ap (λ (k : ℕ). replicate k number) size in
    ap (born_of xs) e ∙ ap (λ (m : ℕ). born_of xs (n + more) ++ m ∷ []) (all (n + more) (omega arith))
    ∙ ap (λ (ns : List ℕ). ns ++ number ∷ []) (on_all xs n more number all)
    ∙ append_assoc (born_of xs n) (replicate more number) (number ∷ []) ∙ ap (λ (ns : List ℕ). born_of xs n ++ ns) one

pub on_same : (xs : List Piece) (n more number : ℕ) (d : Piece) → ArePieces xs n → IsLastRecord xs number →
    born_of xs (n + more) ≡ born_of xs n ++ replicate more number
on_same xs n more number d are last =
    let here = are.within (length xs - 1) d (omega (arith, last.some)) in
    on_all xs n more number (λ p from. record_here 0 xs (length xs - 1) p d (omega (arith, last.some)) (omega (arith, here, from))
    (λ k e lt under. absurd (omega (arith, lt, under))) ∙ last.is d)

pub on_new : (xs : List Piece) (x : Piece) (n more : ℕ) → x.first ≡ n → born_of (xs ++ x ∷ []) (n + more) ≡ born_of xs n ++ replicate more x.number
on_new xs x n more first =
    let size : length (xs ++ x ∷ []) ≡ length xs + 1 = length-append xs (x ∷ []) in
    let last : get_or (xs ++ x ∷ []) (length xs) x ≡ x = get_or_push xs x x (length xs) refl in
    let low : (get_or (xs ++ x ∷ []) (length xs) x).first ≤ n = omega (arith, ap (λ (p : Piece). p.first) last, first) in
    on_all (xs ++ x ∷ []) n more x.number (λ p from.
    record_here 0 (xs ++ x ∷ []) (length xs) p x (omega (arith, size)) (omega (arith, low, from)) (λ k e lt under. absurd (omega (arith, lt, under, size)))
    ∙ ap (λ (p : Piece). p.number) last)
    ∙ ap (λ (ns : List ℕ). ns ++ replicate more x.number) (born_more xs x n (omega (arith, first)))

pub are_new : (xs : List Piece) (x : Piece) (n : ℕ) → x.first ≡ n → ArePieces xs n → ArePieces (xs ++ x ∷ []) n
are_new xs x n first are =
    let size : length (xs ++ x ∷ []) ≡ length xs + 1 = length-append xs (x ∷ []) in
    record {
      rise = IsNonDecreasingBy-push (λ (p : Piece). p.first) xs x are.rise (λ d some. let below = are.within (length xs - 1) d (omega (arith, some)) in omega (arith, below, first));
      within = λ i d inside. elim (cases_lt i (length xs)) [
        | inl lt ↦ let below = are.within i d lt in let same : (get_or (xs ++ x ∷ []) i d).first ≡ (get_or xs i d).first = ap (λ (p : Piece). p.first) (get_or_append_left xs (x ∷ []) d i lt) in omega (arith, below, same)
        | inr ge ↦ let same : (get_or (xs ++ x ∷ []) i d).first ≡ x.first = ap (λ (p : Piece). p.first) (get_or_push xs x d i (omega (arith, ge, inside, size))) in omega (arith, same, first)
      ];
    }

pub are_on : (xs : List Piece) (n more : ℕ) → ArePieces xs n → ArePieces xs (n + more)
are_on xs n more are = record { rise = are.rise; within = λ i d inside. let below = are.within i d inside in omega (arith, below) }

-- numbers after those that are left
pub left_push : (xs ys ns : List ℕ) (gone : ℕ) → gone ≤ length xs → ys ≡ xs ++ ns → drop gone ys ≡ drop gone xs ++ ns
left_push xs ys ns gone le e = ap (drop gone) e ∙ drop-append-le gone xs ns le

-- ---- without the first numbers

-- where some piece begins at a place or before it, the record of the place is that of a piece
record_any : (one other : ℕ) (xs : List Piece) (i p : ℕ) (d : Piece) → i < length xs → (get_or xs i d).first ≤ p → record_by one xs p ≡ record_by other xs p
record_any one other [] i p d inside here = absurd (omega (arith, inside))
record_any one other (x ∷ xs) zero p d inside here = let t : nat_le x.first p ≡ true = grind (arith, nat_tests, here) in rw t refl
record_any one other (x ∷ xs) (suc i) p d inside here =
    record_any (if nat_le x.first p then x.number else one) (if nat_le x.first p then x.number else other) xs i p d (omega (arith, inside)) here

-- pieces before one that begins at a place or before it do not change the record of the place
record_drop : (none : ℕ) (xs : List Piece) (k p : ℕ) (d : Piece) → k < length xs → (get_or xs k d).first ≤ p → record_by none (drop k xs) p ≡ record_by none xs p
record_drop none [] k p d inside here = absurd (omega (arith, inside))
record_drop none (x ∷ xs) zero p d inside here = refl
record_drop none (x ∷ xs) (suc k) p d inside here =
    record_drop none xs k p d (omega (arith, inside)) here
    ∙ record_any none (if nat_le x.first p then x.number else none) xs k p d (omega (arith, inside)) here

-- the numbers from a place on hang on the records of these places alone
pub born_from : (xs ys : List Piece) (n count : ℕ) → ((p : ℕ) → n ≤ p → record_by 0 ys p ≡ record_by 0 xs p) → drop n (born_of ys count) ≡ drop n (born_of xs count)
born_from xs ys n zero same = refl
born_from xs ys n (suc p) same =
    let one = born_length xs p in
    let other = born_length ys p in
    elim (cases_lt p n) [
      | inl lt ↦ drop_all n (born_of ys (suc p)) (omega (arith, lt, born_length ys (suc p))) ∙ sym (drop_all n (born_of xs (suc p)) (omega (arith, lt, born_length xs (suc p))))
      | inr ge ↦ drop-append-le n (born_of ys p) (record_by 0 ys p ∷ []) (omega (arith, ge, other)) ∙ ap (λ (ns : List ℕ). ns ++ record_by 0 ys p ∷ []) (born_from xs ys n p same)
          ∙ ap (λ (m : ℕ). drop n (born_of xs p) ++ m ∷ []) (same p ge) ∙ sym (drop-append-le n (born_of xs p) (record_by 0 xs p ∷ []) (omega (arith, ge, one)))
    ]

-- how many numbers are left
pub left_length : (xs : List Piece) (gone count : ℕ) → length (drop gone (born_of xs count)) ≡ count - gone
left_length xs gone count = length-drop gone (born_of xs count) ∙ ap (λ (n : ℕ). n - gone) (born_length xs count)

-- so many more are left out, with pieces in front
pub born_left : (xs ys : List Piece) (gone more count : ℕ) → ((p : ℕ) → gone + more ≤ p → record_by 0 ys p ≡ record_by 0 xs p) →
    drop (gone + more) (born_of ys count) ≡ drop more (drop gone (born_of xs count))
born_left xs ys gone more count same = born_from xs ys (gone + more) count same ∙ sym (drop-drop more gone (born_of xs count))

pub are_left : (xs : List Piece) (k count : ℕ) → ArePieces xs count → ArePieces (drop k xs) count
are_left xs k count are = record {
  rise = IsNonDecreasingBy-drop (λ (p : Piece). p.first) k xs are.rise;
  within = λ i d inside.
      let size = length-drop k xs in
      let below = are.within (k + i) d (omega (arith, inside, size)) in
      let same : (get_or (drop k xs) i d).first ≡ (get_or xs (k + i) d).first = ap (λ (p : Piece). p.first) (get_or-drop k xs i d) in
      omega (arith, below, same);
}

-- ---- where pieces are halved at a place

module _ (xs : List Piece) (place behind : ℕ) where
  abbrev pub IsHalved : Type 0
  IsHalved = IsPartitionPoint (λ (p : Piece). leb p.first place ≡ true) (λ (p : Piece). leb p.first place ≡ false) xs behind

  later : IsHalved → (k : ℕ) (d : Piece) → behind ≤ k → k < length xs → place < (get_or xs k d).first
  later half k d from inside = leb-false (get_or xs k d).first place (half.1 k d from inside)

  pub record_found : (last : ℕ) (d : Piece) → behind ≤ length xs → (1 ≤ behind) × (last ≡ behind - 1) → IsHalved → (get_or xs last d).number ≡ record_by 0 xs place
  record_found last d bound at half =
      let here = leb-true (get_or xs last d).first place (half.0 last d (omega arith) (omega (arith, at.0, at.1))) in
      sym (record_here 0 xs last place d (omega (arith, bound, at.0, at.1)) here (λ k e lt inside. later half k e (omega (arith, lt, at.0, at.1)) inside))

  pub record_before : (behind < 1) → IsHalved → 0 ≡ record_by 0 xs place
  record_before none half = sym (record_none 0 xs place (λ k e inside. later half k e (omega (arith, none)) inside))

  pub record_left : (k : ℕ) → behind ≤ length xs → k ≡ behind - 1 → IsHalved → (p : ℕ) → place ≤ p → record_by 0 (drop k xs) p ≡ record_by 0 xs p
  record_left zero bound at half p past = refl
  record_left (suc k) bound at half p past =
      let d : Piece = record { first = 0; number = 0 } in
      let here = leb-true (get_or xs (suc k) d).first place (half.0 (suc k) d (omega arith) (omega (arith, at))) in
      record_drop 0 xs (suc k) p d (omega (arith, bound, at)) (omega (arith, here, past))
