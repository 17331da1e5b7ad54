-- The stamps of the records of remarks: what is found among them, and that the lines of the remarks have those of all records.
use Rattle.std.proofs.Common.{◌≡◌, ◌≢◌, ◌-◌, ◌+◌, ◌<◌, ◌≤◌, ◌==◌, ◌||◌, ◌∙◌, ℕ, zero, suc, Bool, true, false, ltb, List, [], ◌∷◌, ◌++◌, Some, length, slice_get, get_or, refl, ap, sym, subst, ◌^◌, arith, inl, inr, ◌⊎◌, length-append}
use Rattle.std.specs.List.{AllByRecursion}
use Rattle.std.specs.List.Sorted.{IsNonDecreasingBy, IsPartitionPoint}
use Rattle.std.proofs.lemmas.Bool.{cases_Bool, cases_lt, eq-eqb, eqb-true, false≢true, ltb-false, ltb-true}
use Rattle.std.proofs.lemmas.Bool.Decides.{nat_tests}
use Rattle.std.proofs.lemmas.List.{get_or_append_left, get_or_push}
use Rattle.std.proofs.lemmas.List.Elements.{recursion_from_All}
use Rattle.std.proofs.lemmas.Option.{get_or_from_slice_get, none-some, same_Some, slice_get_within}
use Rattle.cf_policy.specs.declared.Asset.{Asset}
use Rattle.cf_review.specs.Lines.{line_by, lines_by, remark_line, review_text, stamp_of}
use Rattle.cf_review.specs.Remark.{RemarkValue}
use Rattle.cf_review.specs.Stamps.{AreStamps, StampsTell, has_stamp, stamp_by}
use Rattle.cf_review.specs.declared.stamps.Stamp.{Stamp}

-- ---- what is found

module _ (number : ℕ) where
  -- the first of the number is told
  pub by_first : (s : List Stamp) (i : ℕ) (x : Stamp) → ((j : ℕ) (y : Stamp) → j < i → slice_get s j ≡ Some y → y.number ≢ number) → slice_get s i ≡ Some x → x.number ≡ number →
      stamp_by s number ≡ x.stamp
  by_first [] i x none e is = absurd (none-some x e)
  by_first (w ∷ s) zero x none e is =
      let same : w ≡ x = same_Some w x e in
      let here : (w.number == number) ≡ true = eq-eqb w.number number (ap (λ (y : Stamp). y.number) same ∙ is) in
      rw here (ap (λ (y : Stamp). y.stamp) same)
  by_first (w ∷ s) (suc i) x none e is =
      let other = none 0 w (omega arith) refl in
      let here : (w.number == number) ≡ false = grind (arith, nat_tests, other) in
      rw here (by_first s i x (λ j y low. none (suc j) y (omega (arith, low))) e is)

  -- and 0 where there is none
  pub by_none : (s : List Stamp) → ((j : ℕ) (y : Stamp) → slice_get s j ≡ Some y → y.number ≢ number) → stamp_by s number ≡ 0
  by_none [] none = refl
  by_none (w ∷ s) none =
      let other = none 0 w refl in
      let here : (w.number == number) ≡ false = grind (arith, nat_tests, other) in
      rw here (by_none s (λ j. none (suc j)))

  -- one that is kept stands somewhere
  pub kept_at : (s : List Stamp) → has_stamp s number ≡ true → (i : ℕ) × (x : Stamp) × (slice_get s i ≡ Some x) × (x.number ≡ number) × (stamp_by s number ≡ x.stamp)
  kept_at [] h = absurd (false≢true h)
  kept_at (w ∷ s) h = elim (cases_Bool (w.number == number)) [
    | inl here ↦ (0, w, refl, eqb-true w.number number here, rw here refl)
    | inr other ↦ (let rest = kept_at s (rw other at h) in (suc rest.0, rest.1, rest.2, rest.3, rw other rest.4))
  ]

  -- of a list in the order of its numbers, that at the first place whose number is not lower is told, where it is of this number
  module _ (s : List Stamp) (behind : ℕ) (split : IsPartitionPoint (λ x. ltb x.number number ≡ true) (λ x. ltb x.number number ≡ false) s behind) where
    low : (j : ℕ) (y : Stamp) → j < behind → slice_get s j ≡ Some y → y.number ≢ number
    low j y inside e same =
        let below : ltb y.number number ≡ true = subst (λ (z : Stamp). ltb z.number number ≡ true) (get_or_from_slice_get s j y y e) (split.0 j y (omega arith) inside) in
        let less : y.number < number = ltb-true y.number number below in
        omega (arith, less, same)

    pub found_first : (x : Stamp) → slice_get s behind ≡ Some x → x.number ≡ number → stamp_by s number ≡ x.stamp
    found_first x e is = by_first s behind x low e is

    high : IsNonDecreasingBy (λ (x : Stamp). x.number) s → (x : Stamp) → slice_get s behind ≡ Some x → x.number ≢ number → (j : ℕ) (y : Stamp) → slice_get s j ≡ Some y → y.number ≢ number
    high rise x e other j y at same =
        let there = slice_get_within s behind x e in
        let here = slice_get_within s j y at in
        elim (cases_lt j behind) [
          | inl before ↦ low j y before at same
          | inr past ↦ (
              let least : number ≤ x.number =
              ltb-false x.number number (subst (λ (z : Stamp). ltb z.number number ≡ false) (get_or_from_slice_get s behind x y e) (split.1 behind y (omega arith) there)) in
              let rises : x.number ≤ y.number = subst (λ (z : Stamp). z.number ≤ y.number) (get_or_from_slice_get s behind x y e) (subst (λ (z : Stamp). (get_or s behind y).number ≤ z.number) (get_or_from_slice_get s j y y at) (rise behind j y past here)) in
              other (omega (arith, least, rises, same)))
        ]

    pub found_none : IsNonDecreasingBy (λ (x : Stamp). x.number) s → (x : Stamp) → slice_get s behind ≡ Some x → x.number ≢ number → stamp_by s number ≡ 0
    found_none rise x e other = by_none s (high rise x e other)

    pub found_past : length s ≤ behind → stamp_by s number ≡ 0
    found_past past = by_none s (λ j y at. let here = slice_get_within s j y at in low j y (omega (arith, here, past)) at)

-- ---- one more

or_true : (b : Bool) → (b || true) ≡ true
or_true true = refl
or_true false = refl

-- an element of a list with one more is one of the list, or that one
at_push : {X : Type 0} (xs : List X) (x y : X) (i : ℕ) → slice_get (xs ++ x ∷ []) i ≡ Some y → (slice_get xs i ≡ Some y) ⊎ (x ≡ y)
at_push [] x y zero e = inr (same_Some x y e)
at_push [] x y (suc i) e = absurd (none-some y e)
at_push (w ∷ xs) x y zero e = inl e
at_push (w ∷ xs) x y (suc i) e = at_push xs x y i e

-- the newest is kept, and the others stay
pub has_pushed : (s : List Stamp) (x : Stamp) → has_stamp (s ++ x ∷ []) x.number ≡ true
has_pushed [] x = rw (eq-eqb x.number x.number refl) refl
has_pushed (w ∷ s) x = rw (has_pushed s x) (or_true (w.number == x.number))

pub has_kept : (s : List Stamp) (x : Stamp) (number : ℕ) → has_stamp s number ≡ true → has_stamp (s ++ x ∷ []) number ≡ true
has_kept [] x number h = absurd (false≢true h)
has_kept (w ∷ s) x number h = elim (cases_Bool (w.number == number)) [
  | inl here ↦ rw here refl
  | inr other ↦ rw other (has_kept s x number (rw other at h))
]

-- where there is one more record, those that are kept are as they were
pub stamps_on : (stamps : List ℕ) (stamp : ℕ) (s : List Stamp) → AreStamps stamps s → AreStamps (stamps ++ stamp ∷ []) s
stamps_on stamps stamp s h = record {
  are = λ i x e. let low = h.low i x e in let past = h.past i x e in
      h.are i x e ∙ sym (get_or_append_left stamps (stamp ∷ []) 0 (x.number - 1) (omega (arith, low.0, past)));
  low = h.low;
  past = λ i x e. let past = h.past i x e in let more : length (stamps ++ stamp ∷ []) ≡ length stamps + 1 = length-append stamps (stamp ∷ []) in omega (arith, past, more);
}

-- and that of the newest may be kept
pub stamps_pushed : (stamps : List ℕ) (s : List Stamp) (x : Stamp) → AreStamps stamps s → (0 < x.number) × (x.number < 2 ^ 32) → x.number ≡ length stamps + 1 →
    AreStamps (stamps ++ x.stamp ∷ []) (s ++ x ∷ [])
stamps_pushed stamps s x h low newest =
    let before = stamps_on stamps x.stamp s h in
    let more : length (stamps ++ x.stamp ∷ []) ≡ length stamps + 1 = length-append stamps (x.stamp ∷ []) in
    let told : x.stamp ≡ stamp_of (stamps ++ x.stamp ∷ []) x.number = sym (get_or_push stamps x.stamp 0 (x.number - 1) (omega (arith, newest))) in
    record {
      are = λ i y e. elim (at_push s x y i e) [
        | inl at ↦ before.are i y at
        | inr same ↦ subst (λ (z : Stamp). z.stamp ≡ stamp_of (stamps ++ x.stamp ∷ []) z.number) same told
      ];
      low = λ i y e. elim (at_push s x y i e) [ inl at ↦ h.low i y at | inr same ↦ subst (λ (z : Stamp). (0 < z.number) × (z.number < 2 ^ 32)) same low ];
      past = λ i y e. elim (at_push s x y i e) [
        | inl at ↦ before.past i y at
        | inr same ↦ subst (λ (z : Stamp). z.number ≤ length (stamps ++ x.stamp ∷ [])) same (omega (arith, more, newest))
      ];
    }

-- ---- the lines

stamp_told : (stamps : List ℕ) (s : List Stamp) (number : ℕ) → AreStamps stamps s → has_stamp s number ≡ true → stamp_by s number ≡ stamp_of stamps number
stamp_told stamps s number are has =
    let k = kept_at number s has in
    k.4 ∙ are.are k.0 k.1 k.2 ∙ ap (stamp_of stamps) k.3

lines_told : (assets : List Asset) (stamps : List ℕ) (s : List Stamp) (remarks : List RemarkValue) → AreStamps stamps s → AllByRecursion (λ r. has_stamp s r.at_record ≡ true) remarks →
    lines_by assets (stamp_by s) remarks ≡ review_text assets stamps remarks
lines_told assets stamps s [] are known = refl
lines_told assets stamps s (r ∷ remarks) are known =
    ap (λ m. line_by (slice_get assets r.asset) m r ++ lines_by assets (stamp_by s) remarks) (stamp_told stamps s r.at_record are known.0)
    ∙ ap (λ t. remark_line assets (stamp_of stamps) r ++ t) (lines_told assets stamps s remarks are known.1)

pub text_told : StampsTell
text_told assets stamps s remarks are known = lines_told assets stamps s remarks are (recursion_from_All (λ r. has_stamp s r.at_record ≡ true) remarks known)
