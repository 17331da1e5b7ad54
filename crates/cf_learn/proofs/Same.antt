-- The same acts in another list, in whatever order and however often each; and each once, in order.
use Rattle.std.proofs.Common.{◌≡◌, ℕ, ◌+◌, ◌<◌, Bool, true, ◌&&◌, ◌==◌, ℤ, List, [], ◌∷◌, ◌++◌, length, take, get_or, Option, Some, None, refl, sym, ap, subst, ◌∙◌, append_assoc}
use mathlib.Core.Logic.{⊎_elim}
use Rattle.std.specs.Prelude.{Contains}
use Rattle.std.specs.Cmp.{IsEquivalence, IsTotalOrder, and_equiv, both_tied, first_so, int_cmp_total, int_eq_equiv, nat_cmp_total, nat_eq_equiv, on_equiv, on_total, second_so, then_total, unsigned_ties}
use Rattle.std.specs.Cmp.Lexicographic.{options_equiv, options_total}
use Rattle.std.specs.List.{dedup}
use Rattle.std.specs.List.Sorted.{IsPermutation, IsSorted, IsStrictlySortedBy}
use Rattle.std.specs.Option.{option_eq}
use Rattle.std.specs.Ordering.{eq_by_cmp, int_eq}
use Rattle.std.proofs.lemmas.Bool.{eqb-true, false≢true}
use Rattle.std.proofs.lemmas.Bool.Decides.{Decides-int_eq}
use Rattle.std.proofs.lemmas.List.{take_more}
use Rattle.std.proofs.lemmas.List.Elements.{Contains-append_left, Contains-append_right, Contains-append_cases, Contains-push_cases}
use Rattle.std.proofs.lemmas.List.Kept.{Contains-dedup, Contains-from_dedup, IsStrictlySortedBy-dedup}
use Rattle.std.proofs.lemmas.List.Sorted.{Contains-permutation, IsPermutation-sym}
use Rattle.cf_learn.specs.Reading.{HaveSame}
use Rattle.cf_learn.specs.Rules.{kind_cmp, seen_cmp, value_cmp}
use Rattle.cf_learn.specs.Seen.{is_same_kind}
use Rattle.cf_learn.specs.declared.seen.Seen.{Seen}
use Rattle.cf_learn.proofs.Exact.{kind_same}

pub same_again : (l : List Seen) → HaveSame l l
same_again l s = (λ h. h, λ h. h)

pub same_then : (a b c : List Seen) → HaveSame a b → HaveSame b c → HaveSame a c
same_then a b c x y s = (λ h. (y s).0 ((x s).0 h), λ h. (x s).1 ((y s).1 h))

-- behind both come the same
pub same_behind : (a b more : List Seen) → HaveSame a b → HaveSame (a ++ more) (b ++ more)
same_behind a b more x s = (
  λ h. ⊎_elim (λ f. Contains-append_left b more s ((x s).0 f)) (λ l. Contains-append_right b more s l) (Contains-append_cases a more s h),
  λ h. ⊎_elim (λ f. Contains-append_left a more s ((x s).1 f)) (λ l. Contains-append_right a more s l) (Contains-append_cases b more s h),
)

-- one comes once more
pub same_there : (sorted loose : List Seen) (one : Seen) → Contains sorted one → HaveSame (sorted ++ loose) ((sorted ++ loose) ++ one ∷ [])
same_there sorted loose one here s = (
  λ h. Contains-append_left (sorted ++ loose) (one ∷ []) s h,
  λ h. ⊎_elim
      (λ f. f)
      (λ is. subst (Contains (sorted ++ loose)) is (Contains-append_left sorted loose one here))
      (Contains-push_cases (sorted ++ loose) one s h),
)

-- one comes anew
pub same_new : (sorted loose : List Seen) (one : Seen) → HaveSame (sorted ++ (loose ++ one ∷ [])) ((sorted ++ loose) ++ one ∷ [])
same_new sorted loose one = subst (λ l. HaveSame l ((sorted ++ loose) ++ one ∷ [])) (append_assoc sorted loose (one ∷ [])) (same_again ((sorted ++ loose) ++ one ∷ []))

-- so it does among others
pub same_more : (now before all fresh : List Seen) (i : ℕ) (one : Seen) → i < length fresh → one ≡ get_or fresh i one → HaveSame before (all ++ take i fresh)
    → HaveSame now (before ++ one ∷ []) → HaveSame now (all ++ take (i + 1) fresh)
same_more now before all fresh i one lt is so_far more =
    subst (HaveSame now)
    (append_assoc all (take i fresh) (one ∷ []) ∙ ap (λ l. all ++ l) (ap (λ s. take i fresh ++ s ∷ []) is ∙ sym (take_more fresh i one lt)))
    (same_then now (before ++ one ∷ []) ((all ++ take i fresh) ++ one ∷ []) more (same_behind before (all ++ take i fresh) (one ∷ []) so_far))

-- what stands at a place is there
pub found_at : (sorted : List Seen) (place : ℕ) (other one : Seen) → place < length sorted → other ≡ get_or sorted place other → is_same_kind other.kind one.kind ≡ true → other.point ≡ one.point
    → (place < length sorted) × Contains sorted one
found_at sorted place other one inside here kind point =
    let is : other ≡ one = (λ i. record { kind = kind_same other.kind one.kind kind i; point = point i }) in
    (inside, subst (Contains sorted) is (place, inside, sym here))

-- the tests that are derived
abbrev pub is_same_seen : Seen → Seen → Bool
is_same_seen s t =
    ((s.kind.client == t.kind.client) && ((s.kind.code == t.kind.code) && ((s.kind.group == t.kind.group) && option_eq int_eq s.kind.value t.kind.value)))
    && (s.point == t.point)

value_is : (v w : Option ℤ) → option_eq int_eq v w ≡ true → v ≡ w
value_is None None h = refl
value_is None (Some n) h = absurd (false≢true h)
value_is (Some m) None h = absurd (false≢true h)
value_is (Some m) (Some n) h = ap Some ((Decides-int_eq m n).0 h)

seen_is : (s t : Seen) → s.kind.client ≡ t.kind.client → s.kind.code ≡ t.kind.code → s.kind.group ≡ t.kind.group → s.kind.value ≡ t.kind.value → s.point ≡ t.point → s ≡ t
seen_is s t a b c d e = λ i. record { kind = record { client = a i; code = b i; group = c i; value = d i }; point = e i }

same_seen_is : (s t : Seen) → is_same_seen s t ≡ true → s ≡ t
same_seen_is s t h =
    let kind = first_so _ (s.point == t.point) h in
    let later = second_so (s.kind.client == t.kind.client) _ kind in
    let last = second_so (s.kind.code == t.kind.code) _ later in
    seen_is s t
    (eqb-true s.kind.client t.kind.client (first_so (s.kind.client == t.kind.client) _ kind))
    (eqb-true s.kind.code t.kind.code (first_so (s.kind.code == t.kind.code) _ later))
    (eqb-true s.kind.group t.kind.group (first_so (s.kind.group == t.kind.group) _ last))
    (value_is s.kind.value t.kind.value (second_so (s.kind.group == t.kind.group) _ last))
    (eqb-true s.point t.point (second_so _ (s.point == t.point) h))

same_seen_equiv : IsEquivalence is_same_seen
same_seen_equiv = and_equiv
    (and_equiv (on_equiv (λ s. s.kind.client) nat_eq_equiv)
    (and_equiv (on_equiv (λ s. s.kind.code) nat_eq_equiv)
    (and_equiv (on_equiv (λ s. s.kind.group) nat_eq_equiv) (on_equiv (λ s. s.kind.value) (options_equiv int_eq_equiv)))))
    (on_equiv (λ s. s.point) nat_eq_equiv)

kind_total : IsTotalOrder kind_cmp
kind_total = then_total (on_total (λ k. k.client) nat_cmp_total)
    (then_total (on_total (λ k. k.code) nat_cmp_total)
    (then_total (on_total (λ k. k.group) nat_cmp_total) (on_total (λ k. k.value) (options_total int_cmp_total))))

seen_total : IsTotalOrder seen_cmp
seen_total = then_total (on_total (λ s. s.kind) kind_total) (on_total (λ s. s.point) nat_cmp_total)

value_ties : (v w : Option ℤ) → option_eq int_eq v w ≡ eq_by_cmp value_cmp v w
value_ties None None = refl
value_ties None (Some n) = refl
value_ties (Some m) None = refl
value_ties (Some m) (Some n) = refl

same_seen_ties : (s t : Seen) → is_same_seen s t ≡ eq_by_cmp seen_cmp s t
same_seen_ties s t = both_tied _ (s.point == t.point) (kind_cmp s.kind t.kind) _
    (both_tied (s.kind.client == t.kind.client) _ _ _ (unsigned_ties s.kind.client t.kind.client)
    (both_tied (s.kind.code == t.kind.code) _ _ _ (unsigned_ties s.kind.code t.kind.code)
    (both_tied (s.kind.group == t.kind.group) _ _ _ (unsigned_ties s.kind.group t.kind.group) (value_ties s.kind.value t.kind.value))))
    (unsigned_ties s.point t.point)

-- all of them in order, each once
module _ (all sorted once : List Seen) (is : once ≡ dedup is_same_seen sorted) where
  pub same_once : IsPermutation all sorted → HaveSame once all
  same_once moved s = (
    λ h. Contains-permutation sorted all s (IsPermutation-sym all sorted moved) (Contains-from_dedup is_same_seen sorted s (subst (λ l. Contains l s) is h)),
    λ h. subst (λ l. Contains l s) (sym is) (Contains-dedup same_seen_equiv same_seen_is sorted s (Contains-permutation all sorted s moved h)),
  )

  pub strictly_once : IsSorted seen_cmp sorted → IsStrictlySortedBy seen_cmp once
  strictly_once up = subst (IsStrictlySortedBy seen_cmp) (sym is) (IsStrictlySortedBy-dedup seen_total same_seen_ties sorted up)
