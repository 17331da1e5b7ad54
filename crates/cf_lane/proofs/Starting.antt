-- What a new lane has of each asset.
use Rattle.cf_dnptrans.specs.AssemblyValue.{AssemblyValue, IsAssemblyOf}
use Rattle.cf_dnptrans.specs.Transport.{unfinished}
use Rattle.cf_lane.proofs.Parting.{get_set_is, get_set_other, inside_by}
use Rattle.cf_lane.proofs.Saying.{map_get}
use Rattle.cf_lane.specs.Caller.{RateMoments, none_before}
use Rattle.cf_lane.specs.Kept.{AddsNewFragments, AreAllFragments, AreNewFragments, IsNewFragments, KnowAllFragments, StandOf, of_side, owed_by}
use Rattle.cf_lane.specs.Over.{are_over, own_are_over}
use Rattle.cf_lane.specs.Ring.{IsRingOf}
use Rattle.cf_lane.specs.Rings.{AddsRules, AreOwnRings, AreRingsOf, AreRulesOf, AreUnused, IsRulesOf, KnowOwnRings, KnowRings, KnowsRules, rings_in}
use Rattle.cf_lane.specs.declared.rules.Rules.{Rules}
use Rattle.cf_lane.specs.declared.wire.Fragments.{Fragments}
use Rattle.cf_policy.specs.Site.{SiteValue, asset_of}
use Rattle.cf_view.specs.declared.Side.{Side}
use Rattle.std.proofs.Common.{Bool, List, None, Option, Some, [], ap, arith, drop, false, get_or, inl, inr, length, nat_eq, refl, set, slice_get, subst, suc, sym, take, true, zero, ℕ, ◌&&◌, ◌*◌, ◌++◌, ◌+◌, ◌/◌, ◌<◌, ◌∙◌, ◌∷◌, ◌≡◌, ◌≤◌, ◌⊎◌}
use Rattle.std.proofs.lemmas.Bool.{eqb-false, eqb-true}
use Rattle.std.proofs.lemmas.List.Folds.{list_any_at, list_any_none}
use Rattle.std.proofs.lemmas.List.FromFn.{get_or-range_with_len, length-range_with_len}
use Rattle.std.proofs.lemmas.Option.{slice_get-get_or}
use Rattle.std.specs.Prelude.{IsSome, IsTrue, if◌then◌else◌, is_some, ◌↔◌}
use Rattle.std.proofs.Math.Seq.{take-append_seam}
use Rattle.std.proofs.lemmas.List.{append-nil, length-append, length-map}
use Rattle.std.proofs.lemmas.List.Sums.{sum_by-cons}
use Rattle.std.specs.List.{list_all, list_any, range_with_len, sum_by}

-- what stands in a list with one element behind it stands in the list, or is the last
pub get_last : {A : Type 0} (xs : List A) (x y : A) (k : ℕ) → slice_get (xs ++ x ∷ []) k ≡ Some y → (slice_get xs k ≡ Some y) ⊎ ((k ≡ length xs) × (x ≡ y))
get_last [] x y zero at = inr (refl, cc at)
get_last [] x y (suc k) at = cc
get_last (z ∷ xs) x y zero at = inl at
get_last (z ∷ xs) x y (suc k) at = elim (get_last xs x y k at) [
  | inl here ↦ inl here
  | inr last ↦ inr (ap suc last.0, last.1)
]

no_element : {A : Type 0} (x : A) → None ≡ Some x → ⊥
no_element x e = cc

-- the rules so far are those of the first assets, and none was used
pub record AreRulesSoFar (site : SiteValue) (client : ℕ) (count : ℕ) (all : List Rules) : Type 0 where
  pub count_is : length all ≡ count
  pub each : (k : ℕ) (rules : Rules) → slice_get all k ≡ Some rules → IsRulesOf (asset_of site k) client rules × KnowOwnRings rules.rings.items (none_before k)

pub none_so_far : (site : SiteValue) (client : ℕ) (all : List Rules) → all ≡ [] → AreRulesSoFar site client 0 all
none_so_far site client all none = subst (AreRulesSoFar site client 0) (sym none) (record { count_is = refl; each = λ k rules at. none_there site client k rules at }) where
  none_there : (site : SiteValue) (client k : ℕ) (rules : Rules) → slice_get [] k ≡ Some rules → IsRulesOf (asset_of site k) client rules × KnowOwnRings rules.rings.items (none_before k)
  none_there site client k rules at = absurd (no_element rules at)

pub rules_more : (site : SiteValue) (client count : ℕ) (old new : List Rules) → AreRulesSoFar site client count old → AddsRules (asset_of site count) client old new →
    AreRulesSoFar site client (count + 1) new
rules_more site client count old new are adds = record {
  count_is = omega (arith, ap length adds.added, length-append old (adds.rules ∷ []), are.count_is);
  each = λ k rules at. elim (get_last old adds.rules rules k (ap (λ all. slice_get all k) (sym adds.added) ∙ at)) [
    | inl here ↦ are.each k rules here
    | inr last ↦
        (let place : count ≡ k = sym are.count_is ∙ sym last.0 in (
          subst (λ n. IsRulesOf (asset_of site n) client rules) place (subst (IsRulesOf (asset_of site count) client) last.1 adds.of_asset),
          subst (λ (r : Rules). KnowOwnRings r.rings.items (none_before k)) last.1 adds.unused,
        ))
  ];
}

pub over_all : (moment : ℕ) (all : List Rules) → list_all (λ rules. own_are_over moment rules.rings.items) all ≡ are_over moment (rings_in all)
over_all moment [] = refl
over_all moment (r ∷ all) = ap (λ b. own_are_over moment r.rings.items && b) (over_all moment all)

-- ---- fragments

pub fragments_more : (old new : List Fragments) → AreNewFragments (length old) old → AddsNewFragments old new → AreNewFragments (length new) new
fragments_more old new are adds = record {
  one_each = refl;
  each = λ k f at. elim (get_last old adds.fragments f k (ap (λ all. slice_get all k) (sym adds.added) ∙ at)) [
    | inl here ↦ are.each k f here
    | inr last ↦ subst IsNewFragments last.1 adds.nothing
  ];
}

pub one_more : (old new : List Fragments) → AddsNewFragments old new → length new ≡ length old + 1
one_more old new adds = omega (arith, ap length adds.added, length-append old (adds.fragments ∷ []))

pub no_fragments : AreNewFragments 0 []
no_fragments = record { one_each = refl; each = λ k f at. cc }

-- new fragments are such, and know that nothing has come
pub new_are : (count : ℕ) (all : List Fragments) → AreNewFragments count all → AreAllFragments count all
new_are count all are = record {
  one_each = are.one_each;
  each = λ k f at. (let n = are.each k f at in
      record { client = ([], n.client); controller = ([], n.controller); to_client = omega (arith, n.to_client); to_controller = omega (arith, n.to_controller) });
}

pub new_know : (site : SiteValue) (count : ℕ) (all : List Fragments) → AreNewFragments count all → KnowAllFragments site all []
new_know site count all are k f at =
    let n = are.each k f at in record { client = n.client; controller = n.controller; to_client = n.to_client; to_controller = n.to_controller }

-- ---- rules that are taken over

-- rules whose rings stay have the rings that they had
pub rings_same : (all : List Rules) (place : ℕ) (x now : Rules) → place < length all → now.rings.items ≡ (get_or all place x).rings.items → rings_in (set all place now) ≡ rings_in all
rings_same [] place x now inside same = absurd (omega (arith, inside))
rings_same (r ∷ all) zero x now inside same = ap (λ rings. rings ∷ rings_in all) same
rings_same (r ∷ all) (suc place) x now inside same = ap (λ rest. r.rings.items ∷ rest) (rings_same all place x now (omega (arith, inside)) same)

-- the rules before a place are those of their assets for the client, and all have the rings that they had
pub record AreTakenOver (site : SiteValue) (client count : ℕ) (old new : List Rules) : Type 0 where
  pub rings : rings_in new ≡ rings_in old
  pub each : (k : ℕ) (rules : Rules) → k < count → slice_get new k ≡ Some rules → IsRulesOf (asset_of site k) client rules

pub own_rings_at : (site : SiteValue) (client count : ℕ) (old new : List Rules) (x : Rules) → AreTakenOver site client count old new → AreRingsOf site (rings_in old) → count < length new →
    AreOwnRings (asset_of site count) (get_or new count x).rings.items
own_rings_at site client count old new x are rings inside =
    rings.each count (get_or new count x).rings.items (ap (λ rs. slice_get rs count) (sym are.rings) ∙ map_get new count (get_or new count x) (slice_get-get_or new count x inside))

pub over_more : (site : SiteValue) (client count : ℕ) (old new : List Rules) (x now : Rules) → AreTakenOver site client count old new → count < length new →
    now.rings.items ≡ (get_or new count x).rings.items → IsRulesOf (asset_of site count) client now → AreTakenOver site client (count + 1) old (set new count now)
over_more site client count old new x now are inside same of = record {
  rings = rings_same new count x now inside same ∙ are.rings;
  each = λ k rules below at. by k rules below at (nat_eq count k) refl;
} where
  by : (k : ℕ) (rules : Rules) → k < count + 1 → slice_get (set new count now) k ≡ Some rules → (b : Bool) → nat_eq count k ≡ b → IsRulesOf (asset_of site k) client rules
  by k rules below at true here =
      subst (λ n. IsRulesOf (asset_of site n) client rules) (eqb-true count k here) (subst (IsRulesOf (asset_of site count) client) (get_set_is new count k now rules inside here at) of)
  by k rules below at false other =
      let apart = eqb-false count k other in
      are.each k rules (omega (arith, below, apart)) (sym (get_set_other new count k now apart) ∙ at)

pub all_over : (site : SiteValue) (client count : ℕ) (old new : List Rules) → AreTakenOver site client count old new → AreRingsOf site (rings_in old) → length new ≤ count → AreRulesOf site client new
all_over site client count old new are rings past = record {
  one_each = sym (length-map new (λ (r : Rules). r.rings.items)) ∙ ap length are.rings ∙ rings.one_each;
  each = λ k rules at. are.each k rules (omega (arith, inside_by new k rules at, past)) at;
}

-- ---- what is unfinished

true_or_none : (b : Bool) (o : Option (List ℕ)) → IsTrue b ↔ IsSome o → b ≡ is_some o
true_or_none true (Some x) e = refl
true_or_none true None e = cc (e.0 refl)
true_or_none false (Some x) e = cc (e.1 refl)
true_or_none false None e = refl

-- whether the fragment of a place is unfinished
pub one_told : (s : Side) (all : List Fragments) (k : ℕ) (x : Fragments) (a : AssemblyValue) (b : Bool) → k < length all → x ≡ get_or all k x → a ≡ of_side s x →
    ((segments : List (List ℕ)) → IsAssemblyOf a segments → IsTrue b ↔ IsSome (unfinished segments)) →
    (segments : ℕ → List (List ℕ)) → StandOf s all segments → b ≡ is_some (unfinished (segments k))
one_told s all k x a b inside here is told segments stand =
    true_or_none b (unfinished (segments k))
    (told (segments k) (subst (λ v. IsAssemblyOf v (segments k)) (sym is) (stand k x (slice_get-get_or all k x inside ∙ ap Some (sym here)))))

pub some_place : (p : ℕ → Bool) (n k : ℕ) → k < n → p k ≡ true → list_any p (range_with_len 0 n) ≡ true
some_place p n k inside passes =
    list_any_at p (range_with_len 0 n) k 0 (omega (arith, length-range_with_len 0 n, inside)) (ap p (let same : 0 + k ≡ k = omega arith in get_or-range_with_len 0 n k 0 inside ∙ same) ∙ passes)

pub no_place : (p : ℕ → Bool) (n : ℕ) → ((k : ℕ) → k < n → p k ≡ false) → list_any p (range_with_len 0 n) ≡ false
no_place p n none = list_any_none p (range_with_len 0 n) (λ k d inside.
    (let below : k < n = omega (arith, inside, length-range_with_len 0 n) in
    let same : 0 + k ≡ k = omega arith in ap p (get_or-range_with_len 0 n k d below ∙ same) ∙ none k below))

-- ---- what earlier sessions left

pub left_known : (site : SiteValue) (before : RateMoments) (all : List Rules) → KnowRings (rings_in all) before → KnowsRules site before all []
left_known site before all know k rules at place r there =
    subst (IsRingOf r.rate.most r.moments) (sym (append-nil (before k place))) (know k rules.rings.items (map_get all k rules at) place r there)

pub unused_known : (site : SiteValue) (before : RateMoments) (all : List Rules) → before ≡ none_before → AreUnused all → KnowsRules site before all []
unused_known site before all none unused =
    subst (λ (b : RateMoments). KnowsRules site b all []) (sym none) (λ k rules at place r there.
    subst (IsRingOf r.rate.most r.moments) (sym (append-nil (none_before k place))) (unused k rules at place r there))

-- the whole of what was written back
pub whole_back : {A : Type 0} (size : ℕ) (new old : List A) → size ≡ length old → length new ≡ length old → take size (new ++ drop (length new) old) ≡ new
whole_back size new old is same = ap (λ n. take n (new ++ drop (length new) old)) (is ∙ sym same) ∙ take-append_seam new (drop (length new) old)

-- ---- new fragments owe nothing

owes_by : (b : Bool) (octets : List ℕ) → (if b then Some octets else None) ≡ None → (if b then 5 * length octets / 4 else 0) ≡ 0
owes_by true octets e = cc
owes_by false octets e = refl

pub new_owe : (all : List Fragments) → ((k : ℕ) (f : Fragments) → slice_get all k ≡ Some f → IsNewFragments f) → sum_by owed_by all ≡ 0
new_owe [] each = refl
new_owe (f ∷ all) each =
    let n = each 0 f refl in
    let client = n.client in
    let controller = n.controller in
    omega (
      arith,
      sum_by-cons owed_by f all,
      owes_by f.client.begun f.client.octets client.opened,
      owes_by f.controller.begun f.controller.octets controller.opened,
      new_owe all (λ k x at. each (suc k) x at),
    )
