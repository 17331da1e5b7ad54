-- The items of a site's session by its assets.
use Rattle.cf_lane.specs.Caller.{Caller}
use Rattle.cf_lane.specs.Fate.{HasFate, HasFateBy}
use Rattle.cf_lane.specs.Item.{Broke, Ended, Item, Took, placed}
use Rattle.cf_lane.specs.Unit.{Adu, Apdu, Frame}
use Rattle.cf_lane.specs.declared.fate.Fate.{Fate}
use Rattle.cf_lane.specs.Judged.{Judged, ends, has_ended}
use Rattle.cf_lane.specs.Parts.{bears, concerns, part, with_if}
use Rattle.cf_lane.specs.Site.{find_place, item_place, or_first, place_for}
use Rattle.cf_policy.specs.Site.{IsSiteWithin, SiteValue, asset_of, assets_of}
use Rattle.cf_policy.specs.Within.{IsAssetWithin}
use Rattle.cf_policy.specs.declared.Asset.{Asset}
use Rattle.cf_view.specs.declared.Side.{Side}
use Rattle.std.proofs.Common.{Bool, List, None, Option, Some, [], ap, arith, false, inl, inr, length, nat_eq, option_map, refl, set, slice_get, subst, suc, sym, true, zero, ℕ, ◌++◌, ◌<◌, ◌∙◌, ◌∷◌, ◌≡◌, ◌≢◌, ◌||◌}
use Rattle.std.proofs.lemmas.Bool.{cases_lt, eq-eqb, eqb-true}
use Rattle.std.proofs.lemmas.List.{append-nil, get_or_past}
use Rattle.std.proofs.lemmas.Option.{slice_get_within}
use Rattle.std.specs.Prelude.{All, get_or, if◌then◌else◌}

-- ---- parts of lists

with_if-append : (b : Bool) (j : Judged) (xs ys : List Judged) → with_if b j xs ++ ys ≡ with_if b j (xs ++ ys)
with_if-append true j xs ys = refl
with_if-append false j xs ys = refl

pub part-append : (site : SiteValue) (k : ℕ) (xs ys : List Judged) → part site k (xs ++ ys) ≡ part site k xs ++ part site k ys
part-append site k [] ys = refl
part-append site k (x ∷ xs) ys =
    ap (with_if (concerns site k x.item) x) (part-append site k xs ys) ∙ sym (with_if-append (concerns site k x.item) x (part site k xs) (part site k ys))

-- the part with one item more
pub part-more : (site : SiteValue) (k : ℕ) (earlier : List Judged) (j : Judged) → part site k (earlier ++ j ∷ []) ≡ part site k earlier ++ with_if (concerns site k j.item) j []
part-more site k earlier j = part-append site k earlier (j ∷ [])

-- an item that concerns the asset stands in its part
pub part_mine : (site : SiteValue) (k : ℕ) (earlier : List Judged) (j : Judged) → concerns site k j.item ≡ true → part site k (earlier ++ j ∷ []) ≡ part site k earlier ++ j ∷ []
part_mine site k earlier j mine = part-more site k earlier j ∙ ap (λ b. part site k earlier ++ with_if b j []) mine

-- and another does not
pub part_apart : (site : SiteValue) (k : ℕ) (earlier : List Judged) (j : Judged) → concerns site k j.item ≡ false → part site k (earlier ++ j ∷ []) ≡ part site k earlier
part_apart site k earlier j apart = part-more site k earlier j ∙ ap (λ b. part site k earlier ++ with_if b j []) apart ∙ append-nil (part site k earlier)

-- an item concerns the asset that it goes by
pub concerns_own : (site : SiteValue) (i : Item) → concerns site (item_place site i) i ≡ true
concerns_own site (Took s u) = eq-eqb (place_for site s u) (place_for site s u) refl
concerns_own site (Ended s rest) = refl
concerns_own site (Broke s because) = refl

-- ---- Ends concern every asset

ended_if : (t : Side) (b : Bool) (j : Judged) (js : List Judged) → (b ≡ false → ends t j.item ≡ false) → has_ended t (with_if b j js) ≡ (ends t j.item || has_ended t js)
ended_if t true j js none = refl
ended_if t false j js none = ap (λ e. e || has_ended t js) (sym (none refl))

no_end : (site : SiteValue) (k : ℕ) (t : Side) (i : Item) → concerns site k i ≡ false → ends t i ≡ false
no_end site k t (Took s u) apart = refl
no_end site k t (Ended s rest) apart = cc
no_end site k t (Broke s because) apart = refl

-- a side has ended in each part where it has in the whole
pub ended_part : (site : SiteValue) (k : ℕ) (t : Side) (js : List Judged) → has_ended t (part site k js) ≡ has_ended t js
ended_part site k t [] = refl
ended_part site k t (j ∷ js) =
    ended_if t (concerns site k j.item) j (part site k js) (no_end site k t j.item) ∙ ap (λ b. ends t j.item || b) (ended_part site k t js)

-- and in the items that bear on one
pub ended_bears : (site : SiteValue) (k : ℕ) (t : Side) (i : Item) (earlier : List Judged) → has_ended t (bears i earlier (part site k earlier)) ≡ has_ended t earlier
ended_bears site k t (Took s (Adu a)) earlier = ended_part site k t earlier
ended_bears site k t (Took s (Frame x)) earlier = ended_part site k t earlier
ended_bears site k t (Took s (Apdu a)) earlier = refl
ended_bears site k t (Ended s rest) earlier = ended_part site k t earlier
ended_bears site k t (Broke s because) earlier = ended_part site k t earlier

-- ---- an item of a part

-- an item that concerns an asset and is judged has the fate that this asset gives it
pub fate_of_part : (site : SiteValue) (client : Caller) (k : ℕ) (earlier : List Judged) (moment : ℕ) (i : Item) (f : Fate) → concerns site k i ≡ true →
    HasFate site client earlier (placed moment i) f → HasFateBy site k client earlier (placed moment i) f
fate_of_part site client k earlier moment (Took s u) f mine has =
    subst (λ n. HasFateBy site n client earlier (placed moment (Took s u)) f) (eqb-true (place_for site s u) k mine) has
fate_of_part site client k earlier moment (Ended s rest) f mine has = has
fate_of_part site client k earlier moment (Broke s because) f mine has = has

-- an item of a part stands among all, behind the items of which the earlier ones of the part are that part
pub record StandsAt (site : SiteValue) (k : ℕ) (js earlier : List Judged) (j : Judged) : Type 0 where
  pub before : List Judged
  pub behind : List Judged
  pub all : js ≡ before ++ j ∷ behind
  pub part_is : part site k before ≡ earlier
  pub mine : concerns site k j.item ≡ true

stands_behind : (site : SiteValue) (k : ℕ) (x : Judged) (js earlier : List Judged) (j : Judged) → concerns site k x.item ≡ false → StandsAt site k js earlier j → StandsAt site k (x ∷ js) earlier j
stands_behind site k x js earlier j apart s = record {
  before = x ∷ s.before;
  behind = s.behind;
  all = ap (λ ys. x ∷ ys) s.all;
  part_is = ap (λ b. with_if b x (part site k s.before)) apart ∙ s.part_is;
  mine = s.mine;
}

stands_after : (site : SiteValue) (k : ℕ) (x : Judged) (js earlier : List Judged) (j : Judged) → concerns site k x.item ≡ true → StandsAt site k js earlier j → StandsAt site k (x ∷ js) (x ∷ earlier) j
stands_after site k x js earlier j own s = record {
  before = x ∷ s.before;
  behind = s.behind;
  all = ap (λ ys. x ∷ ys) s.all;
  part_is = ap (λ b. with_if b x (part site k s.before)) own ∙ ap (λ ys. x ∷ ys) s.part_is;
  mine = s.mine;
}

by_own : (site : SiteValue) (k : ℕ) (x : Judged) (js earlier later : List Judged) (j : Judged) →
    ((before : List Judged) → part site k js ≡ before ++ j ∷ later → StandsAt site k js before j) → (b : Bool) → concerns site k x.item ≡ b → with_if b x (part site k js) ≡ earlier ++ j ∷ later →
    StandsAt site k (x ∷ js) earlier j
by_own site k x js earlier later j rest false is e = stands_behind site k x js earlier j is (rest earlier e)
by_own site k x js [] later j rest true is e =
    let same : x ≡ j = cc e in
    record { before = []; behind = js; all = ap (λ y. y ∷ js) same; part_is = refl; mine = ap (λ (y : Judged). concerns site k y.item) (sym same) ∙ is }
by_own site k x js (y ∷ earlier) later j rest true is e =
    let same : x ≡ y = cc e in
    let behind : part site k js ≡ earlier ++ j ∷ later = cc e in
    subst (λ z. StandsAt site k (x ∷ js) (z ∷ earlier) j) same (stands_after site k x js earlier j is (rest earlier behind))

pub stands_at : (site : SiteValue) (k : ℕ) (js earlier later : List Judged) (j : Judged) → part site k js ≡ earlier ++ j ∷ later → StandsAt site k js earlier j
stands_at site k [] [] later j e = cc
stands_at site k [] (y ∷ earlier) later j e = cc
stands_at site k (x ∷ js) earlier later j e = by_own site k x js earlier later j (λ before e. stands_at site k js before later j e) (concerns site k x.item) refl e

-- ---- places

inside_next : (b : Bool) (o : Option ℕ) (n k : ℕ) → ((m : ℕ) → o ≡ Some m → m < n) → (if b then Some 0 else option_map suc o) ≡ Some k → k < suc n
inside_next true o n k each found = (let zero_is : 0 ≡ k = cc found in omega (arith, zero_is))
inside_next false None n k each found = cc
inside_next false (Some m) n k each found = (let next : suc m ≡ k = cc found in omega (arith, next, each m refl))

found_inside : (passes : Asset → Bool) (assets : List Asset) (k : ℕ) → find_place passes assets ≡ Some k → k < length assets
found_inside passes [] k e = cc
found_inside passes (a ∷ assets) k e = inside_next (passes a) (find_place passes assets) (length assets) k (λ m is. found_inside passes assets m is) e

or_first_inside : (o : Option ℕ) (n : ℕ) → 0 < n → ((k : ℕ) → o ≡ Some k → k < n) → or_first o < n
or_first_inside None n some each = some
or_first_inside (Some k) n some each = each k refl

-- the place of the first that passes is one of the site
pub place_inside : (site : SiteValue) (passes : Asset → Bool) → or_first (find_place passes (assets_of site)) < length (assets_of site)
place_inside site passes = or_first_inside (find_place passes (assets_of site)) (length (assets_of site)) (omega arith) (found_inside passes (assets_of site))

-- ---- what stands at a place of a list one element of which is set

pub get_set_other : {A : Type 0} (xs : List A) (place k : ℕ) (new : A) → place ≢ k → slice_get (set xs place new) k ≡ slice_get xs k
get_set_other (x ∷ xs) zero zero new other = absurd (other refl)
get_set_other (x ∷ xs) (suc place) (suc k) new other = get_set_other xs place k new (λ e. other (ap suc e))
get_set_other xs place k new other = refl

pub get_set_same : {A : Type 0} (xs : List A) (place : ℕ) (new : A) → place < length xs → slice_get (set xs place new) place ≡ Some new
get_set_same [] place new inside = absurd (omega (arith, inside))
get_set_same (x ∷ xs) zero new inside = refl
get_set_same (x ∷ xs) (suc place) new inside = get_set_same xs place new (omega (arith, inside))

-- what stands at the place itself is what was set there
pub get_set_is : {A : Type 0} (xs : List A) (place k : ℕ) (new x : A) → place < length xs → nat_eq place k ≡ true → slice_get (set xs place new) k ≡ Some x → new ≡ x
get_set_is xs place k new x inside same at =
    let here : place ≡ k = eqb-true place k same in
    let both : Some new ≡ Some x = sym (get_set_same xs place new inside) ∙ ap (slice_get (set xs place new)) here ∙ at in
    cc both

-- what is set at a place of the list has its length
pub inside_by : {A : Type 0} (xs : List A) (place : ℕ) (x : A) → slice_get xs place ≡ Some x → place < length xs
inside_by xs place x at = slice_get_within xs place x at

get_or_all : (P : Asset → Type 0) (xs : List Asset) (k : ℕ) (d : Asset) → All P xs → P d → P (get_or xs k d)
get_or_all P xs k d each own = elim (cases_lt k (length xs)) [
  | inl inside ↦ each k d inside
  | inr past ↦ subst P (sym (get_or_past xs k d past)) own
]

-- the asset of a place is in form
pub within_at : (site : SiteValue) → IsSiteWithin site → (k : ℕ) → IsAssetWithin (asset_of site k)
within_at site within k = get_or_all IsAssetWithin (assets_of site) k site.first within.each (within.each 0 site.first (omega arith))
