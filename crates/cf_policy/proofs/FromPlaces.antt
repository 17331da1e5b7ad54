-- The site that begins with the asset of a place is in form, and none of its assets is behind the last.
use Rattle.std.proofs.Common.{◌≡◌, ◌≢◌, ◌∙◌, ℕ, zero, suc, ◌+◌, ◌<◌, ◌≤◌, nat_lt, Bool, true, false, cond, List, [], ◌∷◌, length, get_or, Option, Some, None, option_and_then, ap, refl, subst, sym, arith}
use Rattle.std.specs.List.{All, AllPairs, position, position_or_len, take_while}
use Rattle.std.specs.Option.{IfSome}
use Rattle.std.proofs.lemmas.Bool.Decides.{nat_tests}
use Rattle.std.proofs.lemmas.List.Elements.{All-tail}
use Rattle.std.proofs.lemmas.List.Sums.{sum_by-cons, take_while-cons}
use Rattle.cf_policy.proofs.SiteLaws.{pairs_tail, same_self, sites_within, together_tail}
use Rattle.cf_policy.specs.declared.policy.Asset.{Asset}
use Rattle.cf_policy.specs.AtEndpoint.{asset_place, count_at}
use Rattle.cf_policy.specs.Site.{IsSiteWithin, SiteValue, assets_of, site_at, site_from, site_of}
use Rattle.cf_policy.specs.Within.{AreAssetsWithin, IsAssetWithin, MayShare, most_assets, most_at_site}
use Rattle.cf_view.specs.Endpoints.{same_endpoint}
use Rattle.cf_view.specs.declared.base.Endpoint.{Endpoint}

-- ---- the assets behind the first are those of a policy too

fewer : (b : Bool) (n m : ℕ) → cond b 1 0 + n ≤ m → n ≤ m
fewer true n m h = omega (arith, h)
fewer false n m h = omega (arith, h)

count_tail : (a : Asset) (assets : List Asset) (endpoint : Endpoint) (m : ℕ) → count_at (a ∷ assets) endpoint ≤ m → count_at assets endpoint ≤ m
count_tail a assets endpoint m h =
    fewer (same_endpoint a.endpoint endpoint) (count_at assets endpoint) m
    (subst (λ n. n ≤ m) (sum_by-cons (λ (c : Asset). cond (same_endpoint c.endpoint endpoint) 1 0) a assets) h)

within_tail : (a : Asset) (assets : List Asset) → AreAssetsWithin (a ∷ assets) → AreAssetsWithin assets
within_tail a assets h =
    let count : suc (length assets) ≤ most_assets = h.count in
    record {
      count = omega (arith, count);
      each = All-tail IsAssetWithin a assets h.each;
      names = pairs_tail (λ (c d : Asset). c.name ≢ d.name) a assets h.names;
      shared = pairs_tail MayShare a assets h.shared;
      together = together_tail a assets h.together;
      few = λ k d inside. count_tail a assets (get_or assets k d).endpoint (most_at_site (get_or assets k d).protocol)
          (All-tail (λ (c : Asset). count_at (a ∷ assets) c.endpoint ≤ most_at_site c.protocol) a assets h.few k d inside);
    }

-- ---- the site of the first one's endpoint is the one that begins with it

first_passes : {X : Type 0} (p : X → Bool) (x : X) (xs : List X) → p x ≡ true → position p (x ∷ xs) ≡ Some 0
first_passes p x xs e =
    let at : position_or_len p (x ∷ xs) ≡ 0 = rw e refl in
    let inside : nat_lt 0 (length (x ∷ xs)) ≡ true = grind (arith, nat_tests) in
    rw (at, inside) refl

site_here : (a : Asset) (assets : List Asset) → site_at (a ∷ assets) a.endpoint ≡ site_of (a ∷ assets)
site_here a assets = ap (option_and_then (site_from (a ∷ assets))) (first_passes (λ c. same_endpoint c.endpoint a.endpoint) a assets (same_self a.endpoint))

-- the site that begins with the asset of any place is in form
pub from_within : (assets : List Asset) (place : ℕ) (site : SiteValue) → site_from assets place ≡ Some site → AreAssetsWithin assets → IsSiteWithin site
from_within [] zero site is h = cc
from_within [] (suc place) site is h = cc
from_within (a ∷ assets) zero site is h = subst (λ o. IfSome o IsSiteWithin) (site_here a assets ∙ is) (sites_within (a ∷ assets) a.endpoint h)
from_within (a ∷ assets) (suc place) site is h = from_within assets place site is (within_tail a assets h)

-- ---- its assets are among those of the list

front_by : (b : Bool) (n m : ℕ) → n ≤ m → cond b (suc n) 0 ≤ suc m
front_by true n m h = omega (arith, h)
front_by false n m h = omega arith

length_if : {X : Type 0} (b : Bool) (x : X) (xs : List X) → length (cond b (x ∷ xs) []) ≡ cond b (suc (length xs)) 0
length_if true x xs = refl
length_if false x xs = refl

front_short : {X : Type 0} (p : X → Bool) (xs : List X) → length (take_while p xs) ≤ length xs
front_short p [] = omega arith
front_short p (x ∷ xs) =
    let short = front_by (p x) (length (take_while p xs)) (length xs) (front_short p xs) in
    subst (λ n. n ≤ suc (length xs)) (sym (ap length (take_while-cons p x xs) ∙ length_if (p x) x (take_while p xs))) short

site_short : (a : Asset) (assets : List Asset) (site : SiteValue) → site_of (a ∷ assets) ≡ Some site → length (assets_of site) ≤ suc (length assets)
site_short a assets site is =
    let front = take_while (λ c. same_endpoint c.endpoint a.endpoint) assets in
    let short = front_short (λ c. same_endpoint c.endpoint a.endpoint) assets in
    let most : suc (length front) ≤ suc (length assets) = omega (arith, short) in
    subst (λ (o : Option SiteValue). IfSome o (λ s. length (assets_of s) ≤ suc (length assets))) is most

pub from_inside : (assets : List Asset) (place : ℕ) (site : SiteValue) → site_from assets place ≡ Some site → place + length (assets_of site) ≤ length assets
from_inside [] zero site is = cc
from_inside [] (suc place) site is = cc
from_inside (a ∷ assets) zero site is = let short = site_short a assets site is in omega (arith, short)
from_inside (a ∷ assets) (suc place) site is = let short = from_inside assets place site is in omega (arith, short)

-- a place that has an asset has a site
pub is_never : (assets : List Asset) (place : ℕ) → place < length assets → site_from assets place ≡ None → ⊥
is_never [] place inside none = omega (arith, inside)
is_never (a ∷ assets) zero inside none = cc
is_never (a ∷ assets) (suc place) inside none = is_never assets place (omega (arith, inside)) none
