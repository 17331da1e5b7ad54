-- The place of an asset among the assets of a policy, and the asset that is found at an endpoint.
use Rattle.std.proofs.Common.{◌≡◌, ℕ, suc, Bool, true, false, List, [], ◌∷◌, cond, Option, Some, None, option_map, refl, sym, ap, ◌∙◌, subst, slice_get}
use Rattle.cf_unobjected.proofs.Common.{Asset, Endpoint, asset_place, none-some, same_Some, same_endpoint, same_is, true≢false}
use Rattle.cf_policy.proofs.FirstPlace.{first_at}
use Rattle.cf_run.proofs.Matched.{place_by}
use Rattle.cf_policy.specs.AtEndpoint.{asset_at, has_asset_at}

has_by : (assets : List Asset) (a : Asset) (e : Endpoint) (k : ℕ) (b : Bool) (o : Option ℕ) → ((i : ℕ) → o ≡ Some i → slice_get assets i ≡ asset_at assets e) → same_endpoint a.endpoint e ≡ b →
    cond b (Some 0) (option_map suc o) ≡ Some k → slice_get (a ∷ assets) k ≡ asset_at (a ∷ assets) e
has_by assets a e k true o more is g = subst (λ n. slice_get (a ∷ assets) n ≡ asset_at (a ∷ assets) e) (same_Some 0 k g) (rw is refl)
has_by assets a e k false None more is g = absurd (none-some k g)
has_by assets a e k false (Some i) more is g = subst (λ n. slice_get (a ∷ assets) n ≡ asset_at (a ∷ assets) e) (same_Some (suc i) k g) (rw is (more i refl))

-- what stands at the place is the asset that is found
pub place_has : (assets : List Asset) (e : Endpoint) (k : ℕ) → asset_place assets e ≡ Some k → slice_get assets k ≡ asset_at assets e
place_has [] e k h = cc
place_has (a ∷ assets) e k h =
    has_by assets a e k _ (asset_place assets e) (place_has assets e) refl (sym (place_by (λ (x : Asset). same_endpoint x.endpoint e) a assets _ refl) ∙ h)

none_by : (assets : List Asset) (a : Asset) (e : Endpoint) (b : Bool) → (has_asset_at assets e ≡ false → asset_place assets e ≡ None) → same_endpoint a.endpoint e ≡ b → has_asset_at (a ∷ assets) e ≡ false →
    asset_place (a ∷ assets) e ≡ None
none_by assets a e true more is g = absurd (true≢false (sym (rw is refl) ∙ g))
none_by assets a e false more is g = place_by (λ (x : Asset). same_endpoint x.endpoint e) a assets false is ∙ ap (option_map suc) (more (sym (rw is refl) ∙ g))

-- where no asset stands there is no place of one
pub no_place : (assets : List Asset) (e : Endpoint) → has_asset_at assets e ≡ false → asset_place assets e ≡ None
no_place [] e h = refl
no_place (a ∷ assets) e h = none_by assets a e _ (no_place assets e) refl h

-- one place is that of one endpoint
pub one_place : (assets : List Asset) (x y : Endpoint) (k : ℕ) → asset_place assets x ≡ Some k → asset_place assets y ≡ Some k → x ≡ y
one_place assets x y k h g =
    let a = first_at (λ (s : Asset). same_endpoint s.endpoint x) assets k h in
    let b = first_at (λ (s : Asset). same_endpoint s.endpoint y) assets k g in
    let same : a.0 ≡ b.0 = (let here = a.1.here in let there = b.1.here in cc) in
    sym (same_is a.0.endpoint x a.1.passes) ∙ ap (λ (s : Asset). s.endpoint) same ∙ same_is b.0.endpoint y b.1.passes
