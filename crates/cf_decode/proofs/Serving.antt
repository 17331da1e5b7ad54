-- Whose a frame of the client is that goes on: that of the asset with its addresses.
use Rattle.std.proofs.Common.{Bool, List, None, Some, [], ap, false, inl, inr, refl, sym, true, ℕ, not, ◌&&◌, ◌∙◌, ◌≡◌, ◌⊎◌, if◌then◌else◌, nat_eq}
use Rattle.cf_decode.proofs.Common.{Addresses, Asset, Fate, Frame, FrameValue, Item, Judged, Says, SiteValue, Took, addresses_of, asset_of, assets_of, concerns, fate_of_frame, item_place, is_data, stray_of}
use Rattle.cf_decode.specs.Commands.{commands_by}
use Rattle.cf_decode.specs.Passed.{passed_by}
use Rattle.cf_decode.specs.Received.{addresses_in}
use Rattle.cf_decode.specs.Units.{same_addresses}
use Rattle.cf_lane.specs.Dnp3.{fragment_in, has_addresses, has_right_direction, is_status}
use Rattle.cf_lane.specs.Item.{Broke, Ended}
use Rattle.cf_lane.specs.Judged.{goes_on}
use Rattle.cf_lane.specs.Site.{find_place, or_first, place_for}
use Rattle.std.proofs.lemmas.Bool.{and_parts, eqb-true, eq-eqb}
use Rattle.cf_audit.specs.declared.line.Why.TheVariants as why
use Rattle.cf_lane.specs.declared.fate.Fate.TheVariants as fate
use Rattle.cf_view.specs.declared.Side.TheVariants as side

pub are_same : (a b : Addresses) → same_addresses a b ≡ true → a ≡ b
are_same a b e =
    let both = and_parts (nat_eq a.station b.station) (nat_eq a.master b.master) e in
    ap (λ s. record { station = s; master = a.master }) (eqb-true a.station b.station both.0)
    ∙ ap (λ m. record { station = b.station; master = m }) (eqb-true a.master b.master both.1)

pub same_again : (a : Addresses) → same_addresses a a ≡ true
same_again a = ap (λ b. b && nat_eq a.master a.master) (eq-eqb a.station a.station refl) ∙ eq-eqb a.master a.master refl

-- the place of the first asset with these addresses
abbrev pub place_between : SiteValue → Addresses → ℕ
place_between site a = or_first (find_place (λ asset. same_addresses a (addresses_of asset)) (assets_of site))

-- the asset of a place is the first with its addresses
abbrev pub IsFirstWithOwn : SiteValue → ℕ → Type 0
IsFirstWithOwn site k = place_between site (addresses_of (asset_of site k)) ≡ k

-- a frame that goes on has the addresses of its asset
module _ (asset : Asset) (says : Says) (earlier : List Judged) (x : FrameValue) where
  pub served : (f : Fate) → f ≡ fate_of_frame asset says side.Client earlier x (stray_of asset side.Client x) → goes_on f ≡ true → addresses_in x ≡ addresses_of asset
  served f is goes = by (has_addresses asset side.Client x) refl where
    by : (b : Bool) → has_addresses asset side.Client x ≡ b → addresses_in x ≡ addresses_of asset
    by true here = are_same (addresses_in x) (addresses_of asset) here
    by false none =
        let stray : stray_of asset side.Client x ≡ Some why.Address =
        ap (λ b. if not b then Some why.Address else (if not (has_right_direction side.Client x) then Some why.Direction else (if is_data x then None else (if is_status x then None else Some why.Code)))) none in
        let strays : f ≡ fate.Stray why.Address = is ∙ ap (fate_of_frame asset says side.Client earlier x) stray in
        cc (ap goes_on strays, goes)

pub first_with_own : (site : SiteValue) (x : FrameValue) → addresses_in x ≡ addresses_of (asset_of site (place_for site side.Client (Frame x))) → IsFirstWithOwn site (place_for site side.Client (Frame x))
first_with_own site x e = ap (place_between site) (sym e)

-- an item puts nothing anywhere
pub record IsSilent (i : Item) (asset : Asset) (earlier : List Judged) (j : Judged) : Type 0 where
  pub nothing : passed_by asset earlier j i ≡ []
  pub no_fragment : fragment_in asset side.Controller earlier j i ≡ []
  pub no_command : commands_by asset earlier i ≡ []

-- an item that concerns the asset of a place is for it, or puts nothing anywhere
pub mine_or_silent : (site : SiteValue) (k : ℕ) (i : Item) → concerns site k i ≡ true → (item_place site i ≡ k) ⊎ ((asset : Asset) (earlier : List Judged) (j : Judged) → IsSilent i asset earlier j)
mine_or_silent site k (Took s u) mine = inl (eqb-true (place_for site s u) k mine)
mine_or_silent site k (Ended s rest) mine = inr (λ asset earlier j. record { nothing = refl; no_fragment = refl; no_command = refl })
mine_or_silent site k (Broke s because) mine = inr (λ asset earlier j. record { nothing = refl; no_fragment = refl; no_command = refl })

-- one that does not is for another
pub not_mine : (site : SiteValue) (k : ℕ) (i : Item) → concerns site k i ≡ false → nat_eq (item_place site i) k ≡ false
not_mine site k (Took s u) apart = apart
not_mine site k (Ended s rest) apart = cc
not_mine site k (Broke s because) apart = cc
