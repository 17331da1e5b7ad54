-- Steps of the proof: what is let through to a controller is nothing that a judge would object to: `IsRightlyPassed`.
use Rattle.std.specs.Prelude.{◌≡◌, ◌≤◌, ℕ, true, false, None, length}
use Rattle.cf_decode.specs.Units.{Addresses, Fragment, Passed, Whole, addresses_of, same_addresses}
use Rattle.cf_judge.specs.Plain.{fate_by_asdu}
use Rattle.cf_lane.specs.Dnp3.{fate_of_fragment, is_data, stray_of}
use Rattle.cf_lane.specs.Judged.{goes_on}
use Rattle.cf_lane.specs.Modbus.{HasCommandFate}
use Rattle.cf_lane.specs.Site.{asset_for, find_place, or_first}
use Rattle.cf_lane.specs.Unit.{Adu, Apdu, Frame}
use Rattle.cf_policy.specs.Site.{SiteValue, asset_of, assets_of}
use Rattle.cf_policy.specs.Verdict.{verdict_of}
use Rattle.cf_policy.specs.declared.Asset.{Asset}
use Rattle.cf_lane.specs.declared.fate.Admission.{Admission}
use Rattle.cf_lane.specs.declared.fate.Fate.TheVariants as fate
use Rattle.cf_view.specs.declared.Side.TheVariants as side

-- what is rightly passed by the verdict on each act, whatever rule was spent: an ADU is an admitted command; a frame is a served link
-- status frame; an APDU, whatever its numbers, is carried or an admitted command; a fragment has two octets or more, at most 2,048, and
-- is a confirmation or an admitted command
abbrev pub IsRightlyPassedBy : Asset → (client : ℕ) → Passed → Type 0
IsRightlyPassedBy asset client (Whole (Adu a)) = (used : Admission) × HasCommandFate asset (verdict_of asset client) a (fate.Admitted used)
IsRightlyPassedBy asset client (Whole (Frame x)) = (stray_of asset side.Client x ≡ None) × (is_data x ≡ false)
IsRightlyPassedBy asset client (Whole (Apdu a)) = goes_on (fate_by_asdu asset client a) ≡ true
IsRightlyPassedBy asset client (Fragment to octets) =
    (to ≡ addresses_of asset) × (2 ≤ length octets) × (length octets ≤ 2048)
    × (goes_on (fate_of_fragment asset (verdict_of asset client) side.Client octets) ≡ true)

-- the place of the first asset with these link addresses, and the asset itself
abbrev pub place_to : SiteValue → Addresses → ℕ
place_to site to = or_first (find_place (λ asset. same_addresses to (addresses_of asset)) (assets_of site))

abbrev pub asset_to : SiteValue → Addresses → Asset
asset_to site to = asset_of site (place_to site to)

-- of a site a unit is so by the asset that it is for, and a fragment by the one with its addresses
abbrev pub IsRightlyPassed : SiteValue → (client : ℕ) → Passed → Type 0
IsRightlyPassed site client (Whole u) = IsRightlyPassedBy (asset_for site side.Client u) client (Whole u)
IsRightlyPassed site client (Fragment to octets) = IsRightlyPassedBy (asset_to site to) client (Fragment to octets)
