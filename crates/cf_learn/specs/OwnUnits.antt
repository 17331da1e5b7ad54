-- What is shown of an asset of a site came in units for that asset: ShowsOwnUnits.
use Rattle.std.specs.Prelude.{◌≡◌, ◌<◌, ℕ, List, length, true}
use Rattle.cf_apci.specs.Apdu.{Info}
use Rattle.cf_dnplink.specs.LinkFrame.{FrameValue}
use Rattle.cf_lane.specs.Site.{place_for}
use Rattle.cf_lane.specs.Unit.{Adu, Apdu, Frame}
use Rattle.cf_modbus.specs.Adu.{AduValue}
use Rattle.cf_policy.specs.Site.{IsSiteWithin, SiteValue, asset_of, assets_of}
use Rattle.cf_view.specs.declared.Act.{Act}
use Rattle.cf_view.specs.declared.Side.TheVariants as side
use Rattle.cf_learn.specs.Shown.{Asdu, HasAct, Request, is_segment}

-- a request or an ASDU with an act of the asset of a place, and a frame whose segment is put to that asset's fragment, are units for it
pub record ShowsOwnUnits : Type 0 where
  pub requests :
      (site : SiteValue) (k : ℕ) (a : AduValue) (act : Act) → IsSiteWithin site → k < length (assets_of site) → HasAct (asset_of site k) (Request a) act
      → place_for site side.Client (Adu a) ≡ k
  pub segments :
      (site : SiteValue) (k : ℕ) (x : FrameValue) → IsSiteWithin site → k < length (assets_of site) → is_segment (asset_of site k) x ≡ true
      → place_for site side.Client (Frame x) ≡ k
  pub asdus :
      (site : SiteValue) (k send receive : ℕ) (octets : List ℕ) (act : Act) → IsSiteWithin site → k < length (assets_of site)
      → HasAct (asset_of site k) (Asdu octets) act → place_for site side.Client (Apdu (Info send receive octets)) ≡ k
