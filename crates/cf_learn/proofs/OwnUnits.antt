-- Stations differ in a site, so the asset with the station of a unit is the one that the unit is for.
use Rattle.std.proofs.Common.{◌≡◌, ◌≢◌, ◌<◌, ◌∙◌, ℕ, zero, suc, Bool, true, false, not, ◌&&◌, if◌then◌else◌, List, [], ◌∷◌, length, get_or, nat_eq, nat_lt, Some, option_map, ap, refl, sym, arith}
use Rattle.std.specs.List.{AllPairs}
use Rattle.std.proofs.lemmas.Bool.{and_parts, eq-eqb, eqb-true, false_from_ne_true, false≢true, lt-ltb}
use Rattle.cf_apci.specs.Apdu.{Info}
use Rattle.cf_asdu.proofs.Readings.{fields}
use Rattle.cf_asdu.specs.Asdu.{AsduValue, station_of}
use Rattle.cf_lane.specs.Dnp3.{has_addresses, is_data, is_none, stray_of}
use Rattle.cf_lane.specs.Site.{find_place, is_for, or_first}
use Rattle.cf_lane.specs.Unit.{Adu, Apdu, Frame, UnitValue}
use Rattle.cf_policy.specs.Site.{IsSiteWithin, SiteValue, asset_of, assets_of}
use Rattle.cf_policy.specs.declared.Asset.{Asset}
use Rattle.cf_view.specs.declared.Side.TheVariants as side
use Rattle.cf_learn.specs.OwnUnits.{ShowsOwnUnits}

-- ---- the first that passes, where all that do have one station and no two have

found_at : (passes : Asset → Bool) (station : ℕ) → ((a : Asset) → passes a ≡ true → a.station ≡ station) → (assets : List Asset) (k : ℕ) (d : Asset) → k < length assets →
    passes (get_or assets k d) ≡ true → AllPairs (λ a b. a.station ≢ b.station) assets → find_place passes assets ≡ Some k
found_at passes station only [] k d inside here apart = absurd (omega (arith, inside))
found_at passes station only (a ∷ assets) zero d inside here apart = ap (λ b. if b then Some 0 else option_map suc (find_place passes assets)) here
found_at passes station only (a ∷ assets) (suc k) d inside here apart =
    let later = found_at passes station only assets k d (omega (arith, inside)) here (λ i j e lt within. apart (suc i) (suc j) e (omega (arith, lt)) (omega (arith, within))) in
    let other : passes a ≡ false = false_from_ne_true (passes a) (λ is. apart zero (suc k) d (omega arith) inside (only a is ∙ sym (only (get_or assets k d) here))) in
    ap (λ b. if b then Some 0 else option_map suc (find_place passes assets)) other ∙ ap (option_map suc) later

module _ (site : SiteValue) (k : ℕ) (u : UnitValue) (station : ℕ) (only : (a : Asset) → is_for side.Client u a ≡ true → a.station ≡ station) (within : IsSiteWithin site)
    (inside : k < length (assets_of site)) where
  place_is : is_for side.Client u (asset_of site k) ≡ true → or_first (find_place (is_for side.Client u) (assets_of site)) ≡ k
  place_is here = ap or_first (found_at (is_for side.Client u) station only (assets_of site) k site.first inside here within.stations)

-- ---- units with the station of an asset

-- a frame that is not stray has the asset's addresses
addressed : {W : Type 0} (passes : W → Bool) (b : Bool) (absent later : W) → passes absent ≡ false → passes (if not b then absent else later) ≡ true → b ≡ true
addressed passes true absent later none e = refl
addressed passes false absent later none e = absurd (false≢true (sym none ∙ e))

pub shows_own_units : ShowsOwnUnits
shows_own_units = record {
  requests = λ site k a act within inside h.
      place_is site k (Adu a) a.unit (λ own is. sym (eqb-true a.unit own.station is)) within inside (eq-eqb a.unit (asset_of site k).station h.0);
  segments = λ site k x within inside e.
      (let own = asset_of site k in
      let served = (and_parts (is_none (stray_of own side.Client x)) (is_data x) e).0 in
      place_is site k (Frame x) x.dest (λ a is. sym (eqb-true x.dest a.station (and_parts (nat_eq x.dest a.station) (nat_eq x.source a.master) is).0)) within inside
      (addressed is_none (has_addresses own side.Client x) _ _ refl served));
  asdus = λ site k send receive octets act within inside h.
      (let own = asset_of site k in
      let read : AsduValue = h.0 in
      let long : 8 < length octets = (let nine = h.1.1 in omega (arith, nine)) in
      let station : station_of octets ≡ own.station = sym (ap (λ (b : AsduValue). b.station) (fields read octets h.1.0)) ∙ h.2 in
      place_is site k (Apdu (Info send receive octets)) (station_of octets)
      (λ a is. sym (eqb-true (station_of octets) a.station (and_parts (nat_lt 8 (length octets)) (nat_eq (station_of octets) a.station) is).1)) within inside
      (ap (λ b. b && nat_eq (station_of octets) own.station) (lt-ltb 8 (length octets) long) ∙ eq-eqb (station_of octets) own.station station));
}
