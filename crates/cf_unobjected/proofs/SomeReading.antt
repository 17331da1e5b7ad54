-- Flows to sites of a policy have a judgement.
use Rattle.std.proofs.Common.{◌≡◌, ◌∙◌, ◌<◌, ◌-◌, ◌+◌, ℕ, zero, suc, List, [], ◌∷◌, ◌++◌, length, map, take, drop, slice_index, Option, None, Some, Result, Ok, Err, refl, sym, ap, subst, inl, inr, arith, length-drop}
use Rattle.cf_unobjected.proofs.Common.{Adu, AduValue, AllByRecursion, Apdu, AreRead, AreReadBy, Asset, Breaks, Ending, FlowValue, Frame, HasCommandFate, HasSiteFate, IsReadBy, Judged, Protocol, Reading, SiteValue, SpellsUnit, UnitValue, Whole, asset_for, commands_in, completed_in, fate_by_asdu, objection_to, of_its_acts, of_no_form, of_other_station, part, place_for, site_from, verdict_of}
use Rattle.std.proofs.lemmas.Bool.{cases_eq}
use Rattle.std.proofs.lemmas.List.{get_or-drop}
use Rattle.cf_policy.proofs.FromPlaces.{is_never}
use Rattle.cf_judge.specs.Plain.{frame_fate}
use Rattle.cf_lane.proofs.Units.{front_unit}
use Rattle.cf_lane.specs.Unit.{unit_break}
use Rattle.cf_lane.specs.declared.Fate.{Fate}
use Rattle.cf_modbus.specs.Request.{Reads, RequestValue}
use Rattle.cf_modbus.specs.declared.RequestRefusal.{RequestRefusal}
use Rattle.cf_view.specs.Octets.{IsOctets}
use Rattle.cf_watch.specs.FlowValue.{IsForAsset}
use Rattle.cf_unobjected.specs.OneJudgement.{FlowsAreJudged}
use Rattle.cf_policy.specs.declared.Protocol.TheVariants as protocol
use Rattle.cf_view.specs.declared.Side.TheVariants as side

pdu_octets : (p : Protocol) (a : AduValue) (xs : List ℕ) → SpellsUnit p (Adu a) xs → IsOctets a.pdu
pdu_octets protocol.Modbus a xs s = s.pdu
pdu_octets protocol.Dnp3 a xs s = absurd s
pdu_octets protocol.Iec104 a xs s = absurd s

module _ (each : (pdu : List ℕ) → IsOctets pdu → (answer : Result RequestValue RequestRefusal) × Reads answer pdu) where
  module _ (asset : Asset) (client : ℕ) where
    read_fate : (a : AduValue) → a.unit ≡ asset.station → (answer : Result RequestValue RequestRefusal) → Reads answer a.pdu → (f : Fate) × HasCommandFate asset (verdict_of asset client) a f
    read_fate a same (Ok r) h = (_, of_its_acts same r h refl)
    read_fate a same (Err refusal) h = (_, of_no_form same refusal h refl)

    adu_fate : (a : AduValue) → IsOctets a.pdu → (f : Fate) × HasCommandFate asset (verdict_of asset client) a f
    adu_fate a octets =
        elim (cases_eq a.unit asset.station) [
          | inl same ↦ (let x = each a.pdu octets in read_fate a same x.0 x.1)
          | inr other ↦ (_, of_other_station other refl)
        ]

  module _ (site : SiteValue) (client : ℕ) where
    some_fate : (earlier : List Judged) (u : UnitValue) (xs : List ℕ) → SpellsUnit site.first.protocol u xs → (f : Fate) × HasSiteFate site client earlier u f
    some_fate earlier (Adu a) xs s = adu_fate (asset_for site side.Client (Adu a)) client a (pdu_octets site.first.protocol a xs s)
    some_fate earlier (Frame x) xs s = (frame_fate (asset_for site side.Client (Frame x)) client (part site (place_for site side.Client (Frame x)) earlier) x, refl)
    some_fate earlier (Apdu a) xs s = (fate_by_asdu (asset_for site side.Client (Apdu a)) client a, refl)

    some_reading : (most : ℕ) (earlier : List Judged) (bytes born : List ℕ) → length bytes < most → IsOctets bytes → (js : List Judged) × (x : Ending) × AreRead site client earlier bytes born js x
    some_reading zero earlier bytes born h o = absurd (omega (arith, h))
    some_reading (suc most) earlier bytes born h o =
        elim (front_unit site.first.protocol bytes o) [
          | inl (u, n, begins, some) ↦
              (let f = some_fate earlier u (take n bytes) begins.spells in
              let j = completed_in (slice_index born (n - 1)) u f.0 in
              let left = length-drop n bytes in
              let within = begins.inside in
              let later = some_reading most (earlier ++ j ∷ []) (drop n bytes) (drop n born) (omega (arith, left, within, some, h)) (λ i. subst (λ y. y < 256) (sym (get_or-drop n bytes i 0)) (o (n + i))) in
              (j ∷ later.0, later.1, (u, n, begins, some, refl, f.1, later.2)))
          | inr (inl partial) ↦ ([], Whole, partial)
          | inr (inr (place, breaks)) ↦ ([], Breaks (slice_index born place) (unit_break site.first.protocol place), (place, breaks, refl, refl))
        ]

  module _ (assets : List Asset) where
    -- the reading of a flow by the site at its place
    reading_by : (f : FlowValue) (o : Option SiteValue) → site_from assets f.asset ≡ o → IsForAsset assets f → IsOctets f.bytes → (r : Reading) × (r.flow ≡ f) × IsReadBy o r
    reading_by f None at is octets = absurd (is_never assets f.asset is.asset at)
    reading_by f (Some site) at is octets =
        let read = some_reading site f.client.address (suc (length f.bytes)) [] f.bytes f.born (omega arith) octets in
        (record { flow = f; judged = read.0; ending = read.1 }, refl, read.2)

    some_readings : (flows : List FlowValue) → AllByRecursion (λ f. IsForAsset assets f × IsOctets f.bytes) flows → (rs : List Reading) × (map (λ r. r.flow) rs ≡ flows) × AreReadBy assets rs
    some_readings [] h = ([], refl, tt)
    some_readings (f ∷ flows) (first, rest) =
        let later = some_readings flows rest in
        let one = reading_by f (site_from assets f.asset) refl first.0 first.1 in
        let read : IsReadBy (site_from assets one.0.flow.asset) one.0 = subst (λ (g : FlowValue). IsReadBy (site_from assets g.asset) one.0) (sym one.1) one.2 in
        (one.0 ∷ later.0, ap (λ g. g ∷ map (λ r. r.flow) later.0) one.1 ∙ ap (λ fs. f ∷ fs) later.1, (read, later.2))

  pub flows_judged : FlowsAreJudged
  flows_judged assets flows h =
      let read = some_readings assets flows h in (
        record { flows = length flows; commands = commands_in 0 read.0; objection = objection_to assets None read.0 },
        record { readings = read.0; of_flows = read.1; are_read = read.2; counts = refl; commands = refl; objection = refl },
      )
