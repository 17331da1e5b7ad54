-- Flows that were judged so far.
use Rattle.std.proofs.Common.{◌≡◌, ◌<◌, ◌≤◌, All, Bool, IfSome, arith, false, get_or, if◌then◌else◌, length, nat_lt, option_map, true, ◌+◌, ◌-◌, ◌^◌, ◌∙◌, min, ℕ, List, [], ◌∷◌, ◌++◌, map, slice_get, Option, Some, None, refl, sym, ap, subst}
use Rattle.std.specs.Option.{option_or}
use Rattle.std.proofs.lemmas.List.{get_or-map, length-map, map-append}
use Rattle.std.proofs.lemmas.Option.{get_or_from_slice_get, slice_get_within}
use Rattle.cf_watch.specs.FlowValue.{FlowValue, IsForAsset, flow_value}
use Rattle.cf_watch.specs.declared.Flow.{Flow}
use Rattle.cf_lane.proofs.Parting.{place_inside}
use Rattle.cf_lane.specs.Item.{Broke, Ended, Item, Took}
use Rattle.cf_lane.specs.Judged.{Judged}
use Rattle.cf_lane.specs.Site.{is_for, item_place}
use Rattle.cf_policy.proofs.FromPlaces.{from_inside}
use Rattle.cf_policy.specs.Site.{SiteValue, assets_of, site_from}
use Rattle.cf_policy.specs.Within.{AreAssetsWithin, most_assets}
use Rattle.cf_policy.specs.declared.Asset.{Asset}
use Rattle.cf_watch.specs.declared.flow.Conflict.{Conflict}
use Rattle.cf_judge.specs.Found.{HavePlaces, IsFoundAt, IsFoundIn}
use Rattle.cf_judge.specs.Objections.{AreReadBy, IsReadBy, Reading, admitted_in, commands_in, earlier, first_wrong, objected, objection_by, objection_in, objection_to, sooner, wrong, wrong_at, wrong_by, wrong_by_fate}
use Rattle.cf_judge.specs.Plain.{Breaks, Ending, Whole}
use Rattle.cf_judge.specs.Ruling.{complaint_of}
use Rattle.cf_judge.specs.declared.ruling.Complaint.{Complaint}
use Rattle.cf_judge.specs.declared.judging.Found.{Found}
use Rattle.cf_judge.specs.declared.judging.Objection.{Objection}
use Rattle.cf_judge.specs.declared.judging.Wrong.{Wrong}

pub record JudgedSoFar (assets : List Asset) (flows : List FlowValue) (commands : ℕ) (objection : Option Objection) : Type 0 where
  pub readings : List Reading
  pub of_flows : map (λ r. r.flow) readings ≡ flows
  pub are_read : AreReadBy assets readings
  pub commands_are : commands ≡ commands_in 0 readings
  pub objection_is : objection ≡ objection_to assets None readings

commands_more : (count : ℕ) (rs : List Reading) (r : Reading) → commands_in count (rs ++ r ∷ []) ≡ min (commands_in count rs + admitted_in r.judged) (2 ^ 64 - 1)
commands_more count [] r = refl
commands_more count (s ∷ rs) r = commands_more (min (count + admitted_in s.judged) (2 ^ 64 - 1)) rs r

objection_more : (assets : List Asset) (first : Option Objection) (rs : List Reading) (r : Reading) →
    objection_to assets first (rs ++ r ∷ []) ≡ earlier (objection_to assets first rs) (objection_in (site_from assets r.flow.asset) r)
objection_more assets first [] r = refl
objection_more assets first (s ∷ rs) r = objection_more assets (earlier first (objection_in (site_from assets s.flow.asset) s)) rs r

read_more : (assets : List Asset) (rs : List Reading) (r : Reading) → AreReadBy assets rs → IsReadBy (site_from assets r.flow.asset) r → AreReadBy assets (rs ++ r ∷ [])
read_more assets [] r are is = (is, tt)
read_more assets (s ∷ rs) r are is = (are.0, read_more assets rs r are.1 is)

pub judged_first : (assets : List Asset) → JudgedSoFar assets [] 0 None
judged_first assets = record { readings = []; of_flows = refl; are_read = tt; commands_are = refl; objection_is = refl }

pub judged_on : (assets : List Asset) (flows : List FlowValue) (commands : ℕ) (objection : Option Objection) (f : FlowValue) (site : SiteValue) (found : Found) →
    JudgedSoFar assets flows commands objection → site_from assets f.asset ≡ Some site → IsFoundIn site f found →
    JudgedSoFar assets (flows ++ f ∷ []) (min (commands + found.commands) (2 ^ 64 - 1)) (earlier objection (objection_by f found.first))
judged_on assets flows commands objection f site found so at is =
    let r : Reading = record { flow = f; judged = is.judged; ending = is.ending } in
    record {
      readings = so.readings ++ r ∷ [];
      of_flows = map-append (λ s. s.flow) so.readings (r ∷ []) ∙ ap (λ fs. fs ++ f ∷ []) so.of_flows;
      are_read = read_more assets so.readings r so.are_read (subst (λ o. IsReadBy o r) (sym at) is.are_read);
      commands_are = ap (λ n. min (n + found.commands) (2 ^ 64 - 1)) so.commands_are ∙ ap (λ n. min (commands_in 0 so.readings + n) (2 ^ 64 - 1)) is.commands ∙ sym (commands_more 0 so.readings r);
      objection_is = ap (λ o. earlier o (objection_by f found.first)) so.objection_is
          ∙ ap (λ w. earlier (objection_to assets None so.readings) (objection_by f w)) is.first
          ∙ ap (λ o. earlier (objection_to assets None so.readings) (objection_in o r)) (sym at)
          ∙ sym (objection_more assets None so.readings r);
    }

-- the same, where the site is told as an option
pub judged_at : (assets : List Asset) (flows : List FlowValue) (commands : ℕ) (objection : Option Objection) (f : FlowValue) (o : Option SiteValue) (found : Found) →
    JudgedSoFar assets flows commands objection → site_from assets f.asset ≡ o → IsFoundAt o f found →
    JudgedSoFar assets (flows ++ f ∷ []) (min (commands + found.commands) (2 ^ 64 - 1)) (earlier objection (objection_by f found.first))
judged_at assets flows commands objection f None found so at is = absurd is
judged_at assets flows commands objection f (Some site) found so at is = judged_on assets flows commands objection f site found so at is

-- each flow is to an asset of the policy
pub for_asset : (assets : List Asset) (flows : List Flow) → All (IsForAsset assets) (map flow_value flows) → (i : ℕ) (f : Flow) → slice_get flows i ≡ Some f → IsForAsset assets (flow_value f)
for_asset assets flows all i f e =
    let inside = slice_get_within flows i f e in
    let size : length (map flow_value flows) ≡ length flows = length-map flows flow_value in
    let is : get_or (map flow_value flows) i (flow_value f) ≡ flow_value f = get_or-map flow_value flows i f (flow_value f) inside ∙ ap flow_value (get_or_from_slice_get flows i f f e) in
    subst (IsForAsset assets) is (all i (flow_value f) (omega (arith, inside, size)))

-- ---- what is wrong is about an asset of the site

item_inside : (site : SiteValue) (i : Item) → item_place site i < length (assets_of site)
item_inside site (Took s u) = place_inside site (is_for s u)
item_inside site (Ended s rest) = omega arith
item_inside site (Broke s because) = omega arith

-- what is wrong, if anything is, is about an asset whose place is below this
abbrev IsBelow : ℕ → Option Wrong → Type 0
IsBelow most first = IfSome first (λ w. w.place < most)

below_or : (most : ℕ) (a b : Option Wrong) → IsBelow most a → IsBelow most b → IsBelow most (option_or a b)
below_or most None b p q = q
below_or most (Some w) b p q = p

below_if : (most number place : ℕ) (c : Option Complaint) → place < most → IsBelow most (option_map (wrong number place) c)
below_if most number place None p = tt
below_if most number place (Some what) p = p

below_at : (site : SiteValue) (ending : Ending) → IsBelow (length (assets_of site)) (wrong_at ending)
below_at site Whole = tt
below_at site (Breaks number reason) = omega arith

first_below : (site : SiteValue) (js : List Judged) (ending : Ending) → IsBelow (length (assets_of site)) (first_wrong site js ending)
first_below site [] ending = below_at site ending
first_below site (j ∷ js) ending =
    below_or (length (assets_of site)) (wrong_by_fate j.moment (item_place site j.item) j.fate) (first_wrong site js ending)
    (below_if (length (assets_of site)) j.moment (item_place site j.item) (complaint_of j.fate) (item_inside site j.item))
    (first_below site js ending)

-- ---- and an objection is to an asset of the policy

module _ (most asset : ℕ) where
  has_places : (count : ℕ) (first : Option Wrong) → 0 < count → asset + count ≤ most → IsBelow count first → HavePlaces most asset first
  has_places count None some inside below = (omega (arith, some, inside), tt)
  has_places count (Some w) some inside below = (omega (arith, some, inside), omega (arith, inside, below))

  pub fewer_places : (least : ℕ) (first : Option Wrong) → least ≤ most → HavePlaces least asset first → HavePlaces most asset first
  fewer_places least None h p = (omega (arith, h, p.0), tt)
  fewer_places least (Some w) h p = (omega (arith, h, p.0), omega (arith, h, p.1))

  choice_has : (b : Bool) (v w : Wrong) → asset + v.place < most → asset + w.place < most → IfSome (if b then Some v else Some w) (λ u. asset + u.place < most)
  choice_has true v w p q = p
  choice_has false v w p q = q

  sooner_has : (a b : Option Wrong) → IfSome a (λ w. asset + w.place < most) → IfSome b (λ w. asset + w.place < most) → IfSome (sooner a b) (λ w. asset + w.place < most)
  sooner_has None b p q = q
  sooner_has (Some v) None p q = p
  sooner_has (Some v) (Some w) p q = choice_has (nat_lt w.number v.number) w v q p

  conflict_has : (c : Option Conflict) → asset < most → IfSome (option_map wrong_by c) (λ w. asset + w.place < most)
  conflict_has None h = tt
  conflict_has (Some c) h = omega (arith, h)

  -- of the one that is told
  pub told_has : (c : Option Conflict) (first : Option Wrong) → HavePlaces most asset first → IfSome (sooner (option_map wrong_by c) first) (λ w. asset + w.place < most)
  told_has c first p = sooner_has (option_map wrong_by c) first (conflict_has c p.0) p.1

-- what was found in a flow has places of the policy
module _ (assets : List Asset) (f : FlowValue) (found : Found) where
  found_has : (site : SiteValue) → f.asset + length (assets_of site) ≤ length assets → IsFoundIn site f found → HavePlaces (length assets) f.asset found.first
  found_has site inside is =
      has_places (length assets) f.asset (length (assets_of site)) found.first (omega arith) inside
      (subst (IsBelow (length (assets_of site))) (sym is.first) (first_below site is.judged is.ending))

  pub found_at_has : (o : Option SiteValue) → site_from assets f.asset ≡ o → IsFoundAt o f found → HavePlaces (length assets) f.asset found.first
  found_at_has None at is = absurd is
  found_at_has (Some site) at is = found_has site (from_inside assets f.asset site at) is

module _ (assets : List Asset) where
  abbrev pub Placed : Option Objection → Type 0
  Placed objection = IfSome objection (λ o. o.asset < length assets)

  placed_if : (b : Bool) (one other : Objection) → Placed (Some one) → Placed (Some other) → Placed (if b then Some one else Some other)
  placed_if true one other p q = p
  placed_if false one other p q = q

  placed_earlier : (first later : Option Objection) → Placed first → Placed later → Placed (earlier first later)
  placed_earlier None later p q = q
  placed_earlier (Some a) None p q = p
  placed_earlier (Some a) (Some b) p q = placed_if (nat_lt b.at_record a.at_record) b a q p

  placed_one : (f : FlowValue) (first : Option Wrong) → IfSome first (λ w. f.asset + w.place < length assets) → Placed (option_map (objected f) first)
  placed_one f None p = tt
  placed_one f (Some w) p = p

  placed_in : (r : Reading) (o : Option SiteValue) → site_from assets r.flow.asset ≡ o → IsReadBy o r → Placed (objection_in o r)
  placed_in r None at is = absurd is
  placed_in r (Some site) at is =
      placed_one r.flow (sooner (option_map wrong_by r.flow.conflict) (first_wrong site r.judged r.ending))
      (told_has (length assets) r.flow.asset r.flow.conflict (first_wrong site r.judged r.ending)
      (has_places (length assets) r.flow.asset (length (assets_of site)) (first_wrong site r.judged r.ending) (omega arith)
      (from_inside assets r.flow.asset site at) (first_below site r.judged r.ending)))

  placed_from : (first : Option Objection) → Placed first → (rs : List Reading) → AreReadBy assets rs → Placed (objection_to assets first rs)
  placed_from first p [] are = p
  placed_from first p (r ∷ rs) are =
      placed_from (earlier first (objection_in (site_from assets r.flow.asset) r))
      (placed_earlier first (objection_in (site_from assets r.flow.asset) r) p (placed_in r (site_from assets r.flow.asset) refl are.0)) rs are.1

  pub all_placed : (objection : Option Objection) (rs : List Reading) → objection ≡ objection_to assets None rs → AreReadBy assets rs → Placed objection
  all_placed objection rs is are = subst Placed (sym is) (placed_from None tt rs are)

-- what a count of assets can be
pub places_in_words : (assets : List Asset) (asset : ℕ) (first : Option Wrong) → AreAssetsWithin assets → HavePlaces (length assets) asset first → HavePlaces (2 ^ 32) asset first
places_in_words assets asset first within h =
    let few : length assets ≤ most_assets = within.count in
    fewer_places (2 ^ 32) asset (length assets) first (omega (arith, few)) h
