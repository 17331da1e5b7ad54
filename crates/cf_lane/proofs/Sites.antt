-- The items of a site by its assets: laws that say of each asset what is said of a session of that asset alone.
use Rattle.cf_apci.specs.Apdu.{Info}
use Rattle.cf_asdu.specs.Asdu.{station_of}
use Rattle.cf_audit.specs.declared.line.CutReason.{CutReason}
use Rattle.cf_lane.proofs.Parting.{fate_of_part, part-more}
use Rattle.cf_lane.specs.Caller.{Caller, own}
use Rattle.cf_lane.specs.Dnp3.{fate_of_frame, has_addresses, is_fragment_unfinished, stray_of}
use Rattle.cf_lane.specs.Fate.{HasFate, HasFateBy, HasItemFate, HaveFates}
use Rattle.cf_lane.specs.Handled.{debt_by, debt_limit}
use Rattle.cf_lane.specs.Iec104.{asdu_refused, fate_of_asdu, or_cut}
use Rattle.cf_lane.specs.Item.{Broke, Ended, Item, Placed, Took, placed}
use Rattle.cf_lane.specs.Judged.{Judged, place_of}
use Rattle.cf_lane.specs.Log.{command_octets, is_some_bytes, lines_by, unit_lines}
use Rattle.cf_lane.specs.Modbus.{HasCommandFate, of_its_acts, of_no_form, of_other_station, station_refusal}
use Rattle.cf_lane.specs.Numbers.{info_cut}
use Rattle.cf_lane.specs.Output.{item_output, output, output_by, outputs, unit_output}
use Rattle.cf_lane.specs.Parts.{bears, concerns, is_apdu, part, with_if}
use Rattle.cf_lane.specs.Rates.{Says, says_at}
use Rattle.cf_lane.specs.Site.{find_place, is_for, item_place, or_first, place_for}
use Rattle.cf_lane.specs.SiteLaws.{NobodysAduIsRefused, NobodysAsduIsRefused, NobodysFrameIsStray, OneAssetEnds, OneAssetFates, OneAssetLines, OneAssetOutputs, PartsAsdus, PartsFates, PartsOutputs, caller_of, part_output}
use Rattle.cf_lane.specs.Unit.{Adu, Apdu, Frame, UnitValue}
use Rattle.cf_lane.specs.declared.fate.Fate.{Fate}
use Rattle.cf_modbus.specs.Adu.{AduValue}
use Rattle.cf_policy.specs.Within.{most_at_site}
use Rattle.cf_policy.specs.Site.{IsSiteWithin, SiteValue, alone, asset_of, assets_of}
use Rattle.cf_policy.specs.declared.Asset.{Asset}
use Rattle.cf_policy.specs.declared.Protocol.{Protocol}
use Rattle.cf_view.specs.declared.Side.{Side}
use Rattle.std.proofs.Common.{Bool, List, None, Option, Some, [], ap, arith, false, length, nat_eq, nat_lt, option_map, refl, subst, suc, sym, true, ℕ, ◌&&◌, ◌++◌, ◌∙◌, ◌∷◌, ◌≡◌, ◌≤◌, ◌||◌}
use Rattle.std.proofs.lemmas.Bool.{eq-eqb, eqb-true, le-ltb, lt-ltb, or_parts}
use Rattle.std.proofs.lemmas.List.{append-nil}
use Rattle.std.specs.List.{list_any}
use Rattle.std.specs.Prelude.{if◌then◌else◌}
use Rattle.cf_audit.specs.declared.line.Why.TheVariants as why
use Rattle.cf_lane.specs.declared.fate.Fate.TheVariants as fate
use Rattle.cf_policy.specs.declared.Decider.TheVariants as decider
use Rattle.cf_policy.specs.declared.Protocol.TheVariants as protocol
use Rattle.cf_view.specs.declared.Reason.TheVariants as reason
use Rattle.cf_view.specs.declared.Side.TheVariants as side

-- ---- one asset

zero_by : (b : Bool) → or_first (if b then Some 0 else option_map suc None) ≡ 0
zero_by true = refl
zero_by false = refl

pub zero_for : (asset : Asset) (s : Side) (u : UnitValue) → place_for (alone asset) s u ≡ 0
zero_for asset s u = zero_by (is_for s u asset)

pub place_alone : (asset : Asset) (i : Item) → item_place (alone asset) i ≡ 0
place_alone asset (Took s u) = zero_for asset s u
place_alone asset (Ended s rest) = refl
place_alone asset (Broke s because) = refl

all_concern : (asset : Asset) (i : Item) → concerns (alone asset) 0 i ≡ true
all_concern asset (Took s u) = ap (λ n. nat_eq n 0) (zero_for asset s u)
all_concern asset (Ended s rest) = refl
all_concern asset (Broke s because) = refl

-- a session of one asset is its own part
pub part_alone : (asset : Asset) (js : List Judged) → part (alone asset) 0 js ≡ js
part_alone asset [] = refl
part_alone asset (j ∷ js) = ap (λ b. with_if b j (part (alone asset) 0 js)) (all_concern asset j.item) ∙ ap (λ xs. j ∷ xs) (part_alone asset js)

bears_same : (i : Item) (js : List Judged) → bears i js js ≡ js
bears_same (Took s (Adu a)) js = refl
bears_same (Took s (Frame x)) js = refl
bears_same (Took s (Apdu a)) js = refl
bears_same (Ended s rest) js = refl
bears_same (Broke s because) js = refl

bears_alone : (asset : Asset) (i : Item) (js : List Judged) → bears i js (part (alone asset) 0 js) ≡ js
bears_alone asset i js = ap (bears i js) (part_alone asset js) ∙ bears_same i js

pub from_alone : (asset : Asset) (client : Caller) (js : List Judged) (p : Placed) (f : Fate) → HasFate (alone asset) client js p f →
    HasItemFate asset (says_at asset (own 0 client) js p.moment) js p.item f
from_alone asset client js p f has =
    let first = subst (λ k. HasFateBy (alone asset) k client js p f) (place_alone asset p.item) has in
    let says = subst (λ mine. HasItemFate asset (says_at asset (own 0 client) mine p.moment) (bears p.item js (part (alone asset) 0 js)) p.item f) (part_alone asset js) first in
    subst (λ before. HasItemFate asset (says_at asset (own 0 client) js p.moment) before p.item f) (bears_alone asset p.item js) says

pub to_alone : (asset : Asset) (client : Caller) (js : List Judged) (p : Placed) (f : Fate) → HasItemFate asset (says_at asset (own 0 client) js p.moment) js p.item f →
    HasFate (alone asset) client js p f
to_alone asset client js p f has =
    let bearing = subst (λ before. HasItemFate asset (says_at asset (own 0 client) js p.moment) before p.item f) (sym (bears_alone asset p.item js)) has in
    let says = subst (λ mine. HasItemFate asset (says_at asset (own 0 client) mine p.moment) (bears p.item js (part (alone asset) 0 js)) p.item f) (sym (part_alone asset js)) bearing in
    subst (λ k. HasFateBy (alone asset) k client js p f) (sym (place_alone asset p.item)) says

pub one_asset_fates : OneAssetFates
one_asset_fates asset client moment earlier s u f = (from_alone asset client earlier (placed moment (Took s u)) f, to_alone asset client earlier (placed moment (Took s u)) f)

-- what an item of an asset alone puts out is what this asset has it put out
pub output_alone : (asset : Asset) (to : Side) (js : List Judged) (j : Judged) → output (alone asset) to js j ≡ item_output asset to js j j.item
output_alone asset to js j =
    ap (λ k. output_by (alone asset) k to js j) (place_alone asset j.item) ∙ ap (λ before. item_output asset to before j j.item) (bears_alone asset j.item js)

pub one_asset_outputs : OneAssetOutputs
one_asset_outputs asset to earlier j s u is = output_alone asset to earlier j ∙ ap (item_output asset to earlier j) is

pub one_asset_lines : OneAssetLines
one_asset_lines asset client earlier j s u is =
    ap (λ k. lines_by (alone asset) k client earlier j s u) (zero_for asset s u)
    ∙ ap (λ o. unit_lines asset client j.moment (is_some_bytes o) s (command_octets asset (bears (Took s u) earlier (part (alone asset) 0 earlier)) s u) j.fate)
    (ap (λ before. item_output asset side.Client before j j.item) (bears_alone asset j.item earlier) ∙ ap (item_output asset side.Client earlier j) is)
    ∙ ap (λ before. unit_lines asset client j.moment (is_some_bytes (unit_output asset side.Client earlier j s u)) s (command_octets asset before s u) j.fate) (bears_alone asset (Took s u) earlier)

or_false : (b : Bool) → (b || false) ≡ b
or_false true = refl
or_false false = refl

pub one_asset_ends : OneAssetEnds
one_asset_ends asset s earlier =
    or_false (is_fragment_unfinished asset s (part (alone asset) 0 earlier)) ∙ ap (is_fragment_unfinished asset s) (part_alone asset earlier)

-- ---- parts

own_bears : (i : Item) (all mine : List Judged) → is_apdu i ≡ false → bears i all mine ≡ mine
own_bears (Took s (Adu a)) all mine plain = refl
own_bears (Took s (Frame x)) all mine plain = refl
own_bears (Took s (Apdu a)) all mine plain = cc
own_bears (Ended s rest) all mine plain = refl
own_bears (Broke s because) all mine plain = refl

-- an item that concerns an asset has the fate that it has in a session of that asset alone
pub part_fate : (site : SiteValue) (client : Caller) (k : ℕ) (earlier : List Judged) (j : Judged) → is_apdu j.item ≡ false → concerns site k j.item ≡ true →
    HasFate site client earlier (place_of j) j.fate → HasFate (alone (asset_of site k)) (caller_of k client) (part site k earlier) (place_of j) j.fate
part_fate site client k earlier j plain mine has =
    let own_has = fate_of_part site client k earlier j.moment j.item j.fate mine has in
    to_alone (asset_of site k) (caller_of k client) (part site k earlier) (place_of j) j.fate
    (subst (λ before. HasItemFate (asset_of site k) (says_at (asset_of site k) (own k client) (part site k earlier) j.moment) before j.item j.fate)
    (own_bears j.item earlier (part site k earlier) plain) own_has)

part_on : (site : SiteValue) (client : Caller) (k : ℕ) (earlier js : List Judged) (j : Judged) (b : Bool) → concerns site k j.item ≡ b → is_apdu j.item ≡ false →
    HasFate site client earlier (place_of j) j.fate →
    HaveFates (alone (asset_of site k)) (caller_of k client) (part site k earlier ++ with_if b j []) (part site k js) →
    HaveFates (alone (asset_of site k)) (caller_of k client) (part site k earlier) (with_if b j (part site k js))
part_on site client k earlier js j true mine plain has later = (part_fate site client k earlier j plain mine has, later)
part_on site client k earlier js j false mine plain has later =
    subst (λ before. HaveFates (alone (asset_of site k)) (caller_of k client) before (part site k js)) (append-nil (part site k earlier)) later

pub parts_fates : PartsFates
parts_fates site client k earlier [] none has = tt
parts_fates site client k earlier (j ∷ js) none has =
    let plain = or_parts (is_apdu j.item) (list_any (λ i. is_apdu i.item) js) none in
    let later = parts_fates site client k (earlier ++ j ∷ []) js plain.1 has.1 in
    part_on site client k earlier js j (concerns site k j.item) refl plain.0 has.0
    (subst (λ before. HaveFates (alone (asset_of site k)) (caller_of k client) before (part site k js)) (part-more site k earlier j) later)

-- what an item puts out that concerns an asset is what this asset has it put out
output_of_part : (site : SiteValue) (k : ℕ) (to : Side) (earlier : List Judged) (j : Judged) (i : Item) → j.item ≡ i → concerns site k i ≡ true →
    item_output (asset_of site (item_place site i)) to (bears i earlier (part site (item_place site i) earlier)) j i
    ≡ item_output (asset_of site k) to (bears i earlier (part site k earlier)) j i
output_of_part site k to earlier j (Took s u) is mine =
    ap (λ n. item_output (asset_of site n) to (bears (Took s u) earlier (part site n earlier)) j (Took s u)) (eqb-true (place_for site s u) k mine)
output_of_part site k to earlier j (Ended s rest) is mine = refl
output_of_part site k to earlier j (Broke s because) is mine = refl

pub part_put : (site : SiteValue) (k : ℕ) (to : Side) (earlier : List Judged) (j : Judged) → is_apdu j.item ≡ false → concerns site k j.item ≡ true →
    output site to earlier j ≡ output (alone (asset_of site k)) to (part site k earlier) j
part_put site k to earlier j plain mine =
    output_of_part site k to earlier j j.item refl mine
    ∙ ap (λ before. item_output (asset_of site k) to before j j.item) (own_bears j.item earlier (part site k earlier) plain)
    ∙ sym (output_alone (asset_of site k) to (part site k earlier) j)

outputs_on : (site : SiteValue) (k : ℕ) (to : Side) (earlier js : List Judged) (j : Judged) (b : Bool) → concerns site k j.item ≡ b → is_apdu j.item ≡ false →
    (if b then output site to earlier j else []) ++ outputs (alone (asset_of site k)) to (part site k earlier ++ with_if b j []) (part site k js)
    ≡ outputs (alone (asset_of site k)) to (part site k earlier) (with_if b j (part site k js))
outputs_on site k to earlier js j true mine plain =
    ap (λ xs. xs ++ outputs (alone (asset_of site k)) to (part site k earlier ++ j ∷ []) (part site k js)) (part_put site k to earlier j plain mine)
outputs_on site k to earlier js j false mine plain = ap (λ before. outputs (alone (asset_of site k)) to before (part site k js)) (append-nil (part site k earlier))

pub parts_outputs : PartsOutputs
parts_outputs site k to earlier [] none = refl
parts_outputs site k to earlier (j ∷ js) none =
    let plain = or_parts (is_apdu j.item) (list_any (λ i. is_apdu i.item) js) none in
    ap (λ xs. part_output site k to earlier j ++ xs) (parts_outputs site k to (earlier ++ j ∷ []) js plain.1)
    ∙ ap (λ before. part_output site k to earlier j ++ outputs (alone (asset_of site k)) to before (part site k js)) (part-more site k earlier j)
    ∙ outputs_on site k to earlier js j (concerns site k j.item) refl plain.0

-- ---- a unit for no asset

none_by : (passes : Asset → Bool) (a : Asset) (rest : List Asset) (b : Bool) → passes a ≡ b → find_place passes (a ∷ rest) ≡ None → b ≡ false
none_by passes a rest false is e = refl
none_by passes a rest true is e = (let some : find_place passes (a ∷ rest) ≡ Some 0 = ap (λ b. if b then Some 0 else option_map suc (find_place passes rest)) is in cc (some, e))

none_first : (passes : Asset → Bool) (a : Asset) (rest : List Asset) → find_place passes (a ∷ rest) ≡ None → passes a ≡ false
none_first passes a rest e = none_by passes a rest (passes a) refl e

other_station : (asset : Asset) (says : Says) (a : AduValue) (f : Fate) → nat_eq a.unit asset.station ≡ false → HasCommandFate asset says a f → f ≡ fate.Refused (station_refusal a)
other_station asset says a f other (of_other_station station is) = is
other_station asset says a f other (of_no_form station refusal reads is) = cc (eq-eqb a.unit asset.station station, other)
other_station asset says a f other (of_its_acts station r reads is) = cc (eq-eqb a.unit asset.station station, other)

pub nobodys_adu : NobodysAduIsRefused
nobodys_adu site client moment earlier a f none has =
    let here : place_for site side.Client (Adu a) ≡ 0 = ap or_first none in
    let first : HasFateBy site 0 client earlier (placed moment (Took side.Client (Adu a))) f = subst (λ n. HasFateBy site n client earlier (placed moment (Took side.Client (Adu a))) f) here has in
    other_station site.first (says_at site.first (own 0 client) (part site 0 earlier) moment) a f (none_first (is_for side.Client (Adu a)) site.first site.others none) first

pub nobodys_frame : NobodysFrameIsStray
nobodys_frame site client moment earlier s x f none has =
    let here : place_for site s (Frame x) ≡ 0 = ap or_first none in
    let first : HasFateBy site 0 client earlier (placed moment (Took s (Frame x))) f = subst (λ n. HasFateBy site n client earlier (placed moment (Took s (Frame x))) f) here has in
    let other : has_addresses site.first s x ≡ false = none_first (is_for s (Frame x)) site.first site.others none in
    let stray : stray_of site.first s x ≡ Some why.Address = rw other refl in
    first ∙ ap (fate_of_frame site.first (says_at site.first (own 0 client) (part site 0 earlier) moment) s (part site 0 earlier) x) stray

cut_or : (c : Option CutReason) (f g : Fate) → c ≡ None → f ≡ or_cut c g → f ≡ g
cut_or c f g none is = is ∙ ap (λ d. or_cut d g) none

pub parts_asdus : PartsAsdus
parts_asdus site client k earlier moment send receive asdu f mine uncut has =
    cut_or (info_cut side.Client earlier send receive) f
    (fate_of_asdu (asset_of site k) (says_at (asset_of site k) (own k client) (part site k earlier) moment) asdu) uncut
    (fate_of_part site client k earlier moment (Took side.Client (Apdu (Info send receive asdu))) f mine has)

-- a whole ASDU of another station is refused by it
other_asdu : (asset : Asset) (says : Says) (asdu : List ℕ) → 9 ≤ length asdu → nat_eq (station_of asdu) asset.station ≡ false →
    fate_of_asdu asset says asdu ≡ asdu_refused decider.Station reason.Station asdu (station_of asdu)
other_asdu asset says asdu long other =
    let whole : nat_lt (length asdu) 9 ≡ false = le-ltb (length asdu) 9 long in rw (whole, other) refl

pub nobodys_asdu : NobodysAsduIsRefused
nobodys_asdu site client moment send receive earlier asdu f none long uncut has =
    let i : Item = Took side.Client (Apdu (Info send receive asdu)) in
    let here : place_for site side.Client (Apdu (Info send receive asdu)) ≡ 0 = ap or_first none in
    let first : HasFateBy site 0 client earlier (placed moment (Took side.Client (Apdu (Info send receive asdu)))) f =
    subst (λ n. HasFateBy site n client earlier (placed moment (Took side.Client (Apdu (Info send receive asdu)))) f) here has in
    let says = says_at site.first (own 0 client) (part site 0 earlier) moment in
    let not_for = none_first (is_for side.Client (Apdu (Info send receive asdu))) site.first site.others none in
    let some : nat_lt 8 (length asdu) ≡ true = lt-ltb 8 (length asdu) (omega (arith, long)) in
    let other : nat_eq (station_of asdu) site.first.station ≡ false = ap (λ b. b && nat_eq (station_of asdu) site.first.station) (sym some) ∙ not_for in
    cut_or (info_cut side.Client earlier send receive) f (fate_of_asdu site.first says asdu) uncut first ∙ other_asdu site.first says asdu long other

-- ---- what unfinished fragments may put out

debt_by_most : (p : Protocol) (n : ℕ) → (p ≡ protocol.Dnp3 → n ≤ 8) → debt_by p n ≤ 42400
debt_by_most protocol.Modbus n few = omega arith
debt_by_most protocol.Dnp3 n few = omega (arith, few refl)
debt_by_most protocol.Iec104 n few = omega arith

-- a site has at most eight assets of DNP3, which may put out 42,400 octets
pub debt_few : (site : SiteValue) → IsSiteWithin site → debt_limit site ≤ 42400
debt_few site within = debt_by_most site.first.protocol (length (assets_of site)) (λ is. most_dnp3 site.first.protocol (length (assets_of site)) is within.count) where
  most_dnp3 : (p : Protocol) (n : ℕ) → p ≡ protocol.Dnp3 → n ≤ most_at_site p → n ≤ 8
  most_dnp3 p n is few = omega (arith, few, ap most_at_site is)
