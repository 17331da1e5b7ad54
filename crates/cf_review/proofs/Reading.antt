-- The bytes of a flow, read up to a place, with all that is objected to.
use Rattle.std.proofs.Common.{◌≡◌, ◌+◌, ◌-◌, ◌<◌, ◌≤◌, ◌∙◌, ℕ, List, [], ◌∷◌, ◌++◌, length, map, take, drop, get_or, slice_range, All, Option, None, Some, min, ◌^◌, refl, sym, ap, subst, inl, inr, arith, append_assoc}
use Rattle.std.proofs.lemmas.Bool.{cases_lt}
use Rattle.std.proofs.lemmas.List.{append-nil, drop-append-le, drop-drop, drop_all, get_or-drop, get_or-map, get_or_append_left, length-drop, length-map, map-append, take_rest}
use Rattle.std.proofs.Math.Nat.{min-eq_left, min-eq_right}
use Rattle.cf_lane.proofs.Earlier.{in_turn-more}
use Rattle.cf_lane.proofs.Units.{nothing_unit}
use Rattle.cf_lane.specs.Judged.{Judged, in_turn, is_admitted, one_if}
use Rattle.cf_lane.specs.Site.{place_for}
use Rattle.cf_lane.specs.Unit.{SpellsUnit, UnitValue, unit_break}
use Rattle.cf_lane.specs.declared.fate.Fate.{Fate}
use Rattle.cf_policy.specs.Site.{SiteValue, site_from}
use Rattle.cf_policy.specs.declared.Asset.{Asset}
use Rattle.cf_view.specs.Framing.{BreaksAt, IsPartial}
use Rattle.cf_view.specs.declared.Break.{Break}
use Rattle.cf_view.specs.declared.Side.TheVariants as side
use Rattle.cf_watch.specs.FlowValue.{FlowValue, IsForAsset, flow_value}
use Rattle.cf_watch.specs.declared.Flow.{Flow}
use Rattle.cf_judge.specs.Front.{IsReaderOf, TakesUnit}
use Rattle.cf_judge.specs.Objections.{AreReadBy, IsReadBy, Reading, admitted_in, commands_in}
use Rattle.cf_judge.specs.Plain.{AreRead, Breaks, Ending, HasSiteFate, Whole, completed_in}
use Rattle.cf_judge.specs.Ruling.{ruling_of}
use Rattle.cf_judge.specs.declared.ruling.Ruling.{Ruling}
use Rattle.cf_judge.specs.declared.front.Reader.{Reader}
use Rattle.cf_review.proofs.Growing.{begins_longer, breaks_longer}
use Rattle.cf_review.specs.Follow.{HasBroken, IsPartOf, SoFar, Waits}
use Rattle.cf_review.specs.Remark.{Broken, MatterValue, RemarkValue}
use Rattle.cf_review.specs.FirstUnit.{AreReadParts, IsReadPart, IsReadPartAt, IsReadPartBy, from_place}
use Rattle.cf_review.specs.Review.{AddsReview, AddsUnits, AreReviewed, conflict_remarks, end_remarks, flow_remarks, midstream_remarks, remark_on, remarks_by, remarks_on, unit_remarks, unit_remarks_by}
use Rattle.cf_policy.specs.declared.Protocol.{Protocol}

-- ---- how many commands are allowed, up to 2^64 - 1

pub most_twice : (n a most : ℕ) → min (n + min a most) most ≡ min (n + a) most
most_twice n a most =
    elim (cases_lt a most) [
      | inl below ↦ ap (λ k. min (n + k) most) (min-eq_left (omega (arith, below)))
      | inr over ↦ ap (λ k. min (n + k) most) (min-eq_right over) ∙ min-eq_right (omega arith) ∙ sym (min-eq_right (omega (arith, over)))
    ]

admitted_more : (us : List Judged) (j : Judged) → admitted_in (us ++ j ∷ []) ≡ admitted_in us + one_if (is_admitted j.fate)
admitted_more [] j = omega arith
admitted_more (u ∷ us) j = let h = admitted_more us j in omega (arith, h)

-- one unit more
counted_on : (us : List Judged) (j : Judged) (admitted more now : ℕ) → admitted ≡ min (admitted_in us) (2 ^ 64 - 1) → more ≡ one_if (is_admitted j.fate) → now ≡ min (admitted + more) (2 ^ 64 - 1) →
    now ≡ min (admitted_in (us ++ j ∷ [])) (2 ^ 64 - 1)
counted_on us j admitted more now was one is =
    let most : ℕ = 2 ^ 64 - 1 in
    let turned : admitted + more ≡ one_if (is_admitted j.fate) + min (admitted_in us) most = omega (arith, was, one) in
    let all : one_if (is_admitted j.fate) + admitted_in us ≡ admitted_in (us ++ j ∷ []) = omega (arith, admitted_more us j) in
    is ∙ ap (λ n. min n most) turned ∙ most_twice (one_if (is_admitted j.fate)) (admitted_in us) most ∙ ap (λ n. min n most) all

-- ---- the bytes of a flow, read up to a place

-- the remarks on a unit are by the client and the asset of its flow alone
same_remarks : (site : SiteValue) (place : ℕ) (f g : FlowValue) (earlier : List Judged) (j : Judged) → f.client ≡ g.client → f.asset ≡ g.asset →
    unit_remarks_by site place g earlier j ≡ unit_remarks_by site place f earlier j
same_remarks site place f g earlier j client asset = λ i. unit_remarks_by site place (record f { client = (sym client) i; asset = (sym asset) i }) earlier j

same_remark : (f g : FlowValue) (number place : ℕ) (what : MatterValue) → f.client ≡ g.client → f.asset ≡ g.asset → remark_on g number place what ≡ remark_on f number place what
same_remark f g number place what client asset = cc

-- nothing comes later
all_read : (site : SiteValue) (f : FlowValue) (js us : List Judged) (ending : Ending) → js ≡ us → AreRead site f.client.address [] (f.bytes ++ []) (f.born ++ []) js ending →
    AreRead site f.client.address [] f.bytes f.born us ending
all_read site f js us ending same are =
    subst (λ xs. AreRead site f.client.address [] f.bytes f.born xs ending) same
    (subst (λ xs. AreRead site f.client.address [] xs f.born js ending) (append-nil f.bytes)
    (subst (λ ys. AreRead site f.client.address [] (f.bytes ++ []) ys js ending) (append-nil f.born) are))

pub so_far_first : (site : SiteValue) (f : FlowValue) (start remarks : List RemarkValue) (r : Reader) → length f.born ≡ length f.bytes → IsReaderOf site f.client.address [] r → remarks ≡ start →
    SoFar site f start 0 r 0 remarks
so_far_first site f start remarks r sizes h told = record {
  units = [];
  leads = λ more more_born js ending are. are;
  reader = h;
  admitted_is = refl;
  told = told ∙ sym (append-nil start);
  inside = omega arith;
  sizes = sizes;
}

module _ (site : SiteValue) (f : FlowValue) (start : List RemarkValue) (at : ℕ) (r : Reader) (admitted : ℕ) (remarks : List RemarkValue) (so : SoFar site f start at r admitted remarks) where
  -- what an add after the others does to the whole
  told_more : (more new : List RemarkValue) → new ≡ remarks ++ more → new ≡ start ++ (in_turn (unit_remarks site f) [] so.units ++ more)
  told_more more new is = is ∙ ap (λ xs. xs ++ more) so.told ∙ append_assoc start (in_turn (unit_remarks site f) [] so.units) more

  size : length (drop at f.bytes) ≡ length f.bytes - at
  size = length-drop at f.bytes

  born_size : length (drop at f.born) ≡ length f.bytes - at
  born_size = length-drop at f.born ∙ ap (λ n. n - at) so.sizes

  -- with another reader that stands for the same units
  pub read_by : (new : Reader) → ((client : ℕ) (earlier : List Judged) → IsReaderOf site client earlier r → IsReaderOf site client earlier new) → SoFar site f start at new admitted remarks
  read_by new goes_on = record {
    units = so.units;
    leads = so.leads;
    reader = goes_on f.client.address so.units so.reader;
    admitted_is = so.admitted_is;
    told = so.told;
    inside = so.inside;
    sizes = so.sizes;
  }

  -- with one unit more
  so_far_on : (p : Ruling) (place used : ℕ) (new : Reader) (number counted : ℕ) (now : List RemarkValue) (t : TakesUnit site f.client.address so.units (drop at f.bytes) p place used new) →
      number ≡ get_or f.born (at + used - 1) 0 → counted ≡ min (admitted_in (so.units ++ completed_in number t.unit t.fate ∷ [])) (2 ^ 64 - 1) →
      now ≡ remarks ++ unit_remarks_by site place f so.units (completed_in number t.unit t.fate) → SoFar site f start (at + used) new counted now
  so_far_on p place used new number counted now t is counts adds =
      let some : 0 < used = t.some in
      let inside : used ≤ length (drop at f.bytes) = t.begins.inside in
      let inside_born : used ≤ length (drop at f.born) = omega (arith, inside, size, born_size) in
      let last : at + used - 1 ≡ at + (used - 1) = omega (arith, some) in
      let number_is : (later_born : List ℕ) → get_or (drop at f.born ++ later_born) (used - 1) 0 ≡ number =
      λ later_born. get_or_append_left (drop at f.born) later_born 0 (used - 1) (omega (arith, some, inside_born)) ∙ get_or-drop at f.born (used - 1) 0
      ∙ ap (λ n. get_or f.born n 0) (sym last) ∙ sym is in
      let rest : (xs later : List ℕ) → used ≤ length (drop at xs) → drop (at + used) xs ++ later ≡ drop used (drop at xs ++ later) =
      λ xs later within. ap (λ ys. ys ++ later) (sym (drop-drop used at xs)) ∙ sym (drop-append-le used (drop at xs) later within) in
      let j = completed_in number t.unit t.fate in
      let added : now ≡ remarks ++ unit_remarks site f so.units j = adds ∙ ap (λ k. remarks ++ unit_remarks_by site k f so.units j) t.is_for in
      record {
        units = so.units ++ j ∷ [];
        leads = λ more more_born js ending are. subst (λ xs. AreRead site f.client.address [] (f.bytes ++ more) (f.born ++ more_born) xs ending) (sym (append_assoc so.units (j ∷ []) js))
            (so.leads more more_born (j ∷ js) ending (
              t.unit,
              used,
              begins_longer (SpellsUnit site.first.protocol) (drop at f.bytes) more t.unit used t.begins,
              some,
              ap (λ n. completed_in n t.unit t.fate) (sym (number_is more_born)),
              t.has_fate,
              subst (λ xs. AreRead site f.client.address (so.units ++ j ∷ []) xs (drop used (drop at f.born ++ more_born)) js ending) (rest f.bytes more inside)
                  (subst (λ ys. AreRead site f.client.address (so.units ++ j ∷ []) (drop (at + used) f.bytes ++ more) ys js ending) (rest f.born more_born inside_born) are),
            ));
        reader = t.goes_on number;
        admitted_is = counts;
        told = told_more (unit_remarks site f so.units j) now added ∙ ap (λ xs. start ++ xs) (sym (in_turn-more (unit_remarks site f) so.units j));
        inside = omega (arith, size, inside, so.inside);
        sizes = so.sizes;
      }

  pub found_rest : Waits site f at → AddsUnits site f start remarks admitted
  found_rest h = record {
    judged = so.units;
    ending = Whole;
    are_read = all_read site f (so.units ++ []) so.units Whole (append-nil so.units)
        (so.leads [] [] [] Whole (subst (IsPartial (SpellsUnit site.first.protocol)) (sym (append-nil (drop at f.bytes))) h));
    admitted_is = so.admitted_is;
    remarks = told_more [] remarks (sym (append-nil remarks));
  }

  -- an octet follows that no unit has there
  broken : (reason : Break) (place number : ℕ) (now : List RemarkValue) → BreaksAt (SpellsUnit site.first.protocol) (drop at f.bytes) place → reason ≡ unit_break site.first.protocol place →
      number ≡ get_or f.born (at + place) 0 → now ≡ remarks ++ remark_on f number 0 (Broken reason) ∷ [] → HasBroken site f start admitted now
  broken reason place number now b is number_is added =
      let inside : place < length (drop at f.bytes) = b.inside in
      let inside_born : place < length (drop at f.born) = omega (arith, inside, size, born_size) in
      record {
        units = so.units;
        number = number;
        reason = reason;
        breaks = λ more more_born. subst (λ xs. AreRead site f.client.address [] (f.bytes ++ more) (f.born ++ more_born) xs (Breaks number reason)) (append-nil so.units)
            (so.leads more more_born [] (Breaks number reason) (
              place,
              breaks_longer (SpellsUnit site.first.protocol) (drop at f.bytes) more place b,
              is,
              number_is ∙ sym (get_or-drop at f.born place 0) ∙ sym (get_or_append_left (drop at f.born) more_born 0 place inside_born),
            ));
        admitted_is = so.admitted_is;
        told = told_more (remark_on f number 0 (Broken reason) ∷ []) now added;
      }

pub found_broken : (site : SiteValue) (f : FlowValue) (start : List RemarkValue) (admitted : ℕ) (remarks : List RemarkValue) → HasBroken site f start admitted remarks → AddsUnits site f start remarks admitted
found_broken site f start admitted remarks b = record {
  judged = b.units;
  ending = Breaks b.number b.reason;
  are_read = all_read site f b.units b.units (Breaks b.number b.reason) refl (b.breaks [] []);
  admitted_is = b.admitted_is;
  remarks = b.told;
}

-- ---- the bytes that are kept of a flow

part_on : (f : FlowValue) (place : ℕ) (kept : Flow) (at used : ℕ) → IsPartOf f place kept at → IsPartOf f (place + used) kept (at + used)
part_on f place kept at used part = record {
  bytes = sym (drop-drop used place f.bytes) ∙ ap (drop used) part.bytes ∙ drop-drop used at kept.bytes.items;
  born = sym (drop-drop used place f.born) ∙ ap (drop used) part.born ∙ drop-drop used at kept.born;
  client = part.client;
  asset = part.asset;
}

-- all that is kept from a place on
pub part_from : (place : ℕ) (kept : Flow) → IsPartOf (from_place place (flow_value kept)) 0 kept place
part_from place kept = record { bytes = refl; born = refl; client = refl; asset = refl }

pub same_sizes : (bytes born : List ℕ) (start : ℕ) → length born ≡ length bytes → length (drop start born) ≡ length (drop start bytes)
same_sizes bytes born start e = length-drop start born ∙ ap (λ n. n - start) e ∙ sym (length-drop start bytes)

-- the bytes go on from one place to another
pub part_to : (f : FlowValue) (place : ℕ) (kept : Flow) (first at : ℕ) → first ≤ at → IsPartOf f place kept first → IsPartOf f (place + (at - first)) kept at
part_to f place kept first at past part = subst (IsPartOf f (place + (at - first)) kept) (omega (arith, past)) (part_on f place kept first (at - first) part)

-- nothing follows
pub waits_all : (site : SiteValue) (f : FlowValue) (place : ℕ) (kept : Flow) (at : ℕ) → IsPartOf f place kept at → length kept.bytes.items ≤ at → Waits site f place
waits_all site f place kept at part over =
    subst (IsPartial (SpellsUnit site.first.protocol)) (sym (part.bytes ∙ drop_all at kept.bytes.items over)) (nothing_unit site.first.protocol)

-- the bytes that were lent are those from a place on
module _ (kept : Flow) (at : ℕ) (read : List ℕ) (lent : read ≡ slice_range kept.bytes.items at (length kept.bytes.items)) where
  rest_is : read ≡ drop at kept.bytes.items
  rest_is = lent ∙ take_rest kept.bytes.items at

  read_size : length read ≡ length kept.bytes.items - at
  read_size = ap length rest_is ∙ length-drop at kept.bytes.items

  pub took_inside : (site : SiteValue) (client : ℕ) (earlier : List Judged) (p : Ruling) (place used : ℕ) (new : Reader) → at ≤ length kept.bytes.items → TakesUnit site client earlier read p place used new →
      (at + used ≤ length kept.bytes.items) × (0 < used)
  took_inside site client earlier p place used new within t =
      let some : 0 < used = t.some in
      let inside : used ≤ length read = t.begins.inside in
      (omega (arith, read_size, inside, within, some), some)

  pub broke_inside : (site : SiteValue) (place : ℕ) → at ≤ length kept.bytes.items → BreaksAt (SpellsUnit site.first.protocol) read place → at + place < length kept.bytes.items
  broke_inside site place within b =
      let inside : place < length read = b.inside in
      omega (arith, read_size, inside, within)

  -- they are those of a flow
  module _ (site : SiteValue) (f : FlowValue) (start : List RemarkValue) (from : ℕ) (r : Reader) (admitted : ℕ) (remarks : List RemarkValue) (part : IsPartOf f from kept at)
      (so : SoFar site f start from r admitted remarks) where
    same : read ≡ drop from f.bytes
    same = rest_is ∙ sym part.bytes

    same_born : (k : ℕ) → get_or kept.born (at + k) 0 ≡ get_or f.born (from + k) 0
    same_born k = sym (get_or-drop at kept.born k 0) ∙ ap (λ xs. get_or xs k 0) (sym part.born) ∙ get_or-drop from f.born k 0

    pub waits : ((client : ℕ) (earlier : List Judged) → IsReaderOf site client earlier r → IsPartial (SpellsUnit site.first.protocol) read) → Waits site f from
    waits h = subst (IsPartial (SpellsUnit site.first.protocol)) same (h f.client.address so.units so.reader)

    pub takes_on : (p : Ruling) (place used : ℕ) (new : Reader) (number more counted : ℕ) (octets : List ℕ) (now : List RemarkValue) →
        ((client : ℕ) (earlier : List Judged) → IsReaderOf site client earlier r → TakesUnit site client earlier read p place used new) → number ≡ get_or kept.born (at + used - 1) 0 →
        ((g : Fate) → p ≡ ruling_of g → more ≡ one_if (is_admitted g)) → counted ≡ min (admitted + more) (2 ^ 64 - 1) → octets ≡ slice_range kept.bytes.items at (at + used) →
        ((client : ℕ) (earlier : List Judged) (u : UnitValue) (g : Fate) → IsReaderOf site client (earlier ++ completed_in number u g ∷ []) new → place ≡ place_for site side.Client u →
        SpellsUnit site.first.protocol u octets → HasSiteFate site client earlier u g → p ≡ ruling_of g → now ≡ remarks ++ unit_remarks_by site place (flow_value kept) earlier (completed_in number u g)) →
        SoFar site f start (from + used) new counted now
    takes_on p place used new number more counted octets now took is counts sum range adds =
        let t : TakesUnit site f.client.address so.units (drop from f.bytes) p place used new =
        subst (λ xs. TakesUnit site f.client.address so.units xs p place used new) same (took f.client.address so.units so.reader) in
        let some : 0 < used = t.some in
        let j = completed_in number t.unit t.fate in
        let span : at + used - at ≡ used = omega arith in
        let front : octets ≡ take used (drop from f.bytes) = range ∙ ap (λ n. take n (drop at kept.bytes.items)) span ∙ ap (take used) (sym part.bytes) in
        let spells : SpellsUnit site.first.protocol t.unit octets = subst (SpellsUnit site.first.protocol t.unit) (sym front) t.begins.spells in
        let here : at + used - 1 ≡ at + (used - 1) = omega (arith, some) in
        let there : from + (used - 1) ≡ from + used - 1 = omega (arith, some) in
        let number_is : number ≡ get_or f.born (from + used - 1) 0 = is ∙ ap (λ n. get_or kept.born n 0) here ∙ same_born (used - 1) ∙ ap (λ n. get_or f.born n 0) there in
        so_far_on site f start from r admitted remarks so p place used new number counted now t number_is (counted_on so.units j admitted more counted so.admitted_is (counts t.fate t.counts) sum)
        (adds f.client.address so.units t.unit t.fate (t.goes_on number) t.is_for spells t.has_fate t.counts ∙ ap (λ xs. remarks ++ xs) (same_remarks site place f (flow_value kept) so.units j part.client part.asset))

    pub breaks_off : (reason : Break) (place number : ℕ) (now : List RemarkValue) →
        ((client : ℕ) (earlier : List Judged) → IsReaderOf site client earlier r → BreaksAt (SpellsUnit site.first.protocol) read place × (reason ≡ unit_break site.first.protocol place)) →
        number ≡ get_or kept.born (at + place) 0 → now ≡ remarks ++ remark_on (flow_value kept) number 0 (Broken reason) ∷ [] → HasBroken site f start admitted now
    breaks_off reason place number now breaks is added =
        let b = breaks f.client.address so.units so.reader in
        broken site f start from r admitted remarks so reason place number now (subst (λ xs. BreaksAt (SpellsUnit site.first.protocol) xs place) same b.0) b.1 (is ∙ same_born place)
        (added ∙ ap (λ x. remarks ++ x ∷ []) (same_remark f (flow_value kept) number 0 (Broken reason) part.client part.asset))

-- ---- all of a flow

-- the remarks on a flow are that it begins amid its stream, its conflict, and those on the bytes that are read
pub adds_review : (site : SiteValue) (f : FlowValue) (place : ℕ) (start first second now : List RemarkValue) (admitted : ℕ) → IsReadPart site.first.protocol f (from_place place f) →
    first ≡ start ++ midstream_remarks f f.midstream → second ≡ first ++ conflict_remarks f f.conflict → AddsUnits site (from_place place f) second now admitted →
    AddsReview site f start now admitted
adds_review site f place start first second now admitted part one two units =
    let m = midstream_remarks f f.midstream in
    let c = conflict_remarks f f.conflict in
    let us = in_turn (unit_remarks site f) [] units.judged ++ end_remarks f units.ending in
    let front : second ≡ start ++ (m ++ c) = two ∙ ap (λ xs. xs ++ c) one ∙ append_assoc start m c in
    record {
      read = from_place place f;
      is_part = part;
      judged = units.judged;
      ending = units.ending;
      are_read = units.are_read;
      admitted_is = units.admitted_is;
      remarks = units.remarks ∙ ap (λ xs. xs ++ us) front ∙ append_assoc start (m ++ c) us ∙ ap (λ xs. start ++ xs) (append_assoc m c us);
    }

-- ---- flows that were reviewed so far

pub commands_more : (count : ℕ) (rs : List Reading) (r : Reading) → commands_in count (rs ++ r ∷ []) ≡ min (commands_in count rs + admitted_in r.judged) (2 ^ 64 - 1)
commands_more count [] r = refl
commands_more count (s ∷ rs) r = commands_more (min (count + admitted_in s.judged) (2 ^ 64 - 1)) rs r

read_more : (assets : List Asset) (rs : List Reading) (r : Reading) → AreReadBy assets rs → IsReadBy (site_from assets r.flow.asset) r → AreReadBy assets (rs ++ r ∷ [])
read_more assets [] r are is = (is, tt)
read_more assets (s ∷ rs) r are is = (are.0, read_more assets rs r are.1 is)

remarks_more : (assets : List Asset) (rs : List Reading) (r : Reading) → remarks_on assets (rs ++ r ∷ []) ≡ remarks_on assets rs ++ remarks_by (site_from assets r.flow.asset) r
remarks_more assets [] r = append-nil (remarks_by (site_from assets r.flow.asset) r)
remarks_more assets (s ∷ rs) r =
    ap (λ xs. remarks_by (site_from assets s.flow.asset) s ++ xs) (remarks_more assets rs r)
    ∙ sym (append_assoc (remarks_by (site_from assets s.flow.asset) s) (remarks_on assets rs) (remarks_by (site_from assets r.flow.asset) r))

pub reviewed_first : (assets : List Asset) (remarks : List RemarkValue) → remarks ≡ [] → AreReviewed assets [] 0 remarks
reviewed_first assets remarks none = record { readings = []; of_flows = refl; are_read = tt; admitted_is = refl; remarks_are = none }

parts_more : (assets : List Asset) (fs rs : List FlowValue) (f r : FlowValue) → AreReadParts assets fs rs → IsReadPartAt (site_from assets f.asset) f r → AreReadParts assets (fs ++ f ∷ []) (rs ++ r ∷ [])
parts_more assets [] rs f r are is = subst (λ xs. AreReadParts assets (f ∷ []) (xs ++ r ∷ [])) (sym are) (is, refl)
parts_more assets (g ∷ fs) [] f r are is = absurd are
parts_more assets (g ∷ fs) (s ∷ rs) f r are is = (are.0, parts_more assets fs rs f r are.1 is)

-- it is a flow to the same site
pub same_place : (protocol : Protocol) (midstream : Option ℕ) (f read : FlowValue) → IsReadPartBy protocol midstream f read → read.asset ≡ f.asset
same_place protocol None f read is = ap (λ (x : FlowValue). x.asset) is
same_place protocol (Some number) f read is = ap (λ (x : FlowValue). x.asset) is.2

pub reviewed_on : (assets : List Asset) (flows : List FlowValue) (admitted more : ℕ) (old new : List RemarkValue) (f : FlowValue) (site : SiteValue) →
    AreReviewed assets flows admitted old → site_from assets f.asset ≡ Some site → AddsReview site f old new more → AreReviewed assets (flows ++ f ∷ []) (min (admitted + more) (2 ^ 64 - 1)) new
reviewed_on assets flows admitted more old new f site so at is =
    let r : Reading = record { flow = is.read; judged = is.judged; ending = is.ending } in
    let there : site_from assets is.read.asset ≡ Some site = ap (site_from assets) (same_place site.first.protocol f.midstream f is.read is.is_part) ∙ at in
    record {
      readings = so.readings ++ r ∷ [];
      of_flows = subst (AreReadParts assets (flows ++ f ∷ [])) (sym (map-append (λ s. s.flow) so.readings (r ∷ [])))
          (parts_more assets flows (map (λ s. s.flow) so.readings) f is.read so.of_flows (subst (λ a. IsReadPartAt a f is.read) (sym at) is.is_part));
      are_read = read_more assets so.readings r so.are_read (subst (λ a. IsReadBy a r) (sym there) is.are_read);
      admitted_is = ap (λ n. min (n + more) (2 ^ 64 - 1)) so.admitted_is ∙ ap (λ n. min (commands_in 0 so.readings + n) (2 ^ 64 - 1)) is.admitted_is
          ∙ most_twice (commands_in 0 so.readings) (admitted_in is.judged) (2 ^ 64 - 1) ∙ sym (commands_more 0 so.readings r);
      remarks_are = is.remarks ∙ ap (λ xs. xs ++ flow_remarks site is.read is.judged is.ending) so.remarks_are ∙ ap (λ a. remarks_on assets so.readings ++ remarks_by a r) (sym there) ∙ sym (remarks_more assets so.readings r);
    }

-- each flow is to a site of the policy
pub for_asset : (assets : List Asset) (flows : List Flow) → All (IsForAsset assets) (map flow_value flows) → (i : ℕ) (f : Flow) → i < length flows → f ≡ get_or flows i f →
    IsForAsset assets (flow_value f)
for_asset assets flows all i f inside is =
    let here : get_or (map flow_value flows) i (flow_value f) ≡ flow_value f = get_or-map flow_value flows i f (flow_value f) inside ∙ ap flow_value (sym is) in
    subst (IsForAsset assets) here (all i (flow_value f) (omega (arith, inside, length-map flows flow_value)))
