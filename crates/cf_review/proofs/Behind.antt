-- The other stretches of flows, reviewed one after the other.
use Rattle.std.proofs.Common.{◌≡◌, ◌+◌, ◌-◌, ◌<◌, ◌∙◌, ℕ, Bool, List, [], ◌∷◌, ◌++◌, length, map, get_or, Option, Some, min, ◌^◌, refl, sym, ap, subst, arith, append_assoc}
use Rattle.std.proofs.lemmas.List.{append-nil, get_or-map, length-map, map-append}
use Rattle.cf_lane.specs.Judged.{in_turn}
use Rattle.cf_policy.specs.Site.{SiteValue, site_from}
use Rattle.cf_policy.specs.declared.Asset.{Asset}
use Rattle.cf_watch.specs.FlowValue.{AreStretchesFor, IsForAsset, StretchValue, flow_value, stretch_value}
use Rattle.cf_watch.specs.declared.Stretch.{Stretch}
use Rattle.cf_judge.specs.Objections.{IsReadBy, admitted_in, commands_in}
use Rattle.cf_review.proofs.Reading.{commands_more, most_twice, same_place}
use Rattle.cf_review.specs.FirstUnit.{IsReadPart, IsReadPartAt, from_place}
use Rattle.cf_review.specs.Follow.{AreToldOf, IsToldOf}
use Rattle.cf_review.specs.Remark.{RemarkValue}
use Rattle.cf_review.specs.Review.{AddsStretch, AddsStretches, AddsUnits, AreReadStretches, IsReadStretch, StretchReading, end_remarks, gap_remarks, remarks_behind, stretch_remarks, stretch_remarks_by, unit_remarks}

-- the remarks on a stretch are that of its gap, and those on the bytes that are read
pub adds_stretch : (site : SiteValue) (s : StretchValue) (place : ℕ) (start first now : List RemarkValue) (admitted : ℕ) → IsReadPart site.first.protocol s.flow (from_place place s.flow) →
    first ≡ start ++ gap_remarks s.flow s.gap s.flow.midstream → AddsUnits site (from_place place s.flow) first now admitted → AddsStretch site s start now admitted
adds_stretch site s place start first now admitted part one units =
    let f = s.flow in
    let us = in_turn (unit_remarks site f) [] units.judged ++ end_remarks f units.ending in
    let g = gap_remarks f s.gap f.midstream in
    record {
      behind = record { gap = s.gap; reading = record { flow = from_place place f; judged = units.judged; ending = units.ending } };
      gap = refl;
      is_part = part;
      are_read = units.are_read;
      admitted_is = units.admitted_is;
      remarks = units.remarks ∙ ap (λ (xs : List RemarkValue). xs ++ us) one ∙ append_assoc start g us;
    }

stretches_more : (assets : List Asset) (ss : List StretchValue) (bs : List StretchReading) (s : StretchValue) (b : StretchReading) → AreReadStretches assets ss bs → IsReadStretch assets s b →
    AreReadStretches assets (ss ++ s ∷ []) (bs ++ b ∷ [])
stretches_more assets [] bs s b are is = subst (λ xs. AreReadStretches assets (s ∷ []) (xs ++ b ∷ [])) (sym are) (is, refl)
stretches_more assets (t ∷ ss) [] s b are is = absurd are
stretches_more assets (t ∷ ss) (c ∷ bs) s b are is = (are.0, stretches_more assets ss bs s b are.1 is)

behind_more : (assets : List Asset) (bs : List StretchReading) (b : StretchReading) →
    remarks_behind assets (bs ++ b ∷ []) ≡ remarks_behind assets bs ++ stretch_remarks_by (site_from assets b.reading.flow.asset) b
behind_more assets [] b = append-nil (stretch_remarks_by (site_from assets b.reading.flow.asset) b)
behind_more assets (c ∷ bs) b =
    ap (λ (xs : List RemarkValue). stretch_remarks_by (site_from assets c.reading.flow.asset) c ++ xs) (behind_more assets bs b)
    ∙ sym (append_assoc (stretch_remarks_by (site_from assets c.reading.flow.asset) c) (remarks_behind assets bs) (stretch_remarks_by (site_from assets b.reading.flow.asset) b))

pub stretches_first : (assets : List Asset) (before : ℕ) (start : List RemarkValue) → AddsStretches assets [] before start start before
stretches_first assets before start = record { behind = []; are_read = refl; admitted_is = refl; remarks = sym (append-nil start) }

pub stretches_on : (assets : List Asset) (stretches : List StretchValue) (before admitted more : ℕ) (start old new : List RemarkValue) (s : StretchValue) (site : SiteValue) →
    AddsStretches assets stretches before start old admitted → site_from assets s.flow.asset ≡ Some site → AddsStretch site s old new more →
    AddsStretches assets (stretches ++ s ∷ []) before start new (min (admitted + more) (2 ^ 64 - 1))
stretches_on assets stretches before admitted more start old new s site so at is =
    let b = is.behind in
    let there : site_from assets b.reading.flow.asset ≡ Some site =
    ap (site_from assets) (same_place site.first.protocol s.flow.midstream s.flow b.reading.flow is.is_part) ∙ at in
    let read : IsReadStretch assets s b = (
      is.gap,
      subst (λ (o : Option SiteValue). IsReadPartAt o s.flow b.reading.flow) (sym at) is.is_part,
      subst (λ (o : Option SiteValue). IsReadBy o b.reading) (sym there) is.are_read,
    ) in
    let readings = map (λ (x : StretchReading). x.reading) so.behind in
    record {
      behind = so.behind ++ b ∷ [];
      are_read = stretches_more assets stretches so.behind s b so.are_read read;
      admitted_is = ap (λ n. min (n + more) (2 ^ 64 - 1)) so.admitted_is ∙ ap (λ n. min (commands_in before readings + n) (2 ^ 64 - 1)) is.admitted_is
          ∙ most_twice (commands_in before readings) (admitted_in b.reading.judged) (2 ^ 64 - 1) ∙ sym (commands_more before readings b.reading) ∙ ap (commands_in before) (sym (map-append (λ (x : StretchReading). x.reading) so.behind (b ∷ [])));
      remarks = is.remarks ∙ ap (λ (xs : List RemarkValue). xs ++ stretch_remarks site b) so.remarks ∙ append_assoc start (remarks_behind assets so.behind) (stretch_remarks site b)
          ∙ ap (λ (o : Option SiteValue). start ++ (remarks_behind assets so.behind ++ stretch_remarks_by o b)) (sym there) ∙ ap (λ (xs : List RemarkValue). start ++ xs) (sym (behind_more assets so.behind b));
    }

-- each stretch is of a flow to a site of the policy
pub for_stretch : (assets : List Asset) (stretches : List Stretch) → AreStretchesFor assets (map stretch_value stretches) → (i : ℕ) (s : Stretch) → i < length stretches → s ≡ get_or stretches i s →
    IsForAsset assets (flow_value s.flow)
for_stretch assets stretches all i s inside is =
    let values = map stretch_value stretches in
    let size : length values ≡ length stretches = length-map stretches stretch_value in
    let sizes : length (map (λ (x : StretchValue). x.flow) values) ≡ length values = length-map values (λ (x : StretchValue). x.flow) in
    let one : get_or values i (stretch_value s) ≡ stretch_value s = get_or-map stretch_value stretches i s (stretch_value s) inside ∙ ap stretch_value (sym is) in
    let here : get_or (map (λ (x : StretchValue). x.flow) values) i (flow_value s.flow) ≡ flow_value s.flow =
    get_or-map (λ (x : StretchValue). x.flow) values i (stretch_value s) (flow_value s.flow) (omega (arith, inside, size)) ∙ ap (λ (x : StretchValue). x.flow) one in
    subst (IsForAsset assets) here (all i (flow_value s.flow) (omega (arith, inside, size, sizes)))

-- of each stretch it is told
pub stretch_told : (known : ℕ → Bool) (stretches : List Stretch) (i : ℕ) (s : Stretch) → AreToldOf known (map stretch_value stretches) → i < length stretches → s ≡ get_or stretches i s →
    IsToldOf known (stretch_value s)
stretch_told known stretches i s all inside is =
    let here : get_or (map stretch_value stretches) i (stretch_value s) ≡ stretch_value s = get_or-map stretch_value stretches i s (stretch_value s) inside ∙ ap stretch_value (sym is) in
    subst (IsToldOf known) here (all i (stretch_value s) (omega (arith, inside, length-map stretches stretch_value)))
