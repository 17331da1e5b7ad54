-- What is read of flows, of one after the other.
use Rattle.std.proofs.Common.{◌≡◌, ◌+◌, ◌<◌, ◌∙◌, take, ℕ, List, [], ◌∷◌, ◌++◌, length, map, get_or, slice_get, Option, Some, refl, sym, ap, subst, arith, append_assoc}
use Rattle.std.specs.Prelude.{All}
use Rattle.std.proofs.lemmas.List.{append-nil, get_or-map, length-map, map-append, map_more}
use Rattle.cf_policy.specs.declared.Asset.{Asset}
use Rattle.cf_watch.specs.FlowValue.{AreStretchesFor, FlowValue, IsForAsset, StretchValue, flow_value, stretch_value}
use Rattle.cf_watch.specs.declared.Flow.{Flow}
use Rattle.cf_watch.specs.declared.Stretch.{Stretch}
use Rattle.cf_draft.specs.Parts.{AddsRead, AreReadAs, IsReadAs, IsReadAsAt}

read_more : (assets : List Asset) (flows read : List FlowValue) (f r : FlowValue) → AreReadAs assets flows read → IsReadAsAt (slice_get assets f.asset) f r →
    AreReadAs assets (flows ++ f ∷ []) (read ++ r ∷ [])
read_more assets [] read f r are is = subst (λ xs. AreReadAs assets (f ∷ []) (xs ++ r ∷ [])) (sym are) (is, refl)
read_more assets (g ∷ flows) [] f r are is = absurd are
read_more assets (g ∷ flows) (s ∷ read) f r are is = (are.0, read_more assets flows read f r are.1 is)

read_both : (assets : List Asset) (flows read others more : List FlowValue) → AreReadAs assets flows read → AreReadAs assets others more →
    AreReadAs assets (flows ++ others) (read ++ more)
read_both assets [] read others more are is = subst (λ xs. AreReadAs assets others (xs ++ more)) (sym are) is
read_both assets (g ∷ flows) [] others more are is = absurd are
read_both assets (g ∷ flows) (s ∷ read) others more are is = (are.0, read_both assets flows read others more are.1 is)

-- of no flow nothing was read
pub adds_none : (assets : List Asset) (old : List FlowValue) → AddsRead assets [] old old
adds_none assets old = record { more = []; read = refl; behind = sym (append-nil old) }

-- and of one flow more
pub adds_one : (assets : List Asset) (flows start old new : List FlowValue) (f r : FlowValue) (asset : Asset) → AddsRead assets flows start old → slice_get assets f.asset ≡ Some asset →
    IsReadAs asset.protocol f r → new ≡ old ++ r ∷ [] → AddsRead assets (flows ++ f ∷ []) start new
adds_one assets flows start old new f r asset so at is e = record {
  more = so.more ++ r ∷ [];
  read = read_more assets flows so.more f r so.read (subst (λ (o : Option Asset). IsReadAsAt o f r) (sym at) is);
  behind = e ∙ ap (λ xs. xs ++ r ∷ []) so.behind ∙ append_assoc start so.more (r ∷ []);
}

-- of these flows, and then of others
pub adds_both : (assets : List Asset) (flows others old mid new : List FlowValue) → AddsRead assets flows old mid → AddsRead assets others mid new →
    AddsRead assets (flows ++ others) old new
adds_both assets flows others old mid new first second = record {
  more = first.more ++ second.more;
  read = read_both assets flows first.more others second.more first.read second.read;
  behind = second.behind ∙ ap (λ xs. xs ++ second.more) first.behind ∙ append_assoc old first.more second.more;
}

-- behind nothing stands what was read
pub read_alone : (assets : List Asset) (flows old new : List FlowValue) → old ≡ [] → AddsRead assets flows old new → AreReadAs assets flows new
read_alone assets flows old new none adds = subst (AreReadAs assets flows) (sym (adds.behind ∙ ap (λ xs. xs ++ adds.more) none)) adds.read

-- each flow is to an asset of the policy
pub for_flow : (assets : List Asset) (flows : List Flow) → All (IsForAsset assets) (map flow_value flows) → (i : ℕ) (f : Flow) → i < length flows → f ≡ get_or flows i f →
    IsForAsset assets (flow_value f)
for_flow assets flows all i f inside is =
    let size : length (map flow_value flows) ≡ length flows = length-map flows flow_value in
    let one : get_or (map flow_value flows) i (flow_value f) ≡ flow_value f = get_or-map flow_value flows i f (flow_value f) inside ∙ ap flow_value (sym is) in
    subst (IsForAsset assets) one (all i (flow_value f) (omega (arith, inside, size)))

-- and so is each stretch
pub for_stretch : (assets : List Asset) (stretches : List Stretch) → AreStretchesFor assets (map stretch_value stretches) → (i : ℕ) (s : Stretch) → i < length stretches → s ≡ get_or stretches i s →
    IsForAsset assets (flow_value s.flow)
for_stretch assets stretches all i s inside is =
    let values = map stretch_value stretches in
    let size : length values ≡ length stretches = length-map stretches stretch_value in
    let sizes : length (map (λ (x : StretchValue). x.flow) values) ≡ length values = length-map values (λ (x : StretchValue). x.flow) in
    let one : get_or values i (stretch_value s) ≡ stretch_value s = get_or-map stretch_value stretches i s (stretch_value s) inside ∙ ap stretch_value (sym is) in
    let here : get_or (map (λ (x : StretchValue). x.flow) values) i (flow_value s.flow) ≡ flow_value s.flow =
    get_or-map (λ (x : StretchValue). x.flow) values i (stretch_value s) (flow_value s.flow) (omega (arith, inside, size)) ∙ ap (λ (x : StretchValue). x.flow) one in
    subst (IsForAsset assets) here (all i (flow_value s.flow) (omega (arith, inside, size, sizes)))

-- the flows of stretches
abbrev pub flows_in : List Stretch → List FlowValue
flows_in stretches = map (λ (x : StretchValue). x.flow) (map stretch_value stretches)

pub flows_more : (stretches : List Stretch) (i : ℕ) (s : Stretch) → i < length stretches → s ≡ get_or stretches i s →
    flows_in (take i stretches) ++ flow_value s.flow ∷ [] ≡ flows_in (take (i + 1) stretches)
flows_more stretches i s inside is =
    let one : map stretch_value (take i stretches) ++ stretch_value s ∷ [] ≡ map stretch_value (take (i + 1) stretches) =
    ap (λ g. map stretch_value (take i stretches) ++ stretch_value g ∷ []) is ∙ sym (map_more stretch_value stretches i s inside) in
    sym (map-append (λ (x : StretchValue). x.flow) (map stretch_value (take i stretches)) (stretch_value s ∷ [])) ∙ ap (map (λ (x : StretchValue). x.flow)) one
