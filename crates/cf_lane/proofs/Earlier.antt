-- What one more item adds to what is read of the earlier ones.
use Rattle.cf_dnptrans.specs.AssemblyValue.{AssemblyValue, IsAssemblyOf}
use Rattle.cf_dnptrans.specs.Segments.{count_of}
use Rattle.cf_dnptrans.specs.Transport.{fitting, is_final, is_linked, left_of, made_of, octets_of, since_first, unfinished}
use Rattle.cf_lane.proofs.Parting.{part_apart, part_mine}
use Rattle.cf_lane.proofs.Sides.{side_known}
use Rattle.cf_lane.specs.Dnp3.{fragment_in, segment_in, segments_into, segments_of}
use Rattle.cf_lane.specs.Handled.{IsLaneOf, LaneValue, debt, debt_by, debt_limit}
use Rattle.cf_lane.specs.Judged.{Judged, fate_cut, cut_of, in_turn}
use Rattle.cf_lane.specs.Kept.{AreFragments, IsWireOf, KnowAllFragments, KnowsFragments, KnowsWire, StandOf, of_side, owed_octets, wire_debt}
use Rattle.cf_lane.specs.Log.{has_unfinished}
use Rattle.cf_lane.specs.Numbers.{events_of, item_event}
use Rattle.cf_lane.specs.Parts.{concerns, part}
use Rattle.cf_lane.specs.declared.wire.Fragments.{Fragments}
use Rattle.cf_lane.specs.declared.wire.Wire.{Wire}
use Rattle.cf_audit.specs.declared.line.CutReason.{CutReason}
use Rattle.cf_policy.specs.Site.{SiteValue, asset_of, assets_of}
use Rattle.cf_policy.specs.declared.Asset.{Asset}
use Rattle.cf_policy.specs.declared.Protocol.{Protocol}
use Rattle.cf_renumber.specs.Numbers.{IsNumbersOf}
use Rattle.cf_view.specs.declared.Side.{Side}
use Rattle.std.proofs.Common.{Bool, List, None, Option, Some, [], ap, append_assoc, arith, false, length, refl, slice_get, subst, suc, sym, true, ℕ, ◌%◌, ◌*◌, ◌++◌, ◌+◌, ◌/◌, ◌∙◌, ◌∷◌, ◌≡◌, ◌≤◌}
use Rattle.std.proofs.lemmas.Bool.{leb-true}
use Rattle.std.proofs.lemmas.List.{append-nil, reverse-append}
use Rattle.std.proofs.lemmas.List.Sums.{sum_by-append, sum_by-cons}
use Rattle.std.specs.List.{flat_map, list_any, range_with_len, sum_by}
use Rattle.std.specs.Option.{option_or}
use Rattle.std.specs.Prelude.{IsSome, IsTrue, if◌then◌else◌, is_some, nat_le, reverse, ◌↔◌}
use Rattle.cf_policy.specs.declared.Protocol.TheVariants as protocol
use Rattle.cf_view.specs.declared.Side.TheVariants as side
use Rattle.cf_lane.specs.Kept as kept
use Rattle.cf_lane.specs.declared.wire.Wire.TheVariants as wire

-- what items put out, and then what more items do
pub in_turn-append : {X : Type 0} (put : List Judged → Judged → List X) (earlier js ks : List Judged) →
    in_turn put earlier (js ++ ks) ≡ in_turn put earlier js ++ in_turn put (earlier ++ js) ks
in_turn-append put earlier [] ks = ap (λ before. in_turn put before ks) (sym (append-nil earlier))
in_turn-append put earlier (j ∷ js) ks =
    ap (λ rest. put earlier j ++ rest) (in_turn-append put (earlier ++ j ∷ []) js ks)
    ∙ sym (append_assoc (put earlier j) (in_turn put (earlier ++ j ∷ []) js) (in_turn put ((earlier ++ j ∷ []) ++ js) ks))
    ∙ ap (λ before. (put earlier j ++ in_turn put (earlier ++ j ∷ []) js) ++ in_turn put before ks) (append_assoc earlier (j ∷ []) js)

pub in_turn-more : {X : Type 0} (put : List Judged → Judged → List X) (earlier : List Judged) (j : Judged) →
    in_turn put [] (earlier ++ j ∷ []) ≡ in_turn put [] earlier ++ put earlier j
in_turn-more put earlier j = in_turn-append put [] earlier (j ∷ []) ∙ ap (λ xs. in_turn put [] earlier ++ xs) (append-nil (put earlier j))

pub first_none : (c d : Option CutReason) → option_or c d ≡ None → (c ≡ None) × (d ≡ None)
first_none None d e = (refl, e)
first_none (Some r) d e = cc

pub cut_of-append : (js ks : List Judged) → cut_of js ≡ None → cut_of (js ++ ks) ≡ cut_of ks
cut_of-append [] ks e = refl
cut_of-append (j ∷ js) ks e =
    let both = first_none (fate_cut j.fate) (cut_of js) e in
    ap (λ c. option_or c (cut_of (js ++ ks))) both.0 ∙ cut_of-append js ks both.1

-- the events, the newest first
pub events_of-more : (earlier : List Judged) (j : Judged) → events_of (earlier ++ j ∷ []) ≡ reverse (item_event earlier j.fate j.item) ++ events_of earlier
events_of-more earlier j =
    ap reverse (in_turn-more (λ before i. item_event before i.fate i.item) earlier j)
    ∙ reverse-append (in_turn (λ before i. item_event before i.fate i.item) [] earlier) (item_event earlier j.fate j.item)

-- the segments of a side, the newest first
pub segments_of-more : (asset : Asset) (s : Side) (earlier : List Judged) (j : Judged) → segments_of asset s (earlier ++ j ∷ []) ≡ segment_in asset s j.item ++ segments_of asset s earlier
segments_of-more asset s earlier j = ap (flat_map (λ i. segment_in asset s i.item)) (reverse-append earlier (j ∷ []))

-- how many segments went to a side
pub segments_into-more : (asset : Asset) (to : Side) (earlier : List Judged) (j : Judged) →
    segments_into asset to (earlier ++ j ∷ []) ≡ segments_into asset to earlier + sum_by (λ octets. count_of (length octets)) (fragment_in asset to earlier j j.item)
segments_into-more asset to earlier j =
    ap (sum_by (λ octets. count_of (length octets))) (in_turn-more (λ before i. fragment_in asset to before i i.item) earlier j)
    ∙ sum_by-append (λ octets. count_of (length octets)) (in_turn (λ before i. fragment_in asset to before i i.item) [] earlier) (fragment_in asset to earlier j j.item)

module _ (asset : Asset) (earlier : List Judged) (j : Judged) (no_segment : (s : Side) → segment_in asset s j.item ≡ [])
    (no_fragment : (to : Side) → fragment_in asset to earlier j j.item ≡ []) where
  same_segments : (s : Side) → segments_of asset s earlier ≡ segments_of asset s (earlier ++ j ∷ [])
  same_segments s = sym (segments_of-more asset s earlier j ∙ ap (λ xs. xs ++ segments_of asset s earlier) (no_segment s))

  same_count : (to : Side) → segments_into asset to earlier ≡ segments_into asset to (earlier ++ j ∷ [])
  same_count to =
      sym (segments_into-more asset to earlier j ∙ ap (λ xs. segments_into asset to earlier + sum_by (λ (octets : List ℕ). count_of (length octets)) xs) (no_fragment to) ∙ omega arith)

  -- an item that is no segment and no fragment changes nothing of the fragments
  pub fragments_stay : (f : Fragments) → KnowsFragments asset f earlier → KnowsFragments asset f (earlier ++ j ∷ [])
  fragments_stay f k = record {
    client = subst (IsAssemblyOf f.client) (same_segments side.Client) k.client;
    controller = subst (IsAssemblyOf f.controller) (same_segments side.Controller) k.controller;
    to_client = k.to_client ∙ ap (λ n. n % 64) (same_count side.Client);
    to_controller = k.to_controller ∙ ap (λ n. n % 64) (same_count side.Controller);
  }

-- so it is at each asset
own_stays : (site : SiteValue) (earlier : List Judged) (j : Judged) → ((asset : Asset) (s : Side) → segment_in asset s j.item ≡ []) →
    ((asset : Asset) (to : Side) (before : List Judged) → fragment_in asset to before j j.item ≡ []) → (k : ℕ) (f : Fragments) → KnowsFragments (asset_of site k) f (part site k earlier) →
    (mine : Bool) → concerns site k j.item ≡ mine → KnowsFragments (asset_of site k) f (part site k (earlier ++ j ∷ []))
own_stays site earlier j no_segment no_fragment k f know true is = subst (KnowsFragments (asset_of site k) f) (sym (part_mine site k earlier j is))
    (fragments_stay (asset_of site k) (part site k earlier) j (no_segment (asset_of site k)) (λ to. no_fragment (asset_of site k) to (part site k earlier)) f know)
own_stays site earlier j no_segment no_fragment k f know false is = subst (KnowsFragments (asset_of site k) f) (sym (part_apart site k earlier j is)) know

-- an item that is no segment, no fragment and no event changes nothing of what is kept
pub wire_stays : (site : SiteValue) (earlier : List Judged) (j : Judged) → ((asset : Asset) (s : Side) → segment_in asset s j.item ≡ []) →
    ((asset : Asset) (to : Side) (before : List Judged) → fragment_in asset to before j j.item ≡ []) → item_event earlier j.fate j.item ≡ [] →
    (w : Wire) → KnowsWire site w earlier → KnowsWire site w (earlier ++ j ∷ [])
wire_stays site earlier j no_segment no_fragment no_event wire.Modbus = λ know. tt
wire_stays site earlier j no_segment no_fragment no_event (wire.Dnp3 all) = λ know k f at. own_stays site earlier j no_segment no_fragment k f (know k f at) (concerns site k j.item) refl
wire_stays site earlier j no_segment no_fragment no_event (wire.Iec104 numbers) = λ know.
    subst (IsNumbersOf numbers) (sym (events_of-more earlier j ∙ ap (λ xs. reverse xs ++ events_of earlier) no_event)) know

-- a fragment that is put together has at most 2,048 octets
if_some : (b : Bool) (o : Option (List ℕ)) (x : List ℕ) → (if b then o else None) ≡ Some x → (b ≡ true) × (o ≡ Some x)
if_some true o x e = (refl, e)
if_some false o x e = cc

else_some : (b : Bool) (o : Option (List ℕ)) (x : List ℕ) → (if b then None else o) ≡ Some x → o ≡ Some x
else_some true o x e = cc
else_some false o x e = e

pub left_most : (run : List (List ℕ)) (xs : List ℕ) → left_of run ≡ Some xs → length xs ≤ 2048
left_most [] xs e = cc
left_most (s ∷ run) xs e =
    let made = else_some (is_final s) (made_of (s ∷ run)) xs e in
    let linked = if_some (is_linked (s ∷ run)) (fitting (octets_of (s ∷ run))) xs made in
    let fits = if_some (nat_le (length (octets_of (s ∷ run))) 2048) (Some (octets_of (s ∷ run))) xs linked.1 in
    let same : octets_of (s ∷ run) ≡ xs = cc fits.1 in
    omega (arith, leb-true (length (octets_of (s ∷ run))) 2048 fits.0, ap length same)

owed_by : (b : Bool) (octets : List ℕ) (o : Option (List ℕ)) → (if b then Some octets else None) ≡ o → ((xs : List ℕ) → o ≡ Some xs → length xs ≤ 2048) →
    (if b then 5 * length octets / 4 else 0) ≤ 2560
owed_by true octets o e most = let l = most octets (sym e) in omega (arith, l)
owed_by false octets o e most = omega arith

owed_most : (a : AssemblyValue) (segments : List (List ℕ)) → IsAssemblyOf a segments → owed_octets a ≤ 2560
owed_most a segments is = owed_by a.begun a.octets (unfinished segments) is.opened (left_most (since_first segments))

fragments_most : (f : Fragments) → AreFragments f → kept.owed_by f ≤ 5300
fragments_most f are = omega (arith, owed_most f.client are.client.0 are.client.1, owed_most f.controller are.controller.0 are.controller.1)

all_most : (all : List Fragments) → ((k : ℕ) (f : Fragments) → slice_get all k ≡ Some f → AreFragments f) → sum_by kept.owed_by all ≤ 5300 * length all
all_most [] each = omega arith
all_most (f ∷ all) each =
    omega (arith, sum_by-cons kept.owed_by f all, fragments_most f (each 0 f refl), all_most all (λ k x at. each (suc k) x at))

wire_most : (p : Protocol) (n : ℕ) (w : Wire) → IsWireOf p n w → wire_debt w ≤ debt_by p n
wire_most protocol.Dnp3 n (wire.Dnp3 all) is = omega (arith, all_most all is.each, is.one_each)
wire_most p n (wire.Dnp3 all) is = absurd is
wire_most protocol.Modbus n wire.Modbus is = omega arith
wire_most protocol.Iec104 n (wire.Iec104 numbers) is = omega arith
wire_most p n w is = absurd is

-- what unfinished fragments may still put out
pub debt_most : (site : SiteValue) (lane : LaneValue) → IsLaneOf site lane → debt lane ≤ debt_limit site
debt_most site lane is = wire_most site.first.protocol (length (assets_of site)) lane.wire is.wire

wire_no_debt : (n : ℕ) (w : Wire) → IsWireOf protocol.Modbus n w → wire_debt w ≡ 0
wire_no_debt n wire.Modbus is = refl
wire_no_debt n w is = absurd is

-- a lane of Modbus has no debt
pub no_debt : (site : SiteValue) (lane : LaneValue) → site.first.protocol ≡ protocol.Modbus → IsLaneOf site lane → debt lane ≡ 0
no_debt site lane modbus is = wire_no_debt (length (assets_of site)) lane.wire (subst (λ p. IsWireOf p (length (assets_of site)) lane.wire) modbus is.wire)

true_or_none : (b : Bool) (o : Option (List ℕ)) → IsTrue b ↔ IsSome o → b ≡ is_some o
true_or_none true (Some x) e = refl
true_or_none true None e = cc (e.0 refl)
true_or_none false (Some x) e = cc (e.1 refl)
true_or_none false None e = refl

unfinished_by : (p : Protocol) (site : SiteValue) (all : List Fragments) (s : Side) (b : Bool) →
    ((segments : ℕ → List (List ℕ)) → StandOf s all segments → b ≡ list_any (λ k. is_some (unfinished (segments k))) (range_with_len 0 (length all))) →
    (earlier : List Judged) → IsWireOf p (length (assets_of site)) (wire.Dnp3 all) → KnowAllFragments site all earlier → b ≡ has_unfinished site p s earlier
unfinished_by protocol.Dnp3 site all s b told earlier is knows =
    let segments : ℕ → List (List ℕ) = λ k. segments_of (asset_of site k) s (part site k earlier) in
    told segments (λ k f at. side_known (asset_of site k) f s (part site k earlier) (knows k f at))
    ∙ ap (λ n. list_any (λ k. is_some (unfinished (segments k))) (range_with_len 0 n)) is.one_each
unfinished_by p site all s b told earlier is knows = absurd is

-- what the assemblies of a side tell is what the earlier items leave unfinished
pub unfinished_told : (w : Wire) (all : List Fragments) (s : Side) (b : Bool) → w ≡ wire.Dnp3 all →
    ((segments : ℕ → List (List ℕ)) → StandOf s all segments → b ≡ list_any (λ k. is_some (unfinished (segments k))) (range_with_len 0 (length all))) →
    (site : SiteValue) (earlier : List Judged) → IsWireOf site.first.protocol (length (assets_of site)) w → KnowsWire site w earlier → b ≡ has_unfinished site site.first.protocol s earlier
unfinished_told w all s b is told site earlier wire knows =
    unfinished_by site.first.protocol site all s b told earlier
    (subst (IsWireOf site.first.protocol (length (assets_of site))) is wire) (subst (λ v. KnowsWire site v earlier) is knows)
