-- The law of growth: what an item puts out is at most twice its octets, and what fragments that were begun may still put out.
use Rattle.cf_lane.specs.Caller.{Caller, own_at}
use Rattle.cf_lane.proofs.Parting.{part_apart, part_mine, place_inside}
use Rattle.cf_lane.specs.Handled.{debt_by}
use Rattle.cf_lane.specs.Parts.{bears, concerns, part}
use Rattle.cf_lane.specs.Site.{is_for, item_place, place_for}
use Rattle.cf_lane.specs.Rates.{Says, says_at}
use Rattle.cf_apci.specs.Apdu.{ApduValue, Info}
use Rattle.cf_asdu.specs.Mirror.{mirror_octet, mirrored}
use Rattle.cf_dnptrans.specs.Transport.{since_first, unfinished}
use Rattle.cf_lane.proofs.Assemblies.{size}
use Rattle.cf_lane.proofs.Earlier.{in_turn-append, left_most, segments_of-more}
use Rattle.cf_lane.proofs.FrameSizes.{frame_grows, owed, potential}
use Rattle.cf_lane.proofs.Growth.{AreItemsOf, IsItemOf, all_of, all_weight, further, items_split, of_front, short_caps, weight, weights, weights-append}
use Rattle.cf_lane.proofs.Handling.{fates_behind}
use Rattle.cf_lane.proofs.Judgements.{one_items}
use Rattle.cf_lane.proofs.Renumbering.{ack_most}
use Rattle.cf_lane.proofs.Units.{free_unit}
use Rattle.cf_lane.specs.Dnp3.{segment_in, segments_of}
use Rattle.cf_lane.specs.Fate.{HasFateBy, HasItemFate, HaveFates}
use Rattle.cf_lane.specs.Iec104.{ack_output, apdu_output, mirror_output, renumbered, stamped}
use Rattle.cf_lane.specs.Item.{Broke, Ended, Item, Took, placed}
use Rattle.cf_lane.specs.Judged.{Judged, goes_on, has_ended, in_turn, place_of}
use Rattle.cf_lane.specs.Laws.{GrowsLittle}
use Rattle.cf_lane.specs.Modbus.{adu_output, adu_reply}
use Rattle.cf_lane.specs.Numbers.{events_of, has_mirror}
use Rattle.cf_lane.specs.Output.{item_output, output, outputs}
use Rattle.cf_lane.specs.Unit.{Adu, Apdu, Frame, apdu_spelling, frame_spelling}
use Rattle.cf_lane.specs.declared.fate.Fate.{Fate}
use Rattle.cf_modbus.specs.Adu.{AduValue, spelling}
use Rattle.cf_policy.specs.Site.{SiteValue, asset_of, assets_of}
use Rattle.cf_policy.specs.declared.Asset.{Asset}
use Rattle.cf_policy.specs.declared.Protocol.{Protocol}
use Rattle.cf_renumber.specs.Counts.{mirror_stamp, owed_ack}
use Rattle.cf_view.specs.declared.Side.{Side}
use Rattle.std.proofs.Common.{Bool, List, None, Option, Some, [], ap, append_assoc, arith, drop, false, inl, inr, length, map, nat_eq, refl, subst, suc, sym, take, true, zero, ℕ, ◌*◌, ◌++◌, ◌+◌, ◌<◌, ◌∙◌, ◌∷◌, ◌≡◌, ◌≢◌, ◌≤◌}
use Rattle.std.proofs.lemmas.Bool.{cases_Bool, cases_eq, cond_both, eq-eqb, eqb-true}
use Rattle.std.proofs.lemmas.List.{append-nil, length-append, length-drop, length-take}
use Rattle.std.specs.Prelude.{if◌then◌else◌, slice_index}
use Rattle.cf_lane.specs.declared.fate.Fate.TheVariants as fate
use Rattle.cf_policy.specs.declared.Protocol.TheVariants as protocol
use Rattle.cf_view.specs.declared.Side.TheVariants as side

-- an ADU puts out at most twice its octets
reply_size : (ended : Bool) (f : Fate) (a : AduValue) → length (adu_reply ended f a) ≤ 2 * length (spelling a)
reply_size false fate.Carried a = omega arith
reply_size ended f a = omega arith

if_size : (b : Bool) (xs : List ℕ) (n : ℕ) → length xs ≤ n → length (if b then xs else []) ≤ n
if_size b xs n l = cond_both b xs [] (λ ys. length ys ≤ n) (λ _. l) (λ _. omega arith)

adu_size : (to s : Side) (ended : Bool) (f : Fate) (a : AduValue) → length (adu_output to ended s f a) ≤ 2 * length (spelling a)
adu_size side.Client side.Client ended f a = reply_size ended f a
adu_size side.Controller side.Controller ended f a = omega arith
adu_size to s ended f a = if_size (goes_on f) (spelling a) (2 * length (spelling a)) (omega arith)

-- and so does an APDU
mirror_size : (earlier : List Judged) (f : Fate) (a : ApduValue) → length (mirror_output earlier f a) ≤ 2 * length (apdu_spelling a)
mirror_size earlier (fate.Refused r) (Info send receive asdu) =
    let stamp = mirror_stamp (events_of earlier) in
    if_size (has_mirror earlier asdu) (apdu_spelling (stamped stamp (mirrored asdu))) (2 * length (apdu_spelling (Info send receive asdu)))
    (omega (
      arith,
      length-append (take 2 asdu) (mirror_octet (slice_index asdu 0) (slice_index asdu 2) ∷ drop 3 asdu),
      length-take 2 asdu,
      length-drop 3 asdu,
    ))
mirror_size earlier f a = omega arith

least_size : (a : ApduValue) → 6 ≤ length (apdu_spelling a)
least_size (Info send receive asdu) = omega arith
least_size a = omega arith

owed_size : (earlier : List Judged) (f : Fate) (receive : ℕ) → length (ack_output earlier f receive) ≤ 6
owed_size earlier (fate.Refused r) receive = ack_most (owed_ack (events_of earlier) receive)
owed_size earlier f receive = omega arith

renumbered_size : (to : Side) (earlier : List Judged) (a : ApduValue) → length (apdu_spelling (renumbered to earlier a)) ≡ length (apdu_spelling a)
renumbered_size side.Client earlier (Info send receive asdu) = refl
renumbered_size side.Controller earlier (Info send receive asdu) = refl
renumbered_size to earlier a = refl

passed_size : (b : Bool) (earlier : List Judged) (f : Fate) (receive : ℕ) (a : ApduValue) →
    length (if b then apdu_spelling (renumbered side.Controller earlier a) else ack_output earlier f receive) ≤ 2 * length (apdu_spelling a)
passed_size true earlier f receive a = omega (arith, renumbered_size side.Controller earlier a)
passed_size false earlier f receive a = omega (arith, owed_size earlier f receive, least_size a)

apdu_size : (to s : Side) (earlier : List Judged) (f : Fate) (a : ApduValue) → length (apdu_output to earlier f s a) ≤ 2 * length (apdu_spelling a)
apdu_size side.Client side.Client earlier f a = mirror_size earlier f a
apdu_size side.Client side.Controller earlier f a =
    if_size (goes_on f) (apdu_spelling (renumbered side.Client earlier a)) (2 * length (apdu_spelling a)) (omega (arith, renumbered_size side.Client earlier a))
apdu_size side.Controller side.Client earlier f a = passed_size (goes_on f) earlier f _ a
apdu_size side.Controller side.Controller earlier f a = omega arith

size_most : (o : Option (List ℕ)) → ((xs : List ℕ) → o ≡ Some xs → length xs ≤ 2048) → size o ≤ 2048
size_most None most = omega arith
size_most (Some xs) most = most xs refl

potential_most : (asset : Asset) (earlier : List Judged) → potential asset earlier ≤ 5120
potential_most asset earlier =
    omega (
      arith,
      size_most (unfinished (segments_of asset side.Client earlier)) (left_most (since_first (segments_of asset side.Client earlier))),
      size_most (unfinished (segments_of asset side.Controller earlier)) (left_most (since_first (segments_of asset side.Controller earlier))),
    )

-- an item that is no segment leaves what is begun
same_potential : (asset : Asset) (earlier : List Judged) (j : Judged) → ((s : Side) → segment_in asset s j.item ≡ []) → potential asset (earlier ++ j ∷ []) ≡ potential asset earlier
same_potential asset earlier j none =
    let same = λ (s : Side). segments_of-more asset s earlier j ∙ ap (λ xs. xs ++ segments_of asset s earlier) (none s) in
    omega (arith, ap owed (same side.Client), ap owed (same side.Controller))

module _ (asset : Asset) (says : Says) (to : Side) (earlier : List Judged) (j : Judged) where
  abbrev Grows : ℕ → Type 0
  Grows n = length (item_output asset to earlier j j.item) + potential asset (earlier ++ j ∷ []) ≤ potential asset earlier + 2 * n

  no_segment : (n : ℕ) → ((s : Side) → segment_in asset s j.item ≡ []) → length (item_output asset to earlier j j.item) ≤ 2 * n → Grows n
  no_segment n none l = omega (arith, l, same_potential asset earlier j none)

  item_grows : (p : Protocol) (i : Item) → j.item ≡ i → IsItemOf p i → HasItemFate asset says earlier i j.fate → Grows (weight i)
  item_grows p (Took s (Adu a)) is of fate =
      no_segment (length (spelling a)) (λ t. ap (segment_in asset t) is)
      (omega (arith, ap (λ i. length (item_output asset to earlier j i)) is, adu_size to s (has_ended side.Controller earlier) j.fate a))
  item_grows p (Took s (Apdu a)) is of fate =
      no_segment (length (apdu_spelling a)) (λ t. ap (segment_in asset t) is)
      (omega (arith, ap (λ i. length (item_output asset to earlier j i)) is, apdu_size to s earlier j.fate a))
  item_grows protocol.Dnp3 (Took s (Frame x)) is of fate =
      omega (arith, frame_grows asset says to earlier j s x is fate, ap (λ i. length (item_output asset to earlier j i)) is)
  item_grows p (Took s (Frame x)) is of fate = absurd of.1
  item_grows p i is of fate = no_segment 0 (λ t. ap (segment_in asset t) is) (omega (arith, ap (λ i. length (item_output asset to earlier j i)) is))

-- ---- sums over the assets of a site

apart_test : (a b : ℕ) → (a ≡ b → ⊥) → nat_eq a b ≡ false
apart_test a b other = elim (cases_Bool (nat_eq a b)) [
  | inl same ↦ absurd (other (eqb-true a b same))
  | inr apart ↦ apart
]

abbrev total : (ℕ → ℕ) → ℕ → ℕ
total f zero = 0
total f (suc n) = total f n + f n

total_same : (f g : ℕ → ℕ) (n : ℕ) → ((k : ℕ) → k < n → g k ≡ f k) → total g n ≡ total f n
total_same f g zero same = refl
total_same f g (suc n) same = omega (arith, total_same f g n (λ k l. same k (omega (arith, l))), same n (omega arith))

-- where one changes, the sum does by as much
total_change : (f g : ℕ → ℕ) (n k : ℕ) → k < n → ((i : ℕ) → i ≢ k → g i ≡ f i) → total g n + f k ≡ total f n + g k
total_change f g zero k inside same = absurd (omega (arith, inside))
total_change f g (suc n) k inside same = elim (cases_eq n k) [
  | inl is ↦
      (let before = total_same f g n (λ i l. same i (λ e. absurd (omega (arith, l, e, is)))) in
      omega (arith, before, ap f is, ap g is))
  | inr other ↦ omega (arith, total_change f g n k (omega (arith, inside, other)) same, same n other)
]

total_most : (f : ℕ → ℕ) (n : ℕ) → ((k : ℕ) → f k ≤ 5120) → total f n ≤ 5120 * n
total_most f zero each = omega arith
total_most f (suc n) each = omega (arith, total_most f n each, each n)

total_none : (f : ℕ → ℕ) (n : ℕ) → ((k : ℕ) → f k ≡ 0) → total f n ≡ 0
total_none f zero each = refl
total_none f (suc n) each = omega (arith, total_none f n each, each n)

module _ (site : SiteValue) where
  abbrev count : ℕ
  count = length (assets_of site)

  -- what the fragments of an asset may still put out, and those of all
  abbrev own_potential : List Judged → ℕ → ℕ
  own_potential earlier k = potential (asset_of site k) (part site k earlier)

  abbrev site_potential : List Judged → ℕ
  site_potential earlier = total (own_potential earlier) count

  module _ (to : Side) (earlier : List Judged) (j : Judged) where
    abbrev SiteGrows : ℕ → Type 0
    SiteGrows n = length (output site to earlier j) + site_potential (earlier ++ j ∷ []) ≤ site_potential earlier + 2 * n

    -- where the item is no segment, nothing that is begun changes
    all_stay : ((asset : Asset) (s : Side) → segment_in asset s j.item ≡ []) → (k : ℕ) → own_potential (earlier ++ j ∷ []) k ≡ own_potential earlier k
    all_stay none k = by (concerns site k j.item) refl where
      by : (mine : Bool) → concerns site k j.item ≡ mine → own_potential (earlier ++ j ∷ []) k ≡ own_potential earlier k
      by true is = ap (potential (asset_of site k)) (part_mine site k earlier j is) ∙ same_potential (asset_of site k) (part site k earlier) j (none (asset_of site k))
      by false is = ap (potential (asset_of site k)) (part_apart site k earlier j is)

    quiet_grows : (n : ℕ) → ((asset : Asset) (s : Side) → segment_in asset s j.item ≡ []) → length (output site to earlier j) ≤ 2 * n → SiteGrows n
    quiet_grows n none l = omega (arith, l, total_same (own_potential earlier) (own_potential (earlier ++ j ∷ [])) count (λ k inside. all_stay none k))

    -- a unit that its own asset's items bear on changes what this asset's fragments may put out
    unit_grows : (k : ℕ) (n : ℕ) → k < count → ((i : ℕ) → concerns site i j.item ≡ nat_eq k i) → output site to earlier j ≡ item_output (asset_of site k) to (part site k earlier) j j.item →
        length (item_output (asset_of site k) to (part site k earlier) j j.item) + potential (asset_of site k) (part site k earlier ++ j ∷ []) ≤ potential (asset_of site k) (part site k earlier) + 2 * n →
        SiteGrows n
    unit_grows k n inside mine out grown =
        let own = ap (potential (asset_of site k)) (part_mine site k earlier j (mine k ∙ eq-eqb k k refl)) in
        let change = total_change (own_potential earlier) (own_potential (earlier ++ j ∷ [])) count k inside
        (λ i other. ap (potential (asset_of site i)) (part_apart site i earlier j (mine i ∙ apart_test k i (λ e. other (sym e))))) in
        omega (arith, grown, own, change, ap length out)

    item_grows_at : (client : Caller) (p : Protocol) (i : Item) → j.item ≡ i → IsItemOf p i → HasFateBy site (item_place site i) client earlier (placed j.moment i) j.fate → SiteGrows (weight i)
    item_grows_at client p (Took s (Adu a)) is of fate =
        quiet_grows (length (spelling a)) (λ x t. ap (segment_in x t) is)
        (omega (
          arith,
          ap (λ i. length (item_output (asset_of site (item_place site i)) to (bears i earlier (part site (item_place site i) earlier)) j i)) is,
          adu_size to s (has_ended side.Controller (part site (place_for site s (Adu a)) earlier)) j.fate a,
        ))
    item_grows_at client p (Took s (Apdu a)) is of fate =
        quiet_grows (length (apdu_spelling a)) (λ x t. ap (segment_in x t) is)
        (omega (arith, ap (λ i. length (item_output (asset_of site (item_place site i)) to (bears i earlier (part site (item_place site i) earlier)) j i)) is, apdu_size to s earlier j.fate a))
    item_grows_at client p (Took s (Frame x)) is of fate =
        let k = place_for site s (Frame x) in
        unit_grows k (length (frame_spelling x)) (place_inside site (is_for s (Frame x))) (λ i. ap (concerns site i) is)
        (ap (λ i. item_output (asset_of site (item_place site i)) to (bears i earlier (part site (item_place site i) earlier)) j i) is
        ∙ ap (item_output (asset_of site k) to (part site k earlier) j) (sym is))
        (item_grows (asset_of site k) (says_at (asset_of site k) (own_at client.address (client.before k)) (part site k earlier) j.moment) to (part site k earlier) j p (Took s (Frame x)) is of fate)
    item_grows_at client p (Ended s rest) is of fate =
        quiet_grows 0 (λ x t. ap (segment_in x t) is)
        (omega (arith, ap (λ i. length (item_output (asset_of site (item_place site i)) to (bears i earlier (part site (item_place site i) earlier)) j i)) is))
    item_grows_at client p (Broke s because) is of fate =
        quiet_grows 0 (λ x t. ap (segment_in x t) is)
        (omega (arith, ap (λ i. length (item_output (asset_of site (item_place site i)) to (bears i earlier (part site (item_place site i) earlier)) j i)) is))

  items_grow : (client : Caller) (to : Side) (p : Protocol) (earlier js : List Judged) → AreItemsOf p (map place_of js) → HaveFates site client earlier js →
      length (in_turn (output site to) earlier js) + site_potential (earlier ++ js) ≤ site_potential earlier + 2 * weights (map place_of js)
  items_grow client to p earlier [] of fates = omega (arith, ap site_potential (append-nil earlier))
  items_grow client to p earlier (j ∷ js) of fates =
      omega (
        arith,
        item_grows_at to earlier j client p j.item refl of.0 fates.0,
        items_grow client to p (earlier ++ j ∷ []) js of.1 fates.1,
        length-append (output site to earlier j) (in_turn (output site to) (earlier ++ j ∷ []) js),
        ap site_potential (append_assoc earlier (j ∷ []) js),
      )

  -- where no item is a frame nothing is begun
  no_frame : (p : Protocol) → p ≢ protocol.Dnp3 → (i : Item) → IsItemOf p i → (asset : Asset) (s : Side) → segment_in asset s i ≡ []
  no_frame p other (Took t (Adu a)) of asset s = refl
  no_frame p other (Took t (Apdu a)) of asset s = refl
  no_frame protocol.Dnp3 other (Took t (Frame x)) of asset s = absurd (other refl)
  no_frame p other (Took t (Frame x)) of asset s = absurd of.1
  no_frame p other (Ended t rest) of asset s = refl
  no_frame p other (Broke t because) of asset s = refl

  nothing_begun : (p : Protocol) → p ≢ protocol.Dnp3 → (earlier js : List Judged) → AreItemsOf p (map place_of js) → (k : ℕ) → own_potential (earlier ++ js) k ≡ own_potential earlier k
  nothing_begun p other earlier [] of k = ap (λ xs. own_potential xs k) (append-nil earlier)
  nothing_begun p other earlier (j ∷ js) of k =
      ap (λ xs. own_potential xs k) (sym (append_assoc earlier (j ∷ []) js)) ∙ nothing_begun p other (earlier ++ j ∷ []) js of.1 k
      ∙ all_stay side.Client earlier j (no_frame p other j.item of.0) k

  potential_limit : (p : Protocol) → (js : List Judged) → AreItemsOf p (map place_of js) → site_potential js ≤ debt_by p count
  potential_limit protocol.Dnp3 js of = omega (arith, total_most (own_potential js) count (λ k. potential_most (asset_of site k) (part site k js)))
  potential_limit protocol.Modbus js of =
      omega (arith, total_none (own_potential js) count (λ k. nothing_begun protocol.Modbus (λ e. cc e) [] js of k))
  potential_limit protocol.Iec104 js of =
      omega (arith, total_none (own_potential js) count (λ k. nothing_begun protocol.Iec104 (λ e. cc e) [] js of k))

pub grows_little : GrowsLittle
grows_little site client h more js ks to a b =
    let p = site.first.protocol in
    let split = items_split p [] h more b.items b.are_items in
    let same = one_items p (free_unit p) [] h a.items split.0 a.are_items split.2 in
    let f = further site client [] js ks a.dropped b.dropped split.1
    (ap (λ xs. xs ++ split.1) (sym a.are_first ∙ same) ∙ sym split.4 ∙ b.are_first) a.fates b.fates a.goes_on b.goes_on in
    let heavy = all_weight p h more split.1 (λ s. 300) (short_caps p h) split.3 in
    let of = of_front p (map place_of f.0) f.1 (subst (AreItemsOf p) (sym f.3) heavy.1) in
    let first_of = of_front p (map place_of js) a.dropped (subst (AreItemsOf p) a.are_first (all_of p h a.items a.are_items)) in
    let fates = fates_behind site client [] js f.0 (subst (HaveFates site client []) f.2 b.fates) in
    let grown = items_grow site client to p js f.0 of fates in
    let part_ = ap weights (sym f.3) ∙ weights-append (map place_of f.0) f.1 in
    let whole = ap (λ xs. length (outputs site to [] xs)) f.2 ∙ ap length (in_turn-append (output site to) [] js f.0)
    ∙ length-append (outputs site to [] js) (in_turn (output site to) js f.0) in
    omega (arith, whole, grown, part_, heavy.0, potential_limit site p js first_of)
