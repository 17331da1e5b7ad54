-- The stream to the controller is the spellings of the units that go there.
use Rattle.std.proofs.Common.{Bool, List, None, Option, Some, [], ap, append_assoc, arith, false, inl, inr, length, map, nat_eq, refl, reverse, subst, sym, true, ℕ, ◌++◌, ◌+◌, ◌∙◌, ◌∷◌, ◌≡◌, if◌then◌else◌}
use Rattle.cf_decode.proofs.Common.{Ack, Addresses, Adu, AllByRecursion, Apdu, ApduValue, Asset, Caller, Fate, Fragment, Frame, FrameValue, Item, Judged, Passed, SegmentAnswer, Side, SiteValue, Took, UnitValue, Whole, addresses_of, answer_now, append-nil, asset_of, bears, completed, concerns, count_of, data_frame, events_of, flat_map, flat_map-cons, fragment_frames, is_data, item_place, last_fragment, own, part, says_at, start_behind, unit_spelling, units_from, units_of, user_again, user_of}
use Rattle.cf_decode.proofs.Serving.{IsFirstWithOwn, are_same, first_with_own, mine_or_silent, not_mine, place_between, same_again, served}
use Rattle.cf_decode.specs.Iec104.{acks, passed_by_apdu}
use Rattle.cf_decode.specs.Laws.{StreamIsSpelled}
use Rattle.cf_decode.specs.Passed.{passed, passed_by, passed_now}
use Rattle.cf_decode.specs.Received.{addresses_in}
use Rattle.cf_decode.specs.Units.{same_addresses, segment_count}
use Rattle.cf_dnptrans.specs.Segments.{segments_of}
use Rattle.cf_lane.proofs.Earlier.{in_turn-more, segments_into-more}
use Rattle.cf_lane.proofs.Parting.{part_apart, part_mine}
use Rattle.cf_lane.specs.Dnp3.{data_octets, fragment_in, frames_at, segments_into, segments_of as lane_segments, whole_now}
use Rattle.cf_lane.specs.Fate.{HasFate, HaveFates}
use Rattle.cf_lane.specs.Iec104.{ack_octets, apdu_output, info_number, renumbered}
use Rattle.cf_lane.specs.Item.{Broke, Ended}
use Rattle.cf_lane.specs.Judged.{goes_on, in_turn, place_of}
use Rattle.cf_lane.specs.Output.{item_output, output}
use Rattle.cf_lane.specs.Site.{place_for}
use Rattle.cf_lane.specs.Unit.{frame_spelling}
use Rattle.cf_renumber.specs.Counts.{owed_ack}
use Rattle.std.proofs.lemmas.Bool.{cases_Bool, eq-eqb, true≢false}
use Rattle.std.proofs.lemmas.Grind.{flat_map-append}
use Rattle.std.proofs.lemmas.List.Sums.{sum_by-append, sum_by-cons}
use Rattle.std.specs.List.{sum_by}
use Rattle.cf_dnplink.specs.LinkFrame as link
use Rattle.cf_dnptrans.specs.declared.assembly.SegmentAnswer.TheVariants as answers
use Rattle.cf_lane.specs.declared.fate.Fate.TheVariants as fate
use Rattle.cf_view.specs.declared.Side.TheVariants as side

-- the octets of units
abbrev pub spellings : List UnitValue → List ℕ
spellings us = flat_map unit_spelling us

abbrev segment_counts : List (List ℕ) → ℕ
segment_counts fragments = sum_by (λ octets. count_of (length octets)) fragments

pub units_from-append : (sent xs ys : List Passed) → units_from sent (xs ++ ys) ≡ units_from sent xs ++ units_from (sent ++ xs) ys
units_from-append sent [] ys = ap (λ before. units_from before ys) (sym (append-nil sent))
units_from-append sent (i ∷ xs) ys =
    ap (λ us. units_of sent i ++ us) (units_from-append (sent ++ i ∷ []) xs ys)
    ∙ sym (append_assoc (units_of sent i) (units_from (sent ++ i ∷ []) xs) (units_from ((sent ++ i ∷ []) ++ xs) ys))
    ∙ ap (λ before. (units_of sent i ++ units_from (sent ++ i ∷ []) xs) ++ units_from before ys) (append_assoc sent (i ∷ []) xs)

pub start_behind-append : (to : Addresses) (xs ys : List Passed) → start_behind to (xs ++ ys) ≡ start_behind to xs + start_behind to ys
start_behind-append to xs ys = sum_by-append (segment_count to) xs ys

-- what goes between two addresses, or is no fragment
abbrev pub IsTo : Addresses → Passed → Type 0
IsTo to (Whole u) = Unit {0}
IsTo to (Fragment a octets) = a ≡ to

none_by : (other to : Addresses) (i : Passed) → IsTo to i → same_addresses to other ≡ false → segment_count other i ≡ 0
none_by other to (Whole u) is apart = refl
none_by other to (Fragment a octets) is apart = ap (λ b. if b then count_of (length octets) else 0) (ap (λ c. same_addresses c other) is ∙ apart)

add_zero : (n : ℕ) → n + 0 ≡ n
add_zero n = omega arith

-- it counts for no other addresses
none_to : (other to : Addresses) (items : List Passed) → AllByRecursion (IsTo to) items → same_addresses to other ≡ false → start_behind other items ≡ 0
none_to other to [] all apart = refl
none_to other to (i ∷ items) all apart =
    omega (arith, sum_by-cons (segment_count other) i items, none_by other to i all.0 apart, none_to other to items all.1 apart)

module _ (asset : Asset) where
  abbrev to : Addresses
  to = addresses_of asset

  data_spelled : (segs : List (List ℕ)) → flat_map (data_octets asset side.Controller) segs ≡ spellings (map (data_frame to) segs)
  data_spelled [] = refl
  data_spelled (s ∷ segs) =
      flat_map-cons (data_octets asset side.Controller) s segs
      ∙ ap (λ user. link.spelling 0xc4 asset.station asset.master user ++ flat_map (data_octets asset side.Controller) segs) (sym (user_again s))
      ∙ ap (λ xs. unit_spelling (data_frame to s) ++ xs) (data_spelled segs)
      ∙ sym (flat_map-cons unit_spelling (data_frame to s) (map (data_frame to) segs))

  -- octets, the fragments among what goes to the asset, and all that goes there, where the next segment has this sequence
  pub record Puts (sent : List Passed) (octets : List ℕ) (fragments : List (List ℕ)) (items : List Passed) : Type 0 where
    pub spelled : octets ≡ spellings (units_from sent items)
    pub counted : start_behind to items ≡ segment_counts fragments
    pub all_to : AllByRecursion (IsTo to) items

  module _ (sent : List Passed) where
    nothing : Puts sent [] [] []
    nothing = record { spelled = refl; counted = refl; all_to = tt }

    one : (u : UnitValue) → Puts sent (unit_spelling u) [] (Whole u ∷ [])
    one u = record { spelled = sym (flat_map-cons unit_spelling u [] ∙ append-nil (unit_spelling u)); counted = refl; all_to = (tt, tt) }

    one_if : (b : Bool) (u : UnitValue) → Puts sent (if b then unit_spelling u else []) [] (if b then Whole u ∷ [] else [])
    one_if true u = one u
    one_if false u = nothing

    ack : (o : Option ℕ) → Puts sent (ack_octets o) [] (acks o)
    ack None = nothing
    ack (Some receive) = one (Apdu (Ack receive))

    by_apdu : (earlier : List Judged) (f : Fate) (a : ApduValue) → Puts sent (apdu_output side.Controller earlier f side.Client a) [] (passed_by_apdu earlier f a)
    by_apdu earlier fate.Carried a = one (Apdu (renumbered side.Controller earlier a))
    by_apdu earlier (fate.Admitted used) a = one (Apdu (renumbered side.Controller earlier a))
    by_apdu earlier (fate.Refused refusal) a = ack (owed_ack (events_of earlier) (info_number a))
    by_apdu earlier _ a = nothing

    abbrev start : ℕ
    start = start_behind to sent

    fragment : (octets : List ℕ) → Puts sent (flat_map (frames_at asset side.Controller start) (octets ∷ [])) (octets ∷ []) (Fragment to octets ∷ [])
    fragment octets = record {
      spelled = flat_map-cons (frames_at asset side.Controller start) octets [] ∙ append-nil (frames_at asset side.Controller start octets)
          ∙ data_spelled (reverse (segments_of octets start)) ∙ ap spellings (sym (append-nil (map (data_frame to) (reverse (segments_of octets start)))));
      counted = ap (λ b. 0 + (if b then count_of (length octets) else 0)) (same_again to);
      all_to = (refl, tt);
    }

    fragments : (answer : SegmentAnswer) (last : Option (List ℕ)) →
        Puts sent (flat_map (frames_at asset side.Controller start) (completed answer last)) (completed answer last) (map (Fragment to) (completed answer last))
    fragments answers.Whole (Some octets) = fragment octets
    fragments _ _ = nothing

    abbrev fragments_if : (goes data_is : Bool) → List (List ℕ) → List (List ℕ)
    fragments_if goes data_is whole = if data_is then (if goes then whole else []) else []

    -- where it goes, the next segment has the sequence of its asset
    by_frame : (n : ℕ) (goes data_is : Bool) (x : FrameValue) (answer : SegmentAnswer) (last : Option (List ℕ)) → (goes ≡ true → start ≡ n) →
        Puts sent (if data_is then flat_map (frames_at asset side.Controller n) (fragments_if goes data_is (completed answer last)) else (if goes then frame_spelling x else []))
        (fragments_if goes data_is (completed answer last)) (if goes then (if data_is then map (Fragment to) (completed answer last) else Whole (Frame x) ∷ []) else [])
    by_frame n true true x answer last ready =
        subst (λ m. Puts sent (flat_map (frames_at asset side.Controller m) (completed answer last)) (completed answer last) (map (Fragment to) (completed answer last))) (ready refl) (fragments answer last)
    by_frame n true false x answer last ready = one (Frame x)
    by_frame n false true x answer last ready = nothing
    by_frame n false false x answer last ready = nothing

    by_controllers : (n : ℕ) (data_is : Bool) → Puts sent (if data_is then flat_map (frames_at asset side.Controller n) (if data_is then [] else []) else []) (if data_is then [] else []) []
    by_controllers n true = nothing
    by_controllers n false = nothing

  abbrev next_start : List Judged → ℕ
  next_start earlier = segments_into asset side.Controller earlier

  -- a frame of the client that goes on finds the sequence of its asset
  abbrev IsReady : List Passed → List Judged → Judged → Type 0
  IsReady sent earlier j = (x : FrameValue) → j.item ≡ Took side.Client (Frame x) → goes_on j.fate ≡ true → start_behind to sent ≡ next_start earlier

  module _ (sent : List Passed) (earlier : List Judged) (j : Judged) (ready : IsReady sent earlier j) where
    abbrev Item_puts : Item → Type 0
    Item_puts i = Puts sent (item_output asset side.Controller earlier j i) (fragment_in asset side.Controller earlier j i) (passed_by asset earlier j i)

    abbrev frame_put : (s : Side) → FrameValue → List ℕ → Item → List ℕ
    frame_put s x other i = if is_data x then flat_map (fragment_frames asset side.Controller earlier) (fragment_in asset side.Controller earlier j i) else other

    by_item : (i : Item) → j.item ≡ i → Item_puts i
    by_item (Took side.Client (Adu a)) is = one_if sent (goes_on j.fate) (Adu a)
    by_item (Took side.Client (Apdu a)) is = by_apdu sent earlier j.fate a
    by_item (Took side.Client (Frame x)) is =
        let here = Took side.Client (Frame x) in
        subst (λ octets. Puts sent octets (fragment_in asset side.Controller earlier j here) (passed_by asset earlier j here))
        (ap (frame_put side.Client x (if goes_on j.fate then frame_spelling x else [])) (sym is))
        (by_frame sent (next_start earlier) (goes_on j.fate) (is_data x) x (answer_now asset side.Client earlier x) (last_fragment (user_of x.blocks ∷ lane_segments asset side.Client earlier)) (ready x is))
    by_item (Took side.Controller (Frame x)) is =
        let here = Took side.Controller (Frame x) in
        subst (λ octets. Puts sent octets (fragment_in asset side.Controller earlier j here) [])
        (ap (frame_put side.Controller x []) (sym is))
        (by_controllers sent (next_start earlier) (is_data x))
    by_item _ is = nothing sent

    pub item_puts : Item_puts j.item
    item_puts = by_item j.item refl

module _ (site : SiteValue) (client : Caller) where
  abbrev asset_by : Judged → Asset
  asset_by j = asset_of site (item_place site j.item)

  abbrev earlier_by : List Judged → Judged → List Judged
  earlier_by earlier j = bears j.item earlier (part site (item_place site j.item) earlier)

  abbrev sent_by : List Judged → List Passed
  sent_by earlier = passed site earlier

  -- between the addresses of each asset that is the first with them, as many segments went as its own items put there
  abbrev Counts : List Judged → Type 0
  Counts earlier =
      (k : ℕ) → IsFirstWithOwn site k → start_behind (addresses_of (asset_of site k)) (sent_by earlier) ≡ segments_into (asset_of site k) side.Controller (part site k earlier)

  -- a frame that goes on has the addresses of its asset, which is the first with them
  pub frame_served : (earlier : List Judged) (j : Judged) → HasFate site client earlier (place_of j) j.fate → (x : FrameValue) → j.item ≡ Took side.Client (Frame x) → goes_on j.fate ≡ true →
      (addresses_in x ≡ addresses_of (asset_by j)) × IsFirstWithOwn site (item_place site j.item)
  frame_served earlier j has x is goes =
      let here = subst (λ i. HasFate site client earlier (record { moment = j.moment; item = i }) j.fate) is has in
      let k = place_for site side.Client (Frame x) in
      let own_addresses : addresses_in x ≡ addresses_of (asset_of site k) =
      served (asset_of site k) (says_at (asset_of site k) (own k client) (part site k earlier) j.moment) (part site k earlier) x j.fate here goes in
      subst (λ i. (addresses_in x ≡ addresses_of (asset_of site (item_place site i))) × IsFirstWithOwn site (item_place site i)) (sym is) (own_addresses, first_with_own site x own_addresses)

  ready : (earlier : List Judged) (j : Judged) → HasFate site client earlier (place_of j) j.fate → Counts earlier → IsReady (asset_by j) (sent_by earlier) (earlier_by earlier j) j
  ready earlier j has counts x is goes =
      counts (item_place site j.item) (frame_served earlier j has x is goes).1
      ∙ ap (λ i. segments_into (asset_by j) side.Controller (bears i earlier (part site (item_place site j.item) earlier))) (sym is)

  puts : (earlier : List Judged) (j : Judged) → HasFate site client earlier (place_of j) j.fate → Counts earlier →
      Puts (asset_by j) (sent_by earlier) (output site side.Controller earlier j) (fragment_in (asset_by j) side.Controller (earlier_by earlier j) j j.item) (passed_now site earlier j)
  puts earlier j has counts = item_puts (asset_by j) (sent_by earlier) (earlier_by earlier j) j (ready earlier j has counts)

  -- the fragments of an item are those that it has among its asset's own items
  own_fragments : (asset : Asset) (k : ℕ) (earlier : List Judged) (j : Judged) (i : Item) →
      fragment_in asset side.Controller (bears i earlier (part site k earlier)) j i ≡ fragment_in asset side.Controller (part site k earlier) j i
  own_fragments asset k earlier j (Took s (Adu a)) = refl
  own_fragments asset k earlier j (Took s (Frame x)) = refl
  own_fragments asset k earlier j (Took s (Apdu a)) = refl
  own_fragments asset k earlier j (Ended s rest) = refl
  own_fragments asset k earlier j (Broke s because) = refl

  -- what is no fragment counts for no addresses
  module _ (other : Addresses) where
    unit_if : (b : Bool) (u : UnitValue) → start_behind other (if b then Whole u ∷ [] else []) ≡ 0
    unit_if true u = refl
    unit_if false u = refl

    no_acks : (o : Option ℕ) → start_behind other (acks o) ≡ 0
    no_acks None = refl
    no_acks (Some receive) = refl

    no_apdu : (earlier : List Judged) (f : Fate) (a : ApduValue) → start_behind other (passed_by_apdu earlier f a) ≡ 0
    no_apdu earlier fate.Carried a = refl
    no_apdu earlier (fate.Admitted used) a = refl
    no_apdu earlier (fate.Refused refusal) a = no_acks (owed_ack (events_of earlier) (info_number a))
    no_apdu earlier _ a = refl

    frame_if : (asset : Asset) (earlier : List Judged) (x : FrameValue) (f : Fate) → (goes_on f ≡ true → ⊥) → start_behind other (passed_by asset earlier (record { moment = 0; item = Took side.Client (Frame x); fate = f }) (Took side.Client (Frame x))) ≡ 0
    frame_if asset earlier x f never = by (goes_on f) refl where
      by : (b : Bool) → goes_on f ≡ b → start_behind other (if b then (if is_data x then map (Fragment (addresses_of asset)) (whole_now asset side.Client earlier x) else Whole (Frame x) ∷ []) else []) ≡ 0
      by true is = absurd (never is)
      by false is = refl

    nothing_by : (asset : Asset) (earlier : List Judged) (j : Judged) (i : Item) → ((x : FrameValue) → i ≡ Took side.Client (Frame x) → goes_on j.fate ≡ true → ⊥) → start_behind other (passed_by asset earlier j i) ≡ 0
    nothing_by asset earlier j (Took side.Client (Adu a)) never = unit_if (goes_on j.fate) (Adu a)
    nothing_by asset earlier j (Took side.Client (Frame x)) never = frame_if asset earlier x j.fate (never x refl)
    nothing_by asset earlier j (Took side.Client (Apdu a)) never = no_apdu earlier j.fate a
    nothing_by asset earlier j _ never = refl

  -- an item of another asset brings nothing between the addresses of this one
  apart_by : (earlier : List Judged) (j : Judged) → HasFate site client earlier (place_of j) j.fate → AllByRecursion (IsTo (addresses_of (asset_by j))) (passed_now site earlier j) → (k : ℕ) → IsFirstWithOwn site k →
      nat_eq (item_place site j.item) k ≡ false → start_behind (addresses_of (asset_of site k)) (passed_now site earlier j) ≡ 0
  apart_by earlier j has all k first apart =
      let other = addresses_of (asset_of site k) in
      let to = addresses_of (asset_by j) in
      elim (cases_Bool (same_addresses to other)) [
        | inl same ↦ nothing_by other (asset_by j) (earlier_by earlier j) j j.item (λ x is goes.
            (let place : item_place site j.item ≡ k = sym (frame_served earlier j has x is goes).1 ∙ ap (place_between site) (are_same to other same) ∙ first in
            true≢false (sym (eq-eqb (item_place site j.item) k place) ∙ apart)))
        | inr differs ↦ none_to other to (passed_now site earlier j) all differs
      ]

  -- what an item that concerns an asset brings between its addresses
  brings : (earlier : List Judged) (j : Judged) → HasFate site client earlier (place_of j) j.fate → Counts earlier → (k : ℕ) → concerns site k j.item ≡ true →
      start_behind (addresses_of (asset_of site k)) (passed_now site earlier j) ≡ segment_counts (fragment_in (asset_of site k) side.Controller (part site k earlier) j j.item)
  brings earlier j has counts k mine =
      elim (mine_or_silent site k j.item mine) [
        | inl is ↦
            (let p = puts earlier j has counts in
            subst (λ n. start_behind (addresses_of (asset_of site n)) (passed_now site earlier j) ≡ segment_counts (fragment_in (asset_of site n) side.Controller (part site n earlier) j j.item)) is
            (p.counted ∙ ap segment_counts (own_fragments (asset_by j) (item_place site j.item) earlier j j.item)))
        | inr silent ↦
            ap (start_behind (addresses_of (asset_of site k))) (silent (asset_by j) (earlier_by earlier j) j).nothing
            ∙ ap segment_counts (sym (silent (asset_of site k) (part site k earlier) j).no_fragment)
      ]

  -- an item more
  counts_more : (earlier : List Judged) (j : Judged) → HasFate site client earlier (place_of j) j.fate → Counts earlier → Counts (earlier ++ j ∷ [])
  counts_more earlier j has counts k first =
      let asset = asset_of site k in
      let to = addresses_of asset in
      let now = passed_now site earlier j in
      let more : start_behind to (sent_by (earlier ++ j ∷ [])) ≡ start_behind to (sent_by earlier) + start_behind to now =
      ap (start_behind to) (in_turn-more (passed_now site) earlier j) ∙ start_behind-append to (sent_by earlier) now in
      elim (cases_Bool (concerns site k j.item)) [
        | inl mine ↦
            (more ∙ ap (λ n. n + start_behind to now) (counts k first)
            ∙ ap (λ n. segments_into asset side.Controller (part site k earlier) + n) (brings earlier j has counts k mine)
            ∙ sym (segments_into-more asset side.Controller (part site k earlier) j)
            ∙ ap (segments_into asset side.Controller) (sym (part_mine site k earlier j mine)))
        | inr apart ↦
            (more ∙ ap (λ n. start_behind to (sent_by earlier) + n) (apart_by earlier j has (puts earlier j has counts).all_to k first (not_mine site k j.item apart))
            ∙ add_zero (start_behind to (sent_by earlier)) ∙ counts k first
            ∙ ap (segments_into asset side.Controller) (sym (part_apart site k earlier j apart)))
      ]

  spelled_from : (earlier js : List Judged) → HaveFates site client earlier js → Counts earlier →
      in_turn (output site side.Controller) earlier js ≡ spellings (units_from (sent_by earlier) (in_turn (passed_now site) earlier js))
  spelled_from earlier [] fates counts = refl
  spelled_from earlier (j ∷ js) fates counts =
      let p = puts earlier j fates.0 counts in
      let behind = earlier ++ j ∷ [] in
      let rest = in_turn (passed_now site) behind js in
      let sent = sent_by earlier in
      let now = passed_now site earlier j in
      ap (λ xs. xs ++ in_turn (output site side.Controller) behind js) p.spelled
      ∙ ap (λ xs. spellings (units_from sent now) ++ xs) (spelled_from behind js fates.1 (counts_more earlier j fates.0 counts))
      ∙ ap (λ before. spellings (units_from sent now) ++ spellings (units_from before rest)) (in_turn-more (passed_now site) earlier j)
      ∙ sym (flat_map-append unit_spelling (units_from sent now) (units_from (sent ++ now) rest))
      ∙ ap spellings (sym (units_from-append sent now rest))

pub stream_is_spelled : StreamIsSpelled
stream_is_spelled site client h js a = spelled_from site client [] js a.fates (λ k first. refl)
