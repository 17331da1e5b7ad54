-- What goes to the controller is right: units are spelled, and fragments have 2 to 2,048 octets.
use Rattle.std.proofs.Common.{Bool, List, None, Option, Some, [], ap, arith, drop, false, length, map, refl, reverse, subst, suc, sym, true, zero, ℕ, ◌%◌, ◌*◌, ◌++◌, ◌+◌, ◌<◌, ◌∙◌, ◌∷◌, ◌≡◌, ◌≤◌, if◌then◌else◌, nat_eq, nat_le, nat_lt, not, ◌&&◌, ◌^◌}
use Rattle.cf_decode.proofs.Common.{Ack, Addresses, Adu, AllByRecursion, Apdu, ApduValue, Asset, Caller, SiteValue, addresses_of, append-nil, asset_of, bears, concerns, flat_map, flat_map-cons, item_place, own, part, start_behind, Control, Fate, Fragment, Frame, FrameValue, HasItemFate, Info, Item, Judged, Passed, Says, SegmentAnswer, Took, UnitValue, Whole, Why, answer_now, completed, cond_both, count_of, data_frame, events_of, fate_of_fragment, fate_of_frame, fate_of_segment, is_data, last_fragment, says_at, stray_of, unit_spelling, units_from, units_of, user_again, user_of}
use Rattle.cf_decode.specs.Dnp3.{passed_by_frame}
use Rattle.cf_decode.specs.Iec104.{acks, passed_by_apdu}
use Rattle.cf_decode.specs.Passed.{passed, passed_by, passed_now}
use Rattle.cf_decode.specs.Received.{has_segment}
use Rattle.cf_dnplink.proofs.Frames.{user_is}
use Rattle.cf_dnplink.specs.LinkFrame.{SpellsFrame}
use Rattle.cf_dnptrans.specs.Passing.{IsSent}
use Rattle.cf_dnptrans.specs.Segments.{first_segments, octet_of, segment_of}
use Rattle.cf_dnptrans.specs.Transport.{fitting, is_first, is_linked, octets_of, since_first}
use Rattle.cf_lane.proofs.Growth.{AreItemsOf, IsItemOf, all_of, of_front}
use Rattle.cf_lane.specs.Dnp3.{has_addresses, has_right_direction, is_none, is_status, segment_in, segments_of as lane_segments}
use Rattle.cf_lane.specs.Fate.{HaveFates}
use Rattle.cf_lane.specs.Follows.{AreJudged}
use Rattle.cf_lane.specs.History.{Element, is_side}
use Rattle.cf_lane.specs.Iec104.{info_number, renumbered}
use Rattle.cf_lane.specs.Item.{AreItems}
use Rattle.cf_lane.specs.Parts.{with_if}
use Rattle.cf_lane.specs.Judged.{goes_on, in_turn, place_of}
use Rattle.cf_lane.specs.Unit.{SpellsUnit}
use Rattle.cf_modbus.specs.Adu.{SpellsAdu}
use Rattle.cf_policy.specs.declared.Protocol.{Protocol}
use Rattle.cf_renumber.specs.Counts.{client_translated, last_told}
use Rattle.cf_view.proofs.OctetLists.{IsOctets-append, IsOctets-drop, IsOctets-take, IsOctets-zeros}
use Rattle.cf_view.specs.Octets.{IsOctets}
use Rattle.std.proofs.lemmas.Bool.Decides.{nat_tests}
use Rattle.std.proofs.lemmas.Bool.{and_parts, eqb-true, leb-true, ltb-false}
use Rattle.std.proofs.lemmas.Grind.{flat_map-append}
use Rattle.std.proofs.lemmas.Option.{same_Some}
use Rattle.std.proofs.lemmas.List.{length-take, map-append, reverse-append}
use Rattle.cf_audit.specs.declared.line.Why.TheVariants as why
use Rattle.cf_apci.specs.Apdu as apci
use Rattle.cf_dnplink.specs.LinkFrame as link
use Rattle.cf_dnptrans.specs.declared.assembly.SegmentAnswer.TheVariants as answers
use Rattle.cf_lane.specs.declared.fate.Fate.TheVariants as fate
use Rattle.cf_policy.specs.declared.Protocol.TheVariants as protocol
use Rattle.cf_view.specs.declared.Side.TheVariants as side

pub all-append : {A : Type 0} (P : A → Type 0) (xs ys : List A) → AllByRecursion P xs → AllByRecursion P ys → AllByRecursion P (xs ++ ys)
all-append P [] ys a b = b
all-append P (x ∷ xs) ys a b = (a.0, all-append P xs ys a.1 b)

-- a unit that some octets are is spelled
spelled_again : (p : Protocol) (u : UnitValue) (xs : List ℕ) → SpellsUnit p u xs → SpellsUnit p u (unit_spelling u)
spelled_again protocol.Modbus (Adu a) xs s = subst (SpellsAdu a) s.spelled s
spelled_again protocol.Dnp3 (Frame x) xs s =
    subst (SpellsFrame x) (s.spelled ∙ ap (λ user. link.spelling x.control x.dest x.source user) (sym (user_is x (xs, s)))) s
spelled_again protocol.Iec104 (Apdu a) xs s = record { fits = s.fits; spelled = refl }
spelled_again _ _ xs s = absurd s

module _ (p : Protocol) where
  spelled_frame : (x : FrameValue) → SpellsUnit p (Frame x) (unit_spelling (Frame x)) → (p ≡ protocol.Dnp3) × SpellsFrame x (unit_spelling (Frame x))
  spelled_frame x s = by_protocol p refl s where
    by_protocol : (q : Protocol) → q ≡ p → SpellsUnit q (Frame x) (unit_spelling (Frame x)) → (p ≡ protocol.Dnp3) × SpellsFrame x (unit_spelling (Frame x))
    by_protocol protocol.Dnp3 is s = (sym is, s)
    by_protocol _ is s = absurd s

-- the segments are octets
user_octets : (x : FrameValue) → SpellsFrame x (unit_spelling (Frame x)) → IsOctets (user_of x.blocks)
user_octets x s = subst IsOctets (sym (user_is x (unit_spelling (Frame x), s))) s.user_octets

since_octets : (segments : List (List ℕ)) → AllByRecursion IsOctets segments → AllByRecursion IsOctets (since_first segments)
since_octets [] a = tt
since_octets ([] ∷ earlier) a = since_octets earlier a.1
since_octets ((o ∷ os) ∷ earlier) a =
    cond_both (is_first (o ∷ os)) ((o ∷ os) ∷ []) ((o ∷ os) ∷ since_first earlier) (AllByRecursion IsOctets) (λ first. (a.0, tt)) (λ later. (a.0, since_octets earlier a.1))

put_octets : (run : List (List ℕ)) → AllByRecursion IsOctets run → IsOctets (octets_of run)
put_octets [] a = IsOctets-zeros 0
put_octets (s ∷ earlier) a = IsOctets-append (octets_of earlier) (drop 1 s) (put_octets earlier a.1) (IsOctets-drop s 1 a.0)

if_some : (b : Bool) (o : Option (List ℕ)) (x : List ℕ) → (if b then o else None) ≡ Some x → (b ≡ true) × (o ≡ Some x)
if_some true o x e = (refl, e)
if_some false o x e = cc

-- a fragment that is put together of octets has at most 2,048
fragment_fits : (segments : List (List ℕ)) (octets : List ℕ) → AllByRecursion IsOctets segments → last_fragment segments ≡ Some octets → (length octets ≤ 2048) × IsOctets octets
fragment_fits segments octets all e =
    let run = since_first segments in
    let linked = if_some (is_linked run) (fitting (octets_of run)) octets e in
    let fits = if_some (nat_le (length (octets_of run)) 2048) (Some (octets_of run)) octets linked.1 in
    let same = same_Some (octets_of run) octets fits.1 in (
      omega (arith, leb-true (length (octets_of run)) 2048 fits.0, ap length same),
      subst IsOctets same (put_octets run (since_octets segments all)),
    )

-- the data frames between two addresses can be spelled
pub record IsMaster (p : Protocol) (to : Addresses) : Type 0 where
  pub dnp3 : p ≡ protocol.Dnp3
  pub station : to.station < 2 ^ 16
  pub master : to.master < 2 ^ 16

module _ (p : Protocol) where
  -- what goes to the controller is right
  abbrev pub IsRight : Passed → Type 0
  IsRight (Whole u) = (has_segment u ≡ false) × SpellsUnit p u (unit_spelling u)
  IsRight (Fragment to octets) = IsSent octets × IsOctets octets × IsMaster p to

  abbrev pub AreRight : List Passed → Type 0
  AreRight items = AllByRecursion IsRight items

  right_if : (b : Bool) (i : Passed) → IsRight i → AreRight (if b then i ∷ [] else [])
  right_if true i r = (r, tt)
  right_if false i r = tt

  -- IEC 60870-5-104
  by_number : (q : Protocol) → q ≡ p → (a : ApduValue) → SpellsUnit q (Apdu a) (unit_spelling (Apdu a)) → (b : ApduValue) → (apci.Fits a → apci.Fits b) → IsRight (Whole (Apdu b))
  by_number protocol.Iec104 is a s b to = (refl, subst (λ q. SpellsUnit q (Apdu b) (unit_spelling (Apdu b))) is (record { fits = to s.fits; spelled = refl }))
  by_number _ is a s b to = absurd s

  fits_renumbered : (earlier : List Judged) (a : ApduValue) → apci.Fits a → apci.Fits (renumbered side.Controller earlier a)
  fits_renumbered earlier (Info send receive asdu) f = (omega arith, omega arith, f.2, f.3)
  fits_renumbered earlier (Ack receive) f = omega arith
  fits_renumbered earlier (Control octet) f = f

  right_owed : (q : Protocol) → q ≡ p → (a : ApduValue) → SpellsUnit q (Apdu a) (unit_spelling (Apdu a)) → (b : Bool) (n : ℕ) → AreRight (acks (if b then Some (n % 32768) else None))
  right_owed q is a s true n = (by_number q is a s (Ack (n % 32768)) (λ fits. omega arith), tt)
  right_owed q is a s false n = tt

  right_apdu : (earlier : List Judged) (f : Fate) (a : ApduValue) → SpellsUnit p (Apdu a) (unit_spelling (Apdu a)) → AreRight (passed_by_apdu earlier f a)
  right_apdu earlier fate.Carried a s = (by_number p refl a s (renumbered side.Controller earlier a) (fits_renumbered earlier a), tt)
  right_apdu earlier (fate.Admitted used) a s = (by_number p refl a s (renumbered side.Controller earlier a) (fits_renumbered earlier a), tt)
  right_apdu earlier (fate.Refused refusal) a s =
      right_owed p refl a s (nat_lt (last_told (events_of earlier)) (client_translated (events_of earlier) (info_number a))) (client_translated (events_of earlier) (info_number a))
  right_apdu earlier _ a s = tt

  -- DNP3
  module _ (asset : Asset) (says : Says) (earlier : List Judged) (x : FrameValue) (s : SpellsFrame x (unit_spelling (Frame x))) (dnp3 : p ≡ protocol.Dnp3) where
    abbrev to : Addresses
    to = addresses_of asset

    abbrev Goes : Fate → List (List ℕ) → Type 0
    Goes f whole = AreRight (if goes_on f then map (Fragment to) whole else [])

    by_length : (octets : List ℕ) (short : Bool) → nat_lt (length octets) 2 ≡ short → length octets ≤ 2048 → IsOctets octets → IsMaster p to →
        Goes (if short then fate.Stray why.Short else fate_of_fragment asset says side.Client octets) (octets ∷ [])
    by_length octets true is most o m = tt
    by_length octets false is most o m =
        right_if (goes_on (fate_of_fragment asset says side.Client octets)) (Fragment to octets) ((ltb-false (length octets) 2 is, most), o, m)

    by_segment : (answer : SegmentAnswer) (last : Option (List ℕ)) → ((octets : List ℕ) → last ≡ Some octets → (length octets ≤ 2048) × IsOctets octets) → IsMaster p to →
        Goes (fate_of_segment asset says side.Client answer (completed answer last)) (completed answer last)
    by_segment answers.Whole (Some octets) fits m =
        let f = fits octets refl in by_length octets (nat_lt (length octets) 2) refl f.0 f.1 m
    by_segment _ _ fits m = tt

    addressed : (a b : Bool) (o : Option Why) → (if not a then Some why.Address else o) ≡ None → a ≡ true
    addressed true b o e = refl
    addressed false b o e = cc

    is_master : stray_of asset side.Client x ≡ None → IsMaster p to
    is_master none =
        let here = addressed (has_addresses asset side.Client x) true (if not (has_right_direction side.Client x) then Some why.Direction else (if is_data x then None else (if is_status x then None else Some why.Code))) none in
        let are = and_parts (nat_eq x.dest asset.station) (nat_eq x.source asset.master) here in
        let d = s.dest in
        let o = s.source in
        record {
          dnp3 = dnp3;
          station = omega (arith, eqb-true x.dest asset.station are.0, d);
          master = omega (arith, eqb-true x.source asset.master are.1, o);
        }

    module _ (all : AllByRecursion IsOctets (lane_segments asset side.Client earlier)) where
      abbrev run : List (List ℕ)
      run = user_of x.blocks ∷ lane_segments asset side.Client earlier

      abbrev answer : SegmentAnswer
      answer = answer_now asset side.Client earlier x

      by_data : (d : Bool) → is_data x ≡ d → stray_of asset side.Client x ≡ None →
          AreRight (if goes_on (if d then fate_of_segment asset says side.Client answer (completed answer (last_fragment run)) else fate.Carried)
          then (if d then map (Fragment to) (completed answer (last_fragment run)) else Whole (Frame x) ∷ []) else [])
      by_data true is none = by_segment answer (last_fragment run) (λ octets e. fragment_fits run octets (user_octets x s, all) e) (is_master none)
      by_data false is none = ((is, subst (λ q. SpellsUnit q (Frame x) (unit_spelling (Frame x))) (sym dnp3) s), tt)

      by_stray : (o : Option Why) → stray_of asset side.Client x ≡ o → AreRight (passed_by_frame asset earlier (fate_of_frame asset says side.Client earlier x o) x)
      by_stray None is = by_data (is_data x) refl is
      by_stray (Some because) is = tt

      right_frame : (f : Fate) → f ≡ fate_of_frame asset says side.Client earlier x (stray_of asset side.Client x) → AreRight (passed_by_frame asset earlier f x)
      right_frame f is = subst (λ f. AreRight (passed_by_frame asset earlier f x)) (sym is) (by_stray (stray_of asset side.Client x) refl)

  right_item : (asset : Asset) (says : Says) (earlier : List Judged) (j : Judged) (i : Item) → AllByRecursion IsOctets (lane_segments asset side.Client earlier) → IsItemOf p i →
      HasItemFate asset says earlier i j.fate → AreRight (passed_by asset earlier j i)
  right_item asset says earlier j (Took side.Client (Adu a)) all s has = right_if (goes_on j.fate) (Whole (Adu a)) (refl, spelled_again p (Adu a) s.0 s.1)
  right_item asset says earlier j (Took side.Client (Frame x)) all s has =
      let spelled = spelled_frame p x (spelled_again p (Frame x) s.0 s.1) in right_frame asset says earlier x spelled.1 spelled.0 all j.fate has
  right_item asset says earlier j (Took side.Client (Apdu a)) all s has = right_apdu earlier j.fate a (spelled_again p (Apdu a) s.0 s.1)
  right_item asset says earlier j _ all s has = tt

  segment_octets : (asset : Asset) (i : Item) → IsItemOf p i → AllByRecursion IsOctets (segment_in asset side.Client i)
  segment_octets asset (Took t (Frame x)) s =
      cond_both (is_side side.Client t && (is_none (stray_of asset t x) && is_data x)) (user_of x.blocks ∷ []) [] (AllByRecursion IsOctets) (λ taken. (user_octets x (spelled_frame p x (spelled_again p (Frame x) s.0 s.1)).1, tt)) (λ left. tt)
  segment_octets asset _ s = tt

  -- the items are of the protocol
  abbrev AreOf : List Judged → Type 0
  AreOf js = AllByRecursion (λ j. IsItemOf p j.item) js

  are_of : (js : List Judged) → AreItemsOf p (map place_of js) → AreOf js
  are_of [] a = tt
  are_of (j ∷ js) a = (a.0, are_of js a.1)

  of_if : (b : Bool) (j : Judged) (js : List Judged) → IsItemOf p j.item → AreOf js → AreOf (with_if b j js)
  of_if true j js one all = (one, all)
  of_if false j js one all = all

  part_of : (site : SiteValue) (k : ℕ) (js : List Judged) → AreOf js → AreOf (part site k js)
  part_of site k [] a = tt
  part_of site k (j ∷ js) a = of_if (concerns site k j.item) j (part site k js) a.0 (part_of site k js a.1)

  bearing_of : (site : SiteValue) (k : ℕ) (i : Item) (js : List Judged) → AreOf js → AreOf (bears i js (part site k js))
  bearing_of site k (Took s (Apdu x)) js a = a
  bearing_of site k i js a = part_of site k js a

  -- so their segments are octets
  lane_octets : (asset : Asset) (js : List Judged) → AreOf js → AllByRecursion IsOctets (lane_segments asset side.Client js)
  lane_octets asset [] a = tt
  lane_octets asset (j ∷ js) a =
      let own = segment_in asset side.Client j.item in
      let put = λ (i : Judged). segment_in asset side.Client i.item in
      subst (AllByRecursion IsOctets)
      (sym (ap (flat_map put) (reverse-append (j ∷ []) js) ∙ flat_map-append put (reverse js) (j ∷ []) ∙ ap (λ xs. lane_segments asset side.Client js ++ xs) (flat_map-cons put j [] ∙ append-nil own)))
      (all-append IsOctets (lane_segments asset side.Client js) own (lane_octets asset js a.1) (segment_octets asset j.item a.0))

  right_from : (site : SiteValue) (client : Caller) (earlier js : List Judged) → AreOf earlier → AreOf js → HaveFates site client earlier js → AreRight (in_turn (passed_now site) earlier js)
  right_from site client earlier [] all of fates = tt
  right_from site client earlier (j ∷ js) all of fates =
      let k = item_place site j.item in
      let asset = asset_of site k in
      let own_earlier = bears j.item earlier (part site k earlier) in
      all-append IsRight (passed_now site earlier j) (in_turn (passed_now site) (earlier ++ j ∷ []) js)
      (right_item asset (says_at asset (own k client) (part site k earlier) j.moment) own_earlier j j.item (lane_octets asset own_earlier (bearing_of site k j.item earlier all)) of.0 fates.0)
      (right_from site client (earlier ++ j ∷ []) js (all-append (λ i. IsItemOf p i.item) earlier (j ∷ []) all (of.0, tt)) of.1 fates.1)

  pub passed_right : (site : SiteValue) (client : Caller) (h : List Element) (js : List Judged) → site.first.protocol ≡ p → AreJudged site client h js → AreRight (passed site js)
  passed_right site client h js is a =
      right_from site client [] js tt (are_of js (of_front p (map place_of js) a.dropped (subst (AreItemsOf p) a.are_first (all_of p h a.items (subst (λ q. AreItems q [] h a.items) is a.are_items))))) a.fates

  -- the units of what is right are spelled
  abbrev IsSpelled : UnitValue → Type 0
  IsSpelled u = SpellsUnit p u (unit_spelling u)

  octet_small : (len i seq : ℕ) → seq < 64 → octet_of len i seq < 256
  octet_small len i seq h = grind (arith, nat_tests)

  octets_in : (o : List ℕ) (start i : ℕ) → IsOctets o → IsOctets (segment_of o start i)
  octets_in o start i f zero = octet_small (length o) i ((start + i) % 64) (omega arith)
  octets_in o start i f (suc j) = IsOctets-take (drop (249 * i) o) 249 (IsOctets-drop o (249 * i) f) j

  data_right : (to : Addresses) (m : IsMaster p to) (segment : List ℕ) → IsOctets segment → length segment ≤ 250 → IsSpelled (data_frame to segment)
  data_right to m segment o most =
      subst (λ q. SpellsUnit q (data_frame to segment) (unit_spelling (data_frame to segment))) (sym m.dnp3) (record {
        user = segment;
        control = omega arith;
        dest = m.station;
        source = m.master;
        user_octets = o;
        at_most = most;
        blocks = refl;
        spelled = ap (λ user. link.spelling 0xc4 to.station to.master user) (user_again segment);
      })

  segments_right : (to : Addresses) (m : IsMaster p to) (o : List ℕ) (start n : ℕ) → IsOctets o → AllByRecursion IsSpelled (map (data_frame to) (reverse (first_segments o start n)))
  segments_right to m o start zero f = tt
  segments_right to m o start (suc n) f =
      let s = reverse (first_segments o start n) in
      let last = segment_of o start n in
      subst (AllByRecursion IsSpelled) (sym (ap (map (data_frame to)) (reverse-append (last ∷ []) (first_segments o start n)) ∙ map-append (data_frame to) s (last ∷ [])))
      (all-append IsSpelled (map (data_frame to) s) (data_frame to last ∷ []) (segments_right to m o start n f)
      (data_right to m last (octets_in o start n f) (omega (arith, length-take 249 (drop (249 * n) o))), tt))

  one_right : (sent : List Passed) (i : Passed) → IsRight i → AllByRecursion IsSpelled (units_of sent i)
  one_right sent (Whole u) r = (r.1, tt)
  one_right sent (Fragment to o) r = segments_right to r.2 o (start_behind to sent) (count_of (length o)) r.1

  pub units_right : (sent items : List Passed) → AreRight items → AllByRecursion IsSpelled (units_from sent items)
  units_right sent [] all = tt
  units_right sent (i ∷ items) all =
      all-append IsSpelled (units_of sent i) (units_from (sent ++ i ∷ []) items) (one_right sent i all.0) (units_right (sent ++ i ∷ []) items all.1)
