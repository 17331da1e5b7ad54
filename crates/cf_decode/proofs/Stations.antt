-- What the units with the station of an asset make is a beginning of what its rules admit.
use Rattle.std.proofs.Common.{Bool, List, None, Option, Some, [], ap, arith, false, inl, inr, length, map, nat_eq, nat_lt, option_map, refl, subst, suc, sym, true, zero, ℕ, ◌&&◌, ◌++◌, ◌<◌, ◌∙◌, ◌∷◌, ◌≡◌, ◌≤◌, get_or, if◌then◌else◌}
use Rattle.cf_decode.proofs.Common.{Ack, Addresses, Adu, Apdu, ApduValue, Asset, Caller, Control, Fate, Fragment, Frame, FrameValue, HasItemFate, Info, Item, Judged, Passed, Says, SiteValue, Took, UnitValue, Whole, Why, addresses_of, answer_now, append-nil, asset_of, assets_of, bears, completed, concerns, cond_both, events_of, fate_of_frame, flat_map, flat_map-cons, is_data, item_place, last_fragment, own, part, says_at, stray_of, user_of}
use Rattle.cf_decode.proofs.Commands.{decided}
use Rattle.cf_decode.proofs.Making.{PutsTogether, front_of}
use Rattle.cf_lane.specs.Laws.{UnitsArePrefixFree}
use Rattle.cf_decode.proofs.Serving.{are_same, mine_or_silent, not_mine, same_again}
use Rattle.cf_decode.specs.Commands.{Allows, Command, IsDecided, OfDnp3, OfIec104, OfModbus, commands_by, fragment_commands, frame_commands, info_commands, whole_commands}
use Rattle.cf_decode.specs.Dnp3.{passed_by_frame}
use Rattle.cf_decode.specs.Iec104.{acks, passed_by_apdu}
use Rattle.cf_decode.specs.Passed.{passed_by, passed_now}
use Rattle.cf_decode.specs.Received.{addresses_in, completed_by, is_between, made_of, received, segment_in, segments_in}
use Rattle.cf_decode.specs.Stations.{Admits, AdmitsNext, HasOwnStations, StationsDecode, command_in, own_commands, units_to}
use Rattle.cf_decode.specs.Units.{same_addresses}
use Rattle.cf_asdu.specs.Asdu.{station_of}
use Rattle.cf_audit.specs.declared.line.CutReason.{CutReason}
use Rattle.cf_lane.proofs.Parting.{place_inside}
use Rattle.cf_lane.specs.Dnp3.{is_none, segments_of as lane_segments, whole_now}
use Rattle.cf_lane.specs.Fate.{HasFate, HaveFates}
use Rattle.cf_lane.specs.Iec104.{fate_of_asdu, info_number, or_cut, renumbered}
use Rattle.cf_lane.specs.Item.{Broke, Ended}
use Rattle.cf_lane.specs.Judged.{goes_on, in_turn, is_admitted, is_refused, place_of}
use Rattle.cf_lane.specs.Numbers.{info_cut}
use Rattle.cf_lane.specs.Passes.{confirms}
use Rattle.cf_dnpobj.specs.Fragment.{read_octets}
use Rattle.cf_lane.specs.Site.{find_place, is_for, or_first, place_for}
use Rattle.cf_renumber.specs.Counts.{owed_ack}
use Rattle.std.proofs.lemmas.Bool.{and_parts, cases_Bool, cases_lt, eq-eqb, eqb-true, true≢false}
use Rattle.std.proofs.lemmas.Bool.Decides.{nat_tests}
use Rattle.std.proofs.lemmas.Grind.{flat_map-append}
use Rattle.cf_dnptrans.specs.declared.assembly.SegmentAnswer.{SegmentAnswer}
use Rattle.cf_dnptrans.specs.declared.assembly.SegmentAnswer.TheVariants as answers
use Rattle.cf_lane.specs.declared.fate.Fate.TheVariants as fate
use Rattle.cf_view.specs.declared.Side.TheVariants as side

-- ---- stations that differ

own_station : (site : SiteValue) → HasOwnStations site → (i k : ℕ) → i < length (assets_of site) → k < length (assets_of site) →
    (asset_of site i).station ≡ (asset_of site k).station → i ≡ k
own_station site differ i k inside_i inside_k same = elim (cases_lt i k) [
  | inl before ↦ absurd (differ i k site.first before inside_k same)
  | inr not_before ↦ elim (cases_lt k i) [
    | inl behind ↦ absurd (differ k i site.first behind inside_i (sym same))
    | inr not_behind ↦ omega (arith, not_before, not_behind)
  ]
]

found_next : (passes : Asset → Bool) (a : Asset) (assets : List Asset) (b : Bool) (o : Option ℕ) (m : ℕ) (d : Asset) → passes a ≡ b → ((n : ℕ) → o ≡ Some n → passes (get_or assets n d) ≡ true) →
    (if b then Some 0 else option_map suc o) ≡ Some m → passes (get_or (a ∷ assets) m d) ≡ true
found_next passes a assets true o m d is later e = (let here : 0 ≡ m = cc e in subst (λ n. passes (get_or (a ∷ assets) n d) ≡ true) here is)
found_next passes a assets false None m d is later e = cc
found_next passes a assets false (Some n) m d is later e = (let here : suc n ≡ m = cc e in subst (λ n. passes (get_or (a ∷ assets) n d) ≡ true) here (later n refl))

-- the asset that is found passes
found_passes : (passes : Asset → Bool) (assets : List Asset) (m : ℕ) (d : Asset) → find_place passes assets ≡ Some m → passes (get_or assets m d) ≡ true
found_passes passes [] m d e = cc
found_passes passes (a ∷ assets) m d e = found_next passes a assets (passes a) (find_place passes assets) m d refl (λ n is. found_passes passes assets n d is) e

none_next : (b : Bool) (o : Option ℕ) → (if b then Some 0 else option_map suc o) ≡ None → (b ≡ false) × (o ≡ None)
none_next true o e = cc
none_next false None e = (refl, refl)
none_next false (Some n) e = cc

-- where none is found none passes
none_passes : (passes : Asset → Bool) (assets : List Asset) (k : ℕ) (d : Asset) → k < length assets → find_place passes assets ≡ None → passes (get_or assets k d) ≡ false
none_passes passes [] k d inside e = absurd (omega (arith, inside))
none_passes passes (a ∷ assets) zero d inside e = (none_next (passes a) (find_place passes assets) e).0
none_passes passes (a ∷ assets) (suc k) d inside e = none_passes passes assets k d (omega (arith, inside)) (none_next (passes a) (find_place passes assets) e).1

-- the place of an asset that passes, where all that pass have one station
place_by : (site : SiteValue) → HasOwnStations site → (passes : Asset → Bool) (station k : ℕ) → ((a : Asset) → passes a ≡ true → station ≡ a.station) → k < length (assets_of site) →
    passes (asset_of site k) ≡ true → (o : Option ℕ) → find_place passes (assets_of site) ≡ o → or_first o ≡ k
place_by site differ passes station k known inside is None none = cc (none_passes passes (assets_of site) k site.first inside none, is)
place_by site differ passes station k known inside is (Some m) found =
    own_station site differ m k (subst (λ o. or_first o < length (assets_of site)) found (place_inside site passes)) inside
    (sym (known (asset_of site m) (found_passes passes (assets_of site) m site.first found)) ∙ known (asset_of site k) is)

-- the station of a unit
abbrev unit_station : UnitValue → ℕ
unit_station (Adu a) = a.unit
unit_station (Frame x) = x.dest
unit_station (Apdu (Info send receive asdu)) = station_of asdu
unit_station (Apdu a) = 0

for_station : (u : UnitValue) (a : Asset) → is_for side.Client u a ≡ true → unit_station u ≡ a.station
for_station (Adu x) a e = eqb-true x.unit a.station e
for_station (Frame x) a e = eqb-true x.dest a.station (and_parts (nat_eq x.dest a.station) (nat_eq x.source a.master) e).0
for_station (Apdu (Info send receive asdu)) a e = eqb-true (station_of asdu) a.station (and_parts (nat_lt 8 (length asdu)) (nat_eq (station_of asdu) a.station) e).1
for_station (Apdu (Ack receive)) a e = cc
for_station (Apdu (Control octet)) a e = cc

-- a unit with the station of an asset goes by it
own_place : (site : SiteValue) → HasOwnStations site → (u : UnitValue) (k : ℕ) → k < length (assets_of site) → is_for side.Client u (asset_of site k) ≡ true → place_for site side.Client u ≡ k
own_place site differ u k inside is =
    place_by site differ (is_for side.Client u) (unit_station u) k (for_station u) inside is (find_place (is_for side.Client u) (assets_of site)) refl

-- ---- what units with the station of an asset make is what all make for it

module _ (asset : Asset) where
  abbrev to : Addresses
  to = addresses_of asset

  -- what went to the controller has the station of the asset
  abbrev has_station : Passed → Bool
  has_station (Whole u) = is_for side.Client u asset
  has_station (Fragment a octets) = same_addresses a to

  -- the command for the asset
  abbrev pub command_for : Passed → List Command
  command_for i = if has_station i then command_in i else []

  abbrev pub commands_for : List Passed → List Command
  commands_for items = flat_map command_for items

  abbrev is_own : UnitValue → Bool
  is_own u = is_for side.Client u asset

  and_false : (a b : Bool) → b ≡ false → (a && b) ≡ false
  and_false true b e = e
  and_false false b e = refl

  no_frame_between : (u : UnitValue) → is_own u ≡ false → is_between to u ≡ false
  no_frame_between (Adu a) e = refl
  no_frame_between (Frame x) e = and_false (is_data x) (same_addresses (addresses_in x) to) e
  no_frame_between (Apdu a) e = refl

  -- the segments between its addresses stand in the units with its station
  segments_if : (b : Bool) (u : UnitValue) (us : List UnitValue) → is_own u ≡ b → segments_in to (units_to asset us) ≡ segments_in to us →
      segments_in to (if b then u ∷ units_to asset us else units_to asset us) ≡ segments_in to (u ∷ us)
  segments_if true u us e rest = ap (λ xs. if is_between to u then segment_in u ∷ xs else xs) rest
  segments_if false u us e rest = rest ∙ ap (λ b. if b then segment_in u ∷ segments_in to us else segments_in to us) (sym (no_frame_between u e))

  own_segments : (us : List UnitValue) → segments_in to (units_to asset us) ≡ segments_in to us
  own_segments [] = refl
  own_segments (u ∷ us) = segments_if (is_own u) u us refl (own_segments us)

  fragments_for : (a : Addresses) (b : Bool) → same_addresses a to ≡ b → (whole : List (List ℕ)) →
      commands_for (map (Fragment a) whole) ≡ (if b then flat_map command_in (map (Fragment a) whole) else [])
  fragments_for a true e [] = refl
  fragments_for a false e [] = refl
  fragments_for a true e (octets ∷ whole) =
      let here = Fragment a octets in
      flat_map-cons command_for here (map (Fragment a) whole)
      ∙ ap (λ c. (if c then command_in here else []) ++ commands_for (map (Fragment a) whole)) e
      ∙ ap (λ cs. command_in here ++ cs) (fragments_for a true e whole)
      ∙ sym (flat_map-cons command_in here (map (Fragment a) whole))
  fragments_for a false e (octets ∷ whole) =
      let here = Fragment a octets in
      flat_map-cons command_for here (map (Fragment a) whole)
      ∙ ap (λ c. (if c then command_in here else []) ++ commands_for (map (Fragment a) whole)) e
      ∙ fragments_for a false e whole

  one_for : (u : UnitValue) (b : Bool) → is_own u ≡ b → commands_for (Whole u ∷ []) ≡ (if b then flat_map command_in (Whole u ∷ []) else [])
  one_for u true e = ap (λ c. (if c then command_in (Whole u) else []) ++ []) e
  one_for u false e = ap (λ c. (if c then command_in (Whole u) else []) ++ []) e

  -- what is made of a unit for the asset
  made_for : (earlier : List UnitValue) (u : UnitValue) (b : Bool) → is_own u ≡ b →
      commands_for (made_of earlier u) ≡ (if b then flat_map command_in (made_of (units_to asset earlier) u) else [])
  made_for earlier (Adu a) b e = one_for (Adu a) b e
  made_for earlier (Apdu a) b e = one_for (Apdu a) b e
  made_for earlier (Frame x) b e = by (is_data x) where
    by : (d : Bool) →
        commands_for (if d then map (Fragment (addresses_in x)) (completed_by (segments_in (addresses_in x) earlier) (user_of x.blocks)) else Whole (Frame x) ∷ [])
        ≡ (if b then flat_map command_in (if d then map (Fragment (addresses_in x)) (completed_by (segments_in (addresses_in x) (units_to asset earlier)) (user_of x.blocks)) else Whole (Frame x) ∷ []) else [])
    by true = fragments_for (addresses_in x) b e (completed_by (segments_in (addresses_in x) earlier) (user_of x.blocks)) ∙ same_if b e where
      same_if : (c : Bool) → same_addresses (addresses_in x) to ≡ c →
          (if c then flat_map command_in (map (Fragment (addresses_in x)) (completed_by (segments_in (addresses_in x) earlier) (user_of x.blocks))) else [])
          ≡ (if c then flat_map command_in (map (Fragment (addresses_in x)) (completed_by (segments_in (addresses_in x) (units_to asset earlier)) (user_of x.blocks))) else [])
      same_if true same =
          let here = are_same (addresses_in x) to same in
          ap (λ segments. flat_map command_in (map (Fragment (addresses_in x)) (completed_by segments (user_of x.blocks))))
          (sym (subst (λ a. segments_in a (units_to asset earlier) ≡ segments_in a earlier) (sym here) (own_segments earlier)))
      same_if false same = refl
    by false = one_for (Frame x) b e

  received_if : (b : Bool) (u : UnitValue) (earlier us : List UnitValue) → is_own u ≡ b →
      ((before : List UnitValue) → before ≡ u ∷ earlier → flat_map command_in (received (units_to asset before) (units_to asset us)) ≡ commands_for (received before us)) →
      flat_map command_in (received (units_to asset earlier) (if b then u ∷ units_to asset us else units_to asset us)) ≡ commands_for (received earlier (u ∷ us))
  received_if true u earlier us e rest =
      let before = units_to asset earlier in
      flat_map-append command_in (made_of before u) (received (u ∷ before) (units_to asset us))
      ∙ ap (λ cs. cs ++ flat_map command_in (received (u ∷ before) (units_to asset us))) (sym (made_for earlier u true e))
      ∙ ap (λ cs. commands_for (made_of earlier u) ++ cs)
      (ap (λ b. flat_map command_in (received (if b then u ∷ before else before) (units_to asset us))) (sym e) ∙ rest (u ∷ earlier) refl)
      ∙ sym (flat_map-append command_for (made_of earlier u) (received (u ∷ earlier) us))
  received_if false u earlier us e rest =
      let before = units_to asset earlier in
      ap (λ b. flat_map command_in (received (if b then u ∷ before else before) (units_to asset us))) (sym e) ∙ rest (u ∷ earlier) refl
      ∙ ap (λ cs. cs ++ commands_for (received (u ∷ earlier) us)) (sym (made_for earlier u false e))
      ∙ sym (flat_map-append command_for (made_of earlier u) (received (u ∷ earlier) us))

  -- the commands that units with its station make are those for the asset among all that units make
  pub received_for : (earlier us : List UnitValue) → flat_map command_in (received (units_to asset earlier) (units_to asset us)) ≡ commands_for (received earlier us)
  received_for earlier [] = refl
  received_for earlier (u ∷ us) = received_if (is_own u) u earlier us refl (λ before is. received_for before us)

  -- ---- what goes to an asset by an item

  abbrev no_commands : List Command
  no_commands = []

  none_if : (b : Bool) → (if b then no_commands else no_commands) ≡ no_commands
  none_if true = refl
  none_if false = refl

  -- what goes where an item of this fate goes on is its command, where that is admitted
  goes_if : (says : Says) (f : Fate) (brought : List Command) → IsDecided asset says brought f → (if goes_on f then brought else []) ≡ (if is_admitted f then brought else [])
  goes_if says f [] d = none_if (goes_on f) ∙ sym (none_if (is_admitted f))
  goes_if says (fate.Admitted used) (c ∷ none) d = refl
  goes_if says (fate.Refused refusal) (c ∷ none) d = refl
  goes_if says fate.Carried (c ∷ none) (inl d) = cc (d.0)
  goes_if says fate.Carried (c ∷ none) (inr d) = cc (d.0)
  goes_if says (fate.Stray because) (c ∷ none) d = refl
  goes_if says fate.Lengthens (c ∷ none) d = refl
  goes_if says (fate.Cuts because) (c ∷ none) d = refl

  -- a unit that has a command has the station where the rules allow that
  unit_goes : (says : Says) (f : Fate) (u : UnitValue) (c : Command) → command_in (Whole u) ≡ c ∷ [] → (Allows asset says c → is_own u ≡ true) → IsDecided asset says (c ∷ []) f →
      commands_for (if goes_on f then Whole u ∷ [] else []) ≡ (if is_admitted f then c ∷ [] else [])
  unit_goes says (fate.Admitted used) u c one known (inl d) = ap (λ b. (if b then command_in (Whole u) else []) ++ []) (known d.1) ∙ ap (λ cs. cs ++ []) one
  unit_goes says (fate.Admitted used) u c one known (inr d) = cc (d.0)
  unit_goes says fate.Carried u c one known (inl d) = cc (d.0)
  unit_goes says fate.Carried u c one known (inr d) = cc (d.0)
  unit_goes says (fate.Refused refusal) u c one known d = refl
  unit_goes says (fate.Stray because) u c one known d = refl
  unit_goes says fate.Lengthens u c one known d = refl
  unit_goes says (fate.Cuts because) u c one known d = refl

  -- a unit that is no command brings none
  silent_unit : (u : UnitValue) → command_in (Whole u) ≡ [] → commands_for (Whole u ∷ []) ≡ []
  silent_unit u none = ap (λ cs. (if is_own u then cs else []) ++ []) none ∙ ap (λ cs. cs ++ []) (none_if (is_own u))

  no_acks : (o : Option ℕ) → commands_for (acks o) ≡ []
  no_acks None = refl
  no_acks (Some receive) = silent_unit (Apdu (Ack receive)) refl

  -- an APDU that goes on, or the S frame that a refused one leaves
  apdu_goes : (earlier : List Judged) (f : Fate) (a : ApduValue) → commands_for (passed_by_apdu earlier f a) ≡ commands_for (if goes_on f then Whole (Apdu (renumbered side.Controller earlier a)) ∷ [] else [])
  apdu_goes earlier fate.Carried a = refl
  apdu_goes earlier (fate.Admitted used) a = refl
  apdu_goes earlier (fate.Refused refusal) a = no_acks (owed_ack (events_of earlier) (info_number a))
  apdu_goes earlier _ a = refl

  silent_if : (b : Bool) (u : UnitValue) → command_in (Whole u) ≡ [] → commands_for (if b then Whole u ∷ [] else []) ≡ []
  silent_if true u none = silent_unit u none
  silent_if false u none = refl

  long_info : (n : ℕ) → 9 ≤ n → nat_lt 8 n ≡ true
  long_info n h = grind (arith, nat_tests)

  asdu_station : (says : Says) (send receive : ℕ) (asdu : List ℕ) → Allows asset says (OfIec104 asdu) → is_own (Apdu (Info send receive asdu)) ≡ true
  asdu_station says send receive asdu a =
      ap (λ b. b && nat_eq (station_of asdu) asset.station) (long_info (length asdu) a.whole) ∙ eq-eqb (station_of asdu) asset.station a.station

  info_goes : (says : Says) (earlier : List Judged) (f : Fate) (send receive : ℕ) (asdu : List ℕ) (cut : Option CutReason) → f ≡ or_cut cut (fate_of_asdu asset says asdu) →
      IsDecided asset says (info_commands cut asdu) f → commands_for (passed_by_apdu earlier f (Info send receive asdu)) ≡ (if is_admitted f then info_commands cut asdu else [])
  info_goes says earlier f send receive asdu None is d =
      let u = Apdu (renumbered side.Controller earlier (Info send receive asdu)) in
      apdu_goes earlier f (Info send receive asdu) ∙ unit_goes says f u (OfIec104 asdu) refl (λ a. asdu_station says 0 0 asdu a) d
  info_goes says earlier f send receive asdu (Some because) is d =
      ap (λ g. commands_for (passed_by_apdu earlier g (Info send receive asdu))) is ∙ sym (none_if (is_admitted f))

  -- the fragment that a frame completes
  whole_for : (answer : SegmentAnswer) (last : Option (List ℕ)) → commands_for (map (Fragment to) (completed answer last)) ≡ whole_commands (completed answer last)
  whole_for answers.Whole (Some octets) =
      fragments_for to true (same_again to) (octets ∷ []) ∙ append-nil (fragment_commands (nat_lt (length octets) 2) octets)
  whole_for _ _ = refl

  whole_if : (goes : Bool) (answer : SegmentAnswer) (last : Option (List ℕ)) →
      commands_for (if goes then map (Fragment to) (completed answer last) else []) ≡ (if goes then whole_commands (completed answer last) else [])
  whole_if true answer last = whole_for answer last
  whole_if false answer last = refl

  abbrev Frame_goes : List Judged → Fate → FrameValue → (served data_is : Bool) → Type 0
  Frame_goes earlier f x served data_is =
      commands_for (if goes_on f then (if data_is then map (Fragment to) (whole_now asset side.Client earlier x) else Whole (Frame x) ∷ []) else [])
      ≡ (if is_admitted f then frame_commands served data_is (whole_now asset side.Client earlier x) else [])

  frame_goes : (says : Says) (earlier : List Judged) (f : Fate) (x : FrameValue) (o : Option Why) (data_is : Bool) → stray_of asset side.Client x ≡ o → is_data x ≡ data_is →
      f ≡ fate_of_frame asset says side.Client earlier x o → IsDecided asset says (commands_by asset earlier (Took side.Client (Frame x))) f →
      commands_for (passed_by_frame asset earlier f x) ≡ (if is_admitted f then commands_by asset earlier (Took side.Client (Frame x)) else [])
  frame_goes says earlier f x (Some because) data_is stray data_of is d =
      subst (λ g. commands_for (passed_by_frame asset earlier g x) ≡ (if is_admitted g then commands_by asset earlier (Took side.Client (Frame x)) else [])) (sym is) refl
  frame_goes says earlier f x None false stray data_of is d =
      subst (λ b. Frame_goes earlier f x (is_none (stray_of asset side.Client x)) b) (sym data_of)
      (subst (λ o. Frame_goes earlier f x (is_none o) false) (sym stray) (silent_if (goes_on f) (Frame x) refl ∙ sym (none_if (is_admitted f))))
  frame_goes says earlier f x None true stray data_of is d =
      let whole = whole_now asset side.Client earlier x in
      let own_commands_of : IsDecided asset says (whole_commands whole) f =
      subst (λ o. IsDecided asset says (frame_commands (is_none o) true whole) f) stray (subst (λ b. IsDecided asset says (frame_commands (is_none (stray_of asset side.Client x)) b whole) f) data_of d) in
      subst (λ b. Frame_goes earlier f x (is_none (stray_of asset side.Client x)) b) (sym data_of)
      (subst (λ o. Frame_goes earlier f x (is_none o) true) (sym stray)
      (whole_if (goes_on f) (answer_now asset side.Client earlier x) (last_fragment (user_of x.blocks ∷ lane_segments asset side.Client earlier)) ∙ goes_if says f (whole_commands whole) own_commands_of))

  pub item_goes : (says : Says) (earlier : List Judged) (j : Judged) (i : Item) → HasItemFate asset says earlier i j.fate → IsDecided asset says (commands_by asset earlier i) j.fate →
      commands_for (passed_by asset earlier j i) ≡ (if is_admitted j.fate then commands_by asset earlier i else [])
  item_goes says earlier j (Took side.Client (Adu a)) has d = unit_goes says j.fate (Adu a) (OfModbus a) refl (λ allowed. eq-eqb a.unit asset.station allowed.station) d
  item_goes says earlier j (Took side.Client (Frame x)) has d = frame_goes says earlier j.fate x (stray_of asset side.Client x) (is_data x) refl refl has d
  item_goes says earlier j (Took side.Client (Apdu (Info send receive asdu))) has d = info_goes says earlier j.fate send receive asdu (info_cut side.Client earlier send receive) has d
  item_goes says earlier j (Took side.Client (Apdu (Ack receive))) has d =
      apdu_goes earlier j.fate (Ack receive) ∙ silent_if (goes_on j.fate) (Apdu (renumbered side.Controller earlier (Ack receive))) refl ∙ sym (none_if (is_admitted j.fate))
  item_goes says earlier j (Took side.Client (Apdu (Control octet))) has d =
      apdu_goes earlier j.fate (Control octet) ∙ silent_if (goes_on j.fate) (Apdu (Control octet)) refl ∙ sym (none_if (is_admitted j.fate))
  item_goes says earlier j _ has d = sym (none_if (is_admitted j.fate))

  -- what goes to another asset brings nothing for this one
  module _ (other : Asset) (apart : same_addresses (addresses_of other) to ≡ false) where
    adu_apart : (b : Bool) (u : UnitValue) → is_own u ≡ false → commands_for (if b then Whole u ∷ [] else []) ≡ []
    adu_apart true u none = one_for u false none
    adu_apart false u none = refl

    frame_apart : (earlier : List Judged) (x : FrameValue) (goes data_is : Bool) →
        commands_for (if goes then (if data_is then map (Fragment (addresses_of other)) (whole_now other side.Client earlier x) else Whole (Frame x) ∷ []) else []) ≡ []
    frame_apart earlier x true true = fragments_for (addresses_of other) false apart (whole_now other side.Client earlier x)
    frame_apart earlier x true false = silent_unit (Frame x) refl
    frame_apart earlier x false data_is = refl

    info_apart : (send receive : ℕ) (asdu : List ℕ) → is_own (Apdu (Info send receive asdu)) ≡ false → is_own (Apdu (Info 0 0 asdu)) ≡ false
    info_apart send receive asdu e = e

    pub item_apart : (earlier : List Judged) (j : Judged) (i : Item) → ((u : UnitValue) → i ≡ Took side.Client u → is_own u ≡ false) → commands_for (passed_by other earlier j i) ≡ []
    item_apart earlier j (Took side.Client (Adu a)) none = adu_apart (goes_on j.fate) (Adu a) (none (Adu a) refl)
    item_apart earlier j (Took side.Client (Frame x)) none = frame_apart earlier x (goes_on j.fate) (is_data x)
    item_apart earlier j (Took side.Client (Apdu (Info send receive asdu))) none =
        apdu_goes earlier j.fate (Info send receive asdu)
        ∙ adu_apart (goes_on j.fate) (Apdu (renumbered side.Controller earlier (Info send receive asdu))) (none (Apdu (Info send receive asdu)) refl)
    item_apart earlier j (Took side.Client (Apdu (Ack receive))) none =
        apdu_goes earlier j.fate (Ack receive) ∙ silent_if (goes_on j.fate) (Apdu (renumbered side.Controller earlier (Ack receive))) refl
    item_apart earlier j (Took side.Client (Apdu (Control octet))) none = apdu_goes earlier j.fate (Control octet) ∙ silent_if (goes_on j.fate) (Apdu (Control octet)) refl
    item_apart earlier j _ none = refl

  -- ---- an item and the later ones

  -- an item brings one command at most
  abbrev IsOne : List Command → Type 0
  IsOne [] = Unit {0}
  IsOne (c ∷ none) = none ≡ []

  one_info : (cut : Option CutReason) (asdu : List ℕ) → IsOne (info_commands cut asdu)
  one_info None asdu = refl
  one_info (Some because) asdu = tt

  one_fragment : (short : Bool) (octets : List ℕ) → IsOne (fragment_commands short octets)
  one_fragment true octets = tt
  one_fragment false octets = cond_both (confirms (read_octets octets)) [] (OfDnp3 octets ∷ []) IsOne (λ yes. tt) (λ no. refl)

  one_whole : (whole : List (List ℕ)) → IsOne (whole_commands whole)
  one_whole [] = tt
  one_whole (octets ∷ none) = one_fragment (nat_lt (length octets) 2) octets

  one_frame : (served data_is : Bool) (whole : List (List ℕ)) → IsOne (frame_commands served data_is whole)
  one_frame true true whole = one_whole whole
  one_frame true false whole = tt
  one_frame false data_is whole = tt

  pub one_command : (earlier : List Judged) (i : Item) → IsOne (commands_by asset earlier i)
  one_command earlier (Took side.Client (Adu a)) = refl
  one_command earlier (Took side.Client (Frame x)) = one_frame (is_none (stray_of asset side.Client x)) (is_data x) (whole_now asset side.Client earlier x)
  one_command earlier (Took side.Client (Apdu (Info send receive asdu))) = one_info (info_cut side.Client earlier send receive) asdu
  one_command earlier (Took side.Client (Apdu (Ack receive))) = tt
  one_command earlier (Took side.Client (Apdu (Control octet))) = tt
  one_command earlier _ = tt

  not_both : (f : Fate) → is_refused f ≡ true → is_admitted f ≡ false
  not_both (fate.Admitted used) e = cc
  not_both _ e = refl

  pub admits_next : (says : Says) (f : Fate) (brought now : List Command) (later : List Command → Type 0) (rest : List Command) → IsDecided asset says brought f → IsOne brought →
      now ≡ (if is_admitted f then brought else []) → later rest → AdmitsNext asset says brought later (now ++ rest)
  admits_next says f [] now later rest d one is h = subst (λ cs. later (cs ++ rest)) (sym (is ∙ none_if (is_admitted f))) h
  admits_next says f (c ∷ none) now later rest (inl d) one is h =
      inl (d.1, (rest, ap (λ cs. cs ++ rest) (is ∙ ap (λ b. if b then c ∷ none else []) d.0 ∙ ap (λ cs. c ∷ cs) one), h))
  admits_next says f (c ∷ none) now later rest (inr d) one is h =
      inr (d.1, subst (λ cs. later (cs ++ rest)) (sym (is ∙ ap (λ b. if b then c ∷ none else []) (not_both f d.0))) h)

module _ (site : SiteValue) (differ : HasOwnStations site) (client : Caller) (k : ℕ) (inside : k < length (assets_of site)) where
  abbrev asset : Asset
  asset = asset_of site k

  abbrev says_now : List Judged → Judged → Says
  says_now earlier j = says_at asset (own k client) (part site k earlier) j.moment

  abbrev Next : List Judged → Judged → (later : List Command → Type 0) → (rest : List Command) → Type 0
  Next earlier j later rest = AdmitsNext asset (says_now earlier j) (own_commands site k earlier j) later (commands_for asset (passed_now site earlier j) ++ rest)

  -- an item that concerns the asset
  mine_next : (earlier : List Judged) (j : Judged) (later : List Command → Type 0) (rest : List Command) → HasFate site client earlier (place_of j) j.fate → later rest →
      concerns site k j.item ≡ true →
      AdmitsNext asset (says_now earlier j) (commands_by asset (bears j.item earlier (part site k earlier)) j.item) later (commands_for asset (passed_now site earlier j) ++ rest)
  mine_next earlier j later rest has h mine = elim (mine_or_silent site k j.item mine) [
    | inl is ↦
        (let d = decided site client earlier j has in
        subst (λ n. AdmitsNext (asset_of site n) (says_at (asset_of site n) (own n client) (part site n earlier) j.moment)
        (commands_by (asset_of site n) (bears j.item earlier (part site n earlier)) j.item) later (commands_for (asset_of site n) (passed_now site earlier j) ++ rest)) is
        (let n = item_place site j.item in
        let own_asset = asset_of site n in
        let before = bears j.item earlier (part site n earlier) in
        let says = says_at own_asset (own n client) (part site n earlier) j.moment in
        admits_next own_asset says j.fate (commands_by own_asset before j.item) (commands_for own_asset (passed_now site earlier j)) later rest d (one_command own_asset before j.item)
        (item_goes own_asset says before j j.item has d) h))
    | inr silent ↦
        (let n = item_place site j.item in
        let none = (silent asset (bears j.item earlier (part site k earlier)) j).no_command in
        let nothing = (silent (asset_of site n) (bears j.item earlier (part site n earlier)) j).nothing in
        subst (λ brought. AdmitsNext asset (says_now earlier j) brought later (commands_for asset (passed_now site earlier j) ++ rest)) (sym none)
        (subst (λ items. later (commands_for asset items ++ rest)) (sym nothing) h))
  ]

  item_inside : (i : Item) → item_place site i < length (assets_of site)
  item_inside (Took s u) = place_inside site (is_for s u)
  item_inside (Ended s rest) = omega arith
  item_inside (Broke s because) = omega arith

  elsewhere : (n : ℕ) → nat_eq n k ≡ false → n ≡ k → ⊥
  elsewhere n away here = true≢false (sym (eq-eqb n k here) ∙ away)

  -- an item of another asset
  apart_next : (earlier : List Judged) (j : Judged) (later : List Command → Type 0) (rest : List Command) → later rest → concerns site k j.item ≡ false →
      later (commands_for asset (passed_now site earlier j) ++ rest)
  apart_next earlier j later rest h apart =
      let n = item_place site j.item in
      let other = asset_of site n in
      let away = not_mine site k j.item apart in
      let addresses : same_addresses (addresses_of other) (addresses_of asset) ≡ false =
      elim (cases_Bool (same_addresses (addresses_of other) (addresses_of asset))) [
        | inl same ↦ absurd (elsewhere n away (own_station site differ n k (item_inside j.item) inside (ap (λ (a : Addresses). a.station) (are_same (addresses_of other) (addresses_of asset) same))))
        | inr differs ↦ differs
      ] in
      let unit : (u : UnitValue) → j.item ≡ Took side.Client u → is_for side.Client u asset ≡ false =
      λ u is. elim (cases_Bool (is_for side.Client u asset)) [
        | inl here ↦ absurd (elsewhere n away (ap (item_place site) is ∙ own_place site differ u k inside here))
        | inr none ↦ none
      ] in
      subst (λ cs. later (cs ++ rest)) (sym (item_apart asset other addresses (bears j.item earlier (part site n earlier)) j j.item unit)) h

  next : (earlier : List Judged) (j : Judged) (later : List Command → Type 0) (rest : List Command) → HasFate site client earlier (place_of j) j.fate → later rest → Next earlier j later rest
  next earlier j later rest has h = by (concerns site k j.item) refl where
    by : (b : Bool) → concerns site k j.item ≡ b →
        AdmitsNext asset (says_now earlier j) (if b then commands_by asset (bears j.item earlier (part site k earlier)) j.item else []) later (commands_for asset (passed_now site earlier j) ++ rest)
    by true mine = mine_next earlier j later rest has h mine
    by false apart = apart_next earlier j later rest h apart

  admits_from : (earlier js : List Judged) → HaveFates site client earlier js → Admits site k client earlier js (commands_for asset (in_turn (passed_now site) earlier js))
  admits_from earlier [] fates = refl
  admits_from earlier (j ∷ js) fates =
      let behind = earlier ++ j ∷ [] in
      let rest = in_turn (passed_now site) behind js in
      subst (AdmitsNext asset (says_now earlier j) (own_commands site k earlier j) (Admits site k client behind js))
      (sym (flat_map-append (command_for asset) (passed_now site earlier j) rest))
      (next earlier j (Admits site k client behind js) (commands_for asset rest) fates.0 (admits_from behind js fates.1))

pub stations_decode : UnitsArePrefixFree → PutsTogether → StationsDecode
stations_decode free law site client h js bytes more differ a front k inside units rest are =
    let asset = asset_of site k in
    let f = front_of free law site client h js bytes more a front units rest are in
    let all = admits_from site differ client k inside [] js a.fates in (
      commands_for asset f.0,
      subst (Admits site k client [] js)
          (ap (commands_for asset) f.1 ∙ flat_map-append (command_for asset) (received [] units) f.0
          ∙ ap (λ cs. cs ++ commands_for asset f.0) (sym (received_for asset [] units))) all,
    )
