-- What items let through, item by item.
use Rattle.std.proofs.Common.{◌≡◌, ◌≤◌, ◌∙◌, ◌++◌, ℕ, List, [], ◌∷◌, Bool, true, false, Option, None, Some, Result, Ok, Err, if◌then◌else◌, length, map, not, nat_eq, nat_le, nat_lt, slice_index, unwrap_or, refl, sym, ap, subst, arith}
use Rattle.cf_unobjected.proofs.Common.{Adu, AduValue, AllByRecursion, Apdu, Asset, Fate, Frame, FrameValue, HasCommandFate, IsRightlyPassed, Judged, Passed, SiteValue, UnitValue, all_both, asset_of, false≢true, fate_of_fragment, fate_of_frame, fate_of_segment, fate_of_whole, goes_on, is_data, item_place, nat_tests, none-some, of_its_acts, of_no_form, of_other_station, part, place_for, stray_of, user_of, verdict_of}
use Rattle.cf_lane.specs.Caller.{Caller, OwnCaller, own}
use Rattle.cf_apci.specs.Apdu.{Ack, Control, Info}
use Rattle.cf_audit.specs.declared.line.CutReason.{CutReason}
use Rattle.cf_audit.specs.declared.line.Why.{Why}
use Rattle.cf_decode.specs.Passed.{passed_by, passed_now}
use Rattle.cf_decode.specs.Received.{addresses_in}
use Rattle.cf_decode.specs.Dnp3.{passed_by_frame}
use Rattle.cf_decode.specs.Iec104.{acks, passed_by_apdu}
use Rattle.cf_decode.specs.Units.{Addresses, Fragment, Whole, addresses_of}
use Rattle.cf_dnptrans.specs.Passing.{completed}
use Rattle.cf_dnptrans.specs.declared.assembly.SegmentAnswer.{SegmentAnswer}
use Rattle.cf_lane.specs.Acts.{admission, by_refusal, fate_of_acts, first_refusal, refusal_or}
use Rattle.cf_lane.specs.Rates.{Says, is_spent, own_used_at, said, says_at, unless_spent}
use Rattle.cf_dnptrans.specs.Transport.{fitting, is_linked, last_fragment, octets_of, since_first}
use Rattle.cf_lane.specs.Dnp3.{answer_now, fate_of_read, has_addresses, has_right_direction, is_status, segments_of}
use Rattle.cf_lane.specs.Fate.{HaveFates, HasItemFate}
use Rattle.cf_lane.specs.Iec104.{asdu_in, asdu_refused, fate_by_form, fate_of_asdu, or_cut}
use Rattle.cf_lane.specs.Item.{Item, Took}
use Rattle.cf_lane.specs.Judged.{in_turn, is_refused}
use Rattle.cf_lane.specs.Numbers.{ack_cut, info_cut}
use Rattle.cf_lane.specs.Parts.{bears}
use Rattle.cf_unobjected.specs.Passed.{IsRightlyPassedBy, place_to}
use Rattle.cf_unobjected.proofs.Addresses.{are_same}
use Rattle.cf_lane.specs.declared.fate.Refusal.{Refusal}
use Rattle.cf_policy.specs.declared.Verdict.{Verdict}
use Rattle.cf_view.specs.declared.Act.{Act}
use Rattle.cf_asdu.specs.Asdu.{refusal_reason, station_of}
use Rattle.cf_asdu.specs.declared.asdu.AsduRefusal.{AsduRefusal}
use Rattle.cf_dnpobj.specs.Fragment.{FragmentValue, read_octets}
use Rattle.cf_dnpobj.specs.declared.fragment.FragmentRefusal.{FragmentRefusal}
use Rattle.cf_lane.specs.declared.fate.Admission.{Admission}
use Rattle.cf_asdu.specs.Asdu as asdu_form
use Rattle.cf_asdu.specs.Acts as asdus
use Rattle.cf_dnpobj.specs.Acts as fragments
use Rattle.cf_modbus.specs.Acts as requests
use Rattle.cf_asdu.specs.declared.asdu.AsduRefusal.TheVariants as refusal
use Rattle.cf_policy.specs.declared.Decider.TheVariants as decider
use Rattle.cf_policy.specs.declared.Verdict.TheVariants as verdict
use Rattle.cf_view.specs.declared.Reason.TheVariants as reason
use Rattle.cf_dnptrans.specs.declared.assembly.SegmentAnswer.TheVariants as answers
use Rattle.cf_lane.specs.declared.fate.Fate.TheVariants as fate
use Rattle.cf_audit.specs.declared.line.Why.TheVariants as why
use Rattle.cf_view.specs.declared.Side.TheVariants as side

fits_by : (octets xs : List ℕ) (b : Bool) → nat_le (length octets) 2048 ≡ b → (if b then Some octets else None) ≡ Some xs → length xs ≤ 2048
fits_by octets xs true e h =
    let l : length octets ≤ 2048 = grind (arith, nat_tests, e) in
    let same : octets ≡ xs = ap (λ o. unwrap_or o octets) h in
    subst (λ ys. length ys ≤ 2048) same l
fits_by octets xs false e h = absurd (none-some xs h)

made_by : (run : List (List ℕ)) (xs : List ℕ) (b : Bool) → (if b then fitting (octets_of run) else None) ≡ Some xs → length xs ≤ 2048
made_by run xs true h = fits_by (octets_of run) xs (nat_le (length (octets_of run)) 2048) refl h
made_by run xs false h = absurd (none-some xs h)

-- a fragment has at most 2,048 octets
most_of : (segments : List (List ℕ)) (xs : List ℕ) → last_fragment segments ≡ Some xs → length xs ≤ 2048
most_of segments xs h = made_by (since_first segments) xs (is_linked (since_first segments)) h

-- ---- what is allowed where rules may be spent is allowed where none is

-- by one verdict no act is refused, if none is by the other
abbrev Allows : (strict plain : Says) → Type 0
Allows strict plain = (acts : List Act) → first_refusal strict acts ≡ None → first_refusal plain acts ≡ None

by_verdict : (spent : ℕ → Bool) (act : Act) (v : Verdict) (later other : Option Refusal) → (later ≡ None → other ≡ None) →
    refusal_or act (said spent v) later ≡ None → refusal_or act v other ≡ None
by_verdict spent act (verdict.Allow number) later other to h = by_spent (spent number) h where
  by_spent : (b : Bool) → refusal_or act (unless_spent b number) later ≡ None → other ≡ None
  by_spent true h = absurd (none-some _ (sym h))
  by_spent false h = to h
by_verdict spent act (verdict.Refuse d because) later other to h = absurd (none-some _ (sym h))

says_allows : (asset : Asset) (client : OwnCaller) (earlier : List Judged) (moment : ℕ) → Allows (says_at asset client earlier moment) (verdict_of asset client.address)
says_allows asset client earlier moment [] h = refl
says_allows asset client earlier moment (act ∷ acts) h =
    by_verdict (is_spent asset (own_used_at client.before earlier) moment) act (verdict_of asset client.address act) (first_refusal (says_at asset client earlier moment) acts) (first_refusal (verdict_of asset client.address) acts)
    (says_allows asset client earlier moment acts) h

goes_by : (used : Admission) (o : Option Refusal) → goes_on (by_refusal used o) ≡ true → o ≡ None
goes_by used None e = refl
goes_by used (Some refusal) e = absurd (false≢true e)

by_none : (used : Admission) (o : Option Refusal) → o ≡ None → by_refusal used o ≡ fate.Admitted used
by_none used None e = refl
by_none used (Some refusal) e = absurd (none-some refusal (sym e))

module _ (asset : Asset) (client : ℕ) (says : Says) (allows : Allows says (verdict_of asset client)) where
  abbrev plain : List Act → Admission
  plain acts = admission asset (verdict_of asset client) acts

  acts_admitted : (acts : List Act) → goes_on (fate_of_acts asset says acts) ≡ true → fate_of_acts asset (verdict_of asset client) acts ≡ fate.Admitted (plain acts)
  acts_admitted acts e =
      by_none (plain acts) (first_refusal (verdict_of asset client) acts) (allows acts (goes_by (admission asset says acts) (first_refusal says acts) e))

  acts_go : (acts : List Act) → goes_on (fate_of_acts asset says acts) ≡ true → goes_on (fate_of_acts asset (verdict_of asset client) acts) ≡ true
  acts_go acts e = ap goes_on (acts_admitted acts e)

  if_goes : (b : Bool) (f g h k : Fate) → (goes_on f ≡ true → goes_on h ≡ true) → (goes_on g ≡ true → goes_on k ≡ true) → goes_on (if b then f else g) ≡ true → goes_on (if b then h else k) ≡ true
  if_goes true f g h k first second e = first e
  if_goes false f g h k first second e = second e

  read_goes : (code : ℕ) (read : Result FragmentValue FragmentRefusal) → goes_on (fate_of_read asset says code read) ≡ true → goes_on (fate_of_read asset (verdict_of asset client) code read) ≡ true
  read_goes code (Ok f) e =
      if_goes (nat_eq f.code 0) fate.Carried (fate_of_acts asset says (fragments.acts f)) fate.Carried (fate_of_acts asset (verdict_of asset client) (fragments.acts f)) (λ g. g) (acts_go (fragments.acts f)) e
  read_goes code (Err refusal) e = absurd (false≢true e)

  pub fragment_goes : (octets : List ℕ) → goes_on (fate_of_fragment asset says side.Client octets) ≡ true → goes_on (fate_of_fragment asset (verdict_of asset client) side.Client octets) ≡ true
  fragment_goes octets e = read_goes (slice_index octets 1) (read_octets octets) e

  form_goes : (octets : List ℕ) (o : Option AsduRefusal) → goes_on (fate_by_form asset says octets o) ≡ true → goes_on (fate_by_form asset (verdict_of asset client) octets o) ≡ true
  form_goes octets (Some refusal) e = absurd (false≢true e)
  form_goes octets None e = acts_go (asdus.acts (asdu_in octets)) e

  abbrev short_refusal : List ℕ → Fate
  short_refusal octets = asdu_refused decider.Form (refusal_reason refusal.Short) octets 0

  abbrev station_refusal : List ℕ → Fate
  station_refusal octets = asdu_refused decider.Station reason.Station octets (station_of octets)

  pub asdu_goes : (octets : List ℕ) → goes_on (fate_of_asdu asset says octets) ≡ true → goes_on (fate_of_asdu asset (verdict_of asset client) octets) ≡ true
  asdu_goes octets e =
      if_goes (nat_lt (length octets) 9) (short_refusal octets) _ (short_refusal octets) _ (λ g. g)
      (if_goes (nat_eq (station_of octets) asset.station) _ (station_refusal octets) _ (station_refusal octets) (form_goes octets (asdu_form.first_refusal (asdu_in octets))) (λ g. g)) e

  admitted_plainly : (a : AduValue) (f : Fate) → goes_on f ≡ true → HasCommandFate asset says a f → (used : Admission) × HasCommandFate asset (verdict_of asset client) a (fate.Admitted used)
  admitted_plainly a f g (of_other_station d e) = absurd (false≢true (sym (ap goes_on e) ∙ g))
  admitted_plainly a f g (of_no_form s refusal r e) = absurd (false≢true (sym (ap goes_on e) ∙ g))
  admitted_plainly a f g (of_its_acts s r p e) =
      (plain (requests.acts r), of_its_acts s r p (sym (acts_admitted (requests.acts r) (sym (ap goes_on e) ∙ g))))

-- ---- of a site, by the asset of a place

-- a frame that is not stray has the addresses of its asset
pub served_addresses : (asset : Asset) (x : FrameValue) → stray_of asset side.Client x ≡ None → addresses_in x ≡ addresses_of asset
served_addresses asset x s = by (has_addresses asset side.Client x) refl where
  by : (b : Bool) → has_addresses asset side.Client x ≡ b → addresses_in x ≡ addresses_of asset
  by true here = are_same (addresses_in x) (addresses_of asset) here
  by false none =
      let stray : stray_of asset side.Client x ≡ Some why.Address =
      ap (λ b. if not b then Some why.Address else (if not (has_right_direction side.Client x) then Some why.Direction else (if is_data x then None else (if is_status x then None else Some why.Code)))) none in
      absurd (none-some why.Address (sym s ∙ stray))

module _ (site : SiteValue) (k : ℕ) (client : ℕ) (says : Says) (allows : Allows says (verdict_of (asset_of site k) client)) where
  abbrev asset : Asset
  asset = asset_of site k

  abbrev AreRight : List Passed → Type 0
  AreRight = AllByRecursion (IsRightlyPassed site client)

  -- a unit for the asset, and a fragment between its addresses
  own_unit : (u : UnitValue) → place_for site side.Client u ≡ k → IsRightlyPassedBy asset client (Whole u) → IsRightlyPassed site client (Whole u)
  own_unit u at h = subst (λ m. IsRightlyPassedBy (asset_of site m) client (Whole u)) (sym at) h

  own_fragment : (octets : List ℕ) → place_to site (addresses_of asset) ≡ k → IsRightlyPassedBy asset client (Fragment (addresses_of asset) octets) →
      IsRightlyPassed site client (Fragment (addresses_of asset) octets)
  own_fragment octets there h = subst (λ m. IsRightlyPassedBy (asset_of site m) client (Fragment (addresses_of asset) octets)) (sym there) h

  -- ---- Modbus

  adu_if : (b : Bool) (a : AduValue) → (b ≡ true → IsRightlyPassed site client (Whole (Adu a))) → AreRight (if b then Whole (Adu a) ∷ [] else [])
  adu_if true a right = (right refl, tt)
  adu_if false a right = tt

  adu_right : (a : AduValue) (f : Fate) → place_for site side.Client (Adu a) ≡ k → HasCommandFate asset says a f → AreRight (if goes_on f then Whole (Adu a) ∷ [] else [])
  adu_right a f at h = adu_if (goes_on f) a (λ g. own_unit (Adu a) at (admitted_plainly asset client says allows a f g h))

  -- ---- DNP3

  abbrev to : Addresses
  to = addresses_of asset

  module _ (there : place_to site to ≡ k) where
    fragment_by : (octets : List ℕ) → 2 ≤ length octets → length octets ≤ 2048 → (f : Fate) → fate_of_fragment asset says side.Client octets ≡ f →
        AreRight (if goes_on f then Fragment to octets ∷ [] else [])
    fragment_by octets long most fate.Carried e = (own_fragment octets there (refl, long, most, fragment_goes asset client says allows octets (ap goes_on e)), tt)
    fragment_by octets long most (fate.Admitted used) e = (own_fragment octets there (refl, long, most, fragment_goes asset client says allows octets (ap goes_on e)), tt)
    fragment_by octets long most _ e = tt

    fragment_right : (octets : List ℕ) (short : Bool) → length octets ≤ 2048 → nat_lt (length octets) 2 ≡ short →
        AreRight (if goes_on (fate_of_whole asset says side.Client (octets ∷ [])) then Fragment to octets ∷ [] else [])
    fragment_right octets true most e = rw e tt
    fragment_right octets false most e = let long : 2 ≤ length octets = grind (arith, nat_tests, e) in
        subst (λ (b : Bool). AreRight (if goes_on (if b then fate.Stray why.Short else fate_of_fragment asset says side.Client octets) then Fragment to octets ∷ [] else [])) (sym e)
        (fragment_by octets long most (fate_of_fragment asset says side.Client octets) refl)

    segment_right : (answer : SegmentAnswer) (segments : List (List ℕ)) (last : Option (List ℕ)) → last_fragment segments ≡ last →
        AreRight (if goes_on (fate_of_segment asset says side.Client answer (completed answer last)) then map (Fragment to) (completed answer last) else [])
    segment_right answers.Whole segments (Some octets) e = fragment_right octets (nat_lt (length octets) 2) (most_of segments octets e) refl
    segment_right _ segments _ e = tt

  frame_right : (earlier : List Judged) (x : FrameValue) → place_for site side.Client (Frame x) ≡ k → (stray : Option Why) → stray_of asset side.Client x ≡ stray →
      (data_ : Bool) → is_data x ≡ data_ → AreRight (passed_by_frame asset earlier (fate_of_frame asset says side.Client earlier x stray) x)
  frame_right earlier x at (Some because) s data_ d = tt
  frame_right earlier x at None s false d = rw d (own_unit (Frame x) at (s, d), tt)
  frame_right earlier x at None s true d =
      let there : place_to site to ≡ k = ap (place_to site) (sym (served_addresses asset x s)) ∙ at in
      rw d
      (segment_right there (answer_now asset side.Client earlier x) (user_of x.blocks ∷ segments_of asset side.Client earlier)
      (last_fragment (user_of x.blocks ∷ segments_of asset side.Client earlier)) refl)

  -- ---- IEC 60870-5-104

  acks_right : (o : Option ℕ) → AreRight (acks o)
  acks_right None = tt
  acks_right (Some receive) = (refl, tt)

  -- an APDU with other numbers is for the same asset
  asdu_right : (s r : ℕ) (asdu : List ℕ) (owed : Option ℕ) (f : Fate) → place_for site side.Client (Apdu (Info s r asdu)) ≡ k → fate_of_asdu asset says asdu ≡ f →
      AreRight (if goes_on f then Whole (Apdu (Info s r asdu)) ∷ [] else (if is_refused f then acks owed else []))
  asdu_right s r asdu owed (fate.Admitted used) at e = (own_unit (Apdu (Info s r asdu)) at (asdu_goes asset client says allows asdu (ap goes_on e)), tt)
  asdu_right s r asdu owed fate.Carried at e = (own_unit (Apdu (Info s r asdu)) at (asdu_goes asset client says allows asdu (ap goes_on e)), tt)
  asdu_right s r asdu owed (fate.Refused refusal) at e = acks_right owed
  asdu_right s r asdu owed _ at e = tt

  info_right : (earlier : List Judged) (send receive : ℕ) (asdu : List ℕ) → place_for site side.Client (Apdu (Info send receive asdu)) ≡ k → (cut : Option CutReason) →
      AreRight (passed_by_apdu earlier (or_cut cut (fate_of_asdu asset says asdu)) (Info send receive asdu))
  info_right earlier send receive asdu at (Some because) = tt
  info_right earlier send receive asdu at None = asdu_right _ _ asdu _ (fate_of_asdu asset says asdu) at refl

  ack_right : (earlier : List Judged) (receive : ℕ) (cut : Option CutReason) → AreRight (passed_by_apdu earlier (or_cut cut fate.Carried) (Ack receive))
  ack_right earlier receive (Some because) = tt
  ack_right earlier receive None = (refl, tt)

  pub by_item : (earlier : List Judged) (j : Judged) (item : Item) → item_place site item ≡ k → HasItemFate asset says earlier item j.fate → AreRight (passed_by asset earlier j item)
  by_item earlier j (Took side.Client (Adu a)) at h = adu_right a j.fate at h
  by_item earlier j (Took side.Client (Frame x)) at h = subst (λ f. AreRight (passed_by_frame asset earlier f x)) (sym h) (frame_right earlier x at _ refl _ refl)
  by_item earlier j (Took side.Client (Apdu (Control octet))) at h = subst (λ f. AreRight (passed_by_apdu earlier f (Control octet))) (sym h) (refl, tt)
  by_item earlier j (Took side.Client (Apdu (Ack receive))) at h = subst (λ f. AreRight (passed_by_apdu earlier f (Ack receive))) (sym h) (ack_right earlier receive (ack_cut side.Client earlier receive))
  by_item earlier j (Took side.Client (Apdu (Info send receive asdu))) at h =
      subst (λ f. AreRight (passed_by_apdu earlier f (Info send receive asdu))) (sym h) (info_right earlier send receive asdu at (info_cut side.Client earlier send receive))
  by_item earlier j _ at h = tt

pub all_right : (site : SiteValue) (client : Caller) (earlier js : List Judged) → HaveFates site client earlier js →
    AllByRecursion (IsRightlyPassed site client.address) (in_turn (passed_now site) earlier js)
all_right site client earlier [] h = tt
all_right site client earlier (j ∷ js) h =
    let k = item_place site j.item in
    let before = part site k earlier in
    all_both (IsRightlyPassed site client.address) _ _
    (by_item site k client.address (says_at (asset_of site k) (own k client) before j.moment) (says_allows (asset_of site k) (own k client) before j.moment) (bears j.item earlier before) j
    j.item refl h.0)
    (all_right site client (earlier ++ j ∷ []) js h.1)
