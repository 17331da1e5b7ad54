-- What goes to the controller, in the policy's words.
use Rattle.cf_lane.specs.Caller.{Caller, own}
use Rattle.cf_lane.specs.Parts.{bears, part}
use Rattle.cf_lane.specs.Site.{item_place}
use Rattle.cf_lane.specs.Rates.{Says, says_at}
use Rattle.cf_apci.specs.Apdu.{Ack, ApduValue, Control, Info}
use Rattle.cf_asdu.specs.Asdu.{first_refusal, refusal_reason, station_of}
use Rattle.cf_asdu.specs.declared.asdu.AsduRefusal.{AsduRefusal}
use Rattle.cf_audit.specs.declared.line.CutReason.{CutReason}
use Rattle.cf_audit.specs.declared.line.Why.{Why}
use Rattle.cf_dnplink.specs.LinkFrame.{FrameValue}
use Rattle.cf_dnpobj.specs.Fragment.{FragmentValue, read_octets}
use Rattle.cf_dnpobj.specs.declared.fragment.FragmentRefusal.{FragmentRefusal}
use Rattle.cf_dnptrans.specs.Passing.{completed}
use Rattle.cf_dnptrans.specs.Transport.{last_fragment}
use Rattle.cf_dnptrans.specs.declared.assembly.SegmentAnswer.{SegmentAnswer}
use Rattle.cf_dnplink.specs.UserOctets.{user_of}
use Rattle.cf_lane.proofs.Commands.{admits_what_is_allowed, from_allowed, never_carried, to_allowed}
use Rattle.cf_lane.specs.Acts.{act_of_code, admission, by_refusal, fate_of_acts}
use Rattle.cf_lane.specs.declared.fate.Admission.{Admission}
use Rattle.cf_lane.specs.Dnp3.{answer_now, fate_of_frame, fate_of_fragment, fate_of_read, fate_of_segment, fragment_frames, fragment_in, frame_output, is_data, is_none, segments_of, stray_of, whole_now}
use Rattle.cf_lane.specs.Fate.{HasItemFate, HaveFates}
use Rattle.cf_lane.specs.Iec104.{ack_octets, ack_output, apdu_output, asdu_in, asdu_refused, fate_by_form, fate_of_apdu, fate_of_asdu, or_cut, stamped}
use Rattle.cf_lane.specs.Item.{Item, Took}
use Rattle.cf_lane.specs.Judged.{Judged, goes_on, in_turn, is_admitted}
use Rattle.cf_lane.specs.Laws.{LanePassesAllowed}
use Rattle.cf_lane.specs.Modbus.{HasCommandFate}
use Rattle.cf_lane.specs.Numbers.{ack_cut, events_of, info_cut}
use Rattle.cf_lane.specs.Output.{item_output, output}
use Rattle.cf_lane.specs.Passes.{AckGoes, ApduGoes, AreAllowed, CommandGoes, FragmentGoes, FrameGoes, Goes, InfoGoes, IsAllowedAsdu, IsAllowedCommand, IsAllowedFragment, ItemGoes, Leaves, Passes, WholeGoes, confirms}
use Rattle.cf_lane.specs.Unit.{Adu, Apdu, Frame, apdu_spelling, frame_spelling}
use Rattle.cf_lane.specs.declared.fate.Fate.{Fate}
use Rattle.cf_lane.specs.declared.fate.Refusal.{Refusal}
use Rattle.cf_modbus.specs.Adu.{AduValue, spelling}
use Rattle.cf_policy.specs.Site.{SiteValue, asset_of}
use Rattle.cf_policy.specs.declared.Asset.{Asset}
use Rattle.cf_policy.specs.declared.Decider.{Decider}
use Rattle.cf_renumber.specs.Counts.{admitted_stamp, owed_ack}
use Rattle.cf_view.specs.declared.Reason.{Reason}
use Rattle.std.proofs.Common.{Bool, Err, List, None, Ok, Option, Some, [], ap, arith, false, inl, inr, length, refl, subst, sym, true, ℕ, ◌++◌, ◌∙◌, ◌∷◌, ◌≡◌}
use Rattle.std.proofs.lemmas.Bool.{cond_both, eq-eqb, eqb-true, ltb-false, ltb-true}
use Rattle.std.proofs.lemmas.List.{append-nil}
use Rattle.std.specs.List.{flat_map}
use Rattle.std.specs.Prelude.{if◌then◌else◌, nat_eq, nat_lt, slice_index, ◌≤◌}
use Rattle.std.specs.declared.result.Result.{Result}
use Rattle.cf_asdu.specs.Acts as asdus
use Rattle.cf_asdu.specs.declared.asdu.AsduRefusal.TheVariants as refusal
use Rattle.cf_lane.specs.Acts as policy
use Rattle.cf_policy.specs.declared.Decider.TheVariants as decider
use Rattle.cf_view.specs.declared.Reason.TheVariants as reason
use Rattle.cf_audit.specs.declared.line.Why.TheVariants as why
use Rattle.cf_dnpobj.specs.Acts as fragments
use Rattle.cf_dnptrans.specs.declared.assembly.SegmentAnswer.TheVariants as answers
use Rattle.cf_lane.specs.declared.fate.Fate.TheVariants as fate
use Rattle.cf_view.specs.declared.Side.TheVariants as side

-- octets that stand at the front
leave : (octets xs more : List ℕ) (Rest : List ℕ → Type 0) → xs ≡ octets → Rest more → Leaves octets Rest (xs ++ more)
leave octets xs more Rest e r = (more, ap (λ ys. ys ++ more) e, r)

nothing_put : (F : List ℕ → List ℕ) (b : Bool) → (if b then flat_map F (if b then [] else []) else []) ≡ []
nothing_put F true = refl
nothing_put F false = refl

module _ (asset : Asset) (says : Says) where
  one_command : (a : AduValue) (f : Fate) (more : List ℕ) (Rest : List ℕ → Type 0) → HasCommandFate asset says a f → Rest more →
      Goes (IsAllowedCommand asset says a) (spelling a) [] Rest ((if goes_on f then spelling a else []) ++ more)
  one_command a fate.Carried more Rest has r = absurd (never_carried asset says a has)
  one_command a (fate.Admitted used) more Rest has r = inl ((admits_what_is_allowed asset says a (fate.Admitted used) has).0 refl, (more, refl, r))
  one_command a f more Rest has r = inr (λ allowed. cc ((admits_what_is_allowed asset says a f has).1 allowed), (more, refl, r))

  -- IEC 60870-5-104
  module _ (earlier : List Judged) (receive : ℕ) (asdu : List ℕ) (more : List ℕ) (Rest : List ℕ → Type 0) (r : Rest more) where
    abbrev here : ApduValue
    here = stamped (admitted_stamp (events_of earlier) receive) asdu

    abbrev put : Fate → List ℕ
    put f = if goes_on f then apdu_spelling here else ack_output earlier f receive

    abbrev Asdu : Fate → Type 0
    Asdu f = Goes (IsAllowedAsdu asset says asdu) (apdu_spelling here) (ack_octets (owed_ack (events_of earlier) receive)) Rest (put f ++ more)

    abbrev why_refused : Decider → Reason → ℕ → Refusal
    why_refused decided because point = record { decider = decided; reason = because; act = act_of_code (slice_index asdu 0) point }

    refused_asdu : (x : Refusal) → (IsAllowedAsdu asset says asdu → ⊥) → Asdu (fate.Refused x)
    refused_asdu x n = inr (n, (more, refl, r))

    by_acts : (used : Admission) (x : Option Refusal) → (is_admitted (by_refusal used x) ≡ true → IsAllowedAsdu asset says asdu) → (IsAllowedAsdu asset says asdu → is_admitted (by_refusal used x) ≡ true) → Asdu (by_refusal used x)
    by_acts used None to from = inl (to refl, (more, refl, r))
    by_acts used (Some x) to from = refused_asdu x (λ a. cc (from a))

    by_form : (o : Option AsduRefusal) → o ≡ first_refusal (asdu_in asdu) → 9 ≤ length asdu → station_of asdu ≡ asset.station → Asdu (fate_by_form asset says asdu o)
    by_form (Some x) is long station = refused_asdu (why_refused decider.Form (refusal_reason x) 0) (λ a. (let f = a.form in cc (is, f)))
    by_form None is long station =
        by_acts (admission asset says (asdus.acts (asdu_in asdu))) (policy.first_refusal says (asdus.acts (asdu_in asdu)))
        (λ e. record { whole = long; station = station; form = sym is; each = to_allowed asset says (asdus.acts (asdu_in asdu)) e })
        (λ a. from_allowed asset says (asdus.acts (asdu_in asdu)) a.each)

    one_asdu : Asdu (fate_of_asdu asset says asdu)
    one_asdu =
        cond_both (nat_lt (length asdu) 9) (asdu_refused decider.Form (refusal_reason refusal.Short) asdu 0)
        (if nat_eq (station_of asdu) asset.station then fate_by_form asset says asdu (first_refusal (asdu_in asdu)) else asdu_refused decider.Station reason.Station asdu (station_of asdu))
        Asdu
        (λ e. refused_asdu (why_refused decider.Form (refusal_reason refusal.Short) 0) (λ a. (let long = a.whole in let short = ltb-true (length asdu) 9 e in absurd (omega (arith, long, short)))))
        (λ long. cond_both (nat_eq (station_of asdu) asset.station) (fate_by_form asset says asdu (first_refusal (asdu_in asdu))) (asdu_refused decider.Station reason.Station asdu (station_of asdu))
        Asdu
        (λ e. by_form (first_refusal (asdu_in asdu)) refl (ltb-false (length asdu) 9 long) (eqb-true (station_of asdu) asset.station e))
        (λ e. refused_asdu (why_refused decider.Station reason.Station (station_of asdu)) (λ a. (let is = eq-eqb (station_of asdu) asset.station a.station in cc (e, is)))))

    one_info : (cut : Option CutReason) → InfoGoes cut asset says earlier receive asdu Rest (put (or_cut cut (fate_of_asdu asset says asdu)) ++ more)
    one_info None = one_asdu
    one_info (Some because) = (more, refl, r)

  module _ (earlier : List Judged) (more : List ℕ) (Rest : List ℕ → Type 0) (r : Rest more) where
    one_ack : (receive : ℕ) (cut : Option CutReason) →
        AckGoes cut earlier receive Rest (apdu_output side.Controller earlier (or_cut cut fate.Carried) side.Client (Ack receive) ++ more)
    one_ack receive None = (more, refl, r)
    one_ack receive (Some because) = (more, refl, r)

    one_apdu : (a : ApduValue) → ApduGoes asset says earlier a Rest (apdu_output side.Controller earlier (fate_of_apdu asset says side.Client earlier a) side.Client a ++ more)
    one_apdu (Info send receive asdu) = one_info earlier receive asdu more Rest r (info_cut side.Client earlier send receive)
    one_apdu (Ack receive) = one_ack receive (ack_cut side.Client earlier receive)
    one_apdu (Control octet) = (more, refl, r)

    -- DNP3
    abbrev frames : List ℕ → List ℕ
    frames octets = fragment_frames asset side.Controller earlier octets

    abbrev out : Fate → List (List ℕ) → List ℕ
    out f whole = flat_map frames (if goes_on f then whole else [])

    by_fragment_acts : (octets : List ℕ) (v : FragmentValue) → read_octets octets ≡ Ok v → (used : Admission) (x : Option Refusal) → (is_admitted (by_refusal used x) ≡ true → AreAllowed says (fragments.acts v)) →
        (AreAllowed says (fragments.acts v) → is_admitted (by_refusal used x) ≡ true) →
        Goes (IsAllowedFragment asset says octets) (frames octets) [] Rest (out (by_refusal used x) (octets ∷ []) ++ more)
    by_fragment_acts octets v is used None to from =
        inl (record { value = v; form = is; each = to refl }, leave (frames octets) (frames octets ++ []) more Rest (append-nil (frames octets)) r)
    by_fragment_acts octets v is used (Some x) to from =
        inr (
          λ a. (let same : v ≡ a.value = (let f = a.form in cc (is, f)) in
              let each = subst (λ w. AreAllowed says (fragments.acts w)) (sym same) a.each in cc (from each)),
          (more, refl, r),
        )

    by_code : (octets : List ℕ) (v : FragmentValue) → read_octets octets ≡ Ok v → (b : Bool) →
        CommandGoes b asset says earlier octets Rest (out (if b then fate.Carried else fate_of_acts asset says (fragments.acts v)) (octets ∷ []) ++ more)
    by_code octets v is true = leave (frames octets) (frames octets ++ []) more Rest (append-nil (frames octets)) r
    by_code octets v is false =
        by_fragment_acts octets v is (admission asset says (fragments.acts v)) (policy.first_refusal says (fragments.acts v)) (to_allowed asset says (fragments.acts v)) (from_allowed asset says (fragments.acts v))

    by_read : (octets : List ℕ) (code : ℕ) (rd : Result FragmentValue FragmentRefusal) → read_octets octets ≡ rd →
        CommandGoes (confirms rd) asset says earlier octets Rest (out (fate_of_read asset says code rd) (octets ∷ []) ++ more)
    by_read octets code (Ok v) is = by_code octets v is (nat_eq v.code 0)
    by_read octets code (Err e) is = inr (λ a. (let f = a.form in cc (is, f)), (more, refl, r))

    by_short : (octets : List ℕ) (b : Bool) →
        FragmentGoes b asset says earlier octets Rest (out (if b then fate.Stray why.Short else fate_of_fragment asset says side.Client octets) (octets ∷ []) ++ more)
    by_short octets true = (more, refl, r)
    by_short octets false = by_read octets (slice_index octets 1) (read_octets octets) refl

    by_segment : (answer : SegmentAnswer) (last : Option (List ℕ)) →
        WholeGoes (completed answer last) asset says earlier Rest (out (fate_of_segment asset says side.Client answer (completed answer last)) (completed answer last) ++ more)
    by_segment answers.Whole (Some octets) = by_short octets (nat_lt (length octets) 2)
    by_segment answer last = (more, refl, r)

    module _ (x : FrameValue) where
      abbrev whole : List (List ℕ)
      whole = whole_now asset side.Client earlier x

      abbrev frame_fate : Bool → Option Why → Fate
      frame_fate d (Some because) = fate.Stray because
      frame_fate d None = if d then fate_of_segment asset says side.Client (answer_now asset side.Client earlier x) whole else fate.Carried

      fate_is : (o : Option Why) → fate_of_frame asset says side.Client earlier x o ≡ frame_fate (is_data x) o
      fate_is None = refl
      fate_is (Some because) = refl

      abbrev frame_put : Bool → Fate → List ℕ
      frame_put d f = if d then flat_map frames (if d then (if goes_on f then whole else []) else []) else (if goes_on f then frame_spelling x else [])

      by_frame : (d : Bool) (o : Option Why) → FrameGoes (is_none o) d asset says earlier x Rest (frame_put d (frame_fate d o) ++ more)
      by_frame true None = by_segment (answer_now asset side.Client earlier x) (last_fragment (user_of x.blocks ∷ segments_of asset side.Client earlier))
      by_frame false None = (more, refl, r)
      by_frame d o = (more, refl, r)

      one_frame : (j : Judged) → j.item ≡ Took side.Client (Frame x) → j.fate ≡ fate_of_frame asset says side.Client earlier x (stray_of asset side.Client x) →
          FrameGoes (is_none (stray_of asset side.Client x)) (is_data x) asset says earlier x Rest (frame_output asset side.Controller earlier j side.Client x ++ more)
      one_frame j item f =
          let o = stray_of asset side.Client x in
          let same : frame_output asset side.Controller earlier j side.Client x ≡ frame_put (is_data x) (frame_fate (is_data x) o) =
          ap (λ i. if is_data x then flat_map frames (fragment_in asset side.Controller earlier j i) else (if goes_on j.fate then frame_spelling x else [])) item
          ∙ ap (frame_put (is_data x)) (f ∙ fate_is o) in
          subst (λ xs. FrameGoes (is_none o) (is_data x) asset says earlier x Rest (xs ++ more)) (sym same) (by_frame (is_data x) o)

  one_item : (earlier : List Judged) (j : Judged) (i : Item) (more : List ℕ) (Rest : List ℕ → Type 0) → j.item ≡ i → HasItemFate asset says earlier i j.fate → Rest more →
      ItemGoes asset says earlier i Rest (item_output asset side.Controller earlier j i ++ more)
  one_item earlier j (Took side.Client (Adu a)) more Rest is has r = one_command a j.fate more Rest has r
  one_item earlier j (Took side.Client (Frame x)) more Rest is has r = one_frame earlier more Rest r x j is has
  one_item earlier j (Took side.Client (Apdu a)) more Rest is has r =
      subst (λ f. ApduGoes asset says earlier a Rest (apdu_output side.Controller earlier f side.Client a ++ more)) (sym has) (one_apdu earlier more Rest r a)
  one_item earlier j (Took side.Controller (Frame x)) more Rest is has r =
      let none : item_output asset side.Controller earlier j (Took side.Controller (Frame x)) ≡ [] =
      ap (λ i. if is_data x then flat_map (fragment_frames asset side.Controller earlier) (fragment_in asset side.Controller earlier j i) else []) is ∙ nothing_put (fragment_frames asset side.Controller earlier) (is_data x) in
      leave [] (item_output asset side.Controller earlier j (Took side.Controller (Frame x))) more Rest none r
  one_item earlier j i more Rest is has r = (more, refl, r)

module _ (site : SiteValue) (client : Caller) where
  pass : (earlier js : List Judged) → HaveFates site client earlier js → Passes site client earlier js (in_turn (output site side.Controller) earlier js)
  pass earlier [] fates = refl
  pass earlier (j ∷ js) fates =
      let k = item_place site j.item in
      one_item (asset_of site k) (says_at (asset_of site k) (own k client) (part site k earlier) j.moment) (bears j.item earlier (part site k earlier)) j j.item
      (in_turn (output site side.Controller) (earlier ++ j ∷ []) js) (Passes site client (earlier ++ j ∷ []) js) refl fates.0
      (pass (earlier ++ j ∷ []) js fates.1)

pub lane_passes_allowed : LanePassesAllowed
lane_passes_allowed site client h js a = pass site client [] js a.fates
