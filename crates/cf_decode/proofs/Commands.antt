-- Exactly the allowed commands are admitted.
use Rattle.std.proofs.Common.{Bool, Err, List, None, Ok, Option, Some, [], ap, append_assoc, arith, false, inl, inr, length, refl, subst, sym, true, ℕ, ◌++◌, ◌∙◌, ◌∷◌, ◌≡◌, ◌≤◌, if◌then◌else◌, nat_eq, nat_lt, slice_index}
use Rattle.cf_decode.proofs.Common.{Ack, Admission, Adu, Apdu, ApduValue, Asset, Caller, SiteValue, asset_of, bears, item_place, own, part, Control, Fate, Frame, FrameValue, HasItemFate, Info, Item, Judged, Refusal, Says, SegmentAnswer, Side, Took, Why, answer_now, append-nil, completed, cond_both, fate_of_acts, fate_of_fragment, fate_of_frame, fate_of_segment, is_data, last_fragment, says_at, stray_of, user_of}
use Rattle.cf_asdu.specs.Asdu.{first_refusal, refusal_reason, station_of}
use Rattle.cf_asdu.specs.declared.asdu.AsduRefusal.{AsduRefusal}
use Rattle.cf_audit.specs.declared.line.CutReason.{CutReason}
use Rattle.cf_decode.specs.Commands.{AdmitsWhatIsAllowed, Command, Allows, IsDecided, IsDecidedBy, OfDnp3, OfIec104, OfModbus, commands_by, fragment_commands, frame_commands, info_commands, whole_commands}
use Rattle.cf_dnpobj.specs.Fragment.{FragmentValue, read_octets}
use Rattle.cf_dnpobj.specs.declared.fragment.FragmentRefusal.{FragmentRefusal}
use Rattle.cf_lane.proofs.Commands.{admits_what_is_allowed, from_allowed, to_allowed}
use Rattle.cf_lane.specs.Acts.{act_of_code, by_refusal}
use Rattle.cf_lane.specs.Dnp3.{fate_of_read, is_none, segments_of, whole_now}
use Rattle.cf_lane.specs.Fate.{HasFate, HaveFates, IsOfCommand}
use Rattle.cf_lane.specs.Iec104.{asdu_in, asdu_refused, fate_by_form, fate_of_apdu, fate_of_asdu, or_cut}
use Rattle.cf_lane.specs.Judged.{is_admitted, place_of}
use Rattle.cf_lane.specs.Modbus.{HasCommandFate, of_its_acts, of_no_form, of_other_station}
use Rattle.cf_lane.specs.Numbers.{ack_cut, info_cut}
use Rattle.cf_lane.specs.Passes.{confirms}
use Rattle.cf_modbus.specs.Acts.{acts as request_acts}
use Rattle.cf_modbus.specs.Adu.{AduValue}
use Rattle.cf_policy.specs.declared.Decider.{Decider}
use Rattle.cf_view.specs.declared.Reason.{Reason}
use Rattle.std.proofs.lemmas.Bool.{eq-eqb, eqb-true, ltb-false, ltb-true}
use Rattle.std.specs.declared.result.Result.{Result}
use Rattle.cf_asdu.specs.Acts as asdus
use Rattle.cf_asdu.specs.declared.asdu.AsduRefusal.TheVariants as refusal
use Rattle.cf_audit.specs.declared.line.Why.TheVariants as why
use Rattle.cf_dnpobj.specs.Acts as fragments
use Rattle.cf_dnptrans.specs.declared.assembly.SegmentAnswer.TheVariants as answers
use Rattle.cf_lane.specs.Acts as policy
use Rattle.cf_lane.specs.declared.fate.Fate.TheVariants as fate
use Rattle.cf_policy.specs.declared.Decider.TheVariants as decider
use Rattle.cf_view.specs.declared.Reason.TheVariants as reason
use Rattle.cf_view.specs.declared.Side.TheVariants as side

module _ (asset : Asset) (says : Says) where
  abbrev Decides : List Command → Fate → Type 0
  Decides commands f = IsDecided asset says commands f

  of_command : (c : Command) (f : Fate) → IsOfCommand f → (is_admitted f ≡ true → Allows asset says c) → (Allows asset says c → is_admitted f ≡ true) → Decides (c ∷ []) f
  of_command c (fate.Admitted used) is to from = inl (refl, to refl)
  of_command c (fate.Refused x) is to from = inr (refl, λ a. cc (from a))
  of_command c _ is to from = absurd is

  by_acts : (used : Admission) (x : Option Refusal) → IsOfCommand (by_refusal used x)
  by_acts used None = tt
  by_acts used (Some x) = tt

  refused : (c : Command) (x : Refusal) → (Allows asset says c → ⊥) → Decides (c ∷ []) (fate.Refused x)
  refused c x never = inr (refl, never)

  -- Modbus
  adu_fate : (a : AduValue) (f : Fate) → HasCommandFate asset says a f → IsOfCommand f
  adu_fate a f (of_other_station station is) = subst IsOfCommand (sym is) tt
  adu_fate a f (of_no_form station x reads is) = subst IsOfCommand (sym is) tt
  adu_fate a f (of_its_acts station r reads is) = subst IsOfCommand (sym is) (by_acts (policy.admission asset says (request_acts r)) (policy.first_refusal says (request_acts r)))

  by_adu : (a : AduValue) (f : Fate) → HasCommandFate asset says a f → Decides (OfModbus a ∷ []) f
  by_adu a f has = let same = admits_what_is_allowed asset says a f has in of_command (OfModbus a) f (adu_fate a f has) same.0 same.1

  -- IEC 60870-5-104
  module _ (asdu : List ℕ) where
    abbrev one : List Command
    one = OfIec104 asdu ∷ []

    abbrev why_refused : Decider → Reason → ℕ → Refusal
    why_refused decided because point = record { decider = decided; reason = because; act = act_of_code (slice_index asdu 0) point }

    by_form : (o : Option AsduRefusal) → o ≡ first_refusal (asdu_in asdu) → 9 ≤ length asdu → station_of asdu ≡ asset.station → Decides one (fate_by_form asset says asdu o)
    by_form (Some x) is long station = refused (OfIec104 asdu) (why_refused decider.Form (refusal_reason x) 0) (λ a. (let f = a.form in cc (is, f)))
    by_form None is long station =
        let list = asdus.acts (asdu_in asdu) in
        of_command (OfIec104 asdu) (fate_of_acts asset says list) (by_acts (policy.admission asset says list) (policy.first_refusal says list))
        (λ e. record { whole = long; station = station; form = sym is; each = to_allowed asset says list e })
        (λ a. from_allowed asset says list a.each)

    by_asdu : Decides one (fate_of_asdu asset says asdu)
    by_asdu =
        cond_both (nat_lt (length asdu) 9) (asdu_refused decider.Form (refusal_reason refusal.Short) asdu 0)
        (if nat_eq (station_of asdu) asset.station then fate_by_form asset says asdu (first_refusal (asdu_in asdu)) else asdu_refused decider.Station reason.Station asdu (station_of asdu))
        (Decides one)
        (λ e. refused (OfIec104 asdu) (why_refused decider.Form (refusal_reason refusal.Short) 0) (λ a. (let long = a.whole in let short = ltb-true (length asdu) 9 e in absurd (omega (arith, long, short)))))
        (λ long. cond_both (nat_eq (station_of asdu) asset.station) (fate_by_form asset says asdu (first_refusal (asdu_in asdu))) (asdu_refused decider.Station reason.Station asdu (station_of asdu))
        (Decides one)
        (λ e. by_form (first_refusal (asdu_in asdu)) refl (ltb-false (length asdu) 9 long) (eqb-true (station_of asdu) asset.station e))
        (λ e. refused (OfIec104 asdu) (why_refused decider.Station reason.Station (station_of asdu)) (λ a. (let is = eq-eqb (station_of asdu) asset.station a.station in cc (e, is)))))

    by_info : (cut : Option CutReason) → Decides (info_commands cut asdu) (or_cut cut (fate_of_asdu asset says asdu))
    by_info None = by_asdu
    by_info (Some because) = (refl, refl)

  carried : (cut : Option CutReason) → Decides [] (or_cut cut fate.Carried)
  carried None = (refl, refl)
  carried (Some because) = (refl, refl)

  by_apdu : (earlier : List Judged) (a : ApduValue) → Decides (commands_by asset earlier (Took side.Client (Apdu a))) (fate_of_apdu asset says side.Client earlier a)
  by_apdu earlier (Info send receive asdu) = by_info asdu (info_cut side.Client earlier send receive)
  by_apdu earlier (Ack receive) = carried (ack_cut side.Client earlier receive)
  by_apdu earlier (Control octet) = (refl, refl)

  by_controllers_apdu : (earlier : List Judged) (a : ApduValue) → Decides [] (fate_of_apdu asset says side.Controller earlier a)
  by_controllers_apdu earlier (Info send receive asdu) = carried (info_cut side.Controller earlier send receive)
  by_controllers_apdu earlier (Ack receive) = carried (ack_cut side.Controller earlier receive)
  by_controllers_apdu earlier (Control octet) = (refl, refl)

  -- DNP3
  by_code : (octets : List ℕ) (v : FragmentValue) → read_octets octets ≡ Ok v → (b : Bool) →
      Decides (if b then [] else OfDnp3 octets ∷ []) (if b then fate.Carried else fate_of_acts asset says (fragments.acts v))
  by_code octets v is true = (refl, refl)
  by_code octets v is false =
      of_command (OfDnp3 octets) (fate_of_acts asset says (fragments.acts v)) (by_acts (policy.admission asset says (fragments.acts v)) (policy.first_refusal says (fragments.acts v)))
      (λ e. record { value = v; form = is; each = to_allowed asset says (fragments.acts v) e })
      (λ a. (let same : v ≡ a.value = (let f = a.form in cc (is, f)) in
      ap (λ w. is_admitted (fate_of_acts asset says (fragments.acts w))) same ∙ from_allowed asset says (fragments.acts a.value) a.each))

  by_read : (octets : List ℕ) (code : ℕ) (rd : Result FragmentValue FragmentRefusal) → read_octets octets ≡ rd →
      Decides (if confirms rd then [] else OfDnp3 octets ∷ []) (fate_of_read asset says code rd)
  by_read octets code (Ok v) is = by_code octets v is (nat_eq v.code 0)
  by_read octets code (Err e) is = inr (refl, λ a. (let f = a.form in cc (is, f)))

  by_short : (octets : List ℕ) (b : Bool) → Decides (fragment_commands b octets) (if b then fate.Stray why.Short else fate_of_fragment asset says side.Client octets)
  by_short octets true = (refl, refl)
  by_short octets false = by_read octets (slice_index octets 1) (read_octets octets) refl

  by_segment : (answer : SegmentAnswer) (last : Option (List ℕ)) → Decides (whole_commands (completed answer last)) (fate_of_segment asset says side.Client answer (completed answer last))
  by_segment answers.Whole (Some octets) = by_short octets (nat_lt (length octets) 2)
  by_segment _ _ = (refl, refl)

  by_controllers_segment : (answer : SegmentAnswer) (last : Option (List ℕ)) → Decides [] (fate_of_segment asset says side.Controller answer (completed answer last))
  by_controllers_segment answers.Whole (Some octets) =
      cond_both (nat_lt (length octets) 2) (fate.Stray why.Short) fate.Carried (Decides []) (λ short. (refl, refl)) (λ long. (refl, refl))
  by_controllers_segment _ _ = (refl, refl)

  module _ (earlier : List Judged) (x : FrameValue) where
    abbrev run : Side → Option (List ℕ)
    run s = last_fragment (user_of x.blocks ∷ segments_of asset s earlier)

    by_frame : (d : Bool) (o : Option Why) → is_data x ≡ d → Decides (frame_commands (is_none o) d (whole_now asset side.Client earlier x)) (fate_of_frame asset says side.Client earlier x o)
    by_frame d (Some because) is = (refl, refl)
    by_frame false None is = rw is (refl, refl)
    by_frame true None is = rw is (by_segment (answer_now asset side.Client earlier x) (run side.Client))

    by_controllers_frame : (o : Option Why) (d : Bool) → is_data x ≡ d → Decides [] (fate_of_frame asset says side.Controller earlier x o)
    by_controllers_frame (Some because) d is = (refl, refl)
    by_controllers_frame None false is = rw is (refl, refl)
    by_controllers_frame None true is = rw is (by_controllers_segment (answer_now asset side.Controller earlier x) (run side.Controller))

  pub by_item : (earlier : List Judged) (i : Item) (f : Fate) → HasItemFate asset says earlier i f → Decides (commands_by asset earlier i) f
  by_item earlier (Took side.Client (Adu a)) f has = by_adu a f has
  by_item earlier (Took side.Client (Frame x)) f has = subst (Decides (commands_by asset earlier (Took side.Client (Frame x)))) (sym has) (by_frame earlier x (is_data x) (stray_of asset side.Client x) refl)
  by_item earlier (Took side.Client (Apdu a)) f has = subst (Decides (commands_by asset earlier (Took side.Client (Apdu a)))) (sym has) (by_apdu earlier a)
  by_item earlier (Took side.Controller (Frame x)) f has = subst (Decides []) (sym has) (by_controllers_frame earlier x (stray_of asset side.Controller x) (is_data x) refl)
  by_item earlier (Took side.Controller (Apdu a)) f has = subst (Decides []) (sym has) (by_controllers_apdu earlier a)
  by_item earlier _ f has = subst (Decides []) (sym has) (refl, refl)

module _ (site : SiteValue) (client : Caller) where
  -- the fate of the item after earlier ones
  pub fate_behind : (before earlier later : List Judged) (j : Judged) → HaveFates site client before (earlier ++ j ∷ later) → HasFate site client (before ++ earlier) (place_of j) j.fate
  fate_behind before [] later j fates = subst (λ b. HasFate site client b (place_of j) j.fate) (sym (append-nil before)) fates.0
  fate_behind before (k ∷ earlier) later j fates =
      subst (λ b. HasFate site client b (place_of j) j.fate) (append_assoc before (k ∷ []) earlier) (fate_behind (before ++ k ∷ []) earlier later j fates.1)

  pub decided : (earlier : List Judged) (j : Judged) → HasFate site client earlier (place_of j) j.fate → IsDecidedBy site (item_place site j.item) client earlier j
  decided earlier j has =
      let k = item_place site j.item in
      by_item (asset_of site k) (says_at (asset_of site k) (own k client) (part site k earlier) j.moment) (bears j.item earlier (part site k earlier)) j.item j.fate has

pub admits_allowed : AdmitsWhatIsAllowed
admits_allowed site client h earlier later j a = decided site client earlier j (fate_behind site client [] earlier later j a.fates)
