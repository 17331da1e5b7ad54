-- Units without a complaint are let through.
use Rattle.std.proofs.Common.{◌≡◌, ◌-◌, ℕ, List, [], ◌∷◌, ◌++◌, Bool, true, false, Option, None, Some, Result, Ok, Err, if◌then◌else◌, length, drop, nat_eq, nat_lt, slice_index, refl, sym, subst}
use Rattle.cf_unobjected.proofs.Common.{Adu, AduValue, AllByRecursion, Apdu, AreRead, Asset, Frame, FrameValue, HasCommandFate, HasSiteFate, IsPartial, Judged, Protocol, SiteValue, SpellsUnit, UnitValue, Whole, asset_for, complaint_of, fate_by_asdu, fate_of_fragment, fate_of_frame, fate_of_segment, fate_of_whole, is_data, none-some, of_its_acts, of_no_form, of_other_station, part, place_for, stray_of, verdict_of}
use Rattle.cf_apci.specs.Apdu.{Ack, ApduValue, Control, Info}
use Rattle.cf_asdu.specs.Asdu.{station_of}
use Rattle.cf_asdu.specs.declared.AsduRefusal.{AsduRefusal}
use Rattle.cf_audit.specs.declared.Why.{Why}
use Rattle.cf_dnpobj.specs.Acts.{acts}
use Rattle.cf_dnpobj.specs.Fragment.{FragmentValue, read_octets}
use Rattle.cf_dnpobj.specs.declared.FragmentRefusal.{FragmentRefusal}
use Rattle.cf_dnptrans.specs.declared.SegmentAnswer.{SegmentAnswer}
use Rattle.cf_lane.specs.Acts.{admission, by_refusal, fate_of_acts, first_refusal}
use Rattle.cf_lane.specs.Dnp3.{answer_now, fate_of_read, whole_now}
use Rattle.cf_lane.specs.Iec104.{asdu_in, fate_by_form, fate_of_asdu}
use Rattle.cf_lane.specs.Rates.{Says}
use Rattle.cf_lane.specs.declared.Admission.{Admission}
use Rattle.cf_lane.specs.declared.Fate.{Fate}
use Rattle.cf_lane.specs.declared.Refusal.{Refusal}
use Rattle.cf_view.specs.Units.{BeginsWithUnits}
use Rattle.cf_view.specs.declared.Act.{Act}
use Rattle.cf_unobjected.specs.Allowed.{AreLetThrough, DecodesToAllowed, IsLetThrough}
use Rattle.cf_dnptrans.specs.declared.SegmentAnswer.TheVariants as answers
use Rattle.cf_lane.specs.declared.Fate.TheVariants as fate
use Rattle.cf_policy.specs.declared.Protocol.TheVariants as protocol
use Rattle.cf_view.specs.declared.Side.TheVariants as side
use Rattle.cf_asdu.specs.Asdu as asdus

-- ---- which fates a unit may have

-- the fates of whole commands, and of what is carried
abbrev IsRuled : Fate → Type 0
IsRuled (fate.Admitted used) = Unit {0}
IsRuled fate.Carried = Unit {0}
IsRuled (fate.Refused refusal) = Unit {0}
IsRuled (fate.Stray because) = ⊥
IsRuled fate.Lengthens = ⊥
IsRuled (fate.Cuts because) = ⊥

-- and those of a frame
abbrev IsUncut : Fate → Type 0
IsUncut (fate.Cuts because) = ⊥
IsUncut f = Unit {0}

ruled_through : (p : Protocol) (f : Fate) → IsRuled f → complaint_of f ≡ None → IsLetThrough p f
ruled_through p (fate.Admitted used) r e = tt
ruled_through p fate.Carried r e = tt
ruled_through p (fate.Refused refusal) r e = absurd (none-some _ (sym e))
ruled_through p (fate.Stray because) r e = absurd r
ruled_through p fate.Lengthens r e = absurd r
ruled_through p (fate.Cuts because) r e = absurd r

uncut_through : (f : Fate) → IsUncut f → complaint_of f ≡ None → IsLetThrough protocol.Dnp3 f
uncut_through (fate.Admitted used) r e = tt
uncut_through fate.Carried r e = tt
uncut_through (fate.Refused refusal) r e = absurd (none-some _ (sym e))
uncut_through (fate.Stray because) r e = absurd (none-some _ (sym e))
uncut_through fate.Lengthens r e = refl
uncut_through (fate.Cuts because) r e = absurd r

either : (P : Fate → Type 0) (b : Bool) (f g : Fate) → P f → P g → P (if b then f else g)
either P true f g p q = p
either P false f g p q = q

ruled_uncut : (f : Fate) → IsRuled f → IsUncut f
ruled_uncut (fate.Admitted used) r = tt
ruled_uncut fate.Carried r = tt
ruled_uncut (fate.Refused refusal) r = tt
ruled_uncut (fate.Stray because) r = tt
ruled_uncut fate.Lengthens r = tt
ruled_uncut (fate.Cuts because) r = r

ruled_by : (used : Admission) (o : Option Refusal) → IsRuled (by_refusal used o)
ruled_by used None = tt
ruled_by used (Some refusal) = tt

module _ (asset : Asset) (says : Says) where
  ruled_acts : (all : List Act) → IsRuled (fate_of_acts asset says all)
  ruled_acts all = ruled_by (admission asset says all) (first_refusal says all)

  ruled_adu : (a : AduValue) (f : Fate) → HasCommandFate asset says a f → IsRuled f
  ruled_adu a f (of_other_station d e) = subst IsRuled (sym e) tt
  ruled_adu a f (of_no_form s refusal r e) = subst IsRuled (sym e) tt
  ruled_adu a f (of_its_acts s r p e) = subst IsRuled (sym e) (ruled_acts _)

  ruled_form : (octets : List ℕ) (o : Option AsduRefusal) → IsRuled (fate_by_form asset says octets o)
  ruled_form octets (Some refusal) = tt
  ruled_form octets None = ruled_acts _

  ruled_asdu : (octets : List ℕ) → IsRuled (fate_of_asdu asset says octets)
  ruled_asdu octets =
      either IsRuled (nat_lt (length octets) 9) _ _ tt
      (either IsRuled (nat_eq (station_of octets) asset.station) _ _ (ruled_form octets (asdus.first_refusal (asdu_in octets))) tt)

  uncut_read : (code : ℕ) (r : Result FragmentValue FragmentRefusal) → IsUncut (fate_of_read asset says code r)
  uncut_read code (Ok f) = either IsUncut (nat_eq f.code 0) fate.Carried (fate_of_acts asset says (acts f)) tt (ruled_uncut (fate_of_acts asset says (acts f)) (ruled_acts (acts f)))
  uncut_read code (Err refusal) = tt

  uncut_whole : (whole : List (List ℕ)) → IsUncut (fate_of_whole asset says side.Client whole)
  uncut_whole [] = tt
  uncut_whole (octets ∷ none) =
      either IsUncut (nat_lt (length octets) 2) _ (fate_of_fragment asset says side.Client octets) tt (uncut_read (slice_index octets 1) (read_octets octets))

  uncut_segment : (answer : SegmentAnswer) (whole : List (List ℕ)) → IsUncut (fate_of_segment asset says side.Client answer whole)
  uncut_segment answers.More whole = tt
  uncut_segment (answers.Dropped because) whole = tt
  uncut_segment answers.Whole whole = uncut_whole whole

  uncut_frame : (earlier : List Judged) (x : FrameValue) (stray : Option Why) → IsUncut (fate_of_frame asset says side.Client earlier x stray)
  uncut_frame earlier x (Some because) = tt
  uncut_frame earlier x None =
      either IsUncut (is_data x) (fate_of_segment asset says side.Client (answer_now asset side.Client earlier x) (whole_now asset side.Client earlier x)) fate.Carried
      (uncut_segment (answer_now asset side.Client earlier x) (whole_now asset side.Client earlier x)) tt

ruled_apdu : (asset : Asset) (client : ℕ) (a : ApduValue) → IsRuled (fate_by_asdu asset client a)
ruled_apdu asset client (Info send receive asdu) = ruled_asdu asset (verdict_of asset client) asdu
ruled_apdu asset client (Ack receive) = tt
ruled_apdu asset client (Control octet) = tt

of_dnp3 : (p : Protocol) (x : FrameValue) (octets : List ℕ) → SpellsUnit p (Frame x) octets → p ≡ protocol.Dnp3
of_dnp3 protocol.Modbus x octets s = absurd s
of_dnp3 protocol.Dnp3 x octets s = refl
of_dnp3 protocol.Iec104 x octets s = absurd s

-- ---- a unit, and those of a flow

module _ (site : SiteValue) (client : ℕ) where
  through : (earlier : List Judged) (u : UnitValue) (f : Fate) (octets : List ℕ) → SpellsUnit site.first.protocol u octets → HasSiteFate site client earlier u f → complaint_of f ≡ None →
      IsLetThrough site.first.protocol f
  through earlier (Adu a) f octets s h e = ruled_through site.first.protocol f (ruled_adu (asset_for site side.Client (Adu a)) (verdict_of (asset_for site side.Client (Adu a)) client) a f h) e
  through earlier (Apdu a) f octets s h e = ruled_through site.first.protocol f (subst IsRuled (sym h) (ruled_apdu (asset_for site side.Client (Apdu a)) client a)) e
  through earlier (Frame x) f octets s h e =
      let own = asset_for site side.Client (Frame x) in
      let fits : IsUncut f = subst IsUncut (sym h) (uncut_frame own (verdict_of own client) (part site (place_for site side.Client (Frame x)) earlier) x (stray_of own side.Client x)) in
      subst (λ p. IsLetThrough p f) (sym (of_dnp3 site.first.protocol x octets s)) (uncut_through f fits e)

  record Decodes (earlier : List Judged) (bytes : List ℕ) : Type 0 where
    units : List UnitValue
    rest : List ℕ
    starts : BeginsWithUnits (SpellsUnit site.first.protocol) units bytes rest
    partial : IsPartial (SpellsUnit site.first.protocol) rest
    let_through : AreLetThrough site client earlier units

  decodes : (earlier : List Judged) (bytes born : List ℕ) (js : List Judged) → AreRead site client earlier bytes born js Whole → AllByRecursion (λ j. complaint_of j.fate ≡ None) js →
      Decodes earlier bytes
  decodes earlier bytes born [] are fine = record { units = []; rest = bytes; starts = refl; partial = are; let_through = tt }
  decodes earlier bytes born (j ∷ js) (unit, n, begins, some, is, has, behind) fine =
      let later = decodes (earlier ++ j ∷ []) (drop n bytes) (drop n born) js behind fine.1 in
      record {
        units = unit ∷ later.units;
        rest = later.rest;
        starts = (n, begins, later.starts);
        partial = later.partial;
        let_through = (
          slice_index born (n - 1),
          j.fate,
          has,
          through earlier unit j.fate _ begins.spells has fine.0,
          subst (λ i. AreLetThrough site client (earlier ++ i ∷ []) later.units) is later.let_through,
        );
      }

  pub decodes_to_allowed : (bytes born : List ℕ) (js : List Judged) → AreRead site client [] bytes born js Whole → AllByRecursion (λ j. complaint_of j.fate ≡ None) js → DecodesToAllowed site client bytes
  decodes_to_allowed bytes born js are fine =
      let d = decodes [] bytes born js are fine in
      record { units = d.units; rest = d.rest; are_units = record { starts = d.starts; partial = d.partial }; let_through = d.let_through }
