-- The octets of a command that was refused.
use Rattle.std.proofs.Common.{List, [], ◌∷◌, ◌++◌, Bool, true, false, Option, Some, None, ap, cond, refl, subst, sym, ℕ, ◌∙◌, ◌≡◌}
use Rattle.std.proofs.lemmas.List.{append-nil}
use Rattle.std.specs.List.{flat_map}
use Rattle.cf_audit.specs.declared.line.Why.{Why}
use Rattle.cf_dnplink.specs.LinkFrame.{FrameValue}
use Rattle.cf_dnplink.specs.UserOctets.{user_of}
use Rattle.cf_dnptrans.specs.AssemblyValue.{IsAssemblyOf}
use Rattle.cf_dnptrans.specs.Passing.{completed}
use Rattle.cf_dnptrans.specs.Transport.{last_fragment}
use Rattle.cf_dnptrans.specs.declared.assembly.SegmentAnswer.{SegmentAnswer}
use Rattle.cf_dnptrans.specs.declared.assembly.SegmentAnswer.TheVariants as answers
use Rattle.cf_lane.proofs.Earlier.{segments_of-more}
use Rattle.cf_lane.specs.Dnp3.{answer_now, fate_of_frame, fate_of_segment, frame_octets, is_data, segment_in, segments_of, stray_of, whole_now}
use Rattle.cf_lane.specs.Item.{Took}
use Rattle.cf_lane.specs.Judged.{Judged}
use Rattle.cf_lane.specs.Log.{command_octets}
use Rattle.cf_lane.specs.Rates.{Says}
use Rattle.cf_lane.specs.Unit.{Adu, Apdu, Frame, SpellsUnit, UnitValue}
use Rattle.cf_lane.specs.declared.fate.Fate.{Fate}
use Rattle.cf_lane.specs.declared.fate.Fate.TheVariants as fate
use Rattle.cf_lane.specs.declared.fate.Refusal.{Refusal}
use Rattle.cf_policy.specs.Verdict.{verdict_of}
use Rattle.cf_policy.specs.declared.Asset.{Asset}
use Rattle.cf_policy.specs.declared.Protocol.{Protocol}
use Rattle.cf_policy.specs.declared.Protocol.TheVariants as protocol
use Rattle.cf_view.specs.declared.Side.TheVariants as side
use Rattle.cf_judge.specs.Front.{IsOwnReaderOf}
use Rattle.cf_judge.specs.Plain.{HasPlainFate, completed_in, frame_fate}
use Rattle.cf_judge.specs.declared.front.OwnReader.{OwnReader}

module _ (asset : Asset) (earlier : List Judged) where
  by_adu : (u : UnitValue) (xs : List ℕ) → SpellsUnit protocol.Modbus u xs → xs ≡ command_octets asset earlier side.Client u
  by_adu (Adu a) xs s = s.spelled
  by_adu (Frame x) xs s = absurd s
  by_adu (Apdu a) xs s = absurd s

  by_apdu : (u : UnitValue) (xs : List ℕ) → SpellsUnit protocol.Iec104 u xs → xs ≡ command_octets asset earlier side.Client u
  by_apdu (Adu a) xs s = absurd s
  by_apdu (Frame x) xs s = absurd s
  by_apdu (Apdu a) xs s = s.spelled

  pub shown_adu : (p : Protocol) (u : UnitValue) (xs : List ℕ) → p ≡ protocol.Modbus → SpellsUnit p u xs → xs ≡ command_octets asset earlier side.Client u
  shown_adu p u xs is s = by_adu u xs (subst (λ q. SpellsUnit q u xs) is s)

  pub shown_apdu : (p : Protocol) (u : UnitValue) (xs : List ℕ) → p ≡ protocol.Iec104 → SpellsUnit p u xs → xs ≡ command_octets asset earlier side.Client u
  shown_apdu p u xs is s = by_apdu u xs (subst (λ q. SpellsUnit q u xs) is s)

-- a frame whose command is refused is served, has data and makes its fragment whole
module _ (asset : Asset) (says : Says) (refusal : Refusal) where
  served : (earlier : List Judged) (x : FrameValue) (stray : Option Why) → fate.Refused refusal ≡ fate_of_frame asset says side.Client earlier x stray →
      (stray ≡ None) × (fate.Refused refusal ≡ fate_of_frame asset says side.Client earlier x None)
  served earlier x None e = (refl, e)
  served earlier x (Some why) e = cc e

  has_data : (is : Bool) (f : Fate) → fate.Refused refusal ≡ cond is f fate.Carried → (is ≡ true) × (fate.Refused refusal ≡ f)
  has_data true f e = (refl, e)
  has_data false f e = cc e

  whole : (answer : SegmentAnswer) (last : Option (List ℕ)) (octets : List ℕ) → last ≡ Some octets → fate.Refused refusal ≡ fate_of_segment asset says side.Client answer (completed answer last) →
      octets ≡ flat_map (λ (xs : List ℕ). xs) (completed answer last)
  whole answers.More last octets l e = cc e
  whole (answers.Dropped why) last octets l e = cc e
  whole answers.Whole last octets l e = subst (λ o. octets ≡ flat_map (λ (xs : List ℕ). xs) (completed answers.Whole o)) (sym l) (sym (append-nil octets))

module _ (asset : Asset) (client : ℕ) (earlier : List Judged) (number : ℕ) (refusal : Refusal) (o : OwnReader) where
  is_segment : (x : FrameValue) → stray_of asset side.Client x ≡ None → is_data x ≡ true → segment_in asset side.Client (Took side.Client (Frame x)) ≡ user_of x.blocks ∷ []
  is_segment x a b = rw (a, b) refl

  by_frame : (x : FrameValue) (octets : List ℕ) → ((segments : List (List ℕ)) → IsAssemblyOf o.assembly segments → last_fragment segments ≡ Some octets) →
      IsAssemblyOf o.assembly (segments_of asset side.Client (earlier ++ completed_in number (Frame x) (fate.Refused refusal) ∷ [])) →
      fate.Refused refusal ≡ frame_fate asset client earlier x → octets ≡ frame_octets asset earlier side.Client x
  by_frame x octets told keeps e =
      let says = verdict_of asset client in
      let s = served asset says refusal earlier x (stray_of asset side.Client x) e in
      let d = has_data asset says refusal (is_data x) (fate_of_segment asset says side.Client (answer_now asset side.Client earlier x) (whole_now asset side.Client earlier x)) s.1 in
      let more : segments_of asset side.Client (earlier ++ completed_in number (Frame x) (fate.Refused refusal) ∷ []) ≡ user_of x.blocks ∷ segments_of asset side.Client earlier =
      segments_of-more asset side.Client earlier (completed_in number (Frame x) (fate.Refused refusal)) ∙ ap (λ xs. xs ++ segments_of asset side.Client earlier) (is_segment x s.0 d.0) in
      whole asset says refusal (answer_now asset side.Client earlier x) (last_fragment (user_of x.blocks ∷ segments_of asset side.Client earlier)) octets
      (told (user_of x.blocks ∷ segments_of asset side.Client earlier) (subst (IsAssemblyOf o.assembly) more keeps)) d.1

  by_unit : (u : UnitValue) (xs octets : List ℕ) → SpellsUnit protocol.Dnp3 u xs → ((segments : List (List ℕ)) → IsAssemblyOf o.assembly segments → last_fragment segments ≡ Some octets) →
      IsOwnReaderOf asset client (earlier ++ completed_in number u (fate.Refused refusal) ∷ []) o → HasPlainFate asset client earlier u (fate.Refused refusal) →
      octets ≡ command_octets asset earlier side.Client u
  by_unit (Adu a) xs octets s told h f = absurd s
  by_unit (Frame x) xs octets s told h f = by_frame x octets told h.assembly f
  by_unit (Apdu a) xs octets s told h f = absurd s

  pub shown_fragment : (p : Protocol) (u : UnitValue) (xs octets : List ℕ) → p ≡ protocol.Dnp3 → SpellsUnit p u xs →
      ((segments : List (List ℕ)) → IsAssemblyOf o.assembly segments → last_fragment segments ≡ Some octets) →
      IsOwnReaderOf asset client (earlier ++ completed_in number u (fate.Refused refusal) ∷ []) o → HasPlainFate asset client earlier u (fate.Refused refusal) →
      octets ≡ command_octets asset earlier side.Client u
  shown_fragment p u xs octets is s told h f = by_unit u xs octets (subst (λ q. SpellsUnit q u xs) is s) told h f
