use Rattle.std.proofs.Common.{ap, inl, inr, sym, ◌∙◌}
use Rattle.cf_apci.specs.Apdu.{ApduValue}
use Rattle.cf_lane.proofs.Places.{ack_place, control_place}
use Rattle.cf_lane.specs.Site.{place_for}
use Rattle.cf_lane.specs.Unit.{Apdu}
use Rattle.cf_apci.specs.Apdu.{apdu_value}
use Rattle.cf_lane.proofs.site.place_for_apdu.Goals as goal

pub returns-in-Info-clause-place : goal.returns-in-Info-clause-place
returns-in-Info-clause-place c =
    c.place_of_asdu.ensures.place c.args.side c.in-Info.send c.in-Info.receive
    ∙ ap (λ (a : ApduValue). place_for c.args.site.now c.args.side (Apdu a)) (sym (ap apdu_value c.in-Info.is))

pub returns-in-Ack-clause-place : goal.returns-in-Ack-clause-place
returns-in-Ack-clause-place c = elim c.in-Ack.is [
  | inl w ↦ ack_place c.args.site.now c.args.side w.0 ∙ ap (λ (a : ApduValue). place_for c.args.site.now c.args.side (Apdu a)) (sym (ap apdu_value w.1))
  | inr w ↦ control_place c.args.site.now c.args.side w.0 ∙ ap (λ (a : ApduValue). place_for c.args.site.now c.args.side (Apdu a)) (sym (ap apdu_value w.1))
]

pub returns-in-Ack-2-clause-place : goal.returns-in-Ack-2-clause-place
returns-in-Ack-2-clause-place c = elim c.in-Ack.is [
  | inl w ↦ ack_place c.args.site.now c.args.side w.0 ∙ ap (λ (a : ApduValue). place_for c.args.site.now c.args.side (Apdu a)) (sym (ap apdu_value w.1))
  | inr w ↦ control_place c.args.site.now c.args.side w.0 ∙ ap (λ (a : ApduValue). place_for c.args.site.now c.args.side (Apdu a)) (sym (ap apdu_value w.1))
]
