use Rattle.std.proofs.Common.{◌∙◌, ap, arith, refl, subst, sym}
use Rattle.cf_apci.specs.Apdu.{apdu_value}
use Rattle.cf_lane.specs.Site.{asset_for}
use Rattle.cf_lane.specs.Unit.{Apdu, SpellsUnit}
use Rattle.cf_policy.specs.declared.Asset.{Asset}
use Rattle.cf_view.specs.Framing.{BreaksAt}
use Rattle.cf_lane.proofs.Units.{apdus}
use Rattle.cf_judge.specs.Plain.{fate_by_asdu}
use Rattle.cf_judge.specs.Ruling.{ruling_of}
use Rattle.cf_judge.proofs.Fronts.{some_octet, told_break, told_partial, told_unit}
use Rattle.cf_judge.proofs.Readers.{asset_is, own_index, reader_on}
use Rattle.cf_view.specs.declared.Side.TheVariants as side
use Rattle.cf_judge.proofs.front.next_of_iec104.Goals as goal

pub own_at-requires : goal.own_at-requires
own_at-requires c = omega (arith, c.place_for_apdu-place.ensures.inside, c.requires.one_each)

pub returns-in-Unit : goal.returns-in-Unit
returns-in-Unit c =
    let site = c.args.site.now in
    let p = site.first.protocol in
    let x = apdu_value c.in-Unit.unit in
    let place = c.place_for_apdu-place.result in
    let asset = c.asset.result.now in
    let own = asset_is site (Apdu x) place asset c.asset.ensures c.place_for_apdu-place.ensures.place in
    let b = told_unit (apdus p c.requires.iec104) c.all.result.bytes c.args.bytes.now.bytes x c.in-Unit.used c.all.ensures c.in-Unit.ensures.true_answer in
    record {
      front = λ client earlier r h i. record {
        unit = Apdu x;
        begins = b;
        some = some_octet p c.args.bytes.now.bytes (Apdu x) c.in-Unit.used b;
        is_for = c.place_for_apdu-place.ensures.place;
        inside = c.place_for_apdu-place.ensures.inside;
        fate = fate_by_asdu (asset_for site side.Client (Apdu x)) client x;
        has_fate = refl;
        counts = c.judge_apdu-ruling.ensures.ruling client (own_index site client earlier r c.args.own.now place c.own_at.result.now asset h i c.own_at.ensures c.asset.ensures)
            ∙ ap (λ a. ruling_of (fate_by_asdu a client x)) own;
        whole = λ refusal told is. absurd (cc (is, c.requires.iec104));
        goes_on = λ number. reader_on site client earlier number (Apdu x) _ r (λ a. refl) h;
      };
    }

pub returns-in-More : goal.returns-in-More
returns-in-More c = record { front = λ client earlier r h i. told_partial (apdus c.args.site.now.first.protocol c.requires.iec104) c.all.result.bytes c.args.bytes.now.bytes c.all.ensures c.in-More.ensures.true_answer }

pub returns-in-Broken : goal.returns-in-Broken
returns-in-Broken c = record {
  front = λ client earlier r h i. told_break (apdus c.args.site.now.first.protocol c.requires.iec104) c.all.result.bytes c.args.bytes.now.bytes c.in-Broken.reason c.break_place.result c.all.ensures
      c.in-Broken.ensures.true_answer (λ place breaks. c.break_place.ensures place (subst (λ (own : Asset). BreaksAt (SpellsUnit own.protocol) c.args.bytes.now.bytes place) (sym c.first.ensures) breaks));
}
