use Rattle.std.proofs.Common.{arith, refl, subst, sym}
use Rattle.cf_modbus.specs.Adu.{adu_value}
use Rattle.cf_lane.specs.Modbus.{HasCommandFate}
use Rattle.cf_lane.specs.Unit.{Adu, SpellsUnit}
use Rattle.cf_policy.specs.Verdict.{verdict_of}
use Rattle.cf_policy.specs.declared.Asset.{Asset}
use Rattle.cf_view.specs.Framing.{BreaksAt}
use Rattle.cf_lane.proofs.Units.{adus}
use Rattle.cf_judge.proofs.Fronts.{some_octet, told_break, told_partial, told_unit}
use Rattle.cf_judge.proofs.Readers.{asset_is, own_index, reader_on}
use Rattle.cf_judge.proofs.front.next_of_modbus.Goals as goal

pub own_at-requires : goal.own_at-requires
own_at-requires c = omega (arith, c.place_for_adu-place.ensures.inside, c.requires.one_each)

pub returns-in-Unit : goal.returns-in-Unit
returns-in-Unit c =
    let site = c.args.site.now in
    let p = site.first.protocol in
    let a = adu_value c.in-Unit.unit in
    let place = c.place_for_adu-place.result in
    let asset = c.asset.result.now in
    let b = told_unit (adus p c.requires.modbus) c.all.result.bytes c.args.bytes.now.bytes a c.in-Unit.used c.all.ensures c.in-Unit.ensures.true_answer in
    record {
      front = λ client earlier r h i.
          (let ruled = c.judge_adu-ruling.ensures.ruling client (own_index site client earlier r c.args.own.now place c.own_at.result.now asset h i c.own_at.ensures c.asset.ensures) in
          record {
            unit = Adu a;
            begins = b;
            some = some_octet p c.args.bytes.now.bytes (Adu a) c.in-Unit.used b;
            is_for = c.place_for_adu-place.ensures.place;
            inside = c.place_for_adu-place.ensures.inside;
            fate = ruled.0;
            has_fate = subst (λ own. HasCommandFate own (verdict_of own client) a ruled.0) (asset_is site (Adu a) place asset c.asset.ensures c.place_for_adu-place.ensures.place) ruled.1;
            counts = ruled.2;
            whole = λ refusal told is. absurd (cc (is, c.requires.modbus));
            goes_on = λ number. reader_on site client earlier number (Adu a) _ r (λ own. refl) h;
          });
    }

pub returns-in-More : goal.returns-in-More
returns-in-More c = record { front = λ client earlier r h i. told_partial (adus c.args.site.now.first.protocol c.requires.modbus) c.all.result.bytes c.args.bytes.now.bytes c.all.ensures c.in-More.ensures.true_answer }

pub returns-in-Broken : goal.returns-in-Broken
returns-in-Broken c = record {
  front = λ client earlier r h i. told_break (adus c.args.site.now.first.protocol c.requires.modbus) c.all.result.bytes c.args.bytes.now.bytes c.in-Broken.reason c.break_place.result c.all.ensures
      c.in-Broken.ensures.true_answer (λ place breaks. c.break_place.ensures place (subst (λ (own : Asset). BreaksAt (SpellsUnit own.protocol) c.args.bytes.now.bytes place) (sym c.first.ensures) breaks));
}
