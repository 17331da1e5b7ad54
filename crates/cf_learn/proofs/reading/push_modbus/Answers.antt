use Rattle.std.proofs.Common.{[], ◌∷◌, refl, subst, sym}
use Rattle.cf_modbus.specs.Adu.{adu_value}
use Rattle.cf_lane.proofs.Units.{adus}
use Rattle.cf_policy.specs.declared.Protocol.TheVariants.{Modbus}
use Rattle.cf_learn.specs.Reading.{Adds}
use Rattle.cf_learn.specs.Shown.{HaveAct, Request}
use Rattle.cf_learn.proofs.Adding.{have_one}
use Rattle.cf_learn.proofs.Fronts.{takes_break, takes_part, takes_unit}
use Rattle.cf_learn.proofs.reading.push_modbus.Goals as goal

pub returns-in_ok-push_adu-in-Unit : goal.returns-in_ok-push_adu-in-Unit
returns-in_ok-push_adu-in-Unit c = record {
  front = λ earlier assembly is.
      takes_unit (adus c.args.asset.now.protocol c.requires.modbus) c.args.asset.now c.args.client earlier c.all.result.bytes c.args.bytes.now.bytes c.args.seen.now.items c.push_adu.new.seen.items assembly
      (adu_value c.in-Unit.unit) c.in-Unit.used refl c.all.ensures.bytes c.in-Unit.ensures.true_answer
      (subst (λ q. Adds q c.args.client (HaveAct c.args.asset.now (Request (adu_value c.in-Unit.unit) ∷ [])) c.args.seen.now.items c.push_adu.new.seen.items) (sym c.requires.modbus)
      (have_one Modbus c.args.asset.now c.args.client c.args.seen.now.items c.push_adu.new.seen.items (Request (adu_value c.in-Unit.unit) ∷ []) (Request (adu_value c.in-Unit.unit)) refl
      c.in_ok-push_adu-in-Unit.ensures)) (is);
}

pub returns-in-More : goal.returns-in-More
returns-in-More c = record {
  front = λ earlier assembly is. takes_part (adus c.args.asset.now.protocol c.requires.modbus) c.args.asset.now c.all.result.bytes c.args.bytes.now.bytes c.args.seen.now.items refl c.all.ensures.bytes c.in-More.ensures.true_answer;
}

pub returns-in-Broken : goal.returns-in-Broken
returns-in-Broken c = record {
  front = λ earlier assembly is.
      takes_break (adus c.args.asset.now.protocol c.requires.modbus) c.args.asset.now c.all.result.bytes c.args.bytes.now.bytes c.args.seen.now.items c.in-Broken.ensures.true_answer.0 refl c.all.ensures.bytes
      c.in-Broken.ensures.true_answer.1;
}
