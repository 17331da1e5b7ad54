use Rattle.std.proofs.Common.{[], ◌++◌, refl, subst, sym}
use Rattle.std.proofs.lemmas.List.{append-nil}
use Rattle.cf_apci.specs.Apdu.{apdu_value}
use Rattle.cf_lane.proofs.Units.{apdus}
use Rattle.cf_policy.specs.declared.Protocol.TheVariants.{Iec104}
use Rattle.cf_learn.specs.Reading.{Adds}
use Rattle.cf_learn.specs.Shown.{HaveAct, message_in}
use Rattle.cf_lane.specs.Unit.{apdu_unit}
use Rattle.cf_learn.proofs.Fronts.{takes_break, takes_part, takes_unit}
use Rattle.cf_learn.proofs.reading.push_iec104.Goals as goal

pub returns-in_ok-push_apdu-in-Unit : goal.returns-in_ok-push_apdu-in-Unit
returns-in_ok-push_apdu-in-Unit c = record {
  front = λ earlier assembly is.
      takes_unit (apdus c.args.asset.now.protocol c.requires.iec104) c.args.asset.now c.args.client earlier c.all.result.bytes c.args.bytes.now.bytes c.args.seen.now.items c.push_apdu.new.seen.items assembly
      (apdu_value c.in-Unit.unit) c.in-Unit.used refl c.all.ensures.bytes c.in-Unit.ensures.true_answer
      (subst (λ q. Adds q c.args.client (HaveAct c.args.asset.now (message_in (apdu_unit (apdu_value c.in-Unit.unit)) ++ [])) c.args.seen.now.items c.push_apdu.new.seen.items) (sym c.requires.iec104)
      (subst (λ ms. Adds Iec104 c.args.client (HaveAct c.args.asset.now ms) c.args.seen.now.items c.push_apdu.new.seen.items) (sym (append-nil (message_in (apdu_unit (apdu_value c.in-Unit.unit)))))
      c.in_ok-push_apdu-in-Unit.ensures)) (is);
}

pub returns-in-More : goal.returns-in-More
returns-in-More c = record {
  front = λ earlier assembly is. takes_part (apdus c.args.asset.now.protocol c.requires.iec104) c.args.asset.now c.all.result.bytes c.args.bytes.now.bytes c.args.seen.now.items refl c.all.ensures.bytes c.in-More.ensures.true_answer;
}

pub returns-in-Broken : goal.returns-in-Broken
returns-in-Broken c = record {
  front = λ earlier assembly is.
      takes_break (apdus c.args.asset.now.protocol c.requires.iec104) c.args.asset.now c.all.result.bytes c.args.bytes.now.bytes c.args.seen.now.items c.in-Broken.ensures.true_answer.0 refl c.all.ensures.bytes
      c.in-Broken.ensures.true_answer.1;
}
