use Rattle.std.proofs.Common.{ap, refl}
use Rattle.cf_apci.specs.Apdu.{apdu_value}
use Rattle.cf_policy.specs.declared.Protocol.TheVariants.{Iec104}
use Rattle.cf_learn.specs.Shown.{Asdu, message_in}
use Rattle.cf_lane.specs.Unit.{apdu_unit}
use Rattle.std.proofs.lemmas.Result.{on_ok_weaker}
use Rattle.cf_learn.proofs.Adding.{have_none, have_one}
use Rattle.cf_learn.proofs.reading.push_apdu.Goals as goal

pub returns-in-Info : goal.returns-in-Info
returns-in-Info c =
    on_ok_weaker c.push_asdu.result
    (λ a. have_one Iec104 c.args.asset.now c.args.client c.args.seen.now.items c.push_asdu.new.seen.items (message_in (apdu_unit (apdu_value c.args.apdu.now))) (Asdu c.in-Info.asdu.bytes)
    (ap (λ x. message_in (apdu_unit (apdu_value x))) c.in-Info.is) a)
    c.push_asdu.ensures

pub returns-in-Ack : goal.returns-in-Ack
returns-in-Ack c =
    have_none Iec104 c.args.asset.now c.args.client c.args.seen.now.items c.args.seen.now.items (message_in (apdu_unit (apdu_value c.args.apdu.now)))
    (ap (λ x. message_in (apdu_unit (apdu_value x))) c.in-Ack.is) refl

pub returns-in-Control : goal.returns-in-Control
returns-in-Control c =
    have_none Iec104 c.args.asset.now c.args.client c.args.seen.now.items c.args.seen.now.items (message_in (apdu_unit (apdu_value c.args.apdu.now)))
    (ap (λ x. message_in (apdu_unit (apdu_value x))) c.in-Control.is) refl
