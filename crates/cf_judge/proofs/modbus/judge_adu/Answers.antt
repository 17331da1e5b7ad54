use Rattle.std.proofs.Common.{◌≡◌, ◌≢◌, refl, rules}
use Rattle.cf_lane.specs.Acts.{fate_of_acts}
use Rattle.cf_lane.specs.Modbus.{form_refusal, of_its_acts, of_no_form, of_other_station, station_refusal}
use Rattle.cf_lane.specs.declared.fate.Fate.TheVariants as fate
use Rattle.cf_modbus.specs.Acts.{acts}
use Rattle.cf_modbus.specs.Adu.{adu_value}
use Rattle.cf_modbus.specs.Request.{request_value}
use Rattle.cf_policy.specs.Verdict.{verdict_of}
use Rattle.cf_judge.proofs.modbus.judge_adu.Goals as goal

pub returns-then-from-asset : goal.returns-then-from-asset
returns-then-from-asset c =
    let a = adu_value c.args.adu.now in
    let other : c.args.adu.now.unit ≢ c.args.asset.now.station = search rules in
    record { ruling = λ client is. (fate.Refused (station_refusal a), of_other_station other refl, cc (c.refused.ensures)) }

pub returns-in-Err : goal.returns-in-Err
returns-in-Err c =
    let a = adu_value c.args.adu.now in
    let station : c.args.adu.now.unit ≡ c.args.asset.now.station = cc in
    record {
      ruling = λ client is. (fate.Refused (form_refusal a c.in-Err.refusal), of_no_form station c.in-Err.refusal c.in-Err.ensures.true_answer refl, cc (c.refused-in-Err.ensures, c.reason.ensures));
    }

pub returns-in-Ok : goal.returns-in-Ok
returns-in-Ok c =
    let r = request_value c.in-Ok.request in
    let station : c.args.adu.now.unit ≡ c.args.asset.now.station = cc in
    record {
      ruling = λ client is.
          (fate_of_acts c.args.asset.now (verdict_of c.args.asset.now client) (acts r), of_its_acts station r c.in-Ok.ensures.true_answer refl, c.judge_request.ensures.ruling client is);
    }
