use Rattle.std.proofs.Common.{◌∙◌, ap, sym}
use Rattle.cf_apci.specs.Apdu.{apdu_value}
use Rattle.cf_judge.specs.Ruling.{ruling_of}
use Rattle.cf_judge.specs.Plain.{fate_by_asdu}
use Rattle.cf_judge.proofs.iec104.judge_apdu.Goals as goal

pub returns-in-Info : goal.returns-in-Info
returns-in-Info c = record {
  ruling = λ client is. c.judge_asdu.ensures.ruling client is ∙ ap (λ a. ruling_of (fate_by_asdu c.args.asset.now client (apdu_value a))) (sym c.in-Info.is);
}
