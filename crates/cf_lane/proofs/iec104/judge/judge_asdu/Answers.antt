use Rattle.cf_lane.specs.Rings.{says_by}
use Rattle.std.proofs.Common.{rules, ◌≡◌, ◌≤◌, List, Err, ap, Ok, length, subst, sym, ◌∙◌, ℕ}
use Rattle.cf_asdu.specs.Acts.{acts}
use Rattle.cf_asdu.specs.Asdu.{Reads, asdu_value, station_of}
use Rattle.cf_lane.specs.Judgement.{fate_of_judgement}
use Rattle.cf_lane.proofs.Asdus.{fate_of_read, fate_of_unread}
use Rattle.cf_lane.proofs.iec104.judge.judge_asdu.Goals as goal

pub returns-in-Err-clause-fate : goal.returns-in-Err-clause-fate
returns-in-Err-clause-fate c = λ client indexed.
    (let octets : List ℕ = c.args.octets.now.bytes in
    let long : 9 ≤ length octets = search rules in
    let same : station_of octets ≡ c.args.asset.now.station = search rules in
    cc (
      ap fate_of_judgement c.refused-in-Err.ensures,
      c.reason-in-Err.ensures,
      c.kind_of-in-Err.ensures,
      fate_of_unread c.args.asset.now (says_by c.args.asset.now client c.args.rules.now c.args.moment) octets long same c.in-Err.refusal (subst (λ (xs : List ℕ). Reads (Err c.in-Err.refusal) xs) c.after-2.ensures.bytes c.in-Err.ensures.true_answer),
    ))

pub returns-in-Ok-clause-fate : goal.returns-in-Ok-clause-fate
returns-in-Ok-clause-fate c = λ client indexed.
    (let octets : List ℕ = c.args.octets.now.bytes in
    let reads = subst (λ (xs : List ℕ). Reads (Ok (asdu_value c.in-Ok.asdu)) xs) c.after-2.ensures.bytes c.in-Ok.ensures.true_answer in
    let same : station_of octets ≡ c.args.asset.now.station = search rules in
    c.judge_acts.ensures.fate client (acts (asdu_value c.in-Ok.asdu)) indexed (sym c.act_count.ensures.count) (λ i act inside gives. search rules) ∙ fate_of_read c.args.asset.now (says_by c.args.asset.now client c.args.rules.now c.args.moment) octets reads.1 same (asdu_value c.in-Ok.asdu) reads)
