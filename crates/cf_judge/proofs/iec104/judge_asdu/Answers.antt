use Rattle.std.proofs.Common.{rules, ◌≡◌, ◌≤◌, List, Err, Ok, ap, length, subst, sym, ◌∙◌, ℕ}
use Rattle.cf_asdu.specs.Acts.{acts}
use Rattle.cf_asdu.specs.Asdu.{Reads, asdu_value, station_of}
use Rattle.cf_policy.specs.Verdict.{verdict_of}
use Rattle.cf_judge.specs.Ruling.{ruling_of}
use Rattle.cf_judge.proofs.Asdus.{fate_of_read, fate_of_unread}
use Rattle.cf_judge.proofs.iec104.judge_asdu.Goals as goal

pub returns-in-Err : goal.returns-in-Err
returns-in-Err c = record {
  ruling = λ client indexed.
      (let octets : List ℕ = c.args.octets.now.bytes in
      let long : 9 ≤ length octets = search rules in
      let same : station_of octets ≡ c.args.asset.now.station = search rules in
      cc (
        c.refused-in-Err.ensures,
        c.reason-in-Err.ensures,
        c.kind_of-in-Err.ensures,
        ap ruling_of (fate_of_unread c.args.asset.now (verdict_of c.args.asset.now client) octets long same c.in-Err.refusal
            (subst (λ (xs : List ℕ). Reads (Err c.in-Err.refusal) xs) c.all-2.ensures c.in-Err.ensures.true_answer)),
      ));
}

pub returns-in-Ok : goal.returns-in-Ok
returns-in-Ok c = record {
  ruling = λ client indexed.
      (let octets : List ℕ = c.args.octets.now.bytes in
      let reads = subst (λ (xs : List ℕ). Reads (Ok (asdu_value c.in-Ok.asdu)) xs) c.all-2.ensures c.in-Ok.ensures.true_answer in
      let same : station_of octets ≡ c.args.asset.now.station = search rules in
      c.judge_acts.ensures client (acts (asdu_value c.in-Ok.asdu)) indexed (sym c.act_count.ensures.count) (λ i act inside gives. search rules)
      ∙ ap ruling_of (fate_of_read c.args.asset.now (verdict_of c.args.asset.now client) octets reads.1 same (asdu_value c.in-Ok.asdu) reads));
}
