use Rattle.std.proofs.Common.{◌≡◌, List, ℕ, refl, rules, subst, sym}
use Rattle.std.specs.Prelude.{OnOk}
use Rattle.cf_asdu.specs.Acts.{acts}
use Rattle.cf_asdu.specs.Asdu.{asdu_value}
use Rattle.cf_policy.specs.declared.Protocol.TheVariants.{Iec104}
use Rattle.cf_learn.specs.Reading.{Adds}
use Rattle.cf_learn.specs.Shown.{Asdu, HasAct}
use Rattle.std.proofs.lemmas.Result.{on_ok_weaker}
use Rattle.cf_learn.proofs.Adding.{asdu_added, no_asdu, other_asdu}
use Rattle.cf_learn.proofs.reading.push_asdu.Goals as goal

pub returns-else-asdu-asset : goal.returns-else-asdu-asset
returns-else-asdu-asset c =
    let station : c.in-Ok.asdu.station ≡ c.args.asset.now.station = cc in
    subst (λ (xs : List ℕ). OnOk c.push_acts.result (Adds Iec104 c.args.client (HasAct c.args.asset.now (Asdu xs)) c.args.seen.now.items c.push_acts.new.seen.items)) c.all.ensures.bytes
    (on_ok_weaker c.push_acts.result
    (λ is. asdu_added c.args.asset.now c.args.client c.args.seen.now.items c.push_acts.new.seen.items c.all.result.bytes (asdu_value c.in-Ok.asdu)
    c.in-Ok.ensures.true_answer station c.in-Ok.ensures.only is)
    (c.push_acts.ensures (acts (asdu_value c.in-Ok.asdu)) (sym c.act_count.ensures.count) (λ i act inside gives. search rules)))

pub returns-in-Err : goal.returns-in-Err
returns-in-Err c =
    subst (λ (xs : List ℕ). Adds Iec104 c.args.client (HasAct c.args.asset.now (Asdu xs)) c.args.seen.now.items c.args.seen.now.items) c.all.ensures.bytes
    (no_asdu c.args.asset.now c.args.client c.args.seen.now.items c.args.seen.now.items c.all.result.bytes c.in-Err.field-0 c.in-Err.ensures.only refl)

pub returns-then-asdu-asset : goal.returns-then-asdu-asset
returns-then-asdu-asset c =
    subst (λ (xs : List ℕ). Adds Iec104 c.args.client (HasAct c.args.asset.now (Asdu xs)) c.args.seen.now.items c.args.seen.now.items) c.all.ensures.bytes
    (other_asdu c.args.asset.now c.args.client c.args.seen.now.items c.args.seen.now.items c.all.result.bytes (asdu_value c.in-Ok.asdu) c.in-Ok.ensures.only c.if-asdu-asset.true refl)
