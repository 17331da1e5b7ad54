use Rattle.std.proofs.Common.{◌≡◌, refl, rules, sym}
use Rattle.cf_modbus.specs.Acts.{acts}
use Rattle.cf_modbus.specs.Adu.{adu_value}
use Rattle.cf_modbus.specs.Request.{request_value}
use Rattle.std.proofs.lemmas.Result.{on_ok_weaker}
use Rattle.cf_learn.proofs.Adding.{no_request, request_added}
use Rattle.cf_learn.proofs.reading.push_adu.Goals as goal

pub returns-in-Ok : goal.returns-in-Ok
returns-in-Ok c =
    let station : c.args.adu.now.unit ≡ c.args.asset.now.station = cc in
    on_ok_weaker c.push_acts.result
    (λ is. request_added c.args.asset.now c.args.client c.args.seen.now.items c.push_acts.new.seen.items (adu_value c.args.adu.now) (request_value c.in-Ok.request) station
    c.in-Ok.ensures.true_answer c.in-Ok.ensures.only is)
    (c.push_acts.ensures (acts (request_value c.in-Ok.request)) (sym c.act_count.ensures.count) (λ i act inside gives. search rules))

pub returns-in-Err : goal.returns-in-Err
returns-in-Err c = no_request c.args.asset.now c.args.client c.args.seen.now.items c.args.seen.now.items (adu_value c.args.adu.now) c.in-Err.field-0 c.in-Err.ensures.only refl
