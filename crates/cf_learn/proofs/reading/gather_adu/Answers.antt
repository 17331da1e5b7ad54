use Rattle.std.proofs.Common.{◌≡◌, ◌++◌, map, refl}
use Rattle.std.proofs.lemmas.Result.{on_ok_weaker}
use Rattle.cf_modbus.specs.Acts.{acts}
use Rattle.cf_modbus.specs.Adu.{adu_value}
use Rattle.cf_modbus.specs.Request.{request_value}
use Rattle.cf_learn.specs.Seen.{seen_of}
use Rattle.cf_learn.proofs.Adding.{no_request, other_station, request_added}
use Rattle.cf_learn.proofs.Same.{same_again}
use Rattle.cf_learn.proofs.reading.gather_adu.Goals as goal

pub returns-then-from-asset-clause-adds : goal.returns-then-from-asset-clause-adds
returns-then-from-asset-clause-adds c =
    let old = c.args.seen.now.sorted.items ++ c.args.seen.now.loose.items in
    record {
      all = old;
      adds = other_station c.args.asset.now c.args.client old old (adu_value c.args.adu.now) (λ e. c.if-from-asset.true cc) refl;
      same = same_again old;
    }

pub returns-in-Ok-clause-adds : goal.returns-in-Ok-clause-adds
returns-in-Ok-clause-adds c =
    let station : c.args.adu.now.unit ≡ c.args.asset.now.station = cc in
    let old = c.args.seen.now.sorted.items ++ c.args.seen.now.loose.items in
    let all = old ++ map (seen_of c.args.client) (acts (request_value c.in-Ok.request)) in
    on_ok_weaker c.gather_request.result
    (λ same. record {
      all = all;
      adds = request_added c.args.asset.now c.args.client old all (adu_value c.args.adu.now) (request_value c.in-Ok.request) station c.in-Ok.ensures.true_answer c.in-Ok.ensures.only refl;
      same = same;
    })
    c.gather_request.ensures.adds

pub returns-in-Err-clause-adds : goal.returns-in-Err-clause-adds
returns-in-Err-clause-adds c =
    let old = c.args.seen.now.sorted.items ++ c.args.seen.now.loose.items in
    record {
      all = old;
      adds = no_request c.args.asset.now c.args.client old old (adu_value c.args.adu.now) c.in-Err.field-0 c.in-Err.ensures.only refl;
      same = same_again old;
    }
