use Rattle.std.proofs.Common.{IfSome, length, subst, ◌<◌}
use Rattle.cf_box.proofs.Judging.{asset_at}
use Rattle.cf_box.proofs.judge.judge_flows.Goals as goal

pub returns-in-Some : goal.returns-in-Some
returns-in-Some c =
    let place = subst (λ found. IfSome found (λ o. o.asset < length c.args.policy.now.assets)) c.in-Some.is c.in-Ok.ensures.place in
    let at = asset_at c.args.policy.now.assets c.in-Some.objection.asset place in
    record {
      judged = c.in-Ok.judged;
      judges = c.in-Ok.ensures.judged;
      objection = c.in-Some.objection;
      is = c.in-Some.is;
      asset = at.0;
      here = at.1;
      told = c.objection_told.ensures at.0 at.1;
    }
