use Rattle.std.proofs.Common.{◌≡◌, map, subst, rules}
use Rattle.std.specs.List.{flat_map}
use Rattle.std.proofs.lemmas.Result.{IfOk-weaker}
use Rattle.cf_acts.specs.Acts.{kinds}
use Rattle.cf_covered.specs.Regions.{AreSettled, kind_regions}
use Rattle.cf_covered.proofs.Commands.{code_had}
use Rattle.cf_covered.proofs.search.have_code_of.Goals as goal

pub returns : goal.returns
returns c =
    let made : c.in_ok-regions.regions.items ≡ flat_map kind_regions (kinds c.args.protocol c.args.code) = search rules in
    IfOk-weaker c.are_settled.result _ _
    (λ all had yes. code_had c.args.protocol (map (λ r. r.now) c.args.others.now) c.args.rule.now c.args.code
    (subst (AreSettled c.args.rule.now (map (λ r. r.now) c.args.others.now) c.args.code) made (had yes)))
    c.are_settled.ensures
