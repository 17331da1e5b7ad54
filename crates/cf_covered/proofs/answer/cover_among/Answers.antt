use Rattle.std.proofs.Common.{map, rules}
use Rattle.cf_covered.specs.Common.{have_common}
use Rattle.cf_covered.specs.Covered.{HaveAllOf}
use Rattle.cf_covered.proofs.Commands.{filtered_have}
use Rattle.cf_covered.proofs.answer.cover_among.Goals as goal

pub returns-in-None : goal.returns-in-None
returns-in-None c =
    let had : HaveAllOf c.args.protocol (map (λ r. r.now) c.args.others.now) c.args.rule.now = search rules in
    filtered_have c.args.protocol (λ r. have_common r c.args.rule.now) c.args.earlier.now (map (λ r. r.now) c.args.others.now) c.args.rule.now c.requires had
