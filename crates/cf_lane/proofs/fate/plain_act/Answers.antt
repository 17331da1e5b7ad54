use Rattle.std.proofs.Common.{◌≡◌, ◌∙◌, ap, false, replicate, sym, Bool}
use Rattle.std.specs.Prelude.{None, Some, if◌then◌else◌}
use Rattle.std.specs.Option.{option_or}
use Rattle.cf_lane.specs.Acts.{by_refusal, refusal_or, shown_by}
use Rattle.cf_policy.specs.Logged.{is_logged}
use Rattle.cf_lane.proofs.fate.plain_act.Goals as goal

pub returns-else-is_logged-clause-fate : goal.returns-else-is_logged-clause-fate
returns-else-is_logged-clause-fate c = λ client is.
    (let rules = c.args.asset.now.rules in
    let act = c.args.act.now in
    let number = c.in-Allow.number in
    let unlogged : is_logged rules number ≡ false = cc in
    ap (λ (b : Bool). by_refusal (record { used = replicate 16 false; shown = option_or (if b then Some (record { rule = number; act = act }) else None) None }) None) (sym unlogged)
    ∙ ap (λ v. by_refusal (record { used = replicate 16 false; shown = option_or (shown_by rules act v) None }) (refusal_or act v None)) (c.in-Allow.ensures.decides client is))

pub returns-in-Refuse-clause-fate : goal.returns-in-Refuse-clause-fate
returns-in-Refuse-clause-fate c = λ client is.
    ap (λ v. by_refusal (record { used = replicate 16 false; shown = option_or (shown_by c.args.asset.now.rules c.args.act.now v) None }) (refusal_or c.args.act.now v None)) (c.in-Refuse.ensures.decides client is)
