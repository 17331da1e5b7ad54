use Rattle.std.proofs.Common.{◌≡◌, true, sym, subst, ◌∙◌, w64}
use Rattle.std.specs.List.{list_any}
use Rattle.std.proofs.lemmas.Int.{to_z-of_z}
use Rattle.cf_policy.specs.Verdict.{covers}
use Rattle.cf_policy.proofs.Runs.{is_found}
use Rattle.cf_policy.proofs.judge.some_of_many_covers.Goals as goal

pub returns-then-is_some : goal.returns-then-is_some
returns-then-is_some c =
    let spans = c.args.spans.now in
    sym (subst (λ n. list_any (λ s. covers s n) spans ≡ true) (to_z-of_z w64 c.args.number c.ranges.number)
    (is_found spans _ c.halved_cover.result (sym c.is_some.ensures ∙ c.if-is_some.true) c.halved_cover.ensures.inside c.halved_cover.ensures.covers))
