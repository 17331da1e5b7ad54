use Rattle.std.proofs.Common.{◌≡◌, ◌∙◌, true, pos, All, refl, sym, subst}
use Rattle.std.specs.List.{list_any}
use Rattle.cf_policy.specs.Verdict.{takes}
use Rattle.cf_acts.specs.Acts.{kinds}
use Rattle.cf_explain.specs.Meets.{meets}
use Rattle.cf_explain.specs.Rules.{Holds}
use Rattle.cf_explain.proofs.Codes.{all_listed, none_added, one_more, some_weaker}
use Rattle.cf_explain.proofs.found.code_findings.Goals as goal

pub loop-code-preserved : goal.loop-code-preserved
loop-code-preserved c = record {
  so =
      subst (λ xs. All (Holds c.args.asset.now c.args.number c.args.rule.now) xs) (sym c.in_ok-put.ensures)
      (all_listed (Holds c.args.asset.now c.args.number c.args.rule.now) c.loop-code.found.items c.code_finding.result c.loop-code.invariant.so
      (some_weaker _ (Holds c.args.asset.now c.args.number c.args.rule.now) c.code_finding.result (λ x h. h c.args.asset.now c.args.number refl) c.code_finding.ensures.so));
  nothing = λ empty.
      let parts = none_added c.loop-code.found.items c.code_finding.result (sym c.in_ok-put.ensures ∙ empty) in
      one_more (λ k. takes c.args.rule.now.codes (pos k) ≡ true → list_any (meets c.args.rule.now) (kinds c.args.asset.now.protocol k) ≡ true) c.loop-code.code
      (c.loop-code.invariant.nothing parts.0) (c.code_finding.ensures.none parts.1);
}
