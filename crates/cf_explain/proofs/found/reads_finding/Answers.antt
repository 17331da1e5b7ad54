use Rattle.std.proofs.Common.{◌∙◌, sym}
use Rattle.std.proofs.lemmas.Bool.{true≢false}
use Rattle.cf_explain.proofs.ReadsHad.{has_reads}
use Rattle.cf_explain.proofs.found.reads_finding.Goals.{then-ne-via-then-ne, then-ne-via-else-ne+then-not-wants_value, then-ne-via-else-ne+else-not-wants_value+then-not-takes}
use Rattle.cf_explain.proofs.found.reads_finding.Goals as goal

-- nothing was found: it is no rule of Modbus, states no values or has not the function
pub returns-then-ne-clause-none : goal.returns-then-ne-clause-none
returns-then-ne-clause-none c none names =
    elim c.then-ne.branch [
      | then-ne-via-then-ne w ↦ absurd (true≢false (sym w.if-ne.true ∙ rw names.0 at c.ne.ensures))
      | then-ne-via-else-ne+then-not-wants_value w ↦ has_reads c.args.protocol c.args.rule.now names (w.wants_value.ensures.unstated w.if-not-wants_value.true)
      | then-ne-via-else-ne+else-not-wants_value+then-not-takes w ↦ absurd (true≢false (sym names.1 ∙ (sym w.takes.ensures ∙ w.if-not-takes.true)))
    ]
