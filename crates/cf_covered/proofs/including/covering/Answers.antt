use Rattle.std.proofs.lemmas.Result.{IfOk-weaker}
use Rattle.cf_covered.proofs.OutlineLooks.{told_before}
use Rattle.cf_covered.proofs.including.covering.Goals as goal

pub returns : goal.returns
returns c = record {
  told = IfOk-weaker c.look.result _ _
      (λ earlier. told_before c.args.outlines.now c.args.number c.index-outlines-number.result earlier c.requires.inside c.index-outlines-number.is)
      c.look.ensures;
}
