use Rattle.std.proofs.Common.{arith}
use Rattle.std.proofs.lemmas.List.{length-drop}
use Rattle.cf_dnpobj.proofs.Sums.{plus, header_at, sum_more}
use Rattle.cf_dnpobj.proofs.acts.sum_acts.Goals as goal
use Rattle.std.proofs.lemmas.Grind.{common_steps}

pub loop-at-preserved : goal.loop-at-preserved
loop-at-preserved c = grind (arith, common_steps, header_at, length-drop, sum_more, plus)
