use Rattle.std.proofs.Common.{arith}
use Rattle.std.proofs.lemmas.List.{length-drop}
use Rattle.cf_dnpobj.proofs.Sums.{plus, header_at, count_more}
use Rattle.cf_dnpobj.proofs.header.count_headers.Goals as goal
use Rattle.std.proofs.lemmas.Grind.{common_steps}

pub loop-at-preserved : goal.loop-at-preserved
loop-at-preserved c = grind (arith, common_steps, header_at, length-drop, count_more, plus)
