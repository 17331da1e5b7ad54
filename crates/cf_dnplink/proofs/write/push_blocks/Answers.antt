use Rattle.std.proofs.Common.{sym, append_assoc, arith, length-take}
use Rattle.std.proofs.lemmas.List.{append-nil, length-drop}
use Rattle.cf_dnplink.specs.LinkFrame.{blocks_by}
use Rattle.cf_dnplink.proofs.Writing.{blocks_more, block_cut}
use Rattle.cf_dnplink.proofs.write.push_blocks.Goals as goal
use Rattle.std.proofs.lemmas.Grind.{common_steps}

pub loop-k-init : goal.loop-k-init
unfolding blocks_by
loop-k-init c = (sym (append-nil c.args.out.now.items), omega arith)

pub loop-k-preserved : goal.loop-k-preserved
loop-k-preserved c = grind (arith, common_steps, block_cut, length-take, length-drop, append_assoc, blocks_more)
