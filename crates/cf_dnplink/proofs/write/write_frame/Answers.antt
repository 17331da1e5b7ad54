use Rattle.std.proofs.Common.{arith}
use Rattle.cf_view.proofs.Framing.{begins_by}
use Rattle.cf_dnplink.specs.LinkFrame.{SpellsFrame, frame_with}
use Rattle.cf_dnplink.proofs.write.write_frame.Goals as goal
use Rattle.std.proofs.lemmas.Grind.{common_steps}

spelled : (c : goal.After-push_blocks) → SpellsFrame (frame_with c.args.control c.args.dest c.args.source c.args.user.now.bytes) c.push_blocks.new.out.items
spelled c = grind (arith, common_steps)

pub returns-clause-spelled : goal.returns-clause-spelled
returns-clause-spelled c = spelled c

pub returns-clause-again : goal.returns-clause-again
returns-clause-again c = λ rest. begins_by SpellsFrame (frame_with c.args.control c.args.dest c.args.source c.args.user.now.bytes) c.push_blocks.new.out.items rest (spelled c)
