use Rattle.std.proofs.Common.{refl}
use Rattle.cf_words.specs.Command.{Check}
use Rattle.cf_box.proofs.check.check.Goals as goal

pub returns-in-Err-clause-meets : goal.returns-in-Err-clause-meets
returns-in-Err-clause-meets g c = λ sink pair. (
  c.in-Err.ensures.stop (Check c.args.policy_file.now) sink pair refl,
  record { unwritten = c.in-Err.ensures.unwritten; same = record { content = c.load_policy.ensures.only.content; sink = refl; pair = refl } },
)
