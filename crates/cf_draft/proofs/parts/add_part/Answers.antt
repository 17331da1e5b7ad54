use Rattle.std.proofs.lemmas.Result.{on_ok_weaker}
use Rattle.cf_draft.proofs.parts.add_part.Goals as goal

pub returns : goal.returns
returns c = on_ok_weaker c.push_part.result (λ pushed. (c.in_ok-read.read, c.in_ok-read.ensures c.args.protocol c.first_place-start.ensures.part, pushed)) c.push_part.ensures
