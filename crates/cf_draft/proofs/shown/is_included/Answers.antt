use Rattle.std.proofs.Common.{subst}
use Rattle.cf_compare.specs.Inclusion.{IsFirstDifference}
use Rattle.cf_draft.proofs.shown.is_included.Goals as goal

pub returns-in-Ok-None : goal.returns-in-Ok-None
returns-in-Ok-None c = λ yes. subst (IsFirstDifference c.args.drafted.now c.args.exact.now) c.in-Ok-None.field-0-is c.in-Ok-None.ensures
