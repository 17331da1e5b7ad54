use Rattle.cf_dnptrans.proofs.Segments.{same_fragment, more, whole}
use Rattle.cf_dnptrans.proofs.laws.segments_are_put_together.Goals as goal

pub returns : goal.returns
returns c = record { same = same_fragment; more = λ f start i earlier. more f start i earlier; whole = λ f start i earlier. whole f start i earlier }
