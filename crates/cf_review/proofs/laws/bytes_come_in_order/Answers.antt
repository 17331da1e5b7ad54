use Rattle.cf_review.proofs.Rising.{come_in_order}
use Rattle.cf_review.proofs.laws.bytes_come_in_order.Goals as goal

pub returns : goal.returns
returns c = come_in_order
