use Rattle.cf_dnplink.proofs.Frames.{spelled_free}
use Rattle.cf_dnplink.proofs.frame.no_frame_begins_another.Goals as goal

pub returns : goal.returns
returns c = spelled_free
