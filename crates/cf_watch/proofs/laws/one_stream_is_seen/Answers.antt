use Rattle.cf_watch.proofs.OneStream.{sees_one}
use Rattle.cf_watch.proofs.laws.one_stream_is_seen.Goals as goal

pub returns : goal.returns
returns c whole carried h = sees_one whole carried h
