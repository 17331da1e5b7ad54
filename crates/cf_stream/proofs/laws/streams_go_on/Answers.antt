use Rattle.cf_stream.proofs.Extends.{extends_none, extends_both, extends_bytes, extends_end}
use Rattle.cf_stream.proofs.laws.streams_go_on.Goals as goal

pub returns : goal.returns
returns c = record { none = extends_none; both = extends_both; bytes = extends_bytes; end = extends_end }
