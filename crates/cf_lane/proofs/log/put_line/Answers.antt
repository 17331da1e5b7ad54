use Rattle.std.proofs.Common.{ap, ◌∙◌}
use Rattle.cf_outside.specs.Lines.{is_line}
use Rattle.cf_audit.specs.Line.{line_value}
use Rattle.cf_lane.proofs.LineFeeds.{one_line}
use Rattle.cf_lane.proofs.log.put_line.Goals as goal

pub line-requires-clause-line : goal.line-requires-clause-line
line-requires-clause-line g c =
    ap is_line (c.as_str.ensures.value ∙ c.write_line.ensures.bytes) ∙ one_line (line_value c.args.line.now) c.requires.names
