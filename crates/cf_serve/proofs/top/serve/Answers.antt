use Rattle.std.proofs.Common.{ap, ◌∙◌}
use Rattle.cf_outside.specs.Lines.{ends_with_line}
use Rattle.cf_serve.proofs.Log.{gone_on_ends}
use Rattle.cf_serve.proofs.top.serve.Goals as goal

pub serve_desk-requires-clause-whole : goal.serve_desk-requires-clause-whole
serve_desk-requires-clause-whole g c = ap ends_with_line c.in-Done.ensures.file ∙ gone_on_ends (g.F.Files.content c.args.files.now c.args.log.now)
