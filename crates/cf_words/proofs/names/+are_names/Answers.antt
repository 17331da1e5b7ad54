use Rattle.std.proofs.Common.{◌∙◌}
use Rattle.cf_words.proofs.FileNames.{names_step}
use Rattle.cf_words.proofs.names.+are_names.Goals as goal

pub returns : goal.returns
returns t c =
    c.are_names.ensures ∙ names_step c.args.names.now c.in-Some.rest.now c.in-Some.name.now c.in-Some.ensures.cases.0 c.if-is_empty.ensures
    c.if-is_among.ensures
