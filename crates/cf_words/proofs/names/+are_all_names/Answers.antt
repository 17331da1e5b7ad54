use Rattle.std.proofs.Common.{◌∙◌}
use Rattle.std.specs.Prelude.{string_bytes}
use Rattle.cf_words.proofs.FileNames.{words_step}
use Rattle.cf_words.proofs.names.+are_all_names.Goals as goal

pub returns : goal.returns
returns t c =
    c.are_all_names.ensures ∙ words_step string_bytes c.args.words.now c.in-Some.rest.now c.in-Some.word.now c.in-Some.ensures.cases.0
    c.as_str-text.result.now c.as_str-text.ensures.value c.if-is_empty.ensures c.if-is_among_words.ensures
