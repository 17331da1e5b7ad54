use Rattle.std.proofs.Common.{sym}
use Rattle.std.specs.Prelude.{string_bytes}
use Rattle.cf_words.proofs.LastWords.{review_found, review_unfit}
use Rattle.cf_words.proofs.captures.read_review.Goals as goal

pub returns-clause-command : goal.returns-clause-command
returns-clause-command c =
    review_found string_bytes c.args.words.now c.in-Some.files.now c.in-Some-split_last.captures.now c.in-Some.policy.now c.in-Some-split_last.log.now c.in-Some.ensures.cases.0
    c.in-Some-split_last.ensures.cases.0 (sym c.if-not-are_few.ensures) (sym c.if-not-are_all_names.ensures) c.as_str.result.now c.as_str-2.result.now c.as_str.ensures.value c.as_str-2.ensures.value

pub returns-then-not-are_few-clause-command : goal.returns-then-not-are_few-clause-command
returns-then-not-are_few-clause-command c =
    review_unfit string_bytes c.args.words.now c.in-Some.files.now c.in-Some-split_last.captures.now c.in-Some.policy.now c.in-Some-split_last.log.now c.in-Some.ensures.cases.0
    c.in-Some-split_last.ensures.cases.0 (sym c.if-not-are_few.ensures)
