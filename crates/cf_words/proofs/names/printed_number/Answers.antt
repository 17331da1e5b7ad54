use Rattle.std.proofs.Common.{sym, rules}
use Rattle.cf_words.proofs.Numerals.{printed_number_some, unread, misread}
use Rattle.cf_words.proofs.names.printed_number.Goals as goal

pub returns-then-is_printed : goal.returns-then-is_printed
returns-then-is_printed c = sym (printed_number_some c.args.text.now c.in-Ok.number (search rules) (search rules))

pub returns-else-is_printed : goal.returns-else-is_printed
returns-else-is_printed c =
    misread c.args.text.now c.parse.result c.parse.ensures.value.0 c.in-Ok.number c.in-Ok.is (search rules)

pub returns-in-Err : goal.returns-in-Err
returns-in-Err c = unread c.args.text.now c.parse.result c.parse.ensures.value.0 c.in-Err.field-0 c.in-Err.is
