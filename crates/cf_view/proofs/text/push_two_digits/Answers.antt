use Rattle.std.proofs.Common.{◌∙◌, ◌++◌, ◌/◌, ◌%◌, ap, sym, append_assoc}
use Rattle.std.specs.Prelude.{decimal}
use Rattle.cf_view.proofs.Digits.{two_digits}
use Rattle.cf_view.proofs.text.push_two_digits.Goals as goal

pub returns-clause-bytes : goal.returns-clause-bytes
returns-clause-bytes g c =
    let old = c.args.out.now.bytes in
    let n = c.args.n in
    c.push_digit-2.ensures.bytes ∙ ap (λ bs. bs ++ decimal (n % 10)) c.push_digit.ensures.bytes
    ∙ append_assoc old (decimal (n / 10)) (decimal (n % 10)) ∙ ap (λ ds. old ++ ds) (sym (two_digits n c.requires.low c.requires.high))
