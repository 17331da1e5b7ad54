use Rattle.std.proofs.Common.{◌∙◌, ◌++◌, ◌/◌, ◌%◌, ap, sym, append_assoc}
use Rattle.std.specs.Prelude.{decimal}
use Rattle.cf_view.proofs.Digits.{three_digits}
use Rattle.cf_view.proofs.text.push_three_digits.Goals as goal

pub returns-clause-bytes : goal.returns-clause-bytes
returns-clause-bytes g c =
    let old = c.args.out.now.bytes in
    let n = c.args.n in
    let high = decimal (n / 100) in
    let middle = decimal (n / 10 % 10) in
    let low = decimal (n % 10) in
    c.push_digit-3.ensures.bytes ∙ ap (λ bs. bs ++ low) (c.push_digit-2.ensures.bytes ∙ ap (λ bs. bs ++ middle) c.push_digit.ensures.bytes ∙ append_assoc old high middle)
    ∙ append_assoc old (high ++ middle) low ∙ ap (λ ds. old ++ ds) (sym (three_digits n c.requires.low c.requires.high))
