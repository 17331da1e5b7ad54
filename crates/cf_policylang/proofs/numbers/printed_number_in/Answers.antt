use Rattle.std.proofs.Common.{◌≡◌, ◌∙◌, true, false, FitsSigned, w64, sym, rules, to_z-of_z}
use Rattle.cf_policylang.specs.Numbers.{has_spare}
use Rattle.cf_policylang.proofs.Printed.{spare_none, unread_none, read_within}
use Rattle.cf_policylang.proofs.numbers.printed_number_in.Goals as goal

pub returns-then-has_spare-clause-value : goal.returns-then-has_spare-clause-value
returns-then-has_spare-clause-value c =
    let spare : has_spare c.args.text.now ≡ true = cc in
    sym (spare_none c.args.low c.args.high c.args.text.now c.ranges.low c.ranges.high spare)

pub returns-in-Ok-clause-value : goal.returns-in-Ok-clause-value
returns-in-Ok-clause-value c =
    let plain : has_spare c.args.text.now ≡ false = cc in
    let low = c.ranges.low in
    let high = c.ranges.high in
    let fit : FitsSigned w64 c.in-Ok.number = search rules in
    simp to_z-of_z at c.within.ensures.value ∙ sym (read_within c.args.low c.args.high c.args.text.now c.in-Ok.number plain c.in-Ok.ensures.value.0)

pub returns-in-Err-clause-value : goal.returns-in-Err-clause-value
returns-in-Err-clause-value c =
    sym (unread_none c.args.low c.args.high c.args.text.now c.in-Err.field-0 c.ranges.low c.ranges.high c.in-Err.ensures.value.0)
