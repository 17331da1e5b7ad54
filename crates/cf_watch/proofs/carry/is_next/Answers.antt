use Rattle.std.proofs.Common.{◌≡◌, length, arith}
use Rattle.std.proofs.lemmas.Bool.Decides.{nat_tests}
use Rattle.std.proofs.lemmas.List.{nil_from_length}
use Rattle.cf_watch.proofs.Portions.{nothing_kept}
use Rattle.cf_watch.proofs.carry.is_next.Goals as goal

pub returns-then-at-count-clause-alone : goal.returns-then-at-count-clause-alone
returns-then-at-count-clause-alone c = λ empty q.
    let a = c.args.ahead.now in
    let zero : length a.entries ≡ 0 = grind (arith, nat_tests, c.is_empty.ensures, empty) in
    nothing_kept a q (nil_from_length a.entries zero)
