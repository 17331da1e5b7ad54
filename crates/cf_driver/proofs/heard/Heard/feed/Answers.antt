use Rattle.std.proofs.Common.{◌++◌, ◌∙◌, ap, arith, drop, length, sym}
use Rattle.cf_driver.proofs.Taking.{takes_cut, takes_piece}
use Rattle.cf_driver.proofs.heard.Heard.feed.Goals as goal

pub returns-in-None-clause-takes : goal.returns-in-None-clause-takes
returns-in-None-clause-takes g c =
    let f = c.in_ok-fed.ensures in
    let e = c.two-bytes.ensures.bytes ∙ ap (λ xs. xs ++ c.args.piece.now) c.as_slice.ensures.value in
    let left = c.keep_rest.ensures ∙ ap (drop c.in_ok-fed.fed.used) (sym e) in
    takes_piece _ _ c.args.side _ _ _ _ _ _ _ _ c.args.piece.now _ c.two-bytes.result.bytes c.in_ok-fed.fed.used c.in_ok-fed.fed.cut e f.used f.apart f.of_site f.debt f.client f.client_grows f.controller_grows f.counts
    _ c.in-None.is (omega (arith, f.left c.in-None.is, ap length left)) left

pub returns-in-Some-clause-takes : goal.returns-in-Some-clause-takes
returns-in-Some-clause-takes g c =
    let f = c.in_ok-fed.ensures in
    let e = c.two-bytes.ensures.bytes ∙ ap (λ xs. xs ++ c.args.piece.now) c.as_slice.ensures.value in
    takes_cut _ _ c.args.side _ _ _ _ _ _ _ _ c.args.piece.now _ c.two-bytes.result.bytes c.in_ok-fed.fed.used c.in_ok-fed.fed.cut e f.used f.apart f.of_site f.debt f.client f.client_grows f.controller_grows f.counts
    _ c.in-Some.reason c.in-Some.is c.clear.ensures
