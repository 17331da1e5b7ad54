use borrow.Author.Count.{below_more}
use Rattle.std.proofs.Common.{arith, false, length, sym, ◌<◌, ◌∙◌, ◌≡◌}
use Rattle.cf_dnptrans.specs.Transport.{unfinished}
use Rattle.cf_lane.proofs.Starting.{no_place, one_told, some_place}
use Rattle.std.specs.Prelude.{is_some}
use Rattle.cf_lane.proofs.wire.any_unfinished.Goals as goal

pub returns-then-unfinished : goal.returns-then-unfinished
returns-then-unfinished c = λ segments stand.
    (let inside : c.loop-k.k < length c.args.all.now = omega (arith, c.loop-k-test.true) in
    sym (some_place (λ k. is_some (unfinished (segments k))) (length c.args.all.now) c.loop-k.k inside
    (sym (one_told c.args.side c.args.all.now c.loop-k.k c.index-all-k.result c.of.result.now c.unfinished.result inside c.index-all-k.is c.of.ensures c.unfinished.ensures segments stand) ∙ c.if-unfinished.true)))

pub loop-k-preserved : goal.loop-k-preserved
loop-k-preserved c = λ segments stand.
    (let inside : c.loop-k.k < length c.args.all.now = omega (arith, c.loop-k-test.true) in
    below_more (λ k. is_some (unfinished (segments k)) ≡ false) c.loop-k.k (c.loop-k.invariant segments stand)
    (sym (one_told c.args.side c.args.all.now c.loop-k.k c.index-all-k.result c.of.result.now c.unfinished.result inside c.index-all-k.is c.of.ensures c.unfinished.ensures segments stand) ∙ c.if-unfinished.false))

pub returns : goal.returns
returns c = λ segments stand.
    sym (no_place (λ k. is_some (unfinished (segments k))) (length c.args.all.now) (λ k l. c.loop-k.invariant segments stand k (omega (arith, l, c.loop-k-test.false))))
