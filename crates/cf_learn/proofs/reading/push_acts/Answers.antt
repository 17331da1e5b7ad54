use Rattle.std.proofs.Common.{arith, of_calls, ◌∙◌, ap, ◌++◌, ◌∷◌, []}
use Rattle.cf_learn.proofs.Adding.{pushed_all, pushed_more, seen_is}
use Rattle.cf_learn.proofs.reading.push_acts.Goals as goal

pub loop-i-preserved : goal.loop-i-preserved
loop-i-preserved g c = λ acts size gives.
    pushed_more c.args.client acts c.loop-i.i c.act_at-act.result c.args.seen.now.items c.loop-i.seen.items c.push.new.self.items
    (gives c.loop-i.i c.act_at-act.result (omega (arith, size, c.loop-i-test.true)) (search of_calls))
    (c.loop-i.invariant acts size gives) (c.in_ok-push.ensures.items ∙ ap (λ s. c.loop-i.seen.items ++ s ∷ []) (seen_is c.new.result c.args.client c.act_at-act.result c.new.ensures.client c.new.ensures.act))

pub returns : goal.returns
returns g c = λ acts size gives.
    pushed_all c.args.client acts c.loop-i.i c.args.seen.now.items c.loop-i.seen.items (omega (arith, size, c.loop-i-test.false)) (c.loop-i.invariant acts size gives)
