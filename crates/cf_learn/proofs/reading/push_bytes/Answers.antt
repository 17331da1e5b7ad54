use Rattle.std.proofs.Common.{◌+◌, ◌++◌, subst}
use Rattle.cf_learn.proofs.Fronts.{IsGatheredAt, gathered_next, lent_from, read_first}
use Rattle.cf_learn.proofs.Same.{same_again}
use Rattle.cf_learn.proofs.reading.push_bytes.Goals as goal

pub loop-front-init : goal.loop-front-init
loop-front-init c =
    let old = c.args.seen.now.sorted.items ++ c.args.seen.now.loose.items in
    record {
      gathered = gathered_next c.args.asset.now c.args.client c.args.bytes.now 0 c.in-Ok.assembly old old old (same_again old)
          (read_first c.args.asset.now c.args.client c.args.bytes.now c.in-Ok.assembly old c.in-Ok.ensures.stands)
          c.one-first.result.bytes c.one-first.ensures.bytes c.gather_front.new.assembly
          (c.gather_front.new.seen.sorted.items ++ c.gather_front.new.seen.loose.items) c.in_ok-front.front c.in_ok-front.ensures.front;
      polls = c.in_ok-front.ensures.polls;
    }

pub loop-front-preserved : goal.loop-front-preserved
loop-front-preserved c =
    let old = c.args.seen.now.sorted.items ++ c.args.seen.now.loose.items in
    let seen = c.loop-front.seen.sorted.items ++ c.loop-front.seen.loose.items in
    let so_far = subst (IsGatheredAt c.args.asset.now c.args.client c.args.bytes.now c.loop-front.at c.loop-front.assembly old seen) c.in-Some.is c.loop-front.invariant.gathered in
    record {
      gathered = gathered_next c.args.asset.now c.args.client c.args.bytes.now (c.loop-front.at + c.in-Some.used) c.loop-front.assembly old so_far.0 seen so_far.1 so_far.2.1
          c.one-rest.result.bytes (lent_from c.args.bytes.now c.one-rest.result.bytes (c.loop-front.at + c.in-Some.used) c.one-rest.ensures.bytes)
          c.gather_front-in-Some.new.assembly (c.gather_front-in-Some.new.seen.sorted.items ++ c.gather_front-in-Some.new.seen.loose.items)
          c.in_ok-front-2.front c.in_ok-front-2.ensures.front;
      polls = c.in_ok-front-2.ensures.polls;
    }
