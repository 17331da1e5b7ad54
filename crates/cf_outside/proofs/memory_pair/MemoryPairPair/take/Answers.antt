use Rattle.std.proofs.Common.{◌≤◌, subst}
use Rattle.cf_outside.specs.MemoryPair.{TakesLeft, memory_pair_value}
use Rattle.cf_outside.specs.declared.memory_pair.MemoryPair.{MemoryPair}
use Rattle.cf_outside.proofs.Takes.{left_faults, left_idles, left_taken, moving}
use Rattle.cf_outside.proofs.memory_pair.MemoryPairPair.take.Goals as goal

pub returns-in-Goes : goal.returns-in-Goes
returns-in-Goes c =
    let pair = c.args.self.now in
    let new = c.take_left.new.self in
    let after = c.take_left.new.buf in
    let (script, idle, goes) = c.in-Goes.ensures.begins in
    let left : TakesLeft c.args.side c.args.buf.now after (moving (memory_pair_value pair)) (memory_pair_value new) c.take_left.result =
    subst (λ (p : MemoryPair). TakesLeft c.args.side c.args.buf.now after (memory_pair_value p) (memory_pair_value new) c.take_left.result) goes c.take_left.ensures.take in
    let later = subst (λ (p : MemoryPair). p.faults ≤ new.faults) goes c.take_left.ensures.later in
    record {
      take = left_taken c.args.buf.now after (memory_pair_value pair) (memory_pair_value new) c.args.side c.take_left.result
          script idle left;
      cause = left_faults c.args.buf.now after (moving (memory_pair_value pair)) (memory_pair_value new) c.args.side c.take_left.result later left;
      idle = left_idles c.args.buf.now after (moving (memory_pair_value pair)) (memory_pair_value new) c.args.side c.take_left.result left;
    }
