use Rattle.std.proofs.Common.{◌≡◌, ◌-◌, ◌≤◌, min, max}
use Rattle.std.specs.Prelude.{false, nat_lt}
use Rattle.cf_outq.specs.SendQueue.{queue_length}
use Rattle.cf_outq.specs.SendQueue.{IsQueueOf}
use Rattle.cf_stream.specs.Stream.{Stream}
use Rattle.cf_leg.specs.Calls.{SendsSome}
use Rattle.cf_outside.specs.Frames.{OnlyEmits}
use Rattle.cf_leg.proofs.send.send_new.Given as goal

abbrev pub invariant-loop-piece : goal.invariant-loop-piece
invariant-loop-piece g l = record {
  sends : SendsSome l.way l.told l.mss l.initial.queue l.queue.sent l.moment ((g.D.Desk.value l.initial.desk).packets) ((g.D.Desk.value l.desk).packets);
  queue : l.queue ≡ record l.initial.queue { sent = l.queue.sent };
  stands : (whole : Stream) → IsQueueOf l.initial.queue whole → IsQueueOf l.queue whole;
  low : l.initial.queue.sent ≤ l.queue.sent;
  high : l.queue.sent ≤ max l.initial.queue.sent (min l.initial.queue.shown (queue_length l.initial.queue));
  some : l.some ≡ nat_lt l.initial.queue.sent l.queue.sent;
  frame : OnlyEmits (g.D.Desk.value l.initial.desk) (g.D.Desk.value l.desk) false;
}

abbrev pub decreases-loop-piece : goal.decreases-loop-piece
decreases-loop-piece g l = min l.queue.shown (queue_length l.queue) - l.queue.sent
