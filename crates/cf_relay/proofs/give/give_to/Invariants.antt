use Rattle.cf_links.specs.LinkValue.{told_of}
use Rattle.std.proofs.Common.{◌≡◌, ◌+◌, ◌<◌, ℕ, List, length, map}
use Rattle.std.specs.List.{concat}
use Rattle.cf_outq.specs.SendQueue.{IsQueueOf}
use Rattle.cf_outside.specs.Pair.{Took}
use Rattle.cf_stream.specs.Stream.{Stream}
use Rattle.cf_relay.specs.declared.limit.TheConstants.{MOST_BYTES}
use Rattle.cf_relay.specs.Answers.{idles_after}
use Rattle.cf_links.specs.Links.{with_answers}
use Rattle.cf_relay.specs.Scene.{RoseBy}
use Rattle.cf_relay.specs.Turn.{TookPieces}
use Rattle.cf_relay.proofs.give.give_to.Given as goal

abbrev pub invariant-gives : goal.invariant-gives
invariant-gives g l =
    record {
      pieces : List (List ℕ);
      took : TookPieces l.fn.side l.fn.queue.kept pieces l.queue.kept;
      tells : told_of g.L.Links l.fn.session l.links ≡ with_answers (told_of g.L.Links l.fn.session l.fn.links) (map (Took l.fn.side) pieces);
      counts : l.idle ≡ idles_after l.fn.idle (map (Took l.fn.side) pieces);
      acked : l.queue.acked ≡ l.fn.queue.acked + length (concat pieces);
      pushed : l.queue.pushed ≡ l.fn.queue.pushed;
      ended : l.queue.ended ≡ l.fn.queue.ended;
      few : l.idle < l.most;
      stands : (whole : Stream) → IsQueueOf l.fn.queue whole → IsQueueOf l.queue whole;
      idles : (start : ℕ) → RoseBy l.fn.idle start (g.L.Links.idles l.fn.links) → RoseBy l.idle start (g.L.Links.idles l.links);
      still : g.L.Links.faults l.links ≡ g.L.Links.faults l.fn.links;
      place : g.L.Links.place l.links ≡ g.L.Links.place l.fn.links;
      buffer : length l.buf ≡ MOST_BYTES;
    }

abbrev pub decreases-gives : goal.decreases-gives
decreases-gives g l = length l.queue.kept
