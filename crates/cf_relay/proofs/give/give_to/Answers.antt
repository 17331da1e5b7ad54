use Rattle.std.proofs.Common.{take, ◌∷◌, ◌++◌, ◌∙◌, arith, []}
use Rattle.cf_relay.proofs.Giving.{took_step, acked_step, tells_step, idles_took, some_of}
use Rattle.cf_relay.proofs.Gave.{gave_pieces, gave_by_idle, gives_all, begins, none_left}
use Rattle.cf_relay.proofs.give.give_to.Goals as goal

pub returns-then-n-eq0-clause-gave : goal.returns-then-n-eq0-clause-gave
returns-then-n-eq0-clause-gave g c =
    let inv = c.gives.invariant in (
      _,
      gave_pieces _ c.args.queue.now c.gives.queue _ _ _ _ inv.pieces inv.took inv.tells inv.counts inv.acked inv.pushed inv.ended,
      gives_all _ c.args.queue.now c.gives.queue _ _ _ _ inv.pieces inv.took inv.tells inv.counts inv.acked inv.pushed inv.ended
          (none_left _ (omega (arith, c.if-n-eq0.true, c.front-n.ensures.count, inv.buffer))),
      inv.few,
    )

pub gives-preserved : goal.gives-preserved
gives-preserved g c =
    let inv = c.gives.invariant in
    let e = c.in-Took.ensures.entry in
    record {
      pieces = inv.pieces ++ take c.in-Took.took _ ∷ [];
      took = took_step c.args.side _ _ _ _ inv.pieces c.front-n.result c.in-Took.took inv.took c.front-n.ensures.bytes (omega (arith, c.front-n.ensures.count, inv.buffer)) e.0 e.1 c.pop.ensures.kept;
      tells = tells_step c.args.side _ _ _ inv.pieces _ inv.tells e.2;
      counts = idles_took c.args.side _ inv.pieces _;
      acked = c.pop.ensures.acked ∙ acked_step _ _ c.in-Took.took _ inv.pieces inv.acked e.1;
      pushed = c.pop.ensures.pushed ∙ inv.pushed;
      ended = c.pop.ensures.ended ∙ inv.ended;
      idles = λ start h. omega (arith, inv.idles start h, c.give.ensures.idle.later);
      few = omega (arith, inv.few);
      stands = λ whole h. c.pop.ensures.stands whole (inv.stands whole h);
      place = c.give.ensures.place ∙ inv.place;
      still = c.in-Took.ensures.cause.still (λ is. cc) ∙ inv.still;
      buffer = c.front-n.ensures.buffer ∙ inv.buffer;
    }

pub returns-in-Idle-clause-gave : goal.returns-in-Idle-clause-gave
returns-in-Idle-clause-gave g c =
    let inv = c.gives.invariant in
    gave_by_idle _ c.args.queue.now c.gives.queue _ _ _ _ inv.pieces inv.took inv.tells inv.counts inv.acked inv.pushed inv.ended c.args.most c.count_idle.result _ _ c.in-Idle.ensures.entry c.count_idle.ensures.counted
    (some_of _ (omega (arith, c.if-n-eq0.false, c.front-n.ensures.count, inv.buffer))) c.count_idle.ensures.goes c.count_idle.ensures.stops c.count_idle.ensures.error

pub returns-in-Failed-clause-gave : goal.returns-in-Failed-clause-gave
returns-in-Failed-clause-gave g c =
    let inv = c.gives.invariant in (
      _,
      gave_pieces _ c.args.queue.now c.gives.queue _ _ _ _ inv.pieces inv.took (c.in-Failed.ensures.entry ∙ inv.tells) inv.counts inv.acked inv.pushed inv.ended,
      begins _ c.args.queue.now c.gives.queue _ _ _ _ inv.pieces inv.took (c.in-Failed.ensures.entry ∙ inv.tells) inv.counts inv.acked inv.pushed inv.ended
          (some_of _ (omega (arith, c.if-n-eq0.false, c.front-n.ensures.count, inv.buffer))),
      inv.few,
    )
