use Rattle.std.proofs.Common.{◌∙◌, ap, rules, arith, sym, refl, true, false, ℕ, ◌+◌, lt-ltb}
use Rattle.cf_outq.specs.SendQueue.{Queue, queue_length, piece_letters}
use Rattle.cf_outside.proofs.Desks.{emits_both}
use Rattle.cf_leg.proofs.Broken.{on_err}
use Rattle.cf_leg.proofs.Pieces.{sends_first, sends_one_more, sends_all, piece_within, left_of}
use Rattle.cf_leg.proofs.send.send_new.Goals as goal

pub loop-piece-preserved : goal.loop-piece-preserved
loop-piece-preserved g c =
    let i = c.loop-piece.invariant in
    let sent = ap (λ (q : Queue). q.sent) c.in-Some.ensures.new in
    record {
      sends = rw sent (sends_one_more c.args.way c.args.told c.args.mss c.args.queue.now c.loop-piece.queue c.next_piece.new.self c.args.moment (g.D.Desk.value c.args.desk.now) (g.D.Desk.value c.loop-piece.desk) (g.D.Desk.value c.send_piece.new.desk) false c.in-Some.piece
          i.sends i.frame.rest.keeps.octets (ap (λ (q : Queue). q.shown) i.queue) i.low c.in-Some.ensures.letters c.in-Some.ensures.answer c.in_ok-send_piece.ensures.sends i.stands
          (λ whole s. c.in-Some.ensures.stands whole (i.stands whole s)) refl);
      queue = c.in-Some.ensures.new ∙ ap (λ (q : Queue). record q { sent = c.loop-piece.queue.sent + piece_letters c.in-Some.piece }) i.queue ∙ ap (λ (n : ℕ). record c.args.queue.now { sent = n }) (sym sent);
      stands = λ whole s. c.in-Some.ensures.stands whole (i.stands whole s);
      low = omega (arith, sent, i.low);
      high = (let length = ap (λ (q : Queue). queue_length q) i.queue in
          let shown = ap (λ (q : Queue). q.shown) i.queue in
          let left = left_of c.loop-piece.queue c.args.mss c.in-Some.piece c.in-Some.ensures.answer in
          let within = piece_within c.loop-piece.queue c.args.mss c.loop-piece.queue.sent c.loop-piece.queue.shown c.in-Some.piece c.in-Some.ensures.answer.piece (omega (arith, left)) in
          omega (arith, sent, within, length, shown));
      some = sym (lt-ltb _ _ (omega (arith, i.low, sent, c.in-Some.ensures.letters)));
      frame = emits_both _ _ _ i.frame c.in_ok-send_piece.ensures.frame;
    }

pub returns-clause-pieces : goal.returns-clause-pieces
returns-clause-pieces g c =
    let i = c.loop-piece.invariant in
    sends_all c.args.way c.args.told c.args.mss c.args.queue.now c.args.moment c.loop-piece.queue.sent (g.D.Desk.value c.args.desk.now) (g.D.Desk.value c.loop-piece.desk) i.sends
    (let none = c.in_default.ensures.answer.none.0 (search rules) in
    omega (arith, none, ap (λ (q : Queue). q.shown) i.queue, ap (λ (q : Queue). queue_length q) i.queue)) i.low i.high

pub returns-in_err-send_piece-clause-broken : goal.returns-in_err-send_piece-clause-broken
returns-in_err-send_piece-clause-broken g c =
    let i = c.loop-piece.invariant in
    let length = ap (λ (q : Queue). queue_length q) i.queue in
    let shown = ap (λ (q : Queue). q.shown) i.queue in
    let left = left_of c.loop-piece.queue c.args.mss c.in-Some.piece c.in-Some.ensures.answer in
    on_err _ (sends_first c.args.way c.args.told c.args.mss c.args.queue.now c.loop-piece.queue c.next_piece.new.self c.args.moment
    (g.D.Desk.value c.args.desk.now) (g.D.Desk.value c.loop-piece.desk) (g.D.Desk.value c.send_piece.new.desk) true c.in-Some.piece
    i.sends i.frame.rest.keeps.octets shown i.low c.in-Some.ensures.letters c.in-Some.ensures.answer c.in_err-send_piece.ensures.sends
    i.stands (λ whole s. c.in-Some.ensures.stands whole (i.stands whole s)) refl c.requires.mss.0 (omega (arith, i.low, left, length, shown)))
