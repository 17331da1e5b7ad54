use Rattle.std.proofs.Common.{subst, cond, Bool, ℕ, [], ◌∷◌, ◌&&◌, not, true, false}
use Rattle.cf_leg.specs.Emitted.{GetsSegments}
use Rattle.cf_leg.specs.Segment.{segment}
use Rattle.cf_stream.specs.Stream.{no_letters}
use Rattle.cf_leg.proofs.Broken.{on_err}
use Rattle.cf_leg.proofs.Pieces.{says_first, says_of}
use Rattle.cf_leg.proofs.send.say.Goals as goal

pub returns-clause-says : goal.returns-clause-says
returns-clause-says g c =
    let d1 = g.D.Desk.value c.send_new.new.desk in
    let d2 = g.D.Desk.value c.acknowledge.new.desk in
    says_of c.args.way c.args.told c.args.mss c.args.is_due c.args.queue.now c.args.moment (g.D.Desk.value c.args.desk.now) d1 d2 false c.in_ok-some.some c.in_ok-some.ensures.some c.in_ok-some.ensures.pieces
    c.in_ok-some.ensures.frame.rest.keeps.octets
    (subst (λ (n : ℕ). GetsSegments false c.args.moment (cond (c.args.is_due && not c.in_ok-some.some) (segment c.args.way c.args.told n no_letters ∷ []) []) d1 d2) c.next_number-number.ensures
    (subst (λ (b : Bool). GetsSegments false c.args.moment (cond b (segment c.args.way c.args.told c.next_number-number.result no_letters ∷ []) []) d1 d2) c.is_left-is_empty.ensures c.in_ok-acknowledge.ensures.gets))

pub returns-in_err-some-clause-broken : goal.returns-in_err-some-clause-broken
returns-in_err-some-clause-broken g c =
    let d1 = g.D.Desk.value c.send_new.new.desk in
    on_err _ (says_first c.args.way c.args.told c.args.mss c.args.is_due c.args.queue.now c.args.moment (g.D.Desk.value c.args.desk.now) d1 d1 c.in_err-some.ensures.broken)

pub returns-in_err-acknowledge-clause-broken : goal.returns-in_err-acknowledge-clause-broken
returns-in_err-acknowledge-clause-broken g c =
    let d1 = g.D.Desk.value c.send_new.new.desk in
    let d2 = g.D.Desk.value c.acknowledge.new.desk in
    on_err _ (says_of c.args.way c.args.told c.args.mss c.args.is_due c.args.queue.now c.args.moment (g.D.Desk.value c.args.desk.now) d1 d2 true c.in_ok-some.some c.in_ok-some.ensures.some c.in_ok-some.ensures.pieces
    c.in_ok-some.ensures.frame.rest.keeps.octets
    (subst (λ (n : ℕ). GetsSegments true c.args.moment (cond (c.args.is_due && not c.in_ok-some.some) (segment c.args.way c.args.told n no_letters ∷ []) []) d1 d2) c.next_number-number.ensures
    (subst (λ (b : Bool). GetsSegments true c.args.moment (cond b (segment c.args.way c.args.told c.next_number-number.result no_letters ∷ []) []) d1 d2) c.is_left-is_empty.ensures c.in_err-acknowledge.ensures.gets)))
