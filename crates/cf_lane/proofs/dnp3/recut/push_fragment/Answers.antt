use Rattle.std.proofs.Common.{ap, length, sym, subst, arith, ◌∙◌, ◌≡◌}
use Rattle.cf_dnptrans.specs.Segments.{count_of, segment_of}
use Rattle.cf_outq.specs.SendQueue.{Queue, after_push}
use Rattle.cf_lane.specs.Dnp3.{data_octets}
use Rattle.cf_lane.specs.Handled.{HasRoom}
use Rattle.cf_lane.proofs.Recutting.{frame_of, frames_next, frames_room, one_piece}
use Rattle.cf_lane.proofs.Handling.{push-push}
use Rattle.cf_lane.proofs.dnp3.recut.push_fragment.Goals as goal
use Rattle.cf_lane.proofs.dnp3.recut.push_fragment.Goals.{After-pieces}

-- the one piece is the fragment
whole_is : (c : After-pieces) → c.pieces.result.0.now ≡ c.args.octets.now.bytes
whole_is c = one_piece c.args.octets.now.bytes c.pieces.result.0.now c.pieces.result.1.now c.pieces.ensures.bytes (sym c.pieces.ensures.split ∙ c.requires.one)

pub push_segment-requires-clause-size : goal.push_segment-requires-clause-size
push_segment-requires-clause-size c = omega (arith, ap length (whole_is (goal.at.push_segment-requires-clause-size c).After-pieces), c.requires.size)

pub push_segment-requires-clause-inside : goal.push_segment-requires-clause-inside
push_segment-requires-clause-inside c =
    let all = ap length (whole_is (goal.at.push_segment-requires-clause-inside c).After-pieces) in
    let count = c.segment_count-count.ensures ∙ ap count_of (c.len.ensures.length ∙ sym all) in
    omega (arith, c.loop-i-test.true, count)

pub push_segment-requires-clause-open : goal.push_segment-requires-clause-open
push_segment-requires-clause-open c = ap (λ (q : Queue). q.ended) c.loop-i.invariant ∙ c.requires.«open»

pub push_segment-requires-clause-room : goal.push_segment-requires-clause-room
push_segment-requires-clause-room c =
    let whole = whole_is (goal.at.push_segment-requires-clause-room c).After-pieces in
    subst (λ xs. HasRoom (length (data_octets c.args.asset.now c.args.to (segment_of xs c.args.sequence c.loop-i.i))) c.loop-i.queue) (sym whole)
    (subst (λ (q : Queue). HasRoom (length (frame_of c.args.asset.now c.args.to c.args.octets.now.bytes c.args.sequence c.loop-i.i)) q) (sym c.loop-i.invariant)
    (frames_room c.args.asset.now c.args.to c.args.octets.now.bytes c.args.sequence c.loop-i.i c.segment_count-count.result c.args.queue.now c.loop-i-test.true
    (let e = c.segment_count-count.ensures ∙ ap count_of c.len.ensures.length in rw e c.requires.room)))

pub loop-i-preserved : goal.loop-i-preserved
loop-i-preserved c =
    let whole = whole_is (goal.at.loop-i-preserved c).After-pieces in
    c.push_segment.ensures
    ∙ ap (λ xs. after_push c.loop-i.queue (data_octets c.args.asset.now c.args.to (segment_of xs c.args.sequence c.loop-i.i))) whole
    ∙ ap (λ (q : Queue). after_push q (frame_of c.args.asset.now c.args.to c.args.octets.now.bytes c.args.sequence c.loop-i.i)) c.loop-i.invariant
    ∙ push-push c.args.queue.now _ _
    ∙ ap (after_push c.args.queue.now) (sym (frames_next c.args.asset.now c.args.to c.args.octets.now.bytes c.args.sequence c.loop-i.i))
