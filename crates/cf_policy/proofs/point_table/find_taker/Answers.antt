use Rattle.std.proofs.Common.{◌+◌, arith}
use Rattle.cf_policy.proofs.point_table.find_taker.Goals as goal

pub returns-clause-taker : goal.returns-clause-taker
returns-clause-taker c = λ rules pairs table.
    let until = c.cells_until-count.ensures.until table.sorted.ascending in
    c.taker_after.ensures rules pairs c.args.code c.args.first (c.args.first + c.room_before-room.result) table c.line_place-place.ensures
    (omega (arith, c.room_before-room.ensures.stays, c.ranges.last.fits, c.requires.ordered))
    (omega arith)
    (record {
      inside = c.cells_until-count.ensures.inside;
      before = λ k d lt. omega (arith, until.0 k d (omega arith) lt, c.line_place-place.ensures);
      after = λ d lt.
          let past = until.1 c.cells_until-count.result d (omega arith) lt in
          let room = c.room_before-room.ensures.before d lt past in
          omega (arith, room, c.line_place-place.ensures);
    })
