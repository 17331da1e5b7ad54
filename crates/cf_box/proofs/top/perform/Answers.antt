use Rattle.cf_outside.specs.PairValue.{pair_value}
use Rattle.cf_ending.specs.Outside.{sink_value}
use Rattle.cf_box.proofs.top.perform.Goals as goal

pub returns-in-Check-clause-meets : goal.returns-in-Check-clause-meets
returns-in-Check-clause-meets g c = rw c.in-Check.is (c.check.ensures.meets (sink_value g.O.Sink c.args.out.now) (pair_value g.P.Pair c.args.pair.now))

pub returns-in-Compare-clause-meets : goal.returns-in-Compare-clause-meets
returns-in-Compare-clause-meets g c = rw c.in-Compare.is (c.compare_files.ensures.meets (sink_value g.O.Sink c.args.out.now) (pair_value g.P.Pair c.args.pair.now))

pub returns-in-Draft-clause-meets : goal.returns-in-Draft-clause-meets
returns-in-Draft-clause-meets g c = rw c.in-Draft.is (c.draft_captures.ensures.meets (sink_value g.O.Sink c.args.out.now) (pair_value g.P.Pair c.args.pair.now))

pub returns-in-Judge-clause-meets : goal.returns-in-Judge-clause-meets
returns-in-Judge-clause-meets g c = rw c.in-Judge.is (c.judge_capture.ensures.meets (sink_value g.O.Sink c.args.out.now) (pair_value g.P.Pair c.args.pair.now))

pub returns-in-Learn-clause-meets : goal.returns-in-Learn-clause-meets
returns-in-Learn-clause-meets g c = rw c.in-Learn.is (c.learn_capture.ensures.meets (sink_value g.O.Sink c.args.out.now) (pair_value g.P.Pair c.args.pair.now))

pub returns-in-Migrate-clause-meets : goal.returns-in-Migrate-clause-meets
returns-in-Migrate-clause-meets g c = rw c.in-Migrate.is (c.migrate.ensures.meets (sink_value g.O.Sink c.args.out.now) (pair_value g.P.Pair c.args.pair.now))

pub returns-in-Packets-clause-meets : goal.returns-in-Packets-clause-meets
returns-in-Packets-clause-meets g c = rw c.in-Packets.is (c.packets.ensures.meets (pair_value g.P.Pair c.args.pair.now))

pub returns-in-Sift-clause-meets : goal.returns-in-Sift-clause-meets
returns-in-Sift-clause-meets g c = rw c.in-Sift.is (c.sift.ensures.meets (sink_value g.O.Sink c.args.out.now) (pair_value g.P.Pair c.args.pair.now))

pub returns-in-Run-clause-meets : goal.returns-in-Run-clause-meets
returns-in-Run-clause-meets g c = rw c.in-Run.is (c.run.ensures.meets (sink_value g.O.Sink c.args.out.now) (pair_value g.P.Pair c.args.pair.now))

pub returns-in-Relay-clause-meets : goal.returns-in-Relay-clause-meets
returns-in-Relay-clause-meets g c = rw c.in-Relay.is (c.relay.ensures.meets (sink_value g.O.Sink c.args.out.now))

pub returns-in-World-clause-meets : goal.returns-in-World-clause-meets
returns-in-World-clause-meets g c = rw c.in-World.is (c.world.ensures.meets (sink_value g.O.Sink c.args.out.now) (pair_value g.P.Pair c.args.pair.now))

pub returns-in-Review-clause-meets : goal.returns-in-Review-clause-meets
returns-in-Review-clause-meets g c = rw c.in-Review.is (c.review_captures.ensures.meets (sink_value g.O.Sink c.args.out.now) (pair_value g.P.Pair c.args.pair.now))

pub returns-in-Check-clause-later : goal.returns-in-Check-clause-later
returns-in-Check-clause-later g c = rw c.in-Check.is c.check.ensures.later

pub returns-in-Compare-clause-later : goal.returns-in-Compare-clause-later
returns-in-Compare-clause-later g c = rw c.in-Compare.is c.compare_files.ensures.later

pub returns-in-Draft-clause-later : goal.returns-in-Draft-clause-later
returns-in-Draft-clause-later g c = rw c.in-Draft.is c.draft_captures.ensures.later

pub returns-in-Judge-clause-later : goal.returns-in-Judge-clause-later
returns-in-Judge-clause-later g c = rw c.in-Judge.is c.judge_capture.ensures.later

pub returns-in-Learn-clause-later : goal.returns-in-Learn-clause-later
returns-in-Learn-clause-later g c = rw c.in-Learn.is c.learn_capture.ensures.later

pub returns-in-Migrate-clause-later : goal.returns-in-Migrate-clause-later
returns-in-Migrate-clause-later g c = rw c.in-Migrate.is c.migrate.ensures.later

pub returns-in-Packets-clause-later : goal.returns-in-Packets-clause-later
returns-in-Packets-clause-later g c = rw c.in-Packets.is c.packets.ensures.later

pub returns-in-Sift-clause-later : goal.returns-in-Sift-clause-later
returns-in-Sift-clause-later g c = rw c.in-Sift.is c.sift.ensures.later

pub returns-in-Run-clause-later : goal.returns-in-Run-clause-later
returns-in-Run-clause-later g c = rw c.in-Run.is c.run.ensures.later

pub returns-in-Relay-clause-later : goal.returns-in-Relay-clause-later
returns-in-Relay-clause-later g c = rw c.in-Relay.is c.relay.ensures.later

pub returns-in-World-clause-later : goal.returns-in-World-clause-later
returns-in-World-clause-later g c = rw c.in-World.is c.world.ensures.later

pub returns-in-Review-clause-later : goal.returns-in-Review-clause-later
returns-in-Review-clause-later g c = rw c.in-Review.is c.review_captures.ensures.later
