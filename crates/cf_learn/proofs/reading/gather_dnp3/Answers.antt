use Rattle.std.proofs.Common.{◌++◌, refl}
use Rattle.cf_dnplink.specs.LinkFrame.{frame_value}
use Rattle.cf_lane.proofs.Units.{frames}
use Rattle.cf_learn.proofs.Fragments.{gathers_frame}
use Rattle.cf_learn.proofs.Fronts.{takes_break, takes_part}
use Rattle.cf_learn.proofs.Polled.{gathers_none}
use Rattle.cf_learn.proofs.reading.gather_dnp3.Goals as goal

pub returns-in_ok-gather_frame-in-Unit-clause-front : goal.returns-in_ok-gather_frame-in-Unit-clause-front
returns-in_ok-gather_frame-in-Unit-clause-front c = λ earlier all is same.
    gathers_frame c.args.asset.now c.args.client earlier c.all.result.bytes c.args.bytes.now.bytes (c.args.seen.now.sorted.items ++ c.args.seen.now.loose.items) all
    (c.gather_frame.new.seen.sorted.items ++ c.gather_frame.new.seen.loose.items) c.gather_frame.new.assembly (frame_value c.in-Unit.unit) c.in-Unit.used c.requires.dnp3 c.all.ensures.bytes
    c.in-Unit.ensures.true_answer (c.in_ok-gather_frame-in-Unit.ensures.adds earlier is) same (c.in_ok-gather_frame-in-Unit.ensures.assembly earlier is)

pub returns-in-More-clause-front : goal.returns-in-More-clause-front
returns-in-More-clause-front c = λ earlier all is same.
    gathers_none c.args.asset.now c.args.client earlier c.args.bytes.now.bytes all (c.args.seen.now.sorted.items ++ c.args.seen.now.loose.items) c.args.assembly.now
    (takes_part (frames c.args.asset.now.protocol c.requires.dnp3) c.args.asset.now c.all.result.bytes c.args.bytes.now.bytes all refl c.all.ensures.bytes c.in-More.ensures.true_answer) same

pub returns-in-Broken-clause-front : goal.returns-in-Broken-clause-front
returns-in-Broken-clause-front c = λ earlier all is same.
    gathers_none c.args.asset.now c.args.client earlier c.args.bytes.now.bytes all (c.args.seen.now.sorted.items ++ c.args.seen.now.loose.items) c.args.assembly.now
    (takes_break (frames c.args.asset.now.protocol c.requires.dnp3) c.args.asset.now c.all.result.bytes c.args.bytes.now.bytes all c.in-Broken.ensures.true_answer.0 refl c.all.ensures.bytes
    c.in-Broken.ensures.true_answer.1) same
