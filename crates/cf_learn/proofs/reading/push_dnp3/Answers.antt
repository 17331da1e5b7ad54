use Rattle.std.proofs.Common.{refl, subst, sym}
use Rattle.cf_dnplink.specs.LinkFrame.{frame_value}
use Rattle.cf_lane.proofs.Units.{frames}
use Rattle.cf_learn.specs.Reading.{Adds, new_messages}
use Rattle.cf_learn.specs.Shown.{HaveAct}
use Rattle.cf_lane.specs.Unit.{frame_unit}
use Rattle.cf_learn.proofs.Fronts.{takes_break, takes_part, takes_unit}
use Rattle.cf_learn.proofs.reading.push_dnp3.Goals as goal

pub returns-in_ok-push_frame-in-Unit : goal.returns-in_ok-push_frame-in-Unit
returns-in_ok-push_frame-in-Unit c = record {
  front = λ earlier is.
      takes_unit (frames c.args.asset.now.protocol c.requires.dnp3) c.args.asset.now c.args.client earlier c.all.result.bytes c.args.bytes.now.bytes c.args.seen.now.items c.push_frame.new.seen.items c.push_frame.new.assembly
      (frame_value c.in-Unit.unit) c.in-Unit.used refl c.all.ensures.bytes c.in-Unit.ensures.true_answer
      (subst (λ q. Adds q c.args.client (HaveAct c.args.asset.now (new_messages c.args.asset.now earlier (frame_unit (frame_value c.in-Unit.unit)))) c.args.seen.now.items c.push_frame.new.seen.items)
      (sym c.requires.dnp3) (c.in_ok-push_frame-in-Unit.ensures.adds earlier is)) (c.in_ok-push_frame-in-Unit.ensures.assembly earlier is);
}

pub returns-in-More : goal.returns-in-More
returns-in-More c = record {
  front = λ earlier is. takes_part (frames c.args.asset.now.protocol c.requires.dnp3) c.args.asset.now c.all.result.bytes c.args.bytes.now.bytes c.args.seen.now.items refl c.all.ensures.bytes c.in-More.ensures.true_answer;
}

pub returns-in-Broken : goal.returns-in-Broken
returns-in-Broken c = record {
  front = λ earlier is.
      takes_break (frames c.args.asset.now.protocol c.requires.dnp3) c.args.asset.now c.all.result.bytes c.args.bytes.now.bytes c.args.seen.now.items c.in-Broken.ensures.true_answer.0 refl c.all.ensures.bytes
      c.in-Broken.ensures.true_answer.1;
}
