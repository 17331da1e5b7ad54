use Rattle.std.proofs.Common.{length, refl}
use Rattle.std.proofs.lemmas.Option.{slice_get_read}
use Rattle.cf_judge.proofs.front.judge_frame_at.Goals as goal

pub returns : goal.returns
returns c = record {
  was = c.index_mut-reader.result.now;
  now = c.judge_frame.new.self;
  at = slice_get_read c.args.own.now.items (length c.args.own.now.items) c.args.place c.index_mut-reader.result.now refl c.requires.inside c.index_mut-reader.ensures.value;
  set_is = refl;
  judges = record { counts = c.judge_frame.ensures.counts; whole = c.judge_frame.ensures.whole; goes_on = c.judge_frame.ensures.goes_on };
}
