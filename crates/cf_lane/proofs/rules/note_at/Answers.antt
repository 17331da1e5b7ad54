use Rattle.cf_lane.proofs.Saying.{noted_at}
use Rattle.cf_lane.proofs.rules.note_at.Goals as goal

pub returns : goal.returns
returns c = noted_at c.args.place _ c.args.moment c.args.all.now c.index-all-place.result c.note.new.self c.requires.few.inside c.index-all-place.is c.note.ensures
