use Rattle.std.proofs.Common.{◌++◌, take}
use Rattle.cf_learn.specs.Reading.{HaveSame}
use Rattle.cf_learn.proofs.gathering.Gathering.add.Given as goal

abbrev pub invariant-loop-one : goal.invariant-loop-one
invariant-loop-one l = HaveSame (l.self.sorted.items ++ l.self.loose.items) ((l.fn.self.sorted.items ++ l.fn.self.loose.items) ++ take l.one-index l.fresh)
