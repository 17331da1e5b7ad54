use Rattle.std.proofs.Common.{◌≡◌, ◌++◌, map, take}
use Rattle.cf_review.specs.Remark.{remark_value}
use Rattle.cf_review.proofs.reviewer.add_all.Given as goal

abbrev pub invariant-loop-remark : goal.invariant-loop-remark
invariant-loop-remark l = map remark_value l.remarks.items ≡ map remark_value l.fn.remarks.items ++ map remark_value (take l.remark-index l.more)
