use Rattle.std.proofs.Common.{map}
use Rattle.cf_review.proofs.FollowedOn.{forgotten}
use Rattle.cf_review.specs.Remark.{remark_value}
use Rattle.cf_review.proofs.following.Following.forget.Goals as goal

pub returns-clause-begun : goal.returns-clause-begun
returns-clause-begun c site h now value base is =
    forgotten site h now c.args.self.now.stage c.args.self.now.at c.saturating_sub-self.result c.args.count c.args.self.now.admitted (map remark_value c.args.self.now.remarks.items)
    value base c.saturating_sub-self.ensures c.requires.reads c.requires.waits is
