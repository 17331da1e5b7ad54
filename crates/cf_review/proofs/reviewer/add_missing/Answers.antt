use Rattle.std.proofs.Common.{rules, ◌≡◌, length, inr}
use Rattle.cf_review.proofs.reviewer.add_missing.Goals as goal

pub returns : goal.returns
returns c =
    let place : c.args.place ≡ length c.args.followings.now.items = search rules in
    let new = c.new.ensures in
    inr (place, (c.new.result, record { begun = new.begun; stage = new.told.1; remarks = new.told.2 }, c.in_ok-push_following.ensures))
