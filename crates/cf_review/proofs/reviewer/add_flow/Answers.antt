use Rattle.std.proofs.Common.{◌≡◌, ◌++◌, Some, ℕ, true, All, map, subst}
use Rattle.std.proofs.lemmas.Result.{IfOk-weaker, on_ok_weaker}
use Rattle.cf_policy.specs.declared.Asset.{Asset}
use Rattle.cf_watch.specs.FlowValue.{flow_value}
use Rattle.cf_watch.specs.Trail.{Heard}
use Rattle.cf_review.specs.FirstUnit.{IsReadPart, from_place}
use Rattle.cf_review.specs.Follow.{IsFollowed, IsStaged, IsTail, unread}
use Rattle.cf_review.specs.Remark.{remark_value}
use Rattle.cf_review.specs.Review.{AddsReview, AddsUnits}
use Rattle.cf_review.specs.declared.following.Stage.{Stage}
use Rattle.cf_review.proofs.Finishing.{before_of, even_tail, more_of, not_waiting, read_before, read_now}
use Rattle.cf_review.proofs.reviewer.add_flow.Goals as goal

pub review_units-requires-clause-born : goal.review_units-requires-clause-born
review_units-requires-clause-born c = even_tail c.requires.followed.0 c.args.flow.now c.requires.followed.1

pub returns-in-Waits-clause-reviewed : goal.returns-in-Waits-clause-reviewed
returns-in-Waits-clause-reviewed c =
    let g = c.args.following.now in
    let f = c.args.flow.now in
    let site = c.args.site.now in
    let place = c.first_place-start.result in
    let start = map remark_value c.args.remarks.now.items in
    let first = map remark_value c.add_midstream.new.remarks.items in
    let second = map remark_value c.add_conflict.new.remarks.items in
    let now = map remark_value c.review_units.new.remarks.items in
    let part = subst (λ (own : Asset). IsReadPart own.protocol (flow_value f) (from_place place (flow_value f))) c.first.ensures c.first_place-start.ensures.part in
    IfOk-weaker c.review_units.result (λ (admitted : ℕ). AddsUnits site (from_place place (flow_value f)) second now admitted)
    (λ (admitted : ℕ). (h : Heard) → IsTail h f → IsFollowed (Some site) h g → AddsReview site h.value start now admitted)
    (λ admitted units h tail followed. read_now site h f tail start first second now c.in_ok-add_midstream.ensures c.in_ok-add_conflict.ensures place g.at g.admitted admitted
    (map remark_value g.remarks.items) (subst (λ (s : Stage). IsStaged site h s g.at g.admitted (map remark_value g.remarks.items)) c.in-Waits.is followed.0) part units)
    c.review_units.ensures.adds

pub returns-in-Waits-clause-told : goal.returns-in-Waits-clause-told
returns-in-Waits-clause-told c =
    let g = c.args.following.now in
    let f = c.args.flow.now in
    on_ok_weaker c.review_units.result (λ units known told before. units known (subst (λ (s : Stage). All (λ (n : ℕ). known n ≡ true) (unread s g.at f)) c.in-Waits.is told.unread)
    (before_of known f g told (map remark_value c.args.remarks.now.items) (map remark_value c.add_midstream.new.remarks.items) (map remark_value c.add_conflict.new.remarks.items)
    c.in_ok-add_midstream.ensures c.in_ok-add_conflict.ensures before)) c.review_units.ensures.told

pub returns-in_ok-add_all-in-Reads-clause-reviewed : goal.returns-in_ok-add_all-in-Reads-clause-reviewed
returns-in_ok-add_all-in-Reads-clause-reviewed c h tail followed =
    let g = c.args.following.now in
    let other = not_waiting g.stage c.in-Reads.is in
    read_before c.args.site.now h c.args.flow.now tail (map remark_value c.args.remarks.now.items) (map remark_value c.add_midstream.new.remarks.items)
    (map remark_value c.add_conflict.new.remarks.items) (map remark_value c.add_all.new.remarks.items) c.in_ok-add_midstream.ensures c.in_ok-add_conflict.ensures
    g.stage g.at g.admitted (map remark_value g.remarks.items) other followed.0 followed.1
    (subst (λ xs. map remark_value c.add_all.new.remarks.items ≡ map remark_value c.add_conflict.new.remarks.items ++ map remark_value xs) c.as_slice.ensures.value c.in_ok-add_all-in-Reads.ensures)

pub returns-in_ok-add_all-in-Reads-clause-told : goal.returns-in_ok-add_all-in-Reads-clause-told
returns-in_ok-add_all-in-Reads-clause-told c known told before =
    let g = c.args.following.now in
    more_of known (map remark_value c.add_conflict.new.remarks.items) (map remark_value g.remarks.items) (map remark_value c.add_all.new.remarks.items)
    (subst (λ xs. map remark_value c.add_all.new.remarks.items ≡ map remark_value c.add_conflict.new.remarks.items ++ map remark_value xs) c.as_slice.ensures.value c.in_ok-add_all-in-Reads.ensures)
    (before_of known c.args.flow.now g told (map remark_value c.args.remarks.now.items) (map remark_value c.add_midstream.new.remarks.items) (map remark_value c.add_conflict.new.remarks.items)
    c.in_ok-add_midstream.ensures c.in_ok-add_conflict.ensures before) told.remarks
