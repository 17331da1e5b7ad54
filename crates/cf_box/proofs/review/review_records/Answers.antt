use Rattle.std.proofs.Common.{[], map, reverse}
use Rattle.std.specs.Prelude.{string_bytes}
use Rattle.cf_review.specs.Reviewer.{IsReviewing}
use Rattle.cf_watch.specs.declared.Scope.TheVariants as scope
use Rattle.cf_box.proofs.OneRecording.{all_taken}
use Rattle.cf_box.proofs.Recorded.{reviewed_records}
use Rattle.cf_box.proofs.review.review_records.Goals as goal

pub read_each-requires-clause-heard : goal.read_each-requires-clause-heard
read_each-requires-clause-heard g c = ([], c.new-reviewer.ensures c.args.policy.now.assets c.requires.within)

pub finish-requires : goal.finish-requires
finish-requires g c =
    let assets = c.args.policy.now.assets in
    let taken = c.in-Ok.ensures.more in
    record {
      heard = (
        reverse taken.0,
        all_taken (IsReviewing scope.Recording assets) (g.F.Files.content c.args.files.now) (map string_bytes c.args.captures.now) c.new-reviewer.result c.read_each.new.hearer
            (c.new-reviewer.ensures assets c.requires.within) taken,
      );
    }

pub returns-in-Ok-finish-clause-reviewed : goal.returns-in-Ok-finish-clause-reviewed
returns-in-Ok-finish-clause-reviewed g c =
    let assets = c.args.policy.now.assets in
    let taken = c.in-Ok.ensures.more in
    let all = all_taken (IsReviewing scope.Recording assets) (g.F.Files.content c.args.files.now) (map string_bytes c.args.captures.now) c.new-reviewer.result c.read_each.new.hearer
    (c.new-reviewer.ensures assets c.requires.within) taken in
    (taken.0, taken.1, reviewed_records assets taken.0 (c.in-Ok-finish.ensures.reviewed (reverse taken.0) all))
