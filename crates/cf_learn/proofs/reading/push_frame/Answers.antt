use Rattle.std.proofs.Common.{◌∙◌, sym}
use Rattle.cf_dnplink.specs.LinkFrame.{frame_value}
use Rattle.std.proofs.lemmas.Result.{on_ok_weaker}
use Rattle.cf_learn.proofs.Fronts.{frame_added}
use Rattle.cf_learn.proofs.reading.push_frame.Goals as goal

pub returns-in-Whole-clause-adds : goal.returns-in-Whole-clause-adds
returns-in-Whole-clause-adds c = λ earlier is.
    on_ok_weaker c.push_fragment.result
    (λ a. frame_added c.args.asset.now c.args.client c.args.seen.now.items c.push_fragment.new.seen.items earlier (frame_value c.args.frame.now) c.fragment.result.bytes
    (sym c.is_segment.ensures ∙ c.if-not-is_segment.false) (sym (c.in-Whole.ensures.answer earlier is)) (c.fragment.ensures.fragment _ (c.in-Whole.ensures.stands earlier is)) a)
    c.push_fragment.ensures
