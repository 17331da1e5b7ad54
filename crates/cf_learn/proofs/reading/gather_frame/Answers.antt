use Rattle.std.proofs.Common.{◌∙◌, ◌++◌, refl, sym}
use Rattle.cf_dnplink.specs.LinkFrame.{frame_value}
use Rattle.std.proofs.lemmas.Result.{on_ok_weaker}
use Rattle.cf_dnptrans.specs.declared.SegmentAnswer.TheVariants.{Dropped, More}
use Rattle.cf_learn.proofs.Fragments.{gathered_frame, gathered_nothing, not_served, not_whole}
use Rattle.cf_learn.proofs.reading.gather_frame.Goals as goal

pub returns-in-Whole-clause-adds : goal.returns-in-Whole-clause-adds
returns-in-Whole-clause-adds c = λ earlier is.
    on_ok_weaker c.gather_fragment.result
    (λ a. gathered_frame c.args.asset.now c.args.client earlier (frame_value c.args.frame.now) (c.args.seen.now.sorted.items ++ c.args.seen.now.loose.items)
    (c.gather_fragment.new.seen.sorted.items ++ c.gather_fragment.new.seen.loose.items) c.fragment.result.bytes
    (sym c.is_segment.ensures ∙ c.if-not-is_segment.false) (sym (c.in-Whole.ensures.answer earlier is)) (c.fragment.ensures.fragment _ (c.in-Whole.ensures.stands earlier is)) a)
    c.gather_fragment.ensures.adds

pub returns-then-not-is_segment-clause-adds : goal.returns-then-not-is_segment-clause-adds
returns-then-not-is_segment-clause-adds c = λ earlier is.
    gathered_nothing c.args.asset.now c.args.client earlier (frame_value c.args.frame.now) (c.args.seen.now.sorted.items ++ c.args.seen.now.loose.items)
    (not_served c.args.asset.now earlier (frame_value c.args.frame.now) (sym c.is_segment.ensures ∙ c.if-not-is_segment.true))

pub returns-in-More-clause-adds : goal.returns-in-More-clause-adds
returns-in-More-clause-adds c = λ earlier is.
    gathered_nothing c.args.asset.now c.args.client earlier (frame_value c.args.frame.now) (c.args.seen.now.sorted.items ++ c.args.seen.now.loose.items)
    (not_whole c.args.asset.now earlier (frame_value c.args.frame.now) More (sym c.is_segment.ensures ∙ c.if-not-is_segment.false) (sym (c.in-More.ensures.answer earlier is)) refl)

pub returns-in-Dropped-clause-adds : goal.returns-in-Dropped-clause-adds
returns-in-Dropped-clause-adds c = λ earlier is.
    gathered_nothing c.args.asset.now c.args.client earlier (frame_value c.args.frame.now) (c.args.seen.now.sorted.items ++ c.args.seen.now.loose.items)
    (not_whole c.args.asset.now earlier (frame_value c.args.frame.now) (Dropped c.in-Dropped.field-0) (sym c.is_segment.ensures ∙ c.if-not-is_segment.false)
    (sym (c.in-Dropped.ensures.answer earlier is)) refl)
