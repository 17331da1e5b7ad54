use Rattle.std.proofs.Common.{inl, inr}
use Rattle.cf_dnplink.specs.LinkFrame.{frame_value}
use Rattle.cf_review.proofs.FirstUnits.{not_broken, not_more}
use Rattle.cf_review.proofs.first_unit.frame_begins.Goals as goal

pub returns-in-More : goal.returns-in-More
returns-in-More c = record {
  unit = λ e. cc e;
  none = λ e f n b. elim c.in-More.is [
    | inl more ↦ not_more frame_value f n c.next_frame.result (c.next_frame.ensures.unit f n b) more
    | inr broken ↦ not_broken frame_value f n c.next_frame.result broken.0 (c.next_frame.ensures.unit f n b) broken.1
  ];
}
