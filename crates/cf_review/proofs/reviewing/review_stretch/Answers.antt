use Rattle.std.proofs.Common.{◌≡◌, ℕ, All, map, subst, sym, true}
use Rattle.std.proofs.lemmas.List.Elements.{All-append}
use Rattle.std.proofs.lemmas.Result.{IfOk-weaker, on_ok_weaker}
use Rattle.cf_policy.specs.declared.Asset.{Asset}
use Rattle.cf_watch.specs.FlowValue.{flow_value, stretch_value}
use Rattle.cf_review.specs.FirstUnit.{IsReadPart, from_place}
use Rattle.cf_review.specs.Remark.{RemarkValue, remark_value}
use Rattle.cf_review.specs.Review.{AddsStretch, AddsUnits, gap_remarks}
use Rattle.cf_review.proofs.Behind.{adds_stretch}
use Rattle.cf_review.proofs.Telling.{gap_known}
use Rattle.cf_review.proofs.reviewing.review_stretch.Goals as goal

pub returns-clause-adds : goal.returns-clause-adds
returns-clause-adds c =
    let s = stretch_value c.args.stretch.now in
    let place = c.first_place-start.result in
    let start = map remark_value c.args.remarks.now.items in
    let first = map remark_value c.add_gap.new.remarks.items in
    let now = map remark_value c.review_units.new.remarks.items in
    IfOk-weaker c.review_units.result (λ (admitted : ℕ). AddsUnits c.args.site.now (from_place place s.flow) first now admitted)
    (λ (admitted : ℕ). AddsStretch c.args.site.now s start now admitted)
    (λ admitted units. adds_stretch c.args.site.now s place start first now admitted (subst (λ (own : Asset). IsReadPart own.protocol s.flow (from_place place s.flow)) c.first.ensures c.first_place-start.ensures.part) c.in_ok-add_gap.ensures units)
    c.review_units.ensures.adds

pub returns-clause-told : goal.returns-clause-told
returns-clause-told c =
    let s = c.args.stretch.now in
    on_ok_weaker c.review_units.result
    (λ told known is olds.
    let P : RemarkValue → Type 0 = λ r. known r.at_record ≡ true in
    told known is.bytes (subst (All P) (sym c.in_ok-add_gap.ensures)
    (All-append P (map remark_value c.args.remarks.now.items) (gap_remarks (flow_value s.flow) s.gap s.flow.midstream) olds (gap_known known (flow_value s.flow) s.gap s.flow.midstream is.first))))
    c.review_units.ensures.told
