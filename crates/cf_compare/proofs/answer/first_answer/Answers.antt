use Rattle.std.proofs.Common.{◌≡◌, ◌∙◌, ℕ, ◌<◌, ap, get_or, length, sym, subst, take, Some, arith}
use Rattle.std.specs.Prelude.{All}
use Rattle.std.proofs.lemmas.Option.{slice_get-get_or}
use Rattle.std.proofs.lemmas.List.{take_all}
use Rattle.std.proofs.lemmas.List.Elements.{All-more}
use Rattle.cf_policy.specs.declared.policy.Asset.{Asset}
use Rattle.cf_policy.specs.declared.policy.Policy.{Policy}
use Rattle.cf_compare.specs.Outcome.{Passes, StopsAt}
use Rattle.cf_compare.specs.Parts.{AnswersFor}
use Rattle.cf_compare.proofs.answer.first_answer.Goals as goal

stopped : (ours other : Policy) (reason : Asset → Type 0) (place : ℕ) (asset : Asset) → place < length ours.assets → asset ≡ get_or ours.assets place asset
    → All (Passes other) (take place ours.assets) → reason asset → StopsAt ours other place reason
stopped ours other reason place asset inside is earlier stops =
    record { asset = asset; here = slice_get-get_or ours.assets place asset inside ∙ ap Some (sym is); earlier = earlier; stops = stops }

pub returns-in-Ok-Missing : goal.returns-in-Ok-Missing
returns-in-Ok-Missing c =
    stopped _ _ _ c.loop-place.place c.index-assets-place.result c.loop-place-test.true c.index-assets-place.is c.loop-place.invariant
    (subst (AnswersFor c.args.other.now c.index-assets-place.result) c.in-Ok-Missing.field-0-is c.in-Ok-Missing.ensures)

pub returns-in-Ok-Cells : goal.returns-in-Ok-Cells
returns-in-Ok-Cells c =
    stopped _ _ _ c.loop-place.place c.index-assets-place.result c.loop-place-test.true c.index-assets-place.is c.loop-place.invariant
    (subst (AnswersFor c.args.other.now c.index-assets-place.result) c.in-Ok-Cells.field-0-is c.in-Ok-Cells.ensures)

pub returns-in-Ok-Shown : goal.returns-in-Ok-Shown
returns-in-Ok-Shown c =
    stopped _ _ _ c.loop-place.place c.index-assets-place.result c.loop-place-test.true c.index-assets-place.is c.loop-place.invariant
    (subst (AnswersFor c.args.other.now c.index-assets-place.result) c.in-Ok-Shown.field-0-is c.in-Ok-Shown.ensures)

pub loop-place-preserved : goal.loop-place-preserved
loop-place-preserved c =
    let asset = c.index-assets-place.result in
    let passes = subst (AnswersFor c.args.other.now asset) c.in-Ok-Passes.field-0-is c.in-Ok-Passes.ensures in
    All-more (Passes c.args.other.now) c.args.assets.now c.loop-place.place asset c.loop-place-test.true c.loop-place.invariant
    (subst (Passes c.args.other.now) c.index-assets-place.is passes)

pub returns : goal.returns
returns c = subst (All (Passes c.args.other.now)) (take_all c.loop-place.place c.args.assets.now (omega arith)) c.loop-place.invariant
