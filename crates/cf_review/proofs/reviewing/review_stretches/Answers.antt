use Rattle.std.proofs.Common.{◌≡◌, ◌+◌, ◌<◌, ◌≤◌, ◌++◌, ◌∷◌, [], ◌∙◌, sym, ap, subst, arith, take, map, length, Some, min, ◌^◌, ◌-◌}
use Rattle.std.proofs.lemmas.List.{map_more, take_all}
use Rattle.cf_policy.specs.Site.{site_from}
use Rattle.cf_policy.specs.Within.{AreAssetsWithin, most_assets}
use Rattle.cf_watch.specs.FlowValue.{stretch_value}
use Rattle.cf_review.specs.Remark.{remark_value}
use Rattle.cf_review.specs.Review.{AddsStretches}
use Rattle.cf_review.proofs.Behind.{for_stretch, stretch_told, stretches_first, stretches_on}
use Rattle.cf_review.proofs.reviewing.review_stretches.Goals as goal

pub loop-stretch-init : goal.loop-stretch-init
loop-stretch-init c = record { adds = stretches_first c.args.policy.now.assets c.args.before _; told = λ known are olds. olds }

pub site_at_place-site-requires : goal.site_at_place-site-requires
site_at_place-site-requires c =
    let here = for_stretch c.args.policy.now.assets c.args.stretches.now c.requires.stretches c.loop-stretch.stretch-index c.stretch-item.result c.loop-stretch-test.true c.stretch-item.is in
    omega (arith, here.asset, ap length c.as_slice-assets.ensures)

pub review_stretch-requires-clause-within : goal.review_stretch-requires-clause-within
review_stretch-requires-clause-within c = c.site_at_place-site.ensures.within (subst AreAssetsWithin (sym c.as_slice-assets.ensures) c.requires.within)

pub review_stretch-requires-clause-places : goal.review_stretch-requires-clause-places
review_stretch-requires-clause-places c =
    let few : length c.args.policy.now.assets ≤ most_assets = c.requires.within.count in
    omega (arith, c.site_at_place-site.ensures.inside, ap length c.as_slice-assets.ensures, few)

pub review_stretch-requires-clause-born : goal.review_stretch-requires-clause-born
review_stretch-requires-clause-born c = (for_stretch c.args.policy.now.assets c.args.stretches.now c.requires.stretches c.loop-stretch.stretch-index c.stretch-item.result c.loop-stretch-test.true c.stretch-item.is).born

pub loop-stretch-preserved : goal.loop-stretch-preserved
loop-stretch-preserved c =
    let assets = c.args.policy.now.assets in
    let stretches = c.args.stretches.now in
    let i = c.loop-stretch.stretch-index in
    let s = c.stretch-item.result in
    let before = c.args.before in
    let start = map remark_value c.args.remarks.now.items in
    let new = map remark_value c.review_stretch.new.remarks.items in
    let inside : i < length stretches = c.loop-stretch-test.true in
    let values : map stretch_value (take i stretches) ++ stretch_value s ∷ [] ≡ map stretch_value (take (i + 1) stretches) =
    ap (λ g. map stretch_value (take i stretches) ++ stretch_value g ∷ []) c.stretch-item.is ∙ sym (map_more stretch_value stretches i s inside) in
    let site = c.site_at_place-site.result in
    let at : site_from assets s.flow.asset ≡ Some site = subst (λ xs. site_from xs s.flow.asset ≡ Some site) c.as_slice-assets.ensures c.site_at_place-site.ensures.site in
    let next = stretches_on assets (map stretch_value (take i stretches)) before c.loop-stretch.admitted c.in_ok-more.more start (map remark_value c.loop-stretch.remarks.items) new (stretch_value s)
    site c.loop-stretch.invariant.adds at c.in_ok-more.ensures.adds in
    let counted : min (c.loop-stretch.admitted + c.in_ok-more.more) (2 ^ 64 - 1) ≡ c.saturating_add-admitted.result = sym c.saturating_add-admitted.ensures in
    record {
      adds = subst (λ ss. AddsStretches assets ss before start new c.saturating_add-admitted.result) values
          (subst (λ n. AddsStretches assets (map stretch_value (take i stretches) ++ stretch_value s ∷ []) before start new n) counted next);
      told = λ known are olds. c.in_ok-more.ensures.told known (stretch_told known stretches i s are inside c.stretch-item.is) (c.loop-stretch.invariant.told known are olds);
    }

pub returns-clause-adds : goal.returns-clause-adds
returns-clause-adds c =
    let all : map stretch_value (take c.loop-stretch.stretch-index c.args.stretches.now) ≡ map stretch_value c.args.stretches.now =
    ap (map stretch_value) (take_all c.loop-stretch.stretch-index c.args.stretches.now (omega (arith, c.loop-stretch-test.false))) in
    subst (λ ss. AddsStretches c.args.policy.now.assets ss c.args.before (map remark_value c.args.remarks.now.items) (map remark_value c.loop-stretch.remarks.items) c.loop-stretch.admitted) all c.loop-stretch.invariant.adds
