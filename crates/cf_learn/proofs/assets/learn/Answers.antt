use Rattle.std.proofs.Common.{rules, ◌≡◌, ◌<◌, ◌≤◌, ◌++◌, ◌∷◌, ◌∙◌, [], ap, arith, get_or, length, map, subst, sym}
use Rattle.cf_watch.specs.FlowValue.{flow_value}
use Rattle.cf_policy.specs.Within.{AreAssetsWithin, IsAssetWithin, most_assets}
use Rattle.cf_learn.specs.Assets.{AreLearned, IsLearnedAsset, LearnsTooMany}
use Rattle.cf_learn.specs.Shown.{site_place}
use Rattle.cf_learn.proofs.Learned.{all_learned, learned_lent, learned_within, stops_here}
use Rattle.cf_learn.proofs.assets.learn.Goals as goal

pub loop-place-init : goal.loop-place-init
loop-place-init c = subst (AreLearned (map flow_value c.args.flows.now) c.args.policy.now.assets []) (sym c.new-learned.ensures.items) tt

pub site_place-site-requires : goal.site_place-site-requires
site_place-site-requires c =
    let few : length c.args.policy.now.assets ≤ most_assets = c.requires.within.count in
    record { few = omega (arith, few, ap length c.as_slice.ensures) }

pub learned_asset-requires : goal.learned_asset-requires
learned_asset-requires c =
    let asset = c.asset-item.result in
    let same = c.as_slice-asset-items.ensures in
    let here = c.asset-item.is ∙ ap (λ l. get_or l c.loop-place.place asset) same in
    record {
      within = subst IsAssetWithin (sym here) (c.requires.within.each c.loop-place.place asset (subst (λ l. c.loop-place.place < length l) same c.loop-place-test.true));
    }

pub returns-in-Err-TooMany-clause-stops : goal.returns-in-Err-TooMany-clause-stops
returns-in-Err-TooMany-clause-stops c =
    let asset = c.asset-item.result in
    let flows = map flow_value c.args.flows.now in
    let many : LearnsTooMany asset c.site_place-site.result flows = search rules in
    stops_here flows c.as_slice-asset-items.result.now c.args.policy.now.assets c.loop-place.learned.items c.loop-place.place asset
    c.as_slice-asset-items.ensures c.loop-place-test.true c.asset-item.is c.loop-place.invariant
    (subst (λ n. LearnsTooMany asset n flows) (c.site_place-site.ensures ∙ ap (λ l. site_place l asset) c.as_slice.ensures) many)

pub loop-place-preserved : goal.loop-place-preserved
loop-place-preserved c =
    let asset = c.asset-item.result in
    let flows = map flow_value c.args.flows.now in
    let pushed : c.push.new.self.items ≡ c.loop-place.learned.items ++ c.in-Ok.one ∷ [] = search rules in
    learned_lent flows c.as_slice-asset-items.result.now c.args.policy.now.assets c.loop-place.learned.items c.loop-place.place asset
    c.as_slice-asset-items.ensures c.loop-place-test.true c.asset-item.is c.loop-place.invariant c.push.new.self.items c.in-Ok.one
    (subst (λ n. IsLearnedAsset asset n flows c.in-Ok.one) (c.site_place-site.ensures ∙ ap (λ l. site_place l asset) c.as_slice.ensures) c.in-Ok.ensures.learned) pushed

pub returns-clause-learned : goal.returns-clause-learned
returns-clause-learned c =
    subst (AreLearned (map flow_value c.args.flows.now) c.args.policy.now.assets c.args.policy.now.assets) (sym c.new.ensures)
    (all_learned (map flow_value c.args.flows.now) c.as_slice-asset-items.result.now c.args.policy.now.assets c.loop-place.learned.items c.loop-place.place c.as_slice-asset-items.ensures
    c.loop-place-test.false c.loop-place.invariant)

pub returns-clause-within : goal.returns-clause-within
returns-clause-within c =
    subst AreAssetsWithin (sym c.new.ensures)
    (learned_within (map flow_value c.args.flows.now) c.args.policy.now.assets c.loop-place.learned.items c.requires.within
    (all_learned (map flow_value c.args.flows.now) c.as_slice-asset-items.result.now c.args.policy.now.assets c.loop-place.learned.items c.loop-place.place c.as_slice-asset-items.ensures
    c.loop-place-test.false c.loop-place.invariant))
