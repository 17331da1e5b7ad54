use Rattle.std.proofs.Common.{◌≡◌, ◌+◌, ◌<◌, ◌++◌, ◌∷◌, [], ◌∙◌, sym, ap, subst, refl, take, map, length, min, ◌^◌, ◌-◌, add-one}
use Rattle.std.proofs.Math.Seq.{take-suc}
use Rattle.std.proofs.lemmas.List.{map-append}
use Rattle.std.proofs.lemmas.Option.{slice_get_read}
use Rattle.cf_policy.specs.Site.{site_from}
use Rattle.cf_policy.specs.Within.{AreAssetsWithin}
use Rattle.cf_watch.specs.FlowValue.{IsForAsset, flow_value}
use Rattle.cf_judge.specs.Found.{IsFoundAt}
use Rattle.cf_judge.specs.Objections.{earlier, objection_by}
use Rattle.cf_judge.proofs.Flows.{JudgedSoFar, all_placed, for_asset, found_at_has, judged_at, judged_first, places_in_words}
use Rattle.cf_judge.proofs.judging.judge.Goals as goal

pub loop-flow-init : goal.loop-flow-init
loop-flow-init c = judged_first c.args.policy.now.assets

pub judge_at-requires-clause-within : goal.judge_at-requires-clause-within
judge_at-requires-clause-within c = subst AreAssetsWithin (sym c.as_slice-assets.ensures) c.requires.within

pub judge_at-requires-clause-flow : goal.judge_at-requires-clause-flow
judge_at-requires-clause-flow c =
    subst (λ xs. IsForAsset xs (flow_value c.flow-item.result)) (sym c.as_slice-assets.ensures)
    (for_asset c.args.policy.now.assets c.args.flows.now c.requires.flows c.loop-flow.flow-index c.flow-item.result
    (slice_get_read c.args.flows.now (length c.args.flows.now) c.loop-flow.flow-index c.flow-item.result refl c.loop-flow-test.true c.flow-item.is))

pub objection_of-requires : goal.objection_of-requires
objection_of-requires c =
    let assets = c.args.policy.now.assets in
    let f = flow_value c.flow-item.result in
    let found = c.in_ok-found.found in
    let is = subst (λ xs. IsFoundAt (site_from xs f.asset) f found) c.as_slice-assets.ensures c.in_ok-found.ensures in
    record { places = places_in_words assets f.asset found.first c.requires.within (found_at_has assets f found (site_from assets f.asset) refl is) }

pub loop-flow-preserved : goal.loop-flow-preserved
loop-flow-preserved c =
    let assets = c.args.policy.now.assets in
    let flows = c.args.flows.now in
    let i = c.loop-flow.flow-index in
    let g = c.flow-item.result in
    let f = flow_value g in
    let inside : i < length flows = c.loop-flow-test.true in
    let more : take i flows ++ g ∷ [] ≡ take (i + 1) flows = rw add-one (ap (λ h. take i flows ++ h ∷ []) c.flow-item.is ∙ sym (take-suc flows i g inside)) in
    let values : map flow_value (take i flows) ++ f ∷ [] ≡ map flow_value (take (i + 1) flows) = sym (map-append flow_value (take i flows) (g ∷ [])) ∙ ap (map flow_value) more in
    let is = subst (λ xs. IsFoundAt (site_from xs f.asset) f c.in_ok-found.found) c.as_slice-assets.ensures c.in_ok-found.ensures in
    let next = judged_at assets (map flow_value (take i flows)) c.loop-flow.commands c.loop-flow.objection f (site_from assets f.asset) c.in_ok-found.found c.loop-flow.invariant refl is in
    let counted : min (c.loop-flow.commands + c.in_ok-found.found.commands) (2 ^ 64 - 1) ≡ c.saturating_add-commands.result = sym c.saturating_add-commands.ensures in
    let objected : earlier c.loop-flow.objection (objection_by f c.in_ok-found.found.first) ≡ c.earlier-objection.result =
    ap (earlier c.loop-flow.objection) (sym c.objection_of.ensures) ∙ sym c.earlier-objection.ensures in
    subst (λ fs. JudgedSoFar assets fs c.saturating_add-commands.result c.earlier-objection.result) values
    (subst (λ n. JudgedSoFar assets (map flow_value (take i flows) ++ f ∷ []) n c.earlier-objection.result) counted
    (subst (λ o. JudgedSoFar assets (map flow_value (take i flows) ++ f ∷ []) (min (c.loop-flow.commands + c.in_ok-found.found.commands) (2 ^ 64 - 1)) o) objected next))

pub returns-clause-place : goal.returns-clause-place
returns-clause-place c = let so = c.loop-flow.invariant in all_placed c.args.policy.now.assets c.loop-flow.objection so.readings so.objection_is so.are_read
