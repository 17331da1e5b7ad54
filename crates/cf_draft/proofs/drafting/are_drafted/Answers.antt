use Rattle.std.proofs.Common.{◌≡◌, ◌<◌, ◌≤◌, Some, arith, below_more, length, map, slice_get, subst, sym}
use Rattle.std.proofs.lemmas.Option.{slice_get_within}
use Rattle.cf_learn.specs.Shown.{site_place}
use Rattle.cf_policy.specs.Within.{IsAssetWithin, most_assets}
use Rattle.cf_policy.specs.declared.Asset.{Asset}
use Rattle.cf_watch.specs.FlowValue.{flow_value}
use Rattle.cf_draft.specs.Draft.{IsDraftedAsset}
use Rattle.cf_draft.proofs.Allowing.{drafted_here}
use Rattle.cf_draft.proofs.drafting.are_drafted.Goals as goal

pub site_place-site-requires : goal.site_place-site-requires
site_place-site-requires c =
    let few : length c.args.assets.now ≤ most_assets = c.requires.assets.count in
    record { few = omega (arith, few) }

pub is_drafted-requires-clause-asset : goal.is_drafted-requires-clause-asset
is_drafted-requires-clause-asset c =
    subst IsAssetWithin (sym c.index-assets-place.is) (c.requires.assets.each c.loop-place.place c.index-assets-place.result c.loop-place-test.true)

pub is_drafted-requires-clause-drafted : goal.is_drafted-requires-clause-drafted
is_drafted-requires-clause-drafted c =
    let inside : c.loop-place.place < length c.args.drafted.now = omega (arith, c.loop-place-test.true, c.if-drafted-assets.false) in
    subst IsAssetWithin (sym c.index-drafted-place.is) (c.requires.drafted.each c.loop-place.place c.index-drafted-place.result inside)

pub loop-place-preserved : goal.loop-place-preserved
loop-place-preserved c =
    below_more
    (λ k. (asset own : Asset) → slice_get c.args.assets.now k ≡ Some asset → slice_get c.args.drafted.now k ≡ Some own → IsDraftedAsset asset (site_place c.args.assets.now asset) (map flow_value c.args.flows.now) c.args.widened own)
    c.loop-place.place c.loop-place.invariant
    (drafted_here (map flow_value c.args.flows.now) c.args.widened c.args.assets.now c.args.drafted.now c.loop-place.place c.index-assets-place.result c.index-drafted-place.result
    c.index-assets-place.is c.index-drafted-place.is
    (subst (λ n. IsDraftedAsset c.index-assets-place.result n (map flow_value c.args.flows.now) c.args.widened c.index-drafted-place.result) c.site_place-site.ensures
    (c.in_ok-is_so.ensures c.if-not-is_so.false)))

pub returns : goal.returns
returns c = λ yes. record {
  count = omega (arith, c.if-drafted-assets.false);
  each = λ place asset own a o. c.loop-place.invariant place (let within = slice_get_within c.args.assets.now place asset a in omega (arith, within, c.loop-place-test.false)) asset own a o;
}
