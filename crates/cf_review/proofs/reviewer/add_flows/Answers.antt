use Rattle.std.proofs.Common.{◌≡◌, ◌<◌, List, Some, refl, sym, subst, arith, map, length}
use Rattle.std.proofs.lemmas.Option.{slice_get_read}
use Rattle.cf_policy.specs.Site.{site_from}
use Rattle.cf_policy.specs.declared.Asset.{Asset}
use Rattle.cf_review.specs.Remark.{remark_value}
use Rattle.cf_review.proofs.Finishing.{asset_inside, is_followed, reviewed_more}
use Rattle.cf_review.proofs.reviewer.add_flows.Goals as goal

pub site_at_place-site-requires : goal.site_at_place-site-requires
site_at_place-site-requires c =
    let inside : c.loop-place.place < length c.args.followings.now.items = omega (arith, c.loop-place-test.true, c.len-place-end.ensures, c.args.followings.now.ok.0) in
    subst (λ (xs : List Asset). c.flow-flow.result.now.asset < length xs) (sym c.as_slice-assets.ensures)
    (asset_inside c.args.policy.now.assets c.requires.followed.0 c.args.watch.now.flows.items c.args.followings.now.items c.requires.followed.1 c.loop-place.place c.flow-flow.result.now inside c.flow-flow.ensures)

pub add_flow-requires-clause-followed : goal.add_flow-requires-clause-followed
add_flow-requires-clause-followed c =
    let assets = c.args.policy.now.assets in
    let f = c.flow-flow.result.now in
    let followings = c.args.followings.now.items in
    let inside : c.loop-place.place < length c.args.followings.now.items = omega (arith, c.loop-place-test.true, c.len-place-end.ensures, c.args.followings.now.ok.0) in
    let here = slice_get_read followings (length followings) c.loop-place.place c.index.result.now refl inside c.index.ensures in
    let at = subst (λ (xs : List Asset). site_from xs f.asset ≡ Some c.site_at_place-site.result) c.as_slice-assets.ensures c.site_at_place-site.ensures.site in
    is_followed assets c.requires.followed.0 c.args.watch.now.flows.items followings c.requires.followed.1 c.loop-place.place f inside c.flow-flow.ensures c.index.result.now here
    c.site_at_place-site.result at

pub loop-place-preserved : goal.loop-place-preserved
loop-place-preserved c =
    let assets = c.args.policy.now.assets in
    let f = c.flow-flow.result.now in
    let followings = c.args.followings.now.items in
    let inside : c.loop-place.place < length c.args.followings.now.items = omega (arith, c.loop-place-test.true, c.len-place-end.ensures, c.args.followings.now.ok.0) in
    let here = slice_get_read followings (length followings) c.loop-place.place c.index.result.now refl inside c.index.ensures in
    let at = subst (λ (xs : List Asset). site_from xs f.asset ≡ Some c.site_at_place-site.result) c.as_slice-assets.ensures c.site_at_place-site.ensures.site in
    record {
      reviewed = λ hs are. reviewed_more assets hs c.args.watch.now.flows.items followings are c.loop-place.place f inside c.flow-flow.ensures c.index.result.now here
          c.site_at_place-site.result at c.loop-place.admitted c.in_ok-more.more c.saturating_add-admitted.result (map remark_value c.loop-place.remarks.items)
          (map remark_value c.add_flow.new.remarks.items) (c.loop-place.invariant.reviewed hs are) c.in_ok-more.ensures.reviewed (sym c.saturating_add-admitted.ensures);
      told = λ known each. c.in_ok-more.ensures.told known (each c.loop-place.place f c.index.result.now c.flow-flow.ensures here) (c.loop-place.invariant.told known each);
    }
