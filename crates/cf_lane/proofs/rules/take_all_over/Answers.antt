use Rattle.std.proofs.Common.{arith, get_or, length, refl, subst, sym, ◌<◌, ◌≤◌}
use Rattle.cf_lane.proofs.Parting.{within_at}
use Rattle.cf_lane.proofs.Starting.{all_over, over_more, own_rings_at}
use Rattle.cf_lane.specs.Rings.{AreOwnRings, IsRulesOf}
use Rattle.cf_policy.specs.Within.{IsAssetWithin}
use Rattle.cf_policy.specs.declared.Asset.{Asset}
use Rattle.cf_lane.proofs.rules.take_all_over.Goals as goal

pub loop-place-init : goal.loop-place-init
loop-place-init c = record { rings = refl; each = λ k rules below at. absurd (omega (arith, below)) }

pub take_over-requires-clause-within : goal.take_over-requires-clause-within
take_over-requires-clause-within c = subst IsAssetWithin (sym c.asset.ensures) (within_at c.args.site.now c.requires.within c.loop-place.place)

pub take_over-requires-clause-rings : goal.take_over-requires-clause-rings
take_over-requires-clause-rings c =
    let inside : c.loop-place.place < length c.loop-place.all = omega (arith, c.loop-place-test.true, c.loop-place.auto.all) in
    subst (λ (a : Asset). AreOwnRings a (get_or c.loop-place.all c.loop-place.place c.index-all-place.result).rings.items) (sym c.asset.ensures)
    (own_rings_at c.args.site.now c.args.client c.loop-place.place _ c.loop-place.all c.index-all-place.result c.loop-place.invariant c.requires.rings inside)

pub loop-place-preserved : goal.loop-place-preserved
loop-place-preserved c =
    let inside : c.loop-place.place < length c.loop-place.all = omega (arith, c.loop-place-test.true, c.loop-place.auto.all) in
    over_more c.args.site.now c.args.client c.loop-place.place _ c.loop-place.all c.index-all-place.result c.take_over.new.self c.loop-place.invariant inside
    c.in_ok-take_over.ensures.rings (subst (λ (a : Asset). IsRulesOf a c.args.client c.take_over.new.self) c.asset.ensures c.in_ok-take_over.ensures.of_asset)

pub returns-clause-of_site : goal.returns-clause-of_site
returns-clause-of_site c =
    let past : length c.loop-place.all ≤ c.loop-place.place = omega (arith, c.loop-place-test.false, c.loop-place.auto.all) in
    all_over c.args.site.now c.args.client c.loop-place.place _ c.loop-place.all c.loop-place.invariant c.requires.rings past

pub returns-clause-rings : goal.returns-clause-rings
returns-clause-rings c = c.loop-place.invariant.rings
