use Rattle.std.proofs.Common.{arith, subst, sym}
use Rattle.cf_lane.proofs.Parting.{within_at}
use Rattle.cf_lane.proofs.Starting.{none_so_far, rules_more}
use Rattle.cf_lane.specs.Rings.{AddsRules}
use Rattle.cf_policy.specs.Within.{IsAssetWithin}
use Rattle.cf_policy.specs.declared.Asset.{Asset}
use Rattle.cf_lane.proofs.rules.new_rules.Goals as goal

pub loop-place-init : goal.loop-place-init
loop-place-init c = none_so_far c.args.site.now c.args.client _ c.new-all.ensures.items

pub push_rules-requires : goal.push_rules-requires
push_rules-requires c = record { within = subst IsAssetWithin (sym c.asset.ensures) (within_at c.args.site.now c.requires.within c.loop-place.place) }

pub loop-place-preserved : goal.loop-place-preserved
loop-place-preserved c =
    rules_more c.args.site.now c.args.client c.loop-place.place _ _ c.loop-place.invariant
    (subst (λ (a : Asset). AddsRules a c.args.client c.loop-place.all.items c.push_rules.new.all.items) c.asset.ensures c.in_ok-push_rules.ensures.more)

pub returns-clause-of_site : goal.returns-clause-of_site
returns-clause-of_site c = record {
  one_each = omega (arith, c.loop-place.invariant.count_is, c.loop-place-test.false, c.len-place-end.ensures, c.loop-place.auto.place-end);
  each = λ k rules at. (c.loop-place.invariant.each k rules at).0;
}

pub returns-clause-knows : goal.returns-clause-knows
returns-clause-knows c = λ k rules at. (c.loop-place.invariant.each k rules at).1
