use Rattle.std.proofs.Common.{ap, arith, length, sym, subst}
use Rattle.cf_lane.proofs.Parting.{within_at}
use Rattle.cf_policy.specs.Within.{IsAssetWithin}
use Rattle.cf_judge.proofs.Readers.{each_more, none_kept, one_more}
use Rattle.cf_judge.proofs.front.own_readers.Goals as goal

pub loop-place-init : goal.loop-place-init
loop-place-init c = record {
  count = ap length c.new-own.ensures.items;
  each = none_kept c.args.site.now c.args.client _ c.new-own.ensures.items;
}

pub own_reader-requires : goal.own_reader-requires
own_reader-requires c =
    record { within = subst IsAssetWithin (sym c.asset.ensures) (within_at c.args.site.now c.requires.within c.loop-place.place) }

pub loop-place-preserved : goal.loop-place-preserved
loop-place-preserved c =
    let site = c.args.site.now in
    let old = c.loop-place.own.items in
    let new = c.push_own.new.own.items in
    let own = c.in_ok-one.ensures.of_asset in
    record {
      count = one_more site c.args.client c.loop-place.place old new c.in_ok-one.one c.asset.result.now c.asset.ensures own c.in_ok-push_own.ensures c.loop-place.invariant.count;
      each = each_more site c.args.client c.loop-place.place old new c.in_ok-one.one c.asset.result.now c.asset.ensures own c.in_ok-push_own.ensures c.loop-place.invariant.count
          c.loop-place.invariant.each;
    }

pub returns-clause-one_each : goal.returns-clause-one_each
returns-clause-one_each c = omega (arith, c.loop-place.invariant.count, c.loop-place-test.false, c.len-place-end.ensures, c.loop-place.auto.place-end)

pub returns-clause-each : goal.returns-clause-each
returns-clause-each c = c.loop-place.invariant.each
