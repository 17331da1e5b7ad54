use Rattle.std.proofs.Common.{arith, eqb-true, length, sym, ap, subst, ◌≡◌}
use Rattle.std.specs.Vec.{vec_len}
use Rattle.cf_modbus.specs.Adu.{adu_value}
use Rattle.cf_lane.specs.Plain.{HasPlainDecider, IsPlainFate}
use Rattle.cf_lane.specs.Rings.{IsRulesOf, says_by}
use Rattle.cf_policy.specs.declared.Asset.{Asset}
use Rattle.cf_lane.specs.Handled.{LaneValue}
use Rattle.cf_lane.proofs.Plains.{plain_fate, plain_form_fate}
use Rattle.cf_lane.proofs.Saying.{at_own}
use Rattle.cf_lane.proofs.lane.Lane.take_command.Goals as goal

pub rules_at-rules-requires : goal.rules_at-rules-requires
rules_at-rules-requires g c =
    omega (arith, c.place_for_adu-place.ensures.inside, c.requires.of_site.rules.one_each, ap (λ (l : LaneValue). length l.rules) c.self.view_is, ap length c.as_slice.ensures.value)

pub take_plain-requires-clause-known : goal.take_plain-requires-clause-known
take_plain-requires-clause-known g c =
    let site = c.args.site.now in
    let place = c.place_for_adu-place.result in
    let own = c.rules_at-rules.result.now in
    let asset = c.asset-asset.result.now in
    let is = c.asset-asset.ensures in
    let a = adu_value c.args.adu.now in
    let moment = c.args.moment in
    let client = c.args.self.now.client.address in
    let at = at_own _ _ _ place own c.self.view_is c.as_slice.ensures.value c.rules_at-rules.ensures in
    let of = subst (λ (x : Asset). IsRulesOf x client own) (sym is) (c.requires.of_site.rules.each place own at) in
    let station : a.unit ≡ asset.station = cc in
    let no_ring : length own.rings.items ≡ 0 = omega (arith, own.rings.ok.0, eqb-true (vec_len own.rings) 0 (sym c.if-not-is_empty.ensures)) in (
      own,
      at,
      no_ring,
      subst (λ (x : Asset). IsPlainFate x (says_by x client own moment) a c.plain_act-plain.result) is
          (plain_fate asset client own moment of no_ring a station c.in-Some.ensures.0 c.in-Some.ensures.1
          c.plain_act-plain.result _ c.in-Some.ensures.2 (c.plain_act-plain.ensures.fate client of.index)),
    )

pub take_plain-requires-clause-decider : goal.take_plain-requires-clause-decider
take_plain-requires-clause-decider g c = subst (λ (x : Asset). HasPlainDecider x.rules c.plain_act-plain.result) c.asset-asset.ensures c.plain_act-plain.ensures.decider

pub take_plain-requires-2-clause-known : goal.take_plain-requires-2-clause-known
take_plain-requires-2-clause-known g c =
    let site = c.args.site.now in
    let place = c.place_for_adu-place.result in
    let own = c.rules_at-rules.result.now in
    let asset = c.asset-asset.result.now in
    let is = c.asset-asset.ensures in
    let a = adu_value c.args.adu.now in
    let moment = c.args.moment in
    let client = c.args.self.now.client.address in
    let at = at_own _ _ _ place own c.self.view_is c.as_slice.ensures.value c.rules_at-rules.ensures in
    let of = subst (λ (x : Asset). IsRulesOf x client own) (sym is) (c.requires.of_site.rules.each place own at) in
    let station : a.unit ≡ asset.station = cc in
    let no_ring : length own.rings.items ≡ 0 = omega (arith, own.rings.ok.0, eqb-true (vec_len own.rings) 0 (sym c.if-not-is_empty.ensures)) in (
      own,
      at,
      no_ring,
      subst (λ (x : Asset). IsPlainFate x (says_by x client own moment) a c.plain_form-plain.result) is
          (plain_form_fate asset client own moment of no_ring a station c.plain_form-plain.result (c.plain_form-plain.ensures.fate client of.index)),
    )

pub take_plain-requires-2-clause-decider : goal.take_plain-requires-2-clause-decider
take_plain-requires-2-clause-decider g c = subst (λ (x : Asset). HasPlainDecider x.rules c.plain_form-plain.result) c.asset-asset.ensures c.plain_form-plain.ensures.decider
