use Rattle.std.proofs.Common.{◌≡◌, ◌+◌, ◌-◌, ◌<◌, ◌≤◌, ◌∙◌, length, map, slice_range, ap, subst, arith}
use Rattle.cf_judge.specs.Front.{TakesUnit}
use Rattle.cf_lane.specs.Unit.{SpellsUnit, unit_break}
use Rattle.cf_review.proofs.Reading.{broke_inside, breaks_off, part_to, read_by, takes_on, took_inside, waits, waits_all}
use Rattle.cf_review.proofs.Telling.{adds_on, known_at, told_on}
use Rattle.cf_review.specs.Follow.{SoFar}
use Rattle.cf_review.specs.Remark.{remark_value}
use Rattle.cf_view.specs.Framing.{BreaksAt}
use Rattle.cf_review.proofs.reviewing.read_units.Goals as goal
use Rattle.cf_review.proofs.reviewing.read_units.Goals.{In-Broken, In-Took}

-- a unit was taken
module _ (c : In-Took) where
  lent : c.octets_of.result.bytes ≡ slice_range c.args.flow.now.bytes.items c.units.at (length c.args.flow.now.bytes.items)
  lent = c.octets_of.ensures ∙ ap (λ xs. slice_range xs c.units.at (length xs)) c.as_slice-bytes.ensures.value

  abbrev so : SoFar c.args.site.now c.requires.so_far.0 c.requires.so_far.1 (c.requires.so_far.2 + (c.units.at - c.args.at.now)) c.units.reader c.units.admitted (map remark_value c.units.remarks.items)
  so = c.units.invariant.so_far c.requires.so_far.0 c.requires.so_far.1 c.requires.so_far.2 c.requires.so_far.3 c.requires.so_far.4

  unit : TakesUnit c.args.site.now c.requires.so_far.0.client.address so.units c.octets_of.result.bytes c.in-Took.ruling c.in-Took.place c.in-Took.used c.next.new.self
  unit = c.in-Took.ensures.front c.requires.so_far.0.client.address so.units so.reader

  inside : (c.units.at + c.in-Took.used ≤ length c.args.flow.now.bytes.items) × (0 < c.in-Took.used)
  inside = took_inside c.args.flow.now c.units.at c.octets_of.result.bytes lent _ _ _ _ _ _ _ c.units.invariant.inside unit

-- the bytes broke
module _ (c : In-Broken) where
  lent_too : c.octets_of.result.bytes ≡ slice_range c.args.flow.now.bytes.items c.units.at (length c.args.flow.now.bytes.items)
  lent_too = c.octets_of.ensures ∙ ap (λ xs. slice_range xs c.units.at (length xs)) c.as_slice-bytes.ensures.value

  breaks : BreaksAt (SpellsUnit c.args.site.now.first.protocol) c.octets_of.result.bytes c.in-Broken.place × (c.in-Broken.reason ≡ unit_break c.args.site.now.first.protocol c.in-Broken.place)
  breaks =
      let so = c.units.invariant.so_far c.requires.so_far.0 c.requires.so_far.1 c.requires.so_far.2 c.requires.so_far.3 c.requires.so_far.4 in
      c.in-Broken.ensures.front c.requires.so_far.0.client.address so.units so.reader

  within : c.units.at + c.in-Broken.place < length c.args.flow.now.bytes.items
  within = broke_inside c.args.flow.now c.units.at c.octets_of.result.bytes lent_too c.args.site.now c.in-Broken.place c.units.invariant.inside breaks.0

pub next-requires : goal.next-requires
next-requires c =
    let so = c.units.invariant.so_far c.requires.so_far.0 c.requires.so_far.1 c.requires.so_far.2 c.requires.so_far.3 c.requires.so_far.4 in
    record { for_site = so.reader.one_each }

pub returns-in-Rest-clause-whole : goal.returns-in-Rest-clause-whole
returns-in-Rest-clause-whole c is f start place part so =
    let lent = c.octets_of.ensures ∙ ap (λ xs. slice_range xs c.units.at (length xs)) c.as_slice-bytes.ensures.value in
    let here = c.units.invariant.so_far f start place part so in (
      read_by _ _ _ _ _ _ _ here c.next.new.self (c.next.ensures.rest c.in-Rest.is),
      waits c.args.flow.now c.units.at c.octets_of.result.bytes lent _ _ _ _ _ _ _ (part_to f place c.args.flow.now c.args.at.now c.units.at c.units.invariant.past part) here c.in-Rest.ensures.front,
    )

pub overflow_add-at : goal.overflow_add-at
overflow_add-at c =
    let i = within (goal.at.overflow_add-at c).In-Broken in
    omega (arith, i, c.args.flow.now.bytes.ok.0, c.args.flow.now.bytes.ok.1, c.args.flow.now.bytes.small)

pub record_at-number-requires : goal.record_at-number-requires
record_at-number-requires c =
    let i = within (goal.at.record_at-number-requires c).In-Broken in
    record { place = omega (arith, i, c.requires.born) }

pub returns-in-Broken-clause-broke : goal.returns-in-Broken-clause-broke
returns-in-Broken-clause-broke c is f start place part so =
    let here = c.units.invariant.so_far f start place part so in
    let at = (goal.at.returns-in-Broken-clause-broke c).In-Broken in
    breaks_off c.args.flow.now c.units.at c.octets_of.result.bytes (lent_too at) _ _ _ _ _ _ _ (part_to f place c.args.flow.now c.args.at.now c.units.at c.units.invariant.past part) here
    c.in-Broken.reason c.in-Broken.place c.record_at-number.result _ c.in-Broken.ensures.front c.record_at-number.ensures c.in_ok-add-in-Broken.ensures.remark

pub returns-in-Broken-clause-told : goal.returns-in-Broken-clause-told
returns-in-Broken-clause-told c known all olds =
    let i = within (goal.at.returns-in-Broken-clause-told c).In-Broken in
    told_on known c.record_at-number.result c.units.remarks.items c.add.new.remarks.items c.in_ok-add-in-Broken.ensures.adds
    (known_at known c.args.flow.now.born c.args.at.now (c.units.at + c.in-Broken.place) c.record_at-number.result all (omega (arith, c.units.invariant.past)) (omega (arith, i, c.requires.born)) c.record_at-number.ensures)
    (c.units.invariant.told known all olds)

pub overflow_add-at-in-Took : goal.overflow_add-at-in-Took
overflow_add-at-in-Took c =
    let at = (goal.at.overflow_add-at-in-Took c).In-Took in
    omega (arith, (inside at).0, c.args.flow.now.bytes.ok.0, c.args.flow.now.bytes.ok.1, c.args.flow.now.bytes.small)

pub octets_of-unit-requires-clause-inside : goal.octets_of-unit-requires-clause-inside
octets_of-unit-requires-clause-inside c =
    let at = (goal.at.octets_of-unit-requires-clause-inside c).In-Took in
    omega (arith, (inside at).0, ap length c.as_slice-bytes.ensures.value)

pub overflow_add-at-in-Took-2 : goal.overflow_add-at-in-Took-2
overflow_add-at-in-Took-2 c =
    let at = (goal.at.overflow_add-at-in-Took-2 c).In-Took in
    omega (arith, (inside at).0, c.args.flow.now.bytes.ok.0, c.args.flow.now.bytes.ok.1, c.args.flow.now.bytes.small)

pub overflow_sub-at : goal.overflow_sub-at
overflow_sub-at c =
    let at = (goal.at.overflow_sub-at c).In-Took in
    omega (arith, (inside at).1)

pub record_at-number-requires-in-Took : goal.record_at-number-requires-in-Took
record_at-number-requires-in-Took c =
    let at = (goal.at.record_at-number-requires-in-Took c).In-Took in
    record { place = omega (arith, (inside at).0, (inside at).1, c.requires.born) }

pub add_unit-requires-clause-places : goal.add_unit-requires-clause-places
add_unit-requires-clause-places c =
    let at = (goal.at.add_unit-requires-clause-places c).In-Took in
    let here = (unit at).inside in
    omega (arith, here, c.requires.places)

pub add_unit-requires-clause-whole : goal.add_unit-requires-clause-whole
add_unit-requires-clause-whole c = (unit (goal.at.add_unit-requires-clause-whole c).In-Took).whole

pub units-smaller : goal.units-smaller
units-smaller c =
    let at = (goal.at.units-smaller c).In-Took in
    omega (arith, (inside at).0, (inside at).1, ap length c.as_slice-bytes.ensures.value)

pub units-preserved : goal.units-preserved
units-preserved c =
    let took = (goal.at.units-preserved c).In-Took in
    let first = c.args.at.now in
    let at = c.units.at in
    let used = c.in-Took.used in
    let number = c.record_at-number-in-Took.result in
    let now = c.in_ok-add_unit-in-Took.ensures in
    let past : first ≤ at = c.units.invariant.past in
    record {
      past = omega (arith, past);
      inside = (inside took).0;
      so_far = λ f start place part so.
          let on : place + (at - first) + used ≡ place + (at + used - first) = omega (arith, past) in
          subst (λ n. SoFar c.args.site.now f start n c.next.new.self c.saturating_add.result (map remark_value c.add_unit.new.remarks.items)) on
          (takes_on c.args.flow.now at c.octets_of.result.bytes (lent took) _ _ _ _ _ _ _ (part_to f place c.args.flow.now first at past part) (c.units.invariant.so_far f start place part so)
          c.in-Took.ruling c.in-Took.place used c.next.new.self number c.allowed_by.result c.saturating_add.result c.octets_of-unit.result.bytes _ c.in-Took.ensures.front c.record_at-number-in-Took.ensures
          c.allowed_by.ensures.count c.saturating_add.ensures (c.octets_of-unit.ensures ∙ ap (λ xs. slice_range xs at (at + used)) c.as_slice-bytes.ensures.value) now.remarks);
      adds = adds_on number c.args.remarks.now.items c.units.remarks.items c.add_unit.new.remarks.items c.units.invariant.adds now.adds;
      told = λ known all olds. told_on known number c.units.remarks.items c.add_unit.new.remarks.items now.adds
          (known_at known c.args.flow.now.born first (at + used - 1) number all (omega (arith, past, (inside took).1)) (omega (arith, (inside took).0, (inside took).1, c.requires.born)) c.record_at-number-in-Took.ensures)
          (c.units.invariant.told known all olds);
    }

pub returns-clause-whole : goal.returns-clause-whole
returns-clause-whole c is f start place part so =
    let size = ap length c.as_slice-bytes.ensures.value in (
      c.units.invariant.so_far f start place part so,
      waits_all c.args.site.now f _ c.args.flow.now c.units.at (part_to f place c.args.flow.now c.args.at.now c.units.at c.units.invariant.past part) (omega (arith, c.units-test.false, size)),
    )
