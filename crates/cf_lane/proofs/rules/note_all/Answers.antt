use Rattle.std.proofs.Common.{arith, ◌+◌, ◌<◌, length, get_or, sym, subst}
use Rattle.std.proofs.lemmas.Option.{slice_get-get_or}
use Rattle.cf_lane.specs.Rings.{AreNoted}
use Rattle.cf_lane.proofs.Rated.{noted_here, noted_none, noted_on}
use Rattle.cf_lane.proofs.rules.note_all.Goals.{then-used-place, else-used-place}
use Rattle.cf_lane.proofs.rules.note_all.Goals as goal

pub loop-place-init : goal.loop-place-init
loop-place-init c = noted_none c.args.used.now c.args.moment c.args.rings.now

pub loop-place-preserved : goal.loop-place-preserved
loop-place-preserved c = elim c.if-used-place.branch [
  | then-used-place w ↦
      let place = c.loop-place.place in
      let rings = c.loop-place.rings in
      let inside : place < length rings = omega (arith, c.loop-place-test.true, c.loop-place.auto.rings) in
      subst (AreNoted (place + 1) c.args.used.now c.args.moment c.args.rings.now) (sym w.rings-is)
      (noted_here c.args.used.now c.args.moment place c.args.rings.now rings (get_or rings place w.index-rings-place.result) w.note.new.self
      w.if-used-place.true (slice_get-get_or rings place w.index-rings-place.result inside) w.note.ensures.rule w.note.ensures.rate w.note.ensures.moments c.loop-place.invariant)
  | else-used-place w ↦ subst (AreNoted (c.loop-place.place + 1) c.args.used.now c.args.moment c.args.rings.now) (sym w.rings-is)
      (noted_on c.args.used.now c.args.moment c.loop-place.place c.args.rings.now c.loop-place.rings w.if-used-place.false c.loop-place.invariant)
]
