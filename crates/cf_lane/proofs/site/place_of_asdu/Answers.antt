use Rattle.std.proofs.Common.{ap, arith, ◌∙◌}
use Rattle.cf_asdu.specs.Asdu.{station_of}
use Rattle.cf_lane.proofs.Places.{short_asdu, whole_asdu}
use Rattle.cf_lane.proofs.site.place_of_asdu.Goals as goal

pub returns-then-len-lt-SHORTEST-clause-place : goal.returns-then-len-lt-SHORTEST-clause-place
returns-then-len-lt-SHORTEST-clause-place c = λ side send receive.
    short_asdu c.args.site.now side send receive c.args.asdu.now.bytes (omega (arith, c.if-len-lt-SHORTEST.true, c.len.ensures.length))

pub returns-clause-place : goal.returns-clause-place
returns-clause-place c = λ side send receive.
    c.place_of_station.ensures.place
    ∙ whole_asdu c.args.site.now side send receive c.args.asdu.now.bytes c.station_of.result (omega (arith, c.if-len-lt-SHORTEST.false, c.len.ensures.length))
    (c.station_of.ensures ∙ ap station_of c.after.ensures.bytes)
