use Rattle.std.proofs.Common.{◌+◌, ◌-◌, ◌^◌, ◌<◌, ◌≤◌}
use Rattle.cf_outside.specs.Frames.{OnlyReads}
use Rattle.cf_box.proofs.Listing.{AreListed}
use Rattle.cf_box.proofs.packets.list_records.Given as goal

abbrev pub invariant-records : goal.invariant-records
invariant-records g l =
    let content = g.F.Files.content in
    record {
      listed : AreListed (content l.fn.files l.name) l.fn.reader.form l.reader l.number l.dropped (g.O.Sink.text l.fn.out) (g.O.Sink.text l.out) l.lines.items;
      near : l.reader.place ≤ 2 ^ 40;
      few : l.number ≤ l.reader.place + 1;
      fewer : l.dropped < l.number;
      reads : OnlyReads l.name content g.F.Files.read_faults g.F.Files.write_faults l.fn.files l.files ⊥;
      puts : g.O.Sink.faults l.fn.out ≤ g.O.Sink.faults l.out;
    }

abbrev pub decreases-records : goal.decreases-records
decreases-records g l = 2 ^ 40 - l.reader.place
