use Rattle.std.proofs.Common.{◌-◌, ◌^◌}
use Rattle.cf_outside.specs.Frames.{OnlyReads}
use Rattle.cf_watch.proofs.SoFar.{SoFar}
use Rattle.cf_watch.proofs.hearing.hear_records.Given as goal

abbrev pub invariant-records : goal.invariant-records
invariant-records g l =
    let content = g.F.Files.content in
    record {
      so : SoFar (g.H.Hearer.has_heard l.scope l.assets) l.scope (content l.fn.files l.capture) l.fn.reader.form l.reader l.fn.hearer l.hearer;
      reads : OnlyReads l.capture content g.F.Files.read_faults g.F.Files.write_faults l.fn.files l.files ⊥;
    }

abbrev pub decreases-records : goal.decreases-records
decreases-records g l = 2 ^ 40 - l.reader.place
