use Rattle.std.proofs.Common.{◌≡◌, ◌-◌, ◌^◌, ◌≤◌}
use Rattle.cf_outside.specs.Faults.{HasCauseIn}
use Rattle.cf_remarks.proofs.survey.Seen.take_all.Given as goal

abbrev pub invariant-records : goal.invariant-records
invariant-records g l =
    record {
      near : l.reader.place ≤ 2 ^ 40;
      same : g.F.Files.content l.files ≡ g.F.Files.content l.fn.files;
      cause : HasCauseIn l.capture (g.F.Files.read_faults l.fn.files) (g.F.Files.read_faults l.files) ⊥;
      writes : g.F.Files.write_faults l.files ≡ g.F.Files.write_faults l.fn.files;
    }

abbrev pub decreases-records : goal.decreases-records
decreases-records g l = 2 ^ 40 - l.reader.place
