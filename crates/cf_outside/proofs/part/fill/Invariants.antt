use Rattle.std.proofs.Common.{◌≡◌, ◌-◌, ◌≤◌, drop, length, take}
use Rattle.cf_outside.specs.Faults.{HasCauseIn}
use Rattle.cf_outside.specs.Part.{HasRead}
use Rattle.cf_outside.proofs.part.fill.Given as goal

abbrev pub invariant-pieces : goal.invariant-pieces
invariant-pieces g l =
    let content = g.F.Files.content in
    record {
      some : l.before ≤ l.have;
      inside : l.have ≤ l.size;
      length : length l.buffer ≡ length l.fn.buffer;
      front : take l.before l.buffer ≡ take l.before l.fn.buffer;
      behind : drop l.size l.buffer ≡ drop l.size l.fn.buffer;
      there : HasRead (content l.fn.files l.name) l.place (take l.have l.buffer);
      same : content l.files ≡ content l.fn.files;
      reads : HasCauseIn l.name (g.F.Files.read_faults l.fn.files) (g.F.Files.read_faults l.files) ⊥;
      writes : g.F.Files.write_faults l.files ≡ g.F.Files.write_faults l.fn.files;
    }

abbrev pub decreases-pieces : goal.decreases-pieces
decreases-pieces g l = l.size - l.have
