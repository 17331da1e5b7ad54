use Rattle.std.proofs.Common.{◌+◌, ◌-◌, ◌*◌, ◌≤◌, ◌∷◌, []}
use Rattle.cf_outside.specs.Frames.{OnlyWrites}
use Rattle.cf_run.specs.Step.{IsSoundEngine}
use Rattle.cf_world.proofs.SoFar.{SoFar}
use Rattle.cf_world.proofs.making.make_records.Given as goal

abbrev pub invariant-records : goal.invariant-records
invariant-records g l =
    let content = g.F.Files.content in
    record {
      so_far : SoFar l.records l.begun l.last (content l.fn.files l.capture) (content l.files l.capture);
      few : l.records ≤ 1000000;
      begun : l.begun ≤ l.sessions;
      losses : l.losses ≤ 1000;
      near : l.last ≤ 10000000 * l.records;
      timely : 20000 * l.begun ≤ l.last + 9000000;
      sound : IsSoundEngine l.policy.assets l.engine;
      earlier : l.engine.last ≤ l.last;
      writes : OnlyWrites (l.capture ∷ []) content g.F.Files.read_faults g.F.Files.write_faults l.fn.files l.files ⊥;
    }

abbrev pub decreases-records : goal.decreases-records
decreases-records g l = (1000000 - l.records) * 1001 + (1000 - l.losses)
