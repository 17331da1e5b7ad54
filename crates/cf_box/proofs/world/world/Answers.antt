use Rattle.std.proofs.Common.{refl}
use Rattle.cf_run.specs.RunCapture.{run_names_value}
use Rattle.cf_ending.specs.Outside.{files_value, outside}
use Rattle.cf_box.proofs.Worlds.{world_meets}
use Rattle.cf_box.proofs.world.world.Goals as goal

pub returns-in-Ok-clause-meets : goal.returns-in-Ok-clause-meets
returns-in-Ok-clause-meets g c = λ sink pair.
    let before = outside (files_value g.F.Files c.args.files.now) sink pair in
    let between = outside (files_value g.F.Files c.make_world.new.files) sink pair in
    let after = outside (files_value g.F.Files c.run.new.files) sink pair in
    world_meets c.args.seed c.args.sessions c.args.policy.now (run_names_value c.args.names.now) before between after c.requires
    c.in-Ok.ensures.makes c.make_world.ensures.writes.others c.make_world.ensures.writes.reads c.make_world.ensures.writes.cause.later refl refl c.run.result (c.run.ensures.meets sink pair)
