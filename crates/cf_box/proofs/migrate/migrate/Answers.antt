use Rattle.std.proofs.Common.{refl}
use Rattle.cf_words.specs.Command.{Migrate}
use Rattle.cf_ending.specs.Outside.{files_value, outside}
use Rattle.cf_box.specs.Migrate.{MigrateLeaves}
use Rattle.cf_box.proofs.Migrating.{written_meets}
use Rattle.cf_box.proofs.Passing.{unread_leaves}
use Rattle.cf_box.proofs.migrate.migrate.Goals as goal

pub returns-in-Err-clause-meets : goal.returns-in-Err-clause-meets
returns-in-Err-clause-meets g c = λ sink pair. (
  c.in-Err.ensures.stop (Migrate c.args.policy_file.now c.args.out.now) sink pair refl,
  unread_leaves (MigrateLeaves c.args.policy_file.now c.args.out.now _ _) _ _ (λ same. same) (λ r same. same) (λ same. same) c.in-Err.stop c.in-Err.ensures.early
      (record { content = c.load_policy.ensures.only.content; sink = refl; pair = refl }),
)

pub returns-in-Ok-clause-meets : goal.returns-in-Ok-clause-meets
returns-in-Ok-clause-meets g c = λ sink pair.
    let before = outside (files_value g.F.Files c.args.files.now) sink pair in
    let middle = outside (files_value g.F.Files c.load_policy.new.files) sink pair in
    let after = outside (files_value g.F.Files c.write_policy.new.files) sink pair in
    written_meets c.args.policy_file.now c.args.out.now before middle after c.in-Ok.policy c.in-Ok.ensures.has c.load_policy.ensures.only
    c.write_policy.ensures.only.others refl refl c.write_policy.result c.write_policy.ensures.writes c.write_policy.ensures.only.cause.rose
    c.write_policy.ensures.unwritten
