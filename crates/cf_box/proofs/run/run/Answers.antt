use Rattle.std.proofs.Common.{Err, arith, inl, refl, subst, sym}
use Rattle.cf_run.specs.RunCapture.{run_names_value}
use Rattle.cf_words.specs.Command.{Run}
use Rattle.cf_box.specs.Ends.{Meets}
use Rattle.cf_ending.specs.Outside.{files_value, outside}
use Rattle.cf_box.proofs.Reading.{rises_both}
use Rattle.cf_box.proofs.Runs.{run_after}
use Rattle.cf_box.proofs.run.run.Goals as goal

pub returns-in-Err-clause-meets : goal.returns-in-Err-clause-meets
returns-in-Err-clause-meets g c = λ sink pair. (
  c.in-Err.ensures.stop (Run c.args.policy_file.now (run_names_value c.args.names.now)) sink pair refl,
  inl (c.in-Err.ensures.early, record { content = c.load_policy.ensures.only.content; sink = refl; pair = refl }),
)

pub returns-clause-meets : goal.returns-clause-meets
returns-clause-meets g c = λ sink pair.
    let names = run_names_value c.args.names.now in
    let before = outside (files_value g.F.Files c.args.files.now) sink pair in
    let middle = outside (files_value g.F.Files c.load_policy.new.files) sink pair in
    let after = outside (files_value g.F.Files c.run_capture.new.files) sink pair in
    subst (λ s. Meets (Run c.args.policy_file.now names) before after (Err s)) (sym c.run_stop.ensures)
    (run_after c.args.policy_file.now names before middle after c.in-Ok.policy c.in-Ok.ensures.has c.in-Ok.ensures.within c.load_policy.ensures.only (Err c.in-Err-run_capture.fault)
    c.in-Err-run_capture.ensures.runs c.in-Err-run_capture.ensures.others c.in-Err-run_capture.ensures.read.rose c.in-Err-run_capture.ensures.write.rose refl refl)

pub returns-in-Ok-run_capture-clause-later : goal.returns-in-Ok-run_capture-clause-later
returns-in-Ok-run_capture-clause-later g c =
    let faults = g.F.Files.read_faults in
    record {
      reads = rises_both c.args.policy_file.now c.args.names.now.capture.now (faults c.args.files.now) (faults c.load_policy.new.files) (faults c.run_capture.new.files)
          c.load_policy.ensures.only.reads c.in-Ok-run_capture.ensures.read;
      writes = omega (arith, c.load_policy.ensures.only.writes, c.in-Ok-run_capture.ensures.write.later);
    }
