use Rattle.std.proofs.Common.{Err, [], ◌∷◌, ap, arith, map, refl, subst, sym, ◌∙◌}
use Rattle.cf_watch.specs.FlowValue.{flow_value}
use Rattle.cf_words.specs.Command.{Learn}
use Rattle.cf_box.specs.Ends.{Meets}
use Rattle.cf_box.specs.Learn.{IsLearned, LearnLeaves, LearnsAs}
use Rattle.cf_ending.specs.Outside.{files_value, outside}
use Rattle.cf_box.proofs.Learning.{has_watched, unlearned_meets, unwatched_meets, written_meets}
use Rattle.cf_box.proofs.Passing.{unread_leaves}
use Rattle.cf_box.proofs.Reading.{rises_both, rises_still}
use Rattle.cf_box.proofs.learn.learn_capture.Goals as goal

pub returns-in-Err-clause-meets : goal.returns-in-Err-clause-meets
returns-in-Err-clause-meets g c = λ sink pair. (
  c.in-Err.ensures.stop (Learn c.args.policy_file.now c.args.capture.now c.args.out.now) sink pair refl,
  unread_leaves (LearnLeaves c.args.policy_file.now c.args.capture.now c.args.out.now _ _) _ _ (λ same. same) (λ r same. same) (λ same. same) c.in-Err.stop c.in-Err.ensures.early
      (record { content = c.load_policy.ensures.only.content; sink = refl; pair = refl }),
)

pub returns-in-Err-watch-clause-meets : goal.returns-in-Err-watch-clause-meets
returns-in-Err-watch-clause-meets g c = λ sink pair.
    let before = outside (files_value g.F.Files c.args.files.now) sink pair in
    let middle = outside (files_value g.F.Files c.load_policy.new.files) sink pair in
    let after = outside (files_value g.F.Files c.watch.new.files) sink pair in
    subst (λ s. Meets (Learn c.args.policy_file.now c.args.capture.now c.args.out.now) before after (Err s)) (sym c.fault_stop.ensures)
    (unwatched_meets c.args.policy_file.now c.args.capture.now c.args.out.now before c.in-Ok.policy c.in-Ok.ensures.has middle after
    c.load_policy.ensures.only c.watch.ensures.reads.same refl refl c.in-Err-watch.fault (λ is. c.in-Err-watch.ensures.reads.cause.rose (ap Err is))
    c.in-Err-watch.ensures.fault)

pub returns-clause-meets : goal.returns-clause-meets
returns-clause-meets g c = λ sink pair.
    let before = outside (files_value g.F.Files c.args.files.now) sink pair in
    let middle = outside (files_value g.F.Files c.load_policy.new.files) sink pair in
    let after = outside (files_value g.F.Files c.watch.new.files) sink pair in
    let flows = map flow_value c.in-Ok-watch.flows.items in
    unlearned_meets c.args.policy_file.now c.args.capture.now c.args.out.now before c.in-Ok.policy c.in-Ok.ensures.has flows
    (has_watched c.args.policy_file.now c.args.capture.now c.args.out.now before c.in-Ok.policy c.in-Ok.ensures.has middle flows c.load_policy.ensures.only c.in-Ok-watch.ensures.watched)
    after (record { content = c.watch.ensures.reads.same ∙ c.load_policy.ensures.only.content; sink = refl; pair = refl }) c.in-Err-learned.stop
    (subst (λ l. LearnsAs c.in-Ok.policy (map flow_value l) (Err c.in-Err-learned.stop)) c.as_slice.ensures.value c.in-Err-learned.ensures)

pub returns-in-Ok-learned-clause-later : goal.returns-in-Ok-learned-clause-later
returns-in-Ok-learned-clause-later g c =
    let faults = g.F.Files.read_faults in
    let names = c.args.policy_file.now ∷ c.args.capture.now ∷ [] in
    let reads = rises_both c.args.policy_file.now c.args.capture.now (faults c.args.files.now) (faults c.load_policy.new.files) (faults c.watch.new.files)
    c.load_policy.ensures.only.reads c.watch.ensures.reads.cause in
    record {
      reads = rises_still names (faults c.args.files.now) (faults c.watch.new.files) (faults c.write_policy.new.files) reads c.write_policy.ensures.only.reads;
      writes = omega (arith, c.load_policy.ensures.only.writes, c.watch.ensures.reads.writes, c.write_policy.ensures.only.cause.later);
    }

pub returns-in-Ok-learned-clause-meets : goal.returns-in-Ok-learned-clause-meets
returns-in-Ok-learned-clause-meets g c = λ sink pair.
    let before = outside (files_value g.F.Files c.args.files.now) sink pair in
    let middle = outside (files_value g.F.Files c.load_policy.new.files) sink pair in
    let watched = outside (files_value g.F.Files c.watch.new.files) sink pair in
    let after = outside (files_value g.F.Files c.write_policy.new.files) sink pair in
    let flows = map flow_value c.in-Ok-watch.flows.items in
    let reads = rises_both c.args.policy_file.now c.args.capture.now (g.F.Files.read_faults c.args.files.now) (g.F.Files.read_faults c.load_policy.new.files) (g.F.Files.read_faults c.watch.new.files)
    c.load_policy.ensures.only.reads c.watch.ensures.reads.cause in
    written_meets c.args.policy_file.now c.args.capture.now c.args.out.now before c.in-Ok.policy c.in-Ok.ensures.has flows
    (has_watched c.args.policy_file.now c.args.capture.now c.args.out.now before c.in-Ok.policy c.in-Ok.ensures.has middle flows c.load_policy.ensures.only c.in-Ok-watch.ensures.watched)
    watched after c.in-Ok-learned.policy (subst (λ l. IsLearned c.in-Ok.policy (map flow_value l) c.in-Ok-learned.policy) c.as_slice.ensures.value c.in-Ok-learned.ensures.0)
    (record { content = c.watch.ensures.reads.same ∙ c.load_policy.ensures.only.content; reads = reads; writes = c.watch.ensures.reads.writes ∙ c.load_policy.ensures.only.writes })
    c.write_policy.ensures.only.others refl refl c.write_policy.result c.write_policy.ensures.writes c.write_policy.ensures.only.cause.rose c.write_policy.ensures.unwritten
