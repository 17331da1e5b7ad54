use Rattle.std.proofs.Common.{◌∷◌, arith, map, refl, ◌∙◌}
use Rattle.std.specs.Prelude.{string_bytes}
use Rattle.cf_watch.specs.FlowValue.{flow_value}
use Rattle.cf_words.specs.Command.{Draft as DraftCommand}
use Rattle.cf_box.specs.Draft.{DraftLeaves}
use Rattle.cf_ending.specs.Outside.{files_value, outside}
use Rattle.cf_box.proofs.Drafting.{draft_meets, has_read, undrafted_meets, unread_meets}
use Rattle.cf_box.proofs.Passing.{unread_leaves}
use Rattle.cf_box.proofs.Reading.{rises_front, rises_still, rises_then}
use Rattle.cf_box.proofs.draft.draft_captures.Goals as goal

pub returns-in-Err-clause-meets : goal.returns-in-Err-clause-meets
returns-in-Err-clause-meets g c = λ sink pair. (
  c.in-Err.ensures.stop (DraftCommand c.args.policy_file.now c.args.out.now (map string_bytes c.args.captures.now)) sink pair refl,
  unread_leaves (DraftLeaves c.args.policy_file.now c.args.out.now (map string_bytes c.args.captures.now) _ _) _ _ (λ same. same) (λ r same. same) (λ same. same) c.in-Err.stop c.in-Err.ensures.early
      (record { content = c.load_policy.ensures.only.content; sink = refl; pair = refl }),
)

pub returns-in-Err-clause-later : goal.returns-in-Err-clause-later
returns-in-Err-clause-later g c = record {
  reads = rises_front c.args.policy_file.now (map string_bytes c.args.captures.now) _ _ c.load_policy.ensures.only.reads;
  writes = omega (arith, c.load_policy.ensures.only.writes);
}

pub returns-in-Err-read_captures-clause-meets : goal.returns-in-Err-read_captures-clause-meets
returns-in-Err-read_captures-clause-meets g c = λ sink pair.
    let before = outside (files_value g.F.Files c.args.files.now) sink pair in
    let middle = outside (files_value g.F.Files c.load_policy.new.files) sink pair in
    let after = outside (files_value g.F.Files c.read_captures.new.files) sink pair in
    unread_meets c.args.policy_file.now c.args.out.now (map string_bytes c.args.captures.now) before c.in-Ok.policy c.in-Ok.ensures.has middle after
    c.load_policy.ensures.only c.read_captures.ensures.only refl refl c.in-Err-read_captures.stop c.in-Err-read_captures.ensures.stop

pub returns-in-Err-read_captures-clause-later : goal.returns-in-Err-read_captures-clause-later
returns-in-Err-read_captures-clause-later g c = record {
  reads = rises_then c.args.policy_file.now (map string_bytes c.args.captures.now) _ _ _ c.load_policy.ensures.only.reads c.read_captures.ensures.only.reads;
  writes = omega (arith, c.load_policy.ensures.only.writes, c.read_captures.ensures.only.writes);
}

pub returns-clause-meets : goal.returns-clause-meets
returns-clause-meets g c = λ sink pair.
    let before = outside (files_value g.F.Files c.args.files.now) sink pair in
    let middle = outside (files_value g.F.Files c.load_policy.new.files) sink pair in
    let after = outside (files_value g.F.Files c.read_captures.new.files) sink pair in
    let names = map string_bytes c.args.captures.now in
    let flows = map flow_value c.in-Ok-read_captures.parts.flows.items in
    undrafted_meets c.args.policy_file.now c.args.out.now names before c.in-Ok.policy c.in-Ok.ensures.has flows
    (has_read c.args.policy_file.now c.args.out.now names before c.in-Ok.policy c.in-Ok.ensures.has middle flows c.load_policy.ensures.only c.in-Ok-read_captures.ensures.read)
    after (record { content = c.read_captures.ensures.only.content ∙ c.load_policy.ensures.only.content; sink = refl; pair = refl }) c.in-Err-drafted.stop c.in-Err-drafted.ensures

pub returns-clause-later : goal.returns-clause-later
returns-clause-later g c = record {
  reads = rises_then c.args.policy_file.now (map string_bytes c.args.captures.now) _ _ _ c.load_policy.ensures.only.reads c.read_captures.ensures.only.reads;
  writes = omega (arith, c.load_policy.ensures.only.writes, c.read_captures.ensures.only.writes);
}

pub returns-in-Ok-drafted-clause-meets : goal.returns-in-Ok-drafted-clause-meets
returns-in-Ok-drafted-clause-meets g c = λ sink pair.
    let before = outside (files_value g.F.Files c.args.files.now) sink pair in
    let middle = outside (files_value g.F.Files c.load_policy.new.files) sink pair in
    let read = outside (files_value g.F.Files c.read_captures.new.files) sink pair in
    let after = outside (files_value g.F.Files c.write_draft.new.files) sink pair in
    let names = map string_bytes c.args.captures.now in
    let flows = map flow_value c.in-Ok-read_captures.parts.flows.items in
    draft_meets c.args.policy_file.now c.args.out.now names before c.in-Ok.policy c.in-Ok.ensures.has flows
    (has_read c.args.policy_file.now c.args.out.now names before c.in-Ok.policy c.in-Ok.ensures.has middle flows c.load_policy.ensures.only c.in-Ok-read_captures.ensures.read)
    read after c.in-Ok-drafted.draft c.in-Ok-drafted.ensures
    (record {
      content = c.read_captures.ensures.only.content ∙ c.load_policy.ensures.only.content;
      reads = rises_then c.args.policy_file.now names _ _ _ c.load_policy.ensures.only.reads c.read_captures.ensures.only.reads;
      writes = c.read_captures.ensures.only.writes ∙ c.load_policy.ensures.only.writes;
    })
    c.write_draft.ensures.only.others refl refl c.write_draft.result c.write_draft.ensures.writes c.write_draft.ensures.only.cause.rose

pub returns-in-Ok-drafted-clause-later : goal.returns-in-Ok-drafted-clause-later
returns-in-Ok-drafted-clause-later g c =
    let names = c.args.policy_file.now ∷ map string_bytes c.args.captures.now in
    let reads = rises_then c.args.policy_file.now (map string_bytes c.args.captures.now) _ _ _ c.load_policy.ensures.only.reads c.read_captures.ensures.only.reads in
    record {
      reads = rises_still names (g.F.Files.read_faults c.args.files.now) (g.F.Files.read_faults c.read_captures.new.files) (g.F.Files.read_faults c.write_draft.new.files) reads c.write_draft.ensures.only.reads;
      writes = omega (arith, c.load_policy.ensures.only.writes, c.read_captures.ensures.only.writes, c.write_draft.ensures.only.cause.later);
    }
