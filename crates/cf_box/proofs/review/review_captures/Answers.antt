use Rattle.std.proofs.Common.{List, arith, map, refl, subst, sym, ℕ, ◌∷◌, ◌∙◌, ◌≡◌, ap}
use Rattle.std.specs.Prelude.{string_bytes}
use Rattle.cf_outside.specs.Files.{Content, IsPartly, content_after_write}
use Rattle.cf_review.proofs.Stamping.{text_told}
use Rattle.cf_review.specs.Lines.{lines_by, review_text}
use Rattle.cf_review.specs.Remark.{remark_value}
use Rattle.cf_review.specs.Stamps.{stamp_by}
use Rattle.cf_watch.specs.Recorded.{HasRecording}
use Rattle.cf_words.specs.Command.{Review}
use Rattle.cf_ending.specs.Outside.{ReadsOnly, files_value, outside}
use Rattle.cf_box.specs.Review.{ReviewLeaves}
use Rattle.cf_box.proofs.Passing.{unread_leaves}
use Rattle.cf_box.proofs.Reading.{rises_front, rises_still, rises_then}
use Rattle.cf_box.proofs.Recorded.{answered_meets, failed_meets, recording_of, unread_meets}
use Rattle.cf_box.proofs.review.review_captures.Goals as goal

pub returns-in-Err-clause-meets : goal.returns-in-Err-clause-meets
returns-in-Err-clause-meets g c = λ sink pair. (
  c.in-Err.ensures.stop (Review c.args.policy_file.now (map string_bytes c.args.captures.now) c.args.log.now) sink pair refl,
  unread_leaves (ReviewLeaves c.args.policy_file.now (map string_bytes c.args.captures.now) c.args.log.now _ _) _ _ (λ same. same) (λ r same. same) (λ same. same) c.in-Err.stop c.in-Err.ensures.early
      (record { content = c.load_policy.ensures.only.content; sink = refl; pair = refl }),
)

pub returns-in-Err-clause-later : goal.returns-in-Err-clause-later
returns-in-Err-clause-later g c = record {
  reads = rises_front c.args.policy_file.now (map string_bytes c.args.captures.now) _ _ c.load_policy.ensures.only.reads;
  writes = omega (arith, c.load_policy.ensures.only.writes);
}

pub returns-in-Err-review_records-clause-meets : goal.returns-in-Err-review_records-clause-meets
returns-in-Err-review_records-clause-meets g c = λ sink pair.
    let before = outside (files_value g.F.Files c.args.files.now) sink pair in
    let middle = outside (files_value g.F.Files c.load_policy.new.files) sink pair in
    let after = outside (files_value g.F.Files c.review_records.new.files) sink pair in
    unread_meets c.args.policy_file.now (map string_bytes c.args.captures.now) c.args.log.now before c.in-Ok.policy c.in-Ok.ensures.has middle after
    c.load_policy.ensures.only c.review_records.ensures.only refl refl c.in-Err-review_records.stop c.in-Err-review_records.ensures.stop

pub returns-in-Err-review_records-clause-later : goal.returns-in-Err-review_records-clause-later
returns-in-Err-review_records-clause-later g c = record {
  reads = rises_then c.args.policy_file.now (map string_bytes c.args.captures.now) _ _ _ c.load_policy.ensures.only.reads c.review_records.ensures.only.reads;
  writes = omega (arith, c.load_policy.ensures.only.writes, c.review_records.ensures.only.writes);
}

pub returns-in-Ok-write_lines-clause-meets : goal.returns-in-Ok-write_lines-clause-meets
returns-in-Ok-write_lines-clause-meets g c = λ sink pair.
    let before = outside (files_value g.F.Files c.args.files.now) sink pair in
    let middle = outside (files_value g.F.Files c.review_records.new.files) sink pair in
    let after = outside (files_value g.F.Files c.write_lines.new.files) sink pair in
    let names = map string_bytes c.args.captures.now in
    let p = c.in-Ok.policy in
    let content = g.F.Files.content c.load_policy.new.files in
    let r = c.in-Ok-review_records.reviewed.0 in
    let has = c.in-Ok-review_records.ensures.reviewed in
    let only : ReadsOnly (c.args.policy_file.now ∷ names) before.files middle.files = record {
      content = c.review_records.ensures.only.content ∙ c.load_policy.ensures.only.content;
      reads = rises_then c.args.policy_file.now names _ _ _ c.load_policy.ensures.only.reads c.review_records.ensures.only.reads;
      writes = c.review_records.ensures.only.writes ∙ c.load_policy.ensures.only.writes;
    } in
    let recorded = subst (λ (content : List ℕ → Content). HasRecording p.assets content names has.2.flows has.2.stretches has.2.stamps) (sym c.review_records.ensures.only.content)
    (recording_of p.assets content names has) in
    let text : lines_by p.assets (stamp_by c.in-Ok-review_records.reviewed.1) (map remark_value c.as_slice-remarks.result.now) ≡ review_text p.assets has.2.stamps (map remark_value r.remarks.items) =
    ap (λ l. lines_by p.assets (stamp_by c.in-Ok-review_records.reviewed.1) (map remark_value l)) c.as_slice-remarks.ensures.value
    ∙ text_told p.assets has.2.stamps c.in-Ok-review_records.reviewed.1 (map remark_value r.remarks.items) has.2.are_stamps c.in-Ok-review_records.ensures.known in
    answered_meets c.args.policy_file.now names c.args.log.now before p c.in-Ok.ensures.has middle after has.2.stamps r has.2.flows has.2.stretches recorded has.2.reviews only
    refl refl c.write_lines.ensures.writes.others
    (c.in-Ok-write_lines.ensures.done ∙ ap (content_after_write (g.F.Files.content c.review_records.new.files c.args.log.now)) text) c.answer.result c.answer.ensures

pub returns-clause-meets : goal.returns-clause-meets
returns-clause-meets g c = λ sink pair.
    let before = outside (files_value g.F.Files c.args.files.now) sink pair in
    let middle = outside (files_value g.F.Files c.review_records.new.files) sink pair in
    let after = outside (files_value g.F.Files c.write_lines.new.files) sink pair in
    let names = map string_bytes c.args.captures.now in
    let p = c.in-Ok.policy in
    let content = g.F.Files.content c.load_policy.new.files in
    let r = c.in-Ok-review_records.reviewed.0 in
    let has = c.in-Ok-review_records.ensures.reviewed in
    let only : ReadsOnly (c.args.policy_file.now ∷ names) before.files middle.files = record {
      content = c.review_records.ensures.only.content ∙ c.load_policy.ensures.only.content;
      reads = rises_then c.args.policy_file.now names _ _ _ c.load_policy.ensures.only.reads c.review_records.ensures.only.reads;
      writes = c.review_records.ensures.only.writes ∙ c.load_policy.ensures.only.writes;
    } in
    let recorded = subst (λ (content : List ℕ → Content). HasRecording p.assets content names has.2.flows has.2.stretches has.2.stamps) (sym c.review_records.ensures.only.content)
    (recording_of p.assets content names has) in
    let text : lines_by p.assets (stamp_by c.in-Ok-review_records.reviewed.1) (map remark_value c.as_slice-remarks.result.now) ≡ review_text p.assets has.2.stamps (map remark_value r.remarks.items) =
    ap (λ l. lines_by p.assets (stamp_by c.in-Ok-review_records.reviewed.1) (map remark_value l)) c.as_slice-remarks.ensures.value
    ∙ text_told p.assets has.2.stamps c.in-Ok-review_records.reviewed.1 (map remark_value r.remarks.items) has.2.are_stamps c.in-Ok-review_records.ensures.known in
    failed_meets c.args.policy_file.now names c.args.log.now before p c.in-Ok.ensures.has middle after has.2.stamps r has.2.flows has.2.stretches recorded has.2.reviews only
    refl refl c.write_lines.ensures.writes.others
    (c.in-Err-write_lines.ensures.writes.cause.rose refl)
    (subst (λ t. IsPartly t (g.F.Files.content c.review_records.new.files c.args.log.now) (g.F.Files.content c.write_lines.new.files c.args.log.now)) text c.in-Err-write_lines.ensures.partly)

pub returns-in-Ok-write_lines-clause-later : goal.returns-in-Ok-write_lines-clause-later
returns-in-Ok-write_lines-clause-later g c =
    let names = c.args.policy_file.now ∷ map string_bytes c.args.captures.now in
    let reads = rises_then c.args.policy_file.now (map string_bytes c.args.captures.now) _ _ _ c.load_policy.ensures.only.reads c.review_records.ensures.only.reads in
    record {
      reads = rises_still names (g.F.Files.read_faults c.args.files.now) (g.F.Files.read_faults c.review_records.new.files) (g.F.Files.read_faults c.write_lines.new.files) reads c.write_lines.ensures.writes.reads;
      writes = omega (arith, c.load_policy.ensures.only.writes, c.review_records.ensures.only.writes, c.write_lines.ensures.writes.cause.later);
    }

pub returns-clause-later : goal.returns-clause-later
returns-clause-later g c =
    let names = c.args.policy_file.now ∷ map string_bytes c.args.captures.now in
    let reads = rises_then c.args.policy_file.now (map string_bytes c.args.captures.now) _ _ _ c.load_policy.ensures.only.reads c.review_records.ensures.only.reads in
    record {
      reads = rises_still names (g.F.Files.read_faults c.args.files.now) (g.F.Files.read_faults c.review_records.new.files) (g.F.Files.read_faults c.write_lines.new.files) reads c.write_lines.ensures.writes.reads;
      writes = omega (arith, c.load_policy.ensures.only.writes, c.review_records.ensures.only.writes, c.write_lines.ensures.writes.cause.later);
    }
