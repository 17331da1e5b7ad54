use Rattle.std.proofs.Common.{◌≡◌, ℕ, List, pos, Ok, refl, sym, ap, ◌∙◌, subst, inl}
use Rattle.cf_outside.specs.Files.{Content, content_after_create, content_after_write}
use Rattle.cf_pcap.specs.Header.{output_octets}
use Rattle.cf_records.specs.Reader.{FindsRecord, HasForm}
use Rattle.cf_run.specs.RunCapture.{IsCreatedInPart, RunNamesValue, RunsRecords, run_names_value}
use Rattle.cf_run.proofs.Created.{runs_as}
use Rattle.cf_run.proofs.run.run_capture.Goals as goal

pub run_records-requires-clause-sound : goal.run_records-requires-clause-sound
run_records-requires-clause-sound g c = c.in-Ok.ensures.sound c.args.policy.now.assets

pub run_records-requires-clause-stands : goal.run_records-requires-clause-stands
run_records-requires-clause-stands g c = c.in-Ok.ensures.stands c.args.policy.now.assets

pub run_records-requires-clause-first : goal.run_records-requires-clause-first
run_records-requires-clause-first g c =
    let content = g.F.Files.content in
    let name = c.args.names.now.capture.now in
    let apart = c.requires.apart in
    let reader = c.in_ok-reader.reader in
    let opened = c.in_ok-reader.ensures in
    let first = c.next-first.ensures in
    let made : content c.create_outputs.new.files name ≡ content c.open.new.files name =
    c.create_outputs.ensures.others name (apart.capture_out, (apart.capture_log, tt)) ∙ ap (λ (f : List ℕ → Content). f name) first.reads.same in
    record {
      opened = reader;
      has_form = subst (λ (f : Content). HasForm f (Ok reader.form)) (sym (made ∙ ap (λ (f : List ℕ → Content). f name) opened.reads.same)) opened.opened.0;
      place = opened.opened.1;
      found = subst (λ (f : Content). FindsRecord f reader c.next-first.new.self c.next-first.result) (sym made) first.found;
    }

pub returns-in-Done-clause-runs : goal.returns-in-Done-clause-runs
returns-in-Done-clause-runs g c =
    let content = g.F.Files.content in
    let assets = c.args.policy.now.assets in
    let names : RunNamesValue = run_names_value c.args.names.now in
    let apart = c.requires.apart in
    let before = content c.args.files.now in
    let created = content c.create_outputs.new.files in
    let after = content c.run_records.new.files in
    let opened = c.next-first.ensures.reads.same ∙ c.in_ok-reader.ensures.reads.same in
    let made = c.in-Done.ensures in
    let signed : pos 1073741824 ≡ pos c.in-Ok.engine.limit = c.in-Ok.ensures.limit in
    let limit : c.in-Ok.engine.limit ≡ 1073741824 = cc in
    runs_as assets 1073741824 names before created after
    (made.others names.capture (apart.capture_out, (apart.capture_log, tt)) ∙ ap (λ (f : List ℕ → Content). f names.capture) opened)
    (made.out refl ∙ ap (λ (f : List ℕ → Content). content_after_write (f names.out) output_octets) opened)
    (made.log refl ∙ ap (λ (f : List ℕ → Content). content_after_create (f names.log)) opened)
    c.run_records.result (subst (λ n. RunsRecords assets n names created after c.run_records.result) limit c.run_records.ensures.runs)

pub returns-clause-runs : goal.returns-clause-runs
returns-clause-runs g c =
    inl (subst (λ (f : List ℕ → Content). IsCreatedInPart (run_names_value c.args.names.now) f (g.F.Files.content c.create_outputs.new.files)) (c.next-first.ensures.reads.same ∙ c.in_ok-reader.ensures.reads.same) (c.in-Failed-create_outputs.ensures.failed refl))
