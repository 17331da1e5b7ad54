use Rattle.std.proofs.Common.{ap, ◌∙◌, take}
use Rattle.cf_outside.specs.Files.{with_appended}
use Rattle.cf_run.proofs.FileDesks.{put, put_failed}
use Rattle.cf_run.proofs.file_desk.FileDeskDesk.line.Goals as goal

pub returns-in-Done : goal.returns-in-Done
returns-in-Done g c =
    put _ _ _ _ _ _ _ _ (g.F.Files.content c.args.self.now.files.now) (g.F.Files.content c.append.new.self) c.requires.whole c.in-Done.ensures.reads
    c.args.text.now c.requires.line c.in-Done.ensures.others
    (c.in-Done.ensures.file.1 ∙ ap (λ bytes. with_appended (g.F.Files.content c.args.self.now.files.now c.args.self.now.log.now) bytes) c.as_bytes.ensures.value)
    c.in-Done.ensures.cause

pub returns-in-Failed : goal.returns-in-Failed
returns-in-Failed g c =
    let (k, appended) = c.in-Failed.ensures.file in
    put_failed _ _ _ _ _ _ _ _ (g.F.Files.content c.args.self.now.files.now) (g.F.Files.content c.append.new.self) c.requires.whole c.in-Failed.ensures.reads
    c.args.text.now c.requires.line c.in-Failed.ensures.others
    (k, appended ∙ ap (λ bytes. with_appended (g.F.Files.content c.args.self.now.files.now c.args.self.now.log.now) (take k bytes)) c.as_bytes.ensures.value)
    c.in-Failed.ensures.cause
