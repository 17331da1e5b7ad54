use Rattle.std.proofs.Common.{refl}
use Rattle.cf_run.proofs.FileDesks.{emitted, emit_failed}
use Rattle.cf_run.proofs.file_desk.FileDeskDesk.emit.Goals as goal

pub returns-in-Done : goal.returns-in-Done
returns-in-Done g c =
    emitted _ _ _ _ _ _ _ _ (g.F.Files.content c.args.self.now.files.now) (g.F.Files.content c.append_packet.new.files) c.requires.whole c.in-Done.ensures.writes.reads
    _ _ _ refl c.in-Done.ensures.one (λ other differs. c.in-Done.ensures.writes.others other (differs, tt)) c.in-Done.ensures.file.1 c.in-Done.ensures.writes.cause

pub returns-in-Failed : goal.returns-in-Failed
returns-in-Failed g c =
    emit_failed _ _ _ _ _ _ _ _ (g.F.Files.content c.args.self.now.files.now) (g.F.Files.content c.append_packet.new.files) c.requires.whole c.in-Failed.ensures.writes.reads
    _ _ _ refl c.in-Failed.ensures.one (λ other differs. c.in-Failed.ensures.writes.others other (differs, tt)) c.in-Failed.ensures.file c.in-Failed.ensures.writes.cause
