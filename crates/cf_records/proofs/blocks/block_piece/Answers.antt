use Rattle.std.proofs.Common.{ℕ, List, take, subst}
use Rattle.cf_outside.specs.Files.{Content}
use Rattle.cf_outside.specs.Part.{IsFilled}
use Rattle.cf_records.specs.declared.form.Form.TheVariants as form
use Rattle.cf_records.proofs.FilePieces.{err_piece, failed_piece, whole_piece}
use Rattle.cf_records.proofs.blocks.block_piece.Goals as goal

pub returns-in-Err-clause-found : goal.returns-in-Err-clause-found
returns-in-Err-clause-found g c =
    err_piece (g.F.Files.content c.args.files.now c.args.name.now) (form.Blocks c.args.reader.now) c.args.place 28 (take c.in-Some.have c.fill.new.buffer)
    c.fill.new.buffer c.in-Err.answer c.in-Some.ensures.filled c.in-Err.ensures.found

pub returns-in_default-fill_more-clause-found : goal.returns-in_default-fill_more-clause-found
returns-in_default-fill_more-clause-found g c =
    failed_piece (g.F.Files.content c.args.files.now c.args.name.now) (form.Blocks c.args.reader.now) c.args.place c.fill_more.new.buffer

pub returns-clause-found : goal.returns-clause-found
returns-clause-found g c =
    let file = g.F.Files.content c.args.files.now c.args.name.now in
    let whole = subst (λ (f : List ℕ → Content). IsFilled (f c.args.name.now) c.args.place c.in-Ok.size (take c.in-Some-fill_more.have c.fill_more.new.buffer))
    c.in-Some.ensures.reads.same c.in-Some-fill_more.ensures.filled in
    whole_piece file (form.Blocks c.args.reader.now) (form.Blocks c.whole_at.new.reader) c.args.place 28 c.in-Ok.size c.in-Some-fill_more.have
    (take c.in-Some.have c.fill.new.buffer) c.fill_more.new.buffer c.whole_at.result c.in-Some.ensures.filled whole
    (λ octets first all. c.whole_at.ensures.found octets c.in-Ok.size all (c.in-Ok.ensures.found octets first)) c.whole_at.ensures.inside
