use Rattle.std.proofs.Common.{ℕ, List, take, subst}
use Rattle.cf_outside.specs.Files.{Content}
use Rattle.cf_outside.specs.Part.{IsFilled}
use Rattle.cf_records.specs.declared.form.Form.TheVariants as form
use Rattle.cf_records.proofs.FilePieces.{err_piece, whole_piece}
use Rattle.cf_records.proofs.classic.classic_piece.Goals as goal

pub returns-in-Err-clause-found : goal.returns-in-Err-clause-found
returns-in-Err-clause-found g c =
    err_piece (g.F.Files.content c.args.files.now c.args.name.now) (form.Classic c.args.header.now) c.args.place 16 (take c.in-Some.have c.fill.new.buffer)
    c.fill.new.buffer c.in-Err.answer c.in-Some.ensures.filled c.in-Err.ensures.found

pub returns-clause-found : goal.returns-clause-found
returns-clause-found g c =
    let file = g.F.Files.content c.args.files.now c.args.name.now in
    let whole = subst (λ (f : List ℕ → Content). IsFilled (f c.args.name.now) c.args.place c.in-Ok.size (take c.in-Some-fill.have c.fill-2.new.buffer))
    c.in-Some.ensures.reads.same c.in-Some-fill.ensures.filled in
    whole_piece file (form.Classic c.args.header.now) (form.Classic c.args.header.now) c.args.place 16 c.in-Ok.size c.in-Some-fill.have
    (take c.in-Some.have c.fill.new.buffer) c.fill-2.new.buffer c.body_at.result c.in-Some.ensures.filled whole
    (λ octets first all. c.body_at.ensures.found octets c.in-Ok.size all (c.in-Ok.ensures.found octets first)) c.body_at.ensures.inside
