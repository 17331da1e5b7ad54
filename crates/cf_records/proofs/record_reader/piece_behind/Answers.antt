use Rattle.std.proofs.Common.{ℕ, List, refl, subst, sym, ◌∙◌, arith}
use Rattle.cf_outside.proofs.Frames.{reads_none, reads_on}
use Rattle.cf_outside.specs.Files.{Content}
use Rattle.cf_records.specs.Pieces.{FindsPiece}
use Rattle.cf_records.specs.declared.record_reader.Piece.TheVariants as piece
use Rattle.cf_records.proofs.Passing.{behind_all, passes_more, passes_none}
use Rattle.cf_records.proofs.record_reader.piece_behind.Goals as goal

pub pieces-init : goal.pieces-init
pieces-init g c = record {
  near = c.requires.near;
  on = omega arith;
  room = c.requires.room;
  long = refl;
  form = refl;
  passes = passes_none (g.F.Files.content c.args.files.now c.args.name.now) c.args.form.now c.args.place.now;
  reads = reads_none c.args.name.now g.F.Files.content g.F.Files.read_faults g.F.Files.write_faults c.args.files.now;
}

pub pieces-preserved : goal.pieces-preserved
pieces-preserved g c =
    let so_far = c.pieces.invariant in
    let one = c.in-Passed.ensures in
    let found = subst (λ (f : List ℕ → Content). FindsPiece (f c.args.name.now) c.pieces.form c.pieces.place c.piece_at.new.form c.piece_at.new.buffer (piece.Passed c.in-Passed.used))
    so_far.reads.same one.found in
    record {
      near = one.inside.1;
      on = omega (arith, so_far.on);
      room = one.length ∙ so_far.room ∙ sym one.form;
      long = one.length ∙ so_far.long;
      form = one.form ∙ so_far.form;
      passes = passes_more (g.F.Files.content c.args.files.now c.args.name.now) c.args.form.now c.pieces.form c.piece_at.new.form c.args.place.now c.pieces.place
          c.in-Passed.used c.piece_at.new.buffer so_far.passes found;
      reads = reads_on so_far.reads one.reads (λ none. absurd none);
    }

pub returns-in_default : goal.returns-in_default
returns-in_default g c =
    let so_far = c.pieces.invariant in
    let one = c.piece_at.ensures in
    let found = subst (λ (f : List ℕ → Content). FindsPiece (f c.args.name.now) c.pieces.form c.pieces.place c.piece_at.new.form c.piece_at.new.buffer c.piece_at.result)
    so_far.reads.same one.found in
    record {
      found = behind_all (g.F.Files.content c.args.files.now c.args.name.now) c.args.form.now c.pieces.form c.piece_at.new.form c.args.place.now c.pieces.place
          c.piece_at.new.buffer c.piece_at.result so_far.passes found c.in_default.not-Passed;
      inside = one.inside;
      near = so_far.near;
      on = so_far.on;
      none = λ used is. c.in_default.not-Passed used is;
      room = one.length ∙ so_far.long;
      form = one.form ∙ so_far.form;
      reads = reads_on so_far.reads one.reads (λ is. is);
    }
