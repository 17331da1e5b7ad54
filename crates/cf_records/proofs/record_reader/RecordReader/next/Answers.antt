use Rattle.std.proofs.Common.{◌≡◌, ◌+◌, length, slice_range, ap, sym, subst, ◌∙◌}
use Rattle.std.specs.Vec.{with_items}
use Rattle.std.proofs.lemmas.List.{with_items_is}
use Rattle.cf_records.specs.Pieces.{FindsBehind}
use Rattle.cf_records.specs.Reader.{FindsRecord, ReaderValue}
use Rattle.cf_records.specs.declared.record_reader.NextRecord.TheVariants as next
use Rattle.cf_records.specs.declared.record_reader.Piece.TheVariants as piece
use Rattle.cf_records.proofs.Finding.{ends_found, record_found}
use Rattle.cf_records.proofs.record_reader.RecordReader.next.Goals as goal

pub returns-in-Record-clause-found : goal.returns-in-Record-clause-found
returns-in-Record-clause-found g c =
    let file = g.F.Files.content c.args.files.now c.args.name.now in
    let buffer = c.self.inside.buffer in
    let items : (with_items buffer c.piece_behind-piece.new.buffer).items ≡ c.piece_behind-piece.new.buffer =
    with_items_is buffer c.piece_behind-piece.new.buffer (c.in-Record.ensures.room ∙ ap length c.deref_mut.ensures.value ∙ sym buffer.ok.0) in
    let found : (old : ReaderValue) → FindsBehind file old.form old.place c.piece_behind-piece.new.form c.piece_behind-piece.new.place c.piece_behind-piece.new.buffer
    (piece.Record c.in-Record.stamp c.in-Record.link c.in-Record.from c.in-Record.to c.in-Record.used) →
    FindsRecord file old (record {
      form = c.piece_behind-piece.new.form;
      place = c.piece_behind-piece.new.place + c.in-Record.used;
      link = c.in-Record.link;
      body = slice_range (with_items buffer c.piece_behind-piece.new.buffer).items c.in-Record.from c.in-Record.to;
    }) (next.Whole c.in-Record.stamp) =
    λ old h. rw items (record_found file old c.piece_behind-piece.new.form c.piece_behind-piece.new.place c.in-Record.stamp c.in-Record.from c.in-Record.to c.in-Record.used
    c.in-Record.link c.piece_behind-piece.new.buffer h) in
    found c.args.self.now (subst (λ (old : ReaderValue). FindsBehind file old.form old.place c.piece_behind-piece.new.form c.piece_behind-piece.new.place c.piece_behind-piece.new.buffer
    (piece.Record c.in-Record.stamp c.in-Record.link c.in-Record.from c.in-Record.to c.in-Record.used)) c.self.view_is c.in-Record.ensures.found)

pub returns-in-Ends-clause-found : goal.returns-in-Ends-clause-found
returns-in-Ends-clause-found g c =
    let file = g.F.Files.content c.args.files.now c.args.name.now in
    ends_found file c.args.self.now _ c.piece_behind-piece.new.buffer c.in-Ends.answer
    (subst (λ (old : ReaderValue). FindsBehind file old.form old.place c.piece_behind-piece.new.form c.piece_behind-piece.new.place c.piece_behind-piece.new.buffer
    (piece.Ends c.in-Ends.answer)) c.self.view_is c.in-Ends.ensures.found)
