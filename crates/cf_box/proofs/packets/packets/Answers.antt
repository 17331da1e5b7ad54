use Rattle.std.proofs.Common.{Ok, Err, List, ℕ, refl, sym, subst, ap, ◌∙◌, arith}
use Rattle.cf_outside.specs.Faults.{Rose}
use Rattle.cf_outside.specs.Files.{Content}
use Rattle.cf_records.specs.Reader.{HasForm}
use Rattle.cf_words.specs.Command.{Packets}
use Rattle.cf_box.specs.Ends.{Meets}
use Rattle.cf_ending.specs.Outside.{files_value, outside, sink_value}
use Rattle.cf_box.specs.Packets.{ListsFile}
use Rattle.cf_box.proofs.CaptureStops.{closed_meets, listing_meets}
use Rattle.cf_box.proofs.packets.packets.Goals as goal

pub list_records-requires-clause-form : goal.list_records-requires-clause-form
list_records-requires-clause-form g c =
    subst (λ (content : List ℕ → Content). HasForm (content c.args.name.now) (Ok c.in-Ok.reader.form)) (sym c.in-Ok.ensures.reads.same) c.in-Ok.ensures.opened.0

pub returns-in-Ok-clause-meets : goal.returns-in-Ok-clause-meets
returns-in-Ok-clause-meets g c = λ pair.
    let before = outside (files_value g.F.Files c.args.files.now) (sink_value g.O.Sink c.args.out.now) pair in
    let after = outside (files_value g.F.Files c.list_records.new.files) (sink_value g.O.Sink c.list_records.new.out) pair in
    let done = c.list_records.ensures in
    listing_meets c.args.name.now before after (done.reads.same ∙ c.in-Ok.ensures.reads.same) refl c.list_records.result
    (λ is.
    let rose : Rose (g.F.Files.read_faults c.open.new.files c.args.name.now) (g.F.Files.read_faults c.list_records.new.files c.args.name.now) = done.reads.cause.rose is in
    omega (arith, c.in-Ok.ensures.reads.cause.later, rose))
    (subst (λ (content : List ℕ → Content). ListsFile (content c.args.name.now) (sink_value g.O.Sink c.args.out.now) (sink_value g.O.Sink c.list_records.new.out) c.list_records.result)
    c.in-Ok.ensures.reads.same done.lists)

pub returns-in-Err-clause-meets : goal.returns-in-Err-clause-meets
returns-in-Err-clause-meets g c = λ pair.
    let before = outside (files_value g.F.Files c.args.files.now) (sink_value g.O.Sink c.args.out.now) pair in
    let after = outside (files_value g.F.Files c.open.new.files) (sink_value g.O.Sink c.args.out.now) pair in
    subst (λ s. Meets (Packets c.args.name.now) before after (Err s)) (sym c.open_stop.ensures)
    (closed_meets c.args.name.now before after c.in-Err.ensures.reads.same refl c.in-Err.fault (λ is. c.in-Err.ensures.reads.cause.rose (ap Err is)) c.in-Err.ensures.opened refl)
