use Rattle.std.proofs.Common.{◌≡◌, ◌-◌, ◌^◌, ◌≤◌, length}
use Rattle.cf_outside.specs.Frames.{OnlyReads}
use Rattle.cf_records.specs.Form.{room_of}
use Rattle.cf_records.specs.Reader.{PassesSome}
use Rattle.cf_records.proofs.record_reader.piece_behind.Given as goal

-- only blocks that are passed over so far
abbrev pub invariant-pieces : goal.invariant-pieces
invariant-pieces g l =
    let content = g.F.Files.content in
    record {
      near : l.place ≤ 2 ^ 40;
      on : l.fn.place ≤ l.place;
      room : length l.buffer ≡ room_of l.form;
      long : length l.buffer ≡ length l.fn.buffer;
      form : room_of l.form ≡ room_of l.fn.form;
      passes : PassesSome (content l.fn.files l.name) l.fn.form l.fn.place l.form l.place;
      reads : OnlyReads l.name content g.F.Files.read_faults g.F.Files.write_faults l.fn.files l.files ⊥;
    }

abbrev pub decreases-pieces : goal.decreases-pieces
decreases-pieces g l = 2 ^ 40 - l.place
