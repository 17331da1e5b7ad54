use Rattle.std.proofs.Common.{◌≡◌, ◌++◌, ◌∷◌, [], ℕ, List, map, take}
use Rattle.cf_outside.specs.Files.{with_appended}
use Rattle.cf_outside.specs.Frames.{OnlyWrites}
use Rattle.cf_review.specs.Lines.{lines_by}
use Rattle.cf_review.specs.Remark.{remark_value}
use Rattle.cf_review.specs.Stamps.{stamp_by}
use Rattle.cf_review.proofs.lines.append_lines.Given as goal

abbrev pub invariant-loop-remark : goal.invariant-loop-remark
invariant-loop-remark g l =
    let content = g.F.Files.content in
    record {
      front : List ℕ;
      told : front ++ l.piece.items ≡ lines_by l.assets (stamp_by l.stamps) (map remark_value (take l.remark-index l.remarks));
      file : content l.files l.log ≡ with_appended (content l.fn.files l.log) front;
      writes : OnlyWrites (l.log ∷ []) content g.F.Files.read_faults g.F.Files.write_faults l.fn.files l.files ⊥;
    }
