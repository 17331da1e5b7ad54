use Rattle.std.proofs.Common.{◌≡◌, ◌+◌, ◌++◌, ◌∙◌, ap, arith, drop, map, slice_get, sym, take}
use Rattle.std.proofs.lemmas.Result.{on_err_weaker}
use Rattle.cf_outside.specs.Files.{with_appended}
use Rattle.cf_review.specs.Lines.{line_by, lines_by}
use Rattle.cf_review.specs.Remark.{remark_value}
use Rattle.cf_review.specs.Stamps.{stamp_by}
use Rattle.cf_review.proofs.Writing.{moved_on, on_err, partly_moved, text_more, text_split}
use Rattle.cf_review.proofs.lines.append_lines.Goals as goal

pub returns-in_err-put-clause-partly : goal.returns-in_err-put-clause-partly
returns-in_err-put-clause-partly g c =
    let inv = c.loop-remark.invariant in
    let rs = c.args.remarks.now in
    let i = c.loop-remark.remark-index in
    let text = lines_by c.args.assets.now (stamp_by c.args.stamps.now) in
    let p = c.in_err-put.ensures.partly in
    on_err _ c.from_residual.result
    (partly_moved inv.front c.loop-remark.piece.items (text (map remark_value (take i rs))) (text (map remark_value (drop i rs))) (text (map remark_value rs)) p.0 _ _ _ inv.told
    (text_split c.args.assets.now (stamp_by c.args.stamps.now) rs i) inv.file p.1)

pub loop-remark-preserved : goal.loop-remark-preserved
loop-remark-preserved g c =
    let inv = c.loop-remark.invariant in
    let rs = c.args.remarks.now in
    let i = c.loop-remark.remark-index in
    let text = lines_by c.args.assets.now (stamp_by c.args.stamps.now) in
    let put = c.in_ok-put.ensures in
    let more : text (map remark_value (take i rs)) ++ c.as_bytes.result.now ≡ text (map remark_value (take (i + 1) rs)) =
    ap (λ xs. text (map remark_value (take i rs)) ++ xs)
    (c.as_bytes.ensures.value ∙ c.deref.ensures.0 ∙ c.spell.ensures.bytes
    ∙ ap (λ m. line_by (slice_get c.args.assets.now c.remark-item.result.asset) m (remark_value c.remark-item.result)) c.at.ensures)
    ∙ sym (text_more c.args.assets.now (stamp_by c.args.stamps.now) rs i c.remark-item.result c.loop-remark-test.true (sym c.remark-item.is)) in
    let m = moved_on inv.front c.loop-remark.piece.items c.as_bytes.result.now c.put.new.piece.items (text (map remark_value (take i rs))) (text (map remark_value (take (i + 1) rs))) _ _ _ inv.told inv.file more put.done in
    record {
      front = m.0;
      told = m.1;
      file = m.2;
      writes = record {
        others = λ other none. put.writes.others other none ∙ inv.writes.others other none;
        cause = record { later = omega (arith, inv.writes.cause.later, put.writes.cause.later); rose = λ failed. absurd failed };
        reads = put.writes.reads ∙ inv.writes.reads;
      };
    }

pub returns-clause-partly : goal.returns-clause-partly
returns-clause-partly g c =
    let inv = c.loop-remark.invariant in
    let rs = c.args.remarks.now in
    let i = c.loop-remark.remark-index in
    let text = lines_by c.args.assets.now (stamp_by c.args.stamps.now) in
    on_err_weaker c.append_all.result
    (λ p. partly_moved inv.front c.loop-remark.piece.items (text (map remark_value (take i rs))) (text (map remark_value (drop i rs))) (text (map remark_value rs)) p.0 _ _ _ inv.told
    (text_split c.args.assets.now (stamp_by c.args.stamps.now) rs i) inv.file (p.1 ∙ ap (λ xs. with_appended (g.F.Files.content c.loop-remark.files c.args.log.now) (take p.0 xs)) c.as_slice.ensures.value))
    c.append_all.ensures.partly
