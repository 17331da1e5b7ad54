use Rattle.std.proofs.Common.{arith, refl, sym, ◌+◌, ◌∙◌}
use Rattle.std.proofs.lemmas.List.{nil_from_length}
use Rattle.cf_outside.proofs.Content.{with_appended-nothing}
use Rattle.cf_sift.proofs.Draining.{all_moved, moved_more, partly_moved}
use Rattle.cf_sift.proofs.queue_file.drain.Goals as goal

pub pieces-init : goal.pieces-init
pieces-init g c = record {
  gone = 0;
  left = refl;
  file = sym (with_appended-nothing _);
  pushed = refl;
  ended = refl;
  stands = λ whole h. h;
  writes = record { others = λ other none. refl; cause = record { later = omega arith; rose = λ failed. absurd failed }; reads = refl };
  buffer = c.requires.buffer;
}

pub pieces-preserved : goal.pieces-preserved
pieces-preserved g c =
    let inv = c.pieces.invariant in
    let f = c.append.ensures in
    let (left, file) = moved_more _ _ inv.gone _ _ inv.left inv.file _ _ c.front-n.result _ c.front-n.ensures.bytes c.pop.ensures.kept c.in-Done.ensures.file.1 in
    record {
      gone = inv.gone + c.front-n.result;
      left = left;
      file = file;
      pushed = c.pop.ensures.pushed ∙ inv.pushed;
      ended = c.pop.ensures.ended ∙ inv.ended;
      stands = λ whole h. c.pop.ensures.stands whole (inv.stands whole h);
      writes = record {
        others = λ other none. f.others other none.0 ∙ inv.writes.others other none;
        cause = record { later = omega (arith, inv.writes.cause.later, f.cause.later); rose = λ failed. absurd failed };
        reads = f.reads ∙ inv.writes.reads;
      };
      buffer = c.front-n.ensures.buffer ∙ inv.buffer;
    }

pub returns-then-n-eq0-clause-drains : goal.returns-then-n-eq0-clause-drains
returns-then-n-eq0-clause-drains g c =
    let inv = c.pieces.invariant in
    let none = nil_from_length _ (omega (arith, c.if-n-eq0.true, c.front-n.ensures.count, inv.buffer)) in
    record { kept = none; file = all_moved _ _ inv.gone _ _ inv.left inv.file none; pushed = inv.pushed; ended = inv.ended }

pub returns-in-Failed-clause-partly : goal.returns-in-Failed-clause-partly
returns-in-Failed-clause-partly g c =
    let inv = c.pieces.invariant in
    let (more, file) = partly_moved _ _ inv.gone _ _ inv.left inv.file _ c.front-n.result _ c.front-n.ensures.bytes c.in-Failed.ensures.file in
    record { gone = inv.gone; more = more; kept = inv.left; file = file; pushed = inv.pushed; ended = inv.ended }
