use Rattle.std.proofs.Common.{◌≡◌, ◌+◌, ◌&&◌, not, [], ◌∷◌, ◌++◌, sym, ap, ◌∙◌, subst, Bool, true, false, take, drop, arith, cond, ◌<◌, ◌≤◌, length, Some}
use Rattle.std.specs.Prelude.{slice_get}
use Rattle.std.proofs.lemmas.Option.{get_or_from_slice_get}
use Rattle.std.proofs.lemmas.List.{append-nil, take_all}
use Rattle.std.proofs.lemmas.List.Elements.{All-nil}
use Rattle.std.proofs.lemmas.Bool.Decides.{nat_tests}
use Rattle.std.proofs.lemmas.List.Edits.{length-remove}
use Rattle.cf_lane.specs.Judged.{one_if}
use Rattle.cf_outside.proofs.Desks.{puts_none, puts_both}
use Rattle.cf_session.specs.Told.{told}
use Rattle.cf_run.specs.Engine.{AreDueFrom, AreSound, TickSome}
use Rattle.cf_run.specs.Entries.{stays_by, cuts_by}
use Rattle.cf_run.specs.declared.entry.Entry.{Entry}
use Rattle.cf_run.proofs.Due.{due_more, quiet_all, quiet_more}
use Rattle.cf_run.proofs.Soundness.{first_of, sound_removed, cuts_stay, cuts_gone, one_less}
use Rattle.cf_run.proofs.Timers.{some_first, some_more, some_all, take-removed, drop-removed, removed_same}
use Rattle.cf_session.proofs.Amid.{on_err}
use Rattle.cf_run.proofs.TimersAmid.{ticks_break}
use Rattle.cf_run.proofs.first_half.tick_all.Goals as goal

pub sessions-init : goal.sessions-init
sessions-init g c = record {
  inside = omega arith;
  sound = c.requires.sound;
  least = All-nil _;
  fewer = omega arith;
  ticked = λ known all. some_first c.args.assets.now c.args.moment known c.args.table.now.sessions.items _ all;
  frame = puts_none _ c.requires.whole;
}

pub sessions-preserved-then-moment-next : goal.sessions-preserved-then-moment-next
sessions-preserved-then-moment-next g c =
    let items = c.sessions.table.sessions.items in
    let place = c.sessions.place in
    let before = c.sessions.invariant in
    let within : place < length items = omega (arith, c.sessions-test.true, c.len.ensures) in
    let x = first_of items place within in
    let same = λ (entry : Entry) (at : slice_get items place ≡ Some entry). c.index.ensures ∙ get_or_from_slice_get items place entry c.index.result.now at in
    record {
      inside = omega (arith, within);
      sound = before.sound;
      least = subst (AreDueFrom c.min-due.result) (sym x.3) (due_more c.sessions.due c.min-due.result (take place items) x.0 before.least (omega (arith, c.min-due.ensures))
          (subst (λ (e : Entry). c.min-due.result ≤ e.due) (same x.0 x.1) (omega (arith, c.min-due.ensures))));
      fewer = before.fewer;
      ticked = λ known all.
          quiet_more c.sessions_are_quiet_before_due.ensures c.args.assets.now c.args.limit c.args.moment known items place _ _ c.sessions.count before.sound within
          (λ entry at. subst (λ (e : Entry). c.args.moment < e.due) (same entry at) c.if-moment-next.true) (before.ticked known all);
      frame = before.frame;
    }

pub sessions-preserved-then-stays : goal.sessions-preserved-then-stays
sessions-preserved-then-stays g c =
    let value = g.D.Desk.value in
    let place = c.sessions.place in
    let before = c.sessions.table.sessions.items in
    let after = c.tick_at.new.table.items in
    let within : place < length before = omega (arith, c.sessions-test.true, c.len.ensures) in
    let still : place < length after = omega (arith, within, c.in_ok-life.ensures.length) in
    let x = first_of before place within in
    let y = first_of after place still in
    let least = c.min-due-then-stays.result in
    let stay : stays_by c.in_ok-life.life ≡ true = sym c.stays.ensures ∙ c.if-stays.true in
    let more : c.sessions.count + one_if (not (stays_by c.in_ok-life.life) && cuts_by c.in_ok-life.life) ≡ c.sessions.count + c.cuts-count.result =
    ap (λ n. c.sessions.count + n) (cuts_stay c.in_ok-life.life ∙ sym c.cuts-count.ensures) in
    record {
      inside = omega (arith, still);
      sound = c.in_ok-life.ensures.sound stay;
      least = subst (AreDueFrom least) (sym y.3) (due_more c.sessions.due least (take place after) y.0
          (subst (AreDueFrom c.sessions.due) (sym c.in_ok-life.ensures.before) c.sessions.invariant.least) (omega (arith, c.min-due-then-stays.ensures))
          (subst (λ (e : Entry). least ≤ e.due) (c.index-then-stays.ensures ∙ get_or_from_slice_get after place y.0 c.index-then-stays.result.now y.1) (omega (arith, c.min-due-then-stays.ensures))));
      fewer = omega (arith, c.sessions.invariant.fewer, c.in_ok-life.ensures.length, c.cuts-count.ensures, cuts_gone c.in_ok-life.life stay);
      ticked = λ known all.
          subst (λ n. TickSome c.args.assets.now c.args.moment known after (place + 1) (told (value c.args.desk.now)) (told (value c.tick_at.new.desk)) n) more
          (some_more c.args.assets.now c.args.moment known place before _ _ _ x.0 y.0 (drop (place + 1) before) after (place + 1) (stays_by c.in_ok-life.life) (cuts_by c.in_ok-life.life) c.sessions.count
          (c.sessions.invariant.ticked known all) x.2 (c.in_ok-life.ensures.ticks x.0 y.0 x.1 y.1) c.in_ok-life.ensures.after
          (y.3 ∙ ap (λ zs. zs ++ y.0 ∷ []) c.in_ok-life.ensures.before ∙ ap (λ (b : Bool). take place before ++ cond b (y.0 ∷ []) []) (sym stay)));
      frame = puts_both _ _ _ c.sessions.invariant.frame c.in_ok-life.ensures.frame;
    }

pub sessions-preserved : goal.sessions-preserved
sessions-preserved g c =
    let value = g.D.Desk.value in
    let place = c.sessions.place in
    let before = c.sessions.table.sessions.items in
    let mid = c.tick_at.new.table.items in
    let after = c.remove.new.self.items in
    let within : place < length before = omega (arith, c.sessions-test.true, c.len.ensures) in
    let still : place < length mid = omega (arith, within, c.in_ok-life.ensures.length) in
    let removed = c.remove.ensures.items in
    let x = first_of before place within in
    let y = first_of mid place still in
    let gone : stays_by c.in_ok-life.life ≡ false = sym c.stays.ensures ∙ c.if-stays.false in
    let front : take place after ≡ take place mid = ap (take place) removed ∙ take-removed mid place still in
    let back : drop place after ≡ drop (place + 1) mid = ap (drop place) removed ∙ drop-removed mid place still in
    let size : length after + 1 ≡ length mid = ap (λ xs. length xs + 1) removed ∙ length-remove mid place still in
    let more : c.sessions.count + one_if (not (stays_by c.in_ok-life.life) && cuts_by c.in_ok-life.life) ≡ c.sessions.count + c.cuts-count.result =
    ap (λ n. c.sessions.count + n) (cuts_stay c.in_ok-life.life ∙ sym c.cuts-count.ensures) in
    record {
      inside = omega (arith, size, still);
      sound = subst (AreSound c.args.assets.now c.args.limit) (removed_same before mid place (sym c.in_ok-life.ensures.before) (sym c.in_ok-life.ensures.after) ∙ sym removed)
          (sound_removed c.args.assets.now c.args.limit before place c.sessions.invariant.sound);
      least = subst (AreDueFrom c.sessions.due) (sym (front ∙ c.in_ok-life.ensures.before)) c.sessions.invariant.least;
      fewer = omega (arith, c.sessions.invariant.fewer, c.in_ok-life.ensures.length, size, c.cuts-count.ensures, one_less (cuts_by c.in_ok-life.life));
      ticked = λ known all.
          subst (λ n. TickSome c.args.assets.now c.args.moment known after place (told (value c.args.desk.now)) (told (value c.tick_at.new.desk)) n) more
          (some_more c.args.assets.now c.args.moment known place before _ _ _ x.0 y.0 (drop (place + 1) before) after place (stays_by c.in_ok-life.life) (cuts_by c.in_ok-life.life) c.sessions.count
          (c.sessions.invariant.ticked known all) x.2 (c.in_ok-life.ensures.ticks x.0 y.0 x.1 y.1) (back ∙ c.in_ok-life.ensures.after)
          (front ∙ c.in_ok-life.ensures.before ∙ sym (append-nil (take place before)) ∙ ap (λ (b : Bool). take place before ++ cond b (y.0 ∷ []) []) (sym gone)));
      frame = puts_both _ _ _ c.sessions.invariant.frame c.in_ok-life.ensures.frame;
    }

pub returns-then-moment-table-clause-ticks : goal.returns-then-moment-table-clause-ticks
returns-then-moment-table-clause-ticks g c = λ known all.
    quiet_all c.sessions_are_quiet_before_due.ensures c.args.assets.now c.args.limit c.args.moment c.args.table.now.due (grind (arith, nat_tests, c.if-moment-table.true)) known c.args.table.now.sessions.items _
    c.requires.sound c.requires.due all

pub returns-clause-due : goal.returns-clause-due
returns-clause-due g c =
    subst (AreDueFrom c.sessions.due) (take_all c.sessions.place c.sessions.table.sessions.items (omega (arith, c.sessions-test.false, c.len.ensures))) c.sessions.invariant.least

pub returns-clause-ticks : goal.returns-clause-ticks
returns-clause-ticks g c = λ known all.
    some_all c.args.assets.now c.args.moment known c.sessions.table.sessions.items c.sessions.place _ _ c.sessions.count (c.sessions.invariant.ticked known all) (omega (arith, c.sessions-test.false, c.len.ensures))

pub returns-in_err-life-clause-broken : goal.returns-in_err-life-clause-broken
returns-in_err-life-clause-broken g c =
    on_err c.from_residual.result (λ known all.
    let value = g.D.Desk.value in
    let place = c.sessions.place in
    let before = c.sessions.table.sessions.items in
    let within : place < length before = omega (arith, c.sessions-test.true, c.len.ensures) in
    let x = first_of before place within in
    ticks_break c.each_session_has_a_tick.ensures c.args.assets.now c.args.moment known before place (value c.args.desk.now) (value c.sessions.desk) (value c.tick_at.new.desk) c.sessions.count
    (c.sessions.invariant.ticked known all) c.sessions.invariant.frame x.0 (drop (place + 1) before) (c.in_err-life.ensures.broken x.0 x.1) x.2)
