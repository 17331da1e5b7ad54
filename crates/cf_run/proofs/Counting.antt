-- What is counted of one event more.
use Rattle.std.proofs.Common.{◌≡◌, ℕ, suc, ◌+◌, ◌&&◌, List, ◌∷◌, length, refl, ap, ◌∙◌, arith}
use Rattle.std.specs.Prelude.{count_by}
use Rattle.std.specs.Option.{is_some}
use Rattle.cf_lane.specs.Judged.{one_if}
use Rattle.cf_policy.specs.declared.Asset.{Asset}
use Rattle.cf_run.specs.Counted.{counted, plus}
use Rattle.cf_run.specs.Fitting.{is_above, is_beyond, is_foreign, misfit_in}
use Rattle.cf_run.specs.Receiving.{IsOutcome}
use Rattle.cf_run.specs.Step.{IsCounted}
use Rattle.cf_run.specs.Summary.{capped, closes_in, cuts_in, decided_in, found, has_begun, found_no_room, summary_of, total, was_cut, was_dropped, was_foreign, was_outside}
use Rattle.cf_run.specs.Table.{Session}
use Rattle.cf_run.specs.Trace.{Begun, Dropped, RunEvent, NoRoom, NoSession, Received, Went, table_after}
use Rattle.cf_run.specs.declared.second_half.Outcome.{Outcome}
use Rattle.cf_run.specs.declared.second_half.Outcome.TheVariants as outcome
use Rattle.cf_run.specs.declared.summary.Happened.{Happened}
use Rattle.cf_run.specs.declared.summary.Summary.{Summary}

-- the sum of a capped count and more
more : (n m : ℕ) → plus (capped n) m ≡ capped (n + m)
more n m = omega arith

none : (n : ℕ) → capped n ≡ capped (n + 0)
none n = omega arith

one : (n : ℕ) → plus (capped n) 1 ≡ capped (suc n)
one n = omega arith

both : (n a b : ℕ) → plus (plus (capped n) a) b ≡ capped (n + (a + b))
both n a b = omega arith

first : (n a : ℕ) → plus (capped n) a ≡ capped (n + (a + 0))
first n a = omega arith

-- a summary is its counts
twelve : (s t : Summary) → s.records ≡ t.records → s.dropped ≡ t.dropped → s.outside ≡ t.outside → s.full ≡ t.full → s.sessions ≡ t.sessions →
    s.admitted ≡ t.admitted → s.refused ≡ t.refused → s.cuts ≡ t.cuts → s.foreign ≡ t.foreign → s.closed ≡ t.closed → s.above ≡ t.above → s.beyond ≡ t.beyond → s ≡ t
twelve s t a b c d e f g h i j k l =
    let r : Summary = record {
      records = t.records;
      dropped = t.dropped;
      outside = t.outside;
      full = t.full;
      sessions = t.sessions;
      admitted = t.admitted;
      refused = t.refused;
      cuts = t.cuts;
      foreign = t.foreign;
      closed = t.closed;
      above = t.above;
      beyond = t.beyond;
    } in
    rw (a, b, c, d, e, f, g, h, i, j, k, l) refl

-- ---- one event more, by what became of its packet
module _ (assets : List Asset) (events : List RunEvent) (event : RunEvent) where
  abbrev ticks_cut : ℕ
  ticks_cut = count_by (λ t. is_some t.cut) event.ticks

  abbrev before : List Session
  before = table_after events

  -- the counts of the earlier events that hang on their tables
  abbrev foreigns : ℕ
  foreigns = total (λ b e. one_if (was_foreign assets e)) events

  abbrev closings : ℕ
  closings = total (λ b e. one_if (closes_in (found b e) e.received)) events

  abbrev aboves : ℕ
  aboves = total (λ b e. one_if (is_above (misfit_in (found b e) e.received))) events

  abbrev beyonds : ℕ
  beyonds = total (λ b e. one_if (is_beyond (misfit_in (found b e) e.received))) events

  -- the counts with one event more
  abbrev with_one : Received → Summary
  with_one r = record {
    records = capped (length (event ∷ events));
    dropped = capped (total (λ b e. one_if (was_dropped e.received)) events + one_if (was_dropped r));
    outside = capped (total (λ b e. one_if (was_outside e.received)) events + one_if (was_outside r));
    full = capped (total (λ b e. one_if (found_no_room e.received)) events + one_if (found_no_room r));
    sessions = capped (total (λ b e. one_if (has_begun e.received)) events + one_if (has_begun r));
    admitted = capped (total (λ b e. decided_in (λ w. w.admitted) (found b e) e.received) events + decided_in (λ w. w.admitted) (found before event) r);
    refused = capped (total (λ b e. decided_in (λ w. w.refused) (found b e) e.received) events + decided_in (λ w. w.refused) (found before event) r);
    cuts = capped (total cuts_in events + (ticks_cut + one_if (was_cut r)));
    foreign = capped (foreigns + one_if (was_outside r && is_foreign assets event.input.packet));
    closed = capped (closings + one_if (closes_in (found before event) r));
    above = capped (aboves + one_if (is_above (misfit_in (found before event) r)));
    beyond = capped (beyonds + one_if (is_beyond (misfit_in (found before event) r)));
  }

  abbrev Counts : Outcome → Received → Type 0
  Counts o r = counted (summary_of assets events) (record { cuts = ticks_cut; outcome = o }) ≡ with_one r

  by_outcome : (o : Outcome) (r : Received) → IsOutcome assets event.input.packet (found before event) o r → Counts o r
  by_outcome outcome.Dropped Dropped h = twelve _ _ (one _) (more _ 1) (none _) (none _) (none _) (none _) (none _) (first _ _) (none _) (none _) (none _) (none _)
  by_outcome outcome.Full NoRoom h = twelve _ _ (one _) (none _) (none _) (more _ 1) (none _) (none _) (none _) (first _ _) (none _) (none _) (none _) (none _)
  by_outcome (outcome.Outside foreign) NoSession h =
      twelve _ _ (one _) (none _) (more _ 1) (none _) (none _) (none _) (none _) (first _ _) (more _ foreign ∙ ap (λ n. capped (foreigns + n)) h) (none _) (none _) (none _)
  by_outcome outcome.Begun (Begun flow half) h = twelve _ _ (one _) (none _) (none _) (none _) (more _ 1) (none _) (none _) (first _ _) (none _) (none _) (none _) (none _)
  by_outcome (outcome.Went admitted refused cuts closed above beyond) (Went place half) h =
      twelve _ _ (one _) (none _) (none _) (none _) (none _) (more _ admitted ∙ ap (λ n. capped (total (λ b e. decided_in (λ w. w.admitted) (found b e) e.received) events + n)) h.0)
      (more _ refused ∙ ap (λ n. capped (total (λ b e. decided_in (λ w. w.refused) (found b e) e.received) events + n)) h.1)
      (both _ _ cuts ∙ ap (λ n. capped (total cuts_in events + (ticks_cut + n))) h.2) (none _) (more _ closed ∙ ap (λ n. capped (closings + n)) h.3)
      (more _ above ∙ ap (λ n. capped (aboves + n)) h.4) (more _ beyond ∙ ap (λ n. capped (beyonds + n)) h.5)
  by_outcome o r h = absurd h

-- a summary goes on by one event
pub counts_on : (assets : List Asset) (events : List RunEvent) (event : RunEvent) (happened : Happened) → IsCounted assets (table_after events) happened event →
    counted (summary_of assets events) happened ≡ summary_of assets (event ∷ events)
counts_on assets events event happened h =
    ap (λ n. counted (summary_of assets events) (record { cuts = n; outcome = happened.outcome })) h.ticks ∙ by_outcome assets events event happened.outcome event.received h.received
