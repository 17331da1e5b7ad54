-- One event: its first half and its second.
use Rattle.std.proofs.Common.{◌≡◌, ℕ, ◌+◌, ◌-◌, ◌≤◌, not, List, [], ◌∷◌, Option, Some, None, Result, cond, refl, sym, ap, ◌∙◌, subst, arith}
use Rattle.std.specs.Prelude.{filter}
use Rattle.std.specs.List.{flat_map}
use Rattle.std.specs.Option.{is_some}
use Rattle.cf_audit.specs.declared.CutReason.{CutReason}
use Rattle.cf_packet.specs.Packet.{PacketValue}
use Rattle.cf_packet.specs.declared.packet.PacketRefusal.{PacketRefusal}
use Rattle.cf_policy.specs.declared.Asset.{Asset}
use Rattle.cf_session.specs.Event.{IsTick}
use Rattle.cf_session.specs.Sent.{sent_first}
use Rattle.cf_session.specs.Session.{Flow, SessionEvent}
use Rattle.cf_session.specs.Told.{Told, with_both}
use Rattle.cf_run.specs.Engine.{AreAll, IsOne, TickAll}
use Rattle.cf_run.specs.Receiving.{AreTicked}
use Rattle.cf_run.specs.Counted.{counted}
use Rattle.cf_run.specs.Step.{EngineValue, IsEngineOf, ReceivesRecordOne, Steps, StepsOn}
use Rattle.cf_run.specs.Table.{Session}
use Rattle.cf_run.specs.Trace.{AreRunEvents, AreTicks, RunEvent, kept, logged_received, logged_ticks, sent_received, stays, table_after, ticked, with_events}
use Rattle.cf_run.specs.declared.entry.Entry.{Entry}
use Rattle.cf_run.specs.declared.summary.Happened.{Happened}
use Rattle.cf_run.proofs.Counting.{counts_on}
use Rattle.cf_run.proofs.Timers.{both_both}

-- ---- the sessions as the packet finds them

one_later : (assets : List Asset) (last later : ℕ) → last ≤ later → (entry : Entry) (flow : Flow) (events : List SessionEvent) →
    IsOne assets last entry (record { flow = flow; events = events }) → IsOne assets later entry (record { flow = flow; events = events })
one_later assets last later le entry flow [] one = absurd one
one_later assets last later le entry flow (event ∷ earlier) one = record { stands = one.stands; site = one.site; last_moment = omega (arith, le, one.last_moment) }

pub all_later : (assets : List Asset) (last later : ℕ) → last ≤ later → (entries : List Entry) (table : List Session) → AreAll assets last entries table → AreAll assets later entries table
all_later assets last later le [] [] all = tt
all_later assets last later le [] (s ∷ table) all = absurd all
all_later assets last later le (entry ∷ entries) [] all = absurd all
all_later assets last later le (entry ∷ entries) (s ∷ table) all = (one_later assets last later le entry s.flow s.events all.0, all_later assets last later le entries table all.1)

one_ticked : (tick : ℕ) (s : Session) (t : SessionEvent) (more : List Session) → IsTick s.flow s.events tick t → AreTicked tick more → (c : Option CutReason) → t.cut ≡ c →
    AreTicked tick (cond (not (is_some c)) (record s { events = t ∷ s.events } ∷ more) more)
one_ticked tick s t more is are None e = ((is, e), are)
one_ticked tick s t more is are (Some because) e = are

-- those that stay had the first half of the event
pub have_ticked : (tick : ℕ) (table : List Session) (ticks : List SessionEvent) → AreTicks tick table ticks → AreTicked tick (filter stays (with_events table ticks))
have_ticked tick [] ticks are = tt
have_ticked tick (s ∷ table) [] are = absurd are
have_ticked tick (s ∷ table) (t ∷ ticks) are =
    one_ticked tick s t (filter stays (with_events table ticks)) are.0 (have_ticked tick table ticks are.1) t.cut refl

-- ---- both halves

pub stepped : (assets : List Asset) (limit now : ℕ) (packet : Result PacketValue PacketRefusal) (entries middle after : List Entry) (old mid new : Told) (happened : Happened) → 2 ≤ now →
    ((known : List Session) → AreAll assets (now - 1) entries known → TickAll assets (now - 1) known middle old mid happened.cuts) →
    ReceivesRecordOne assets limit now packet middle after mid new happened.outcome →
    (before : List Session) (last : ℕ) → last + 1 ≤ now → AreAll assets last entries before →
    (event : RunEvent) × Steps assets limit now packet before after old new happened event
stepped assets limit now packet entries middle after old mid new happened two ticks receives before last le all =
    let t = ticks before (all_later assets last (now - 1) (omega (arith, le)) entries before all) in
    let table : List Session = ticked t.ticks (now - 1) before in
    let ready : AreTicked (now - 1) table = have_ticked (now - 1) (kept (now - 1) before) t.ticks t.are in
    let same : now - 1 + 1 ≡ now = omega (arith, two) in
    let r = receives table ready (subst (λ m. AreAll assets m middle table) same t.all) in (
      record { input = record { moment = now; packet = packet }; ticks = t.ticks; received = r.0 },
      record {
        input = refl;
        is_event = record { ticks = t.are; received = r.1.receives };
        told = r.1.told ∙ ap (λ m. with_both m (sent_received r.0) (logged_received table r.0)) t.told
            ∙ both_both old (flat_map sent_first t.ticks) (sent_received r.0) (logged_ticks (kept (now - 1) before) t.ticks) (logged_received table r.0);
        all = r.1.all;
        counts = record { ticks = t.cuts_is; received = r.1.counts };
      },
    )

-- ---- the engine

pub steps_on : (assets : List Asset) (now : ℕ) (packet : Result PacketValue PacketRefusal) (before after : EngineValue) (old new : Told) (happened : Happened) →
    after.limit ≡ before.limit → after.last ≡ now → after.summary ≡ counted before.summary happened → before.last + 2 ≤ now →
    ((table : List Session) (last : ℕ) → last + 1 ≤ now → AreAll assets last before.table table →
    (event : RunEvent) × Steps assets before.limit now packet table after.table old new happened event) →
    (events : List RunEvent) → IsEngineOf assets before events → (event : RunEvent) × StepsOn assets now packet events after old new event
steps_on assets now packet before after old new happened same_limit is_last counts later steps events h =
    let s = steps (table_after events) before.last (omega (arith, later)) h.all in
    let is_moment : s.0.input.moment ≡ now = ap (λ i. i.moment) s.1.input in
    let are : AreRunEvents assets before.limit (s.0 ∷ events) = (s.1.is_event, h.are) in
    let all : AreAll assets now after.table (table_after (s.0 ∷ events)) = s.1.all in (
      s.0,
      record {
        input = s.1.input;
        stands = record {
          are = subst (λ n. AreRunEvents assets n (s.0 ∷ events)) (sym same_limit) are;
          rises = (omega (arith, later, h.last, is_moment), h.rises);
          last = is_moment ∙ sym is_last;
          all = subst (λ n. AreAll assets n after.table (table_after (s.0 ∷ events))) (sym is_last) all;
          counts = counts ∙ ap (λ x. counted x happened) h.counts ∙ counts_on assets events s.0 happened s.1.counts;
        };
        told = s.1.told;
      },
    )
