-- One event that was broken off in one of its halves.
use Rattle.std.proofs.Common.{false, ◌≡◌, ℕ, ◌+◌, ◌-◌, ◌≤◌, List, [], ◌∷◌, Result, refl, ap, ◌∙◌, subst, arith, inl, inr}
use Rattle.std.specs.List.{concat, flat_map}
use Rattle.cf_outside.specs.Desk.{DeskValue, SentValue}
use Rattle.cf_outside.specs.Files.{Content}
use Rattle.cf_packet.specs.Packet.{PacketValue}
use Rattle.cf_packet.specs.declared.packet.PacketRefusal.{PacketRefusal}
use Rattle.cf_policy.specs.declared.Asset.{Asset}
use Rattle.cf_outside.specs.Frames.{EmitsAndLogs}
use Rattle.cf_session.specs.Broken.{IsPartOf, octets_of}
use Rattle.cf_session.specs.Sent.{sent_first}
use Rattle.cf_session.specs.Told.{Told, told, with_both}
use Rattle.cf_run.specs.Engine.{AreAll, TickAll}
use Rattle.cf_run.specs.FileDesk.{files_desk}
use Rattle.cf_run.specs.Half.{BreaksHalf, IsHalfOf, ReceiveRecordBreaks, StepBreaks, StepStops, StopsBeginning, TicksBreak, first_half, second_half}
use Rattle.cf_run.specs.Receiving.{AreTicked}
use Rattle.cf_run.specs.Step.{EngineValue, IsEngineOf}
use Rattle.cf_run.specs.Table.{Session}
use Rattle.cf_run.specs.Trace.{RunEvent, Input, kept, logged_ticks, table_after, ticked}
use Rattle.cf_run.specs.declared.entry.Entry.{Entry}
use Rattle.cf_run.proofs.Stepping.{all_later, have_ticked}
use Rattle.cf_run.proofs.Timers.{both_both}

module _ (assets : List Asset) (limit now : ℕ) (packet : Result PacketValue PacketRefusal) (entries : List Entry) (before : List Session) (last : ℕ) (le : last + 1 ≤ now) (all : AreAll assets last entries before) where
  abbrev input : Input
  input = record { moment = now; packet = packet }

  ready : AreAll assets (now - 1) entries before
  ready = all_later assets last (now - 1) (omega (arith, le)) entries before all

  pub first_breaks : (d0 d1 : DeskValue) → ((known : List Session) → AreAll assets (now - 1) entries known → TicksBreak (now - 1) known d0 d1) → StepBreaks assets limit before input d0 d1
  first_breaks d0 d1 ticks =
      let t = ticks before ready in (
        first_half (now - 1) before t.ticks,
        inl (t.ticks, t.are, refl),
        record {
          gone = t.amid.gone;
          left = t.amid.left;
          are_sent = t.amid.are_sent;
          put = t.amid.put;
          missing = t.amid.missing;
          are_lines = t.amid.are_lines;
          is_told = t.amid.is_told;
          packet_part = t.amid.packet_part;
          line_part = t.amid.line_part;
        },
      )

  pub stops_between : 1 ≤ now → (middle : List Entry) (old mid new : Told) (cuts : ℕ) → new ≡ mid → StopsBeginning assets now packet middle →
      ((known : List Session) → AreAll assets (now - 1) entries known → TickAll assets (now - 1) known middle old mid cuts) → StepStops assets before input old new
  stops_between some middle old mid new cuts same begins ticks =
      let t = ticks before ready in
      let table : List Session = ticked t.ticks (now - 1) before in
      let again : now - 1 + 1 ≡ now = omega (arith, some) in
      let begun = begins table (subst (λ m. AreAll assets m middle table) again t.all) in
      (first_half (now - 1) before t.ticks, record { ticks = t.ticks; are = t.are; is = refl; begins = begun }, same ∙ t.told)

  pub second_breaks : 1 ≤ now → (middle : List Entry) (d0 d1 d2 : DeskValue) (cuts : ℕ) → ((known : List Session) → AreAll assets (now - 1) entries known → TickAll assets (now - 1) known middle (told d0) (told d1) cuts) →
      EmitsAndLogs d0 d1 false → ReceiveRecordBreaks assets limit now packet middle d1 d2 → StepBreaks assets limit before input d0 d2
  second_breaks some middle d0 d1 d2 cuts ticks frame receives =
      let t = ticks before ready in
      let table : List Session = ticked t.ticks (now - 1) before in
      let on : AreTicked (now - 1) table = have_ticked (now - 1) (kept (now - 1) before) t.ticks t.are in
      let same : now - 1 + 1 ≡ now = omega (arith, some) in
      let r = receives table on (subst (λ m. AreAll assets m middle table) same t.all) in
      let event : RunEvent = record { input = input; ticks = t.ticks; received = r.received } in (
        second_half before event,
        inr (event, refl, record { ticks = t.are; received = r.receives }, refl),
        record {
          gone = r.amid.gone;
          left = r.amid.left;
          are_sent = r.amid.are_sent;
          put = r.amid.put;
          missing = r.amid.missing;
          are_lines = r.amid.are_lines;
          is_told = r.amid.is_told ∙ ap (λ m. with_both m r.amid.gone r.amid.put) t.told
              ∙ both_both (told d0) (flat_map sent_first t.ticks) r.amid.gone (logged_ticks (kept (now - 1) before) t.ticks) r.amid.put;
          packet_part = subst (λ (f : SentValue → List ℕ). IsPartOf (octets_of f r.amid.left) d0.packet_part d2.packet_part) frame.keeps.octets
              (subst (λ (was : List ℕ). IsPartOf (octets_of d1.octets r.amid.left) was d2.packet_part) (frame.packet_part refl) r.amid.packet_part);
          line_part = subst (λ (was : List ℕ). IsPartOf (concat r.amid.missing) was d2.line_part) (frame.line_part refl) r.amid.line_part;
        },
      )

-- ---- the engine

module _ (assets : List Asset) (now : ℕ) (packet : Result PacketValue PacketRefusal) (before : EngineValue) (later : before.last + 2 ≤ now) where
  pub engine_breaks : (d0 d1 : DeskValue) → ((table : List Session) (last : ℕ) → last + 1 ≤ now → AreAll assets last before.table table → StepBreaks assets before.limit table (record { moment = now; packet = packet }) d0 d1) →
      (events : List RunEvent) → IsEngineOf assets before events → StepBreaks assets before.limit (table_after events) (record { moment = now; packet = packet }) d0 d1
  engine_breaks d0 d1 steps events h = steps (table_after events) before.last (omega (arith, later)) h.all

  pub engine_stops : (old new : Told) → ((table : List Session) (last : ℕ) → last + 1 ≤ now → AreAll assets last before.table table → StepStops assets table (record { moment = now; packet = packet }) old new) →
      (events : List RunEvent) → IsEngineOf assets before events → StepStops assets (table_after events) (record { moment = now; packet = packet }) old new
  engine_stops old new steps events h = steps (table_after events) before.last (omega (arith, later)) h.all

-- ---- a desk over two files

-- of a desk, nothing but its two files
abbrev pub only_files : DeskValue → (out log : List ℕ) → (List ℕ → Content) → DeskValue
only_files d out log content = record (files_desk out log content) { whole = d.whole; faults = d.faults; lender = d.lender; reads = d.reads }

-- what was broken off reads the two files alone
pub over_files : (assets : List Asset) (limit : ℕ) (before : List Session) (given given' : Input) → given' ≡ given → (d0 d1 : DeskValue) (out log out' log' : List ℕ) (old new : List ℕ → Content) →
    d0 ≡ only_files d0 out log old → d1 ≡ only_files d1 out' log' new → (out' ∷ log' ∷ []) ≡ out ∷ log ∷ [] →
    StepBreaks assets limit before given' d0 d1 → StepBreaks assets limit before given (files_desk out log old) (files_desk out log new)
over_files assets limit before given given' input d0 d1 out log out' log' old new is0 is1 names (half, is_half, broken) =
    let o : out' ≡ out = cc in
    let n : log' ≡ log = cc in
    let b : BreaksHalf half (only_files d0 out log old) (only_files d1 out' log' new) = subst (λ x. BreaksHalf half (only_files d0 out log old) x) is1 (subst (λ x. BreaksHalf half x d1) is0 broken) in (
      half,
      subst (λ i. IsHalfOf assets limit before i half) input is_half,
      subst (λ x. BreaksHalf half (files_desk out log old) (files_desk x log new)) o (subst (λ x. BreaksHalf half (files_desk out log old) (files_desk out' x new)) n (record {
        gone = b.gone;
        left = b.left;
        are_sent = b.are_sent;
        put = b.put;
        missing = b.missing;
        are_lines = b.are_lines;
        is_told = b.is_told;
        packet_part = b.packet_part;
        line_part = b.line_part;
      })),
    )
