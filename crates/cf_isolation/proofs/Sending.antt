-- What a run sends between the endpoints of a session is the session's own.
use Rattle.std.proofs.Common.{◌≡◌, ℕ, ◌+◌, Bool, List, [], ◌∷◌, Result, sym, ap, ◌∙◌, subst}
use Rattle.cf_isolation.proofs.Common.{AllByRecursion, AreRunEvents, AreTicks, Asset, Flow, IsRightSession, PacketRefusal, PacketValue, Received, ReceivesRecord, Rises, RunEvent, Sent, Session, SessionEvent, SessionsAreRight, at, client_of, flat_map, found, goes_between, kept, moment, sent_first, sent_received, sent_second, table_after, tick_of}
use Rattle.cf_isolation.proofs.Lists.{all_both, all_filtered}
use Rattle.cf_isolation.proofs.Lives.{Holds, holds}
use Rattle.cf_isolation.proofs.Output.{AreTheirs, sending}
use Rattle.cf_isolation.proofs.Packets.{IsHalved, halves, received_between, receives_halved, rights_after, ticks_between}
use Rattle.cf_isolation.proofs.Tables.{IsOwn, all_own, begun_in, found_has_all, kept_has, table_has}

-- ---- moments

abbrev AllAt : ℕ → List Sent → Type 0
AllAt m all = AllByRecursion (λ s. s.moment ≡ m) all

all_at : (m now : ℕ) (ps : List PacketValue) → now ≡ m → AllAt m (at now ps)
all_at m now [] e = tt
all_at m now (p ∷ ps) e = (e, all_at m now ps e)

ticks_at : (tick : ℕ) (ss : List Session) (ts : List SessionEvent) → AreTicks tick ss ts → AllAt tick (flat_map sent_first ts)
ticks_at tick [] ts are = subst (λ xs. AllAt tick (flat_map sent_first xs)) (sym are) tt
ticks_at tick (s ∷ ss) [] are = absurd are
ticks_at tick (s ∷ ss) (t ∷ ts) are = all_both _ (sent_first t) _ (all_at tick t.client.tick _ are.0.client_tick) (ticks_at tick ss ts are.1)

second_at : (tick : ℕ) (e : SessionEvent) → e.client.tick ≡ tick → AllAt (tick + 1) (sent_second e)
second_at tick e h = all_at (tick + 1) (moment e.client) _ (ap (λ n. n + 1) h)

received_at : (assets : List Asset) (limit tick : ℕ) (table : List Session) (p : Result PacketValue PacketRefusal) (r : Received) → AllByRecursion (IsHalved limit tick) table →
    ReceivesRecord assets limit tick table p r → AllAt (tick + 1) (sent_received r)
received_at assets limit tick table p r h g =
    receives_halved assets limit tick table h (λ r. AllAt (tick + 1) (sent_received r)) (tt, tt, tt) (λ f e b. second_at tick e (ap (λ x. x.tick) b.client))
    (λ i e s p x half es at is now before on. second_at tick e (on.client_on.0 ∙ now)) p r g

-- ---- an event

module _ (law : SessionsAreRight) (assets : List Asset) (limit : ℕ) (flow : Flow) (own : IsOwn assets flow) where
  abbrev pub is_its : Sent → Bool
  is_its s = goes_between (client_of flow) flow.site.first.endpoint s.packet

  sent_theirs : (e : RunEvent) (es : List RunEvent) → AreRunEvents assets limit (e ∷ es) → AreTheirs sending es e (client_of flow) flow.site.first.endpoint is_its
  sent_theirs e es h =
      let tick = tick_of e.input in
      let table = table_after es in
      let flows = table_has (IsOwn assets) es (all_own assets limit es h.1) in
      let half = halves law assets limit e es h in
      record {
        first_at = ticks_at tick (kept tick table) e.ticks h.0.ticks;
        second_at = received_at assets limit tick (found table e) e.input.packet e.received half h.0.received;
        first_is = ticks_between assets (client_of flow) flow.site.first.endpoint own.0 own.1 limit tick (kept tick table) e.ticks
            (all_filtered (IsRightSession limit) _ table (rights_after law assets limit es h.1)) (kept_has (IsOwn assets) tick table flows) h.0.ticks;
        second_is = received_between assets (client_of flow) flow.site.first.endpoint own.0 own.1 limit tick (found table e) e.input.packet e.received (found_has_all (IsOwn assets) tick e.ticks table flows)
            half (λ f b is. (begun_in assets limit e es h f b is).2.own) h.0.received;
      }

  pub sent_holds : (es : List RunEvent) → AreRunEvents assets limit es → Rises es → Holds sending flow (λ (s : Sent). goes_between (client_of flow) flow.site.first.endpoint s.packet) es
  sent_holds = holds sending law assets limit flow is_its (AreRunEvents assets limit) (λ e es h. h.1) (λ es h. h) (λ e es h r. sent_theirs e es h)
