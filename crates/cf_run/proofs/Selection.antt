-- The output of an event, selected by its moments.
use Rattle.std.proofs.Common.{◌≡◌, ◌≢◌, ℕ, zero, suc, ◌+◌, ◌≤◌, ◌==◌, true, false, List, [], ◌∷◌, ◌++◌, cond, Result, Ok, Err, refl, sym, ap, ◌∙◌, subst, arith}
use Rattle.std.specs.Prelude.{slice_get}
use Rattle.std.specs.List.{AllByRecursion as Each, flat_map}
use Rattle.std.proofs.lemmas.List.{append-nil}
use Rattle.std.proofs.lemmas.List.Elements.{filter-append}
use Rattle.std.proofs.lemmas.List.Concat.{flat_map-cons}
use Rattle.cf_leg.specs.Event.{moment}
use Rattle.cf_packet.specs.Packet.{PacketValue}
use Rattle.cf_packet.specs.declared.packet.PacketRefusal.{PacketRefusal}
use Rattle.cf_policy.specs.declared.Asset.{Asset}
use Rattle.cf_view.specs.declared.Side.{Side}
use Rattle.cf_session.specs.Sent.{Sent, at, sent_first, sent_second}
use Rattle.cf_session.specs.Session.{Flow, SessionEvent}
use Rattle.cf_run.specs.Selected.{IsSelected, Rises, SelectsByMoment, last_moment, with_moment}
use Rattle.cf_run.proofs.Sessions.{each-filter}
use Rattle.cf_run.specs.Table.{Begins, Goes, Match, Session, match_of}
use Rattle.cf_run.specs.Trace.{AreRunEvents, AreTicks, Begun, Dropped, RunEvent, GoesOnAt, GoesOnWith, IsRunEvent, NoRoom, NoSession, Received, Receives, ReceivesRecord, Went, kept, sent, sent_in_first, sent_in_second, sent_received, stays, table_after, tick_of, ticked, with_events}

-- all have moments of this kind
abbrev AllOf : (ℕ → Type 0) → List Sent → Type 0
AllOf P [] = Unit {0}
AllOf P (s ∷ ss) = P s.moment × AllOf P ss

all-append : (P : ℕ → Type 0) (xs ys : List Sent) → AllOf P xs → AllOf P ys → AllOf P (xs ++ ys)
all-append P [] ys h g = g
all-append P (x ∷ xs) ys h g = (h.0, all-append P xs ys h.1 g)

all-weaker : (P Q : ℕ → Type 0) → ((n : ℕ) → P n → Q n) → (xs : List Sent) → AllOf P xs → AllOf Q xs
all-weaker P Q w [] h = tt
all-weaker P Q w (x ∷ xs) h = (w x.moment h.0, all-weaker P Q w xs h.1)

all-at : (P : ℕ → Type 0) (now : ℕ) (ps : List PacketValue) → P now → AllOf P (at now ps)
all-at P now [] h = tt
all-at P now (p ∷ ps) h = (h, all-at P now ps h)

select-all : (m : ℕ) (xs : List Sent) → AllOf (λ n. n ≡ m) xs → with_moment m xs ≡ xs
select-all m [] h = refl
select-all m (x ∷ xs) h = (let e : (x.moment == m) ≡ true = grind (arith, h.0) in ap (λ b. cond b (x ∷ with_moment m xs) (with_moment m xs)) e) ∙ ap (λ ys. x ∷ ys) (select-all m xs h.1)

select-none : (m : ℕ) (xs : List Sent) → AllOf (λ n. n ≢ m) xs → with_moment m xs ≡ []
select-none m [] h = refl
select-none m (x ∷ xs) h = (let e : (x.moment == m) ≡ false = grind (arith, h.0) in ap (λ b. cond b (x ∷ with_moment m xs) (with_moment m xs)) e) ∙ select-none m xs h.1

-- ---- the two halves

first_at : (tick : ℕ) (ss : List Session) (ts : List SessionEvent) → AreTicks tick ss ts → AllOf (λ n. n ≡ tick) (flat_map sent_first ts)
first_at tick [] ts are = subst (λ xs. AllOf (λ n. n ≡ tick) (flat_map sent_first xs)) (sym are) tt
first_at tick (s ∷ ss) [] are = absurd are
first_at tick (s ∷ ss) (t ∷ ts) are =
    subst (AllOf (λ n. n ≡ tick)) (sym (flat_map-cons sent_first t ts))
    (all-append (λ n. n ≡ tick) (sent_first t) (flat_map sent_first ts) (all-at (λ n. n ≡ tick) t.client.tick _ are.0.client_tick) (first_at tick ss ts are.1))

-- the newest event of a session ticked then
abbrev TickedAt : ℕ → List SessionEvent → Type 0
TickedAt tick [] = ⊥
TickedAt tick (t ∷ es) = t.client.tick ≡ tick

abbrev IsTickedAt : ℕ → Session → Type 0
IsTickedAt tick s = TickedAt tick s.events

each-at : (tick : ℕ) (ss : List Session) (ts : List SessionEvent) → AreTicks tick ss ts → Each (IsTickedAt tick) (with_events ss ts)
each-at tick [] ts are = tt
each-at tick (s ∷ ss) [] are = absurd are
each-at tick (s ∷ ss) (t ∷ ts) are = (are.0.client_tick, each-at tick ss ts are.1)

goes_at : (limit tick : ℕ) (s : Side) (p : PacketValue) (e : SessionEvent) (f : Flow) (es : List SessionEvent) → TickedAt tick es → GoesOnWith limit s p e f es → e.client.tick ≡ tick
goes_at limit tick s p e f [] h g = absurd h
goes_at limit tick s p e f (t ∷ es) h g = g.client_on.0 ∙ h

went_at : (limit tick : ℕ) (s : Side) (p : PacketValue) (e : SessionEvent) (i : ℕ) (ss : List Session) → Each (IsTickedAt tick) ss → GoesOnAt limit s p e (slice_get ss i) → e.client.tick ≡ tick
went_at limit tick s p e i [] h g = absurd g
went_at limit tick s p e zero (x ∷ ss) h g = goes_at limit tick s p e x.flow x.events h.0 g
went_at limit tick s p e (suc i) (x ∷ ss) h g = went_at limit tick s p e i ss h.1 g

second_by : (tick : ℕ) (e : SessionEvent) → e.client.tick ≡ tick → AllOf (λ n. n ≡ tick + 1) (sent_second e)
second_by tick e h = all-at (λ n. n ≡ tick + 1) (moment e.client) _ (ap (λ n. n + 1) h)

received_at : (limit tick : ℕ) (table : List Session) (p : PacketValue) (m : Match) (r : Received) → Each (IsTickedAt tick) table → Receives limit tick table p m r → AllOf (λ n. n ≡ tick + 1) (sent_received r)
received_at limit tick table p m Dropped h is = tt
received_at limit tick table p m NoRoom h is = tt
received_at limit tick table p m NoSession h is = tt
received_at limit tick table p (Begins f) (Begun g e) h is = second_by tick e (ap (λ x. x.tick) is.1.client)
received_at limit tick table p (Goes i s) (Went j e) h is =
    second_by tick e (went_at limit tick s p e j table h (subst (λ k. GoesOnAt limit s p e (slice_get table k)) (sym is.0) is.1))
received_at limit tick table p m r h is = absurd is

record_at : (assets : List Asset) (limit tick : ℕ) (table : List Session) (p : Result PacketValue PacketRefusal) (r : Received) → Each (IsTickedAt tick) table → ReceivesRecord assets limit tick table p r → AllOf (λ n. n ≡ tick + 1) (sent_received r)
record_at assets limit tick table (Err refusal) r h is = subst (λ x. AllOf (λ n. n ≡ tick + 1) (sent_received x)) (sym is) tt
record_at assets limit tick table (Ok p) r h is = received_at limit tick table p (match_of assets table p) r h is

module _ (assets : List Asset) (limit : ℕ) where
  in_first : (e : RunEvent) (es : List RunEvent) → IsRunEvent assets limit (table_after es) e → AllOf (λ n. n ≡ tick_of e.input) (sent_in_first e)
  in_first e es h = first_at (tick_of e.input) (kept (tick_of e.input) (table_after es)) e.ticks h.ticks

  in_second : (e : RunEvent) (es : List RunEvent) → 1 ≤ e.input.moment → IsRunEvent assets limit (table_after es) e → AllOf (λ n. n ≡ e.input.moment) (sent_in_second e)
  in_second e es some h =
      let tick = tick_of e.input in
      let back : tick + 1 ≡ e.input.moment = omega arith in
      let table = each-filter (IsTickedAt tick) stays (with_events (kept tick (table_after es)) e.ticks) (each-at tick (kept tick (table_after es)) e.ticks h.ticks) in
      subst (λ m. AllOf (λ n. n ≡ m) (sent_in_second e)) back (record_at assets limit tick (ticked e.ticks tick (table_after es)) e.input.packet e.received table h.received)

  -- nothing was sent after the last moment
  until : (es : List RunEvent) → AreRunEvents assets limit es → Rises es → AllOf (λ n. n ≤ last_moment es) (sent es)
  until [] h r = tt
  until (e ∷ es) h r =
      let m = e.input.moment in
      all-append (λ n. n ≤ m) (sent es) (sent_in_first e ++ sent_in_second e)
      (all-weaker (λ n. n ≤ last_moment es) (λ n. n ≤ m) (λ n g. omega (arith, g, r.0)) (sent es) (until es h.1 r.1))
      (all-append (λ n. n ≤ m) (sent_in_first e) (sent_in_second e)
      (all-weaker (λ n. n ≡ tick_of e.input) (λ n. n ≤ m) (λ n g. omega (arith, g)) (sent_in_first e) (in_first e es h.0))
      (all-weaker (λ n. n ≡ m) (λ n. n ≤ m) (λ n g. omega (arith, g)) (sent_in_second e) (in_second e es (omega (arith, r.0)) h.0)))

  split : (m : ℕ) (a b c : List Sent) → with_moment m (a ++ (b ++ c)) ≡ with_moment m a ++ (with_moment m b ++ with_moment m c)
  split m a b c = filter-append (λ s. s.moment == m) a (b ++ c) ∙ ap (λ xs. with_moment m a ++ xs) (filter-append (λ s. s.moment == m) b c)

  pub selected : (e : RunEvent) (es : List RunEvent) → AreRunEvents assets limit (e ∷ es) → Rises (e ∷ es) → IsSelected e es
  selected e es h r =
      let m = e.input.moment in
      let tick = tick_of e.input in
      let old = until es h.1 r.1 in
      let first = in_first e es h.0 in
      let second = in_second e es (omega (arith, r.0)) h.0 in
      record {
        first = split tick (sent es) (sent_in_first e) (sent_in_second e)
            ∙ rw (
              select-none tick (sent es) (all-weaker (λ n. n ≤ last_moment es) (λ n. n ≢ tick) (λ n g. omega (arith, g, r.0)) (sent es) old),
              select-all tick (sent_in_first e) first,
              select-none tick (sent_in_second e) (all-weaker (λ n. n ≡ m) (λ n. n ≢ tick) (λ n g. omega (arith, g, r.0)) (sent_in_second e) second),
            ) (append-nil (sent_in_first e));
        second = split m (sent es) (sent_in_first e) (sent_in_second e)
            ∙ rw (
              select-none m (sent es) (all-weaker (λ n. n ≤ last_moment es) (λ n. n ≢ m) (λ n g. omega (arith, g, r.0)) (sent es) old),
              select-none m (sent_in_first e) (all-weaker (λ n. n ≡ tick) (λ n. n ≢ m) (λ n g. omega (arith, g, r.0)) (sent_in_first e) first),
              select-all m (sent_in_second e) second,
            ) refl;
        before = λ k below. split k (sent es) (sent_in_first e) (sent_in_second e)
            ∙ rw (
              select-none k (sent_in_first e) (all-weaker (λ n. n ≡ tick) (λ n. n ≢ k) (λ n g. omega (arith, g, r.0, below)) (sent_in_first e) first),
              select-none k (sent_in_second e) (all-weaker (λ n. n ≡ m) (λ n. n ≢ k) (λ n g. omega (arith, g, r.0, below)) (sent_in_second e) second),
            ) (append-nil (with_moment k (sent es)));
      }

pub selects_by_moment : SelectsByMoment
selects_by_moment assets limit e es are rises = selected assets limit e es are rises
