-- The sessions of a run, event by event.
use Rattle.std.proofs.Common.{◌≡◌, ℕ, zero, suc, inl, inr, Bool, true, false, not, List, [], ◌∷◌, ◌++◌, cond, Option, Some, None, Result, Ok, Err, refl, sym, ap, subst}
use Rattle.std.specs.Prelude.{filter, slice_get}
use Rattle.std.specs.List.{AllByRecursion as Each, remove}
use Rattle.std.proofs.lemmas.Bool.{cases_Bool, true≢false}
use Rattle.std.proofs.lemmas.Option.{same_Some}
use Rattle.std.specs.Option.{is_some}
use Rattle.cf_audit.specs.declared.CutReason.{CutReason}
use Rattle.cf_packet.specs.Packet.{PacketValue}
use Rattle.cf_packet.specs.declared.packet.PacketRefusal.{PacketRefusal}
use Rattle.cf_policy.specs.declared.Asset.{Asset}
use Rattle.cf_view.specs.declared.Side.{Side}
use Rattle.cf_session.specs.Event.{IsBeginning, IsTick, AreEvents as AreSessionEvents}
use Rattle.cf_session.specs.Laws.{AreUncut}
use Rattle.cf_session.specs.Session.{Flow, SessionEvent, client_of, is_expired}
use Rattle.cf_run.specs.Sessions.{HasEvents, HasRightEvents, gone_after, leaves, left_by_packet, left_in, session_at, sessions_of}
use Rattle.cf_run.specs.Table.{Session, Match, Begins, Full, Goes, Outside, match_of, place_of, without}
use Rattle.cf_run.specs.Trace.{AreRunEvents, AreTicks, Begun, RunEvent, GoesOnAt, GoesOnWith, NoRoom, NoSession, Received, Receives, ReceivesRecord, Went, after_received, ends_cut, kept, replaced, stays, table_after, tick_of, ticked, with_event_at, with_events}

-- ---- of each session of a list

pub each-append : (P : Session → Type 0) (xs ys : List Session) → Each P xs → Each P ys → Each P (xs ++ ys)
each-append P [] ys h g = g
each-append P (x ∷ xs) ys h g = (h.0, each-append P xs ys h.1 g)

pub each-filter : (P : Session → Type 0) (p : Session → Bool) (xs : List Session) → Each P xs → Each P (filter p xs)
each-filter P p [] h = tt
each-filter P p (x ∷ xs) h = elim (p x) as (λ b. Each P (cond b (x ∷ filter p xs) (filter p xs))) [ true ↦ (h.0, each-filter P p xs h.1) | false ↦ each-filter P p xs h.1 ]

pub each-at : (P : Session → Type 0) (xs : List Session) (i : ℕ) (x : Session) → Each P xs → slice_get xs i ≡ Some x → P x
each-at P [] i x h e = cc
each-at P (y ∷ xs) zero x h e = subst P (same_Some y x e) h.0
each-at P (y ∷ xs) (suc i) x h e = each-at P xs i x h.1 e

each-one : (P : Session → Type 0) (xs : List Session) (place : ℕ) (o : Option Session) → Each P xs → slice_get xs place ≡ o → Each P (elim o [ None ↦ [] | Some x ↦ x ∷ [] ])
each-one P xs place None h e = tt
each-one P xs place (Some x) h e = (each-at P xs place x h e, tt)

pub each-session_at : (P : Session → Type 0) (xs : List Session) (place : Option ℕ) → Each P xs → Each P (session_at xs place)
each-session_at P xs None h = tt
each-session_at P xs (Some place) h = each-one P xs place (slice_get xs place) h refl

each-removed : (P : Session → Type 0) (xs : List Session) (i : ℕ) → Each P xs → Each P (remove xs i)
each-removed P [] zero h = tt
each-removed P [] (suc i) h = tt
each-removed P (x ∷ xs) zero h = h.1
each-removed P (x ∷ xs) (suc i) h = (h.0, each-removed P xs i h.1)

pub each-left : (P : Session → Type 0) (xs : List Session) (place : Option ℕ) → Each P xs → Each P (elim place [ Some i ↦ remove xs i | None ↦ xs ])
each-left P xs None h = h
each-left P xs (Some i) h = each-removed P xs i h

-- what holds of each by one property holds by another that follows
pub each-map : (P Q : Session → Type 0) → ((x : Session) → P x → Q x) → (xs : List Session) → Each P xs → Each Q xs
each-map P Q f [] h = tt
each-map P Q f (x ∷ xs) h = (f x h.0, each-map P Q f xs h.1)

-- ---- the sessions of the table, none of whose events cut it; and those whose newest event is the first half of one

abbrev pub HasGone : ℕ → Flow → List SessionEvent → Type 0
HasGone limit f [] = ⊥
HasGone limit f (e ∷ es) = AreSessionEvents f limit (e ∷ es) × AreUncut (e ∷ es)

abbrev pub IsGoing : ℕ → Session → Type 0
IsGoing limit s = HasGone limit s.flow s.events

abbrev pub HasTick : ℕ → Flow → List SessionEvent → Type 0
HasTick limit f [] = ⊥
HasTick limit f (t ∷ es) = IsTick f es t.client.tick t × (t.cut ≡ None) × HasGone limit f es

abbrev pub IsTicked : ℕ → Session → Type 0
IsTicked limit s = HasTick limit s.flow s.events

right_by : (limit : ℕ) (f : Flow) (es : List SessionEvent) → HasGone limit f es → HasEvents limit f es
right_by limit f [] h = h
right_by limit f (e ∷ es) h = (h.0, h.1.1)

going_by : (limit : ℕ) (f : Flow) (es : List SessionEvent) → HasTick limit f es → HasGone limit f es
going_by limit f [] h = h
going_by limit f (t ∷ []) h = absurd h.2
going_by limit f (t ∷ (e ∷ es)) h = ((inl h.0, h.2.0), (h.1, h.2.1))

each-right : (limit : ℕ) (ss : List Session) → Each (IsGoing limit) ss → Each (HasRightEvents limit) ss
each-right limit ss h = each-map (IsGoing limit) (HasRightEvents limit) (λ s g. right_by limit s.flow s.events g) ss h

each-going : (limit : ℕ) (ss : List Session) → Each (IsTicked limit) ss → Each (IsGoing limit) ss
each-going limit ss h = each-map (IsTicked limit) (IsGoing limit) (λ s t. going_by limit s.flow s.events t) ss h

uncut : (c : Option CutReason) → not (is_some c) ≡ true → c ≡ None
uncut None h = refl
uncut (Some r) h = absurd (true≢false (sym h))

-- a session that stays goes on
going_one : (limit : ℕ) (f : Flow) (es : List SessionEvent) → HasEvents limit f es → not (ends_cut es) ≡ true → HasGone limit f es
going_one limit f [] h e = h
going_one limit f (d ∷ es) h e = (h.0, (uncut d.cut e, h.1))

each-stays : (limit : ℕ) (ss : List Session) → Each (HasRightEvents limit) ss → Each (IsGoing limit) (filter stays ss)
each-stays limit [] h = tt
each-stays limit (s ∷ ss) h =
    let rest = each-stays limit ss h.1 in
    elim (cases_Bool (stays s)) [
      | inl going ↦ subst (λ b. Each (IsGoing limit) (cond b (s ∷ filter stays ss) (filter stays ss))) (sym going) (going_one limit s.flow s.events h.0 going, rest)
      | inr cut ↦ subst (λ b. Each (IsGoing limit) (cond b (s ∷ filter stays ss) (filter stays ss))) (sym cut) rest
    ]

-- ---- the first half

pub each-kept : (limit tick : ℕ) (ss : List Session) → Each (IsGoing limit) ss → Each (IsGoing limit) (kept tick ss)
each-kept limit tick ss h = each-filter (IsGoing limit) (λ s. not (is_expired s.flow s.events tick)) ss h

tick_one : (limit : ℕ) (f : Flow) (es : List SessionEvent) (tick : ℕ) (t : SessionEvent) → HasGone limit f es → IsTick f es tick t → t.cut ≡ None → HasTick limit f (t ∷ es)
tick_one limit f es tick t h is none = (subst (λ n. IsTick f es n t) (sym is.client_tick) is, none, h)

pub each-ticked : (limit tick : ℕ) (ss : List Session) (ts : List SessionEvent) → Each (IsGoing limit) ss → AreTicks tick ss ts → Each (IsTicked limit) (filter stays (with_events ss ts))
each-ticked limit tick [] ts h are = tt
each-ticked limit tick (s ∷ ss) [] h are = absurd are
each-ticked limit tick (s ∷ ss) (t ∷ ts) h are =
    let rest = each-ticked limit tick ss ts h.1 are.1 in
    let new : Session = record s { events = t ∷ s.events } in
    let F = filter stays (with_events ss ts) in
    elim (cases_Bool (not (is_some t.cut))) [
      | inl going ↦ subst (λ b. Each (IsTicked limit) (cond b (new ∷ F) F)) (sym going) (tick_one limit s.flow s.events tick t h.0 are.0 (uncut t.cut going), rest)
      | inr cut ↦ subst (λ b. Each (IsTicked limit) (cond b (new ∷ F) F)) (sym cut) rest
    ]

pub tick_right : (limit : ℕ) (f : Flow) (es : List SessionEvent) (tick : ℕ) (t : SessionEvent) → HasGone limit f es → IsTick f es tick t → HasEvents limit f (t ∷ es)
tick_right limit f [] tick t h is = absurd h
tick_right limit f (e ∷ es) tick t h is = ((inl (subst (λ n. IsTick f (e ∷ es) n t) (sym is.client_tick) is), h.0), h.1)

each-next : (limit tick : ℕ) (ss : List Session) (ts : List SessionEvent) → Each (IsGoing limit) ss → AreTicks tick ss ts → Each (HasRightEvents limit) (with_events ss ts)
each-next limit tick [] ts h are = tt
each-next limit tick (s ∷ ss) [] h are = absurd are
each-next limit tick (s ∷ ss) (t ∷ ts) h are = (tick_right limit s.flow s.events tick t h.0 are.0, each-next limit tick ss ts h.1 are.1)

-- ---- the second half

pub goes_on : (limit : ℕ) (s : Side) (p : PacketValue) (e : SessionEvent) (f : Flow) (es : List SessionEvent) → HasTick limit f es → GoesOnWith limit s p e f es → HasEvents limit f (replaced e es)
goes_on limit s p e f [] h g = absurd h
goes_on limit s p e f (t ∷ []) h g = absurd h.2
goes_on limit s p e f (t ∷ (d ∷ es)) h g = ((inr (t, s, p, h.0, h.1, g), h.2.0), h.2.1)

each-went : (limit : ℕ) (s : Side) (p : PacketValue) (e : SessionEvent) (i : ℕ) (ss : List Session) → Each (IsTicked limit) ss → GoesOnAt limit s p e (slice_get ss i) → Each (HasRightEvents limit) (with_event_at i e ss)
each-went limit s p e i [] h g = tt
each-went limit s p e zero (x ∷ ss) h g = (goes_on limit s p e x.flow x.events h.0 g, each-right limit ss (each-going limit ss h.1))
each-went limit s p e (suc i) (x ∷ ss) h g = (right_by limit x.flow x.events (going_by limit x.flow x.events h.0), each-went limit s p e i ss h.1 g)

pub begun_one : (f : Flow) (tick : ℕ) (e : SessionEvent) → IsBeginning f tick e → IsBeginning f e.client.tick e
begun_one f tick e h = subst (λ n. IsBeginning f n e) (sym (ap (λ x. x.tick) h.client)) h

-- both those that stay and those that leave
record Both (limit : ℕ) (r : Received) (table : List Session) : Type 0 where
  stay : Each (IsGoing limit) (after_received r table)
  left : Each (HasRightEvents limit) (left_by_packet r table)

nothing_left : (limit : ℕ) (table : List Session) (r : Received) → after_received r table ≡ table → left_by_packet r table ≡ [] → Each (IsTicked limit) table → Both limit r table
nothing_left limit table r same none h = record {
  stay = subst (Each (IsGoing limit)) (sym same) (each-going limit table h);
  left = subst (Each (HasRightEvents limit)) (sym none) tt;
}

each-received : (limit tick : ℕ) (table : List Session) (p : PacketValue) (m : Match) (r : Received) → Each (IsTicked limit) table → Receives limit tick table p m r → Both limit r table
each-received limit tick table p (Begins f) (Begun g e) h is =
    let going = each-going limit table h in
    let place = place_of (client_of g) g.site.first.endpoint table in
    let begins = subst (λ x. IsBeginning x tick e) (sym is.0) is.1 in
    record {
      stay = each-append (IsGoing limit) (without (client_of g) g.site.first.endpoint table) (record { flow = g; events = e ∷ [] } ∷ []) (each-left (IsGoing limit) table place going)
          (((begun_one g tick e begins, tt), (begins.cut, tt)), tt);
      left = each-session_at (HasRightEvents limit) table place (each-right limit table going);
    }
each-received limit tick table p (Goes i s) (Went j e) h is =
    let right = each-went limit s p e j table h (subst (λ k. GoesOnAt limit s p e (slice_get table k)) (sym is.0) is.1) in
    record { stay = each-stays limit (with_event_at j e table) right; left = each-filter (HasRightEvents limit) leaves (with_event_at j e table) right }
each-received limit tick table p Full NoRoom h is = nothing_left limit table NoRoom refl refl h
each-received limit tick table p Outside NoSession h is = nothing_left limit table NoSession refl refl h
each-received limit tick table p m r h is = absurd is

each-record : (assets : List Asset) (limit tick : ℕ) (table : List Session) (p : Result PacketValue PacketRefusal) (r : Received) → Each (IsTicked limit) table → ReceivesRecord assets limit tick table p r → Both limit r table
each-record assets limit tick table (Err refusal) r h is = nothing_left limit table r (ap (λ x. after_received x table) is) (ap (λ x. left_by_packet x table) is) h
each-record assets limit tick table (Ok p) r h is = each-received limit tick table p (match_of assets table p) r h is

-- ---- the whole run

pub record OfRun (limit : ℕ) (events : List RunEvent) : Type 0 where
  pub gone : Each (HasRightEvents limit) (gone_after events)
  pub here : Each (IsGoing limit) (table_after events)

pub of_run : (assets : List Asset) (limit : ℕ) (es : List RunEvent) → AreRunEvents assets limit es → OfRun limit es
of_run assets limit [] h = record { gone = tt; here = tt }
of_run assets limit (e ∷ es) h =
    let before = of_run assets limit es h.1 in
    let tick = tick_of e.input in
    let table = table_after es in
    let keeps = each-kept limit tick table before.here in
    let both = each-record assets limit tick (ticked e.ticks tick table) e.input.packet e.received (each-ticked limit tick (kept tick table) e.ticks keeps h.0.ticks) h.0.received in
    let expired = filter (λ s. is_expired s.flow s.events tick) table in
    let cut = filter leaves (with_events (kept tick table) e.ticks) in
    record {
      gone = each-append (HasRightEvents limit) (gone_after es) (left_in table e) before.gone
          (each-append (HasRightEvents limit) expired (cut ++ left_by_packet e.received (ticked e.ticks tick table))
          (each-filter (HasRightEvents limit) (λ s. is_expired s.flow s.events tick) table (each-right limit table before.here))
          (each-append (HasRightEvents limit) cut (left_by_packet e.received (ticked e.ticks tick table))
          (each-filter (HasRightEvents limit) leaves (with_events (kept tick table) e.ticks) (each-next limit tick (kept tick table) e.ticks keeps h.0.ticks)) both.left));
      here = both.stay;
    }

pub sessions_right : (assets : List Asset) (limit : ℕ) (es : List RunEvent) → AreRunEvents assets limit es → Each (HasRightEvents limit) (sessions_of es)
sessions_right assets limit es h = let all = of_run assets limit es h in each-append (HasRightEvents limit) (gone_after es) (table_after es) all.gone (each-right limit (table_after es) all.here)
