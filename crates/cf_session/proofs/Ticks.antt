-- The first half of an event of a session.
use Rattle.std.proofs.Common.{◌≡◌, ℕ, Bool, true, false, not, ◌&&◌, List, [], ◌∷◌, ◌++◌, cond, Option, Some, None, refl, sym, ap, ◌∙◌, subst, append_assoc, inl}
use Rattle.std.specs.Prelude.{nat_lt}
use Rattle.std.specs.Option.{is_some}
use Rattle.std.proofs.Math.Bool.{or-false}
use Rattle.std.proofs.lemmas.Bool.{false≢true}
use Rattle.std.proofs.lemmas.List.{append-nil}
use Rattle.cf_audit.specs.Line.{Cut as CutLine}
use Rattle.cf_audit.specs.declared.CutReason.{CutReason}
use Rattle.cf_audit.specs.declared.CutReason.TheVariants as reason
use Rattle.cf_lane.specs.History.{taken}
use Rattle.cf_leg.specs.Calls.{Clocked}
use Rattle.cf_leg.specs.Emits.{IsRight, fired_at, repeats}
use Rattle.cf_leg.specs.Event.{Cut, Ending, LegEvent, Unspoken, begun, clocked}
use Rattle.cf_leg.specs.Heard.{offers, opened}
use Rattle.cf_leg.specs.LegValue.{LegValue, marks}
use Rattle.cf_leg.specs.Timer.{fires, tries}
use Rattle.cf_leg.specs.Told.{greeting}
use Rattle.cf_leg.specs.declared.ClockAnswer.{ClockAnswer}
use Rattle.cf_leg.specs.declared.Ends.{Ends}
use Rattle.cf_outq.specs.SendQueue.{IsQueueOf, Queue}
use Rattle.cf_packet.specs.Packet.{PacketValue}
use Rattle.cf_stream.specs.FirstCopy.{IsTaken, first_copy}
use Rattle.cf_view.specs.declared.Side.{Side}
use Rattle.cf_view.specs.declared.Side.TheVariants as side
use Rattle.cf_session.proofs.Heards.{tick_closed}
use Rattle.cf_session.proofs.Legs.{EventsBegin, TickedAs, ticked_as}
use Rattle.cf_session.proofs.Options.{or_none}
use Rattle.cf_session.proofs.Telling.{at-append, then_sent, then_told}
use Rattle.cf_session.specs.Cuts.{clock_cut, gives_up}
use Rattle.cf_session.specs.Event.{AreRight, EndsTick, IsTick}
use Rattle.cf_session.specs.Parts.{IsLaneAfter, IsLegBetween, SessionValue}
use Rattle.cf_session.specs.Sent.{at, line, sent_first}
use Rattle.cf_session.specs.Session.{Flow, SessionEvent, client_ends, client_of, clients, closed_at, controller_ends, controllers, history, is_expired, is_past}
use Rattle.cf_session.specs.Stands.{IsSessionOf, Ticks, TicksBy, life_by}
use Rattle.cf_session.specs.Told.{Told, with_both}
use Rattle.cf_session.specs.Turn.{RightCuts}

-- ---- the clock calls

module _ {f : Flow} {es : List SessionEvent} {e : SessionEvent} {s : SessionValue} (stands : IsSessionOf f es e s) where
  pub unexpired : {over : Bool} (now : ℕ) → over ≡ is_past s.closed now → over ≡ false → is_expired f (e ∷ es) now ≡ false
  unexpired now asked below = ap (λ o. is_past o now) (sym stands.closed) ∙ sym asked ∙ below

  pub controller_ticks : {new : LegValue} {q : Queue} {given : ClockAnswer} {now : ℕ} (t0 t1 : Told) → Clocked now s.controller new s.to_controller given t0.packets t1.packets → new.ends ≡ s.controller.ends → q ≡ s.to_controller → t1.lines ≡ t0.lines →
      TickedAs (controller_ends f) (controllers (e ∷ es)) now given new q t0 t1
  controller_ticks t0 t1 h same kept lines = ticked_as (controller_ends f) t0 t1 h same kept lines stands.parts.controller stands.over.controller stands.parts.to_controller stands.over.to_controller

  pub client_ticks : {new : LegValue} {q : Queue} {given : ClockAnswer} {now : ℕ} (t0 t1 : Told) → Clocked now s.client new s.to_client given t0.packets t1.packets → new.ends ≡ s.client.ends → q ≡ s.to_client → t1.lines ≡ t0.lines →
      TickedAs (client_ends f) (clients (e ∷ es)) now given new q t0 t1
  client_ticks t0 t1 h same kept lines = ticked_as (client_ends f) t0 t1 h same kept lines stands.parts.client stands.over.client stands.parts.to_client stands.over.to_client

  pub client_begins : EventsBegin → (now : ℕ) → IsLegBetween (client_ends f) s.client s.to_client (begun now ∷ clients (e ∷ es))
  client_begins begin now = record { is = stands.parts.client.is; stands = begin s.client (marks s.to_client) now (clients (e ∷ es)) stands.over.client stands.parts.client.stands }

-- what each leg sends again at its clock call
abbrev pub controller_fires : Flow → List SessionEvent → SessionEvent → ℕ → List PacketValue
controller_fires f es e now = fired_at (controller_ends f) (controllers (e ∷ es)) (clocked now [])

abbrev pub client_fires : Flow → List SessionEvent → SessionEvent → ℕ → List PacketValue
client_fires f es e now = fired_at (client_ends f) (clients (e ∷ es)) (clocked now [])

-- ---- the event

module _ (f : Flow) (es : List SessionEvent) (e : SessionEvent) (now : ℕ) where
  -- the controller's leg had its clock call, and the client's had one or not
  abbrev pub tick_event : (fc fd : List PacketValue) (called : Bool) (x y : Ending) (cut : Option CutReason) → SessionEvent
  tick_event fc fd called x y cut = record {
    controller = record (clocked now fc) { ending = x };
    client = record (clocked now fd) { ticked = called; ending = y };
    fed = [];
    work = e.work;
    cut = cut;
  }

  is_tick : (fc fd : List PacketValue) (called : Bool) (x y : Ending) (cut : Option CutReason) → AreRight f (e ∷ es) (tick_event fc fd called x y cut) →
      called ≡ not (gives_up (controller_ends f).role (controllers (e ∷ es)) (clocked now [])) → cut ≡ clock_cut f (e ∷ es) (tick_event fc fd called x y cut) → EndsTick cut x → EndsTick cut y →
      IsTick f (e ∷ es) now (tick_event fc fd called x y cut)
  is_tick fc fd called x y cut right due why controller client = record {
    right = right;
    controller_tick = refl;
    client_tick = refl;
    controller_ticked = refl;
    client_ticked = due;
    controller_came = refl;
    client_came = refl;
    cut = why;
    controller_ending = controller;
    client_ending = client;
    fed = refl;
    work = refl;
  }

  abbrev pub ticking_at : List PacketValue → List PacketValue → SessionEvent
  ticking_at fc fd = record { controller = clocked now fc; client = clocked now fd; fed = []; work = e.work; cut = None }

  -- neither peer was silent for too long
  pub open_tick : gives_up (controller_ends f).role (controllers (e ∷ es)) (clocked now []) ≡ false → gives_up (client_ends f).role (clients (e ∷ es)) (clocked now []) ≡ false →
      (fc fd : List PacketValue) → IsRight (controller_ends f) (controllers (e ∷ es)) (clocked now fc) → IsRight (client_ends f) (clients (e ∷ es)) (clocked now fd) →
      IsTick f (e ∷ es) now (ticking_at fc fd)
  open_tick quiet silent fc fd right_c right_d =
      is_tick fc fd true Unspoken Unspoken None (record { controller = right_c; client = right_d }) (sym (ap not quiet))
      (sym (ap (λ a. cond a (Some (reason.NoAnswer side.Controller)) (cond (gives_up (client_ends f).role (clients (e ∷ es)) (clocked now [])) (Some (reason.NoAnswer side.Client)) None)) quiet
      ∙ ap (λ a. cond a (Some (reason.NoAnswer side.Client)) None) silent))
      refl refl

  module _ (s : SessionValue) (stands : IsSessionOf f es e s) (early : is_expired f (e ∷ es) now ≡ false)
      (quiet : gives_up (controller_ends f).role (controllers (e ∷ es)) (clocked now []) ≡ false) (silent : gives_up (client_ends f).role (clients (e ∷ es)) (clocked now []) ≡ false)
      (right_c : IsRight (controller_ends f) (controllers (e ∷ es)) (clocked now (fired_at (controller_ends f) (controllers (e ∷ es)) (clocked now []))))
      (right_d : IsRight (client_ends f) (clients (e ∷ es)) (clocked now (fired_at (client_ends f) (clients (e ∷ es)) (clocked now [])))) where
    abbrev fc_at : List PacketValue
    fc_at = fired_at (controller_ends f) (controllers (e ∷ es)) (clocked now [])

    abbrev fd_at : List PacketValue
    fd_at = fired_at (client_ends f) (clients (e ∷ es)) (clocked now [])

    pub live_tick : IsTick f (e ∷ es) now (ticking_at fc_at fd_at)
    live_tick = open_tick quiet silent fc_at fd_at right_c right_d

    pub live_told : (t0 t1 t2 : Told) → t1 ≡ with_both t0 (at now fc_at) [] → t2 ≡ with_both t1 (at now fd_at) [] → Ticks f (e ∷ es) now t0 t2 (ticking_at fc_at fd_at)
    live_told t0 t1 t2 a b = record {
      kept = early;
      is_tick = live_tick;
      told = rw (append-nil fc_at, append-nil fd_at) (then_sent t0 t1 t2 now fc_at fd_at a b);
    }

    pub live_stands : (client controller : LegValue) (to_client to_controller : Queue) →
        IsLegBetween (client_ends f) client to_client (clocked now fd_at ∷ clients (e ∷ es)) → IsLegBetween (controller_ends f) controller to_controller (clocked now fc_at ∷ controllers (e ∷ es)) →
        IsQueueOf to_client e.work.to_client → IsQueueOf to_controller e.work.to_controller → client.window ≡ s.client.window → controller.window ≡ s.controller.window →
        IsSessionOf f (e ∷ es) (ticking_at fc_at fd_at) (record s { client = client; controller = controller; to_client = to_client; to_controller = to_controller })
    live_stands client controller to_client to_controller lc ld qc qd wc wd =
        let same = sym (append-nil (history (e ∷ es))) in
        record {
          parts = record {
            client = lc;
            controller = ld;
            lane = subst (λ h. IsLaneAfter f.site (client_of f) s.lane (record { client = client.window.pending; controller = controller.window.pending }) h e.work) same
                (rw (wc, wd) stands.parts.lane);
            to_client = qc;
            to_controller = qd;
            taken = record {
              client = subst (λ h. IsTaken (first_copy (offers (client_ends f).role (clients (e ∷ es)))) (taken side.Client h)) same stands.parts.taken.client;
              controller = subst (λ h. IsTaken (first_copy (offers (controller_ends f).role (controllers (e ∷ es)))) (taken side.Controller h)) same stands.parts.taken.controller;
            };
          };
          events = (inl live_tick, stands.events);
          closed = stands.closed ∙ sym (tick_closed f (e ∷ es) (ticking_at fc_at fd_at) live_tick);
          going = refl;
          uncut = stands.uncut;
          source = stands.source;
          over = record { client = refl; controller = refl; to_client = stands.over.to_client; to_controller = stands.over.to_controller };
          greeted = ap is_some (or_none (greeting (clients (e ∷ es)))) ∙ stands.greeted ∙ sym (or-false (opened (controller_ends f).role (controllers (e ∷ es))));
        }

-- ---- a cut in the first half

none_fires : (a b : Bool) (ps : List PacketValue) → (a && not b) ≡ true → cond (a && b) ps [] ≡ []
none_fires true true ps e = absurd (false≢true e)
none_fires true false ps e = refl
none_fires false b ps e = absurd (false≢true e)

-- a leg that gives up sends nothing again
pub silent_fires : (ends : Ends) (es : List LegEvent) (now : ℕ) → gives_up ends.role es (clocked now []) ≡ true → fired_at ends es (clocked now []) ≡ []
silent_fires ends es now e = none_fires (fires ends.role es (clocked now [])) (nat_lt (tries ends.role es) 6) (repeats ends es) e

-- the peer of a side was silent for too long. The client's leg had its clock call or not, and sent nothing
pub record IsSilent (f : Flow) (es : List SessionEvent) (e : SessionEvent) (now : ℕ) (fd : List PacketValue) (called : Bool) (s : Side) : Type 0 where
  pub due : called ≡ not (gives_up (controller_ends f).role (controllers (e ∷ es)) (clocked now []))
  pub why : Some (reason.NoAnswer s) ≡ clock_cut f (e ∷ es) (tick_event f es e now [] fd called Unspoken Unspoken None)
  pub nothing : fd ≡ []

pub silent_controller : (f : Flow) (es : List SessionEvent) (e : SessionEvent) (now : ℕ) → gives_up (controller_ends f).role (controllers (e ∷ es)) (clocked now []) ≡ true →
    IsSilent f es e now [] false side.Controller
silent_controller f es e now h = record { due = rw h refl; why = rw h refl; nothing = refl }

pub silent_client : (f : Flow) (es : List SessionEvent) (e : SessionEvent) (now : ℕ) → gives_up (controller_ends f).role (controllers (e ∷ es)) (clocked now []) ≡ false →
    gives_up (client_ends f).role (clients (e ∷ es)) (clocked now []) ≡ true → IsSilent f es e now (client_fires f es e now) true side.Client
silent_client f es e now quiet h = record { due = rw quiet refl; why = rw (quiet, h) refl; nothing = silent_fires (client_ends f) (clients (e ∷ es)) now h }

-- what the clock calls sent and both RSTs, as they stand in the event
both_sent : (fc fd : List PacketValue) (p q : PacketValue) → fd ≡ [] → (fc ++ fd) ++ p ∷ q ∷ [] ≡ (fc ++ p ∷ []) ++ (fd ++ q ∷ [])
both_sent fc fd p q none = rw (none, append-nil fc) (sym (append_assoc fc (p ∷ []) (q ∷ [])))

pub and_nothing : (t0 t1 : Told) (now : ℕ) (ps : List PacketValue) → t1 ≡ with_both t0 (at now ps) [] → t1 ≡ with_both t0 (at now (ps ++ [])) []
and_nothing t0 t1 now ps h = rw (append-nil ps) h

module _ {f : Flow} {es : List SessionEvent} {e : SessionEvent} {now : ℕ} {fd : List PacketValue} {called : Bool} {s : Side} (silent : IsSilent f es e now fd called s)
    (early : is_expired f (e ∷ es) now ≡ false) (fc : List PacketValue) (cuts : RightCuts f (controllers (e ∷ es)) (clients (e ∷ es)) (clocked now fc) (record (clocked now fd) { ticked = called })) where
  abbrev pub silent_event : SessionEvent
  silent_event = tick_event f es e now fc fd called (Cut cuts.to_controller) (Cut cuts.to_client) (Some (reason.NoAnswer s))

  pub silent_tick : IsTick f (e ∷ es) now silent_event
  silent_tick = is_tick f es e now fc fd called (Cut cuts.to_controller) (Cut cuts.to_client) (Some (reason.NoAnswer s))
      (record { controller = cuts.controller_right; client = cuts.client_right }) silent.due silent.why (cuts.to_controller, refl) (cuts.to_client, refl)

  pub silent_sent : at now (fc ++ fd) ++ at now (cuts.to_controller ∷ cuts.to_client ∷ []) ≡ sent_first silent_event
  silent_sent = sym (at-append now (fc ++ fd) (cuts.to_controller ∷ cuts.to_client ∷ [])) ∙ ap (at now) (both_sent fc fd cuts.to_controller cuts.to_client silent.nothing)

  pub silent_ticks : (t0 t1 t2 : Told) → t1 ≡ with_both t0 (at now (fc ++ fd)) [] → t2 ≡ with_both t1 (at now (cuts.to_controller ∷ cuts.to_client ∷ [])) (line f now (CutLine (reason.NoAnswer s)) ∷ []) →
      Ticks f (e ∷ es) now t0 t2 silent_event
  silent_ticks t0 t1 t2 first told = record {
    kept = early;
    is_tick = silent_tick;
    told = then_told t0 t1 t2 _ _ [] _ first told ∙ ap (λ xs. with_both t0 xs (line f now (CutLine (reason.NoAnswer s)) ∷ [])) silent_sent;
  }

pub ticks_live : (f : Flow) (es : List SessionEvent) (now : ℕ) (y : SessionValue) (old new : Told) (closed : Option ℕ) → (t : SessionEvent) → Ticks f es now old new t → IsSessionOf f es t y →
    closed ≡ closed_at f (t ∷ es) → TicksBy f es now y old new (life_by closed)
ticks_live f es now y old new None t h s e = (t, h, record { stands = s; is_closed = sym (ap is_some e) })
ticks_live f es now y old new (Some m) t h s e = (t, h, record { stands = s; is_closed = sym (ap is_some e) })
