-- The first half of an event of a session, where the desk failed amid it.
use Rattle.std.proofs.Common.{◌≡◌, ℕ, Bool, true, false, List, [], ◌∷◌, ◌++◌, cond, refl, sym, ap, ◌∙◌, subst, append_assoc, inl, inr}
use Rattle.std.proofs.lemmas.Bool.{cases_Bool}
use Rattle.std.proofs.lemmas.List.{append-nil}
use Rattle.cf_audit.specs.declared.CutReason.TheVariants as reason
use Rattle.cf_lane.specs.History.{taken}
use Rattle.cf_leg.specs.Calls.{ClockBreaks}
use Rattle.cf_leg.specs.Emits.{IsRight, fired_at}
use Rattle.cf_leg.specs.Event.{LegEvent, clocked, said_by}
use Rattle.cf_leg.specs.declared.Ends.{Ends}
use Rattle.cf_outq.specs.SendQueue.{IsQueueOf}
use Rattle.cf_outside.specs.Desk.{DeskValue}
use Rattle.cf_packet.specs.Packet.{PacketValue}
use Rattle.cf_view.specs.declared.Side.{Side}
use Rattle.cf_view.specs.declared.Side.TheVariants as side
use Rattle.cf_session.proofs.Able.{can_cut, can_fire}
use Rattle.cf_session.proofs.Amid.{amid_after, amid_as, amid_before, amid_sent}
use Rattle.cf_session.proofs.Telling.{at-append}
use Rattle.cf_session.proofs.Ticks.{IsSilent, client_fires, controller_fires, live_tick, open_tick, silent_client, silent_controller, silent_event, silent_fires, silent_sent, silent_tick, ticking_at}
use Rattle.cf_outside.specs.Frames.{EmitsAndLogs, OnlyEmits}
use Rattle.cf_session.specs.Broken.{BreaksTick}
use Rattle.cf_session.specs.Cuts.{gives_up}
use Rattle.cf_session.specs.Event.{AreTaken, IsTick}
use Rattle.cf_session.specs.Parts.{SessionValue}
use Rattle.cf_session.specs.Sent.{at, early, is_first_half, logged_first, sent_first}
use Rattle.cf_session.specs.Session.{Flow, SessionEvent, client_ends, clients, controller_ends, controllers, history, is_expired}
use Rattle.cf_session.specs.Stands.{AreOver, IsSessionOf}
use Rattle.cf_session.specs.Told.{told, with_both}
use Rattle.cf_session.specs.Turn.{CutsBoth, RightCuts}

-- what fires is fixed by the moment of the clock call
fired_same : (ends : Ends) (es : List LegEvent) (e : LegEvent) (now : ℕ) → e.ticked ≡ true → e.tick ≡ now → e.fired ≡ fired_at ends es e → e.fired ≡ fired_at ends es (clocked now [])
fired_same ends es e now ticked tick right = right ∙ (let same : fired_at ends es e ≡ fired_at ends es (clocked now []) = rw (ticked, tick) refl in same)

-- a leg that sends something does not give up
sends_on : (ends : Ends) (es : List LegEvent) (now : ℕ) (p : PacketValue) → p ∷ [] ≡ fired_at ends es (clocked now []) → gives_up ends.role es (clocked now []) ≡ false
sends_on ends es now p e = elim (cases_Bool (gives_up ends.role es (clocked now []))) [
  | inl silent ↦ (let none : p ∷ [] ≡ [] = e ∙ silent_fires ends es now silent in cc)
  | inr sends ↦ sends
]

module _ (f : Flow) (es : List SessionEvent) (e : SessionEvent) (now : ℕ) where
  abbrev fc : List PacketValue
  fc = controller_fires f es e now

  abbrev fd : List PacketValue
  fd = client_fires f es e now

  right_c : AreOver es e → IsRight (controller_ends f) (controllers (e ∷ es)) (clocked now fc)
  right_c over = can_fire (controller_ends f) (controllers (e ∷ es)) now over.controller

  right_d : AreOver es e → IsRight (client_ends f) (clients (e ∷ es)) (clocked now fd)
  right_d over = can_fire (client_ends f) (clients (e ∷ es)) now over.client

  -- ---- there is a first half, whatever the moment

  module _ (over : AreOver es e) (done : AreTaken f (e ∷ es)) (unexpired : is_expired f (e ∷ es) now ≡ false) where
    can_be_cut : (fired : List PacketValue) (called : Bool) → IsRight (client_ends f) (clients (e ∷ es)) (record (clocked now fired) { ticked = called }) →
        RightCuts f (controllers (e ∷ es)) (clients (e ∷ es)) (clocked now fc) (record (clocked now fired) { ticked = called })
    can_be_cut fired called right =
        let x = record (clocked now fired) { ticked = called } in
        let c = can_cut (controller_ends f).own (controller_ends f).peer (controller_ends f).role (controllers (e ∷ es)) (clocked now fc) (taken side.Controller (history (e ∷ es))) (right_c over) done.controller in
        let d = can_cut (client_ends f).own (client_ends f).peer (client_ends f).role (clients (e ∷ es)) x (taken side.Client (history (e ∷ es))) right done.client in
        record { to_controller = c.0; controller_right = c.1; to_client = d.0; client_right = d.1 }

    tick_by : (a b : Bool) → gives_up (controller_ends f).role (controllers (e ∷ es)) (clocked now []) ≡ a → gives_up (client_ends f).role (clients (e ∷ es)) (clocked now []) ≡ b →
        (t : SessionEvent) × IsTick f (e ∷ es) now t
    tick_by true b silent _ =
        (_, silent_tick (silent_controller f es e now silent) unexpired fc (can_be_cut [] false (record { over = over.client; fired = refl; came = tt; ending = tt })))
    tick_by false true quiet silent = (_, silent_tick (silent_client f es e now quiet silent) unexpired fc (can_be_cut fd true (right_d over)))
    tick_by false false quiet silent = (_, open_tick f es e now quiet silent fc fd (right_c over) (right_d over))

    pub has_tick : (t : SessionEvent) × IsTick f (e ∷ es) now t
    has_tick = tick_by _ _ refl refl

  -- ---- a session in memory whose desk failed amid it

  module _ (s : SessionValue) (stands : IsSessionOf f es e s) (unexpired : is_expired f (e ∷ es) now ≡ false) where
    -- what it sends begins with what the controller's clock call sends
    sends_first : (t : SessionEvent) → IsTick f (e ∷ es) now t → sent_first t ≡ at now fc ++ at now (cond (is_first_half t) (said_by t.controller.ending) [] ++ early (is_first_half t) t.client)
    sends_first t tick =
        let x = cond (is_first_half t) (said_by t.controller.ending) [] in
        let y = early (is_first_half t) t.client in
        ap (λ n. at n ((t.controller.fired ++ x) ++ y)) tick.client_tick
        ∙ ap (λ ps. at now ((ps ++ x) ++ y)) (fired_same (controller_ends f) (controllers (e ∷ es)) t.controller now tick.controller_ticked tick.controller_tick tick.right.controller.fired)
        ∙ ap (at now) (append_assoc fc x y) ∙ at-append now fc (x ++ y)

    module _ (old mid new : DeskValue) where
      -- the clock call of the controller's leg failed
      pub controller_failed : {failed : Bool} → ClockBreaks now s.controller s.to_controller old new → OnlyEmits old new failed → BreaksTick f (e ∷ es) now old new
      controller_failed h sends =
          let t = has_tick stands.over stands.parts.taken unexpired in
          let queue = subst (IsQueueOf s.to_controller) (sym stands.over.to_controller) stands.parts.to_controller in
          let right = subst (λ n. IsRight n (controllers (e ∷ es)) (clocked now (h.out ∷ []))) stands.parts.controller.is (h.right _ stands.over.controller stands.parts.controller.stands queue) in
          let rest = at now (cond (is_first_half t.0) (said_by t.0.controller.ending) [] ++ early (is_first_half t.0) t.0.client) in
          record {
            event = t.0;
            kept = unexpired;
            is_tick = t.1;
            amid = amid_as (at now (h.out ∷ []) ++ rest) (sent_first t.0) ([] ++ logged_first f t.0) (logged_first f t.0) old new
                (ap (λ ps. at now ps ++ rest) right.fired ∙ sym (sends_first t.0 t.1)) refl
                (amid_before (at now (h.out ∷ [])) rest [] (logged_first f t.0) old new (amid_sent now (h.out ∷ []) old new h.breaks sends));
          }

      -- the clock call of the client's leg failed
      pub client_failed : {failed : Bool} → told mid ≡ with_both (told old) (at now fc) [] → EmitsAndLogs old mid false → gives_up (controller_ends f).role (controllers (e ∷ es)) (clocked now []) ≡ false →
          ClockBreaks now s.client s.to_client mid new → OnlyEmits mid new failed → BreaksTick f (e ∷ es) now old new
      client_failed first frame quiet h sends =
          let queue = subst (IsQueueOf s.to_client) (sym stands.over.to_client) stands.parts.to_client in
          let right = subst (λ n. IsRight n (clients (e ∷ es)) (clocked now (h.out ∷ []))) stands.parts.client.is (h.right _ stands.over.client stands.parts.client.stands queue) in
          let silent = sends_on (client_ends f) (clients (e ∷ es)) now h.out right.fired in
          record {
            event = ticking_at f es e now fc fd;
            kept = unexpired;
            is_tick = live_tick f es e now s stands unexpired quiet silent (right_c stands.over) (right_d stands.over);
            amid = amid_as (at now fc ++ at now (h.out ∷ [])) (sent_first (ticking_at f es e now fc fd)) _ _ old new
                (sym (at-append now fc (h.out ∷ [])) ∙ rw (append-nil fc, append-nil fd) (ap (λ ps. at now (fc ++ ps)) right.fired)) refl
                (amid_after (at now fc) (at now (h.out ∷ [])) [] [] old mid new first frame (amid_sent now (h.out ∷ []) mid new h.breaks sends));
          }

-- a peer was silent for too long, and the cut failed
pub silent_cut_failed : {f : Flow} {es : List SessionEvent} {e : SessionEvent} {now : ℕ} {fd : List PacketValue} {called : Bool} {s : Side} → IsSilent f es e now fd called s →
    is_expired f (e ∷ es) now ≡ false → (fc : List PacketValue) (old mid new : DeskValue) → told mid ≡ with_both (told old) (at now (fc ++ fd)) [] → EmitsAndLogs old mid false →
    CutsBoth f (controllers (e ∷ es)) (clients (e ∷ es)) (clocked now fc) (record (clocked now fd) { ticked = called }) now (reason.NoAnswer s) mid new true → BreaksTick f (e ∷ es) now old new
silent_cut_failed silent unexpired fc old mid new first frame h = record {
  event = silent_event silent unexpired fc h.rsts;
  kept = unexpired;
  is_tick = silent_tick silent unexpired fc h.rsts;
  amid = amid_as _ _ _ _ old new (silent_sent silent unexpired fc h.rsts) refl (amid_after _ _ [] _ old mid new first frame h.gets);
}
