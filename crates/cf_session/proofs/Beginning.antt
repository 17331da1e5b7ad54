-- The beginning of a session.
use Rattle.std.proofs.Common.{◌≡◌, ℕ, ◌+◌, ◌-◌, ◌≤◌, true, false, List, [], ◌∷◌, None, refl, sym, ap, ◌∙◌, subst, arith}
use Rattle.std.proofs.lemmas.Bool.{false≢true}
use Rattle.std.proofs.lemmas.List.{nil_from_length}
use Rattle.cf_audit.specs.Line.{Begun}
use Rattle.cf_leg.specs.Calls.{Greeted, Spoken, Widens, greeting_by, window_by}
use Rattle.cf_leg.specs.Emits.{IsGreeting, IsRight, syn}
use Rattle.cf_leg.specs.Emitted.{with_segments}
use Rattle.cf_leg.specs.Event.{Greeting, LegEvent, Spoke, begun}
use Rattle.cf_leg.specs.LegValue.{IsLegOf, LegValue, marks}
use Rattle.cf_leg.specs.declared.Ends.{Ends}
use Rattle.cf_leg.specs.declared.Role.{Role}
use Rattle.cf_leg.specs.declared.Role.TheVariants as role
use Rattle.cf_outq.specs.SendQueue.{IsQueueOf, Queue}
use Rattle.cf_outside.specs.Desk.{DeskValue}
use Rattle.cf_packet.specs.Packet.{PacketValue}
use Rattle.cf_rebuild.specs.ReceiveWindow.{Window, base_of}
use Rattle.cf_stream.specs.FirstCopy.{IsTaken, first_copy}
use Rattle.cf_stream.specs.Stream.{no_letters}
use Rattle.cf_session.proofs.Legs.{EventsBegin}
use Rattle.cf_session.proofs.Telling.{then_told, told_sent}
use Rattle.cf_session.specs.Event.{IsBeginning}
use Rattle.cf_session.specs.Parts.{IsLaneAfter, IsLegBetween, SessionValue}
use Rattle.cf_session.specs.Sent.{at, line}
use Rattle.cf_session.specs.Session.{Flow, SessionEvent, client_ends, client_of, controller_ends}
use Rattle.cf_session.specs.Stands.{Begins}
use Rattle.cf_session.specs.Told.{Told, told, with_both}
use Rattle.cf_session.specs.Turn.{IsMade}
use Rattle.cf_session.specs.Work.{no_work}

-- the event of the controller's leg
abbrev first_event : Ends → ℕ → ℕ → LegEvent
first_event ends number tick = record (begun tick) { came = Greeting (syn ends number); ending = Spoke no_letters true [] }

-- the moment of a beginning is one after its tick
pub moment_later : (now : ℕ) → 1 ≤ now → now ≡ (now - 1) + 1
moment_later now h = omega (arith, h)

pub record FirstSaid (ends : Ends) (number tick : ℕ) (leg : LegValue) (q : Queue) (old new : Told) : Type 0 where
  pub stands : IsLegBetween ends leg q (first_event ends number tick ∷ [])
  pub told : new ≡ with_both old (at (tick + 1) (syn ends number ∷ [])) []

pub first_said : {now : ℕ} {c c1 c2 : LegValue} {q q2 : Queue} (begin : EventsBegin) (ends : Ends) (number tick : ℕ) (d0 d1 d2 : DeskValue) → now ≡ tick + 1 → ends.role ≡ role.Active number → IsLegBetween ends c q [] → IsQueueOf q no_letters →
    Greeted now number c c1 d0 d1 false → Spoken true now c1 c2 q q2 d1.packets d2.packets → c1.ends ≡ c.ends → c2.ends ≡ c1.ends → d1.lines ≡ d0.lines → d2.lines ≡ d1.lines → FirstSaid ends number tick c2 q2 (told d0) (told d2)
first_said {now} {c} {c1} {c2} {q} {q2} begin ends number tick d0 d1 d2 later role s queue greeted spoken e1 e2 l1 l2 =
    let g = subst (λ n. Greeted n number c c1 d0 d1 false) later greeted in
    let p = subst (λ n. Spoken true n c1 c2 q q2 d1.packets d2.packets) later spoken in
    let first = g.stands (marks q) (begun tick) [] refl (begin c (marks q) tick [] refl s.stands) in
    let last = p.stands (record (begun tick) { came = Greeting (greeting_by c number) }) [] no_letters refl first queue in
    let is = e2 ∙ e1 ∙ s.is in
    let right = subst (λ n. IsRight n [] (record (begun tick) { came = Greeting (greeting_by c number); ending = Spoke no_letters true p.outs })) is last.of_right.0 in
    let out : greeting_by c number ≡ syn ends number = subst (λ r. IsGreeting ends r (greeting_by c number)) role right.came.0 in
    let none : p.outs ≡ [] = right.ending in
    let P : PacketValue → List PacketValue → Type 0 = λ x xs. IsLegOf c2 (marks q2) (record (begun tick) { came = Greeting x; ending = Spoke no_letters true xs } ∷ []) in
    let packets = p.packets ∙ ap (with_segments d1.packets (tick + 1)) none ∙ g.gets ∙ ap (λ x. with_segments d0.packets (tick + 1) (x ∷ [])) out in
    record {
      stands = record { is = is; stands = subst (λ x. P x []) out (subst (P (greeting_by c number)) none last) };
      told = told_sent d0 d2 (tick + 1) (syn ends number ∷ []) packets (l2 ∙ l1);
    }

window_of : (r : Role) (w : Window) → (window_by r w).pending ≡ w.pending
window_of (role.Active n) w = refl
window_of (role.Passive n m) w = refl

pub still_pending : (r : Role) (w v x : Window) → v ≡ window_by r w → Widens true v x → x.pending ≡ w.pending
still_pending r w v x e h = ap (λ (y : Window). y.pending) h.same ∙ ap (λ (y : Window). y.pending) e ∙ window_of r w

pub none_taken : IsTaken (first_copy []) no_letters
none_taken = record { bytes = λ p l. absurd (omega (arith, l)); ended = λ e. absurd (false≢true e); unfinished = λ e. refl }

no_pending : (w : Window) → base_of w ≡ 0 → w.pending ≡ []
no_pending w e = nil_from_length w.pending (omega (arith, e))

-- the event of the beginning
module _ (f : Flow) (tick : ℕ) where
  abbrev pub the_first : SessionEvent
  the_first = record { controller = first_event (controller_ends f) f.syn.seq tick; client = begun tick; fed = []; work = no_work; cut = None }

  pub is_first : IsBeginning f tick the_first
  is_first = record {
    right = record {
      controller = record { over = refl; fired = refl; came = (refl, refl); ending = refl };
      client = record { over = refl; fired = refl; came = tt; ending = tt };
    };
    controller = refl;
    client = refl;
    fed = refl;
    work = refl;
    cut = refl;
  }

module _ (begin : EventsBegin) (f : Flow) (tick : ℕ) (s : SessionValue) (m : IsMade f s) (c2 : LegValue) (q2 : Queue) (t0 t1 t2 : Told)
    (stands : IsLegBetween (controller_ends f) c2 q2 (first_event (controller_ends f) f.syn.seq tick ∷ []))
    (same : c2.window.pending ≡ s.controller.window.pending) (list : IsQueueOf q2 no_letters)
    (sent : t1 ≡ with_both t0 (at (tick + 1) (syn (controller_ends f) f.syn.seq ∷ [])) []) (put : t2 ≡ with_both t1 [] (line f (tick + 1) Begun ∷ [])) where
  client_first : IsLegBetween (client_ends f) s.client s.to_client (begun tick ∷ [])
  client_first = record { is = m.client.is; stands = begin _ _ tick [] refl m.client.stands }

  pub begins_of : Begins f tick (record s { controller = c2; to_controller = q2 }) t0 t2
  begins_of = record {
    event = the_first f tick;
    is_beginning = is_first f tick;
    told = then_told t0 t1 t2 (at (tick + 1) (syn (controller_ends f) f.syn.seq ∷ [])) [] [] (line f (tick + 1) Begun ∷ []) sent put;
    stands = record {
      parts = record {
        client = client_first;
        controller = stands;
        lane = subst (λ xs. IsLaneAfter f.site (client_of f) s.lane (record { client = xs; controller = c2.window.pending }) [] no_work) (sym (no_pending s.client.window m.client_base))
            (subst (λ xs. IsLaneAfter f.site (client_of f) s.lane (record { client = []; controller = xs }) [] no_work) (sym (same ∙ no_pending s.controller.window m.controller_base)) m.lane);
        to_client = m.client_list;
        to_controller = list;
        taken = record { client = none_taken; controller = none_taken };
      };
      events = (is_first f tick, tt);
      closed = m.closed;
      going = refl;
      uncut = refl;
      source = m.source;
      over = record { client = refl; controller = refl; to_client = refl; to_controller = refl };
      greeted = refl;
    };
  }
