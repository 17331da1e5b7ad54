-- The second half of an event of a session: what a packet of a side fixes, however the event ends.
use Rattle.std.proofs.Common.{◌≡◌, ℕ, ◌+◌, ◌-◌, ◌==◌, ◌≤◌, Bool, true, false, not, cond, ◌&&◌, List, [], ◌∷◌, length, ◌⊎◌, inl, inr, Option, Some, None, refl, sym, ap, ◌∙◌, subst, arith}
use Rattle.std.specs.Option.{option_or}
use Rattle.std.proofs.lemmas.Bool.{cases_Bool, false≢true}
use Rattle.cf_audit.specs.declared.CutReason.{CutReason}
use Rattle.cf_audit.specs.declared.CutReason.TheVariants as reason
use Rattle.cf_lane.specs.History.{ended_of, taken}
use Rattle.cf_leg.specs.Event.{Came, Ending, Greeting, LegEvent, Nothing, Packet, Unspoken, moment}
use Rattle.cf_leg.specs.Heard.{acked, answer_to, end_state, first_answer, has_opened, offers, open_answer, opened}
use Rattle.cf_leg.specs.LegValue.{IsLegOf, LegValue, Marks, marks}
use Rattle.cf_leg.specs.Segment.{has_ack, has_rst, has_syn}
use Rattle.cf_leg.specs.declared.EndState.{EndState}
use Rattle.cf_leg.specs.declared.Ends.{Ends}
use Rattle.cf_leg.specs.declared.LegAnswer.{LegAnswer}
use Rattle.cf_leg.specs.declared.LegAnswer.TheVariants as answer
use Rattle.cf_leg.specs.declared.Role.{Role}
use Rattle.cf_outq.specs.SendQueue.{IsQueueOf, Queue, queue_length}
use Rattle.cf_packet.specs.Packet.{PacketValue}
use Rattle.cf_rebuild.specs.ReceiveWindow.{IsWindowOf, Window, base_of}
use Rattle.cf_stream.proofs.Taken.{same_taken}
use Rattle.cf_stream.specs.FirstCopy.{IsTaken, Offer, first_copy}
use Rattle.cf_stream.specs.Stream.{Stream, letter_count}
use Rattle.cf_view.specs.declared.Side.{Side}
use Rattle.cf_view.specs.declared.Side.TheVariants as side
use Rattle.cf_session.proofs.Events.{before_history}
use Rattle.cf_session.proofs.Options.{later_same}
use Rattle.cf_session.specs.CutBy.{cut_by, reset_by}
use Rattle.cf_session.specs.Cuts.{is_reset, packet_cut, reset_cut, resets}
use Rattle.cf_lane.specs.Limit.{limit_by, limit_cut}
use Rattle.cf_session.specs.Event.{AreTaken, IsTick, came_controller}
use Rattle.cf_session.specs.Parts.{SessionValue}
use Rattle.cf_session.specs.Session.{Flow, SessionEvent, client_ends, clients, closed_at, controller_ends, controllers, has_room, history, is_closed, is_done, was_closed}
use Rattle.cf_session.specs.Told.{Told}
use Rattle.cf_session.specs.Turn.{HeardBy, came_first, came_greeted, ends_of, heard_event, heard_half, is_acknowledged, is_done_now, is_roomy, leg_in, legs_of, number_by}
use Rattle.cf_session.specs.Work.{Work}

-- ---- a greeting changes nothing that reads packets alone

pub hello_same : {X : Type 0} (F : Came → X) (f : Flow) (s : Side) (p : PacketValue) (given : LegAnswer) (n : ℕ) → ((q : PacketValue) → F (Greeting q) ≡ F Nothing) → F (came_greeted f (number_by s given n) (came_first s p)) ≡ F (came_first s p)
hello_same F f side.Client p given n h = refl
hello_same F f side.Controller p given n h = elim (cases_Bool (has_opened given)) [ inl b ↦ rw b (h _) | inr b ↦ rw b refl ]

-- the client was greeted as it is due, or not at all
abbrev pub Suits : Side → LegAnswer → ℕ → Option ℕ → Type 0
Suits s given n number = (number ≡ None) ⊎ (number ≡ number_by s given n)

pub hello_any : {X : Type 0} (F : Came → X) (f : Flow) (s : Side) (p : PacketValue) (given : LegAnswer) (n : ℕ) (number : Option ℕ) → Suits s given n number → ((q : PacketValue) → F (Greeting q) ≡ F Nothing) → F (came_greeted f number (came_first s p)) ≡ F (came_first s p)
hello_any F f s p given n number (inl e) h = ap (λ m. F (came_greeted f m (came_first s p))) e
hello_any F f s p given n number (inr e) h = ap (λ m. F (came_greeted f m (came_first s p))) e ∙ hello_same F f s p given n h

-- ---- numbers

-- why a full stream cuts a session in memory, if one is
abbrev pub full_of : SessionValue → Option CutReason
full_of s = limit_by s.limit (base_of s.client.window) (base_of s.controller.window) (queue_length s.to_client) (queue_length s.to_controller)

pub length_is : (q : Queue) (s : Stream) → IsQueueOf q s → queue_length q ≡ letter_count s
length_is q s h = ap (λ n. n + cond q.ended 1 0) h.pushed ∙ ap (λ b. length s.bytes + cond b 1 0) h.ended

all_acked : (a n : ℕ) → a ≤ n → ((n - a) == 0) ≡ (a == n)
all_acked a n h = grind arith

pub acknowledged_is : (q : Queue) (w : Stream) (a : ℕ) → IsQueueOf q w → q.acked ≡ a → is_acknowledged q ≡ is_done w a
acknowledged_is q w a h e =
    let below : q.acked ≤ letter_count w = (let x = h.acked in let y = h.sent in omega (arith, x, y)) in
    ap (λ b. b && ((queue_length q - q.acked) == 0)) h.ended
    ∙ ap (λ n. w.ended && ((n - q.acked) == 0)) (length_is q w h)
    ∙ ap (λ b. w.ended && b) (all_acked q.acked (letter_count w) below)
    ∙ ap (λ n. w.ended && (n == letter_count w)) e

pub window_ended : (w : Window) (os : List Offer) (t : Stream) → IsWindowOf w os → IsTaken (first_copy os) t → w.ended ≡ t.ended
window_ended w os t h g = h.ended ∙ ap (λ (s : Stream). s.ended) (same_taken (first_copy os) h.taken t h.is_taken g)

-- ---- an open leg does not open

not_opened : (a b c d e : Bool) (x : LegAnswer) → has_opened x ≡ false → has_opened (cond a x (cond b answer.Challenged (cond c answer.Ignored (cond d answer.Challenged (cond e answer.Challenged answer.Counted))))) ≡ false
not_opened true b c d e x h = h
not_opened false true c d e x h = refl
not_opened false false true d e x h = refl
not_opened false false false true e x h = refl
not_opened false false false false true x h = refl
not_opened false false false false false x h = refl

not_reset : (a b : Bool) → has_opened (cond a answer.Reset (cond b answer.Challenged answer.Ignored)) ≡ false
not_reset true b = refl
not_reset false true = refl
not_reset false false = refl

open_stays : (at : EndState) (p : PacketValue) → has_opened (open_answer at p) ≡ false
open_stays at p = not_opened (has_rst p) (has_syn p) (not (has_ack p)) _ _ _ (not_reset _ _)

by_open : (is_open : Bool) (at : EndState) (p : PacketValue) → has_opened (cond is_open (open_answer at p) (first_answer at p)) ≡ true → is_open ≡ false
by_open true at p h = absurd (false≢true (sym (open_stays at p) ∙ h))
by_open false at p h = refl

pub opens_once : (r : Role) (es : List LegEvent) (e : LegEvent) (p : PacketValue) → has_opened (answer_to (end_state r es e) p) ≡ true → opened r es ≡ false
opens_once r es e p h = by_open (opened r es) (end_state r es e) p h

-- ---- the event

-- a first half closes nothing
module _ (f : Flow) (es : List SessionEvent) (t : SessionEvent) (tick : IsTick f es t.client.tick t) where
  same_closed : is_closed f (t ∷ es) ≡ is_closed f es
  same_closed = rw (before_history es t tick.fed, tick.work, tick.client_came, tick.controller_came) refl

pub tick_closed : (f : Flow) (es : List SessionEvent) (t : SessionEvent) → IsTick f es t.client.tick t → closed_at f (t ∷ es) ≡ closed_at f es
tick_closed f [] t tick = ap (λ b. cond b (Some (moment t.client)) None) (same_closed f [] t tick)
tick_closed f (e0 ∷ es0) t tick =
    ap (λ b. option_or (closed_at f (e0 ∷ es0)) (cond b (Some (moment t.client)) None)) (same_closed f (e0 ∷ es0) t tick)
    ∙ later_same (closed_at f es0) (is_closed f (e0 ∷ es0)) (moment e0.client) (moment t.client)

only_none : (given : LegAnswer) (n : ℕ) (number : Option ℕ) → Suits side.Client given n number → number ≡ None
only_none given n number (inl e) = e
only_none given n number (inr e) = e

-- ---- what resets

reset_client : (b : Bool) → cond b (Some reason.ResetByClient) (cond false (Some reason.ResetByController) None) ≡ cond b (Some (reset_by side.Client)) None
reset_client true = refl
reset_client false = refl

pub resets_is : (f : Flow) (es : List SessionEvent) (t : SessionEvent) (s : Side) (p : PacketValue) (letters : Stream) (w : Work) (given : LegAnswer) (why : Option CutReason) (number : Option ℕ) → Suits s given p.seq number → (x y : Ending) →
    given ≡ answer_to (end_state (ends_of f s).role (legs_of s es) (leg_in s t)) p →
    reset_cut f es (heard_event t s letters w why (came_controller s p) (came_greeted f number (came_first s p)) x y) ≡ cond (is_reset given) (Some (reset_by s)) None
resets_is f es t side.Client p letters w given why number suits x y e =
    ap (λ m. reset_cut f es (heard_event t side.Client letters w why Nothing (came_greeted f m (Packet p)) x y)) (only_none given p.seq number suits)
    ∙ reset_client _ ∙ ap (λ a. cond (is_reset a) (Some (reset_by side.Client)) None) (sym e)
resets_is f es t side.Controller p letters w given why number suits x y e =
    ap (λ b. cond b (Some reason.ResetByClient) (cond (is_reset (answer_to (end_state (controller_ends f).role (controllers es) t.controller) p)) (Some reason.ResetByController) None))
    (hello_any (λ c. resets (client_ends f).role (clients es) (record t.client { came = c; ending = y }) c) f side.Controller p given p.seq number suits (λ q. refl))
    ∙ ap (λ a. cond (is_reset a) (Some (reset_by side.Controller)) None) (sym e)

module _ (f : Flow) (es : List SessionEvent) (t : SessionEvent) (s : Side) (p : PacketValue) (s1 : SessionValue) (given : LegAnswer) (cut : Option CutReason) (t0 t1 : Told) (h : HeardBy f es t s p s1 given cut t0 t1) where
  abbrev half : SessionEvent
  half = heard_half t s p h.letters h.work

  -- the event, whether the client was greeted in it or not
  abbrev pub ended_as : (why : Option CutReason) → Option ℕ → Ending → Ending → SessionEvent
  ended_as why number x y = heard_event t s h.letters h.work why (came_controller s p) (came_greeted f number (came_first s p)) x y

  module _ (why : Option CutReason) (number : Option ℕ) (suits : Suits s given p.seq number) (x y : Ending) where
    abbrev event : SessionEvent
    event = ended_as why number x y

    pub same_offers : offers (client_ends f).role (clients (event ∷ es)) ≡ offers (client_ends f).role (clients (half ∷ es))
    same_offers = hello_any (λ c. offers (client_ends f).role (record t.client { came = c; ending = Unspoken } ∷ clients es)) f s p given p.seq number suits (λ q. refl)

    pub same_acked : acked (client_ends f).role (clients (event ∷ es)) ≡ acked (client_ends f).role (clients (half ∷ es))
    same_acked = hello_any (λ c. acked (client_ends f).role (record t.client { came = c; ending = Unspoken } ∷ clients es)) f s p given p.seq number suits (λ q. refl)

    pub are_taken : AreTaken f (event ∷ es)
    are_taken = record {
      client = subst (λ os. IsTaken (first_copy os) (taken side.Client (history (event ∷ es)))) (sym same_offers) h.parts.taken.client;
      controller = h.parts.taken.controller;
    }

    -- ---- room

    acked_client : s1.to_client.acked ≡ acked (client_ends f).role (clients (half ∷ es))
    acked_client = subst (λ (n : Ends). s1.to_client.acked ≡ acked n.role (clients (half ∷ es))) h.parts.client.is h.parts.client.stands.of_acked

    acked_controller : s1.to_controller.acked ≡ acked (controller_ends f).role (controllers (half ∷ es))
    acked_controller = subst (λ (n : Ends). s1.to_controller.acked ≡ acked n.role (controllers (half ∷ es))) h.parts.controller.is h.parts.controller.stands.of_acked

    pub room_is : is_roomy s1 ≡ has_room f (event ∷ es)
    room_is =
        rw (length_is s1.to_client _ h.parts.to_client, length_is s1.to_controller _ h.parts.to_controller, acked_client, acked_controller, same_acked) refl

    -- ---- closing

    client_ended : s1.client.window.ended ≡ ended_of side.Client (history (event ∷ es))
    client_ended = window_ended s1.client.window _ (taken side.Client (history (half ∷ es))) h.parts.client.stands.of_window
        (subst (λ (n : Ends). IsTaken (first_copy (offers n.role (clients (half ∷ es)))) (taken side.Client (history (half ∷ es)))) (sym h.parts.client.is) h.parts.taken.client)

    controller_ended : s1.controller.window.ended ≡ ended_of side.Controller (history (event ∷ es))
    controller_ended = window_ended s1.controller.window _ (taken side.Controller (history (half ∷ es))) h.parts.controller.stands.of_window
        (subst (λ (n : Ends). IsTaken (first_copy (offers n.role (controllers (half ∷ es)))) (taken side.Controller (history (half ∷ es)))) (sym h.parts.controller.is) h.parts.taken.controller)

    pub done_is : is_done_now s1 ≡ is_closed f (event ∷ es)
    done_is =
        rw (
          client_ended,
          controller_ended,
          acknowledged_is s1.to_client h.work.to_client _ h.parts.to_client (acked_client ∙ sym same_acked),
          acknowledged_is s1.to_controller h.work.to_controller _ h.parts.to_controller acked_controller,
        ) refl

    -- ---- the cut

    module _ (law : (leg : LegValue) (m : Marks) (xs : List LegEvent) (st : Stream) → IsLegOf leg m xs → IsTaken (first_copy (offers leg.ends.role xs)) st → base_of leg.window ≡ letter_count st) where
      client_base : base_of s1.client.window ≡ letter_count (taken side.Client (history (event ∷ es)))
      client_base = law s1.client (marks s1.to_client) (clients (half ∷ es)) (taken side.Client (history (event ∷ es))) h.parts.client.stands
          (subst (λ (n : Ends). IsTaken (first_copy (offers n.role (clients (half ∷ es)))) (taken side.Client (history (half ∷ es)))) (sym h.parts.client.is) h.parts.taken.client)

      controller_base : base_of s1.controller.window ≡ letter_count (taken side.Controller (history (event ∷ es)))
      controller_base = law s1.controller (marks s1.to_controller) (controllers (half ∷ es)) (taken side.Controller (history (event ∷ es))) h.parts.controller.stands
          (subst (λ (n : Ends). IsTaken (first_copy (offers n.role (controllers (half ∷ es)))) (taken side.Controller (history (half ∷ es)))) (sym h.parts.controller.is) h.parts.taken.controller)

      full_is : (limit : ℕ) → limit_by limit (base_of s1.client.window) (base_of s1.controller.window) (queue_length s1.to_client) (queue_length s1.to_controller) ≡ limit_cut limit (history (event ∷ es)) h.work.to_client h.work.to_controller
      full_is limit =
          rw (client_base, controller_base, length_is s1.to_client _ h.parts.to_client, length_is s1.to_controller _ h.parts.to_controller) refl

      -- what the code tests is what cuts
      pub cut_is : (limit : ℕ) (closed : Bool) → closed ≡ was_closed f es →
          cut_by closed (is_reset given) s cut (limit_by limit (base_of s1.client.window) (base_of s1.controller.window) (queue_length s1.to_client) (queue_length s1.to_controller)) ≡ packet_cut f limit es event
      cut_is limit closed was =
          rw (was, full_is limit, resets_is f es t s p h.letters h.work given why number suits x y h.answer_is, h.cut_is) refl
