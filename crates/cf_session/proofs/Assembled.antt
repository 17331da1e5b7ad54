-- The second half of an event of a session, from what its steps did.
use Rattle.cf_session.proofs.Events.{not_first}
use Rattle.std.proofs.Common.{◌≡◌, ℕ, Bool, true, false, cond, ◌&&◌, ◌||◌, List, [], ◌∷◌, ◌++◌, length, drop, Option, Some, None, refl, sym, ap, ◌∙◌}
use Rattle.std.specs.Option.{is_some, option_or}
use Rattle.std.proofs.Math.Bool.{or-false}
use Rattle.std.proofs.Math.Seq.{drop-append_seam}
use Rattle.cf_audit.specs.declared.CutReason.{CutReason}
use Rattle.cf_leg.specs.Event.{Came, Ending, Greeting, LegEvent, Nothing, Spoke, Unspoken, greeted_by, is_idle}
use Rattle.cf_leg.specs.Heard.{answer_to, end_state, has_opened, opened, opening}
use Rattle.cf_leg.specs.Emits.{syn_ack_for}
use Rattle.cf_leg.specs.Told.{greeting, greeting_in, is_greeted}
use Rattle.cf_leg.specs.declared.LegAnswer.{LegAnswer}
use Rattle.cf_packet.specs.Packet.{PacketValue}
use Rattle.cf_view.specs.declared.Side.{Side}
use Rattle.cf_view.specs.declared.Side.TheVariants as side
use Rattle.cf_session.proofs.Heards.{opens_once}
use Rattle.cf_session.proofs.Options.{or_none}
use Rattle.cf_session.specs.Event.{AreEvents, EndsTick, IsTick, came_client, came_controller}
use Rattle.cf_session.specs.Parts.{SessionValue}
use Rattle.cf_session.specs.Sent.{first_line, late, new_lines}
use Rattle.cf_session.specs.Session.{Flow, SessionEvent, client_ends, clients, controller_ends, controllers, work_of}
use Rattle.cf_session.specs.Stands.{IsSessionOf}
use Rattle.cf_session.specs.Turn.{IsHalf, MayGreet, came_first, came_greeted, ends_of, greetings, leg_in, legs_of, number_by}
use Rattle.cf_session.specs.Work.{Work}

-- ---- the first half

by_none : (cut : Option CutReason) (ending : Ending) → cut ≡ None → EndsTick cut ending → ending ≡ Unspoken
by_none None ending e h = h
by_none (Some r) ending e h = cc

pub is_half : (f : Flow) (es : List SessionEvent) (t : SessionEvent) (s : SessionValue) → IsSessionOf f es t s → IsTick f es t.client.tick t → IsHalf t
is_half f es t s stands tick = record {
  controller_came = tick.controller_came;
  client_came = tick.client_came;
  controller_ending = by_none t.cut t.controller.ending stands.going tick.controller_ending;
  client_ending = by_none t.cut t.client.ending stands.going tick.client_ending;
  one_tick = tick.controller_tick;
  fed = tick.fed;
  uncut = stands.uncut;
}

-- ---- greeting

hello_due : (f : Flow) (n : ℕ) (b : Bool) → came_greeted f (cond b (Some n) None) Nothing ≡ cond (b && true) (Greeting (syn_ack_for (client_ends f) f.syn.seq n)) Nothing
hello_due f n true = refl
hello_due f n false = refl

pub came_due : (f : Flow) (es : List SessionEvent) (t : SessionEvent) (s : Side) (p : PacketValue) (given : LegAnswer) (x : Ending) → given ≡ answer_to (end_state (ends_of f s).role (legs_of s es) (leg_in s t)) p →
    came_greeted f (number_by s given p.seq) (came_first s p) ≡ came_client f s p (opening (controller_ends f).role (controllers es) (record t.controller { came = came_controller s p; ending = x }) && true)
came_due f es t side.Client p given x e = refl
came_due f es t side.Controller p given x e =
    hello_due f p.seq (has_opened given)
    ∙ ap (λ a. cond (has_opened a && true) (Greeting (syn_ack_for (client_ends f) f.syn.seq p.seq)) Nothing) e

no_hello : (f : Flow) (p : PacketValue) (b : Bool) → Nothing ≡ cond (b && false) (Greeting (syn_ack_for (client_ends f) f.syn.seq p.seq)) Nothing
no_hello f p true = refl
no_hello f p false = refl

pub came_cut : (f : Flow) (es : List SessionEvent) (t : SessionEvent) (s : Side) (p : PacketValue) (x : Ending) →
    came_first s p ≡ came_client f s p (opening (controller_ends f).role (controllers es) (record t.controller { came = came_controller s p; ending = x }) && false)
came_cut f es t side.Client p x = refl
came_cut f es t side.Controller p x = no_hello f p _

-- before the first half came, the client was greeted exactly where the controller's leg had opened
pub greeted_before : (f : Flow) (es : List SessionEvent) (t : SessionEvent) → IsHalf t → is_greeted (clients (t ∷ es)) ≡ opened (controller_ends f).role (controllers (t ∷ es)) → is_greeted (clients es) ≡ opened (controller_ends f).role (controllers es)
greeted_before f es t half h =
    sym (ap is_some (ap (λ (c : Came). greeting (record t.client { came = c } ∷ clients es)) half.client_came ∙ or_none (greeting (clients es))))
    ∙ h ∙ ap (λ (c : Came). opened (controller_ends f).role (record t.controller { came = c } ∷ controllers es)) half.controller_came ∙ or-false (opened (controller_ends f).role (controllers es))

may_none : (n : ℕ) (b : Bool) (d : LegEvent) (ds : List LegEvent) → d.came ≡ Nothing → (b ≡ true → is_greeted ds ≡ false) → MayGreet (cond b (Some n) None) d ds
may_none n true d ds none h = (none, h refl)
may_none n false d ds none h = tt

pub may_greet : (f : Flow) (es : List SessionEvent) (t : SessionEvent) (s : Side) (p : PacketValue) (given : LegAnswer) → given ≡ answer_to (end_state (ends_of f s).role (legs_of s es) (leg_in s t)) p →
    is_greeted (clients es) ≡ opened (controller_ends f).role (controllers es) → MayGreet (number_by s given p.seq) (record t.client { came = came_first s p; ending = Unspoken }) (clients es)
may_greet f es t side.Client p given e same = tt
may_greet f es t side.Controller p given e same =
    may_none p.seq (has_opened given) (record t.client { came = Nothing; ending = Unspoken }) (clients es) refl
    (λ b. same ∙ opens_once (controller_ends f).role (controllers es) t.controller p (ap has_opened (sym e) ∙ b))

hello_greets : (f : Flow) (n : ℕ) (o : Option PacketValue) (b : Bool) → is_some (option_or o (greeting_in (came_greeted f (cond b (Some n) None) Nothing))) ≡ (is_some o || b)
hello_greets f n None true = refl
hello_greets f n None false = refl
hello_greets f n (Some q) true = refl
hello_greets f n (Some q) false = refl

packet_greets : (o : Option PacketValue) → is_some (option_or o None) ≡ is_some o
packet_greets o = ap is_some (or_none o)

pub greeted_after : (f : Flow) (es : List SessionEvent) (t : SessionEvent) (s : Side) (p : PacketValue) (given : LegAnswer) (x y : Ending) → given ≡ answer_to (end_state (ends_of f s).role (legs_of s es) (leg_in s t)) p →
    is_greeted (clients es) ≡ opened (controller_ends f).role (controllers es) →
    is_greeted (record t.client { came = came_greeted f (number_by s given p.seq) (came_first s p); ending = y } ∷ clients es)
    ≡ opened (controller_ends f).role (record t.controller { came = came_controller s p; ending = x } ∷ controllers es)
greeted_after f es t side.Client p given x y e same = packet_greets (greeting (clients es)) ∙ same ∙ sym (or-false (opened (controller_ends f).role (controllers es)))
greeted_after f es t side.Controller p given x y e same =
    hello_greets f p.seq (greeting (clients es)) (has_opened given)
    ∙ ap (λ b. b || has_opened given) same
    ∙ ap (λ a. opened (controller_ends f).role (controllers es) || has_opened a) e

-- ---- what went out

none_said : (s : Side) (p : PacketValue) → greeted_by (came_controller s p) ≡ []
none_said side.Client p = refl
none_said side.Controller p = refl

said_by_bool : (f : Flow) (n : ℕ) (b : Bool) → greeted_by (came_greeted f (cond b (Some n) None) Nothing) ≡ greetings f (cond b (Some n) None)
said_by_bool f n true = refl
said_by_bool f n false = refl

hello_said : (f : Flow) (s : Side) (p : PacketValue) (given : LegAnswer) (n : ℕ) → greeted_by (came_greeted f (number_by s given n) (came_first s p)) ≡ greetings f (number_by s given n)
hello_said f side.Client p given n = refl
hello_said f side.Controller p given n = said_by_bool f n (has_opened given)

pub sent_is : (f : Flow) (t : SessionEvent) (s : Side) (p : PacketValue) (given : LegAnswer) (w v : _) (roomy : Bool) (outs_c outs_d : List PacketValue) →
    (outs_c ++ (greetings f (number_by s given p.seq) ++ outs_d))
    ≡ (late false (record t.controller { came = came_controller s p; ending = Spoke v roomy outs_c }) ++ late false (record t.client { came = came_greeted f (number_by s given p.seq) (came_first s p); ending = Spoke w roomy outs_d }))
sent_is f t s p given w v roomy outs_c outs_d =
    ap (λ xs. (xs ++ outs_c) ++ (greetings f (number_by s given p.seq) ++ outs_d)) (sym (none_said s p))
    ∙ ap (λ xs. (greeted_by (came_controller s p) ++ outs_c) ++ (xs ++ outs_d)) (sym (hello_said f s p given p.seq))

-- the RSTs of a cut of this half
first_said : (s : Side) (p : PacketValue) → greeted_by (came_first s p) ≡ []
first_said side.Client p = refl
first_said side.Controller p = refl

pub rsts_are : (t : SessionEvent) (s : Side) (p a b : PacketValue) → (greeted_by (came_controller s p) ++ a ∷ []) ++ (greeted_by (came_first s p) ++ b ∷ []) ≡ a ∷ b ∷ []
rsts_are t s p a b =
    ap (λ xs. (xs ++ a ∷ []) ++ (greeted_by (came_first s p) ++ b ∷ [])) (none_said s p)
    ∙ ap (λ xs. (a ∷ []) ++ (xs ++ b ∷ [])) (first_said s p)

-- ---- lines

-- an event with a packet is not the first
later_line : (f : Flow) (limit : ℕ) (es : List SessionEvent) (t e : SessionEvent) → AreEvents f limit (t ∷ es) → IsTick f es t.client.tick t → first_line f es e ≡ []
later_line f limit [] t e are tick = absurd (not_first t.controller.came _ tick.controller_came (ap (λ (x : LegEvent). x.came) are.0.controller))
later_line f limit (e0 ∷ es) t e are tick = refl

new_is : (w v : Work) (lines : List (List ℕ)) → v.log ≡ w.log ++ lines → drop (length w.log) v.log ≡ lines
new_is w v lines e = ap (drop (length w.log)) e ∙ drop-append_seam w.log lines

-- the lines of an event with a packet
pub lines_by : (f : Flow) (limit : ℕ) (es : List SessionEvent) (t e : SessionEvent) (w : Work) (lines : List (List ℕ)) → AreEvents f limit (t ∷ es) → IsTick f es t.client.tick t → e.work ≡ w → w.log ≡ t.work.log ++ lines →
    first_line f es e ++ new_lines es e ≡ lines
lines_by f limit es t e w lines are tick same log =
    ap (λ xs. xs ++ new_lines es e) (later_line f limit es t e are tick) ∙ ap (λ (v : Work). drop (length (work_of es).log) v.log) same
    ∙ new_is (work_of es) w lines (log ∙ ap (λ (v : Work). v.log ++ lines) tick.work)

-- a packet came
pub has_packet : (f : Flow) (s : Side) (p : PacketValue) (number : Option ℕ) → (is_idle (came_controller s p) && is_idle (came_greeted f number (came_first s p))) ≡ false
has_packet f side.Client p None = refl
has_packet f side.Client p (Some n) = refl
has_packet f side.Controller p number = refl
