-- What the calls of a leg say, in the session's words.
use Rattle.std.proofs.Common.{◌≡◌, ℕ, Bool, true, false, not, ◌&&◌, List, [], ◌∷◌, cond, Option, refl, sym, ap, ◌∙◌, subst}
use Rattle.cf_leg.proofs.CutOffs.{cut_right}
use Rattle.cf_leg.specs.Calls.{Clocked, Spoken, rst_of}
use Rattle.cf_leg.specs.Emits.{IsRight, fired_at}
use Rattle.cf_leg.specs.Emitted.{with_segments}
use Rattle.cf_leg.specs.Event.{Cut, LegEvent, Spoke, Unspoken, begun, clocked, is_settled, moment, stream_after}
use Rattle.cf_leg.specs.LegValue.{IsLegOf, LegValue, Marks, marks}
use Rattle.cf_leg.specs.Timer.{clock_answer, fires}
use Rattle.cf_leg.specs.declared.ClockAnswer.{ClockAnswer}
use Rattle.cf_leg.specs.declared.ClockAnswer.TheVariants as clock
use Rattle.cf_leg.specs.declared.Ends.{Ends}
use Rattle.cf_leg.specs.declared.Role.{Role}
use Rattle.cf_outq.specs.SendQueue.{IsQueueOf, Queue}
use Rattle.cf_outside.specs.Desk.{SentValue}
use Rattle.cf_stream.specs.Stream.{Stream}
use Rattle.cf_session.proofs.Telling.{told_by}
use Rattle.cf_session.specs.CutBy.{is_no_answer}
use Rattle.cf_session.specs.Cuts.{gives_up}
use Rattle.cf_session.specs.Parts.{IsLegBetween, SessionValue}
use Rattle.cf_session.specs.Sent.{at}
use Rattle.cf_session.specs.Session.{Flow, client_ends, controller_ends}
use Rattle.cf_session.specs.Told.{Told, with_both}
use Rattle.cf_session.specs.Turn.{RightCuts}

-- ---- the clock

-- the law that an event may begin where the last one is over
abbrev pub EventsBegin : Type 0
EventsBegin = (leg : LegValue) (m : Marks) (tick : ℕ) (es : List LegEvent) → is_settled es ≡ true → IsLegOf leg m es → IsLegOf leg m (begun tick ∷ es)

answer_table : (a b d : Bool) → is_no_answer (cond (not a) clock.Quiet (cond (not b) clock.NoAnswer (cond d clock.Probed clock.Repeated))) ≡ (a && not b)
answer_table false b d = refl
answer_table true false d = refl
answer_table true true true = refl
answer_table true true false = refl

answer_gives : (r : Role) (es : List LegEvent) (e : LegEvent) → is_no_answer (clock_answer r es e) ≡ gives_up r es e
answer_gives r es e = answer_table (fires r es e) _ _

-- what a clock call of a leg answers, what it tells, and what stands after it
pub record TickedAs (ends : Ends) (es : List LegEvent) (now : ℕ) (given : ClockAnswer) (new : LegValue) (q : Queue) (old after : Told) : Type 0 where
  pub answer : is_no_answer given ≡ gives_up ends.role es (clocked now [])
  pub right : IsRight ends es (clocked now (fired_at ends es (clocked now [])))
  pub told : after ≡ with_both old (at now (fired_at ends es (clocked now []))) []
  pub stands : IsLegBetween ends new q (clocked now (fired_at ends es (clocked now [])) ∷ es)

pub ticked_as : {leg new : LegValue} {q q' : Queue} {given : ClockAnswer} {es : List LegEvent} {now : ℕ} {whole : Stream} (ends : Ends) (t0 t1 : Told) → Clocked now leg new q given t0.packets t1.packets → new.ends ≡ leg.ends → q' ≡ q → t1.lines ≡ t0.lines →
    IsLegBetween ends leg q es → is_settled es ≡ true → IsQueueOf q whole → stream_after es ≡ whole → TickedAs ends es now given new q' t0 t1
ticked_as {leg} {new} {q} {q'} {given} {es} {now} {whole} ends t0 t1 h same kept lines stands settled queue said =
    let own = subst (IsQueueOf q) (sym said) queue in
    let s = h.stands es settled stands.stands own in
    let right : IsRight ends es (clocked now h.outs) = subst (λ n. IsRight n es (clocked now h.outs)) (same ∙ stands.is) s.of_right.0 in
    let e : h.outs ≡ fired_at ends es (clocked now []) = right.fired in
    record {
      answer = ap is_no_answer (h.answer es settled stands.stands own) ∙ ap (λ (n : Ends). is_no_answer (clock_answer n.role es (clocked now h.outs))) stands.is
          ∙ answer_gives ends.role es (clocked now h.outs);
      right = subst (λ o. IsRight ends es (clocked now o)) e right;
      told = told_by t0 t1 now _ (h.packets ∙ ap (with_segments t0.packets now) e) lines;
      stands = record { is = same ∙ stands.is; stands = subst (λ x. IsLegOf new (marks x) (clocked now (fired_at ends es (clocked now [])) ∷ es)) (sym kept) (subst (λ o. IsLegOf new (marks q) (clocked now o ∷ es)) e s) };
    }

-- ---- a speech

pub spoken_of : (ends : Ends) (roomy : Bool) (now : ℕ) (leg new : LegValue) (q q' : Queue) (b a : Option (List SentValue)) (e : LegEvent) (es : List LegEvent) (whole : Stream) → (h : Spoken roomy now leg new q q' b a) → new.ends ≡ leg.ends → now ≡ moment e →
    IsLegBetween ends leg q (record e { ending = Unspoken } ∷ es) → IsQueueOf q whole → IsLegBetween ends new q' (record e { ending = Spoke whole roomy h.outs } ∷ es)
spoken_of ends roomy now leg new q q' b a e es whole h same at s queue = record { is = same ∙ s.is; stands = h.stands e es whole at s.stands queue }

-- the leg is right in its newest event
pub right_of : (ends : Ends) (leg : LegValue) (q : Queue) (e : LegEvent) (es : List LegEvent) → IsLegBetween ends leg q (e ∷ es) → IsRight ends es e
right_of ends leg q e es s = subst (λ n. IsRight n es e) s.is s.stands.of_right.0

-- ---- what a contract sees of the session that has the legs

pub controller_in : {s r : SessionValue} {ends : Ends} {es : List LegEvent} → s ≡ r → IsLegBetween ends r.controller r.to_controller es → IsLegBetween ends s.controller s.to_controller es
controller_in {s} {r} {ends} {es} same h = subst (λ (x : SessionValue). IsLegBetween ends x.controller x.to_controller es) (sym same) h

pub client_in : {s r : SessionValue} {ends : Ends} {es : List LegEvent} → s ≡ r → IsLegBetween ends r.client r.to_client es → IsLegBetween ends s.client s.to_client es
client_in {s} {r} {ends} {es} same h = subst (λ (x : SessionValue). IsLegBetween ends x.client x.to_client es) (sym same) h

-- ---- both are cut

abbrev pub rights_of : (f : Flow) (x y : LegEvent) (cs ds : List LegEvent) {leg leg' : LegValue} {q q' : Queue} → IsLegBetween (controller_ends f) leg q (record x { ending = Unspoken } ∷ cs) → IsLegBetween (client_ends f) leg' q' (record y { ending = Unspoken } ∷ ds) →
    RightCuts f cs ds x y
rights_of f x y cs ds {leg} {leg'} {q} {q'} lc ld = record {
  to_controller = rst_of leg q;
  controller_right = subst (λ n. IsRight n cs (record x { ending = Cut (rst_of leg q) })) lc.is (cut_right leg q x cs lc.stands);
  to_client = rst_of leg' q';
  client_right = subst (λ n. IsRight n ds (record y { ending = Cut (rst_of leg' q') })) ld.is (cut_right leg' q' y ds ld.stands);
}
