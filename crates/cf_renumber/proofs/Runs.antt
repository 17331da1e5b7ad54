-- Lists of calls.
use Rattle.std.proofs.Common.{◌≡◌, ℕ, ◌%◌, Bool, List, [], ◌∷◌, Option, Some, None, Result, Ok, Err}
use Rattle.std.specs.Prelude.{MatchResult, IfOk}
use Rattle.cf_view.specs.declared.Side.{Side}
use Rattle.cf_renumber.specs.declared.answer.Stamp.{Stamp}
use Rattle.cf_renumber.specs.declared.answer.RefusedStamp.{RefusedStamp}
use Rattle.cf_renumber.specs.declared.answer.NumberRefusal.{NumberRefusal}
use Rattle.cf_renumber.specs.Counts.{NumberEvent, Admitted, Refused, ClientAck, Carried, ControllerAck, client_refusal, client_ack_refusal, controller_refusal, controller_ack_refusal, admitted_stamp, refused_stamp, carried_stamp, client_translated, controller_translated, may_send}
use Rattle.cf_renumber.specs.NumbersCalls.{NumbersCall, MaySend, FromClient, Admit, Refuse, AckOfClient, FromController, AckOfController, Turn, MayCall, IsNumbersRun, IsInOrder, IsNumbersAt, Answered, AllAnswered, NumbersStep, turn_after, events_of, judged, answer, after_result, error_of}
use Rattle.cf_renumber.specs.Numbers.{NumbersValue, IsNumbersOf, IsNumbersAwaiting}
use Rattle.std.proofs.lemmas.Grind.{common_steps}
use Rattle.std.proofs.Common.{arith}

pub runs : (calls : List NumbersCall) (v : NumbersValue) → IsNumbersRun calls v → IsInOrder calls →
    IsNumbersAt (turn_after calls) v (events_of calls) × AllAnswered calls
runs [] v r o = (r, tt)
runs (call ∷ earlier) v r o = grind (arith, common_steps, runs earlier r.0 r.1 o.1)

-- a call that may be made only between frames
module _ (v : NumbersValue) where
  idle_client_ack : (nr : ℕ) (r : Result ℕ NumberRefusal) (p : Turn) (events : List NumberEvent) → MayCall p (AckOfClient nr r) →
      IsNumbersAt p v events → IsNumbersOf v events
  idle_client_ack nr r p events h1 h2 = grind (arith, common_steps)

  idle_controller_ack : (nr : ℕ) (r : Result ℕ NumberRefusal) (p : Turn) (events : List NumberEvent) → MayCall p (AckOfController nr r) →
      IsNumbersAt p v events → IsNumbersOf v events
  idle_controller_ack nr r p events h1 h2 = grind (arith, common_steps)

  idle_from_controller : (ns nr : ℕ) (r : Result Stamp NumberRefusal) (p : Turn) (events : List NumberEvent) → MayCall p (FromController ns nr r) →
      IsNumbersAt p v events → IsNumbersOf v events
  idle_from_controller ns nr r p events h1 h2 = grind (arith, common_steps)

  idle_from_client : (ns nr : ℕ) (r : Option NumberRefusal) (p : Turn) (events : List NumberEvent) → MayCall p (FromClient ns nr r) →
      IsNumbersAt p v events → IsNumbersOf v events
  idle_from_client ns nr r p events h1 h2 = grind (arith, common_steps)

  may_send_at : (side : Side) (b : Bool) → ((events : List NumberEvent) → IsNumbersOf v events → b ≡ may_send side events) →
      (p : Turn) (events : List NumberEvent) → MayCall p (MaySend side b) → IsNumbersAt p v events → (b ≡ may_send side events) × IsNumbersOf v events
  may_send_at side b h1 p events h2 h3 = grind (arith, common_steps)

  pub did_may_send : (side : Side) (b : Bool) → ((events : List NumberEvent) → IsNumbersOf v events → b ≡ may_send side events) →
      NumbersStep (MaySend side b) v v
  did_may_send side b a earlier m h = may_send_at side b a (turn_after earlier) (events_of earlier) m h

module _ (old new : NumbersValue) where
  admit_at : (s : Stamp) → ((events : List NumberEvent) (nr : ℕ) → IsNumbersAwaiting old events nr → s ≡ admitted_stamp events nr) →
      ((events : List NumberEvent) (nr : ℕ) → IsNumbersAwaiting old events nr → IsNumbersOf new (Admitted nr ∷ events))
      → (p : Turn) (events : List NumberEvent) → MayCall p (Admit s) → IsNumbersAt p old events →
      Answered p events (Admit s) × IsNumbersOf new (judged p (λ nr. Admitted nr) events)
  admit_at s h1 h2 p events h3 h4 = grind (arith, common_steps)

  pub did_admit : (s : Stamp) → ((events : List NumberEvent) (nr : ℕ) → IsNumbersAwaiting old events nr → s ≡ admitted_stamp events nr) →
      ((events : List NumberEvent) (nr : ℕ) → IsNumbersAwaiting old events nr → IsNumbersOf new (Admitted nr ∷ events)) → NumbersStep (Admit s) old new
  did_admit s a b earlier m h = admit_at s a b (turn_after earlier) (events_of earlier) m h

  refuse_at : (reply : Bool) (s : RefusedStamp) →
      ((events : List NumberEvent) (nr : ℕ) → IsNumbersAwaiting old events nr → s ≡ refused_stamp events nr reply) →
      ((events : List NumberEvent) (nr : ℕ) → IsNumbersAwaiting old events nr → IsNumbersOf new (Refused nr reply ∷ events))
      → (p : Turn) (events : List NumberEvent) → MayCall p (Refuse reply s) → IsNumbersAt p old events →
      Answered p events (Refuse reply s) × IsNumbersOf new (judged p (λ nr. Refused nr reply) events)
  refuse_at reply s h1 h2 p events h3 h4 = grind (arith, common_steps)

  pub did_refuse : (reply : Bool) (s : RefusedStamp) →
      ((events : List NumberEvent) (nr : ℕ) → IsNumbersAwaiting old events nr → s ≡ refused_stamp events nr reply) →
      ((events : List NumberEvent) (nr : ℕ) → IsNumbersAwaiting old events nr → IsNumbersOf new (Refused nr reply ∷ events)) →
      NumbersStep (Refuse reply s) old new
  did_refuse reply s a b earlier m h = refuse_at reply s a b (turn_after earlier) (events_of earlier) m h

  -- an answer with a number or a stamp
  module _ {A : Type 0} (refusal : List NumberEvent → Option NumberRefusal) (value : List NumberEvent → A) (event : NumberEvent) where
    result_at : (r : Result A NumberRefusal)
        → ((events : List NumberEvent) → IsNumbersOf old events →
        MatchResult r (λ n. (refusal events ≡ None) × (n ≡ value events)) (λ e. refusal events ≡ Some e))
        → IfOk r (λ _. (events : List NumberEvent) → IsNumbersOf old events → IsNumbersOf new (event ∷ events))
        → (events : List NumberEvent) → IsNumbersOf old events →
        (r ≡ answer (refusal events) (value events)) × IsNumbersAt (after_result r) new (event ∷ events)
    result_at r h1 h2 events h3 = grind (arith, common_steps)

  pub did_client_ack : (nr : ℕ) (r : Result ℕ NumberRefusal)
      → ((events : List NumberEvent) → IsNumbersOf old events →
      MatchResult r (λ n. (client_ack_refusal events nr ≡ None)
      × (n ≡ client_translated events nr % 32768)) (λ e. client_ack_refusal events nr ≡ Some e))
      → IfOk r (λ _. (events : List NumberEvent) → IsNumbersOf old events → IsNumbersOf new (ClientAck nr ∷ events)) →
      NumbersStep (AckOfClient nr r) old new
  did_client_ack nr r a b earlier m h = grind (arith, common_steps, result_at, idle_client_ack)

  pub did_controller_ack : (nr : ℕ) (r : Result ℕ NumberRefusal)
      → ((events : List NumberEvent) → IsNumbersOf old events →
      MatchResult r (λ n. (controller_ack_refusal events nr ≡ None)
      × (n ≡ controller_translated events nr % 32768)) (λ e. controller_ack_refusal events nr ≡ Some e))
      → IfOk r (λ _. (events : List NumberEvent) → IsNumbersOf old events → IsNumbersOf new (ControllerAck nr ∷ events)) →
      NumbersStep (AckOfController nr r) old new
  did_controller_ack nr r a b earlier m h = grind (arith, common_steps, result_at, idle_controller_ack)

  pub did_from_controller : (ns nr : ℕ) (r : Result Stamp NumberRefusal)
      → ((events : List NumberEvent) → IsNumbersOf old events →
      MatchResult r (λ s. (controller_refusal events ns nr ≡ None)
      × (s ≡ carried_stamp events nr)) (λ e. controller_refusal events ns nr ≡ Some e))
      → IfOk r (λ _. (events : List NumberEvent) → IsNumbersOf old events → IsNumbersOf new (Carried nr ∷ events)) →
      NumbersStep (FromController ns nr r) old new
  did_from_controller ns nr r a b earlier m h = grind (arith, common_steps, result_at, idle_from_controller)

  pub did_from_client : {A : Type 0} (ns nr : ℕ) (r : Result A NumberRefusal)
      → ((events : List NumberEvent) → IsNumbersOf old events →
      MatchResult r (λ _. client_refusal events ns nr ≡ None) (λ e. client_refusal events ns nr ≡ Some e))
      → IfOk r (λ _. (events : List NumberEvent) → IsNumbersOf old events → IsNumbersAwaiting new events nr) →
      NumbersStep (FromClient ns nr (error_of r)) old new
  did_from_client ns nr (Ok x) a b earlier m h = grind (arith, common_steps, idle_from_client)
  did_from_client ns nr (Err e) a b earlier m h = grind (arith, common_steps, idle_from_client)
