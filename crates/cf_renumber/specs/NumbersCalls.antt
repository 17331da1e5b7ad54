-- Steps of the proof: lists of calls with their answers, the newest first: `NumbersStep`, which each call keeps, and `AllAnswered`,
-- which every list of calls in order then is.
use Rattle.std.specs.Prelude.{◌≡◌, ℕ, ◌%◌, Bool, List, [], ◌∷◌, Option, Some, None, Result, Ok, Err}
use Rattle.cf_view.specs.declared.Side.{Side}
use Rattle.cf_renumber.specs.declared.answer.Stamp.{Stamp}
use Rattle.cf_renumber.specs.declared.answer.RefusedStamp.{RefusedStamp}
use Rattle.cf_renumber.specs.declared.answer.NumberRefusal.{NumberRefusal}
use Rattle.cf_renumber.specs.Counts.{NumberEvent, Started, Stopped, Admitted, Refused, ClientAck, Carried, ControllerAck, may_send}
use Rattle.cf_renumber.specs.Counts.{client_refusal, client_ack_refusal, controller_refusal, controller_ack_refusal, admitted_stamp}
use Rattle.cf_renumber.specs.Counts.{refused_stamp, carried_stamp, client_translated, controller_translated}
use Rattle.cf_renumber.specs.Numbers.{NumbersValue, IsNumbersOf, IsNumbersAwaiting}

-- a call with its arguments and its answer; of a client's frame the refusal alone
pub data NumbersCall : Type 0 where
  Start : NumbersCall
  Stop : NumbersCall
  MaySend : Side → Bool → NumbersCall
  FromClient : ℕ → ℕ → Option NumberRefusal → NumbersCall
  Admit : Stamp → NumbersCall
  Refuse : Bool → RefusedStamp → NumbersCall
  AckOfClient : ℕ → Result ℕ NumberRefusal → NumbersCall
  FromController : ℕ → ℕ → Result Stamp NumberRefusal → NumbersCall
  AckOfController : ℕ → Result ℕ NumberRefusal → NumbersCall

-- which calls may follow: all but the judging of a frame, that alone, or none
pub data Turn : Type 0 where
  Idle : Turn
  Waiting : ℕ → Turn
  Over : Turn

-- a refusal ends the calls
abbrev pub after_result : {A : Type 0} → Result A NumberRefusal → Turn
after_result (Ok x) = Idle
after_result (Err e) = Over

-- why a call was refused, if it was
abbrev pub error_of : {A : Type 0} → Result A NumberRefusal → Option NumberRefusal
error_of (Ok x) = None
error_of (Err e) = Some e

-- which calls may follow these
abbrev pub turn_after : List NumbersCall → Turn
turn_after [] = Idle
turn_after (FromClient ns nr None ∷ earlier) = Waiting nr
turn_after (FromClient ns nr (Some e) ∷ earlier) = Over
turn_after (AckOfClient nr r ∷ earlier) = after_result r
turn_after (FromController ns nr r ∷ earlier) = after_result r
turn_after (AckOfController nr r ∷ earlier) = after_result r
turn_after (_ ∷ earlier) = Idle

-- the call may be made then
abbrev pub MayCall : Turn → NumbersCall → Type 0
MayCall Idle (Admit s) = ⊥
MayCall Idle (Refuse reply s) = ⊥
MayCall Idle _ = Unit {0}
MayCall (Waiting nr) (Admit s) = Unit {0}
MayCall (Waiting nr) (Refuse reply s) = Unit {0}
MayCall (Waiting nr) _ = ⊥
MayCall Over _ = ⊥

-- each was one that might be made then
abbrev pub IsInOrder : List NumbersCall → Type 0
IsInOrder [] = Unit {0}
IsInOrder (call ∷ earlier) = MayCall (turn_after earlier) call × IsInOrder earlier

-- what happened by the judging of a frame that waits
abbrev pub judged : Turn → (ℕ → NumberEvent) → List NumberEvent → List NumberEvent
judged (Waiting nr) event events = event nr ∷ events
judged _ event events = events

-- what happened by the calls
abbrev pub events_of : List NumbersCall → List NumberEvent
events_of [] = []
events_of (Start ∷ earlier) = Started ∷ events_of earlier
events_of (Stop ∷ earlier) = Stopped ∷ events_of earlier
events_of (Admit s ∷ earlier) = judged (turn_after earlier) (λ nr. Admitted nr) (events_of earlier)
events_of (Refuse reply s ∷ earlier) = judged (turn_after earlier) (λ nr. Refused nr reply) (events_of earlier)
events_of (AckOfClient nr r ∷ earlier) = ClientAck nr ∷ events_of earlier
events_of (FromController ns nr r ∷ earlier) = Carried nr ∷ events_of earlier
events_of (AckOfController nr r ∷ earlier) = ControllerAck nr ∷ events_of earlier
events_of (_ ∷ earlier) = events_of earlier

-- a refusal, or else the value
abbrev pub answer : {A : Type 0} → Option NumberRefusal → A → Result A NumberRefusal
answer None x = Ok x
answer (Some e) x = Err e

-- the answer is the one that the counts of what happened before give
abbrev pub Answered : Turn → List NumberEvent → NumbersCall → Type 0
Answered p events Start = Unit {0}
Answered p events Stop = Unit {0}
Answered p events (MaySend side b) = b ≡ may_send side events
Answered p events (FromClient ns nr r) = r ≡ client_refusal events ns nr
Answered (Waiting nr) events (Admit s) = s ≡ admitted_stamp events nr
Answered (Waiting nr) events (Refuse reply s) = s ≡ refused_stamp events nr reply
Answered p events (AckOfClient nr r) = r ≡ answer (client_ack_refusal events nr) (client_translated events nr % 32768)
Answered p events (FromController ns nr r) = r ≡ answer (controller_refusal events ns nr) (carried_stamp events nr)
Answered p events (AckOfController nr r) = r ≡ answer (controller_ack_refusal events nr) (controller_translated events nr % 32768)
Answered p events _ = Unit {0}

-- each answer is the one that the counts before it give
abbrev pub AllAnswered : List NumbersCall → Type 0
AllAnswered [] = Unit {0}
AllAnswered (call ∷ earlier) = Answered (turn_after earlier) (events_of earlier) call × AllAnswered earlier

-- the values are those of what happened
abbrev pub IsNumbersAt : Turn → NumbersValue → List NumberEvent → Type 0
IsNumbersAt Idle numbers events = IsNumbersOf numbers events
IsNumbersAt (Waiting nr) numbers events = IsNumbersAwaiting numbers events nr
IsNumbersAt Over numbers events = Unit {0}

-- what a call does to the values, and answers
abbrev pub NumbersStep : NumbersCall → NumbersValue → NumbersValue → Type 0
NumbersStep call old new =
    (earlier : List NumbersCall) → MayCall (turn_after earlier) call → IsNumbersAt (turn_after earlier) old (events_of earlier) →
    Answered (turn_after earlier) (events_of earlier) call × IsNumbersAt (turn_after (call ∷ earlier)) new (events_of (call ∷ earlier))

-- calls from a new one on that leave these values
abbrev pub IsNumbersRun : List NumbersCall → NumbersValue → Type 0
IsNumbersRun [] numbers = IsNumbersOf numbers []
IsNumbersRun (call ∷ earlier) numbers = (before : NumbersValue) × IsNumbersRun earlier before × NumbersStep call before numbers
