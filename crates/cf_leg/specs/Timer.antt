-- The retransmission timer of a TCP end: `due` and `fires`. RFC 9293, section 3.8.1, and RFC 6298, section 5, without a measured round
-- trip: one second, doubled up to 32; this is this project's own choice. Moments are in microseconds.
use Rattle.std.specs.Prelude.{ℕ, ◌+◌, ◌*◌, ◌^◌, min, nat_lt, nat_le, not, Bool, ◌&&◌, ◌||◌, if◌then◌else◌, List, [], ◌∷◌, length}
use Rattle.cf_stream.specs.Stream.{letter_count}
use Rattle.cf_leg.specs.Event.{LegEvent, moment, stream_after}
use Rattle.cf_leg.specs.Told.{letters_sent, is_greeted}
use Rattle.cf_leg.specs.Heard.{opened, counted, opening, acked, shown}
use Rattle.cf_leg.specs.declared.ends.ClockAnswer.{ClockAnswer}
use Rattle.cf_leg.specs.declared.ends.ClockAnswer.TheVariants as answer
use Rattle.cf_leg.specs.declared.ends.Role.{Role}

-- a second in microseconds
abbrev pub second : ℕ
second = 1000000

-- the wait after the i-th firing since an answer
abbrev pub backoff : ℕ → ℕ
backoff i = min 32 (2 ^ i) * second

-- something is unanswered: the SYN or the SYN ACK, or a letter of the queue
abbrev pub armed : Role → List LegEvent → Bool
armed r es = if opened r es then nat_lt (acked r es) (letter_count (stream_after es)) else is_greeted es

-- the event arms the leg, or its packet counts and acknowledges a letter or shows a greater edge
abbrev pub rises : Role → List LegEvent → LegEvent → Bool
rises r es e = nat_lt (acked r es) (acked r (e ∷ es)) || nat_lt (shown r es) (shown r (e ∷ es))

-- the event starts the timer anew: it arms the end, or its packet counts and acknowledges or shows more
abbrev pub refreshes : Role → List LegEvent → LegEvent → Bool
refreshes r es e = (armed r (e ∷ es) && not (armed r es)) || (counted r es e && rises r es e)

-- the event's clock call sent a segment
abbrev pub has_fired : LegEvent → Bool
has_fired e = nat_lt 0 (length e.fired)

-- the firings after the last packet that counted or opened
abbrev pub tries : Role → List LegEvent → ℕ
tries r [] = 0
tries r (e ∷ es) =
    if counted r es e || opening r es e then 0
    else if has_fired e then tries r es + 1
    else tries r es

-- the moment at which the armed leg fires next: a second after it was refreshed, or some time after it fired, whichever came last
abbrev pub due : Role → List LegEvent → ℕ
due r [] = 0
due r (e ∷ es) =
    if refreshes r es e then moment e + second
    else if has_fired e then e.tick + backoff (tries r es + 1)
    else due r es

-- the leg fires at the event's clock call
abbrev pub fires : Role → List LegEvent → LegEvent → Bool
fires r es e = e.ticked && (armed r es && nat_le (due r es) e.tick)

-- what the clock call answers
abbrev pub clock_answer : Role → List LegEvent → LegEvent → ClockAnswer
clock_answer r es e =
    if not (fires r es e) then answer.Quiet
    else if not (nat_lt (tries r es) 6) then answer.NoAnswer
    else if opened r es && not (nat_lt (acked r es) (letters_sent r es)) then answer.Probed
    else answer.Repeated
