-- Steps of the proof: what is kept of the frames of a session to number the next ones: `IsNumbersOf`.
use Rattle.std.specs.Prelude.{◌≡◌, ℕ, ◌+◌, ◌-◌, ◌%◌, ◌<◌, ◌≤◌, if◌then◌else◌, Bool, true, false, List, [], ◌∷◌, ◌++◌, length, drop, Option}
use Rattle.std.specs.Prelude.{Some, None, count_by, nat_lt}
use Rattle.cf_renumber.specs.declared.answer.Stamp.{Stamp}
use Rattle.cf_renumber.specs.declared.mark.FrameFate.{FrameFate}
use Rattle.cf_renumber.specs.declared.mark.FrameFate.TheVariants as fates
use Rattle.cf_renumber.specs.declared.mark.Origin.{Origin}
use Rattle.cf_renumber.specs.declared.mark.Origin.TheVariants as origins
use Rattle.cf_renumber.specs.Counts.{NumberEvent, client_frames, frames_to_client, from_client, to_controller, from_controller, to_client}
use Rattle.cf_renumber.specs.Counts.{is_controllers, acked_by_client, acked_by_controller, controllers_among, covered_by, count_from}
use Rattle.cf_renumber.specs.Counts.{last_told, is_running, has_started}

-- what a contract sees of a `Numbers`
pub record NumbersValue : Type 0 where
  pub started : Bool
  pub running : Bool
  -- the client's frames that the controller has not acknowledged, and the frames to the client that it has not
  pub fates : List FrameFate
  pub origins : List Origin
  -- how many frames came from the client, went to the controller, came from the controller, went to the client, modulo
  -- 32768
  pub received : ℕ
  pub admitted : ℕ
  pub carried : ℕ
  pub sent : ℕ
  -- where a frame of the client came and is not judged: how many of the controller's frames its N(R) acknowledges anew
  pub owed : Option ℕ

-- a frame of the client that is not judged
abbrev pub waiting : Option ℕ → ℕ
waiting None = 0
waiting (Some moved) = 1

-- both numbers of a stamp have fifteen bits
abbrev pub IsSmall : Stamp → Type 0
IsSmall stamp = (stamp.send < 32768) × (stamp.receive < 32768)

-- what is left of the client's frames past the greatest front with at most m admitted ones
abbrev pub uncovered : ℕ → List FrameFate → List FrameFate
uncovered m frames = drop (covered_by m frames) frames

-- what holds whatever happened
pub record IsNumbersValue (numbers : NumbersValue) : Type 0 where
  pub fates : length numbers.fates + waiting numbers.owed ≤ 4096
  pub origins : length numbers.origins + waiting numbers.owed ≤ 4096
  -- the first of the client's frames that are left is an admitted one
  pub front : uncovered 0 numbers.fates ≡ numbers.fates
  pub received : numbers.received < 32768
  pub admitted : numbers.admitted < 32768
  pub carried : numbers.carried < 32768
  pub sent : numbers.sent < 32768

-- the values are those of the events, where the client has acknowledged j frames
pub record HasCountsOf (numbers : NumbersValue) (events : List NumberEvent) (j : ℕ) : Type 0 where
  pub starts : numbers.started ≡ has_started events
  pub runs : numbers.running ≡ is_running events
  pub fates : numbers.fates ≡ uncovered (acked_by_controller events) (client_frames events)
  pub origins : numbers.origins ≡ drop j (frames_to_client events)
  pub received : numbers.received ≡ from_client events % 32768
  pub admitted : numbers.admitted ≡ to_controller events % 32768
  pub carried : numbers.carried ≡ from_controller events % 32768
  pub sent : numbers.sent ≡ to_client events % 32768
  pub acked : acked_by_controller events ≤ to_controller events
  pub within : j ≤ to_client events

-- the numbers stand for what happened
pub record IsNumbersOf (numbers : NumbersValue) (events : List NumberEvent) : Type 0 where
  pub holds : HasCountsOf numbers events (acked_by_client events)
  pub told : last_told events ≡ controllers_among (acked_by_client events) (frames_to_client events)
  pub idle : numbers.owed ≡ None

-- the numbers stand for what happened, and for a frame of the client that was numbered so and is not judged
pub record IsNumbersAwaiting (numbers : NumbersValue) (events : List NumberEvent) (nr : ℕ) : Type 0 where
  pub holds : HasCountsOf numbers events (count_from (acked_by_client events) nr)
  pub moved : ℕ
  pub owed : numbers.owed ≡ Some moved
  pub told : last_told events + moved ≡ controllers_among (count_from (acked_by_client events) nr) (frames_to_client events)

-- a new one
abbrev pub empty : NumbersValue
empty = record {
  started = false;
  running = false;
  fates = [];
  origins = [];
  received = 0;
  admitted = 0;
  carried = 0;
  sent = 0;
  owed = None;
}

-- what each event leaves of the values
abbrev pub after_start : NumbersValue → NumbersValue
after_start numbers = record numbers { started = true; running = true }

abbrev pub after_stop : NumbersValue → NumbersValue
after_stop numbers = record numbers { running = false }

-- n more of the frames to the client are acknowledged
abbrev pub after_client_ack : NumbersValue → ℕ → NumbersValue
after_client_ack numbers n = record numbers { origins = drop n numbers.origins }

-- m more of the admitted frames are acknowledged
abbrev pub after_controller_ack : NumbersValue → ℕ → NumbersValue
after_controller_ack numbers m = record numbers { fates = uncovered m numbers.fates }

abbrev pub after_admitted : NumbersValue → NumbersValue
after_admitted numbers =
    record numbers {
      fates = numbers.fates ++ fates.Admitted ∷ [];
      received = (numbers.received + 1) % 32768;
      admitted = (numbers.admitted + 1) % 32768;
      owed = None;
    }

-- a mirror goes to the client
abbrev pub after_mirror : NumbersValue → NumbersValue
after_mirror numbers = record numbers { origins = numbers.origins ++ origins.Mirror ∷ []; sent = (numbers.sent + 1) % 32768 }

-- a refused frame is acknowledged with those before it
abbrev pub after_dropped : NumbersValue → NumbersValue
after_dropped numbers =
    record numbers { fates = uncovered 0 (numbers.fates ++ fates.Refused ∷ []); received = (numbers.received + 1) % 32768; owed = None }

abbrev pub after_refused : NumbersValue → Bool → NumbersValue
after_refused numbers mirrored = if mirrored then after_mirror (after_dropped numbers) else after_dropped numbers

-- the numbers of the next frame to each side
abbrev pub stamp_for_controller : NumbersValue → Stamp
stamp_for_controller numbers =
    record { send = numbers.admitted; receive = (numbers.carried + 32768 - count_by is_controllers numbers.origins) % 32768 }

abbrev pub stamp_for_client : NumbersValue → Stamp
stamp_for_client numbers = record { send = numbers.sent; receive = (numbers.received + 32768 - length numbers.fates) % 32768 }

-- the N(R) of the S frame that is owed to the controller where the frame that waits is refused
abbrev pub ack_owed : NumbersValue → Option ℕ → Option ℕ
ack_owed numbers None = None
ack_owed numbers (Some moved) = if nat_lt 0 moved then Some (stamp_for_controller numbers).receive else None

-- the numbers of the next frame to each side, where the client has acknowledged j frames
abbrev pub next_stamp_for_controller : List NumberEvent → ℕ → Stamp
next_stamp_for_controller events j = record {
  send = to_controller events % 32768;
  receive = controllers_among j (frames_to_client events) %
      32768;
}

abbrev pub next_stamp_for_client : List NumberEvent → Stamp
next_stamp_for_client events =
    record { send = to_client events % 32768; receive = covered_by (acked_by_controller events) (client_frames events) % 32768 }

abbrev pub after_carried : NumbersValue → NumbersValue
after_carried numbers =
    record numbers {
      origins = numbers.origins ++ origins.Controller ∷ [];
      carried = (numbers.carried + 1) % 32768;
      sent = (numbers.sent + 1) % 32768;
    }
