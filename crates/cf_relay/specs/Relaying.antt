-- Steps of the proof: what a contract sees of a relay between two stages: `RelayingValue`.
use Rattle.cf_lane.specs.Follows.{Rests}
use Rattle.cf_lane.specs.Handled.{IsLaneOf, LaneValue, State, debt, debt_limit, rest_limit, state}
use Rattle.cf_lane.specs.Output.{other}
use Rattle.cf_lane.specs.declared.limit.TheConstants.{LETTER_LIMIT}
use Rattle.cf_outq.specs.SendQueue.{Queue, empty, queue_length}
use Rattle.cf_policy.specs.Site.{SiteValue}
use Rattle.cf_view.specs.declared.Side.{Side}
use Rattle.std.specs.Prelude.{Bool, List, Option, [], false, length, true, ℕ, ◌*◌, ◌+◌, ◌<◌, ◌≡◌, ◌≤◌, ◌⊎◌}
use Rattle.cf_view.specs.declared.Side.TheVariants as side
use Rattle.cf_relay.specs.Taken.{MayTakeNow}
use Rattle.cf_relay.specs.declared.directions.Directions.{Directions}
use Rattle.cf_relay.specs.declared.relaying.Relaying.{Relaying}

pub record RelayingValue : Type 0 where
  pub lane : LaneValue
  pub to_client : Queue
  pub to_controller : Queue
  -- the bytes of a side that are no whole unit, and how many letters of it were taken
  pub client_rest : List ℕ
  pub controller_rest : List ℕ
  pub client_letters : ℕ
  pub controller_letters : ℕ
  -- whether a side was closed for sending
  pub client_finished : Bool
  pub controller_finished : Bool
  -- the greatest moment told, in microseconds
  pub moment : ℕ
  -- how many answers Idle came since the last that was none
  pub idle : ℕ

abbrev pub relaying_value : Relaying → RelayingValue
relaying_value a = record {
  lane = a.lane;
  to_client = a.to.client;
  to_controller = a.to.controller;
  client_rest = a.from.client.rest.items;
  controller_rest = a.from.controller.rest.items;
  client_letters = a.from.client.letters;
  controller_letters = a.from.controller.letters;
  client_finished = a.finished.client;
  controller_finished = a.finished.controller;
  moment = a.moment;
  idle = a.idle;
}

-- a relay before its first turn
abbrev pub begun_value : LaneValue → (moment : ℕ) → RelayingValue
begun_value lane moment = record {
  lane = lane;
  to_client = empty;
  to_controller = empty;
  client_rest = [];
  controller_rest = [];
  client_letters = 0;
  controller_letters = 0;
  client_finished = false;
  controller_finished = false;
  moment = moment;
  idle = 0;
}

-- the queue to a side
abbrev pub queue_to : Side → RelayingValue → Queue
queue_to side.Client now = now.to_client
queue_to side.Controller now = now.to_controller

abbrev pub is_closed : Side → RelayingValue → Bool
is_closed side.Client now = now.client_finished
is_closed side.Controller now = now.controller_finished

abbrev pub letters_from : Side → RelayingValue → ℕ
letters_from side.Client now = now.client_letters
letters_from side.Controller now = now.controller_letters

abbrev pub rests_of : RelayingValue → Rests
rests_of now = record { client = now.client_rest; controller = now.controller_rest }

-- the lane with its queues and the log's lines
abbrev pub lane_state : RelayingValue → Option (List (List ℕ)) → State
lane_state now lines = state now.lane now.to_client now.to_controller lines

-- no stream taken or put out has as many letters as the limit
pub record IsShort (now : RelayingValue) : Type 0 where
  pub client : now.client_letters < LETTER_LIMIT
  pub controller : now.controller_letters < LETTER_LIMIT
  pub to_client : queue_length now.to_client < LETTER_LIMIT
  pub to_controller : queue_length now.to_controller < LETTER_LIMIT

-- what lets a relay be asked for one stage more, whatever its list
pub record IsSound (site : SiteValue) (most : ℕ) (now : RelayingValue) : Type 0 where
  pub of_site : IsLaneOf site now.lane
  pub debt : debt now.lane ≤ debt_limit site
  pub short : IsShort now
  pub to_client : length now.to_client.kept + now.to_client.acked ≤ queue_length now.to_client
  pub to_controller : length now.to_controller.kept + now.to_controller.acked ≤ queue_length now.to_controller
  pub client_rest : length now.client_rest < rest_limit
  pub controller_rest : length now.controller_rest < rest_limit
  -- a command for each byte taken at most
  pub counts : now.lane.admitted + now.lane.refused +
      (length now.client_rest + length now.controller_rest) ≤ now.client_letters + now.controller_letters
  pub few : now.idle < most

-- the letters that were taken of both sides and the bytes that were given to both
abbrev pub moved : RelayingValue → ℕ
moved now = now.client_letters + now.controller_letters + (now.to_client.acked + now.to_controller.acked)

-- the progress of a relay, which rises with each answer of a turn: with a letter that moves, or with an answer Idle where none does
abbrev pub progress : (most : ℕ) → RelayingValue → ℕ
progress most now = moved now * most + now.idle

-- no letter moved, and no answer Idle came
pub record Unmoved (old new : RelayingValue) : Type 0 where
  pub kept : (t : Side) → (queue_to t new).kept ≡ (queue_to t old).kept
  pub acked : (t : Side) → (queue_to t new).acked ≡ (queue_to t old).acked
  pub ended : (t : Side) → (queue_to t new).ended ≡ (queue_to t old).ended
  pub letters : (t : Side) → letters_from t new ≡ letters_from t old
  pub idle : new.idle ≡ old.idle

-- a side was given something, or answered Idle; or nothing was queued for it, and it is closed where it is to be
abbrev pub ServesOrRests : Side → (most : ℕ) → (old new : RelayingValue) → Type 0
ServesOrRests s most old new =
    (progress most old < progress most new)
    ⊎ (((queue_to s old).kept ≡ []) × Unmoved old new × (is_closed (other s) new ≡ is_closed (other s) old) ×
    ((queue_to s old).ended ≡ true → is_closed s new ≡ true))

-- a side was asked; or it was passed over
abbrev pub AsksOrRests : Directions → SiteValue → Side → (most : ℕ) → (old new : RelayingValue) → Type 0
AsksOrRests directions site s most old new = (progress most old < progress most new) ⊎
    (Unmoved old new × (MayTakeNow directions site s old.to_client old.to_controller → ⊥))

-- both sides are closed
abbrev pub AreClosed : RelayingValue → Type 0
AreClosed now = (now.client_finished ≡ true) × (now.controller_finished ≡ true)
