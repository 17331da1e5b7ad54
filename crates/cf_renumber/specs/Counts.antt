-- Counts of the I frames of an IEC 60870-5-104 session, and what a number of 15 bits stands for: stamps, as `admitted_stamp`, and
-- refusals, as `client_refusal`, which stand last. IEC 60870-5-104, section 5.1: N(S) counts the frames that were sent, N(R) those that
-- were received, both modulo 32768. That a firewall between the two sides renumbers both is this project's own.
--
-- What went on so far is a list of events, the newest first, so that what was before an event is the list after it. The
-- lists of frames are in their order, the first frame first, so that the first j of them are a front.
use Rattle.std.specs.Prelude.{ℕ, zero, suc, ◌+◌, ◌-◌, ◌%◌, ◌≤◌, ◌≡◌, ◌==◌, ◌&&◌, nat_lt, nat_le, Bool, true, false, if◌then◌else◌, List, []}
use Rattle.std.specs.Prelude.{◌∷◌, ◌++◌, length, take, Option, Some, None, count_by}
use Rattle.std.specs.Option.{option_or}
use Rattle.cf_view.specs.declared.Side.{Side}
use Rattle.cf_view.specs.declared.Side.TheVariants as sides
use Rattle.cf_renumber.specs.declared.answer.Stamp.{Stamp}
use Rattle.cf_renumber.specs.declared.answer.RefusedStamp.{RefusedStamp}
use Rattle.cf_renumber.specs.declared.answer.NumberRefusal.{NumberRefusal}
use Rattle.cf_renumber.specs.declared.answer.NumberRefusal.TheVariants as refusals
use Rattle.cf_renumber.specs.declared.mark.FrameFate.{FrameFate}
use Rattle.cf_renumber.specs.declared.mark.FrameFate.TheVariants as fates
use Rattle.cf_renumber.specs.declared.mark.Origin.{Origin}
use Rattle.cf_renumber.specs.declared.mark.Origin.TheVariants as origins

-- what happened. The number is the N(R) of the frame that came
pub data NumberEvent : Type 0 where
  Started : NumberEvent
  Stopped : NumberEvent
  -- an I frame of the client that goes on; one that does not, and whether its mirror goes back; an S frame
  Admitted : ℕ → NumberEvent
  Refused : ℕ → Bool → NumberEvent
  ClientAck : ℕ → NumberEvent
  -- an I frame of the controller, which goes on; an S frame
  Carried : ℕ → NumberEvent
  ControllerAck : ℕ → NumberEvent

-- the client's I frames in their order, and what became of each
abbrev pub client_frames : List NumberEvent → List FrameFate
client_frames [] = []
client_frames (Admitted nr ∷ earlier) = client_frames earlier ++ fates.Admitted ∷ []
client_frames (Refused nr mirrored ∷ earlier) = client_frames earlier ++ fates.Refused ∷ []
client_frames (_ ∷ earlier) = client_frames earlier

-- the I frames to the client in their order, and whose each is
abbrev pub frames_to_client : List NumberEvent → List Origin
frames_to_client [] = []
frames_to_client (Refused nr mirrored ∷ earlier) =
    if mirrored then frames_to_client earlier ++ origins.Mirror ∷ [] else frames_to_client earlier
frames_to_client (Carried nr ∷ earlier) = frames_to_client earlier ++ origins.Controller ∷ []
frames_to_client (_ ∷ earlier) = frames_to_client earlier

-- which frames of the client went on
abbrev pub is_admitted : FrameFate → Bool
is_admitted fates.Admitted = true
is_admitted fates.Refused = false

-- which frames to the client are the controller's
abbrev pub is_controllers : Origin → Bool
is_controllers origins.Controller = true
is_controllers origins.Mirror = false

-- the number of I frames that came from the client
abbrev pub from_client : List NumberEvent → ℕ
from_client events = length (client_frames events)

-- the number of I frames that went to the controller
abbrev pub to_controller : List NumberEvent → ℕ
to_controller events = count_by is_admitted (client_frames events)

-- the number of I frames that the controller sent
abbrev pub from_controller : List NumberEvent → ℕ
from_controller events = count_by is_controllers (frames_to_client events)

-- the number of I frames that went to the client, the controller's and mirrors
abbrev pub to_client : List NumberEvent → ℕ
to_client events = length (frames_to_client events)

-- a count from low to high that agrees with a number modulo 32768
pub record IsCountOf (low high number count : ℕ) : Type 0 where
  pub at_least : low ≤ count
  pub at_most : count ≤ high
  pub agrees : count % 32768 ≡ number

-- the least count from low on that agrees with a number modulo 32768. Where fewer than 32768 counts are allowed it is the
-- only one that may be
abbrev pub count_from : ℕ → ℕ → ℕ
count_from low number = low + (number + 32768 - low % 32768) % 32768

-- whether a number stands for a count from low to high
abbrev pub is_counted : ℕ → ℕ → ℕ → Bool
is_counted low high number = nat_lt number 32768 && nat_le (count_from low number) high

-- the number of I frames that the client has acknowledged of those to it
abbrev pub acked_by_client : List NumberEvent → ℕ
acked_by_client [] = 0
acked_by_client (Admitted nr ∷ earlier) = count_from (acked_by_client earlier) nr
acked_by_client (Refused nr mirrored ∷ earlier) = count_from (acked_by_client earlier) nr
acked_by_client (ClientAck nr ∷ earlier) = count_from (acked_by_client earlier) nr
acked_by_client (_ ∷ earlier) = acked_by_client earlier

-- the number of admitted ones that the controller has
abbrev pub acked_by_controller : List NumberEvent → ℕ
acked_by_controller [] = 0
acked_by_controller (Carried nr ∷ earlier) = count_from (acked_by_controller earlier) nr
acked_by_controller (ControllerAck nr ∷ earlier) = count_from (acked_by_controller earlier) nr
acked_by_controller (_ ∷ earlier) = acked_by_controller earlier

-- the number of the controller's among the first j frames to the client
abbrev pub controllers_among : ℕ → List Origin → ℕ
controllers_among j frames = count_by is_controllers (take j frames)

-- the greatest j such that the first j frames of the client hold at most m admitted ones
abbrev pub covered_by : ℕ → List FrameFate → ℕ
covered_by m [] = 0
covered_by m (fates.Refused ∷ frames) = suc (covered_by m frames)
covered_by zero (fates.Admitted ∷ frames) = 0
covered_by (suc m) (fates.Admitted ∷ frames) = suc (covered_by m frames)

-- what the N(R) of a client's frame becomes towards the controller
abbrev pub client_translated : List NumberEvent → ℕ → ℕ
client_translated earlier nr = controllers_among (count_from (acked_by_client earlier) nr) (frames_to_client earlier)

-- what the N(R) of a controller's frame becomes towards the client
abbrev pub controller_translated : List NumberEvent → ℕ → ℕ
controller_translated earlier nr = covered_by (count_from (acked_by_controller earlier) nr) (client_frames earlier)

-- the last N(R) that went to the controller, as a count: with an admitted frame, with an S frame of the client, or with
-- one that a refused frame leaves
abbrev pub last_told : List NumberEvent → ℕ
last_told [] = 0
last_told (Admitted nr ∷ earlier) = client_translated earlier nr
last_told (Refused nr mirrored ∷ earlier) =
    if nat_lt (last_told earlier) (client_translated earlier nr) then client_translated earlier nr else last_told earlier
last_told (ClientAck nr ∷ earlier) = client_translated earlier nr
last_told (_ ∷ earlier) = last_told earlier

-- whether the last of start and stop was a start
abbrev pub is_running : List NumberEvent → Bool
is_running [] = false
is_running (Started ∷ earlier) = true
is_running (Stopped ∷ earlier) = false
is_running (_ ∷ earlier) = is_running earlier

-- whether a start ever came
abbrev pub has_started : List NumberEvent → Bool
has_started [] = false
has_started (Started ∷ earlier) = true
has_started (_ ∷ earlier) = has_started earlier

-- whether a side may send I frames: the client while the last of the two is a start, the controller from the first start on
abbrev pub may_send : Side → List NumberEvent → Bool
may_send sides.Client events = is_running events
may_send sides.Controller events = has_started events

-- the numbers of a client's frame that goes on
abbrev pub admitted_stamp : List NumberEvent → ℕ → Stamp
admitted_stamp earlier nr = record { send = to_controller earlier % 32768; receive = client_translated earlier nr % 32768 }

-- the numbers of the mirror of a refused frame, which is itself among the client's frames
abbrev pub mirror_stamp : List NumberEvent → Stamp
mirror_stamp earlier =
    record {
      send = to_client earlier % 32768;
      receive = covered_by (acked_by_controller earlier) (client_frames earlier ++ fates.Refused ∷ []) % 32768;
    }

-- the N(R) of the S frame that a refused frame leaves towards the controller
abbrev pub owed_ack : List NumberEvent → ℕ → Option ℕ
owed_ack earlier nr =
    if nat_lt (last_told earlier) (client_translated earlier nr) then Some (client_translated earlier nr % 32768) else None

-- what a refused frame leaves: the numbers of its mirror, where one goes back, and the N(R) of an S frame
abbrev pub refused_stamp : List NumberEvent → ℕ → Bool → RefusedStamp
refused_stamp earlier nr mirrored =
    record { reply = (if mirrored then Some (mirror_stamp earlier) else None); ack = owed_ack earlier nr }

-- the numbers of a controller's frame
abbrev pub carried_stamp : List NumberEvent → ℕ → Stamp
carried_stamp earlier nr = record { send = to_client earlier % 32768; receive = controller_translated earlier nr % 32768 }

-- why an N(S) is refused, if it is: it is not the number of the frames before it
abbrev pub send_refusal : ℕ → ℕ → Option NumberRefusal
send_refusal count ns =
    if ns == count % 32768 then None else Some (refusals.WrongSend (count % 32768) ns)

-- why an N(R) is refused, if it is: it stands for no count from low to high
abbrev pub receive_refusal : ℕ → ℕ → ℕ → Option NumberRefusal
receive_refusal low high nr =
    if is_counted low high nr then None else Some (refusals.WrongReceive (low % 32768) (high % 32768) nr)

-- 4,096 frames are not acknowledged: this project's own limit
abbrev pub outstanding_refusal : ℕ → Option NumberRefusal
outstanding_refusal unacked = if unacked == 4096 then Some refusals.Outstanding else None

-- the client's frames that the controller has not acknowledged
abbrev pub unacked_by_controller : List NumberEvent → ℕ
unacked_by_controller events = from_client events - covered_by (acked_by_controller events) (client_frames events)

-- why the N(R) of a side is refused, if it is
abbrev pub client_ack_refusal : List NumberEvent → ℕ → Option NumberRefusal
client_ack_refusal events nr = receive_refusal (acked_by_client events) (to_client events) nr

-- what is wrong with a receive number of the controller, if anything is
abbrev pub controller_ack_refusal : List NumberEvent → ℕ → Option NumberRefusal
controller_ack_refusal events nr = receive_refusal (acked_by_controller events) (to_controller events) nr

-- why an I frame of the client is refused, if it is, in the order of the tests
abbrev pub client_refusal : List NumberEvent → ℕ → ℕ → Option NumberRefusal
client_refusal events ns nr =
    option_or (send_refusal (from_client events) ns)
    (option_or (client_ack_refusal events nr)
    (option_or (outstanding_refusal (unacked_by_controller events))
    (outstanding_refusal (to_client events - count_from (acked_by_client events) nr))))

-- why an I frame of the controller is refused, if it is, in the order of the tests
abbrev pub controller_refusal : List NumberEvent → ℕ → ℕ → Option NumberRefusal
controller_refusal events ns nr =
    option_or (send_refusal (from_controller events) ns)
    (option_or (controller_ack_refusal events nr) (outstanding_refusal (to_client events - acked_by_client events)))
