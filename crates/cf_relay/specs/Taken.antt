-- Steps of the proof: what taking does to a lane, its queues and its log: `TakesBy`.
use Rattle.cf_audit.specs.declared.line.CutReason.{CutReason}
use Rattle.cf_driver.specs.Takes.{MissesEnd, MissesPiece, Takes}
use Rattle.cf_lane.specs.Handled.{IsLaneOf, IsOpen, LaneValue, State}
use Rattle.cf_lane.specs.History.{taken}
use Rattle.cf_lane.specs.Limit.{limit_by}
use Rattle.cf_lane.specs.declared.limit.TheConstants.{LETTER_LIMIT}
use Rattle.cf_links.specs.Links.{SessionTold, with_answers}
use Rattle.cf_outq.specs.SendQueue.{Queue}
use Rattle.cf_outside.specs.Desk.{DeskValue}
use Rattle.cf_outside.specs.Pair.{Ended, Entry, Got, Idle}
use Rattle.cf_policy.specs.Site.{SiteValue}
use Rattle.cf_stream.specs.Sizes.{window_size}
use Rattle.cf_stream.specs.Stream.{letter_count}
use Rattle.cf_view.specs.declared.Side.{Side}
use Rattle.std.specs.Prelude.{Err, List, None, Ok, Option, Result, Some, [], if◌then◌else◌, length, true, ℕ, ◌+◌, ◌<◌, ◌∷◌, ◌≡◌, ◌≤◌, ◌⊎◌}
use Rattle.cf_view.specs.declared.Side.TheVariants as side
use Rattle.cf_relay.specs.Answers.{element_of, idles_after}
use Rattle.cf_relay.specs.Reading.{most_back}
use Rattle.cf_relay.specs.Turn.{IsTakeAnswer}
use Rattle.cf_relay.specs.declared.directions.Directions.{Directions}
use Rattle.cf_relay.specs.declared.stop.Stop.{Stop}
use Rattle.cf_relay.specs.declared.stop.Stop.TheVariants as stop

-- of two queues the one that the bytes of a side go to, and the one back to it
abbrev pub onward_of : Side → (to_client to_controller : Queue) → Queue
onward_of side.Client to_client to_controller = to_controller
onward_of side.Controller to_client to_controller = to_client

abbrev pub back_of : Side → (to_client to_controller : Queue) → Queue
back_of side.Client to_client to_controller = to_client
back_of side.Controller to_client to_controller = to_controller

-- at most so many letters of a queue wait, End counted
abbrev pub WaitAtMost : ℕ → Queue → Type 0
WaitAtMost most q = length q.kept + (if q.ended then 1 else 0) ≤ most

-- a side has not ended, and neither queue has more letters than it may have as the side is read
pub record MayTakeNow (directions : Directions) (site : SiteValue) (s : Side) (to_client to_controller : Queue) : Type 0 where
  pub open_still : IsOpen s to_client to_controller
  pub onward : WaitAtMost window_size (onward_of s to_client to_controller)
  pub back : WaitAtMost (most_back directions site) (back_of s to_client to_controller)

-- the letters of a side that an answer brings
abbrev pub letters_brought : (moment : ℕ) → Side → Entry → ℕ
letters_brought moment s answer = letter_count (taken s (element_of moment answer))

-- a line of the bytes that a side gave failed, or that of its End
abbrev pub MissesLine : SiteValue → (moment : ℕ) → Side → Entry → (rest : List ℕ) → (old : State) → DeskValue → Type 0
MissesLine site moment s answer rest old desk =
    ((bytes : List ℕ) × (answer ≡ Got s bytes) × MissesPiece site moment s bytes rest old desk.lines desk.line_part)
    ⊎ ((answer ≡ Ended s) × MissesEnd site moment s rest old desk.lines desk.line_part)

-- a side that was asked answered
pub record AnswersTo (moment : ℕ) (s : Side) (answer : Entry) (told_before told_after : SessionTold)
    (idle_before idle_after letters_before letters_after : ℕ) : Type 0 where
  pub is_taken : IsTakeAnswer s answer
  pub tells : told_after ≡ with_answers told_before (answer ∷ [])
  pub idles : idle_after ≡ idles_after idle_before (answer ∷ [])
  pub letters : letters_after ≡ letters_before + letters_brought moment s answer

-- what a call on a side and its lane changes
pub record TakeState : Type 0 where
  pub state : State
  pub rest : List ℕ
  pub letters : ℕ
  pub idle : ℕ
  pub told : SessionTold

abbrev pub take_state : State → (rest : List ℕ) → (letters idle : ℕ) → SessionTold → TakeState
take_state state rest letters idle told = record { state = state; rest = rest; letters = letters; idle = idle; told = told }

-- a side was asked, answered, and the lane handled it
pub record TakesAnswer (site : SiteValue) (moment : ℕ) (s : Side) (cut : Option CutReason) (old new : TakeState) : Type 0 where
  pub answer : Entry
  pub answers : AnswersTo moment s answer old.told new.told old.idle new.idle old.letters new.letters
  pub hears : Takes site s (element_of moment answer) cut old.rest new.rest old.state new.state

-- what came of asking a side, which happens exactly where it may be
abbrev pub TakesBy : Directions → SiteValue → (moment most : ℕ) → Side → (old new : TakeState) → DeskValue → Result Unit Stop → Type 0
TakesBy directions site moment most s old new desk (Ok done) =
    ((MayTakeNow directions site s old.state.to_client old.state.to_controller → ⊥) × (new ≡ old))
    ⊎ (MayTakeNow directions site s old.state.to_client old.state.to_controller × (new.idle < most) × TakesAnswer site moment s None old new)
TakesBy directions site moment most s old new desk (Err stop.Idle) =
    MayTakeNow directions site s old.state.to_client old.state.to_controller × (new.idle ≡ most)
    × (new ≡ record old { idle = old.idle + 1; told = with_answers old.told (Idle s ∷ []) })
TakesBy directions site moment most s old new desk (Err stop.Link) = new ≡ old
TakesBy directions site moment most s old new desk (Err stop.Write) =
    MayTakeNow directions site s old.state.to_client old.state.to_controller
    × ((answer : Entry) × AnswersTo moment s answer old.told new.told old.idle new.idle old.letters new.letters
    × MissesLine site moment s answer old.rest old.state desk)
TakesBy directions site moment most s old new desk (Err (stop.Cut reason)) =
    MayTakeNow directions site s old.state.to_client old.state.to_controller × TakesAnswer site moment s (Some reason) old new

-- the lane of a relay that stopped is one of the site still, unless a write failed
abbrev pub KeepsLane : SiteValue → LaneValue → Stop → Type 0
KeepsLane site lane stop.Idle = IsLaneOf site lane
KeepsLane site lane stop.Link = IsLaneOf site lane
KeepsLane site lane stop.Write = Unit {0}
KeepsLane site lane (stop.Cut reason) = IsLaneOf site lane

-- the desk may be called again, unless a write failed
abbrev pub StaysWhole : Result Unit Stop → DeskValue → Type 0
StaysWhole (Ok done) desk = desk.whole ≡ true
StaysWhole (Err stop.Idle) desk = desk.whole ≡ true
StaysWhole (Err stop.Link) desk = desk.whole ≡ true
StaysWhole (Err stop.Write) desk = Unit {0}
StaysWhole (Err (stop.Cut reason)) desk = desk.whole ≡ true

-- the stop by the limit on the streams: their numbers of letters, those taken of both sides and those of both queues
abbrev pub LimitBy : (client controller to_client to_controller : ℕ) → Result Unit Stop → Type 0
LimitBy a b c d (Ok done) = limit_by LETTER_LIMIT a b c d ≡ None
LimitBy a b c d (Err stop.Idle) = ⊥
LimitBy a b c d (Err stop.Link) = ⊥
LimitBy a b c d (Err stop.Write) = ⊥
LimitBy a b c d (Err (stop.Cut reason)) = limit_by LETTER_LIMIT a b c d ≡ Some reason
