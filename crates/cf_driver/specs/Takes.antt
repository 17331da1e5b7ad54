-- Steps of the proof: what it does to a lane, its queues and its log that letters of a side are taken, whatever history came
-- before: `Takes`; and what a line that failed leaves of it, `MissesPiece` and `MissesEnd`.
use Rattle.cf_audit.specs.declared.line.CutReason.{CutReason}
use Rattle.cf_lane.specs.Caller.{RateMoments}
use Rattle.cf_lane.specs.Follows.{AddsTo, BeganApart, BeganApartWithin, Follows, Rests, over, rest_of, with_rest}
use Rattle.cf_lane.specs.Handled.{IsLaneOf, State, debt, debt_limit, rest_limit}
use Rattle.cf_lane.specs.History.{Element, bytes_of, end_at, ended_of}
use Rattle.cf_outq.specs.SendQueue.{Queue}
use Rattle.cf_policy.specs.Site.{SiteValue}
use Rattle.cf_view.specs.declared.Side.{Side}
use Rattle.std.specs.Prelude.{List, None, Option, [], length, ℕ, ◌++◌, ◌+◌, ◌<◌, ◌∷◌, ◌≡◌, ◌≤◌, ◌||◌}
use Rattle.cf_view.specs.declared.Side.TheVariants as side

-- the marks of a queue are as they were: nothing of it was sent, acknowledged or shown
pub record OnlyPushed (old new : Queue) : Type 0 where
  pub acked : new.acked ≡ old.acked
  pub sent : new.sent ≡ old.sent
  pub shown : new.shown ≡ old.shown

-- elements of a side were taken, and cut the session or not: so it is of each history that was followed. The bytes that are no
-- whole unit stood before the first element, and stand after the last
pub record Takes (site : SiteValue) (s : Side) (elements : List Element) (cut : Option CutReason) (rest_before rest_after : List ℕ)
    (old new : State) : Type 0 where
  pub follows : (before : RateMoments) (h : List Element) (rests : Rests) (first own : Option (List (List ℕ)))
      → rest_before ≡ rest_of s rests → Follows site before h rests None first (over own old)
      → AddsTo site before (h ++ elements) (with_rest s rests rest_after) cut first own old.lines new
  pub short : length rest_after < rest_limit
  pub of_site : IsLaneOf site new.lane
  pub debt : debt new.lane ≤ debt_limit site
  pub client : new.lane.client ≡ old.lane.client
  pub to_client : OnlyPushed old.to_client new.to_client
  pub to_controller : OnlyPushed old.to_controller new.to_controller
  -- a queue has its End where it had it, or where the other side ended
  pub client_ended : new.to_controller.ended ≡ (old.to_controller.ended || ended_of side.Client elements)
  pub controller_ended : new.to_client.ended ≡ (old.to_client.ended || ended_of side.Controller elements)
  -- a command for each byte at most
  pub counts : new.lane.admitted + new.lane.refused + length rest_after
      ≤ old.lane.admitted + old.lane.refused + (length rest_before + length (bytes_of s elements))

-- a line of a piece failed: of each history that was followed the log has the first lines, up to a unit of the piece
abbrev pub MissesPiece : SiteValue → (moment : ℕ) → Side → (piece rest : List ℕ) → (old : State) → (log : Option (List (List ℕ)))
    → (part : List ℕ) → Type 0
MissesPiece site moment s piece rest old log part =
    (before : RateMoments) (h : List Element) (rests : Rests) (first own : Option (List (List ℕ))) → rest ≡ rest_of s rests
    → Follows site before h rests None first (over own old)
    → BeganApartWithin site before old.lane.client h moment s piece first own old.lines log part

-- the line of an End failed
abbrev pub MissesEnd : SiteValue → (moment : ℕ) → Side → (rest : List ℕ) → (old : State) → (log : Option (List (List ℕ)))
    → (part : List ℕ) → Type 0
MissesEnd site moment s rest old log part =
    (before : RateMoments) (h : List Element) (rests : Rests) (first own : Option (List (List ℕ))) → rest ≡ rest_of s rests
    → Follows site before h rests None first (over own old)
    → BeganApart site before old.lane.client (h ++ end_at moment s ∷ []) first own old.lines log part
