-- What a relay keeps between two stages stands for the list of answers: StandsFor; and what it stands for as it stops.
use Rattle.cf_lane.specs.Caller.{RateMoments}
use Rattle.cf_audit.specs.declared.line.CutReason.{CutReason}
use Rattle.cf_lane.specs.Follows.{Began, Follows, no_rests}
use Rattle.cf_lane.specs.Handled.{IsLaneOf, LaneValue, debt, state}
use Rattle.cf_lane.specs.History.{Element, bytes_at, ended_of, taken}
use Rattle.cf_lane.specs.Judged.{Judged, is_admitted, is_refused}
use Rattle.cf_lane.specs.Limit.{limit_cut}
use Rattle.cf_lane.specs.Log.{lines, with_lines}
use Rattle.cf_lane.specs.Output.{other, outputs, stream_to}
use Rattle.cf_lane.specs.declared.limit.TheConstants.{LETTER_LIMIT}
use Rattle.cf_lane.specs.Rings.{KnowsRules}
use Rattle.cf_outq.specs.SendQueue.{IsQueueOf, Queue}
use Rattle.cf_outside.specs.Pair.{Entry}
use Rattle.cf_policy.specs.Site.{SiteValue}
use Rattle.cf_stream.specs.Stream.{letter_count, no_letters}
use Rattle.cf_view.specs.declared.Endpoint.{Endpoint}
use Rattle.cf_view.specs.declared.Side.{Side}
use Rattle.std.specs.Prelude.{List, None, Option, Some, [], count_by, length, true, ℕ, ◌++◌, ◌<◌, ◌∷◌, ◌≡◌, ◌⊎◌}
use Rattle.cf_view.specs.declared.Side.TheVariants as side
use Rattle.cf_relay.specs.Answers.{client_of, given, history_of, idle_run, is_finished, moment_of}
use Rattle.cf_relay.specs.Relaying.{RelayingValue, is_closed, lane_state, letters_from, queue_to, rests_of}
use Rattle.cf_relay.specs.Turn.{AreItemsOf, cut_at}
use Rattle.cf_relay.specs.declared.stop.Stop.{Stop}
use Rattle.cf_relay.specs.declared.stop.Stop.TheVariants as stop

-- a log got lines, by which something goes on that stands over lines of its own: the log may have lines of others besides
pub record Apart (own old new : Option (List (List ℕ))) (Stands : Option (List (List ℕ)) → Type 0) : Type 0 where
  pub more : List (List ℕ)
  pub added : new ≡ with_lines old more
  pub stands : Stands (with_lines own more)

-- lane, queues and log have the history of the list, which nothing cuts
pub record StandsFor (site : SiteValue) (past : RateMoments) (first : Option (List (List ℕ))) (es : List Entry) (now : RelayingValue)
    (lines : Option (List (List ℕ))) : Type 0 where
  pub follows : Follows site past (history_of es) (rests_of now) None first (lane_state now lines)
  pub uncut : limit_cut LETTER_LIMIT (history_of es) (stream_to site side.Client follows.judged)
      (stream_to site side.Controller follows.judged) ≡ None
  pub client : now.lane.client ≡ client_of es
  -- the bytes given left their queue
  pub acked : (s : Side) → (queue_to s now).acked ≡ length (given s es)
  pub front : (s : Side) → outputs site s [] follows.judged ≡ given s es ++ (queue_to s now).kept
  -- a queue has its End where the other side has ended
  pub ended : (s : Side) → (queue_to s now).ended ≡ ended_of (other s) (history_of es)
  pub letters : (s : Side) → letters_from s now ≡ letter_count (taken s (history_of es))
  pub closed : (s : Side) → is_closed s now ≡ is_finished s es
  -- a side that was closed was given all, and nothing more comes for it
  pub done : (s : Side) → is_closed s now ≡ true → ((queue_to s now).kept ≡ []) × ((queue_to s now).ended ≡ true)
  pub moment : now.moment ≡ moment_of es
  pub idle : now.idle ≡ idle_run es

-- a lane of a site and a client that has handled nothing: with two empty queues it follows an empty history over any log
pub record IsNewLane (site : SiteValue) (past : RateMoments) (client : Endpoint) (lane : LaneValue) : Type 0 where
  pub of_site : IsLaneOf site lane
  pub of_client : lane.client ≡ client
  pub counts : (lane.admitted ≡ 0) × (lane.refused ≡ 0) × (debt lane ≡ 0)
  pub follows : (to_client to_controller : Queue) (first : Option (List (List ℕ))) → IsQueueOf to_client no_letters
      → IsQueueOf to_controller no_letters → Follows site past [] no_rests None first (state lane to_client to_controller first)

-- each side was given a prefix of the stream to it
abbrev pub IsPrefix : List ℕ → List ℕ → Type 0
IsPrefix xs all = (more : List ℕ) × (all ≡ xs ++ more)

-- each side was given a beginning of the stream to it
abbrev pub GivenPrefixes : SiteValue → List Entry → List Judged → Type 0
GivenPrefixes site es js = (s : Side) → IsPrefix (given s es) (outputs site s [] js)

-- the numbers of the lane are those of the items
pub record IsCounted (js : List Judged) (admits refuses : ℕ) : Type 0 where
  pub admitted : admits ≡ count_by (λ j. is_admitted j.fate) js
  pub refused : refuses ≡ count_by (λ j. is_refused j.fate) js

-- the list is cut, and lane and log have its items
pub record StandsCut (site : SiteValue) (past : RateMoments) (first : Option (List (List ℕ))) (es : List Entry) (now : RelayingValue)
    (log : Option (List (List ℕ))) (reason : CutReason) : Type 0 where
  pub judged : List Judged
  pub are_items : AreItemsOf site past es judged
  pub is_cut : cut_at site es judged ≡ Some reason
  pub prefixes : GivenPrefixes site es judged
  pub counts : IsCounted judged now.lane.admitted now.lane.refused
  pub rules : KnowsRules site past now.lane.rules judged
  pub of_lines : log ≡ with_lines first (lines site (client_of es) [] judged)
  pub client : now.lane.client ≡ client_of es
  pub moment : now.moment ≡ moment_of es

-- a history as it is, or with the bytes of its last element cut short
abbrev pub IsCutShort : (short whole : List Element) → Type 0
IsCutShort short whole =
    (short ≡ whole)
    ⊎ ((earlier : List Element) × (moment : ℕ) × (s : Side) × (bytes more : List ℕ)
    × (short ≡ earlier ++ bytes_at moment s bytes ∷ []) × (whole ≡ earlier ++ bytes_at moment s (bytes ++ more) ∷ []))

-- a line failed: the log has a beginning of the lines of the items up to there
pub record StandsMissed (site : SiteValue) (past : RateMoments) (first : Option (List (List ℕ))) (es : List Entry)
    (log : Option (List (List ℕ))) (part : List ℕ) : Type 0 where
  pub history : List Element
  pub is_short : IsCutShort history (history_of es)
  pub began : Began site past (client_of es) history first log part
  pub prefixes : GivenPrefixes site es began.judged

-- what a relay that stops stands for, with its list
abbrev pub StandsStopped : SiteValue → (past : RateMoments) → (most : ℕ) → (first : Option (List (List ℕ))) → List Entry → Stop → RelayingValue
    → (log : Option (List (List ℕ))) → (part : List ℕ) → Type 0
StandsStopped site past most first es stop.Idle now log part = StandsFor site past first es now log × (now.idle ≡ most)
StandsStopped site past most first es stop.Link now log part = StandsFor site past first es now log × (now.idle < most)
StandsStopped site past most first es stop.Write now log part = StandsMissed site past first es log part
StandsStopped site past most first es (stop.Cut reason) now log part = StandsCut site past first es now log reason
