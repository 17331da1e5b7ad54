-- The turns of a relay, as what its pair's list may say. The main definitions are `turn`, `IsStage`, `DoesStages` and `IsRelayed`.
--
-- The list is the meeting, one moment, and then turns of seven stages. Each stage adds answers to the list under conditions
-- on the list so far alone. The list may break off before a stage, or within the gives of one. (The code keeps two queues,
-- a few numbers and two marks, and reads no list.)
use Rattle.cf_lane.specs.Caller.{RateMoments, caller_at}
use Rattle.cf_audit.specs.declared.line.CutReason.{CutReason}
use Rattle.cf_lane.specs.Follows.{AreJudged}
use Rattle.cf_lane.specs.History.{ended_of}
use Rattle.cf_lane.specs.Judged.{Judged, cut_of, has_ended}
use Rattle.cf_lane.specs.Limit.{limit_cut}
use Rattle.cf_lane.specs.Output.{other, outputs, stream_to}
use Rattle.cf_lane.specs.declared.limit.TheConstants.{LETTER_LIMIT}
use Rattle.cf_outside.specs.Pair.{Ended, Entry, Finished, Got, Idle, Met, Moment, Took, met_at}
use Rattle.cf_policy.specs.Site.{SiteValue}
use Rattle.cf_stream.specs.Sizes.{window_size}
use Rattle.cf_stream.specs.Stream.{Stream, letter_count}
use Rattle.cf_view.specs.declared.Endpoint.{Endpoint}
use Rattle.cf_view.specs.declared.Side.{Side}
use Rattle.std.specs.List.{AllByRecursion, concat}
use Rattle.std.specs.Option.{option_or}
use Rattle.std.specs.Prelude.{List, None, Option, [], drop, false, length, map, suc, true, zero, ℕ, ◌++◌, ◌<◌, ◌∷◌, ◌≡◌, ◌≤◌, ◌⊎◌}
use Rattle.cf_view.specs.declared.Side.TheVariants as side
use Rattle.cf_relay.specs.declared.directions.Directions.{Directions}
use Rattle.cf_relay.specs.declared.limit.TheConstants.{MOST_BYTES}
use Rattle.cf_relay.specs.Answers.{are_finished, client_of, given, history_of, idle_run, is_finished}
use Rattle.cf_relay.specs.Reading.{most_back}

-- the judged items of the history that the list has, of a client whose earlier sessions used what is past
abbrev pub AreItemsOf : SiteValue → (past : RateMoments) → List Entry → List Judged → Type 0
AreItemsOf site past es js = AreJudged site (caller_at (client_of es).address past) (history_of es) js

-- why the list is cut: by the first item that cuts, or else by a stream that reached the limit
abbrev pub cut_at : SiteValue → List Entry → List Judged → Option CutReason
cut_at site es js =
    option_or (cut_of js) (limit_cut LETTER_LIMIT (history_of es) (stream_to site side.Client js)
    (stream_to site side.Controller js))

-- the relay goes on after this list: nothing cuts it, and fewer answers Idle stand at its end than the number that ends it
pub record IsUnstopped (site : SiteValue) (past : RateMoments) (most : ℕ) (es : List Entry) : Type 0 where
  pub judged : List Judged
  pub are_items : AreItemsOf site past es judged
  pub uncut : cut_at site es judged ≡ None
  pub idle : idle_run es < most

-- a side's queue: the stream to it, without the bytes that it took
abbrev pub queue_of : SiteValue → (to : Side) → List Entry → List Judged → Stream
queue_of site to es js = record { bytes = drop (length (given to es)) (outputs site to [] js); ended = has_ended (other to) js }

-- a side may be asked for bytes: it has not ended, the queue that they go to has at most 16,384 letters, and the one back to the side at
-- most so many as its directions say
pub record MayTake (directions : Directions) (site : SiteValue) (s : Side) (es : List Entry) (js : List Judged) : Type 0 where
  pub open_still : ended_of s (history_of es) ≡ false
  pub onward : letter_count (queue_of site (other s) es js) ≤ window_size
  pub back : letter_count (queue_of site s es js) ≤ most_back directions site

-- an answer to that: one byte to `MOST_BYTES`, End, or Idle
abbrev pub IsTakeAnswer : Side → Entry → Type 0
IsTakeAnswer s (Met meeting) = ⊥
IsTakeAnswer s (Moment moment) = ⊥
IsTakeAnswer s (Got of bytes) = (of ≡ s) × (1 ≤ length bytes) × (length bytes ≤ MOST_BYTES)
IsTakeAnswer s (Took of bytes) = ⊥
IsTakeAnswer s (Ended of) = of ≡ s
IsTakeAnswer s (Idle of) = of ≡ s
IsTakeAnswer s (Finished of) = ⊥

-- the list is not empty
abbrev pub HasBytes : List ℕ → Type 0
HasBytes [] = ⊥
HasBytes (x ∷ xs) = Unit {0}

-- what a side took in one give, which is handed at most `MOST_BYTES` of the oldest bytes that wait
abbrev pub IsGivePiece : List ℕ → Type 0
IsGivePiece bytes = (1 ≤ length bytes) × (length bytes ≤ MOST_BYTES)

-- a side took pieces from the front of its queue
pub record TookPieces (s : Side) (queued : List ℕ) (pieces : List (List ℕ)) (rest : List ℕ) : Type 0 where
  pub split : queued ≡ concat pieces ++ rest
  pub each : AllByRecursion IsGivePiece pieces

-- a side is given queued bytes until the queue is empty or Idle comes
pub record GivesQueued (s : Side) (queued : List ℕ) (answers : List Entry) : Type 0 where
  pub pieces : List (List ℕ)
  pub rest : List ℕ
  pub took : TookPieces s queued pieces rest
  pub until : ((rest ≡ []) × (answers ≡ map (Took s) pieces)) ⊎ (HasBytes rest × (answers ≡ map (Took s) pieces ++ Idle s ∷ []))

-- answers that give what is queued, broken off where bytes are left
pub record BeginsToGive (s : Side) (queued : List ℕ) (answers : List Entry) : Type 0 where
  pub pieces : List (List ℕ)
  pub rest : List ℕ
  pub took : TookPieces s queued pieces rest
  pub left : HasBytes rest
  pub all : answers ≡ map (Took s) pieces

-- a side may be closed for sending: End is all that is left for it, and it was not closed before
pub record MayFinish (site : SiteValue) (s : Side) (es : List Entry) (js : List Judged) : Type 0 where
  pub empty : (queue_of site s es js).bytes ≡ []
  pub ends : (queue_of site s es js).ended ≡ true
  pub first : is_finished s es ≡ false

-- a stage of a relay: meeting, telling the moment, taking from a side, giving to a side, or closing it
pub data Stage : Type 0 where
  -- at a port
  Meeting : ℕ → Stage
  Telling : Stage
  Taking : Directions → Side → Stage
  Giving : Side → Stage
  Finishing : Side → Stage

-- a turn: the moment; what the client and then the controller sends; what is queued for the controller and then for the client
abbrev pub turn : Directions → List Stage
turn directions =
    Telling ∷ Taking directions side.Client ∷ Taking directions side.Controller ∷ Giving side.Controller ∷ Finishing side.Controller
    ∷ Giving side.Client ∷ Finishing side.Client ∷ []

-- the stages of so many turns
abbrev pub turns : Directions → ℕ → List Stage
turns directions zero = []
turns directions (suc n) = turns directions n ++ turn directions

-- the meeting at a port, one moment, and then so many turns
abbrev pub stages : Directions → (listen : ℕ) → ℕ → List Stage
stages directions listen n = Meeting listen ∷ Telling ∷ turns directions n

-- what a stage adds to the list: a client is met beside the controller, at the endpoint of the site's assets; no turn begins once both
-- sides are closed
abbrev pub HasAnswers : SiteValue → Stage → (before : List Entry) → List Judged → (answers : List Entry) → Type 0
HasAnswers site (Meeting listen) before js answers = (client : Endpoint) × (answers ≡ met_at listen site.first.endpoint client ∷ [])
HasAnswers site Telling before js answers = (are_finished before ≡ false) × ((moment : ℕ) × (answers ≡ Moment moment ∷ []))
HasAnswers site (Taking directions s) before js answers =
    (MayTake directions site s before js × ((answer : Entry) × IsTakeAnswer s answer × (answers ≡ answer ∷ []))) ⊎
    ((MayTake directions site s before js → ⊥) × (answers ≡ []))
HasAnswers site (Giving s) before js answers = GivesQueued s (queue_of site s before js).bytes answers
HasAnswers site (Finishing s) before js answers =
    (MayFinish site s before js × (answers ≡ Finished s ∷ [])) ⊎ ((MayFinish site s before js → ⊥) × (answers ≡ []))

-- a stage is done only where the relay goes on
abbrev pub IsStage : SiteValue → (past : RateMoments) → (most : ℕ) → Stage → (before answers : List Entry) → Type 0
IsStage site past most stage before answers = (goes : IsUnstopped site past most before)
    × HasAnswers site stage before goes.judged answers

-- a stage that breaks off: nothing of it, or the first of its gives
abbrev pub BeginsStage : SiteValue → (past : RateMoments) → (most : ℕ) → Stage → (before answers : List Entry) → Type 0
BeginsStage site past most (Meeting listen) before answers = answers ≡ []
BeginsStage site past most Telling before answers = answers ≡ []
BeginsStage site past most (Taking directions s) before answers = answers ≡ []
BeginsStage site past most (Giving s) before answers =
    (answers ≡ []) ⊎ ((goes : IsUnstopped site past most before) × BeginsToGive s (queue_of site s before goes.judged).bytes answers)
BeginsStage site past most (Finishing s) before answers = answers ≡ []

-- the stages, one after the other
abbrev pub DoesStages : SiteValue → (past : RateMoments) → (most : ℕ) → List Stage → (before answers : List Entry) → Type 0
DoesStages site past most [] before answers = answers ≡ []
DoesStages site past most (stage ∷ later) before answers =
    (now next : List Entry) × (answers ≡ now ++ next) × IsStage site past most stage before now × DoesStages site past most later
    (before ++ now) next

-- the stages, broken off before one of them, within one, or after the last
abbrev pub BeginsStages : SiteValue → (past : RateMoments) → (most : ℕ) → List Stage → (before answers : List Entry) → Type 0
BeginsStages site past most [] before answers = answers ≡ []
BeginsStages site past most (stage ∷ later) before answers =
    BeginsStage site past most stage before answers
    ⊎ ((now next : List Entry) × (answers ≡ now ++ next) × IsStage site past most stage before now × BeginsStages site past most later
    (before ++ now) next)

-- the list of a relay that stops, of a port
abbrev pub IsRelayed : Directions → SiteValue → (past : RateMoments) → (listen most : ℕ) → List Entry → Type 0
IsRelayed directions site past listen most es = (n : ℕ) × BeginsStages site past most (stages directions listen n) [] es
