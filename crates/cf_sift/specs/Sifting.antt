-- Steps of the proof: what is kept between two elements of a stored stream, and what it stands for: `IsSiftingOf`.
use Rattle.cf_lane.specs.Caller.{none_before}
use Rattle.std.specs.Prelude.{◌≡◌, ◌⊎◌, ◌++◌, ◌∷◌, ℕ, ◌+◌, ◌^◌, ◌<◌, ◌≤◌, true, false, List, [], length, Option, None}
use Rattle.cf_audit.specs.declared.line.CutReason.{CutReason}
use Rattle.cf_lane.specs.Follows.{Follows, Rests}
use Rattle.cf_lane.specs.Handled.{IsLaneOf, State, debt, debt_limit, rest_limit, state}
use Rattle.cf_lane.specs.History.{Element, ended_of, taken}
use Rattle.cf_outq.specs.SendQueue.{Queue, queue_length}
use Rattle.cf_outside.specs.Files.{Content}
use Rattle.cf_outside.specs.Lines.{ends_with_line, file_lines}
use Rattle.cf_policy.specs.Site.{SiteValue}
use Rattle.cf_stream.specs.Stream.{letter_count}
use Rattle.cf_view.specs.declared.Endpoint.{Endpoint}
use Rattle.cf_view.specs.declared.Side.TheVariants as side
use Rattle.cf_sift.specs.Drained.{Drains, MovesPart}
use Rattle.cf_sift.specs.Names.{SiftNamesValue}
use Rattle.cf_sift.specs.Sifted.{ElementFails, HasOut, HasReplies}
use Rattle.cf_sift.specs.Stored.{cut_behind}
use Rattle.cf_sift.specs.declared.sifting.Sifting.{Sifting}

-- the lane of a sifting with its queues, and a log
abbrev pub state_of : Sifting → Content → State
state_of sifting log = state sifting.lane sifting.to_client sifting.to_controller (file_lines log)

-- the client's bytes that are no whole unit yet, and none of the controller
abbrev pub client_rests : List ℕ → Rests
client_rests rest = record { client = rest; controller = [] }

-- all bytes of the queue were moved, and it goes on
pub record IsDrained (q : Queue) : Type 0 where
  pub kept : q.kept ≡ []
  pub goes : q.ended ≡ false
  pub few : queue_length q < 2 ^ 30

-- a sifting can take an element, whatever came before
pub record IsReady (site : SiteValue) (sifting : Sifting) : Type 0 where
  pub of_site : IsLaneOf site sifting.lane
  pub debt : debt sifting.lane ≤ debt_limit site
  pub client : IsDrained sifting.to_client
  pub controller : IsDrained sifting.to_controller
  pub rest : length sifting.heard.rest.items < rest_limit
  pub counts : sifting.lane.admitted + sifting.lane.refused + length sifting.heard.rest.items ≤ sifting.heard.letters
  pub few : sifting.heard.letters < 2 ^ 30

module _ (site : SiteValue) (client : Endpoint) (names : SiftNamesValue) (first now : List ℕ → Content) where
  -- a sifting and the outputs stand for a history, of which nothing is left in the queues; an item cuts it so
  pub record IsSiftingOf (history : List Element) (cut : Option CutReason) (sifting : Sifting) : Type 0 where
    pub follows : Follows site none_before history (client_rests sifting.heard.rest.items) cut (file_lines (first names.log))
        (state_of sifting (now names.log))
    pub of_client : sifting.lane.client ≡ client
    pub of_out : HasOut site client names first now follows.judged
    pub of_replies : HasReplies site client names first now follows.judged
    pub log_first : ends_with_line (first names.log) ≡ true
    pub log_now : ends_with_line (now names.log) ≡ true
    pub letters : sifting.heard.letters ≡ letter_count (taken side.Client history)
    pub ends : sifting.to_controller.ended ≡ ended_of side.Client history
    pub quiet : letter_count (taken side.Controller history) ≡ 0

  -- so it is after an element, after which the history is cut so
  pub record IsSiftingAfter (history : List Element) (cut : Option CutReason) (sifting : Sifting) : Type 0 where
    pub by_item : Option CutReason
    pub sifting_of : IsSiftingOf history by_item sifting
    pub is_cut : cut_behind site history sifting_of.follows.judged ≡ cut

-- an element was taken: so it is of each history that the sifting stood for
abbrev pub TakesElement : SiteValue → SiftNamesValue → Element → (old new : Sifting) → (before after : List ℕ → Content) → Option CutReason
    → Type 0
TakesElement site names element old new before after cut =
    (client : Endpoint) (first : List ℕ → Content) (h : List Element) → IsSiftingOf site client names first before h None old →
    IsSiftingAfter site client names first after (h ++ element ∷ []) cut new

-- a write failed at it
abbrev pub FailsElement : SiteValue → SiftNamesValue → Element → (old : Sifting) → (before after : List ℕ → Content) → Type 0
FailsElement site names element old before after =
    (client : Endpoint) (first : List ℕ → Content) (h : List Element) → (was : IsSiftingOf site client names first before h None old) →
    ElementFails site client names first after h was.follows.judged element

-- an append to OUT failed, and nothing was done for REPLIES; or one to REPLIES did, and OUT has all
abbrev pub MovesFail : SiftNamesValue → (old new : Sifting) → (before after : List ℕ → Content) → Type 0
MovesFail names old new before after =
    (MovesPart old.to_controller new.to_controller (before names.out) (after names.out)
    × (new.to_client ≡ old.to_client) × (after names.replies ≡ before names.replies))
    ⊎ (Drains old.to_controller new.to_controller (before names.out) (after names.out)
    × MovesPart old.to_client new.to_client (before names.replies) (after names.replies))
