-- Steps of the proof: what a frame of DNP3 does to the fragments of a lane, to its two queues and to the log: `TakesFrame`.
use Rattle.cf_lane.specs.Rates.{Says}
use Rattle.cf_dnplink.specs.LinkFrame.{FrameValue}
use Rattle.cf_dnptrans.specs.AssemblyValue.{AssemblyValue, IsAssemblyOf}
use Rattle.cf_dnptrans.specs.Passing.{completed}
use Rattle.cf_dnptrans.specs.Segments.{count_of}
use Rattle.cf_dnptrans.specs.Transport.{answer_to}
use Rattle.cf_dnptrans.specs.declared.assembly.SegmentAnswer.{SegmentAnswer}
use Rattle.cf_lane.specs.Dnp3.{fate_of_frame, fate_of_segment, frame_fragment, frame_octets, frame_output, frames_at, stray_of}
use Rattle.cf_lane.specs.Handled.{MayHaveMore, Outlets, judged}
use Rattle.cf_lane.specs.Item.{Took}
use Rattle.cf_lane.specs.Judged.{Judged, fate_cut, has_ended}
use Rattle.cf_lane.specs.Kept.{KnowsFragments, of_side}
use Rattle.cf_lane.specs.Log.{is_some_bytes, unit_lines, with_lines}
use Rattle.cf_lane.specs.Output.{other}
use Rattle.cf_lane.specs.Unit.{Frame}
use Rattle.cf_lane.specs.declared.fate.Fate.{Fate}
use Rattle.cf_lane.specs.declared.wire.Fragments.{Fragments}
use Rattle.cf_outq.specs.SendQueue.{Queue, after_push}
use Rattle.cf_policy.specs.declared.Asset.{Asset}
use Rattle.cf_view.specs.declared.Endpoint.{Endpoint}
use Rattle.cf_view.specs.declared.Side.{Side}
use Rattle.std.specs.List.{flat_map, sum_by}
use Rattle.std.specs.Prelude.{Bool, List, None, Option, Some, [], length, set, slice_get, true, ℕ, ◌%◌, ◌++◌, ◌+◌, ◌/◌, ◌∷◌, ◌≡◌}
use Rattle.cf_dnptrans.specs.declared.assembly.SegmentAnswer.TheVariants as answers
use Rattle.cf_view.specs.declared.Side.TheVariants as side

-- the most octets that a fragment of so many octets has once it is cut anew
abbrev pub recut_most : ℕ → ℕ
recut_most n = n + n / 4 + 16

-- what a frame reads and writes: the fragments, the queues and the log
pub record Parts : Type 0 where
  pub fragments : Fragments
  pub to_client : Queue
  pub to_controller : Queue
  pub lines : Option (List (List ℕ))

abbrev pub parts : Fragments → Queue → Queue → Option (List (List ℕ)) → Parts
parts fragments to_client to_controller lines = record {
  fragments = fragments;
  to_client = to_client;
  to_controller = to_controller;
  lines
      = lines;
}

-- the segments of some fragments
abbrev pub counted : List (List ℕ) → ℕ
counted fragments = sum_by (λ octets. count_of (length octets)) fragments

-- fragments go into the stream to a side, the first with this transport sequence, and leave the next one
pub record Sends (asset : Asset) (to : Side) (fragments : List (List ℕ)) (sequence : ℕ) (queue : Queue) (next : ℕ) (new : Queue) : Type 0
  where
    pub put : new ≡ after_push queue (flat_map (frames_at asset to sequence) fragments)
    pub next_is : next ≡ (sequence + counted fragments) % 64
    -- nothing follows an End
    pub quiet : queue.ended ≡ true → fragments ≡ []

-- whether the frames of fragments have any octet
abbrev pub frames_exist : Asset → Side → (sequence : ℕ) → List (List ℕ) → Bool
frames_exist asset to sequence fragments = is_some_bytes (flat_map (frames_at asset to sequence) fragments)

-- the lines of a data frame of this fate, which may have completed a fragment
abbrev pub data_lines : Asset → Endpoint → ℕ → Side → Fate → List (List ℕ) → (sequence : ℕ) → (to_client : Queue) → List (List ℕ)
data_lines asset client moment s f whole sequence to_client =
    unit_lines asset client moment (frames_exist asset side.Client sequence (frame_fragment side.Client to_client.ended s f whole)) s
    (flat_map (λ octets. octets) whole) f

-- the fragment that a segment completed, if it did
abbrev pub completed_by : SegmentAnswer → AssemblyValue → List (List ℕ)
completed_by answer assembly = completed answer (Some assembly.octets)

-- the most octets that go out to a side for a segment with this answer
abbrev pub sent_most : SegmentAnswer → AssemblyValue → ℕ
sent_most answers.More assembly = 0
sent_most (answers.Dropped because) assembly = 0
sent_most answers.Whole assembly = recut_most (length assembly.octets + 2)

-- a segment of a side was put to its fragment
pub record AddsSegment (s : Side) (user : List ℕ) (answer : SegmentAnswer) (old new : Fragments) : Type 0 where
  pub answered : (segments : List (List ℕ)) → IsAssemblyOf (of_side s old) segments → answer ≡ answer_to segments user
  pub stands : (segments : List (List ℕ)) → IsAssemblyOf (of_side s old) segments → IsAssemblyOf (of_side s new) (user ∷ segments)
  pub completes : answer ≡ answers.Whole → (of_side s new).whole ≡ true
  pub other : of_side (other s) new ≡ of_side (other s) old
  pub to_client : new.to_client ≡ old.to_client
  pub to_controller : new.to_controller ≡ old.to_controller

-- a segment that was put to its fragment was answered, and may have completed it: the fate, what goes out, and the lines
pub record TakesSegment (asset : Asset) (says : Says) (client : Endpoint) (moment : ℕ) (s : Side) (answer : SegmentAnswer)
    (whole : List (List ℕ)) (f : Fate) (old new : Parts) : Type 0 where
  pub fate : f ≡ fate_of_segment asset says s answer whole
  pub client_part : new.fragments.client ≡ old.fragments.client
  pub controller_part : new.fragments.controller ≡ old.fragments.controller
  pub to_client : Sends asset side.Client (frame_fragment side.Client old.to_client.ended s f whole) old.fragments.to_client old.to_client
      new.fragments.to_client new.to_client
  pub to_controller : Sends asset side.Controller (frame_fragment side.Controller old.to_client.ended s f whole) old.fragments.to_controller
      old.to_controller new.fragments.to_controller new.to_controller
  pub lines : new.lines ≡ with_lines old.lines (data_lines asset client moment s f whole old.fragments.to_client old.to_client)

-- a segment that was handled but for its line, of which the log may have a part or all
pub record MissesSegment (asset : Asset) (says : Says) (client : Endpoint) (moment : ℕ) (s : Side) (answer : SegmentAnswer)
    (whole : List (List ℕ)) (old : Parts) (log : Option (List (List ℕ))) (part : List ℕ) : Type 0 where
  pub fate : Fate
  pub new : Parts
  pub takes : TakesSegment asset says client moment s answer whole fate old new
  pub line : MayHaveMore (data_lines asset client moment s fate whole old.fragments.to_client old.to_client) old.lines log part

-- what a frame does after the earlier items
pub record DoesFrame (asset : Asset) (says : Says) (client : Endpoint) (earlier : List Judged) (j : Judged) (s : Side) (x : FrameValue)
    (old new : Parts) : Type 0 where
  pub fragments : KnowsFragments asset new.fragments (earlier ++ j ∷ [])
  pub fate : j.fate ≡ fate_of_frame asset says s earlier x (stray_of asset s x)
  pub of_client : new.to_client ≡ after_push old.to_client (frame_output asset side.Client earlier j s x)
  pub of_controller : new.to_controller ≡ after_push old.to_controller (frame_output asset side.Controller earlier j s x)
  pub client_quiet : old.to_client.ended ≡ true → frame_output asset side.Client earlier j s x ≡ []
  pub controller_quiet : old.to_controller.ended ≡ true → frame_output asset side.Controller earlier j s x ≡ []

-- a frame was taken with this fate, whatever came before it
pub record TakesFrame (asset : Asset) (says : Says) (client : Endpoint) (moment : ℕ) (s : Side) (x : FrameValue) (f : Fate)
    (old new : Parts) : Type 0 where
  pub uncut : fate_cut f ≡ None
  pub more : List (List ℕ)
  pub lines : new.lines ≡ with_lines old.lines more
  pub does : (earlier : List Judged) → KnowsFragments asset old.fragments earlier → old.to_client.ended ≡ has_ended side.Controller earlier
      →
      DoesFrame asset says client earlier (judged moment (Took s (Frame x)) f) s x old new
  pub are_more : (earlier : List Judged) → KnowsFragments asset old.fragments earlier
      → old.to_client.ended ≡ has_ended side.Controller earlier →
      unit_lines asset client moment (is_some_bytes (frame_output asset side.Client earlier (judged moment (Took s (Frame x)) f) s x)) s
      (frame_octets asset earlier s x) f ≡ more

-- a frame was taken but for its line, of which the log may have a part or all
pub record MissesFrame (asset : Asset) (says : Says) (client : Endpoint) (moment : ℕ) (s : Side) (x : FrameValue) (old : Parts)
    (log : Option (List (List ℕ))) (part : List ℕ) : Type 0 where
  pub fate : Fate
  pub new : Parts
  pub takes : TakesFrame asset says client moment s x fate old new
  pub line : MayHaveMore takes.more old.lines log part

-- a frame was taken with this fate at the fragments of the asset of a place, and those of the other assets stay
pub record TakesFrameAt (asset : Asset) (says : Says) (client : Endpoint) (moment : ℕ) (s : Side) (x : FrameValue) (f : Fate) (place : ℕ)
    (before after : List Fragments) (old new : Outlets) : Type 0 where
  pub was : Fragments
  pub now : Fragments
  pub at : slice_get before place ≡ Some was
  pub set_is : after ≡ set before place now
  pub takes : TakesFrame asset says client moment s x f (parts was old.to_client old.to_controller old.lines)
      (parts now new.to_client new.to_controller new.lines)

-- a frame was taken there but for its line, of which the log may have a part or all
pub record MissesFrameAt (asset : Asset) (says : Says) (client : Endpoint) (moment : ℕ) (s : Side) (x : FrameValue) (place : ℕ)
    (before : List Fragments) (old : Outlets) (log : Option (List (List ℕ))) (part : List ℕ) : Type 0 where
  pub was : Fragments
  pub at : slice_get before place ≡ Some was
  pub misses : MissesFrame asset says client moment s x (parts was old.to_client old.to_controller old.lines) log part
