-- DNP3 in the lane: which frames are served (`stray_of`), the fate of a frame (`fate_of_frame`), what it puts into the stream to each
-- side, and what its line shows. IEEE 1815-2012; which frames are served, and fates, are this project's own.
use Rattle.cf_lane.specs.Rates.{Says}
use Rattle.cf_audit.specs.declared.line.Why.{Why}
use Rattle.cf_dnplink.specs.LinkFrame.{FrameValue}
use Rattle.cf_dnplink.specs.UserOctets.{user_of}
use Rattle.cf_dnpobj.specs.Acts.{acts}
use Rattle.cf_dnpobj.specs.Fragment.{FragmentValue, read_octets, wants_reply}
use Rattle.cf_dnpobj.specs.Reply.{reply}
use Rattle.cf_dnpobj.specs.declared.fragment.FragmentRefusal.{FragmentRefusal}
use Rattle.cf_dnptrans.specs.Passing.{completed}
use Rattle.cf_dnptrans.specs.Segments.{count_of}
use Rattle.cf_dnptrans.specs.declared.assembly.DropReason.{DropReason}
use Rattle.cf_dnptrans.specs.declared.assembly.SegmentAnswer.{SegmentAnswer}
use Rattle.cf_lane.specs.Acts.{act_of_code, fate_of_acts}
use Rattle.cf_lane.specs.History.{is_side}
use Rattle.cf_lane.specs.Item.{Broke, Ended, Item, Took}
use Rattle.cf_lane.specs.Judged.{Judged, goes_on, has_ended, in_turn}
use Rattle.cf_lane.specs.Unit.{Adu, Apdu, Frame, frame_spelling}
use Rattle.cf_lane.specs.declared.fate.Fate.{Fate}
use Rattle.cf_policy.specs.declared.Asset.{Asset}
use Rattle.cf_view.specs.declared.Reason.{Reason}
use Rattle.cf_view.specs.declared.Side.{Side}
use Rattle.std.specs.List.{flat_map, sum_by}
use Rattle.std.specs.Prelude.{Bool, Err, List, None, Ok, Option, Result, Some, [], false, if◌then◌else◌, is_some, length, nat_eq, nat_lt}
use Rattle.std.specs.Prelude.{not, reverse, slice_index, true, ℕ, ◌%◌, ◌&&◌, ◌/◌, ◌∷◌, ◌≢◌}
use Rattle.cf_dnptrans.specs.declared.assembly.SegmentAnswer.TheVariants as answers
use Rattle.cf_policy.specs.declared.Decider.TheVariants as decider
use Rattle.cf_dnpobj.specs.declared.fragment.FragmentRefusal.TheVariants as refusals
use Rattle.cf_view.specs.declared.Reason.TheVariants as reason
use Rattle.cf_dnptrans.specs.declared.assembly.DropReason.TheVariants as drops
use Rattle.cf_lane.specs.declared.fate.Fate.TheVariants as fate
use Rattle.cf_dnplink.specs.LinkFrame as link
use Rattle.cf_dnptrans.specs.Segments as pieces
use Rattle.cf_view.specs.declared.Side.TheVariants as side
use Rattle.cf_dnptrans.specs.Transport as transport
use Rattle.cf_audit.specs.declared.line.Why.TheVariants as why

-- bits of the control octet: DIR, PRM and the function code
abbrev pub has_direction : FrameValue → Bool
has_direction f = nat_eq (f.control / 128 % 2) 1

-- the bit PRM of a frame: it comes from a primary station
abbrev pub is_primary : FrameValue → Bool
is_primary f = nat_eq (f.control / 64 % 2) 1

-- the function code of a frame
abbrev pub link_code : FrameValue → ℕ
link_code f = f.control % 16

-- the frame of a side has the addresses of the asset: station and master, or the other way round
abbrev pub has_addresses : Asset → Side → FrameValue → Bool
has_addresses asset side.Client f = nat_eq f.dest asset.station && nat_eq f.source asset.master
has_addresses asset side.Controller f = nat_eq f.dest asset.master && nat_eq f.source asset.station

-- a frame whose bit DIR is that of its side
abbrev pub has_right_direction : Side → FrameValue → Bool
has_right_direction side.Client f = has_direction f
has_right_direction side.Controller f = not (has_direction f)

-- a frame that carries user data without confirmation: function code 4
abbrev pub is_data : FrameValue → Bool
is_data f = is_primary f && nat_eq (link_code f) 4

-- a frame that asks for the link's status, or gives it, and has no user octets: function codes 9 and 11
abbrev pub is_status : FrameValue → Bool
is_status f = nat_eq (length (user_of f.blocks)) 0 && (if is_primary f then nat_eq (link_code f) 9 else nat_eq (link_code f) 11)

-- why a frame is not served, if it is not
abbrev pub stray_of : Asset → Side → FrameValue → Option Why
stray_of asset s f =
    if not (has_addresses asset s f) then Some why.Address
    else (if not (has_right_direction s f) then Some why.Direction
    else (if is_data f then None else (if is_status f then None else Some why.Code)))

-- whether a reason is absent
abbrev pub is_none : Option Why → Bool
is_none None = true
is_none (Some why) = false

-- the user octets of a served data frame of a side
abbrev pub segment_in : Asset → Side → Item → List (List ℕ)
segment_in asset s (Took of (Frame f)) = if is_side s of && (is_none (stray_of asset of f) && is_data f) then user_of f.blocks ∷ [] else []
segment_in asset s (Took of (Adu a)) = []
segment_in asset s (Took of (Apdu a)) = []
segment_in asset s (Ended of rest) = []
segment_in asset s (Broke of reason) = []

-- the segments of a side among earlier items, the newest first
abbrev pub segments_of : Asset → Side → List Judged → List (List ℕ)
segments_of asset s earlier = flat_map (λ j. segment_in asset s j.item) (reverse earlier)

-- what a frame's segment does after the earlier ones of its side
abbrev pub answer_now : Asset → Side → List Judged → FrameValue → SegmentAnswer
answer_now asset s earlier f = transport.answer_to (segments_of asset s earlier) (user_of f.blocks)

-- the fragment that it completes, if one
abbrev pub whole_now : Asset → Side → List Judged → FrameValue → List (List ℕ)
whole_now asset s earlier f = completed (answer_now asset s earlier f)
    (transport.last_fragment (user_of f.blocks ∷ segments_of asset s earlier))

-- the reason that a refused form stands for: this project's own division
abbrev pub form_reason : FragmentRefusal → Reason
form_reason refusals.Short = reason.Value
form_reason refusals.NotSingle = reason.Value
form_reason refusals.Function = reason.Function
form_reason refusals.Object = reason.Point
form_reason refusals.Parameter = reason.Value

-- the fate of a client's DNP3 fragment by what it says: a confirmation goes on, and every other one is a command
abbrev pub fate_of_read : Asset → Says → (code : ℕ) → Result FragmentValue FragmentRefusal → Fate
fate_of_read asset says code (Ok f) = if nat_eq f.code 0 then fate.Carried else fate_of_acts asset says (acts f)
fate_of_read asset says code (Err refusal) =
    fate.Refused (record { decider = decider.Form; reason = form_reason refusal; act = act_of_code code 0 })

-- the fate of a whole fragment: that of a controller is carried, that of a client is judged
abbrev pub fate_of_fragment : Asset → Says → Side → List ℕ → Fate
fate_of_fragment asset says side.Controller octets = fate.Carried
fate_of_fragment asset says side.Client octets = fate_of_read asset says (slice_index octets 1) (read_octets octets)

-- the fates of a client's fragment of two octets or more: it goes on, or is refused for a reason that has a reply
abbrev pub IsOfFragment : Fate → Type 0
IsOfFragment fate.Carried = Unit {0}
IsOfFragment (fate.Admitted used) = Unit {0}
IsOfFragment (fate.Refused refusal) = refusal.reason ≢ reason.Station
IsOfFragment _ = ⊥

-- why a segment is dropped
abbrev pub drop_why : DropReason → Why
drop_why drops.Empty = why.Empty
drop_why drops.NoFirst = why.NoFirst
drop_why drops.Order = why.Order
drop_why drops.TooLong = why.TooLong

-- the fate of the fragment that is whole
abbrev pub fate_of_whole : Asset → Says → Side → List (List ℕ) → Fate
fate_of_whole asset says s [] = fate.Lengthens
fate_of_whole asset says s (octets ∷ none) = if nat_lt (length octets) 2 then fate.Stray why.Short else fate_of_fragment asset says s octets

-- the fate of a DNP3 data frame by what its segment does
abbrev pub fate_of_segment : Asset → Says → Side → SegmentAnswer → List (List ℕ) → Fate
fate_of_segment asset says s answers.More whole = fate.Lengthens
fate_of_segment asset says s (answers.Dropped because) whole = fate.Stray (drop_why because)
fate_of_segment asset says s answers.Whole whole = fate_of_whole asset says s whole

-- the fate of a frame: it is stray, or ends a fragment, or lengthens one, or is carried
abbrev pub fate_of_frame : Asset → Says → Side → List Judged → FrameValue → Option Why → Fate
fate_of_frame asset says s earlier f (Some because) = fate.Stray because
fate_of_frame asset says s earlier f None =
    if is_data f then fate_of_segment asset says s (answer_now asset s earlier f) (whole_now asset s earlier f) else fate.Carried

-- the fragments that a frame puts into the stream to a side: its own, or a response to it
abbrev pub fragment_reply : (ended : Bool) → Fate → List (List ℕ) → List (List ℕ)
fragment_reply true f octets = []
fragment_reply false (fate.Refused refusal) octets =
    flat_map (λ xs. if wants_reply (slice_index xs 1) then reply xs refusal.reason ∷ [] else []) octets
fragment_reply false fate.Carried octets = []
fragment_reply false (fate.Admitted used) octets = []
fragment_reply false (fate.Stray because) octets = []
fragment_reply false fate.Lengthens octets = []
fragment_reply false (fate.Cuts because) octets = []

-- the fragments that go to a side by a fragment of a side: it goes on, or the client has a reply
abbrev pub frame_fragment : Side → (ended : Bool) → Side → Fate → List (List ℕ) → List (List ℕ)
frame_fragment side.Client ended side.Client f octets = fragment_reply ended f octets
frame_fragment side.Client ended side.Controller f octets = if goes_on f then octets else []
frame_fragment side.Controller ended side.Client f octets = if goes_on f then octets else []
frame_fragment side.Controller ended side.Controller f octets = []

-- the fragments that go to a side by a judged item
abbrev pub fragment_in : Asset → Side → List Judged → Judged → Item → List (List ℕ)
fragment_in asset to earlier j (Took s (Frame x)) =
    if is_data x then frame_fragment to (has_ended side.Controller earlier) s j.fate (whole_now asset s earlier x) else []
fragment_in asset to earlier j (Took s (Adu a)) = []
fragment_in asset to earlier j (Took s (Apdu a)) = []
fragment_in asset to earlier j (Ended s rest) = []
fragment_in asset to earlier j (Broke s because) = []

-- the number of segments that earlier items put into the stream to a side
abbrev pub segments_into : Asset → Side → List Judged → ℕ
segments_into asset to earlier = sum_by (λ octets. count_of (length octets))
    (in_turn (λ before j. fragment_in asset to before j j.item) [] earlier)

-- the octets of a data frame towards a side with a segment
abbrev pub data_octets : Asset → Side → List ℕ → List ℕ
data_octets asset side.Controller user = link.spelling 0xc4 asset.station asset.master user
data_octets asset side.Client user = link.spelling 0x44 asset.master asset.station user

-- a fragment cut anew: its frames, the first with this transport sequence
abbrev pub frames_at : Asset → Side → ℕ → List ℕ → List ℕ
frames_at asset to start octets = flat_map (data_octets asset to) (reverse (pieces.segments_of octets start))

-- the frames of a fragment with the sequence that follows those before it
abbrev pub fragment_frames : Asset → Side → List Judged → List ℕ → List ℕ
fragment_frames asset to earlier octets = frames_at asset to (segments_into asset to earlier) octets

-- a link status frame goes on as it is
abbrev pub frame_output : Asset → Side → List Judged → Judged → Side → FrameValue → List ℕ
frame_output asset to earlier j s x =
    if is_data x then flat_map (fragment_frames asset to earlier) (fragment_in asset to earlier j j.item)
    else (if is_side to s then [] else (if goes_on j.fate then frame_spelling x else []))

-- the octets that the line of a frame shows, those of the fragment that it completes
abbrev pub frame_octets : Asset → List Judged → Side → FrameValue → List ℕ
frame_octets asset earlier s x = flat_map (λ octets. octets) (whole_now asset s earlier x)

-- a fragment of the side is unfinished
abbrev pub is_fragment_unfinished : Asset → Side → List Judged → Bool
is_fragment_unfinished asset s earlier = is_some (transport.unfinished (segments_of asset s earlier))
