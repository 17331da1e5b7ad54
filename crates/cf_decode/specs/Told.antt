-- What is told of a refused command, in the log and in the stream to the client, and of an admitted one in the log: RefusedAreTold and
-- ShownAreTold, read from the end. The replies are
-- those of the standards as the codecs have them; which commands have none is this project's own.
use Rattle.cf_lane.specs.Caller.{RateMoments, caller_at}
use Rattle.std.specs.Prelude.{◌≡◌, ℕ, nat_lt, not, Bool, ◌||◌, if◌then◌else◌, List, [], ◌∷◌, ◌++◌, length, slice_index}
use Rattle.cf_apci.specs.Apdu.{Info}
use Rattle.cf_asdu.specs.Mirror.{mirrored}
use Rattle.cf_dnplink.specs.LinkFrame.{FrameValue}
use Rattle.cf_dnpobj.specs.Fragment.{wants_reply}
use Rattle.cf_dnpobj.specs.Reply.{reply}
use Rattle.cf_lane.specs.Dnp3.{fragment_frames, whole_now}
use Rattle.cf_lane.specs.Follows.{AreJudged}
use Rattle.cf_lane.specs.History.{Element}
use Rattle.cf_lane.specs.Iec104.{stamped}
use Rattle.cf_lane.specs.Item.{Item, Took}
use Rattle.cf_lane.specs.Judged.{Judged, has_ended}
use Rattle.cf_lane.specs.Log.{admission_lines, command_octets, is_some_bytes, line_about, lines, refusal_line}
use Rattle.cf_lane.specs.Numbers.{events_of}
use Rattle.cf_lane.specs.Output.{outputs}
use Rattle.cf_lane.specs.Parts.{bears, part}
use Rattle.cf_lane.specs.Site.{item_place}
use Rattle.cf_lane.specs.Unit.{Adu, Apdu, Frame, apdu_spelling}
use Rattle.cf_lane.specs.declared.fate.Fate.TheVariants as fate
use Rattle.cf_lane.specs.declared.fate.Admission.{Admission}
use Rattle.cf_lane.specs.declared.fate.Refusal.{Refusal}
use Rattle.cf_modbus.specs.Adu.{spelling}
use Rattle.cf_modbus.specs.Exception.{exception_of}
use Rattle.cf_policy.specs.Site.{SiteValue, asset_of}
use Rattle.cf_policy.specs.Verdict.{IsOneOf}
use Rattle.cf_policy.specs.declared.Asset.{Asset}
use Rattle.cf_renumber.specs.Counts.{mirror_stamp}
use Rattle.cf_view.specs.declared.Endpoint.{Endpoint}
use Rattle.cf_view.specs.declared.Side.TheVariants as side

-- a reply stands in the stream to the client, but where there is none
abbrev pub unless : (none : Bool) → List ℕ → List ℕ
unless none octets = if none then [] else octets

-- DNP3: the response to the fragment that the frame completes; some function codes ask for none
pub record IsFragmentReply (asset : Asset) (ended : Bool) (earlier : List Judged) (frame : FrameValue) (refusal : Refusal)
    (replied : List ℕ) : Type 0 where
  pub fragment : List ℕ
  pub is_whole : whole_now asset side.Client earlier frame ≡ fragment ∷ []
  pub is_reply : replied ≡ unless (ended || not (wants_reply (slice_index fragment 1)))
      (fragment_frames asset side.Client earlier (reply fragment refusal.reason))

-- what replies to a refused item of the client for an asset, in the asset's addresses, where its stream has ended or not: one case a
-- protocol. No other item is refused
abbrev pub IsReply : Asset → (ended : Bool) → (earlier : List Judged) → Item → Refusal → (replied : List ℕ) → Type 0
IsReply asset ended earlier (Took side.Client (Adu adu)) refusal replied = replied
    ≡ unless ended (spelling (exception_of adu refusal.reason))
IsReply asset ended earlier (Took side.Client (Frame frame)) refusal replied = IsFragmentReply asset ended earlier frame refusal replied
IsReply asset ended earlier (Took side.Client (Apdu (Info send receive asdu))) refusal replied =
    replied ≡ unless (ended || nat_lt (length asdu) 9) (apdu_spelling (stamped (mirror_stamp (events_of earlier)) (mirrored asdu)))
IsReply asset ended earlier _ refusal replied = ⊥

-- the octets of a command as they were received: the ADU, the APDU, or the DNP3 fragment that the frame completes
abbrev pub received : Asset → (earlier : List Judged) → Item → List ℕ
received asset earlier (Took s unit) = command_octets asset earlier s unit
received asset earlier _ = []

-- the asset that an item is for
abbrev pub item_asset : SiteValue → Item → Asset
item_asset site item = asset_of site (item_place site item)

-- the earlier items that bear on it
abbrev pub bearing : SiteValue → (earlier : List Judged) → Item → List Judged
bearing site earlier item = bears item earlier (part site (item_place site item) earlier)

-- the octets that the line of an item shows
abbrev pub shown_octets : SiteValue → (earlier : List Judged) → Item → List ℕ
shown_octets site earlier item = received (item_asset site item) (bearing site earlier item) item

-- what is told of a refused command between earlier and later items, by the asset that it is for: what decided, its line under the asset's
-- name, and its reply
pub record IsTold (site : SiteValue) (client : Endpoint) (earlier : List Judged) (j : Judged) (later : List Judged) (refusal : Refusal) : Type
    0 where
  -- a rule that decided is one of the asset's
  pub decider : IsOneOf (item_asset site j.item).rules refusal.decider
  pub replied : List ℕ
  pub is_reply :
      IsReply (item_asset site j.item) (has_ended side.Controller earlier) (bearing site earlier j.item) j.item refusal replied
  pub in_stream :
      outputs site side.Client [] (earlier ++ j ∷ later)
      ≡ outputs site side.Client [] earlier ++ (replied ++ outputs site side.Client (earlier ++ j ∷ []) later)
  pub in_log :
      lines site client [] (earlier ++ j ∷ later)
      ≡ lines site client [] earlier
      ++ (line_about (item_asset site j.item) client j.moment
      (refusal_line (item_asset site j.item) refusal (is_some_bytes replied) (shown_octets site earlier j.item))
      ∷ lines site client (earlier ++ j ∷ []) later)

-- each refused command of every history is told so
abbrev pub RefusedAreTold : Type 0
RefusedAreTold =
    (site : SiteValue) (before : RateMoments) (client : Endpoint) (history : List Element) (earlier later : List Judged) (j : Judged)
    (refusal : Refusal) →
    AreJudged site (caller_at client.address before) history (earlier ++ j ∷ later) → j.fate ≡ fate.Refused refusal
    → IsTold site client earlier j later refusal

-- what is shown of an admitted command between earlier and later items: its line stands at its place, under the name of the asset that it
-- is for, if a rule with a log allowed one of its acts
pub record IsShown (site : SiteValue) (client : Endpoint) (earlier : List Judged) (j : Judged) (later : List Judged) (admitted : Admission) : Type
    0 where
  pub in_log :
      lines site client [] (earlier ++ j ∷ later)
      ≡ lines site client [] earlier
      ++ (admission_lines (item_asset site j.item) client j.moment (shown_octets site earlier j.item) admitted
      ++ lines site client (earlier ++ j ∷ []) later)

-- each admitted command of every history is shown so
abbrev pub ShownAreTold : Type 0
ShownAreTold =
    (site : SiteValue) (before : RateMoments) (client : Endpoint) (history : List Element) (earlier later : List Judged) (j : Judged)
    (admitted : Admission) →
    AreJudged site (caller_at client.address before) history (earlier ++ j ∷ later) → j.fate ≡ fate.Admitted admitted
    → IsShown site client earlier j later admitted
