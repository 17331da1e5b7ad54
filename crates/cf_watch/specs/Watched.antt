-- The watched flows of a capture: watched. A flow is a client endpoint and the endpoint of an asset, which stands for all that have this
-- endpoint: the first of them names it. Each SYN that begins it anew begins another.
-- Packets of a flow before its first SYN are not used, nor are packets to no asset.
use Rattle.std.specs.Prelude.{◌==◌, ◌+◌, ◌+ℤ◌, ℕ, ℤ, suc, pos, zero, Bool, true, false, not, ◌&&◌, ◌||◌, if◌then◌else◌, List, [], ◌∷◌, ◌++◌}
use Rattle.std.specs.Prelude.{length, set, slice_get, Option, Some, None, Result, Ok, Err}
use Rattle.cf_packet.specs.Packet.{PacketValue, read_record}
use Rattle.cf_packet.specs.declared.packet.PacketRefusal.{PacketRefusal}
use Rattle.cf_policy.specs.declared.Asset.{Asset}
use Rattle.cf_stream.specs.Position.{position as position_of}
use Rattle.cf_view.specs.declared.Endpoint.{Endpoint}
use Rattle.cf_leg.specs.Segment.{has_ack, has_syn, letters_in, is_opening}
use Rattle.cf_records.specs.Capture.{Record}
use Rattle.cf_policy.specs.AtEndpoint.{asset_place}
use Rattle.cf_view.specs.Endpoints.{same_endpoint}
use Rattle.cf_watch.specs.Carried.{Carried, top_of}

-- a flow as it was watched: its client, the place of its asset in the policy, the number of its SYN, whether a packet with ACK has
-- followed, the record with which it begins where that is amid its stream, and what its packets carried, the newest first
pub record Watched : Type 0 where
  pub client : Endpoint
  pub asset : ℕ
  pub origin : ℕ
  pub answered : Bool
  pub midstream : Option ℕ
  pub carried : List Carried

-- ---- one packet

-- the place at which the text of a packet begins: a SYN has a number, and the text begins after it
abbrev pub text_place : (origin top : ℕ) → PacketValue → ℤ
text_place origin top packet = position_of packet.seq origin top +ℤ (if has_syn packet then pos 1 else pos 0)

-- what a packet carries, read near the greatest place carried so far
abbrev pub carried_by : (number origin top : ℕ) → PacketValue → Carried
carried_by number origin top packet =
    record { number = number; at = text_place origin top packet; text = letters_in packet }

-- a flow after a packet of its own
abbrev pub with_packet : (number : ℕ) → PacketValue → Watched → Watched
with_packet number packet f =
    record f { answered = f.answered || has_ack packet; carried = carried_by number f.origin (top_of f.carried) packet ∷ f.carried }

-- a flow that a SYN begins
abbrev pub begun_by : (number asset : ℕ) → PacketValue → Watched
begun_by number asset packet =
    with_packet number packet (record {
      client = packet.source;
      asset = asset;
      origin = packet.seq;
      answered = false;
      midstream = None;
      carried = [];
    })

-- ---- which flow a packet is of

-- a flow of this client and asset
abbrev pub is_between : (client : Endpoint) (asset : ℕ) → Watched → Bool
is_between client asset f = same_endpoint f.client client && (f.asset == asset)

-- the place one further on
abbrev pub later_place : Option ℕ → (here : Bool) → Option ℕ
later_place (Some place) here = Some (suc place)
later_place None true = Some zero
later_place None false = None

-- the place of the last such flow
abbrev pub last_place : (client : Endpoint) (asset : ℕ) → List Watched → Option ℕ
last_place client asset [] = None
last_place client asset (f ∷ flows) = later_place (last_place client asset flows) (is_between client asset f)

-- a SYN goes on with its flow exactly where the number is the same and no packet with ACK has followed
abbrev pub begins_anew : PacketValue → Watched → Bool
begins_anew packet f = is_opening packet && not ((packet.seq == f.origin) && not f.answered)

-- a packet of a flow at a place begins it anew, or goes on with it
abbrev pub goes_to : (number asset place : ℕ) → PacketValue → Option Watched → List Watched → List Watched
goes_to number asset place packet None flows = flows
goes_to number asset place packet (Some f) flows =
    if begins_anew packet f then flows ++ begun_by number asset packet ∷ [] else set flows place (with_packet number packet f)

-- a packet without such a flow begins one where it is a SYN, and else is not used
abbrev pub goes_at : (number asset : ℕ) → PacketValue → (last : Option ℕ) → List Watched → List Watched
goes_at number asset packet None flows = if is_opening packet then flows ++ begun_by number asset packet ∷ [] else flows
goes_at number asset packet (Some place) flows = goes_to number asset place packet (slice_get flows place) flows

-- the flows after a packet to an asset, or to none
abbrev pub goes : (number : ℕ) → PacketValue → (asset : Option ℕ) → List Watched → List Watched
goes number packet None flows = flows
goes number packet (Some asset) flows = goes_at number asset packet (last_place packet.source asset flows) flows

-- the flows after one more record
abbrev pub with_record : List Asset → (number : ℕ) → Result PacketValue PacketRefusal → List Watched → List Watched
with_record assets number (Err refusal) flows = flows
with_record assets number (Ok packet) flows = goes number packet (asset_place assets packet.dest) flows

-- the flows of the records of a capture, the newest record first; flows stand in the order of their beginning
abbrev pub watched : List Asset → List Record → List Watched
watched assets [] = []
watched assets (r ∷ earlier) = with_record assets (length earlier + 1) (read_record r.link r.body) (watched assets earlier)
