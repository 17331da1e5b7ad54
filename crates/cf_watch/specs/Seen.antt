-- The flows of a capture as its scope says: seen_by. For a review a flow of a client endpoint and an asset that has none begins with its
-- first segment with text there, also amid its stream, and goes on up to the next SYN; and letters that stand more than 1 MiB below the
-- newest position are not read, so a conflict is told for positions at most so far below it. This bound is own. With the scope of connections
-- the flows are those of `watched`.
use Rattle.std.specs.Prelude.{◌==◌, ◌&&◌, ◌+◌, ◌-◌, ◌%◌, ◌^◌, ◌||◌, ◌+ℤ◌, ◌-ℤ◌, ℕ, ℤ, pos, Bool, true, false, not, nat_le, if◌then◌else◌}
use Rattle.std.specs.Prelude.{List, [], ◌∷◌, ◌++◌, drop, length, set, slice_get, Option, Some, None, Result, Ok, Err}
use Rattle.cf_leg.specs.Segment.{has_ack, has_rst, has_syn, is_opening}
use Rattle.cf_packet.specs.Packet.{PacketValue, read_record}
use Rattle.cf_packet.specs.Recorded.{read_recorded}
use Rattle.cf_packet.specs.declared.packet.PacketRefusal.{PacketRefusal}
use Rattle.cf_policy.specs.declared.Asset.{Asset}
use Rattle.cf_records.specs.Capture.{Record}
use Rattle.cf_stream.specs.Position.{place_or_zero}
use Rattle.cf_policy.specs.AtEndpoint.{asset_place}
use Rattle.cf_view.specs.declared.LinkKind.{LinkKind}
use Rattle.cf_watch.specs.Tagged.{untagged, untagged_kind}
use Rattle.cf_watch.specs.Carried.{Carried, top_of}
use Rattle.cf_watch.specs.Watched.{Watched, begins_anew, carried_by, last_place}
use Rattle.cf_watch.specs.declared.scope.Scope.{Scope}
use Rattle.cf_watch.specs.declared.scope.Scope.TheVariants as scope
use Rattle.cf_watch.specs.declared.watching.Opening.{Opening}

-- the segment in the octets of a record as they are watched, or why there is none
abbrev pub packet_by : Scope → LinkKind → List ℕ → Result PacketValue PacketRefusal
packet_by scope.Connections link octets = read_record link octets
packet_by scope.Recording link octets = read_recorded (untagged_kind link octets) (untagged link octets)

-- a segment of a connection that goes on, with text: it has neither SYN nor RST
abbrev pub begins_amid : Scope → PacketValue → Bool
begins_amid scope.Connections packet = false
begins_amid scope.Recording packet = not (has_syn packet || has_rst packet) && not (length packet.text == 0)

-- ---- how near letters stand to the newest position

-- how many letters from a place on stand more than 1 MiB below the newest position
abbrev pub far : (top : ℕ) (at : ℤ) → ℕ
far top at = place_or_zero (pos top -ℤ pos (2 ^ 20) -ℤ at)

-- what a packet carries, without its first letters
abbrev pub without_first : (count : ℕ) → Carried → Carried
without_first count c = record c {
  at = c.at +ℤ pos count;
  text = record { bytes = drop count c.text.bytes; ended = c.text.ended && nat_le count (length c.text.bytes) };
}

-- what is read of it: of a recording nothing that stands more than 1 MiB below the newest position
abbrev pub near : Scope → (top : ℕ) → Carried → Carried
near scope.Connections top c = c
near scope.Recording top c = without_first (far top c.at) c

-- a flow after a packet of its own
abbrev pub with_packet_by : Scope → (number : ℕ) → PacketValue → Watched → Watched
with_packet_by scope number packet f = record f {
  answered = f.answered || has_ack packet;
  carried = near scope (top_of f.carried) (carried_by number f.origin (top_of f.carried) packet) ∷ f.carried;
}

-- ---- which flow a packet is of

-- a flow that a packet begins, of which so much is known before
abbrev pub begun_with : Scope → Opening → (number asset : ℕ) → PacketValue → Watched
begun_with scope opening number asset packet = with_packet_by scope number packet (record {
  client = packet.source;
  asset = asset;
  origin = opening.origin;
  answered = opening.answered;
  midstream = opening.midstream;
  carried = [];
})

-- a SYN has the number before that of the first byte
abbrev pub opening_by : PacketValue → Opening
opening_by packet = record { origin = packet.seq; answered = false; midstream = None }

-- amid a stream the text begins at place 0, after the number before its own; the flow counts as answered, so that each SYN begins anew
abbrev pub opening_amid : (number : ℕ) → PacketValue → Opening
opening_amid number packet = record { origin = (packet.seq + (2 ^ 32 - 1)) % 2 ^ 32; answered = true; midstream = Some number }

-- a packet of a flow at a place begins it anew, or goes on with it
abbrev pub goes_in : Scope → (number asset place : ℕ) → PacketValue → Option Watched → List Watched → List Watched
goes_in scope number asset place packet None flows = flows
goes_in scope number asset place packet (Some f) flows =
    if begins_anew packet f
    then flows ++ begun_with scope (opening_by packet) number asset packet ∷ [] else set flows place (with_packet_by scope number packet f)

-- the flows after a packet from a client to an asset of which no flow was watched
abbrev pub goes_first : Scope → (number asset : ℕ) → PacketValue → List Watched → List Watched
goes_first scope number asset packet flows =
    if begins_amid scope packet then flows ++ begun_with scope (opening_amid number packet) number asset packet
    ∷ [] else if is_opening packet then flows ++ begun_with scope (opening_by packet) number asset packet ∷ [] else flows

-- the flows after a packet from a client to an asset, the last flow of whom stands at this place
abbrev pub goes_from : Scope → (number asset : ℕ) → PacketValue → (last : Option ℕ) → List Watched → List Watched
goes_from scope number asset packet None flows = goes_first scope number asset packet flows
goes_from scope number asset packet (Some place) flows = goes_in scope number asset place packet (slice_get flows place) flows

-- the flows after a packet, which may be to no asset
abbrev pub goes_to_asset : Scope → (number : ℕ) → PacketValue → (asset : Option ℕ) → List Watched → List Watched
goes_to_asset scope number packet None flows = flows
goes_to_asset scope number packet (Some asset) flows = goes_from scope number asset packet (last_place packet.source asset flows) flows

-- the flows after one more record
abbrev pub with_frame : Scope → List Asset → (number : ℕ) → Result PacketValue PacketRefusal → List Watched → List Watched
with_frame scope assets number (Err refusal) flows = flows
with_frame scope assets number (Ok packet) flows = goes_to_asset scope number packet (asset_place assets packet.dest) flows

-- the flows of the records of a capture, the newest record first; flows stand in the order of their beginning
abbrev pub seen_by : Scope → List Asset → List Record → List Watched
seen_by scope assets [] = []
seen_by scope assets (r ∷ earlier) =
    with_frame scope assets (length earlier + 1) (packet_by scope r.link r.body) (seen_by scope assets earlier)
