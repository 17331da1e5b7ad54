-- The packets of an output capture that go between two endpoints, in either direction, from one moment to another: sent_between; and
-- the records of the file that are these packets: records_between.
use Rattle.std.specs.Prelude.{ℕ, nat_le, Bool, false, ◌&&◌, ◌||◌, List, filter, Result, Ok, Err}
use Rattle.cf_packet.specs.Packet.{PacketValue, read_record}
use Rattle.cf_packet.specs.declared.packet.PacketRefusal.{PacketRefusal}
use Rattle.cf_records.specs.Capture.{Record}
use Rattle.cf_view.specs.Endpoints.{same_endpoint}
use Rattle.cf_session.specs.Sent.{Sent}
use Rattle.cf_view.specs.declared.Endpoint.{Endpoint}

-- the time from the first of two moments up to the second, both included
abbrev pub is_during : (since until : ℕ) → (moment : ℕ) → Bool
is_during since until moment = nat_le since moment && nat_le moment until

-- a packet goes from the first endpoint to the second
abbrev pub goes_from : (source dest : Endpoint) → PacketValue → Bool
goes_from source dest packet = same_endpoint packet.source source && same_endpoint packet.dest dest

-- a packet goes from one of the two endpoints to the other
abbrev pub goes_between : (client site : Endpoint) → PacketValue → Bool
goes_between client site packet = goes_from client site packet || goes_from site client packet

-- a packet sent between two ends and two moments
abbrev pub is_sent_between : (client site : Endpoint) → (since until : ℕ) → Sent → Bool
is_sent_between client site since until s = goes_between client site s.packet && is_during since until s.moment

-- the packets that were sent between the two, in their order
abbrev pub sent_between : (client site : Endpoint) → (since until : ℕ) → List Sent → List Sent
sent_between client site since until all = filter (is_sent_between client site since until) all

-- a record of a capture file between two ends, as it is read: one that is no packet goes nowhere
abbrev pub is_packet_between : (client site : Endpoint) → Result PacketValue PacketRefusal → Bool
is_packet_between client site (Ok packet) = goes_between client site packet
is_packet_between client site (Err refusal) = false

-- the record is such a packet, and its moment is among these
abbrev pub is_record_between : (client site : Endpoint) → (since until : ℕ) → Record → Bool
is_record_between client site since until r = is_packet_between client site (read_record r.link r.body) && is_during since until r.stamp

-- the records that are, in their order
abbrev pub records_between : (client site : Endpoint) → (since until : ℕ) → List Record → List Record
records_between client site since until records = filter (is_record_between client site since until) records
