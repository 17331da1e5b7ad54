-- The records of sessions: a packet of one is `HasPacket`, and the SYN that one may begin with `IsSyn`.
use Rattle.std.specs.Prelude.{◌≡◌, ◌≤◌, ◌<◌, ◌⊎◌, ℕ, ◌+◌, ◌*◌, Ok, true}
use Rattle.cf_packet.specs.Packet.{PacketValue, read_record}
use Rattle.cf_records.specs.Capture.{Record}
use Rattle.cf_leg.specs.Segment.{is_opening}
use Rattle.cf_hosts.specs.Flows.{client_endpoint, controller_endpoint}

-- the octets of a record are this packet
abbrev pub Has : Record → PacketValue → Type 0
Has r packet = read_record r.link r.body ≡ Ok packet

-- a packet is from a session's client to its controller, or back
abbrev pub IsBetween : (session : ℕ) → PacketValue → Type 0
IsBetween session packet =
    ((packet.source ≡ client_endpoint session) × (packet.dest ≡ controller_endpoint session))
    ⊎ ((packet.source ≡ controller_endpoint session) × (packet.dest ≡ client_endpoint session))

-- a record that is a packet of a session
pub record HasPacket (r : Record) : Type 0 where
  pub packet : PacketValue
  pub has : Has r packet
  pub session : ℕ
  pub below : session < 200
  pub between : IsBetween session packet

-- a record is a SYN with which a session may begin: from its client to its controller, without ACK, RST and FIN, with its sequence
-- number, and no earlier than the client begins
pub record IsSyn (session : ℕ) (r : Record) : Type 0 where
  pub packet : PacketValue
  pub has : Has r packet
  pub opening : is_opening packet ≡ true
  pub source : packet.source ≡ client_endpoint session
  pub dest : packet.dest ≡ controller_endpoint session
  pub number : packet.seq ≡ 1000 * (session + 1)
  pub moment : 1000000 + 20000 * session ≤ r.stamp
