-- Steps of the proof: the segments of the hosts: `IsPacketOf`. RFC 9293, section 3.1.
use Rattle.std.specs.Prelude.{◌≡◌, ℕ, List, Ok}
use Rattle.cf_packet.specs.Packet.{PacketValue, read_record}
use Rattle.cf_pcap.specs.Header.{output_header}
use Rattle.cf_view.specs.declared.Endpoint.{Endpoint}
use Rattle.cf_hosts.specs.declared.segment.Purpose.{Purpose}
use Rattle.cf_hosts.specs.declared.segment.Purpose.TheVariants as purpose

-- FIN is 1, SYN 2, PSH 8 and ACK 16
abbrev pub flags_of : Purpose → ℕ
flags_of purpose.Syn = 2
flags_of purpose.SynAck = 18
flags_of purpose.Acknowledges = 16
flags_of purpose.Brings = 24
flags_of purpose.Ends = 17

-- octets are a packet between two endpoints, with the flags of a purpose and a sequence number
pub record IsPacketOf (source dest : Endpoint) (purpose : Purpose) (seq : ℕ) (octets : List ℕ) : Type 0 where
  pub packet : PacketValue
  pub read : read_record output_header.link octets ≡ Ok packet
  pub source_is : packet.source ≡ source
  pub dest_is : packet.dest ≡ dest
  pub flags_are : packet.flags ≡ flags_of purpose
  pub seq_is : packet.seq ≡ seq
