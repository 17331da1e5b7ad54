-- Which TCP segment the octets of a record are, or why none: read_record. RFC 791 and RFC 9293; the order of the tests is
-- this project's own.
use Rattle.std.specs.Prelude.{ℕ, List, Option, Some, None, Result, Ok, Err, not, if◌then◌else◌}
use Rattle.cf_view.specs.declared.Endpoint.{Endpoint}
use Rattle.cf_view.specs.declared.LinkKind.{LinkKind}
use Rattle.cf_packet.specs.Ipv4.{payload, header_refusal, source_address, destination_address, data_octets}
use Rattle.cf_packet.specs.Tcp.{source_port, destination_port, sequence_number, acknowledgment_number, control_bits, window_field, options}
use Rattle.cf_packet.specs.Tcp.{text_octets, mss_of, is_bad, is_right_segment}
use Rattle.cf_packet.specs.declared.packet.Packet.{Packet}
use Rattle.cf_packet.specs.declared.packet.PacketRefusal.{PacketRefusal}
use Rattle.cf_packet.specs.declared.packet.PacketRefusal.TheVariants as refusal

-- a packet without where its text lies in memory
pub record PacketValue : Type 0 where
  pub source : Endpoint
  pub dest : Endpoint
  pub seq : ℕ
  pub ack : ℕ
  pub flags : ℕ
  pub window : ℕ
  pub mss : Option ℕ
  pub text : List ℕ

-- what a contract sees of a `Packet`
abbrev pub packet_value : Packet → PacketValue
packet_value p = record {
  source = p.source;
  dest = p.dest;
  seq = p.seq;
  ack = p.ack;
  flags = p.flags;
  window = p.window;
  mss = p.mss;
  text = p.text.now;
}

-- what a contract sees of the answer about octets
abbrev pub packet_answer : Result Packet PacketRefusal → Result PacketValue PacketRefusal
packet_answer (Ok p) = Ok (packet_value p)
packet_answer (Err r) = Err r

-- what a segment between two addresses says
abbrev pub fields_of : ℕ → ℕ → List ℕ → PacketValue
fields_of source destination segment = record {
  source = record { address = source; port = source_port segment };
  dest = record { address = destination; port = destination_port segment };
  seq = sequence_number segment;
  ack = acknowledgment_number segment;
  flags = control_bits segment;
  window = window_field segment;
  mss = mss_of (options segment);
  text = text_octets segment;
}

-- the segment between two addresses, or the first test that it fails
abbrev pub segment_in : ℕ → ℕ → List ℕ → Result PacketValue PacketRefusal
segment_in source destination segment =
    if is_bad segment then Err refusal.BadTcp
    else if not (is_right_segment source destination segment) then Err refusal.BadTcpSum
    else Ok (fields_of source destination segment)

-- the segment in a packet, or the first test that its header fails
abbrev pub read_after_header : List ℕ → Option PacketRefusal → Result PacketValue PacketRefusal
read_after_header packet (Some r) = Err r
read_after_header packet None = segment_in (source_address packet) (destination_address packet) (data_octets packet)

-- the segment of an IPv4 packet, or why there is none
abbrev pub read_ipv4 : List ℕ → Result PacketValue PacketRefusal
read_ipv4 packet = read_after_header packet (header_refusal packet)

-- the packet in the octets of a record
abbrev pub read_payload : Option (List ℕ) → Result PacketValue PacketRefusal
read_payload None = Err refusal.NotIpv4
read_payload (Some packet) = read_ipv4 packet

-- the segment in the octets of a record of this link type, or why there is none
abbrev pub read_record : LinkKind → List ℕ → Result PacketValue PacketRefusal
read_record link octets = read_payload (payload link octets)
