-- Beside the proof: a capture of two sessions worked by hand, evaluated, a check of the definitions alone: `FileRowsHold`. The file is that of
-- draft-ietf-opsawg-pcap, sections 4 and 5, the packets those of RFC 791 and RFC 9293, section 3.1, the request that of Modbus Application
-- Protocol V1.1b3, section 6.3.
use Rattle.cf_packet.specs.Packet.{read_record}
use Rattle.cf_packet.specs.declared.PacketRefusal.TheVariants as refusal
use Rattle.cf_isolation.specs.ReadBack.{MayBeWritten, ReadsAs, record_by}
use Rattle.cf_records.specs.Capture.{Record}
use Rattle.cf_run.specs.Run.{capture_of}
use Rattle.cf_session.specs.Sent.{Sent}
use Rattle.cf_view.specs.declared.LinkKind.TheVariants as link
use Rattle.std.specs.Prelude.{Err, List, None, Ok, Some, [], set, ℕ, ◌++◌, ◌∷◌, ◌≡◌}

-- the SYN of the one client, 10.0.0.5:49152, to 10.0.0.1:502 at 1.000000
abbrev pub one : Sent
one = record {
  moment = 1000000;
  packet = record {
    source = record { address = 0x0a000005; port = 49152 };
    dest = record { address = 0x0a000001; port = 502 };
    seq = 0x01020304;
    ack = 0;
    flags = 2;
    window = 16384;
    mss = Some 1460;
    text = [];
  };
}

-- a read of one register by the other client, 10.0.0.6:49153, at 2.500001
abbrev pub other : Sent
other = record {
  moment = 2500001;
  packet = record {
    source = record { address = 0x0a000006; port = 49153 };
    dest = record { address = 0x0a000001; port = 502 };
    seq = 2001;
    ack = 3001;
    flags = 24;
    window = 16384;
    mss = None;
    text = 0 ∷ 1 ∷ 0 ∷ 0 ∷ 0 ∷ 6 ∷ 1 ∷ 3 ∷ 0 ∷ 0 ∷ 0 ∷ 1 ∷ [];
  };
}

-- the octets of each, with the checksums of both headers
abbrev pub one_octets : List ℕ
one_octets =
    0x45 ∷ 0x00 ∷ 0x00 ∷ 0x2c ∷ 0x00 ∷ 0x00 ∷ 0x40 ∷ 0x00 ∷ 0x40 ∷ 0x06 ∷ 0x26 ∷ 0xc7 ∷ 0x0a ∷ 0x00 ∷ 0x00 ∷ 0x05 ∷ 0x0a ∷ 0x00 ∷ 0x00 ∷ 0x01 ∷ 0xc0 ∷ 0x00 ∷ 0x01 ∷ 0xf6 ∷ 0x01 ∷ 0x02
    ∷ 0x03 ∷ 0x04 ∷ 0x00 ∷ 0x00 ∷ 0x00 ∷ 0x00 ∷ 0x60 ∷ 0x02 ∷ 0x40 ∷ 0x00 ∷ 0x7e ∷ 0x24 ∷ 0x00 ∷ 0x00 ∷ 0x02 ∷ 0x04 ∷ 0x05 ∷ 0xb4 ∷ []

-- the octets of the request
abbrev pub other_octets : List ℕ
other_octets =
    0x45 ∷ 0x00 ∷ 0x00 ∷ 0x34 ∷ 0x00 ∷ 0x00 ∷ 0x40 ∷ 0x00 ∷ 0x40 ∷ 0x06 ∷ 0x26 ∷ 0xbe ∷ 0x0a ∷ 0x00 ∷ 0x00 ∷ 0x06 ∷ 0x0a ∷ 0x00 ∷ 0x00 ∷ 0x01 ∷ 0xc0 ∷ 0x01 ∷ 0x01 ∷ 0xf6 ∷ 0x00 ∷ 0x00
    ∷ 0x07 ∷ 0xd1 ∷ 0x00 ∷ 0x00 ∷ 0x0b ∷ 0xb9 ∷ 0x50 ∷ 0x18 ∷ 0x40 ∷ 0x00 ∷ 0x85 ∷ 0x2d ∷ 0x00 ∷ 0x00 ∷ 0x00 ∷ 0x01 ∷ 0x00 ∷ 0x00 ∷ 0x00 ∷ 0x06 ∷ 0x01 ∷ 0x03 ∷ 0x00 ∷ 0x00 ∷ 0x00 ∷ 0x01 ∷ []

-- the header: microseconds, version 2.4, snap length 262,144, raw IP, all little-endian
abbrev pub header : List ℕ
header =
    0xd4 ∷ 0xc3 ∷ 0xb2 ∷ 0xa1 ∷ 0x02 ∷ 0x00 ∷ 0x04 ∷ 0x00 ∷ 0x00 ∷ 0x00 ∷ 0x00 ∷ 0x00 ∷ 0x00 ∷ 0x00 ∷ 0x00 ∷ 0x00 ∷ 0x00 ∷ 0x00 ∷ 0x04 ∷ 0x00 ∷ 0x65 ∷ 0x00 ∷ 0x00 ∷ 0x00 ∷ []

-- each record's head: seconds, microseconds, and its length twice
abbrev pub file : List ℕ
file =
    header ++ (1 ∷ 0 ∷ 0 ∷ 0 ∷ 0 ∷ 0 ∷ 0 ∷ 0 ∷ 44 ∷ 0 ∷ 0 ∷ 0 ∷ 44 ∷ 0 ∷ 0 ∷ 0 ∷ []) ++ one_octets
    ++ (2 ∷ 0 ∷ 0 ∷ 0 ∷ 0x21 ∷ 0xa1 ∷ 0x07 ∷ 0 ∷ 52 ∷ 0 ∷ 0 ∷ 0 ∷ 52 ∷ 0 ∷ 0 ∷ 0 ∷ []) ++ other_octets

-- the record of the SYN
abbrev pub one_record : Record
one_record = record { stamp = 1000000; link = link.RawIp; body = one_octets }

-- the record of the request
abbrev pub other_record : Record
other_record = record { stamp = 2500001; link = link.RawIp; body = other_octets }

pub record FileRowsHold : Type 0 where
  pub written : capture_of (one ∷ other ∷ []) ≡ file
  pub records : record_by one ∷ record_by other ∷ [] ≡ one_record ∷ other_record ∷ []
  pub reads : ReadsAs file (one ∷ other ∷ [])
  pub one_again : read_record link.RawIp one_octets ≡ Ok one.packet
  pub other_again : read_record link.RawIp other_octets ≡ Ok other.packet
  -- the file is read as no others: neither in another order, nor as one alone, nor at other moments
  pub other_order : ReadsAs file (other ∷ one ∷ []) → ⊥
  pub one_alone : ReadsAs file (one ∷ []) → ⊥
  pub other_moment : ReadsAs file (record one { moment = 1000001 } ∷ other ∷ []) → ⊥
  -- an octet of the request, its function code, is another one: no packet
  pub changed : read_record link.RawIp (set other_octets 47 6) ≡ Err refusal.BadTcpSum
  -- what may be written: the SYN has an option and no text, the request a text and no option, and none has more than six flags
  pub one_may : MayBeWritten one
  pub other_may : MayBeWritten other
  pub both_may_not : MayBeWritten (record other { packet = record other.packet { mss = Some 1460 } }) → ⊥
  pub seven_flags_may_not : MayBeWritten (record one { packet = record one.packet { flags = 64 } }) → ⊥
