-- Beside the proof: a capture of two sessions worked by hand, evaluated, a check of the definitions alone: `RunRowsHold`. Each client, 10.0.0.5
-- and 10.0.0.6, has its SYN and then a read of one register by Modbus Application Protocol V1.1b3, section 6.3, in a segment that RFC 9293,
-- section 3.4, has at the place behind the SYN.
use Rattle.cf_lane.specs.Rows.{modbus_asset}
use Rattle.cf_leg.specs.Event.{Greeting, LegEvent, Nothing, Spoke}
use Rattle.cf_packet.specs.Packet.{PacketValue}
use Rattle.cf_policy.specs.Site.{alone}
use Rattle.cf_policy.specs.declared.Asset.{Asset}
use Rattle.cf_isolation.specs.ReadBack.{record_by}
use Rattle.cf_records.specs.Capture.{Record}
use Rattle.cf_unobjected.specs.OneFlow.{Numbered, carried_on, numbered_from, packets_of}
use Rattle.cf_unobjected.specs.PairFlows.{GoesTo, IsSpoken, Spoken, SynsFirst, pairs_on}
use Rattle.cf_unobjected.specs.Separate.{heard_on, is_to, pair_of}
use Rattle.cf_session.specs.Sent.{Sent}
use Rattle.cf_stream.specs.Stream.{no_letters}
use Rattle.cf_view.specs.declared.Endpoint.{Endpoint}
use Rattle.cf_view.specs.declared.LinkKind.TheVariants as link
use Rattle.cf_watch.specs.Carried.{Carried}
use Rattle.cf_watch.specs.Watched.{Watched, watched}
use Rattle.std.specs.Prelude.{Bool, List, None, Option, Some, [], false, filter, map, pos, reverse, set, take, true, ℕ, ◌+◌, ◌∷◌, ◌≡◌}

-- two clients, and the pump at 10.0.0.9:502
abbrev pub one : Endpoint
one = record { address = 0x0a000005; port = 49152 }

-- the other client
abbrev pub other : Endpoint
other = record { address = 0x0a000006; port = 49153 }

-- the end of the pump
abbrev pub pump : Endpoint
pump = modbus_asset.endpoint

-- a segment between two ends
abbrev pub segment : (source dest : Endpoint) → (seq ack flags : ℕ) → (mss : Option ℕ) → (text : List ℕ) → PacketValue
segment source dest seq ack flags mss text = record {
  source = source;
  dest = dest;
  seq = seq;
  ack = ack;
  flags = flags;
  window = 16384;
  mss = mss;
  text = text;
}

-- the SYN of the box for a client, the SYN ACK to it, and its segment with a request
abbrev pub greets : Endpoint → (number : ℕ) → PacketValue
greets client number = segment client pump number 0 2 (Some 1460) []

-- the SYN ACK of the box to a client
abbrev pub answers : Endpoint → (number : ℕ) → PacketValue
answers client number = segment pump client 7000 (number + 1) 18 (Some 1460) []

-- the segment with a request
abbrev pub requests : Endpoint → (number : ℕ) → (text : List ℕ) → PacketValue
requests client number text = segment client pump (number + 1) 7001 24 None text

-- a read of register 0, or of register 1
abbrev pub read_of : ℕ → List ℕ
read_of point = 0 ∷ 1 ∷ 0 ∷ 0 ∷ 0 ∷ 6 ∷ 1 ∷ 3 ∷ 0 ∷ point ∷ 0 ∷ 1 ∷ []

-- what was sent, in its order: both SYNs, both SYN ACKs, both requests
abbrev pub all : List Sent
all =
    record { moment = 1000000; packet = greets one 1000 } ∷ record { moment = 2000000; packet = greets other 2000 }
    ∷ record { moment = 3000000; packet = answers one 1000 } ∷ record { moment = 4000000; packet = answers other 2000 }
    ∷ record { moment = 5000000; packet = requests one 1000 (read_of 0) } ∷ record { moment = 6000000; packet = requests other 2000 (read_of 1) }
    ∷ []

-- the records of the capture, the newest first
abbrev pub newest : List Record
newest = reverse (map record_by all)

-- the request of the other client as its record has it, octet by octet
abbrev pub request_octets : List ℕ
request_octets =
    0x45 ∷ 0x00 ∷ 0x00 ∷ 0x34 ∷ 0x00 ∷ 0x00 ∷ 0x40 ∷ 0x00 ∷ 0x40 ∷ 0x06 ∷ 0x26 ∷ 0xb6 ∷ 0x0a ∷ 0x00 ∷ 0x00 ∷ 0x06 ∷ 0x0a ∷ 0x00 ∷ 0x00 ∷ 0x09 ∷ 0xc0 ∷ 0x01 ∷ 0x01 ∷ 0xf6 ∷ 0x00 ∷ 0x00
    ∷ 0x07 ∷ 0xd1 ∷ 0x00 ∷ 0x00 ∷ 0x1b ∷ 0x59 ∷ 0x50 ∷ 0x18 ∷ 0x40 ∷ 0x00 ∷ 0x75 ∷ 0x84 ∷ 0x00 ∷ 0x00 ∷ 0x00 ∷ 0x01 ∷ 0x00 ∷ 0x00 ∷ 0x00 ∷ 0x06 ∷ 0x01 ∷ 0x03 ∷ 0x00 ∷ 0x01 ∷ 0x00 ∷ 0x01 ∷ []

-- what a packet of a record carried from place 0 on
abbrev pub carried : (number : ℕ) → (bytes : List ℕ) → Carried
carried number bytes = record { number = number; at = pos 0; text = record { bytes = bytes; ended = false } }

-- a flow of a client to the site of the first asset
abbrev pub flow : Endpoint → (number : ℕ) → (all : List Carried) → (answered : Bool) → Watched
flow client number all answered =
    record { client = client; asset = 0; origin = number; answered = answered; midstream = None; carried = all }

-- the flow of the one client
abbrev pub one_flow : Watched
one_flow = flow one 1000 (carried 5 (read_of 0) ∷ carried 1 [] ∷ []) true

-- the flow of the other client
abbrev pub other_flow : Watched
other_flow = flow other 2000 (carried 6 (read_of 1) ∷ carried 2 [] ∷ []) true

-- the policy of the pump alone
abbrev pub pumps : List Asset
pumps = modbus_asset ∷ []

-- the packets with the numbers of their records
abbrev pub heard : List Numbered
heard = numbered_from 1 all

-- the packets of the one client with their numbers
abbrev pub one_heard : List Numbered
one_heard = record { number = 1; packet = greets one 1000 } ∷ record { number = 5; packet = requests one 1000 (read_of 0) } ∷ []

-- the session of the one client as it speaks to its controller
abbrev pub one_spoken : Spoken
one_spoken = record {
  flow = record { site = alone modbus_asset; syn = segment one pump 1000 0 2 None [] };
  first = record { number = 1; packet = greets one 1000 };
  rest = record { number = 5; packet = requests one 1000 (read_of 0) } ∷ [];
}

-- the events of its end towards the controller, the newest first
abbrev pub ends : List LegEvent
ends =
    record {
      tick = 4999999;
      ticked = true;
      fired = [];
      came = Nothing;
      ending = Spoke (record { bytes = read_of 0; ended = false }) true (requests one 1000 (read_of 0) ∷ []);
    }
    ∷ record { tick = 999999; ticked = false; fired = []; came = Greeting (greets one 1000); ending = Spoke no_letters true [] } ∷ []

pub record RunRowsHold : Type 0 where
  -- two flows are watched, each with what its own client's packets carried
  pub are_watched : watched pumps newest ≡ one_flow ∷ other_flow ∷ []
  pub are_heard : heard_on pumps heard [] ≡ one_flow ∷ other_flow ∷ []
  -- without the last record the other one has its SYN alone; no packet with ACK has followed in it
  pub without_last :
      watched pumps (reverse (map record_by (take 5 all))) ≡ one_flow ∷ flow other 2000 (carried 2 [] ∷ []) false ∷ []
  -- the flows of one client are those of its packets
  pub of_one : pair_of one 0 (heard_on pumps heard []) ≡ one_flow ∷ []
  pub to_one : filter (is_to pumps one 0) heard ≡ one_heard
  pub by_one : pairs_on 0 one_heard [] ≡ one_flow ∷ []
  pub of_none : pair_of (record one { port = 4915 }) 0 (heard_on pumps heard []) ≡ []
  pub carried_by_one : carried_on 1000 [] one_heard ≡ carried 5 (read_of 0) ∷ carried 1 [] ∷ []
  -- what the session spoke, its SYN first
  pub packets : packets_of ends ≡ greets one 1000 ∷ requests one 1000 (read_of 0) ∷ []
  pub spoken : IsSpoken one_spoken
  pub late_syn : SynsFirst false (greets one 1000 ∷ requests one 1000 (read_of 0) ∷ greets one 1000 ∷ []) → ⊥
  pub other_syn : GoesTo one_spoken.flow (greets one 1001) → ⊥
  pub other_client : GoesTo one_spoken.flow (requests other 2000 (read_of 0)) → ⊥
  -- the record of the other client's request; with another octet it is none, and its flow has not carried it
  pub request_record : record_by (record { moment = 6000000; packet = requests other 2000 (read_of 1) }) ≡ record { stamp = 6000000; link = link.RawIp; body = request_octets }
  pub changed :
      watched pumps (record { stamp = 6000000; link = link.RawIp; body = set request_octets 47 6 } ∷ reverse (map record_by (take 5 all)))
      ≡ one_flow ∷ flow other 2000 (carried 2 [] ∷ []) false ∷ []
