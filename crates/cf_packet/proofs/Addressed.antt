-- What stands where a packet is read: a header that passes its tests, and a whole header of a segment behind it.
use Rattle.std.proofs.Common.{◌≡◌, ◌∙◌, ℕ, ◌+◌, ◌-◌, ◌<◌, ◌≤◌, Bool, true, false, not, ◌||◌, cond, nat_lt, List, length, take, drop, get_or, refl, ap, arith}
use Rattle.std.proofs.Common.{Option, Some, None, Ok, Err, slice_range}
use Rattle.std.proofs.lemmas.Bool.Decides.{nat_tests}
use Rattle.std.proofs.lemmas.List.{get_or-drop, get_or-take, length-drop, length-take}
use Rattle.cf_view.specs.Octets.{u16_be_at}
use Rattle.cf_view.specs.declared.Endpoint.{Endpoint}
use Rattle.cf_packet.specs.Ipv4.{data_octets, destination_address, header_length, header_refusal, is_other_version, is_short}
use Rattle.cf_packet.specs.Ipv4.{source_address, total_length}
use Rattle.cf_packet.specs.Packet.{PacketValue, fields_of, read_after_header, read_ipv4}
use Rattle.cf_packet.specs.Recorded.{is_partial_segment, recorded_after_header, recorded_payload}
use Rattle.cf_packet.specs.Tcp.{destination_port, is_bad, is_right_segment}
use Rattle.cf_packet.specs.declared.packet.PacketRefusal.{PacketRefusal}

-- a test that is passed, and what comes after it
passed : {A : Type 0} (failed : Bool) (why : A) (later : Option A) → cond failed (Some why) later ≡ None → (failed ≡ false) × (later ≡ None)
passed true why later e = absurd cc
passed false why later e = (refl, e)

-- two tests that are passed before a value
valued : {A B : Type 0} (bad wrong : Bool) (first second : A) (value is : B) →
    cond bad (Err first) (cond wrong (Err second) (Ok value)) ≡ Ok is → (bad ≡ false) × (value ≡ is)
valued true wrong first second value is e = absurd cc
valued false true first second value is e = absurd cc
valued false false first second value is e = (refl, cc)

-- where a packet goes, by its fields
abbrev pub destination_of : List ℕ → Endpoint
destination_of packet = record { address = destination_address packet; port = destination_port (data_octets packet) }

-- the header and the segment's header are whole, and the packet goes there
abbrev pub GoesTo : List ℕ → Endpoint → Type 0
GoesTo packet dest = (header_refusal packet ≡ None) × (is_bad (data_octets packet) ≡ false) × (destination_of packet ≡ dest)

read_behind : (packet : List ℕ) (p : PacketValue) (r : Option PacketRefusal) → header_refusal packet ≡ r → read_after_header packet r ≡ Ok p → GoesTo packet p.dest
read_behind packet p (Some r) h e = absurd cc
read_behind packet p None h e =
    let source = source_address packet in
    let dest = destination_address packet in
    let segment = data_octets packet in
    let v = valued (is_bad segment) (not (is_right_segment source dest segment)) _ _ (fields_of source dest segment) p e in
    (h, v.0, ap (λ (q : PacketValue). q.dest) v.1)

recorded_behind : (packet : List ℕ) (p : PacketValue) (r : Option PacketRefusal) → header_refusal packet ≡ r → recorded_after_header packet r ≡ Ok p → GoesTo packet p.dest
recorded_behind packet p (Some r) h e = absurd cc
recorded_behind packet p None h e =
    let source = source_address packet in
    let dest = destination_address packet in
    let segment = data_octets packet in
    let v = valued (is_bad segment) (not (is_right_segment source dest segment || is_partial_segment source dest segment)) _ _ (fields_of source dest segment) p e in
    (h, v.0, ap (λ (q : PacketValue). q.dest) v.1)

pub read_goes : (packet : List ℕ) (p : PacketValue) → read_ipv4 packet ≡ Ok p → GoesTo packet p.dest
read_goes packet p e = read_behind packet p (header_refusal packet) refl e

pub recorded_goes : (packet : List ℕ) (p : PacketValue) → recorded_payload (Some packet) ≡ Ok p → GoesTo packet p.dest
recorded_goes packet p e = recorded_behind packet p (header_refusal packet) refl e

-- ---- the segment's place

short_by : (size header total : ℕ) → (nat_lt size 20 || (nat_lt size header || nat_lt size total)) ≡ false → (20 ≤ size) × (total ≤ size)
short_by size header total s = (grind (arith, nat_tests), grind (arith, nat_tests))

twenty_by : (size : ℕ) (other : Bool) → (nat_lt size 20 || other) ≡ false → 20 ≤ size
twenty_by size other s = grind (arith, nat_tests)

-- what stands in the tests of a header that passes them
not_short : (packet : List ℕ) → header_refusal packet ≡ None → is_short packet ≡ false
not_short packet h = (passed (is_short packet) _ _ (passed (is_other_version packet) _ _ h).1).0

-- both headers are in the octets
pub headers_inside : (packet : List ℕ) → header_refusal packet ≡ None → is_bad (data_octets packet) ≡ false →
    (header_length packet + 20 ≤ total_length packet) × (total_length packet ≤ length packet)
headers_inside packet h bad =
    let header = header_length packet in
    let total = total_length packet in
    let outer = short_by (length packet) header total (not_short packet h) in
    let inner : 20 ≤ length (take (total - header) (drop header packet)) = twenty_by (length (data_octets packet)) _ bad in
    (omega (arith, inner, length-take (total - header) (drop header packet), length-drop header packet), outer.1)

-- the port in the segment is that in the packet
pub port_at : (packet : List ℕ) (header total : ℕ) → header + 4 ≤ total → u16_be_at (slice_range packet header total) 2 ≡ u16_be_at packet (header + 2)
port_at packet header total h =
    let at = λ (i : ℕ) (near : i < total - header). get_or-take (total - header) (drop header packet) i 0 near ∙ get_or-drop header packet i 0 in
    let next : get_or packet (header + 3) 0 ≡ get_or packet (header + 2 + 1) 0 = ap (λ i. get_or packet i 0) (omega arith) in
    rw (at 2 (omega arith), at 3 (omega arith), next) refl
