-- A packet that is written is right, and is read again.
use Rattle.std.proofs.Common.{◌≡◌, ℕ, ◌+◌, ◌-◌, ◌*◌, ◌^◌, ◌<◌, ◌≤◌, List, [], ◌∷◌, ◌++◌, length, get_or, take, drop, Option, Some, None, Ok, false, true, refl, ap, ◌∙◌, arith}
use Rattle.std.proofs.lemmas.List.{drop-drop, take_all}
use Rattle.std.proofs.lemmas.Bool.Decides.{nat_tests}
use Rattle.cf_view.specs.Octets.{IsOctets, u16_be_octets, u32_be_octets, u16_be_at}
use Rattle.cf_view.specs.declared.Endpoint.{Endpoint}
use Rattle.cf_view.specs.declared.LinkKind.TheVariants as link
use Rattle.cf_packet.specs.Checksum.{words, total, ones_sum, is_right, checksum_of}
use Rattle.cf_packet.specs.Ipv4.{header_refusal, header_length, total_length, is_other_version, is_short, is_bad_header, is_fragment, source_address, destination_address, data_octets}
use Rattle.cf_packet.specs.Tcp.{pseudo_header, is_bad, is_right_segment, source_port, destination_port, sequence_number, acknowledgment_number, text_at, control_bits, window_field, options, text_octets, mss_of}
use Rattle.cf_packet.specs.Packet.{PacketValue, read_record, segment_in, read_ipv4, fields_of}
use Rattle.cf_packet.specs.Written.{IsWritable, HasRanges, option_words, option_octets, segment_length, segment_header, segment_with, header_with, header_checksum, segment_checksum, packet_octets}
use Rattle.cf_packet.proofs.Sums.{ones_folds}
use Rattle.cf_packet.proofs.PseudoHeader.{octets_cons, octets_none, octets_word, octets_number, pseudo_octets}

-- octets with their checksum in place of a zero
right_with : (xs ys : List ℕ) → IsOctets xs → IsOctets ys → total (words ys) ≡ total (words xs) + checksum_of xs → ones_sum (words ys) ≡ 65535
right_with xs ys o p e =
    let f = ones_folds xs o in
    let g = ones_folds ys p in
    let empty = g.empty in
    grind arith

-- a header that every test accepts
accepted : (x : List ℕ) → get_or x 0 0 ≡ 69 → total_length x ≤ length x → 20 ≤ total_length x → ones_sum (words (take 20 x)) ≡ 65535 →
    u16_be_at x 6 ≡ 16384 → get_or x 9 0 ≡ 6 → header_refusal x ≡ None
accepted x a b c d e f =
    let version : is_other_version x ≡ false = grind (arith, nat_tests) in
    let short : is_short x ≡ false = grind (arith, nat_tests) in
    let bad : is_bad_header x ≡ false = grind (arith, nat_tests) in
    let head : header_length x ≡ 20 = omega arith in
    let right : is_right (take (header_length x) x) ≡ true = rw (head, d) refl in
    let whole : is_fragment x ≡ false = grind (arith, nat_tests) in
    rw (version, short, bad, right, whole, f) refl

pub option_octets_are : (mss : Option ℕ) (rest : List ℕ) → ((m : ℕ) → mss ≡ Some m → m < 65536) → IsOctets rest → IsOctets (option_octets mss ++ rest)
option_octets_are None rest h o = o
option_octets_are (Some m) rest h o = octets_cons 2 (4 ∷ u16_be_octets m ++ rest) (omega arith) (octets_cons 4 (u16_be_octets m ++ rest) (omega arith) (octets_word m rest (h m refl) o))

-- the sum over options and text
pub option_total : (mss : Option ℕ) (rest : List ℕ) → total (words (option_octets mss ++ rest)) ≡ total (words (option_octets mss)) + total (words rest)
option_total None rest = omega arith
option_total (Some m) rest = omega arith

pub few_words : (mss : Option ℕ) → option_words mss ≤ 1
few_words None = omega arith
few_words (Some m) = omega arith

-- both parts are octets
module _ (p : PacketValue) (w : IsWritable p) (checksum : ℕ) (c : checksum < 65536) where
  pub header_octets : p.source.address < 2 ^ 32 → p.dest.address < 2 ^ 32 → IsOctets (header_with checksum p)
  header_octets a b =
      let few = few_words p.mss in
      let dest = u32_be_octets p.dest.address in
      let addresses = u32_be_octets p.source.address ++ dest in
      octets_word 17664 (u16_be_octets (20 + segment_length p) ++ u16_be_octets 0 ++ u16_be_octets 16384 ++ u16_be_octets 16390 ++ u16_be_octets checksum ++ addresses) (omega arith)
      (octets_word (20 + segment_length p) (u16_be_octets 0 ++ u16_be_octets 16384 ++ u16_be_octets 16390 ++ u16_be_octets checksum ++ addresses) (omega (arith, w.short))
      (octets_word 0 (u16_be_octets 16384 ++ u16_be_octets 16390 ++ u16_be_octets checksum ++ addresses) (omega arith)
      (octets_word 16384 (u16_be_octets 16390 ++ u16_be_octets checksum ++ addresses) (omega arith)
      (octets_word 16390 (u16_be_octets checksum ++ addresses) (omega arith)
      (octets_word checksum addresses c
      (octets_number p.source.address dest a
      (octets_number p.dest.address [] b octets_none)))))))

  pub segment_octets : HasRanges p → IsOctets (segment_with checksum p)
  segment_octets r =
      let few = few_words p.mss in
      let tail = option_octets p.mss ++ p.text in
      let behind = u16_be_octets p.window ++ u16_be_octets checksum ++ u16_be_octets 0 ++ tail in
      let bits = (5 + option_words p.mss) * 16 ∷ p.flags ∷ behind in
      octets_word p.source.port (u16_be_octets p.dest.port ++ u32_be_octets p.seq ++ u32_be_octets p.ack ++ bits) r.source_port
      (octets_word p.dest.port (u32_be_octets p.seq ++ u32_be_octets p.ack ++ bits) r.dest_port
      (octets_number p.seq (u32_be_octets p.ack ++ bits) r.seq
      (octets_number p.ack bits r.ack
      (octets_cons ((5 + option_words p.mss) * 16) (p.flags ∷ behind) (omega arith)
      (octets_cons p.flags behind (omega (arith, w.flags))
      (octets_word p.window (u16_be_octets checksum ++ u16_be_octets 0 ++ tail) r.window
      (octets_word checksum (u16_be_octets 0 ++ tail) c
      (octets_word 0 tail (omega arith)
      (option_octets_are p.mss p.text r.mss r.text)))))))))

-- the sums with a checksum and with a zero in its place
pub segment_total : (p : PacketValue) (checksum : ℕ) → total (words (segment_with checksum p)) ≡ total (words (segment_header 0 p)) + total (words p.text) + checksum
segment_total p checksum = omega (arith, option_total p.mss p.text)

pub header_total : (p : PacketValue) (checksum : ℕ) → total (words (header_with checksum p)) ≡ total (words (header_with 0 p)) + checksum
header_total p checksum = omega arith

-- both sums are right
header_right : (p : PacketValue) → HasRanges p → IsWritable p → ones_sum (words (header_with (header_checksum p) p)) ≡ 65535
header_right p r w =
    let c : header_checksum p < 65536 = omega arith in
    right_with (header_with 0 p) (header_with (header_checksum p) p) (header_octets p w 0 (omega arith) r.source_address r.dest_address)
    (header_octets p w (header_checksum p) c r.source_address r.dest_address)
    (header_total p (header_checksum p))

segment_right : (p : PacketValue) → HasRanges p → IsWritable p →
    ones_sum (words (pseudo_header p.source.address p.dest.address (segment_length p) ++ segment_with (segment_checksum p) p)) ≡ 65535
segment_right p r w =
    let few = few_words p.mss in
    let short : segment_length p ≤ 65535 = omega (arith, w.short) in
    let c : segment_checksum p < 65536 = omega arith in
    let pseudo = pseudo_header p.source.address p.dest.address (segment_length p) in
    let zeroed = segment_octets p w 0 (omega arith) r in
    let whole = segment_octets p w (segment_checksum p) c r in
    right_with (pseudo ++ segment_with 0 p) (pseudo ++ segment_with (segment_checksum p) p)
    (pseudo_octets p.source.address p.dest.address (segment_length p) (segment_with 0 p) r.source_address r.dest_address short zeroed)
    (pseudo_octets p.source.address p.dest.address (segment_length p) (segment_with (segment_checksum p) p) r.source_address r.dest_address short whole)
    (omega (arith, segment_total p 0, segment_total p (segment_checksum p)))

-- a packet by its parts
packet_from : (x s : List ℕ) (a b : ℕ) → header_refusal x ≡ None → source_address x ≡ a → destination_address x ≡ b → data_octets x ≡ s →
    read_ipv4 x ≡ segment_in a b s
packet_from x s a b e f g h = rw (e, f, g, h) refl

segment_from : (a b : ℕ) (s : List ℕ) (p : PacketValue) → is_bad s ≡ false → is_right_segment a b s ≡ true → fields_of a b s ≡ p → segment_in a b s ≡ Ok p
segment_from a b s p e f g = rw (e, f, g) refl

not_bad : (s : List ℕ) (k : ℕ) → get_or s 12 0 ≡ k * 16 → 5 ≤ k → 20 ≤ length s → k * 4 ≤ length s → is_bad s ≡ false
not_bad s k a b c d = grind (arith, nat_tests)

length_options : (mss : Option ℕ) (text : List ℕ) → length (option_octets mss ++ text) ≡ 4 * option_words mss + length text
length_options None text = omega arith
length_options (Some m) text = omega arith

pub length_segment : (p : PacketValue) (checksum : ℕ) → length (segment_with checksum p) ≡ segment_length p
length_segment p checksum = omega (arith, length_options p.mss p.text)

-- the options and the text after 20 octets
options_again : (s : List ℕ) (mss : Option ℕ) (text : List ℕ) → text_at s ≡ 20 + 4 * option_words mss → drop 20 s ≡ option_octets mss ++ text → options s ≡ option_octets mss
options_again s None text e f = rw e refl
options_again s (Some m) text e f = rw (e, f) refl

text_again : (s : List ℕ) (mss : Option ℕ) (text : List ℕ) → text_at s ≡ 20 + 4 * option_words mss → drop 20 s ≡ option_octets mss ++ text → text_octets s ≡ text
text_again s None text e f = rw (e, f) refl
text_again s (Some m) text e f = rw (e, ← drop-drop 4 20 s, f) refl

mss_again : (mss : Option ℕ) → ((m : ℕ) → mss ≡ Some m → m < 65536) → mss_of (option_octets mss) ≡ mss
mss_again None h = refl
mss_again (Some m) h = ap Some (omega arith)

same_packet : (p q : PacketValue) → p.source ≡ q.source → p.dest ≡ q.dest → p.seq ≡ q.seq → p.ack ≡ q.ack → p.flags ≡ q.flags → p.window ≡ q.window → p.mss ≡ q.mss → p.text ≡ q.text → p ≡ q
same_packet p q a b c d e f g h = rw (a, b, c, d, e, f, g, h) refl

same_endpoint : (x y : Endpoint) → x.address ≡ y.address → x.port ≡ y.port → x ≡ y
same_endpoint x y a b = rw (a, b) refl

fields_again : (p : PacketValue) → HasRanges p → IsWritable p → (checksum : ℕ) → fields_of p.source.address p.dest.address (segment_with checksum p) ≡ p
fields_again p r w checksum =
    let s = segment_with checksum p in
    let few = few_words p.mss in
    let at : text_at s ≡ 20 + 4 * option_words p.mss = omega arith in
    let seq : sequence_number s ≡ p.seq = omega arith in
    let ack : acknowledgment_number s ≡ p.ack = omega arith in
    let flags : control_bits s ≡ p.flags = omega (arith, w.flags) in
    let window : window_field s ≡ p.window = omega arith in
    let source : source_port s ≡ p.source.port = omega arith in
    let dest : destination_port s ≡ p.dest.port = omega arith in
    same_packet (fields_of p.source.address p.dest.address s) p (same_endpoint _ p.source refl source) (same_endpoint _ p.dest refl dest) seq ack flags window
    (ap mss_of (options_again s p.mss p.text at refl) ∙ mss_again p.mss r.mss) (text_again s p.mss p.text at refl)

-- what is written is read again
pub written_again : (p : PacketValue) → HasRanges p → IsWritable p → read_record link.RawIp (packet_octets p) ≡ Ok p
written_again p r w =
    let few = few_words p.mss in
    let s = segment_with (segment_checksum p) p in
    let x = packet_octets p in
    let size : length s ≡ segment_length p = length_segment p (segment_checksum p) in
    let long : length x ≡ 20 + length s = omega arith in
    let total : total_length x ≡ 20 + segment_length p = omega (arith, w.short) in
    let source : source_address x ≡ p.source.address = omega (arith, r.source_address) in
    let dest : destination_address x ≡ p.dest.address = omega (arith, r.dest_address) in
    let header = accepted x refl (omega arith) (omega arith) (header_right p r w) refl refl in
    let inside : data_octets x ≡ s = take_all (total_length x - 20) s (omega arith) in
    let bad = not_bad s (5 + option_words p.mss) refl (omega arith) (omega arith) (omega arith) in
    let right : is_right_segment p.source.address p.dest.address s ≡ true = rw (size, segment_right p r w) refl in
    packet_from x s p.source.address p.dest.address header source dest inside
    ∙ segment_from p.source.address p.dest.address s p bad right (fields_again p r w (segment_checksum p))
