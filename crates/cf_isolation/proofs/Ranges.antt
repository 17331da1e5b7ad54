-- Fields that are spelled by octets are in their ranges.
use Rattle.std.proofs.Common.{◌≡◌, ℕ, zero, suc, ◌/◌, ◌<◌, ◌≤◌, List, [], ◌∷◌, ◌++◌, length, Option, Some, None, Ok, arith}
use Rattle.cf_isolation.proofs.Common.{IsWritable, PacketValue}
use Rattle.std.proofs.lemmas.Option.{none-some, same_Some}
use Rattle.cf_leg.specs.Emitted.{spelled}
use Rattle.cf_packet.specs.Packet.{read_record}
use Rattle.cf_packet.specs.Written.{HasRanges, option_octets, packet_octets, segment_checksum}
use Rattle.cf_view.proofs.OctetLists.{IsOctets-drop}
use Rattle.cf_view.specs.Octets.{IsOctets}
use Rattle.cf_packet.proofs.Written.{few_words, length_segment, written_again}
use Rattle.cf_view.specs.declared.LinkKind.TheVariants as link

pub octets_front : (xs ys : List ℕ) → IsOctets (xs ++ ys) → IsOctets xs
octets_front [] ys o i = omega arith
octets_front (x ∷ xs) ys o zero = o 0
octets_front (x ∷ xs) ys o (suc i) = octets_front xs ys (λ k. o (suc k)) i

pub octets_back : (xs ys : List ℕ) → IsOctets (xs ++ ys) → IsOctets ys
octets_back [] ys o = o
octets_back (x ∷ xs) ys o = octets_back xs ys (λ k. o (suc k))

mss_range : (mss : Option ℕ) (text : List ℕ) → IsOctets (option_octets mss ++ text) → (m : ℕ) → mss ≡ Some m → m < 65536
mss_range None text o m e = absurd (none-some m e)
mss_range (Some k) text o m e = let a : k / 256 < 256 = o 2 in let s : k ≡ m = same_Some k m e in omega (arith, a, s)

ranges : (p : PacketValue) → IsOctets (packet_octets p) → HasRanges p
ranges p o =
    let rest : IsOctets (option_octets p.mss ++ p.text) = IsOctets-drop (packet_octets p) 40 o in
    record {
      source_address = let a : p.source.address / 65536 / 256 < 256 = o 12 in omega (arith, a);
      source_port = let a : p.source.port / 256 < 256 = o 20 in omega (arith, a);
      dest_address = let a : p.dest.address / 65536 / 256 < 256 = o 16 in omega (arith, a);
      dest_port = let a : p.dest.port / 256 < 256 = o 22 in omega (arith, a);
      seq = let a : p.seq / 65536 / 256 < 256 = o 24 in omega (arith, a);
      ack = let a : p.ack / 65536 / 256 < 256 = o 28 in omega (arith, a);
      window = let a : p.window / 256 < 256 = o 34 in omega (arith, a);
      mss = mss_range p.mss p.text rest;
      text = octets_back (option_octets p.mss) p.text rest;
    }

pub spelled_again : (p : PacketValue) → IsWritable p → IsOctets (spelled p) → read_record link.RawIp (spelled p) ≡ Ok p
unfolding spelled
spelled_again p w o = written_again p (ranges p o) w

pub spelled_short : (p : PacketValue) → IsWritable p → length (spelled p) ≤ 1504
unfolding spelled
spelled_short p w =
    let few = few_words p.mss in
    let size = length_segment p (segment_checksum p) in
    omega (arith, few, size, w.short)
