-- The packets of a capture file that grows.
use Rattle.std.proofs.Common.{◌≡◌, ◌+◌, ◌-◌, ◌<◌, ◌≤◌, ◌⊎◌, ℕ, Bool, true, false, None, Some, List, [], ◌∷◌, ◌++◌, length, take, drop, if◌then◌else◌, bytes_eq, refl, sym, ap, ◌∙◌, subst, inl, inr, arith}
use Rattle.std.specs.List.{flat_map}
use Rattle.std.proofs.lemmas.List.{append-nil, take-append-drop, take-append-le, drop-append-le, length-take, take_all}
use Rattle.std.proofs.lemmas.Slice.Eq.{bytes_eq-Decides}
use Rattle.std.proofs.Math.Seq.{take-append-add}
use Rattle.std.proofs.lemmas.Bool.{and_parts, cases_lt}
use Rattle.std.proofs.lemmas.Bool.Decides.{nat_tests}
use Rattle.cf_pcap.specs.Header.{output_header, output_octets}
use Rattle.cf_pcap.specs.Record.{RecordAnswerValue, Need, TooLong, Whole, captured_at, head_octets, record_of}
use Rattle.cf_outside.specs.Files.{Content, untold, absent, holds, with_appended}
use Rattle.cf_outside.specs.Desk.{SentValue, with_item}
use Rattle.cf_outside.proofs.Lines.{nothing}
use Rattle.cf_run.specs.Items.{items_from, part_from}
use Rattle.cf_run.specs.OutputFile.{IsRecord, packet_by, packet_in, record_octets, has_header, file_packets, packet_part, ends_with_record}
use Rattle.cf_run.proofs.Items.{items-append, items-rest, part-append, items-part, items-one, part-none}

-- octets that are the record of a packet, and are read so, are that packet
pub packet_in-record : (octets : List ℕ) (sent : SentValue) (used : ℕ) → octets ≡ record_octets sent →
    record_of output_header octets ≡ Whole sent.moment sent.bytes used → packet_in octets ≡ Some sent
packet_in-record octets sent used is read = rw (read, (bytes_eq-Decides octets (record_octets sent)).1 is) refl

spelled_if : (octets : List ℕ) (sent packet : SentValue) (b : Bool) → bytes_eq octets (record_octets sent) ≡ b → (if b then Some sent else None) ≡ Some packet →
    octets ≡ record_octets packet
spelled_if octets sent packet true same e =
    let one : sent ≡ packet = cc in
    subst (λ p. octets ≡ record_octets p) one ((bytes_eq-Decides octets (record_octets sent)).0 same)
spelled_if octets sent packet false same e = cc

spelled_by : (octets : List ℕ) (packet : SentValue) (answer : RecordAnswerValue) → packet_by octets answer ≡ Some packet → octets ≡ record_octets packet
spelled_by octets packet (Whole stamp body used) e = spelled_if octets (record { moment = stamp; bytes = body }) packet _ refl e
spelled_by octets packet (Need size) e = cc
spelled_by octets packet TooLong e = cc

-- the octets of a packet are its record
pub packet_in-spelled : (octets : List ℕ) (packet : SentValue) → packet_in octets ≡ Some packet → octets ≡ record_octets packet
packet_in-spelled octets packet e = spelled_by octets packet (record_of output_header octets) e

-- octets that end inside the head of a record, or after it, are none
in_head : (octets : List ℕ) → length octets < 16 → packet_in octets ≡ None
in_head octets few = grind (arith, nat_tests)

in_body : (octets : List ℕ) → 16 ≤ length octets → captured_at output_header octets ≤ 262144 → length octets < 16 + captured_at output_header octets →
    packet_in octets ≡ None
in_body octets head allowed few = grind (arith, nat_tests)

-- so no beginning of the record of a packet is one
pub packet_in-beginning : (octets body : List ℕ) (moment count : ℕ) → octets ≡ head_octets moment (length body) ++ body → length body ≤ 1500 →
    count < length octets → packet_in (take count octets) ≡ None
packet_in-beginning octets body moment count is small below =
    elim (cases_lt count 16) [
      | inl short ↦ in_head (take count octets) (omega (arith, length-take count octets))
      | inr long ↦
          let head : List ℕ = head_octets moment (length body) in
          let more : List ℕ = take (count - 16) body in
          let same : count ≡ length head + (count - 16) = omega arith in
          let cut : take count octets ≡ head ++ more = ap (take count) is ∙ ap (λ n. take n (head ++ body)) same ∙ take-append-add head body (count - 16) in
          let size : length octets ≡ 16 + length body = omega (arith, ap length is) in
          let some : length more ≡ count - 16 = omega (arith, length-take (count - 16) body, size) in
          let captured : captured_at output_header (head ++ more) ≡ length body = omega arith in
          rw cut (in_body (head ++ more) (omega arith) (omega (arith, captured)) (omega (arith, captured, some, size)))
    ]

one : (octets : List ℕ) (sent : SentValue) → IsRecord octets sent →
    (items_from packet_in [] octets ≡ sent ∷ []) × (part_from packet_in [] octets ≡ [])
one [] sent r = absurd (omega (arith, r.some))
one (x ∷ xs) sent r = items-one packet_in [] x xs sent r.whole r.first

headed : (all more : List ℕ) → has_header all ≡ true → (take 24 (all ++ more) ≡ take 24 all) × (drop 24 (all ++ more) ≡ drop 24 all ++ more)
headed all more h =
    let same : take 24 all ≡ output_octets = (bytes_eq-Decides (take 24 all) output_octets).0 h in
    let long : 24 ≤ length all = omega (arith, length-take 24 all, ap length same) in
    (take-append-le 24 all more long, drop-append-le 24 all more long)

-- one record more
pub record Recorded (file : Content) (octets : List ℕ) (sent : SentValue) : Type 0 where
  pub packets : file_packets (with_appended file octets) ≡ with_item sent (file_packets file)
  pub ends : ends_with_record (with_appended file octets) ≡ true
  pub part : packet_part (with_appended file octets) ≡ packet_part file

pub recorded : (file : Content) (octets : List ℕ) (sent : SentValue) → IsRecord octets sent → ends_with_record file ≡ true → Recorded file octets sent
recorded untold octets sent r e = record { packets = refl; ends = refl; part = refl }
recorded absent octets sent r e = record { packets = refl; ends = refl; part = refl }
recorded (holds all) octets sent r e =
    let (h, n) = and_parts _ _ e in
    let (t, d) = headed all octets h in
    let (item, rest) = one octets sent r in
    record {
      packets = rw (t, d, h, items-append packet_in [] (drop 24 all) octets, nothing _ n, item) refl;
      ends = rw (t, d, h, part-append packet_in [] (drop 24 all) octets, nothing _ n, rest) refl;
      part = rw (d, part-append packet_in [] (drop 24 all) octets, nothing _ n, rest) refl;
    }

-- some octets of a record add no packet and stand after the last one, or they are the record
pub file_packets-part : (file : Content) (octets : List ℕ) (sent : SentValue) (k : ℕ) → IsRecord octets sent → ends_with_record file ≡ true →
    ((file_packets (with_appended file (take k octets)) ≡ file_packets file)
    × ((j : ℕ) × (packet_part (with_appended file (take k octets)) ≡ take j octets)))
    ⊎ ((file_packets (with_appended file (take k octets)) ≡ with_item sent (file_packets file))
    × (packet_part (with_appended file (take k octets)) ≡ []))
file_packets-part untold octets sent k r e = inl (refl, (0, refl))
file_packets-part absent octets sent k r e = inl (refl, (0, refl))
file_packets-part (holds all) octets sent k r e =
    let (h, n) = and_parts _ _ e in
    elim (cases_lt k (length octets)) [
      | inl below ↦
          let (t, d) = headed all (take k octets) h in
          let unspelled : (j : ℕ) → j ≤ k → packet_in (take j octets) ≡ None = λ j i. r.first j (omega arith) in
          let none : items_from packet_in [] (take k octets) ≡ [] = items-part packet_in [] octets k unspelled in
          inl (
            rw (t, d, h, items-append packet_in [] (drop 24 all) (take k octets), nothing _ n, none, append-nil (items_from packet_in [] (drop 24 all))) refl,
            (k, rw (d, part-append packet_in [] (drop 24 all) (take k octets), nothing _ n) (part-none packet_in [] octets k unspelled)),
          )
      | inr above ↦ inr (
        rw (take_all k octets above) (recorded (holds all) octets sent r e).packets,
        rw (take_all k octets above) ((recorded (holds all) octets sent r e).part ∙ nothing _ n),
      )
    ]

some_if : (b : Bool) (items packets : List SentValue) → (if b then Some items else None) ≡ Some packets → (b ≡ true) × (items ≡ packets)
some_if true items packets e = (refl, cc)
some_if false items packets e = cc

-- a file with packets is its header, their records, and what stands after them
pub file_is : (file : Content) (packets : List SentValue) → file_packets file ≡ Some packets → file ≡ holds (output_octets ++ (flat_map record_octets packets ++ packet_part file))
file_is untold packets h = cc
file_is absent packets h = cc
file_is (holds all) packets h =
    let found = some_if (has_header all) (items_from packet_in [] (drop 24 all)) packets h in
    let same : take 24 all ≡ output_octets = (bytes_eq-Decides (take 24 all) output_octets).0 found.0 in
    let part = part_from packet_in [] (drop 24 all) in
    let rest : flat_map record_octets packets ++ part ≡ drop 24 all =
    ap (λ ps. flat_map record_octets ps ++ part) (sym found.1) ∙ items-rest packet_in record_octets packet_in-spelled [] (drop 24 all) in
    ap holds (sym (take-append-drop 24 all) ∙ ap (λ front. front ++ drop 24 all) same ∙ ap (λ back. output_octets ++ back) (sym rest))
