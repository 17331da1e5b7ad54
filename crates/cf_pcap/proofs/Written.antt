-- A record that is written is read again.
use Rattle.std.proofs.Common.{◌≡◌, ℕ, ◌+◌, ◌-◌, ◌*◌, ◌^◌, ◌<◌, ◌≤◌, List, ◌++◌, length, slice_range, refl, arith}
use Rattle.std.proofs.lemmas.List.{length-append}
use Rattle.std.proofs.Math.Seq.{take-append_seam}
use Rattle.std.proofs.lemmas.Bool.Decides.{nat_tests}
use Rattle.cf_pcap.specs.declared.header.Header.{Header}
use Rattle.cf_pcap.specs.Header.{output_header}
use Rattle.cf_pcap.specs.Record.{Whole, captured_at, stamp_at, record_of, head_octets}

-- a record whose octets are all there
pub whole_record : (h : Header) (xs : List ℕ) → 16 ≤ length xs → captured_at h xs ≤ 262144 → 16 + captured_at h xs ≤ length xs →
    record_of h xs ≡ Whole (stamp_at h xs) (slice_range xs 16 (16 + captured_at h xs)) (16 + captured_at h xs)
whole_record h xs a b c = grind (arith, nat_tests)

-- the head that is written, octets of its length, and more
pub written_again : (out : List ℕ) (moment len : ℕ) → moment < 2 ^ 32 * 1000000 → len ≤ 262144 → out ≡ head_octets moment len →
    (body rest : List ℕ) → length body ≡ len → record_of output_header (out ++ body ++ rest) ≡ Whole moment body (16 + len)
written_again out moment len a b e body rest l =
    let xs = head_octets moment len ++ body ++ rest in
    let captured : captured_at output_header xs ≡ len = omega arith in
    let stamp : stamp_at output_header xs ≡ moment = omega arith in
    let long : 16 + len ≤ length xs = omega (arith, length-append body rest, l) in
    let size : 16 + len - 16 ≡ length body = omega arith in
    let body_is : slice_range xs 16 (16 + len) ≡ body = rw size (take-append_seam body rest) in
    let read = whole_record output_header xs (omega arith) (omega arith) (omega arith) in
    rw (e, read, captured, stamp, body_is) refl
