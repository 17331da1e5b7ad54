-- A capture file of sent packets is read again.
use Rattle.std.proofs.Common.{◌≡◌, ℕ, ◌+◌, ◌-◌, ◌^◌, ◌<◌, ◌≤◌, List, [], ◌∷◌, ◌++◌, length, map, drop, slice_range, nat_lt, true, false, Some, Ok, refl, sym, ap, subst, append_assoc, arith}
use Rattle.cf_isolation.proofs.Common.{AllByRecursion, Sent, SessionsAreRight, flat_map, nat_tests, output_form, record_by, sent}
use Rattle.std.proofs.lemmas.List.{length-append}
use Rattle.std.proofs.Math.Seq.{take-append_seam}
use Rattle.cf_leg.specs.Emitted.{spelled}
use Rattle.cf_pcap.specs.Header.{output_header, output_octets}
use Rattle.cf_pcap.specs.Record.{captured_at, head_octets, stamp_at}
use Rattle.cf_view.specs.Moment.{moment_limit}
use Rattle.cf_pcap.specs.declared.header.Header.{Header}
use Rattle.cf_pcapng.specs.Block.{is_section}
use Rattle.cf_records.specs.Capture.{AreRecords, FileEnd, Fits, LastPlace, classic_at}
use Rattle.cf_records.specs.Form.{form_of}
use Rattle.cf_run.specs.OutputFile.{record_octets}
use Rattle.cf_run.specs.Run.{capture_of}
use Rattle.cf_session.specs.Told.{emitted}
use Rattle.cf_view.specs.Octets.{IsOctets}
use Rattle.cf_isolation.specs.ReadBack.{IsReadAgain, MayBeWritten, ReadsAs, RunsAreReadBack}
use Rattle.cf_isolation.proofs.Moments.{inputs_all}
use Rattle.cf_isolation.proofs.Written.{written}
use Rattle.cf_isolation.proofs.Ranges.{octets_back, octets_front, spelled_again, spelled_short}

drop_front : (xs ys : List ℕ) → drop (length xs) (xs ++ ys) ≡ ys
drop_front [] ys = refl
drop_front (x ∷ xs) ys = drop_front xs ys

-- a record whose octets are all there
whole_at : (h : Header) (place : ℕ) (xs : List ℕ) → 16 ≤ length xs → captured_at h xs ≤ 262144 → 16 + captured_at h xs ≤ length xs → place + length xs ≤ 2 ^ 40 →
    classic_at h place xs ≡ Fits (record { stamp = stamp_at h xs; link = h.link; body = slice_range xs 16 (16 + captured_at h xs) }) (16 + captured_at h xs)
whole_at h place xs a b c d = grind (arith, nat_tests)

head_at : (place moment len : ℕ) (body rest : List ℕ) → moment < moment_limit → len ≤ 262144 → length body ≡ len → place + length (head_octets moment len ++ body ++ rest) ≤ 2 ^ 40 →
    classic_at output_header place (head_octets moment len ++ body ++ rest) ≡ Fits (record { stamp = moment; link = output_header.link; body = body }) (16 + len)
head_at place moment len body rest a b l small =
    let xs = head_octets moment len ++ body ++ rest in
    let captured : captured_at output_header xs ≡ len = omega arith in
    let stamp : stamp_at output_header xs ≡ moment = omega arith in
    let long : 16 + len ≤ length xs = omega (arith, length-append body rest, l) in
    let size : 16 + len - 16 ≡ length body = omega arith in
    let body_is : slice_range xs 16 (16 + len) ≡ body = rw size (take-append_seam body rest) in
    let read = whole_at output_header place xs (omega arith) (omega arith) (omega arith) small in
    rw (read, captured, stamp, body_is) refl

abbrev octets_of : Sent → List ℕ
octets_of s = record_octets (emitted s)

size_of : (s : Sent) → length (octets_of s) ≡ 16 + length (spelled s.packet)
size_of s = omega arith

one_at : (place : ℕ) (s : Sent) (rest : List ℕ) → MayBeWritten s → place + length (octets_of s ++ rest) ≤ 2 ^ 40 →
    classic_at output_header place (octets_of s ++ rest) ≡ Fits (record_by s) (16 + length (spelled s.packet))
one_at place s rest w small =
    let body = spelled s.packet in
    let join = append_assoc (head_octets s.moment (length body)) body rest in
    let short = spelled_short s.packet w.packet in
    subst (λ (xs : List ℕ). classic_at output_header place xs ≡ Fits (record_by s) (16 + length body)) (sym join)
    (head_at place s.moment (length body) body rest w.moment (omega (arith, short)) refl (subst (λ (xs : List ℕ). place + length xs ≤ 2 ^ 40) join small))

all_at : (place : ℕ) (all : List Sent) → AllByRecursion MayBeWritten all → place + length (flat_map octets_of all) ≤ 2 ^ 40 →
    (last : LastPlace) × (last.found ≡ FileEnd) × AreRecords output_form place (flat_map octets_of all) (map record_by all) last
all_at place [] w small = (record { place = place; found = FileEnd }, refl, ([], (refl, refl, tt), refl))
all_at place (s ∷ all) w small =
    let rest = flat_map octets_of all in
    let used = 16 + length (spelled s.packet) in
    let size = size_of s in
    let both = length-append (octets_of s) rest in
    let behind : drop used (octets_of s ++ rest) ≡ rest = subst (λ n. drop n (octets_of s ++ rest) ≡ rest) size (drop_front (octets_of s) rest) in
    let (last, ends, next) = all_at (place + used) all w.1 (omega (arith, small, size, both)) in
    let (pieces, are, same) = subst (λ xs. AreRecords output_form (place + used) xs (map record_by all) last) (sym behind) next in
    (last, ends, (Some (record_by s) ∷ pieces, (used, one_at place s rest w.0 small, are), ap (λ rs. record_by s ∷ rs) same))

all_again : (all : List Sent) → AllByRecursion MayBeWritten all → IsOctets (flat_map octets_of all) → AllByRecursion IsReadAgain all
all_again [] w o = tt
all_again (s ∷ all) w o =
    let rest = flat_map octets_of all in
    let here = octets_front (octets_of s) rest o in
    (spelled_again s.packet w.0.packet (octets_back (head_octets s.moment (length (spelled s.packet))) (spelled s.packet) here), all_again all w.1 (octets_back (octets_of s) rest o))

not_section : (xs : List ℕ) → is_section (output_octets ++ xs) ≡ false
unfolding is_section
not_section xs = let long : nat_lt 3 (length (output_octets ++ xs)) ≡ true = grind (arith, nat_tests) in rw long refl

form_again : (xs : List ℕ) → form_of (output_octets ++ xs) ≡ Ok output_form
form_again xs = let long : nat_lt (length (output_octets ++ xs)) 24 ≡ false = grind (arith, nat_tests) in rw (not_section xs, long) refl

-- the octets that were sent are read, so the fields are in their ranges
reads_back : (all : List Sent) → AllByRecursion MayBeWritten all → IsOctets (capture_of all) → length (capture_of all) ≤ 2 ^ 40 → ReadsAs (capture_of all) all
reads_back all w o small =
    let records = flat_map octets_of all in
    let (last, ends, are) = all_at 24 all w (omega (arith, small)) in
    record { has_form = form_again records; last = last; ends = ends; are = are; packets = all_again all w (octets_back output_octets records o) }

-- ---- a run

pub runs_back : SessionsAreRight → RunsAreReadBack
runs_back law assets limit given out log summary run moments octets small =
    let all = sent run.events in
    let may = written law assets limit run.events run.are (inputs_all (λ i. i.moment < moment_limit) run.events (subst (AllByRecursion (λ i. i.moment < moment_limit)) (sym run.are_inputs) moments)) in
    subst (λ xs. ReadsAs xs all) (sym run.capture)
    (reads_back all may (subst IsOctets run.capture octets) (subst (λ (xs : List ℕ). length xs ≤ 2 ^ 40) run.capture small))
