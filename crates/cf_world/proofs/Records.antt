-- The octets of records that are made are a capture.
use Rattle.std.proofs.Common.{◌≡◌, ℕ, ◌+◌, ◌*◌, ◌^◌, ◌<◌, ◌≤◌, nat_eq, nat_lt, true, false, Ok, Some, List, [], ◌∷◌, ◌++◌, length, drop, map, refl, sym, ap, ◌∙◌, subst, arith, inl, inr}
use Rattle.std.specs.List.{AllByRecursion}
use Rattle.std.proofs.lemmas.List.{drop_at, flat_map_more, length-append}
use Rattle.std.proofs.Math.Seq.{take-append_seam, drop-append_seam}
use Rattle.std.proofs.lemmas.Bool.{cases_Bool}
use Rattle.std.proofs.lemmas.Bool.Decides.{nat_tests}
use Rattle.cf_pcap.specs.Header.{header_of, output_header, output_octets}
use Rattle.cf_pcap.specs.Record.{Need, RecordAnswerValue, TooLong as NotAllowed, Whole, captured_at, record_of}
use Rattle.cf_view.specs.Moment.{moment_limit}
use Rattle.cf_pcap.specs.declared.Header.{Header}
use Rattle.cf_records.specs.Capture.{AtPlace, Cut, FileEnd, Fits, Record, TooLong, classic_at, is_past, records_among}
use Rattle.cf_records.specs.Moments.{AreTimed, AreTimedPieces, first_moment, moment_from, timed}
use Rattle.cf_records.specs.declared.Form.TheVariants as form
use Rattle.cf_hosts.specs.Sessions.{HasPacket}
use Rattle.cf_world.specs.Capture.{AreSpaced, IsCaptureOf}
use Rattle.cf_world.specs.Making.{AreMade, IsMade, least_after, record_octets, records_octets}

-- one more record after the others
pub made_more : (least : ℕ) (rs : List Record) (r : Record) → AreMade least rs → least_after least rs ≤ r.stamp → IsMade r → AreMade least (rs ++ r ∷ [])
made_more least [] r made later is = (later, is, tt)
made_more least (q ∷ rs) r (a, b, made) later is = (a, b, made_more (q.stamp + 2000) rs r made later is)

pub after_more : (least : ℕ) (rs : List Record) (r : Record) → least_after least (rs ++ r ∷ []) ≡ r.stamp + 2000
after_more least [] r = refl
after_more least (q ∷ rs) r = after_more (q.stamp + 2000) rs r

pub octets_more : (rs : List Record) (r : Record) → records_octets (rs ++ r ∷ []) ≡ records_octets rs ++ record_octets r
octets_more rs r = sym (flat_map_more record_octets [] rs r)

-- a smaller least stamp
made_earlier : (least less : ℕ) (rs : List Record) → less ≤ least → AreMade least rs → AreMade less rs
made_earlier least less [] below made = tt
made_earlier least less (r ∷ rs) below (a, b, made) = (omega (arith, a), b, made)

record_long : (r : Record) → length (record_octets r) ≡ 16 + length r.body
record_long r = omega arith

pub octets_short : (least : ℕ) (rs : List Record) → AreMade least rs → length (records_octets rs) ≤ 1516 * length rs
octets_short least [] made = omega arith
octets_short least (r ∷ rs) (a, b, made) =
    let all : length (records_octets (r ∷ rs)) ≡ length (record_octets r) + length (records_octets rs) = length-append (record_octets r) (records_octets rs) in
    omega (arith, all, record_long r, b.short, octets_short (r.stamp + 2000) rs made)

-- what stands at a place of a classic file that ends at place 2^40 or before
abbrev at_by : Header → RecordAnswerValue → AtPlace
at_by h (Whole stamp body used) = Fits (record { stamp = stamp; link = h.link; body = body }) used
at_by h (Need size) = Cut
at_by h NotAllowed = TooLong

at_near_place : (h : Header) (xs : List ℕ) (place : ℕ) → 0 < length xs → place + length xs ≤ 2 ^ 40 → classic_at h place xs ≡ at_by h (record_of h xs)
at_near_place h xs place a b =
    let size = 16 + captured_at h xs in
    let some : nat_eq (length xs) 0 ≡ false = grind (arith, nat_tests) in
    let head : is_past place 16 xs ≡ false = grind (arith, nat_tests) in
    let body : is_past place size xs ≡ false = grind (arith, nat_tests) in
    elim (cases_Bool (nat_lt (length xs) 16)) as (λ _. classic_at h place xs ≡ at_by h (record_of h xs)) [
      | inl e ↦ rw (some, head, e) refl
      | inr e ↦ elim (cases_Bool (nat_lt 262144 (captured_at h xs))) as (λ _. classic_at h place xs ≡ at_by h (record_of h xs)) [
        | inl f ↦ rw (some, head, e, f) refl
        | inr f ↦ elim (cases_Bool (nat_lt (length xs) size)) as (λ _. classic_at h place xs ≡ at_by h (record_of h xs)) [
          | inl g ↦ rw (some, head, e, f, body, g) refl
          | inr g ↦ rw (some, head, e, f, body, g) refl
        ]
      ]
    ]

-- what stands at the place of the first of them
fits_here : (place : ℕ) (r : Record) (rest : List ℕ) → IsMade r → place + length (record_octets r ++ rest) ≤ 2 ^ 40 →
    classic_at output_header place (record_octets r ++ rest) ≡ Fits r (16 + length r.body)
fits_here place r rest is near =
    let long : length (record_octets r ++ rest) ≡ 16 + length r.body + length rest = length-append (record_octets r) rest ∙ ap (λ n. n + length rest) (record_long r) in
    at_near_place output_header (record_octets r ++ rest) place (omega (arith, long)) near ∙ ap (at_by output_header) (is.again rest)
    ∙ ap (λ l. Fits (record { stamp = r.stamp; link = l; body = r.body }) (16 + length r.body)) (sym is.link)

timed_here : (least place : ℕ) (r : Record) (rest : List ℕ) → least ≤ r.stamp → IsMade r → place + length (record_octets r ++ rest) ≤ 2 ^ 40 →
    timed least (classic_at output_header place (record_octets r ++ rest)) ≡ Fits r (16 + length r.body)
timed_here least place r rest later is near =
    let below : nat_lt (moment_from least r) moment_limit ≡ true = grind (arith, nat_tests, is.below) in
    rw (fits_here place r rest is near, below) refl

timed_pieces : (least place : ℕ) (rs : List Record) → AreMade least rs → place + length (records_octets rs) ≤ 2 ^ 40 →
    AreTimedPieces (form.Classic output_header) least place (records_octets rs) (map Some rs) (record { place = place + length (records_octets rs); found = FileEnd })
timed_pieces least place [] made near = (omega arith, refl, tt)
timed_pieces least place (r ∷ rs) (a, b, made) near =
    let rest = records_octets rs in
    let used : length (record_octets r) ≡ 16 + length r.body = record_long r in
    let all : length (records_octets (r ∷ rs)) ≡ 16 + length r.body + length rest =
    length-append (record_octets r) rest ∙ ap (λ n. n + length rest) used in
    let behind : drop (16 + length r.body) (records_octets (r ∷ rs)) ≡ rest = drop_at (record_octets r) rest (16 + length r.body) used in
    let same : place + (16 + length r.body) + length rest ≡ place + length (records_octets (r ∷ rs)) = omega (arith, all) in
    let moment : moment_from least r ≡ r.stamp = omega (arith, a) in
    let later = made_earlier (r.stamp + 2000) (moment_from least r + 2) rs (omega (arith, moment)) made in
    let more = timed_pieces (moment_from least r + 2) (place + (16 + length r.body)) rs later (omega (arith, near, same)) in
    let there = subst (λ n. AreTimedPieces (form.Classic output_header) (moment_from least r + 2) (place + (16 + length r.body)) rest (map Some rs) (record { place = n; found = FileEnd })) same more in (
      16 + length r.body,
      timed_here least place r rest a b near,
      subst (λ xs. AreTimedPieces (form.Classic output_header) (moment_from least r + 2) (place + (16 + length r.body)) xs (map Some rs)
          (record { place = place + length (records_octets (r ∷ rs)); found = FileEnd })) (sym behind) there,
    )

-- each piece is a record
all_among : (rs : List Record) → rs ≡ records_among (map Some rs)
all_among [] = refl
all_among (r ∷ rs) = ap (λ more. r ∷ more) (all_among rs)

pub are_timed : (least place : ℕ) (rs : List Record) → AreMade least rs → place + length (records_octets rs) ≤ 2 ^ 40 →
    AreTimed (form.Classic output_header) least place (records_octets rs) rs (record { place = place + length (records_octets rs); found = FileEnd })
are_timed least place rs made near = (map Some rs, timed_pieces least place rs made near, all_among rs)

-- and a packet, at its distance from the one before
are_kept : (least : ℕ) (rs : List Record) → AreMade least rs → AllByRecursion HasPacket rs × AreSpaced least rs
are_kept least [] made = (tt, tt)
are_kept least (r ∷ rs) (a, b, made) = let (packets, spaced) = are_kept (r.stamp + 2000) rs made in ((b.packet, packets), (a, spaced))

-- the header and the octets of records that are made, of which there are not too many

header_read : (xs : List ℕ) → header_of (output_octets ++ xs) ≡ Ok output_header
header_read xs =
    let long : nat_lt (length (output_octets ++ xs)) 24 ≡ false = grind (arith, nat_tests) in
    rw long refl

pub is_capture : (rs : List Record) → AreMade first_moment rs → length rs ≤ 1000000 → IsCaptureOf rs (output_octets ++ records_octets rs)
is_capture rs made few =
    let xs = records_octets rs in
    let behind : drop 24 (output_octets ++ xs) ≡ xs = drop-append_seam output_octets xs in
    let size : 24 + length xs ≡ length (output_octets ++ xs) = sym (length-append output_octets xs) in
    let timed = are_timed first_moment 24 rs made (omega (arith, octets_short first_moment rs made)) in
    record {
      header = take-append_seam output_octets xs;
      read = header_read xs;
      timed = rw behind (subst (λ n. AreTimed (form.Classic output_header) first_moment 24 xs rs (record { place = n; found = FileEnd })) size timed);
      packets = (are_kept first_moment rs made).0;
      apart = (are_kept first_moment rs made).1;
    }
