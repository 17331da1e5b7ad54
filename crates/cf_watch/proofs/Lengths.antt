-- How long a file is that has a record up to a place, or an octet past place 2^40.
use Rattle.std.proofs.Common.{◌≡◌, ℕ, ◌+◌, ◌-◌, ◌^◌, ◌<◌, ◌≤◌, min, ◌==◌, Bool, true, false, if◌then◌else◌, List, length, take, drop, refl, subst, ap, arith}
use Rattle.std.proofs.lemmas.List.{length-drop, length-take, length-take-le}
use Rattle.std.proofs.lemmas.Bool.Decides.{nat_tests}
use Rattle.cf_outside.specs.Files.{Content, HasAt, IsLongerThan, untold, absent, holds}
use Rattle.cf_pcap.specs.declared.header.Header.{Header}
use Rattle.cf_pcapng.proofs.Insides.{is_inside}
use Rattle.cf_pcapng.specs.Block.{Begins, Describes, Found, Holds, Is, Needs, Other, Refuses, block_at, size_at}
use Rattle.cf_pcapng.specs.Section.{Section}
use Rattle.cf_pcapng.specs.declared.block.TheConstants.{REFUSED_INTERFACE, REFUSED_LENGTH, REFUSED_RESOLUTION, REFUSED_SECTION}
use Rattle.cf_records.proofs.Behind.{StandsBehind}
use Rattle.cf_records.specs.Capture.{AtPlace, Clock, Cut, FileEnd, Fits, Large, Passes, Record, Refused, TooLong, at_place, by_block, by_size, classic_at, is_past}
use Rattle.cf_records.specs.Reader.{FindsRecord, ReaderValue}
use Rattle.cf_records.specs.declared.BlockRefusal.TheVariants as block
use Rattle.cf_records.specs.declared.Form.{Form}
use Rattle.cf_records.specs.declared.Form.TheVariants as form
use Rattle.cf_records.specs.declared.NextRecord.TheVariants as next

-- what stands at a place says of the number of octets from there on
abbrev Says : (place count : ℕ) → AtPlace → Type 0
Says place count (Fits r used) = (0 < used) × (used ≤ count)
Says place count Large = 2 ^ 40 < place + count
Says place count (Passes used) = Unit {0}
Says place count FileEnd = Unit {0}
Says place count Cut = Unit {0}
Says place count TooLong = Unit {0}
Says place count (Refused number) = Unit {0}
Says place count Clock = Unit {0}

if_past : (place size : ℕ) (xs : List ℕ) (b : Bool) (found : AtPlace) → is_past place size xs ≡ b → Says place (length xs) found → Says place (length xs) (if b then Large else found)
if_past place size xs false found e s = s
if_past place size xs true found e s = grind (arith, nat_tests, e)

if_one : (place count : ℕ) (b : Bool) (one other : AtPlace) → Says place count one → Says place count other → Says place count (if b then one else other)
if_one place count true one other s t = s
if_one place count false one other s t = t

classic_fits : (h : Header) (place : ℕ) (xs : List ℕ) (r : Record) (used : ℕ) → classic_at h place xs ≡ Fits r used → (0 < used) × (used ≤ length xs)
classic_fits h place xs r used e = grind (arith, nat_tests)

classic_large : (h : Header) (place : ℕ) (xs : List ℕ) → classic_at h place xs ≡ Large → 2 ^ 40 < place + length xs
classic_large h place xs e = grind (arith, nat_tests)

classic_says : (h : Header) (place : ℕ) (xs : List ℕ) (found : AtPlace) → classic_at h place xs ≡ found → Says place (length xs) found
classic_says h place xs (Fits r used) e = classic_fits h place xs r used e
classic_says h place xs Large e = classic_large h place xs e
classic_says h place xs (Passes used) e = tt
classic_says h place xs FileEnd e = tt
classic_says h place xs Cut e = tt
classic_says h place xs TooLong e = tt
classic_says h place xs (Refused number) e = tt
classic_says h place xs Clock e = tt

refused_says : (a b c d : Bool) (place count : ℕ) →
    Says place count (if a then TooLong else if b then Refused block.Section else if c then Refused block.Interface else if d then Refused block.Resolution else Refused block.Block)
refused_says true b c d place count = tt
refused_says false true c d place count = tt
refused_says false false true d place count = tt
refused_says false false false true place count = tt
refused_says false false false false place count = tt

block_says : (section : Section) (place : ℕ) (xs : List ℕ) (found : Found) → block_at section xs ≡ found → Says place (length xs) (by_block found)
block_says section place xs (Needs count) e = tt
block_says section place xs (Refuses number) e =
    refused_says (number == REFUSED_LENGTH) (number == REFUSED_SECTION) (number == REFUSED_INTERFACE) (number == REFUSED_RESOLUTION) place (length xs)
block_says section place xs (Is (Holds packet) used) e = (let i = is_inside section xs (Holds packet) used e in (omega (arith, i), omega (arith, i)))
block_says section place xs (Is (Begins big) used) e = tt
block_says section place xs (Is (Describes interface) used) e = tt
block_says section place xs (Is Other used) e = tt

size_says : (section : Section) (place : ℕ) (xs : List ℕ) (sized : Found) → Says place (length xs) (by_size sized place xs (block_at section xs))
size_says section place xs (Needs count) = tt
size_says section place xs (Refuses number) =
    refused_says (number == REFUSED_LENGTH) (number == REFUSED_SECTION) (number == REFUSED_INTERFACE) (number == REFUSED_RESOLUTION) place (length xs)
size_says section place xs (Is one used) =
    if_past place used xs (is_past place used xs) (by_block (block_at section xs)) refl (block_says section place xs (block_at section xs) refl)

says : (f : Form) (place : ℕ) (xs : List ℕ) → Says place (length xs) (at_place f place xs)
says (form.Classic h) place xs = classic_says h place xs (classic_at h place xs) refl
says (form.Blocks section) place xs =
    if_one place (length xs) (length xs == 0) FileEnd _ tt (if_past place 8 xs (is_past place 8 xs) _ refl (size_says section place xs (size_at section xs)))

-- where a reader has read a record, the file is at least as long as its place
pub read_inside : (file : Content) (old new : ReaderValue) (stamp limit : ℕ) → FindsRecord file old new (next.Whole stamp) → limit < new.place → IsLongerThan file limit
read_inside untold old new stamp limit found h = tt
read_inside absent old new stamp limit found h = cc
read_inside (holds all) old new stamp limit (count, f, place, used, passes, at, behind, there) h =
    let s = subst (Says place (length (drop place all))) at (says f place (drop place all)) in
    let size : length (drop place all) ≡ length all - place = length-drop place all in
    omega (arith, s.0, s.1, size, there, h)

-- where an octet is past place 2^40, it is longer than that
pub large_is_long : (file : Content) (old : ReaderValue) (place limit : ℕ) → StandsBehind file old place Large → place ≤ 2 ^ 40 → limit ≤ 2 ^ 40 → IsLongerThan file limit
large_is_long untold old place limit stands near low = tt
large_is_long absent old place limit stands near low = stands
large_is_long (holds all) old place limit (count, f, passes, at) near low =
    let s = subst (Says place (length (drop place all))) at (says f place (drop place all)) in
    let size : length (drop place all) ≡ length all - place = length-drop place all in
    omega (arith, s, size, near, low)

-- where an octet was read at a place, it is longer than that
pub read_past : (file : Content) (at n : ℕ) (buffer : List ℕ) → 1 ≤ n → n ≤ length buffer → HasAt file at (take n buffer) → IsLongerThan file at
read_past untold at n buffer some inside has = tt
read_past absent at n buffer some inside has = has
read_past (holds all) at n buffer some inside has =
    let size : length (take n buffer) ≡ n = length-take-le n buffer inside in
    let both : length (take (length (take n buffer)) (drop at all)) ≡ length (take n buffer) = ap length has in
    let part : length (take (length (take n buffer)) (drop at all)) ≡ min (length (take n buffer)) (length (drop at all)) = length-take (length (take n buffer)) (drop at all) in
    let rest : length (drop at all) ≡ length all - at = length-drop at all in
    omega (arith, size, both, part, rest, some)
