-- The records of a file: there is one list of them, with moments and without.
use Rattle.std.proofs.Common.{◌≡◌, ℕ, zero, suc, ◌+◌, ◌<◌, ◌≤◌, max, Bool, true, false, nat_lt, ◌==◌, if◌then◌else◌, List, [], ◌∷◌, length, drop, slice_get, Option, Some, None, inl, inr, refl, sym, ap, ◌∙◌, arith, subst, add-one}
use Rattle.std.proofs.lemmas.List.{length-drop}
use Rattle.std.proofs.lemmas.Bool.{cases_Bool}
use Rattle.std.proofs.lemmas.Bool.Decides.{nat_tests}
use Rattle.cf_pcap.specs.declared.header.Header.{Header}
use Rattle.cf_pcapng.specs.Block.{Found, Holds, Is, Needs, Refuses, block_at, size_at}
use Rattle.cf_pcapng.specs.Section.{Section}
use Rattle.cf_pcapng.proofs.Insides.{is_inside}
use Rattle.cf_pcapng.specs.declared.block.TheConstants.{REFUSED_INTERFACE, REFUSED_LENGTH, REFUSED_RESOLUTION, REFUSED_SECTION}
use Rattle.cf_records.specs.declared.blocks.BlockRefusal.TheVariants as block
use Rattle.cf_records.specs.Capture.{ArePieces, AtPlace, Clock, Cut, FileEnd, Fits, IsLast, Large, LastPlace, Passes, Record, Refused, TooLong, at_place, by_block, by_size, classic_at, form_behind, is_past, records_among, refused_by}
use Rattle.cf_records.specs.Records.{BeginAtTwo, GoOnByTwo, HaveOneList, HaveOneTimedList, HaveRecords, HaveTimedRecords, NoneAfterTheLastMoment, StayBelowTheLimit}
use Rattle.cf_records.specs.Moments.{AreTimedPieces, first_moment, moment_from, moments_from, timed}
use Rattle.cf_records.specs.declared.form.Form.{Form}
use Rattle.cf_records.specs.declared.form.Form.TheVariants as form
use Rattle.cf_view.specs.Moment.{moment_limit}

same_last : (e f : LastPlace) → e.place ≡ f.place → e.found ≡ f.found → e ≡ f
same_last e f a b = rw (a, b) refl

-- ---- one list

one_pieces : (f : Form) (place : ℕ) (octets : List ℕ) (ps qs : List (Option Record)) (e g : LastPlace) →
    ArePieces at_place f place octets ps e → ArePieces at_place f place octets qs g → (ps ≡ qs) × (e ≡ g)
one_pieces f place octets [] [] e g (p, q, x) (r, s, y) = (refl, same_last e g (p ∙ sym r) (sym q ∙ s))
one_pieces f place octets (None ∷ rs) (None ∷ ts) e g (used, a, x) (taken, b, y) =
    let both : Passes used ≡ Passes taken = sym a ∙ b in
    let far : used ≡ taken = cc in
    let rest = one_pieces (form_behind f octets) (place + used) (drop used octets) rs ts e g x (rw far y) in
    (ap (λ more. None ∷ more) rest.0, rest.1)
one_pieces f place octets (Some r ∷ rs) (Some t ∷ ts) e g (used, a, x) (taken, b, y) =
    let both : Fits r used ≡ Fits t taken = sym a ∙ b in
    let same : r ≡ t = cc in
    let far : used ≡ taken = cc in
    let rest = one_pieces (form_behind f octets) (place + used) (drop used octets) rs ts e g x (rw far y) in
    (rw (same, rest.0) refl, rest.1)
one_pieces f place octets [] (Some t ∷ ts) e g (p, q, x) (used, s, y) = absurd (subst IsLast (sym q ∙ s) x)
one_pieces f place octets [] (None ∷ ts) e g (p, q, x) (used, s, y) = absurd (subst IsLast (sym q ∙ s) x)
one_pieces f place octets ps [] e g (used, s, y) (p, q, x) = absurd (subst IsLast (sym q ∙ s) x)
one_pieces f place octets ps qs e g (used, a, x) (taken, b, y) = (let no_two = sym a ∙ b in cc)

pub one_list : HaveOneList
one_list f place octets rs ss e g (ps, a, p) (qs, b, q) =
    let one = one_pieces f place octets ps qs e g a b in
    (p ∙ ap records_among one.0 ∙ sym q, one.1)

one_timed_pieces : (f : Form) (least place : ℕ) (octets : List ℕ) (ps qs : List (Option Record)) (e g : LastPlace) →
    AreTimedPieces f least place octets ps e → AreTimedPieces f least place octets qs g → (ps ≡ qs) × (e ≡ g)
one_timed_pieces f least place octets [] [] e g (p, q, x) (r, s, y) = (refl, same_last e g (p ∙ sym r) (sym q ∙ s))
one_timed_pieces f least place octets (None ∷ rs) (None ∷ ts) e g (used, a, x) (taken, b, y) =
    let both : Passes used ≡ Passes taken = sym a ∙ b in
    let far : used ≡ taken = cc in
    let rest = one_timed_pieces (form_behind f octets) least (place + used) (drop used octets) rs ts e g x (rw far y) in
    (ap (λ more. None ∷ more) rest.0, rest.1)
one_timed_pieces f least place octets (Some r ∷ rs) (Some t ∷ ts) e g (used, a, x) (taken, b, y) =
    let both : Fits r used ≡ Fits t taken = sym a ∙ b in
    let same : r ≡ t = cc in
    let far : used ≡ taken = cc in
    let rest = one_timed_pieces (form_behind f octets) (moment_from least r + 2) (place + used) (drop used octets) rs ts e g x (rw (far, same) y) in
    (rw (same, rest.0) refl, rest.1)
one_timed_pieces f least place octets [] (Some t ∷ ts) e g (p, q, x) (used, s, y) = absurd (subst IsLast (sym q ∙ s) x)
one_timed_pieces f least place octets [] (None ∷ ts) e g (p, q, x) (used, s, y) = absurd (subst IsLast (sym q ∙ s) x)
one_timed_pieces f least place octets ps [] e g (used, s, y) (p, q, x) = absurd (subst IsLast (sym q ∙ s) x)
one_timed_pieces f least place octets ps qs e g (used, a, x) (taken, b, y) = (let no_two = sym a ∙ b in cc)

pub one_timed_list : HaveOneTimedList
one_timed_list f least place octets rs ss e g (ps, a, p) (qs, b, q) =
    let one = one_timed_pieces f least place octets ps qs e g a b in
    (p ∙ ap records_among one.0 ∙ sym q, one.1)

-- ---- some list: a record or a block takes some of the octets

abbrev Takes : AtPlace → ℕ → Type 0
Takes (Fits r used) count = (0 < used) × (used ≤ count)
Takes (Passes used) count = (0 < used) × (used ≤ count)
Takes FileEnd count = Unit {0}
Takes Cut count = Unit {0}
Takes TooLong count = Unit {0}
Takes (Refused number) count = Unit {0}
Takes Clock count = Unit {0}
Takes Large count = Unit {0}

classic_takes : (h : Header) (place : ℕ) (xs : List ℕ) (r : Record) (used : ℕ) → classic_at h place xs ≡ Fits r used → (0 < used) × (used ≤ length xs)
classic_takes h place xs r used e = grind (arith, nat_tests)

classic_none : (h : Header) (place : ℕ) (xs : List ℕ) (used : ℕ) → classic_at h place xs ≡ Passes used → ⊥
classic_none h place xs used e = grind (arith, nat_tests)

classic_all : (h : Header) (place : ℕ) (xs : List ℕ) (found : AtPlace) → classic_at h place xs ≡ found → Takes found (length xs)
classic_all h place xs (Fits r used) e = classic_takes h place xs r used e
classic_all h place xs (Passes used) e = absurd (classic_none h place xs used e)
classic_all h place xs found e = tt

if_takes : (b : Bool) (found other : AtPlace) (count : ℕ) → Takes found count → Takes other count → Takes (if b then found else other) count
if_takes true found other count t u = t
if_takes false found other count t u = u

refused_takes : (number count : ℕ) → Takes (refused_by number) count
refused_takes number count =
    if_takes (number == REFUSED_LENGTH) TooLong _ count tt
    (if_takes (number == REFUSED_SECTION) (Refused block.Section) _ count tt
    (if_takes (number == REFUSED_INTERFACE) (Refused block.Interface) _ count tt
    (if_takes (number == REFUSED_RESOLUTION) (Refused block.Resolution) (Refused block.Block) count tt tt)))

block_takes : (section : Section) (xs : List ℕ) (found : Found) → block_at section xs ≡ found → Takes (by_block found) (length xs)
block_takes section xs (Needs count) e = tt
block_takes section xs (Refuses number) e = refused_takes number (length xs)
block_takes section xs (Is (Holds packet) used) e = (let i = is_inside section xs (Holds packet) used e in (omega (arith, i), omega (arith, i)))
block_takes section xs (Is block used) e = (let i = is_inside section xs block used e in (omega (arith, i), omega (arith, i)))

size_takes : (section : Section) (place : ℕ) (xs : List ℕ) (sized : Found) → Takes (by_size sized place xs (block_at section xs)) (length xs)
size_takes section place xs (Needs count) = tt
size_takes section place xs (Refuses number) = refused_takes number (length xs)
size_takes section place xs (Is one used) = if_takes (is_past place used xs) Large _ (length xs) tt (block_takes section xs (block_at section xs) refl)

takes : (f : Form) (place : ℕ) (xs : List ℕ) → Takes (at_place f place xs) (length xs)
takes (form.Classic h) place xs = classic_all h place xs (classic_at h place xs) refl
takes (form.Blocks section) place xs =
    if_takes (length xs == 0) FileEnd _ (length xs) tt (if_takes (is_past place 8 xs) Large _ (length xs) tt (size_takes section place xs (size_at section xs)))

abbrev Have : Form → ℕ → List ℕ → Type 0
Have f place xs = (ps : List (Option Record)) × (e : LastPlace) × ArePieces at_place f place xs ps e

at_found : (f : Form) (place : ℕ) (xs : List ℕ) → ((g : Form) (place : ℕ) (ys : List ℕ) → length ys < length xs → Have g place ys) →
    (found : AtPlace) → at_place f place xs ≡ found → Takes found (length xs) → Have f place xs
at_found f place xs next (Fits r used) e (some, inside) =
    let left = next (form_behind f xs) (place + used) (drop used xs) (omega (arith, length-drop used xs)) in
    (Some r ∷ left.0, left.1, (used, e, left.2))
at_found f place xs next (Passes used) e (some, inside) =
    let left = next (form_behind f xs) (place + used) (drop used xs) (omega (arith, length-drop used xs)) in
    (None ∷ left.0, left.1, (used, e, left.2))
at_found f place xs next found e t = ([], record { place = place; found = found }, (refl, e, t))

have : (n : ℕ) (f : Form) (place : ℕ) (xs : List ℕ) → length xs < n → Have f place xs
have zero f place xs l = absurd (omega arith)
have (suc n) f place xs l = at_found f place xs (λ g p ys short. have n g p ys (omega arith)) (at_place f place xs) refl (takes f place xs)

pub have_records : HaveRecords
have_records f place xs = let h = have (suc (length xs)) f place xs (omega arith) in (records_among h.0, h.1, (h.0, h.2, refl))

-- the timed records are the records up to the first that comes too late
abbrev HaveTimed : Form → ℕ → ℕ → List ℕ → Type 0
HaveTimed f least place xs = (ps : List (Option Record)) × (e : LastPlace) × AreTimedPieces f least place xs ps e

last_timed : (least : ℕ) (found : AtPlace) → IsLast found → timed least found ≡ found
last_timed least (Fits r used) last = absurd last
last_timed least found last = refl

timed_from : (f : Form) (least place : ℕ) (xs : List ℕ) (ps : List (Option Record)) (e : LastPlace) → ArePieces at_place f place xs ps e →
    HaveTimed f least place xs
timed_from f least place xs [] e (p, at, last) = ([], e, (p, ap (timed least) at ∙ last_timed least e.found last, last))
timed_from f least place xs (None ∷ ps) e (used, at, more) =
    let (qs, g, are) = timed_from (form_behind f xs) least (place + used) (drop used xs) ps e more in
    (None ∷ qs, g, (used, ap (timed least) at, are))
timed_from f least place xs (Some r ∷ ps) e (used, at, more) =
    let (qs, g, are) = timed_from (form_behind f xs) (moment_from least r + 2) (place + used) (drop used xs) ps e more in
    elim (cases_Bool (nat_lt (moment_from least r) moment_limit)) [
      | inl early ↦ (Some r ∷ qs, g, (used, ap (timed least) at ∙ rw early refl, are))
      | inr late ↦ ([], record { place = place; found = Clock }, (refl, ap (timed least) at ∙ rw late refl, tt))
    ]

pub have_timed_records : HaveTimedRecords
have_timed_records f least place xs =
    let h = have (suc (length xs)) f place xs (omega arith) in
    let (ps, e, are) = timed_from f least place xs h.0 h.1 h.2 in
    (records_among ps, e, (ps, are, refl))

-- ---- moments

pub begin_at_two : BeginAtTwo
begin_at_two [] r at = cc
begin_at_two (s ∷ rs) r at = let e : s ≡ r = cc in rw e refl

next_from : (least : ℕ) (rs : List Record) (k m : ℕ) (r : Record) →
    slice_get (moments_from least rs) k ≡ Some m → slice_get rs (suc k) ≡ Some r → slice_get (moments_from least rs) (suc k) ≡ Some (max r.stamp (m + 2))
next_from least [] k m r at here = cc
next_from least (s ∷ []) k m r at here = cc
next_from least (s ∷ t ∷ rs) zero m r at here =
    let e : moment_from least s ≡ m = cc in
    let f : t ≡ r = cc in
    rw (f, e) refl
next_from least (s ∷ t ∷ rs) (suc k) m r at here = next_from (moment_from least s + 2) (t ∷ rs) k m r at here

pub go_on_by_two : GoOnByTwo
go_on_by_two rs k m r at here = rw add-one (next_from first_moment rs k m r at (rw add-one at here))

-- a record that fits has its moment
timed_below : (least : ℕ) (found : AtPlace) (r : Record) (used : ℕ) → timed least found ≡ Fits r used → moment_from least r < moment_limit
timed_below least (Fits s n) r used e = grind (arith, nat_tests)
timed_below least found r used e = cc

below_from : (f : Form) (least place : ℕ) (xs : List ℕ) (ps : List (Option Record)) (last : LastPlace) → AreTimedPieces f least place xs ps last →
    (k m : ℕ) → slice_get (moments_from least (records_among ps)) k ≡ Some m → m < moment_limit
below_from f least place xs [] last are k m at = cc
below_from f least place xs (None ∷ ps) last (used, e, are) k m at = below_from (form_behind f xs) least (place + used) (drop used xs) ps last are k m at
below_from f least place xs (Some r ∷ ps) last (used, e, are) zero m at =
    let below = timed_below least (at_place f place xs) r used e in
    let is : moment_from least r ≡ m = cc in
    rw is at below
below_from f least place xs (Some r ∷ ps) last (used, e, are) (suc k) m at =
    below_from (form_behind f xs) (moment_from least r + 2) (place + used) (drop used xs) ps last are k m at

pub stay_below_the_limit : StayBelowTheLimit
stay_below_the_limit f place xs rs last (ps, are, is) k m at =
    below_from f first_moment place xs ps last are k m (subst (λ all. slice_get (moments_from first_moment all) k ≡ Some m) is at)

pub none_after_the_last_moment : NoneAfterTheLastMoment
none_after_the_last_moment f place octets r s rs last are =
    let below = stay_below_the_limit f place octets (r ∷ s ∷ rs) last are 1 (moment_from (moment_from first_moment r + 2) s) refl in omega (arith, below)
