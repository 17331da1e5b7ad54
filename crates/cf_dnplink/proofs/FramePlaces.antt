-- The places of a frame.
use Rattle.std.proofs.Common.{◌≡◌, ℕ, zero, suc, ◌+◌, ◌-◌, ◌/◌, ◌%◌, ◌<◌, ◌≤◌, ◌*◌, ◌==◌, nat_lt, min, max, ◌⊎◌, if◌then◌else◌, true, false, List, [], ◌∷◌, ◌++◌, length, get_or, take, drop, inl, inr, refl, ◌∙◌, ap, arith, length-append, slice_range}
use Rattle.std.proofs.Math.Seq.{get_or-append_seam}
use Rattle.std.proofs.lemmas.Bool.{cases_lt, le-ltb, lt-ltb}
use Rattle.std.proofs.lemmas.Bool.Decides.{nat_tests}
use Rattle.std.proofs.lemmas.List.{take-take, drop-take, get_or_append_left, get_or-take, length-take-le}
use Rattle.cf_view.specs.Octets.{IsOctets, u16_le_at}
use Rattle.cf_view.specs.Framing.{IsPrefixFree, HasFront}
use Rattle.cf_view.specs.Places.{EachFollows}
use Rattle.cf_dnplink.specs.Crc.{crc_of}
use Rattle.cf_dnplink.specs.FramePlaces.{frame_size, size_of, block_start, block_end, crc_octet, checks, follows, fields_of, IsBlock, SpellsByPlaces}
use Rattle.cf_view.proofs.Places.{IsTold, GoesOn, prefix_free, has_front}
use Rattle.std.proofs.lemmas.Grind.{common_steps}

size_short : (xs : List ℕ) → length xs < 3 → size_of xs ≡ 10
size_short xs h = rw (lt-ltb (length xs) 3 h) refl

pub size_long : (xs : List ℕ) → 3 ≤ length xs → size_of xs ≡ frame_size (get_or xs 2 0)
size_long xs h = rw (le-ltb (length xs) 3 h) refl

pub size_least : (xs : List ℕ) → 10 ≤ size_of xs
size_least xs = grind (arith, nat_tests, common_steps, cases_lt, size_short, size_long)

size_kept : (xs ys : List ℕ) → 3 ≤ length xs → size_of (xs ++ ys) ≡ size_of xs
size_kept xs ys h = grind (arith, common_steps, size_long, length-append, get_or_append_left)

pub told : IsTold size_of
told = grind (arith, common_steps, size_kept, size_least)

-- an octet that may follow
check_next : List ℕ → ℕ
check_next xs =
    if nat_lt (length xs) (block_end (get_or xs 2 0) (length xs)) then 0
    else crc_octet (crc_of (slice_range xs (block_start (length xs)) (block_end (get_or xs 2 0) (length xs)))) (length xs - block_end (get_or xs 2 0) (length xs))

pub next : List ℕ → ℕ
next xs =
    if length xs == 0 then 0x05 else
    (if length xs == 1 then 0x64 else
    (if length xs == 2 then 5 else check_next xs))

pub same_octet : (n : ℕ) → (n == n) ≡ true
same_octet n = grind (arith, nat_tests)

check_follows : (xs : List ℕ) → checks (get_or xs 2 0) xs (length xs) (check_next xs) ≡ true
unfolding check_next
check_follows xs = grind (arith, nat_tests, common_steps, cases_lt, lt-ltb, le-ltb, same_octet)

crc_octet_small : (crc i : ℕ) → crc < 65536 → crc_octet crc i < 256
crc_octet_small crc i h = grind (arith, nat_tests)

check_octet : (xs : List ℕ) → check_next xs < 256
unfolding check_next
check_octet xs = grind (arith, nat_tests, common_steps, cases_lt, lt-ltb, le-ltb, crc_octet_small)

-- a choice by the first three places
module _ {A : Type 0} (n : ℕ) (a b c d : A) where
  pick_0 : n ≡ 0 → (if n == 0 then a else (if n == 1 then b else (if n == 2 then c else d))) ≡ a
  pick_0 h = grind (arith, nat_tests)

  pick_1 : n ≡ 1 → (if n == 0 then a else (if n == 1 then b else (if n == 2 then c else d))) ≡ b
  pick_1 h = grind (arith, nat_tests)

  pick_2 : n ≡ 2 → (if n == 0 then a else (if n == 1 then b else (if n == 2 then c else d))) ≡ c
  pick_2 h = grind (arith, nat_tests)

  pick_more : 2 < n → (if n == 0 then a else (if n == 1 then b else (if n == 2 then c else d))) ≡ d
  pick_more h = grind (arith, nat_tests)

four : (n : ℕ) → (n ≡ 0) ⊎ ((n ≡ 1) ⊎ ((n ≡ 2) ⊎ (2 < n)))
four zero = inl refl
four (suc zero) = inr (inl refl)
four (suc (suc zero)) = inr (inr (inl refl))
four (suc (suc (suc n))) = inr (inr (inr (omega arith)))

next_0 : (xs : List ℕ) → length xs ≡ 0 → next xs ≡ 0x05
unfolding next
next_0 xs h = pick_0 (length xs) 0x05 0x64 5 (check_next xs) h

next_1 : (xs : List ℕ) → length xs ≡ 1 → next xs ≡ 0x64
unfolding next
next_1 xs h = pick_1 (length xs) 0x05 0x64 5 (check_next xs) h

next_2 : (xs : List ℕ) → length xs ≡ 2 → next xs ≡ 5
unfolding next
next_2 xs h = pick_2 (length xs) 0x05 0x64 5 (check_next xs) h

next_more : (xs : List ℕ) → 2 < length xs → next xs ≡ check_next xs
unfolding next
next_more xs h = pick_more (length xs) 0x05 0x64 5 (check_next xs) h

next_follows : (xs : List ℕ) → follows xs (next xs) ≡ true
next_follows xs =
    grind (arith, common_steps, next, four, pick_0, next_0, pick_1, next_1, pick_2, next_2, pick_more, next_more, check_follows)

next_octet : (xs : List ℕ) → next xs < 256
next_octet xs = grind (arith, common_steps, four, next_0, next_1, next_2, next_more, check_octet)

next_keeps : (xs : List ℕ) → size_of (xs ++ next xs ∷ []) ≡ size_of xs
next_keeps xs = grind (arith, common_steps, next, length-append, four, size_short, size_long, get_or-append_seam, next_2, size_kept)

pub goes_on : GoesOn follows size_of next
goes_on = record { follows_on = λ xs o h. next_follows xs; octet = λ xs o h. next_octet xs; keeps = λ xs h. next_keeps xs }

pub frames_free : IsPrefixFree SpellsByPlaces
frames_free = prefix_free follows size_of told fields_of

-- a range of a front
range_front : (xs : List ℕ) (p s e : ℕ) → s ≤ e → e ≤ p → slice_range (take p xs) s e ≡ slice_range xs s e
range_front xs p s e l h =
    let q : p ≡ s + (p - s) = omega arith in
    let front : drop s (take p xs) ≡ take (p - s) (drop s xs) = ap (λ (n : ℕ). drop s (take n xs)) q ∙ drop-take s (p - s) xs in
    ap (take (e - s)) front ∙ take-take (e - s) (p - s) (drop s xs) (omega arith)

start_before_end : (len p : ℕ) → block_start p ≤ block_end len p
start_before_end len p = grind (arith, nat_tests, common_steps, cases_lt, lt-ltb, le-ltb)

checks_front : (len : ℕ) (xs : List ℕ) (p octet : ℕ) → checks len (take p xs) p octet ≡ checks len xs p octet
checks_front len xs p octet = grind (arith, nat_tests, common_steps, cases_lt, lt-ltb, range_front, start_before_end)

-- what the first octets tell, a longer list of them tells
pub follows_front : (xs : List ℕ) (p octet : ℕ) → 2 < p → p ≤ length xs → follows (take p xs) octet ≡ checks (get_or xs 2 0) xs p octet
follows_front xs p octet l h = grind (arith, common_steps, length-take-le, get_or-take, pick_more, checks_front)

pub fields_front : (xs : List ℕ) (n : ℕ) → 10 ≤ n → fields_of (take n xs) ≡ record { control = get_or xs 3 0; dest = u16_le_at xs 4; source = u16_le_at xs 6; blocks = slice_range xs 10 n }
fields_front xs n h = grind (arith, common_steps, drop-take, get_or-take)

pub frame_front : (xs : List ℕ) → IsOctets xs → HasFront SpellsByPlaces xs
frame_front xs o = has_front follows size_of told next goes_on fields_of (λ ys. omega (arith, size_least ys)) xs o

-- before the CRC of its block any octet may stand
pub inside_block : (xs : List ℕ) (p octet : ℕ) → 2 < p → p ≤ length xs → p < block_end (get_or xs 2 0) p → follows (take p xs) octet ≡ true
inside_block xs p octet l h b = grind (arith, common_steps, follows_front, lt-ltb)

-- an octet of a CRC
pub at_sum : (xs : List ℕ) (start stop p octet : ℕ) → 2 < p → p ≤ length xs → block_start p ≡ start → block_end (get_or xs 2 0) p ≡ stop → stop ≤ p → follows (take p xs) octet ≡ (octet == crc_octet (crc_of (slice_range xs start stop)) (p - stop))
at_sum xs start stop p octet l h s e b = grind (arith, common_steps, follows_front, le-ltb)

other_octet : (a b : ℕ) → (a ≡ b → ⊥) → (a == b) ≡ false
other_octet a b h = grind (arith, nat_tests)

equal_octet : (a b : ℕ) → a ≡ b → (a == b) ≡ true
equal_octet a b h = grind (arith, nat_tests)

-- the two octets of the CRC of a block, of which the sum is known
module _ (xs : List ℕ) (start stop sum octet : ℕ) (past : 2 < stop) (order : start ≤ stop) (block : IsBlock (get_or xs 2 0) start stop) (is : sum ≡ crc_of (slice_range xs start stop)) where
  low_is : stop ≤ length xs → follows (take stop xs) octet ≡ (octet == sum % 256)
  low_is h =
      let b = block stop order (omega arith) in
      let e : stop - stop ≡ 0 = omega arith in
      at_sum xs start stop stop octet past h b.0 b.1 (omega arith) ∙ rw (is, e) refl

  high_is : stop + 1 ≤ length xs → follows (take (stop + 1) xs) octet ≡ (octet == sum / 256)
  high_is h =
      let b = block (stop + 1) (omega arith) (omega arith) in
      let e : stop + 1 - stop ≡ 1 = omega arith in
      at_sum xs start stop (stop + 1) octet (omega arith) h b.0 b.1 (omega arith) ∙ rw (is, e) refl

  pub low_wrong : stop ≤ length xs → (octet ≡ sum % 256 → ⊥) → follows (take stop xs) octet ≡ false
  low_wrong h n = low_is h ∙ other_octet octet (sum % 256) n

  pub low_right : stop ≤ length xs → octet ≡ sum % 256 → follows (take stop xs) octet ≡ true
  low_right h e = low_is h ∙ equal_octet octet (sum % 256) e

  pub high_wrong : stop + 1 ≤ length xs → (octet ≡ sum / 256 → ⊥) → follows (take (stop + 1) xs) octet ≡ false
  high_wrong h n = high_is h ∙ other_octet octet (sum / 256) n

  pub high_right : stop + 1 ≤ length xs → octet ≡ sum / 256 → follows (take (stop + 1) xs) octet ≡ true
  high_right h e = high_is h ∙ equal_octet octet (sum / 256) e

-- what stands before a block and in it
pub to_sum : (xs : List ℕ) (start stop most n : ℕ) → most ≤ length xs → IsBlock (get_or xs 2 0) start stop → 3 ≤ most → EachFollows follows xs (min most (max 3 start)) → n ≤ most → n ≤ stop → EachFollows follows xs n
to_sum xs start stop most n h block some before l k p below =
    elim (cases_lt p (max 3 start)) [
      | inl v ↦ before p (omega arith)
      | inr v ↦ inside_block xs p (get_or xs p 0) (omega arith) (omega arith) (let b = block p (omega arith) (omega arith) in omega (arith, b.1))
    ]

-- the header is a block, and so are 16 user octets, or the last ones that are fewer
pub header_block : (len : ℕ) → IsBlock len 0 8
header_block len p l h = grind (arith, nat_tests, common_steps, lt-ltb)

pub user_block : (len k start stop : ℕ) → start ≡ 10 + k * 18 → stop ≡ start + min 16 (len - 5 - k * 16) → IsBlock len start stop
user_block len k start stop s e p l h = grind (arith, nat_tests, common_steps, le-ltb)

-- behind the last block nothing of the frame stands
pub block_more : (xs : List ℕ) (k most : ℕ) → 3 ≤ length xs → most ≤ size_of xs → 10 + k * 18 < most → min most (10 + k * 18 + min 16 (get_or xs 2 0 - 5 - k * 16) + 2) ≡ min most (10 + (k + 1) * 18)
block_more xs k most h size l = (let s = size_long xs h in omega (arith, s))
