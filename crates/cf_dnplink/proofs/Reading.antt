-- Each frame is spelled from its user octets.
use Rattle.std.proofs.Common.{◌≡◌, ℕ, zero, suc, ◌+◌, ◌-◌, ◌*◌, ◌/◌, ◌%◌, ◌<◌, ◌≤◌, ◌==◌, min, nat_le, true, List, [], ◌∷◌, ◌++◌, length, get_or, take, drop, inl, inr, refl, sym, ◌∙◌, ap, append_assoc, arith, length-append, length-take, slice_range, take-append-drop}
use Rattle.std.proofs.Math.Seq.{take-append_seam, drop-append_seam}
use Rattle.std.proofs.lemmas.Bool.Decides.{nat_tests}
use Rattle.std.proofs.lemmas.Bool.{cases_lt, le-ltb}
use Rattle.std.proofs.lemmas.List.{length-drop, drop-drop, append-nil, take_all, drop_all}
use Rattle.cf_view.proofs.OctetLists.{octet_split}
use Rattle.cf_view.specs.Octets.{u16_le_octets, u16_le_at}
use Rattle.cf_dnplink.specs.Crc.{crc_of}
use Rattle.cf_view.specs.Places.{EachFollows, IsUnit}
use Rattle.cf_dnplink.specs.LinkFrame.{FrameValue, with_crc, blocks_by, blocks_of, spelling}
use Rattle.cf_dnplink.specs.FramePlaces.{frame_size, size_of, block_start, block_end, crc_octet, follows, SpellsByPlaces}
use Rattle.cf_dnplink.specs.UserOctets.{user_by, user_of}
use Rattle.cf_dnplink.proofs.FramePlaces.{follows_front, size_long, size_least}
use Rattle.cf_dnplink.proofs.Writing.{start_is, end_is, length-with_crc, length-blocks_by}
use Rattle.std.proofs.lemmas.Grind.{common_steps}

same_number : (a b : ℕ) → (a == b) ≡ true → a ≡ b
same_number a b h = grind (arith, nat_tests)

-- what a place past the data of a block holds
module _ (len : ℕ) (xs : List ℕ) (told : get_or xs 2 0 ≡ len) (right : EachFollows follows xs (length xs)) where
  crc_there : (p s e : ℕ) → 2 < p → p < length xs → block_start p ≡ s → block_end len p ≡ e → e ≤ p → get_or xs p 0 ≡ crc_octet (crc_of (slice_range xs s e)) (p - e)
  crc_there p s e l h start end past = grind (arith, nat_tests, common_steps, follows_front, le-ltb, same_number)

  -- the octets from block k on begin with its data and their CRC
  block : (k m : ℕ) → m ≡ min 16 (len - 5 - 16 * k) → 0 < m → 10 + 18 * k + (m + 2) ≤ length xs → drop (10 + 18 * k) xs ≡ with_crc (take m (drop (10 + 18 * k) xs)) ++ drop (10 + 18 * k + (m + 2)) xs
  block k m size some h =
      let s = 10 + 18 * k in
      let e = s + m in
      let d = take m (drop s xs) in
      let low = crc_there e s e (omega arith) (omega arith) (start_is k e (omega arith) (omega (arith, size))) (end_is len k e (omega arith) (omega (arith, size)) ∙ ap (λ (n : ℕ). s + n) (sym size)) (omega arith) in
      let high = crc_there (e + 1) s e (omega arith) (omega arith) (start_is k (e + 1) (omega arith) (omega (arith, size))) (end_is len k (e + 1) (omega arith) (omega (arith, size)) ∙ ap (λ (n : ℕ). s + n) (sym size)) (omega arith) in
      let range : slice_range xs s e ≡ d = (let z : e - s ≡ m = omega arith in ap (λ (n : ℕ). take n (drop s xs)) z) in
      let zero_is : e - e ≡ 0 = omega arith in
      let one_is : (e + 1) - e ≡ 1 = omega arith in
      let low' : get_or xs e 0 ≡ crc_of d % 256 = low ∙ ap (λ (ys : List ℕ). crc_octet (crc_of ys) (e - e)) range ∙ ap (λ (i : ℕ). crc_octet (crc_of d) i) zero_is in
      let high' : get_or xs (e + 1) 0 ≡ crc_of d / 256 = high ∙ ap (λ (ys : List ℕ). crc_octet (crc_of ys) ((e + 1) - e)) range ∙ ap (λ (i : ℕ). crc_octet (crc_of d) i) one_is in
      let two : drop e xs ≡ get_or xs e 0 ∷ get_or xs (e + 1) 0 ∷ drop (e + 1 + 1) xs = octet_split xs e (omega arith) ∙ ap (λ (ys : List ℕ). get_or xs e 0 ∷ ys) (octet_split xs (e + 1) (omega arith)) in
      let last : e + 1 + 1 ≡ s + (m + 2) = omega arith in
      sym (take-append-drop m (drop s xs))
      ∙ ap (λ (ys : List ℕ). d ++ ys) (drop-drop m s xs ∙ two)
      ∙ ap (λ (a : ℕ). d ++ (a ∷ get_or xs (e + 1) 0 ∷ drop (e + 1 + 1) xs)) low'
      ∙ ap (λ (a : ℕ). d ++ (crc_of d % 256 ∷ a ∷ drop (e + 1 + 1) xs)) high'
      ∙ ap (λ (n : ℕ). d ++ (crc_of d % 256 ∷ crc_of d / 256 ∷ drop n xs)) last
      ∙ sym (append_assoc d (u16_le_octets (crc_of d)) (drop (s + (m + 2)) xs))

  reads : (n k lu : ℕ) → len ≡ 5 + 16 * k + lu → n ≡ (lu + 15) / 16 → length xs ≡ 10 + 18 * k + (lu + 2 * n) → blocks_by n (user_by n (drop (10 + 18 * k) xs)) ≡ drop (10 + 18 * k) xs
  unfolding blocks_by user_by
  reads zero k lu sum count long = sym (drop_all (10 + 18 * k) xs (omega arith))
  reads (suc n) k lu sum count long =
      let s = 10 + 18 * k in
      let ys = drop s xs in
      let m = min 16 lu in
      let long-ys : length ys ≡ lu + 2 * suc n = omega (arith, length-drop s xs) in
      let m_is : min 16 (length ys - 2) ≡ m = omega (arith, long-ys) in
      let d = take m ys in
      let d_long : length d ≡ m = omega (arith, length-take m ys, long-ys) in
      let user = user_by n (drop 18 ys) in
      let start : take (min 16 (length ys - 2)) ys ++ user ≡ d ++ user = ap (λ (i : ℕ). take i ys ++ user) m_is in
      let b = block k m (omega arith) (omega arith) (omega arith) in
      ap (λ (us : List ℕ). with_crc (take 16 us) ++ blocks_by n (drop 16 us)) start
      ∙ elim (cases_lt 16 lu) [
        | inl v ↦
            (let full : length d ≡ 16 = omega (arith, d_long) in
            let front : take 16 (d ++ user) ≡ d = ap (λ (i : ℕ). take i (d ++ user)) (sym full) ∙ take-append_seam d user in
            let rest : drop 16 (d ++ user) ≡ user = ap (λ (i : ℕ). drop i (d ++ user)) (sym full) ∙ drop-append_seam d user in
            let place : s + (m + 2) ≡ 10 + 18 * suc k = omega arith in
            let place' : s + 18 ≡ 10 + 18 * suc k = omega arith in
            let next : drop 18 ys ≡ drop (10 + 18 * suc k) xs = drop-drop 18 s xs ∙ ap (λ (i : ℕ). drop i xs) place' in
            let more = reads n (suc k) (lu - 16) (omega arith) (omega arith) (omega arith) in
            ap (λ (us : List ℕ). with_crc us ++ blocks_by n (drop 16 (d ++ user))) front
            ∙ ap (λ (us : List ℕ). with_crc d ++ blocks_by n us) rest
            ∙ ap (λ (zs : List ℕ). with_crc d ++ blocks_by n (user_by n zs)) next
            ∙ ap (λ (zs : List ℕ). with_crc d ++ zs) more
            ∙ ap (λ (i : ℕ). with_crc d ++ drop i xs) (sym place)
            ∙ sym b)
        | inr v ↦
            (let none : n ≡ 0 = omega arith in
            let empty : user ≡ [] = ap (λ (i : ℕ). user_by i (drop 18 ys)) none in
            let alone : d ++ user ≡ d = ap (λ (us : List ℕ). d ++ us) empty ∙ append-nil d in
            let all : take 16 d ≡ d = take_all 16 d (omega (arith, d_long)) in
            let past : drop (s + (m + 2)) xs ≡ [] = drop_all (s + (m + 2)) xs (omega arith) in
            ap (λ (us : List ℕ). with_crc (take 16 us) ++ blocks_by n (drop 16 us)) alone
            ∙ ap (λ (us : List ℕ). with_crc us ++ blocks_by n (drop 16 d)) all
            ∙ ap (λ (i : ℕ). with_crc d ++ blocks_by i (drop 16 d)) none
            ∙ ap (λ (zs : List ℕ). with_crc d ++ zs) (sym past)
            ∙ sym b)
      ]

-- how many user octets there are
length-user_by : (n lu : ℕ) (ys : List ℕ) → n ≡ (lu + 15) / 16 → length ys ≡ lu + 2 * n → length (user_by n ys) ≡ lu
unfolding user_by
length-user_by zero lu ys count long = omega arith
length-user_by (suc n) lu ys count long =
    omega (arith, length-append (take (min 16 (length ys - 2)) ys) (user_by n (drop 18 ys)), length-take (min 16 (length ys - 2)) ys, length-drop 18 ys, length-user_by n (lu - 16) (drop 18 ys) (omega arith) (omega (arith, length-drop 18 ys)))

at_least_5 : (o : ℕ) → nat_le 5 o ≡ true → 5 ≤ o
at_least_5 o h = grind (arith, nat_tests)

ten : (xs : List ℕ) → 10 ≤ length xs → xs ≡ get_or xs 0 0 ∷ get_or xs 1 0 ∷ get_or xs 2 0 ∷ get_or xs 3 0 ∷ get_or xs 4 0 ∷ get_or xs 5 0 ∷ get_or xs 6 0 ∷ get_or xs 7 0 ∷ get_or xs 8 0 ∷ get_or xs 9 0 ∷ drop 10 xs
ten xs h1 = grind (arith, nat_tests, common_steps)

two_there : (xs : List ℕ) (o : ℕ) → 2 ≤ length xs → follows (take 1 xs) o ≡ true → (o == 0x64) ≡ true
two_there xs o h1 h2 = grind (arith, nat_tests, common_steps)

third_there : (xs : List ℕ) (o : ℕ) → 3 ≤ length xs → follows (take 2 xs) o ≡ true → 5 ≤ o
third_there xs o h1 h2 = grind (arith, nat_tests, common_steps, at_least_5)

module _ (xs : List ℕ) (u : IsUnit follows size_of xs) where
  at_least : 10 ≤ length xs
  at_least = omega (arith, u.whole, size_least xs)

  len : ℕ
  len = get_or xs 2 0

  first_is : get_or xs 0 0 ≡ 0x05
  first_is = same_number _ _ (u.right 0 (omega (arith, at_least)))

  second_is : get_or xs 1 0 ≡ 0x64
  second_is = same_number _ _ (two_there xs (get_or xs 1 0) (omega (arith, at_least)) (u.right 1 (omega (arith, at_least))))

  len_least : 5 ≤ get_or xs 2 0
  len_least = third_there xs (get_or xs 2 0) (omega (arith, at_least)) (u.right 2 (omega (arith, at_least)))

  size_is : length xs ≡ frame_size (get_or xs 2 0)
  size_is = u.whole ∙ size_long xs (omega (arith, at_least))

  user_count : length (user_of (drop 10 xs)) ≡ get_or xs 2 0 - 5
  user_count = grind (arith, common_steps, length-drop, size_is, length-user_by)

  blocks_are : blocks_of (user_of (drop 10 xs)) ≡ drop 10 xs
  blocks_are =
      let lu = get_or xs 2 0 - 5 in
      let long : length (drop 10 xs) ≡ lu + 2 * ((lu + 15) / 16) = omega (arith, length-drop 10 xs, size_is) in
      let n : (length (drop 10 xs) + 17) / 18 ≡ (lu + 15) / 16 = omega (arith, long) in
      ap (λ (i : ℕ). blocks_by ((i + 15) / 16) (user_of (drop 10 xs))) user_count
      ∙ ap (λ (i : ℕ). blocks_by ((lu + 15) / 16) (user_by i (drop 10 xs))) n
      ∙ reads (get_or xs 2 0) xs refl u.right ((lu + 15) / 16) 0 lu (omega (arith, len_least)) refl (omega (arith, size_is))

  eight : List ℕ
  eight = 0x05 ∷ 0x64 ∷ (length (user_of (drop 10 xs)) + 5) ∷ get_or xs 3 0 ∷ u16_le_octets (u16_le_at xs 4) ++ u16_le_octets (u16_le_at xs 6)

  len_is : get_or xs 2 0 ≡ length (user_of (drop 10 xs)) + 5
  len_is = omega (arith, user_count, len_least)

  low_is : (i : ℕ) → get_or xs i 0 ≡ u16_le_at xs i % 256
  low_is i = omega (arith, u.octets_are i, u.octets_are (i + 1))

  high_is : (i : ℕ) → get_or xs (i + 1) 0 ≡ u16_le_at xs i / 256
  high_is i = omega (arith, u.octets_are i, u.octets_are (i + 1))

  same_ten : (a0 a1 a2 a4 a5 a6 a7 a8 a9 b0 b1 b2 b4 b5 b6 b7 b8 b9 c : ℕ) (rest other : List ℕ) → a0 ≡ b0 → a1 ≡ b1 → a2 ≡ b2 → a4 ≡ b4 → a5 ≡ b5 → a6 ≡ b6 → a7 ≡ b7 → a8 ≡ b8 → a9 ≡ b9 → rest ≡ other →
      a0 ∷ a1 ∷ a2 ∷ c ∷ a4 ∷ a5 ∷ a6 ∷ a7 ∷ a8 ∷ a9 ∷ rest ≡ b0 ∷ b1 ∷ b2 ∷ c ∷ b4 ∷ b5 ∷ b6 ∷ b7 ∷ b8 ∷ b9 ∷ other
  same_ten a0 a1 a2 a4 a5 a6 a7 a8 a9 b0 b1 b2 b4 b5 b6 b7 b8 b9 c rest other e0 e1 e2 e4 e5 e6 e7 e8 e9 e = cc

  eight_is : take 8 xs ≡ eight
  unfolding eight
  eight_is = grind (arith, common_steps, ten, at_least, same_ten, first_is, second_is, len_is, low_is, high_is)

  crc_low : get_or xs 8 0 ≡ crc_of eight % 256
  crc_low = crc_there (get_or xs 2 0) xs refl u.right 8 0 8 (omega arith) (omega (arith, at_least)) refl refl (omega arith) ∙ ap (λ (ys : List ℕ). crc_of ys % 256) eight_is

  crc_high : get_or xs 9 0 ≡ crc_of eight / 256
  crc_high = crc_there (get_or xs 2 0) xs refl u.right 9 0 8 (omega arith) (omega (arith, at_least)) refl refl (omega arith) ∙ ap (λ (ys : List ℕ). crc_of ys / 256) eight_is

  pub is_written : xs ≡ spelling (get_or xs 3 0) (u16_le_at xs 4) (u16_le_at xs 6) (user_of (drop 10 xs))
  unfolding eight
  is_written =
      grind (arith, common_steps, ten, at_least, same_ten, eight, first_is, second_is, len_is, low_is, high_is, crc_low, crc_high, blocks_are)

pub frame_written : (f : FrameValue) (xs : List ℕ) → SpellsByPlaces f xs → xs ≡ spelling f.control f.dest f.source (user_of f.blocks)
frame_written f xs h = (let e = h.fields in rw e (is_written xs h.unit))

pub user_fits : (f : FrameValue) (xs : List ℕ) → SpellsByPlaces f xs → (length (user_of f.blocks) ≤ 250) × (blocks_of (user_of f.blocks) ≡ f.blocks)
user_fits f xs h =
    (let e = h.fields in
    let o = h.unit.octets_are 2 in
    let n = user_count xs h.unit in
    rw e (omega (arith, n, o), blocks_are xs h.unit))

-- the user octets of blocks that were made of them
user_of_blocks : (n : ℕ) (user : List ℕ) → n ≡ (length user + 15) / 16 → user_by n (blocks_by n user) ≡ user
unfolding user_by blocks_by
user_of_blocks zero [] e = refl
user_of_blocks zero (x ∷ user) e = absurd (omega (arith, e))
user_of_blocks (suc n) user e =
    let d = take 16 user in
    let left = length-drop 16 user in
    let rest = blocks_by n (drop 16 user) in
    let all = length-append (with_crc d) rest in
    let more = length-blocks_by n (drop 16 user) (omega (arith, left, e)) in
    let block = length-with_crc d in
    let front : min 16 (length (with_crc d ++ rest) - 2) ≡ length d = omega (arith, all, more, block, left, length-take 16 user, e) in
    let cells : take (length d) (with_crc d ++ rest) ≡ d = ap (take (length d)) (append_assoc d (u16_le_octets (crc_of d)) rest) ∙ take-append_seam d (u16_le_octets (crc_of d) ++ rest) in
    let behind : user_by n (drop 18 (with_crc d ++ rest)) ≡ drop 16 user = elim (cases_lt (length user) 16) [
      | inl v ↦ grind (arith, common_steps, drop_all)
      | inr v ↦
          (let full : 18 ≡ length (with_crc d) = omega (arith, block, length-take 16 user, v) in
          ap (λ (k : ℕ). user_by n (drop k (with_crc d ++ rest))) full
          ∙ ap (user_by n) (drop-append_seam (with_crc d) rest)
          ∙ user_of_blocks n (drop 16 user) (omega (arith, left, e)))
    ] in
    ap (λ (k : ℕ). take k (with_crc d ++ rest) ++ user_by n (drop 18 (with_crc d ++ rest))) front
    ∙ ap (λ (xs : List ℕ). xs ++ user_by n (drop 18 (with_crc d ++ rest))) cells
    ∙ ap (λ (xs : List ℕ). d ++ xs) behind
    ∙ take-append-drop 16 user

pub user_again : (user : List ℕ) → user_of (blocks_of user) ≡ user
user_again user = grind (arith, common_steps, length-blocks_by, user_of_blocks)
