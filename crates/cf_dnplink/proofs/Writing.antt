-- What is spelled is a frame.
use Rattle.std.proofs.Common.{◌≡◌, ℕ, zero, suc, ◌+◌, ◌-◌, ◌*◌, ◌/◌, ◌%◌, ◌<◌, ◌≤◌, ◌==◌, min, nat_le, true, List, [], ◌∷◌, ◌++◌, length, get_or, take, drop, inl, inr, refl, sym, ◌∙◌, ap, subst, append_assoc, arith, length-append, length-take, slice_range}
use Rattle.std.proofs.Math.Nat.{suc-add}
use Rattle.std.proofs.Math.Seq.{take-append_seam, drop-append_seam}
use Rattle.std.proofs.lemmas.Bool.Decides.{nat_tests}
use Rattle.std.proofs.lemmas.Bool.{cases_lt, le-ltb, lt-ltb}
use Rattle.std.proofs.lemmas.List.{length-drop, drop-drop, get_or_append_left, get_or-append_right, append-nil, take_all}
use Rattle.cf_view.proofs.OctetLists.{IsOctets-take, IsOctets-drop, IsOctets-append}
use Rattle.cf_view.specs.Octets.{IsOctets, u16_le_octets}
use Rattle.cf_dnplink.specs.Crc.{crc_of}
use Rattle.cf_dnplink.specs.LinkFrame.{with_crc, blocks_by, blocks_of, header_of, spelling, frame_with}
use Rattle.cf_dnplink.specs.FramePlaces.{block_start, block_end, crc_octet, checks, follows, SpellsByPlaces}
use Rattle.cf_dnplink.proofs.FramePlaces.{follows_front, same_octet, size_long}
use Rattle.std.proofs.lemmas.Grind.{common_steps}

pub length-with_crc : (xs : List ℕ) → length (with_crc xs) ≡ length xs + 2
length-with_crc xs = length-append xs (u16_le_octets (crc_of xs))

pub length-blocks_by : (n : ℕ) (user : List ℕ) → n ≡ (length user + 15) / 16 → length (blocks_by n user) ≡ length user + 2 * n
unfolding blocks_by
length-blocks_by zero user h = omega arith
length-blocks_by (suc n) user h =
    omega (arith, length-append (with_crc (take 16 user)) (blocks_by n (drop 16 user)), length-with_crc (take 16 user), length-take 16 user, length-blocks_by n (drop 16 user) (omega (arith, length-drop 16 user)), length-drop 16 user)

-- where the places of block k begin and end
pub start_is : (k p : ℕ) → 10 + 18 * k ≤ p → p < 10 + 18 * k + 18 → block_start p ≡ 10 + 18 * k
start_is k p l h = rw (le-ltb p 10 (omega arith)) (omega arith)

pub end_is : (len k p : ℕ) → 10 + 18 * k ≤ p → p < 10 + 18 * k + 18 → block_end len p ≡ 10 + 18 * k + min 16 (len - 5 - 16 * k)
end_is len k p l h = (let q : (p - 10) / 18 ≡ k = omega arith in rw (le-ltb p 10 (omega arith), q) (omega arith))

-- the octets of a CRC
crc_at : (crc : ℕ) (rest : List ℕ) (i : ℕ) → i < 2 → get_or (u16_le_octets crc ++ rest) i 0 ≡ crc_octet crc i
crc_at crc rest i h1 = grind (arith, nat_tests, common_steps)

pub same_test : (a b : ℕ) → a ≡ b → (a == b) ≡ true
same_test a b e = rw e (same_octet b)

-- a block that stands after others
module _ (len k : ℕ) (pre d rest : List ℕ) (long : length pre ≡ 10 + 18 * k) (size : length d ≡ min 16 (len - 5 - 16 * k)) (told : get_or pre 2 0 ≡ len) where
  abbrev xs : List ℕ
  xs = pre ++ (with_crc d ++ rest)

  length-xs : length xs ≡ length pre + (length d + 2 + length rest)
  length-xs = omega (arith, length-append pre (with_crc d ++ rest), length-append (with_crc d) rest, length-with_crc d)

  range : slice_range xs (10 + 18 * k) (10 + 18 * k + length d) ≡ d
  range = grind (arith, common_steps, drop-append_seam, append_assoc, take-append_seam)

  crc_is : (p : ℕ) → length pre + length d ≤ p → p < length pre + (length d + 2) → get_or xs p 0 ≡ crc_octet (crc_of d) (p - (10 + 18 * k + length d))
  crc_is p l h = grind (arith, common_steps, get_or-append_right, append_assoc, crc_at)

  right_block : (p : ℕ) → length pre ≤ p → p < length pre + (length d + 2) → follows (take p xs) (get_or xs p 0) ≡ true
  right_block p l h =
      let s = 10 + 18 * k in
      let e = 10 + 18 * k + length d in
      let start = start_is k p (omega (arith, long)) (omega (arith, long, size)) in
      let end : block_end len p ≡ e = end_is len k p (omega (arith, long)) (omega (arith, long, size)) ∙ ap (λ (n : ℕ). 10 + 18 * k + n) (sym size) in
      let two : get_or xs 2 0 ≡ len = get_or_append_left pre (with_crc d ++ rest) 0 2 (omega (arith, long)) ∙ told in
      follows_front xs p (get_or xs p 0) (omega (arith, long)) (omega (arith, length-xs))
      ∙ ap (λ (n : ℕ). checks n xs p (get_or xs p 0)) two
      ∙ elim (cases_lt p (block_end len p)) [
        | inl v ↦ rw (lt-ltb p (block_end len p) v) refl
        | inr v ↦ grind (arith, nat_tests, common_steps, crc_is, range, le-ltb, same_test)
      ]

right_blocks : (len n k : ℕ) (pre user : List ℕ) → length pre ≡ 10 + 18 * k → len ≡ 5 + 16 * k + length user → n ≡ (length user + 15) / 16 → get_or pre 2 0 ≡ len → (p : ℕ) → length pre ≤ p → p < length (pre ++ blocks_by n user) → follows (take p (pre ++ blocks_by n user)) (get_or (pre ++ blocks_by n user) p 0) ≡ true
unfolding blocks_by
right_blocks len zero k pre user long sum count told p l h = absurd (omega (arith, length-append pre []))
right_blocks len (suc n) k pre user long sum count told p l h =
    let d = take 16 user in
    let rest = blocks_by n (drop 16 user) in
    let size : length d ≡ min 16 (len - 5 - 16 * k) = omega (arith, length-take 16 user) in
    let left = length-drop 16 user in
    let more = length-blocks_by n (drop 16 user) (omega (arith, left)) in
    let all = length-append pre (with_crc d ++ rest) in
    let both = length-append (with_crc d) rest in
    let block = length-with_crc d in
    elim (cases_lt p (length pre + (length d + 2))) [
      | inl v ↦ right_block len k pre d rest long size told p l v
      | inr v ↦
          (let full : length d ≡ 16 = omega (arith, length-take 16 user) in
          let ahead = length-append pre (with_crc d) in
          subst (λ (xs : List ℕ). follows (take p xs) (get_or xs p 0) ≡ true) (append_assoc pre (with_crc d) rest)
          (right_blocks len n (suc k) (pre ++ with_crc d) (drop 16 user) (omega arith) (omega (arith, length-take 16 user)) (omega arith)
          (get_or_append_left pre (with_crc d) 0 2 (omega (arith, long)) ∙ told) p (omega arith)
          (rw (append_assoc pre (with_crc d) rest) h)))
    ]

least : (len : ℕ) → 5 ≤ len → nat_le 5 len ≡ true
least len h = grind (arith, nat_tests)

right_header : (len control dest source : ℕ) (rest : List ℕ) → 5 ≤ len → (p : ℕ) → p < 10 → follows (take p (header_of len control dest source ++ rest)) (get_or (header_of len control dest source ++ rest) p 0) ≡ true
right_header len control dest source rest h zero l = refl
right_header len control dest source rest h (suc zero) l = refl
right_header len control dest source rest h (suc (suc zero)) l = least len h
right_header len control dest source rest h (suc (suc (suc zero))) l = refl
right_header len control dest source rest h (suc (suc (suc (suc zero)))) l = refl
right_header len control dest source rest h (suc (suc (suc (suc (suc zero))))) l = refl
right_header len control dest source rest h (suc (suc (suc (suc (suc (suc zero)))))) l = refl
right_header len control dest source rest h (suc (suc (suc (suc (suc (suc (suc zero))))))) l = refl
right_header len control dest source rest h (suc (suc (suc (suc (suc (suc (suc (suc zero)))))))) l = same_octet _
right_header len control dest source rest h (suc (suc (suc (suc (suc (suc (suc (suc (suc zero))))))))) l = same_octet _
right_header len control dest source rest h (suc (suc (suc (suc (suc (suc (suc (suc (suc (suc p)))))))))) l = absurd (omega arith)

two_octets : (n : ℕ) → n < 65536 → IsOctets (u16_le_octets n)
two_octets n h zero = omega arith
two_octets n h (suc zero) = omega arith
two_octets n h (suc (suc i)) = omega arith

octets_with_crc : (xs : List ℕ) → IsOctets xs → IsOctets (with_crc xs)
octets_with_crc xs o = IsOctets-append xs (u16_le_octets (crc_of xs)) o (two_octets (crc_of xs) (omega arith))

octets_blocks : (n : ℕ) (user : List ℕ) → IsOctets user → IsOctets (blocks_by n user)
unfolding blocks_by
octets_blocks zero user o = λ i. omega arith
octets_blocks (suc n) user o =
    IsOctets-append (with_crc (take 16 user)) (blocks_by n (drop 16 user)) (octets_with_crc (take 16 user) (IsOctets-take user 16 o)) (octets_blocks n (drop 16 user) (IsOctets-drop user 16 o))

octets_fields : (len control dest source : ℕ) → len < 256 → control < 256 → dest < 65536 → source < 65536 → IsOctets (0x05 ∷ 0x64 ∷ len ∷ control ∷ u16_le_octets dest ++ u16_le_octets source)
octets_fields len control dest source a b c d zero = omega arith
octets_fields len control dest source a b c d (suc zero) = omega arith
octets_fields len control dest source a b c d (suc (suc zero)) = a
octets_fields len control dest source a b c d (suc (suc (suc zero))) = b
octets_fields len control dest source a b c d (suc (suc (suc (suc i)))) = IsOctets-append (u16_le_octets dest) (u16_le_octets source) (two_octets dest c) (two_octets source d) i

module _ (control dest source : ℕ) (user : List ℕ) (b : control < 256) (c : dest < 65536) (d : source < 65536) (o : IsOctets user) (h : length user ≤ 250) where
  abbrev written : List ℕ
  written = spelling control dest source user

  length-written : length written ≡ 10 + length (blocks_of user)
  length-written = length-append (header_of (length user + 5) control dest source) (blocks_of user)

  pub is_spelled : SpellsByPlaces (frame_with control dest source user) written
  is_spelled =
      let count = length-blocks_by ((length user + 15) / 16) user refl in
      record {
        unit = record {
          octets_are = IsOctets-append (header_of (length user + 5) control dest source) (blocks_of user) (octets_with_crc (0x05 ∷ 0x64 ∷ (length user + 5) ∷ control ∷ u16_le_octets dest ++ u16_le_octets source) (octets_fields (length user + 5) control dest source (omega arith) b c d)) (octets_blocks ((length user + 15) / 16) user o);
          whole = (let size = size_long written (omega (arith, length-written)) in omega (arith, length-written, count, size));
          right = λ p l. elim (cases_lt p 10) [
            | inl v ↦ right_header (length user + 5) control dest source (blocks_of user) (omega arith) p v
            | inr v ↦ right_blocks (length user + 5) ((length user + 15) / 16) 0 (header_of (length user + 5) control dest source) user refl (omega arith) refl refl p v l
          ];
        };
        fields = (let e : dest % 256 + dest / 256 * 256 ≡ dest = omega arith in let f : source % 256 + source / 256 * 256 ≡ source = omega arith in rw (e, f) refl);
      }

-- one more block
pub blocks_more : (k : ℕ) (user : List ℕ) → blocks_by (k + 1) user ≡ blocks_by k user ++ with_crc (take 16 (drop (16 * k) user))
unfolding blocks_by
blocks_more zero user = append-nil (with_crc (take 16 user))
blocks_more (suc k) user =
    let e : 16 + 16 * k ≡ 16 * suc k = omega arith in
    ap (λ (n : ℕ). blocks_by n user) (suc-add k 1)
    ∙ ap (λ (ys : List ℕ). with_crc (take 16 user) ++ ys) (blocks_more k (drop 16 user))
    ∙ sym (append_assoc (with_crc (take 16 user)) (blocks_by k (drop 16 user)) (with_crc (take 16 (drop (16 * k) (drop 16 user)))))
    ∙ ap (λ (ys : List ℕ). (with_crc (take 16 user) ++ blocks_by k (drop 16 user)) ++ with_crc (take 16 ys)) (drop-drop (16 * k) 16 user ∙ ap (λ (n : ℕ). drop n user) e)

-- the octets of a block, cut at the end
pub block_cut : (k : ℕ) (user : List ℕ) → slice_range user (16 * k) (min (16 * k + 16) (length user)) ≡ take 16 (drop (16 * k) user)
block_cut k user = grind (arith, nat_tests, common_steps, cases_lt, length-drop, take_all)
