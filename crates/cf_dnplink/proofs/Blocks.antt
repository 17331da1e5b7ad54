-- Where the user octets stand in the blocks.
use Rattle.std.proofs.Common.{◌≡◌, ℕ, zero, suc, ◌+◌, ◌-◌, ◌*◌, ◌/◌, ◌<◌, ◌++◌, List, length, get_or, take, drop, inl, inr, refl, ◌∙◌, ap, arith, length-take}
use Rattle.std.proofs.lemmas.Bool.{cases_lt}
use Rattle.std.proofs.lemmas.List.{length-drop, get_or-drop, get_or-take, get_or_append_left, get_or-append_right}
use Rattle.cf_view.specs.Octets.{u16_le_octets}
use Rattle.cf_dnplink.specs.Crc.{crc_of}
use Rattle.cf_dnplink.specs.LinkFrame.{with_crc, blocks_by, blocks_of}
use Rattle.cf_dnplink.proofs.Writing.{length-with_crc}

place_in_blocks : (n i : ℕ) (user : List ℕ) → n ≡ (length user + 15) / 16 → i < length user → get_or (blocks_by n user) (i + i / 16 * 2) 0 ≡ get_or user i 0
unfolding blocks_by
place_in_blocks zero i user e h = absurd (omega arith)
place_in_blocks (suc n) i user e h =
    let d = take 16 user in
    let rest = blocks_by n (drop 16 user) in
    let long = length-with_crc d in
    let size = length-take 16 user in
    elim (cases_lt i 16) [
      | inl v ↦
          (let at : i + i / 16 * 2 ≡ i = omega arith in
          ap (λ (k : ℕ). get_or (with_crc d ++ rest) k 0) at
          ∙ get_or_append_left (with_crc d) rest 0 i (omega (arith, long, size))
          ∙ get_or_append_left d (u16_le_octets (crc_of d)) 0 i (omega (arith, size))
          ∙ get_or-take 16 user i 0 v)
      | inr v ↦
          (let at : i + i / 16 * 2 - 18 ≡ (i - 16) + (i - 16) / 16 * 2 = omega arith in
          let back : 16 + (i - 16) ≡ i = omega arith in
          get_or-append_right (with_crc d) rest 18 (i + i / 16 * 2) 0 (omega (arith, long, size)) (omega arith)
          ∙ ap (λ (k : ℕ). get_or rest k 0) at
          ∙ place_in_blocks n (i - 16) (drop 16 user) (omega (arith, length-drop 16 user)) (omega (arith, length-drop 16 user))
          ∙ get_or-drop 16 user (i - 16) 0
          ∙ ap (λ (k : ℕ). get_or user k 0) back)
    ]

pub user_at : (i : ℕ) (user : List ℕ) → i < length user → get_or (blocks_of user) (i + i / 16 * 2) 0 ≡ get_or user i 0
user_at i user h = place_in_blocks ((length user + 15) / 16) i user refl h
