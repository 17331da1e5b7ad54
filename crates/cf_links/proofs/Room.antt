-- How many of a list of sessions stand, and what is left where one does no longer, or one more does.
use Rattle.std.proofs.Common.{List, [], arith, length, ap, sym, refl, ℕ, Bool, Option, Some, None, true, false}
use Rattle.std.proofs.Common.{◌∷◌, ◌++◌, ◌≡◌, ◌≤◌, ◌<◌, ◌+◌, ◌∙◌}
use Rattle.std.specs.Prelude.{◌==◌, ◌&&◌, unwrap_or, slice_get, vec_capacity, vec_len}
use Rattle.std.proofs.Math.ListN.{set, get_or}
use Rattle.std.proofs.lemmas.Bool.{eq-eqb, leb-true}
use Rattle.std.proofs.lemmas.List.{get_or-set_other, get_or-set_same, length-append}
use Rattle.std.proofs.lemmas.List.Sums.{sum_by-cons, sum_by-set}
use Rattle.std.proofs.lemmas.Option.{unwrap_or-slice_get, slice_get_within}
use Rattle.cf_links.specs.MemoryLinks.{has_room, open_count, serves_in, standing, stands_at}
use Rattle.cf_links.specs.declared.memory_links.MemoryLinks.{MemoryLinks}

one_le : (b : Bool) → standing b ≤ 1
one_le true = omega arith
one_le false = omega arith

pub open_le : (all : List Bool) → open_count all ≤ length all
open_le [] = omega arith
open_le (b ∷ all) =
    let rest : open_count all ≤ length all = open_le all in
    let first : standing b ≤ 1 = one_le b in
    let is : open_count (b ∷ all) ≡ standing b + open_count all = sum_by-cons standing b all in
    omega arith

within_by : (all : List Bool) (i : ℕ) (o : Option Bool) → slice_get all i ≡ o → unwrap_or o false ≡ true → i < length all
within_by all i None e h = cc
within_by all i (Some b) e h = slice_get_within all i b e

pub within : (all : List Bool) (i : ℕ) → stands_at all i ≡ true → i < length all
within all i h = within_by all i (slice_get all i) refl h

pub open_less : (all : List Bool) (i : ℕ) → stands_at all i ≡ true → open_count (set all i false) + 1 ≡ open_count all
open_less all i h =
    let at : get_or all i false ≡ true = sym (unwrap_or-slice_get all i false) ∙ h in
    let one : standing (get_or all i false) ≡ 1 = ap standing at in
    let less : open_count (set all i false) + standing (get_or all i false) ≡ open_count all + standing false =
    sum_by-set standing all i false false (within all i h) in
    omega arith

pub gone_now : (all : List Bool) (i : ℕ) → stands_at all i ≡ true → stands_at (set all i false) i ≡ false
gone_now all i h = unwrap_or-slice_get (set all i false) i false ∙ get_or-set_same all i false false (within all i h)

apart_by : (i j : ℕ) → (i == j) ≡ false → j ≡ i → ⊥
apart_by i j n e = let same : (i == j) ≡ true = eq-eqb i j (sym e) in cc

pub others_stand : (all : List Bool) (i j : ℕ) → (i == j) ≡ false → stands_at (set all i false) j ≡ stands_at all j
others_stand all i j n =
    unwrap_or-slice_get (set all i false) j false ∙ get_or-set_other all i j false false (apart_by i j n) ∙ sym (unwrap_or-slice_get all j false)

-- one that is served stands, and its last answer has room
second_too : (a b : Bool) → (a && b) ≡ true → b ≡ true
second_too true b h = h
second_too false b h = cc

first_too : (a b : Bool) → (a && b) ≡ true → a ≡ true
first_too true b h = refl
first_too false b h = h

pub stands_of : (links : MemoryLinks) (k : ℕ) → serves_in links k ≡ true → stands_at links.stands.items k ≡ true
stands_of links k h = second_too (has_room links) (stands_at links.stands.items k) h

pub room_of : (links : MemoryLinks) (k : ℕ) → serves_in links k ≡ true →
    vec_len links.told + open_count links.stands.items ≤ vec_capacity links.told
room_of links k h =
    leb-true (vec_len links.told + open_count links.stands.items) (vec_capacity links.told)
    (first_too (has_room links) (stands_at links.stands.items k) h)

pub open_more : (all : List Bool) → open_count (all ++ true ∷ []) ≤ length all + 1
open_more all =
    let long : length (all ++ true ∷ []) ≡ length all + 1 = length-append all (true ∷ []) in
    let few : open_count (all ++ true ∷ []) ≤ length (all ++ true ∷ []) = open_le (all ++ true ∷ []) in
    omega arith
