-- A buffer that is filled piece by piece with the octets at a place of a file.
use Rattle.std.proofs.Common.{◌≡◌, ◌+◌, ◌≤◌, ℕ, List, [], ◌++◌, length, take, drop, refl, sym, ap, ◌∙◌, arith}
use Rattle.std.proofs.lemmas.List.{take-append-le, drop-drop, length-take-le, length-append, length-take, length-drop, take_all}
use Rattle.std.proofs.Math.Seq.{take-add, drop_at}
use Rattle.std.proofs.lemmas.Slice.{take-put_mid_below}
use borrow.Rule.Slice.PartMut.{put_mid}
use Rattle.cf_outside.specs.Files.{Content, untold, absent, holds, HasAt, IsAtEnd}
use Rattle.cf_outside.specs.Part.{HasRead, IsFilled}

-- the octets in front of the piece, and those of it that were read
filled_more : (a k n : ℕ) (xs ys : List ℕ) → a ≤ length xs → n ≤ length ys → take (a + n) (put_mid a k xs ys) ≡ take a xs ++ take n ys
filled_more a k n xs ys p q =
    let l = put_mid a k xs ys in
    let front : take a l ≡ take a xs = take-put_mid_below a k xs ys a (omega arith) p in
    let rest = drop_at (take a xs) (ys ++ drop k (drop a xs)) a (length-take-le a xs p) in
    take-add a n l ∙ ap (λ u. u ++ take n (drop a l)) front
    ∙ ap (λ u. take a xs ++ take n u) rest ∙ ap (λ u. take a xs ++ u) (take-append-le n ys (drop k (drop a xs)) q)

pub filled_length : (a k : ℕ) (xs ys : List ℕ) → a + k ≤ length xs → length ys ≡ k → length (put_mid a k xs ys) ≡ length xs
filled_length a k xs ys p q =
    omega (
      arith,
      p,
      q,
      length-append (take a xs) (ys ++ drop k (drop a xs)),
      length-append ys (drop k (drop a xs)),
      length-take a xs,
      length-drop k (drop a xs),
      length-drop a xs,
    )

-- what was read so far and what was read after it
more_at : (file : Content) (place a : ℕ) (xs ys : List ℕ) → length xs ≡ a → HasRead file place xs → HasAt file (place + a) ys → HasRead file place (xs ++ ys)
more_at untold place a xs ys l h g = tt
more_at absent place a xs ys l h g = absurd g
more_at (holds all) place a xs ys l h g =
    let behind : drop (length xs) (drop place all) ≡ drop (place + a) all = rw l (drop-drop a place all) in
    ap (λ n. take n (drop place all)) (length-append xs ys) ∙ take-add (length xs) (length ys) (drop place all)
    ∙ ap (λ u. u ++ take (length ys) (drop (length xs) (drop place all))) h
    ∙ ap (λ u. xs ++ take (length ys) u) behind ∙ ap (λ u. xs ++ u) g

pub filled_piece : (file : Content) (place a k n : ℕ) (xs ys : List ℕ) → a ≤ length xs → n ≤ length ys →
    HasRead file place (take a xs) → HasAt file (place + a) (take n ys) → HasRead file place (take (a + n) (put_mid a k xs ys))
filled_piece file place a k n xs ys p q h g =
    rw (filled_more a k n xs ys p q) (more_at file place a (take a xs) (take n ys) (length-take-le a xs p) h g)

-- octets that were filled in were read
pub read_filled : (file : Content) (place size : ℕ) (xs : List ℕ) → length xs ≡ size → IsFilled file place size xs → HasRead file place xs
read_filled untold place size xs l f = tt
read_filled absent place size xs l f = absurd f
read_filled (holds all) place size xs l f = ap (λ n. take n (drop place all)) l ∙ sym f

-- where a file ends behind what was read of it, it was filled in
pub filled_end : (file : Content) (place size have : ℕ) (xs : List ℕ) → length xs ≡ have → have ≤ size → HasRead file place xs → IsAtEnd file (place + have) → IsFilled file place size xs
filled_end untold place size have xs l less h end = tt
filled_end absent place size have xs l less h end = absurd end
filled_end (holds all) place size have xs l less h end =
    let rest : length (drop place all) ≤ length xs = omega (arith, length-drop place all, end, l) in
    sym h ∙ take_all (length xs) (drop place all) rest ∙ sym (take_all size (drop place all) (omega (arith, rest, less, l)))

pub none_read : (file : Content) (place : ℕ) → HasRead file place []
none_read untold place = tt
none_read absent place = refl
none_read (holds all) place = refl
