-- Lists that are the same on both sides of a seam.
use Rattle.std.proofs.Common.{List, [], arith, length, refl, ◌++◌, ◌∷◌, ◌≡◌, ◌≤◌}

-- what stands before a seam, where it has as many elements or fewer
pub split_front : {A : Type 0} (xs ys zs ws : List A) → length xs ≤ length zs → xs ++ ys ≡ zs ++ ws → (more : List A) × (zs ≡ xs ++ more) × (ys ≡ more ++ ws)
split_front [] ys zs ws h e = (zs, refl, e)
split_front (x ∷ xs) ys [] ws h e = absurd (omega (arith, h))
split_front (x ∷ xs) ys (z ∷ zs) ws h e =
    let heads : x ≡ z = cc in
    let tails : xs ++ ys ≡ zs ++ ws = cc in
    let r = split_front xs ys zs ws (omega (arith, h)) tails in
    (r.0, cc (heads, r.1), r.2)
