-- Octets one by one: six_cells.
use Rattle.std.proofs.Common.{◌≡◌, ℕ, ◌≤◌, List, ◌∷◌, length, get_or, drop, arith}
use Rattle.cf_view.proofs.OctetLists.{octet_split}

-- six octets and what is after them
pub six_cells : (xs : List ℕ) → 6 ≤ length xs →
    xs ≡ get_or xs 0 0 ∷ get_or xs 1 0 ∷ get_or xs 2 0 ∷ get_or xs 3 0 ∷ get_or xs 4 0 ∷ get_or xs 5 0 ∷ drop 6 xs
six_cells xs h = grind (arith, octet_split xs 0, octet_split xs 1, octet_split xs 2, octet_split xs 3, octet_split xs 4, octet_split xs 5)
