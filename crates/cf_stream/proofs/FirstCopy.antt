-- First copies as offers are added.
use Rattle.std.proofs.Common.{◌≡◌, ℕ, ◌≤◌, max, List, [], ◌∷◌, ◌++◌, Some, None, refl, arith}
use Rattle.cf_stream.specs.Stream.{Letter}
use Rattle.cf_stream.specs.FirstCopy.{Offer, first_copy, offered}

pub first_copy-append : (newer earlier : List Offer) (p : ℕ) (l : Letter) → first_copy earlier p ≡ Some l → first_copy (newer ++ earlier) p ≡ Some l
first_copy-append [] earlier p l h = h
first_copy-append (o ∷ newer) earlier p l h = rw (first_copy-append newer earlier p l h)

-- the greatest edge
abbrev pub highest : List Offer → ℕ
highest [] = 0
highest (o ∷ earlier) = max (highest earlier) o.edge

pub offered_past : (o : Offer) (p : ℕ) → o.edge ≤ p → offered o p ≡ None
offered_past o p h = grind arith

pub first_copy_past : (offers : List Offer) (p : ℕ) → highest offers ≤ p → first_copy offers p ≡ None
first_copy_past [] p h = refl
first_copy_past (o ∷ earlier) p h = rw (first_copy_past earlier p (omega arith), offered_past o p (omega arith))
