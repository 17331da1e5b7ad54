-- What is put together of fewer segments.
use Rattle.std.proofs.Common.{◌≡◌, ℕ, zero, suc, List, [], ◌∷◌, ◌++◌, Some}
use Rattle.std.specs.Prelude.{slice_get}
use Rattle.cf_session.specs.Laws.{FewerPartsAreEnough, HasLetter, Part}
use Rattle.cf_stream.specs.Stream.{Letter}

get_first : (xs ys : List Part) (i : ℕ) (x : Part) → slice_get xs i ≡ Some x → slice_get (xs ++ ys) i ≡ Some x
get_first [] ys i x e = cc
get_first (y ∷ xs) ys zero x e = e
get_first (y ∷ xs) ys (suc i) x e = get_first xs ys i x e

has_more : (parts more : List Part) (place : ℕ) (letter : Letter) → HasLetter parts place letter → HasLetter (parts ++ more) place letter
has_more parts more place letter h = record { index = h.index; part = h.part; is = get_first parts more h.index h.part h.is; has = h.has }

pub fewer_parts : FewerPartsAreEnough
fewer_parts parts more taken h = record { each = λ place letter e. has_more parts more place letter (h.each place letter e); end = h.end }
