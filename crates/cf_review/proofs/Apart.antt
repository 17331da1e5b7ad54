-- The records of the other stretches of flows: each is one with which a letter came that is none of the flow's own.
use Rattle.std.proofs.Common.{◌≡◌, ◌+◌, ◌++◌, ◌∷◌, [], ◌^◌, ℕ, ℤ, pos, zero, suc, Bool, true, false, List, Option, Some, None, All, if◌then◌else◌, length, map, max, slice_get, unwrap_or, refl, ap, subst, arith, inl, inr}
use Rattle.std.specs.List.{AllByRecursion}
use Rattle.std.proofs.lemmas.Bool.{cases_lt}
use Rattle.std.proofs.lemmas.List.Elements.{All-append, All-cons, All-from_recursion, All-nil}
use Rattle.cf_stream.specs.Stream.{Byte, End, Letter}
use Rattle.cf_watch.specs.Carried.{top_of}
use Rattle.cf_watch.specs.FlowValue.{FlowValue, StretchValue}
use Rattle.cf_watch.specs.Stretches.{FirstLetter, Run, all_stretches, apart, first_letter, is_own, longer, run_at, runs_of, stretches_from, stretches_of, with_byte, with_letter, with_place}
use Rattle.cf_watch.specs.Trail.{Heard}
use Rattle.cf_watch.specs.Watched.{Watched}
use Rattle.cf_review.specs.Follow.{AreToldOf, IsToldOf}
use Rattle.cf_review.specs.Reviewer.{ApartAre}

module _ (known : ℕ → Bool) where
  abbrev IsKnown : ℕ → Type 0
  IsKnown n = known n ≡ true

  -- the records of a run, of which the newest is one where it has a byte
  record IsTold (r : Run) : Type 0 where
    born : All IsKnown r.born
    first : IsKnown r.first
    newest : IsKnown r.newest

  -- the greater of two numbers is one of them
  of_greater : (a b : ℕ) → IsKnown a → IsKnown b → IsKnown (max a b)
  of_greater a b x y =
      elim (cases_lt a b) [
        | inl below ↦ subst IsKnown (omega (arith, below)) y
        | inr above ↦ subst IsKnown (omega (arith, above)) x
      ]

  told_longer : (r : Run) (byte number : ℕ) → IsTold r → IsKnown number → IsTold (longer r byte number)
  told_longer r byte number told k = record {
    born = All-append IsKnown r.born (max r.newest number ∷ []) told.born (All-cons IsKnown (max r.newest number) [] (of_greater r.newest number told.newest k) (All-nil IsKnown));
    first = told.first;
    newest = of_greater r.newest number told.newest k;
  }

  told_one : (place byte number : ℕ) → IsKnown number → IsTold (longer (run_at place number) byte number)
  told_one place byte number k =
      let one : IsKnown (max 0 number) = subst IsKnown (omega arith) k in
      record { born = All-cons IsKnown (max 0 number) [] one (All-nil IsKnown); first = k; newest = one }

  told_if : (b : Bool) (xs ys : List Run) → AllByRecursion IsTold xs → AllByRecursion IsTold ys → AllByRecursion IsTold (if b then xs else ys)
  told_if true xs ys h i = h
  told_if false xs ys h i = i

  told_byte : (place byte number : ℕ) (runs : List Run) → IsKnown number → AllByRecursion IsTold runs → AllByRecursion IsTold (with_byte place byte number runs)
  told_byte place byte number [] k h = (told_one place byte number k, tt)
  told_byte place byte number (r ∷ runs) k h =
      told_if _ (longer r byte number ∷ runs) (longer (run_at place number) byte number ∷ r ∷ runs) (told_longer r byte number h.0 k, h.1) (told_one place byte number k, h)

  told_letter : (place : ℕ) (l : Letter) (number : ℕ) (runs : List Run) → IsKnown number → AllByRecursion IsTold runs → AllByRecursion IsTold (with_letter place l number runs)
  told_letter place (Byte byte) number runs k h = told_byte place byte number runs k h
  told_letter place End number runs k h = h

  told_place : (place : ℕ) (o : Option FirstLetter) (runs : List Run) → ((l : FirstLetter) → o ≡ Some l → IsKnown l.number) → AllByRecursion IsTold runs →
      AllByRecursion IsTold (with_place place o runs)
  told_place place None runs k h = h
  told_place place (Some came) runs k h = told_letter place came.letter came.number runs (k came refl) h

  told_runs : (f : ℕ → Option FirstLetter) (count : ℕ) → ((q : ℕ) (l : FirstLetter) → f q ≡ Some l → IsKnown l.number) → AllByRecursion IsTold (runs_of f count)
  told_runs f zero k = tt
  told_runs f (suc place) k = told_place place (f place) (runs_of f place) (k place) (told_runs f place k)

  -- a letter that stands apart is one at a place that is none of the flow's own
  apart_by : (own : Bool) (o : Option FirstLetter) (l : FirstLetter) → (own ≡ false → o ≡ Some l → IsKnown l.number) → (if own then None else o) ≡ Some l → IsKnown l.number
  apart_by true o l k e = cc
  apart_by false o l k e = k refl e

  told_from : (f : FlowValue) (gap : ℤ) (runs : List Run) → AllByRecursion IsTold runs → AllByRecursion (IsToldOf known) (stretches_from f gap runs)
  told_from f gap [] told = tt
  told_from f gap (r ∷ runs) told = (record { bytes = told.0.born; first = λ number e. subst IsKnown (ap (λ o. unwrap_or o r.first) e) told.0.first }, told_from f gap runs told.1)

  told_stretches : (w : Watched) (h : Heard) → ApartAre known w h → AllByRecursion (IsToldOf known) (stretches_of w h.value)
  told_stretches w h apart_are =
      let letter = apart (length h.value.bytes) (first_letter w.carried) in
      let places = 2 ^ 31 + top_of w.carried in
      told_from h.value (pos (length h.value.bytes)) (runs_of letter places)
      (told_runs letter places (λ q l e. apart_by (is_own (length h.value.bytes) q) (first_letter w.carried q) l (apart_are q l) e))

  told_both : (xs ys : List StretchValue) → AllByRecursion (IsToldOf known) xs → AllByRecursion (IsToldOf known) ys → AllByRecursion (IsToldOf known) (xs ++ ys)
  told_both [] ys h i = i
  told_both (x ∷ xs) ys h i = (h.0, told_both xs ys h.1 i)

  told_all : (ws : List Watched) (hs : List Heard) → ((i : ℕ) (w : Watched) (h : Heard) → slice_get ws i ≡ Some w → slice_get hs i ≡ Some h → ApartAre known w h) →
      AllByRecursion (IsToldOf known) (all_stretches ws (map (λ h. h.value) hs))
  told_all [] hs each = tt
  told_all (w ∷ ws) [] each = tt
  told_all (w ∷ ws) (h ∷ hs) each =
      told_both (stretches_of w h.value) (all_stretches ws (map (λ (x : Heard). x.value) hs)) (told_stretches w h (each 0 w h refl refl))
      (told_all ws hs (λ i v x a b. each (suc i) v x a b))

  -- those of all stretches
  pub stretches_told : (ws : List Watched) (hs : List Heard) → ((i : ℕ) (w : Watched) (h : Heard) → slice_get ws i ≡ Some w → slice_get hs i ≡ Some h → ApartAre known w h) →
      AreToldOf known (all_stretches ws (map (λ h. h.value) hs))
  stretches_told ws hs each = All-from_recursion (IsToldOf known) (all_stretches ws (map (λ (h : Heard). h.value) hs)) (told_all ws hs each)
