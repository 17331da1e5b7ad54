-- The other stretches of flows are to assets of the policy, and have a record for each byte.
use Rattle.std.proofs.Common.{◌≡◌, ◌+◌, ◌∙◌, ◌++◌, ◌∷◌, [], ℕ, ℤ, pos, ◌^◌, zero, suc, Bool, true, false, List, Option, Some, None, if◌then◌else◌, length, map, max, refl, sym, ap, length-append}
use Rattle.std.specs.List.{AllByRecursion}
use Rattle.std.proofs.lemmas.List.Elements.{All-from_recursion}
use Rattle.cf_policy.specs.declared.Asset.{Asset}
use Rattle.cf_stream.specs.Stream.{Byte, End, Letter}
use Rattle.cf_watch.specs.Carried.{top_of}
use Rattle.cf_watch.specs.FlowValue.{AreStretchesFor, FlowValue, IsForAsset, StretchValue}
use Rattle.cf_watch.specs.Stretches.{FirstLetter, Run, all_stretches, apart, first_letter, longer, run_at, runs_of, stretches_from, stretches_of, with_byte, with_letter, with_place}
use Rattle.cf_watch.specs.Watched.{Watched}

-- each byte of a run came with a record
abbrev IsEven : Run → Type 0
IsEven r = length r.born ≡ length r.bytes

even_longer : (r : Run) (byte number : ℕ) → IsEven r → IsEven (longer r byte number)
even_longer r byte number h = length-append r.born (max r.newest number ∷ []) ∙ ap (λ n. n + 1) h ∙ sym (length-append r.bytes (byte ∷ []))

even_if : (b : Bool) (xs ys : List Run) → AllByRecursion IsEven xs → AllByRecursion IsEven ys → AllByRecursion IsEven (if b then xs else ys)
even_if true xs ys h i = h
even_if false xs ys h i = i

even_byte : (place byte number : ℕ) (runs : List Run) → AllByRecursion IsEven runs → AllByRecursion IsEven (with_byte place byte number runs)
even_byte place byte number [] h = (refl, tt)
even_byte place byte number (r ∷ runs) h =
    even_if _ (longer r byte number ∷ runs) (longer (run_at place number) byte number ∷ r ∷ runs) (even_longer r byte number h.0, h.1) (refl, h)

even_letter : (place : ℕ) (l : Letter) (number : ℕ) (runs : List Run) → AllByRecursion IsEven runs → AllByRecursion IsEven (with_letter place l number runs)
even_letter place (Byte byte) number runs h = even_byte place byte number runs h
even_letter place End number runs h = h

even_place : (place : ℕ) (o : Option FirstLetter) (runs : List Run) → AllByRecursion IsEven runs → AllByRecursion IsEven (with_place place o runs)
even_place place None runs h = h
even_place place (Some came) runs h = even_letter place came.letter came.number runs h

even_runs : (f : ℕ → Option FirstLetter) (count : ℕ) → AllByRecursion IsEven (runs_of f count)
even_runs f zero = tt
even_runs f (suc place) = even_place place (f place) (runs_of f place) (even_runs f place)

module _ (assets : List Asset) where
  abbrev IsFor : StretchValue → Type 0
  IsFor s = IsForAsset assets s.flow

  for_from : (f : FlowValue) (gap : ℤ) (runs : List Run) → IsForAsset assets f → AllByRecursion IsEven runs → AllByRecursion IsFor (stretches_from f gap runs)
  for_from f gap [] h even = tt
  for_from f gap (r ∷ runs) h even = (record { asset = h.asset; first = h.first; born = even.0 }, for_from f gap runs h even.1)

  for_append : (xs ys : List StretchValue) → AllByRecursion IsFor xs → AllByRecursion IsFor ys → AllByRecursion IsFor (xs ++ ys)
  for_append [] ys h i = i
  for_append (x ∷ xs) ys h i = (h.0, for_append xs ys h.1 i)

  stretches_for : (w : Watched) (f : FlowValue) → IsForAsset assets f → AllByRecursion IsFor (stretches_of w f)
  stretches_for w f h =
      let runs = runs_of (apart (length f.bytes) (first_letter w.carried)) (2 ^ 31 + top_of w.carried) in
      for_from f (pos (length f.bytes)) runs h (even_runs (apart (length f.bytes) (first_letter w.carried)) (2 ^ 31 + top_of w.carried))

  for_all : (ws : List Watched) (flows : List FlowValue) → AllByRecursion (IsForAsset assets) flows → AllByRecursion IsFor (all_stretches ws flows)
  for_all [] flows h = tt
  for_all (w ∷ ws) [] h = tt
  for_all (w ∷ ws) (f ∷ flows) h =
      for_append (stretches_of w f) (all_stretches ws flows) (stretches_for w f h.0) (for_all ws flows h.1)

  flows_for : (ss : List StretchValue) → AllByRecursion IsFor ss → AllByRecursion (IsForAsset assets) (map (λ s. s.flow) ss)
  flows_for [] h = tt
  flows_for (s ∷ ss) h = (h.0, flows_for ss h.1)

  pub stretches_are_for : (ws : List Watched) (flows : List FlowValue) → AllByRecursion (IsForAsset assets) flows → AreStretchesFor assets (all_stretches ws flows)
  stretches_are_for ws flows h =
      All-from_recursion (IsForAsset assets) (map (λ s. s.flow) (all_stretches ws flows)) (flows_for (all_stretches ws flows) (for_all ws flows h))
