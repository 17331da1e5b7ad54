-- The pairs of one code stand together in pairs that ascend.
use Rattle.std.proofs.Common.{◌≡◌, ℕ, ◌+◌, ◌-◌, ◌<◌, ◌≤◌, true, false, List, length, take, drop, get_or, refl, sym, ap, subst, ◌∙◌, arith, ltb, leb, ltb-true, ltb-false, leb-true, leb-false}
use Rattle.std.specs.Prelude.{◌≢◌, AllPairs, Contains, Some, slice_get}
use Rattle.std.proofs.lemmas.Option.{slice_get-get_or}
use Rattle.std.specs.List.{Any}
use Rattle.std.specs.List.Sorted.{IsPartitionPoint, IsNonDecreasingBy}
use Rattle.std.proofs.lemmas.Bool.{cases_lt}
use Rattle.std.proofs.lemmas.List.{get_or-take, get_or-drop, length-drop, length-take-le}
use mathlib.Core.Logic.{⊎_elim}
use Rattle.cf_policy.specs.declared.index.CodePair.{CodePair}
use Rattle.cf_policy.specs.Index.{IsFrontOf, IsPairBefore, IsPartOfCode}
use Rattle.std.proofs.lemmas.Grind.{common_steps}

pub codes_rise : (pairs : List CodePair) → AllPairs IsPairBefore pairs → IsNonDecreasingBy (λ p. p.code) pairs
codes_rise pairs up i j d le inside = grind (arith, common_steps, cases_lt i j)

module _ (pairs : List CodePair) (code first count : ℕ) (up : AllPairs IsPairBefore pairs) (fits : first + count ≤ length pairs)
    (low : (k : ℕ) (d : CodePair) → k < first → (get_or pairs k d).code < code)
    (here : (k : ℕ) (d : CodePair) → first ≤ k → k < first + count → (get_or pairs k d).code ≡ code)
    (high : (k : ℕ) (d : CodePair) → first + count ≤ k → k < length pairs → code < (get_or pairs k d).code) where
  abbrev part : List CodePair
  part = take count (drop first pairs)

  size : length part ≡ count
  size = let room : count ≤ length (drop first pairs) = omega (arith, length-drop first pairs, fits) in length-take-le count (drop first pairs) room

  at : (k : ℕ) (d : CodePair) → k < count → get_or part k d ≡ get_or pairs (first + k) d
  at k d lt = get_or-take count (drop first pairs) k d lt ∙ get_or-drop first pairs k d

  rises : AllPairs (λ p q. p.rule < q.rule) part
  rises i j d lt inside =
      let above : j < count = omega (arith, inside, size) in
      let p = here (first + i) d (omega arith) (omega (arith, lt, above)) in
      let q = here (first + j) d (omega arith) (omega (arith, above)) in
      rw (at i d (omega (arith, lt, above)), at j d above) (⊎_elim (λ less. absurd (omega (arith, less, p, q))) (λ e. e.1) (up (first + i) (first + j) d (omega (arith, lt)) (omega (arith, above, fits))))

  found : (n : ℕ) → Any (λ p. p.rule ≡ n) part → Contains pairs (record { code = code; rule = n })
  found n a = grind (arith, common_steps, size)

  placed : (n : ℕ) → Contains pairs (record { code = code; rule = n }) → Any (λ p. p.rule ≡ n) part
  placed n c =
      let pair : CodePair = record { code = code; rule = n } in
      ⊎_elim
      (λ before. absurd (let less = low c.0 pair before in let e : (get_or pairs c.0 pair).code ≡ code = ap (λ p. p.code) c.2 in omega (arith, less, e)))
      (λ from. ⊎_elim
      (λ inside. let k : ℕ = c.0 - first in let lt : k < count = omega (arith, from, inside) in
      let e : first + k ≡ c.0 = omega (arith, from) in
      (k, pair, omega (arith, lt, size), at k pair lt ∙ ap (λ m. get_or pairs m pair) e ∙ c.2, refl))
      (λ beyond. absurd (let more = high c.0 pair beyond c.1 in let e : (get_or pairs c.0 pair).code ≡ code = ap (λ p. p.code) c.2 in omega (arith, more, e)))
      (cases_lt c.0 (first + count)))
      (cases_lt c.0 first)

  pub part_is : IsPartOfCode code pairs part
  part_is = record { ascending = rises; exact = λ n. (found n, placed n) }

-- what halving finds: the pairs below the code, then those at most the code
pub halved : (pairs : List CodePair) (code first count : ℕ) → AllPairs IsPairBefore pairs → first ≤ length pairs → count ≤ length (drop first pairs)
    → IsPartitionPoint (λ p. ltb p.code code ≡ true) (λ p. ltb p.code code ≡ false) pairs first
    → IsPartitionPoint (λ p. leb p.code code ≡ true) (λ p. leb p.code code ≡ false) (drop first pairs) count
    → IsPartOfCode code pairs (take count (drop first pairs))
halved pairs code first count up inside room low high =
    let fits : first + count ≤ length pairs = omega (arith, length-drop first pairs, room, inside) in
    let moved : (k : ℕ) (d : CodePair) → first ≤ k → get_or (drop first pairs) (k - first) d ≡ get_or pairs k d =
    λ k d from. get_or-drop first pairs (k - first) d ∙ ap (λ n. get_or pairs n d) (let e : first + (k - first) ≡ k = omega (arith, from) in e) in
    part_is pairs code first count up fits
    (λ k d lt. ltb-true (get_or pairs k d).code code (low.0 k d (omega arith) lt))
    (λ k d from lt.
    let above : code ≤ (get_or pairs k d).code = ltb-false (get_or pairs k d).code code (low.1 k d from (omega (arith, lt, fits))) in
    let below : (get_or pairs k d).code ≤ code = leb-true (get_or pairs k d).code code (subst (λ p. leb p.code code ≡ true) (moved k d from) (high.0 (k - first) d (omega arith) (omega (arith, from, lt)))) in
    omega (arith, above, below))
    (λ k d from lt. leb-false (get_or pairs k d).code code (subst (λ p. leb p.code code ≡ false) (moved k d (omega (arith, from))) (high.1 (k - first) d (omega (arith, from)) (omega (arith, lt, length-drop first pairs, from)))))

-- what halving once and the front of the rest find
pub front_is_part : (pairs : List CodePair) (code first count : ℕ) → AllPairs IsPairBefore pairs → first ≤ length pairs
    → IsPartitionPoint (λ p. ltb p.code code ≡ true) (λ p. ltb p.code code ≡ false) pairs first
    → IsFrontOf code (drop first pairs) count → IsPartOfCode code pairs (take count (drop first pairs))
front_is_part pairs code first count up inside low front =
    let fits : first + count ≤ length pairs = omega (arith, length-drop first pairs, front.inside, inside) in
    let moved : (k : ℕ) (d : CodePair) → first ≤ k → get_or (drop first pairs) (k - first) d ≡ get_or pairs k d =
    λ k d from. get_or-drop first pairs (k - first) d ∙ ap (λ n. get_or pairs n d) (let e : first + (k - first) ≡ k = omega (arith, from) in e) in
    let at : (k : ℕ) (d : CodePair) → first ≤ k → k < length pairs → slice_get (drop first pairs) (k - first) ≡ Some (get_or pairs k d) =
    λ k d from lt. slice_get-get_or (drop first pairs) (k - first) d (omega (arith, length-drop first pairs, from, lt)) ∙ ap Some (moved k d from) in
    let above : (k : ℕ) (d : CodePair) → first ≤ k → k < length pairs → code ≤ (get_or pairs k d).code =
    λ k d from lt. ltb-false (get_or pairs k d).code code (low.1 k d from lt) in
    part_is pairs code first count up fits
    (λ k d lt. ltb-true (get_or pairs k d).code code (low.0 k d (omega arith) lt))
    (λ k d from lt. front.same (k - first) (get_or pairs k d) (omega (arith, from, lt)) (at k d from (omega (arith, lt, fits))))
    (λ k d from lt.
    let end : ℕ = first + count in
    let within : end < length pairs = omega (arith, from, lt) in
    let back : end - first ≡ count = omega arith in
    let other : (get_or pairs end d).code ≢ code = front.ends (get_or pairs end d) (ap (slice_get (drop first pairs)) (sym back) ∙ at end d (omega arith) within) in
    let least = above end d (omega arith) within in
    let rise : (get_or pairs end d).code ≤ (get_or pairs k d).code = codes_rise pairs up end k d from lt in
    ⊎_elim (λ less. omega (arith, less, rise)) (λ level. absurd (other (omega (arith, level, least)))) (cases_lt code (get_or pairs end d).code))
