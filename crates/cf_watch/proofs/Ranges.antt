-- The portions of a range of places.
use Rattle.std.proofs.Common.{◌≡◌, ◌≢◌, ◌-◌, ◌≤◌, ◌++◌, ◌∷◌, [], ℕ, false, List, Option, Some, None, option_map, is_some, refl, ap, arith}
use Rattle.std.proofs.lemmas.Bool.Decides.{nat_tests}
use Rattle.std.proofs.lemmas.Map.Keys.{ge_from_not_lt, le_from_not_gt}
use Rattle.std.specs.BTreeMap.{BTreeMap, get, is_at}
use Rattle.std.specs.BTreeMap.Range.{IsLeBy, IsRangeOf}
use Rattle.std.specs.Ordering.{nat_cmp}
use Rattle.std.specs.declared.ops.Bound.TheVariants.{Included, Unbounded}
use Rattle.cf_stream.specs.Stream.{Letter, letter_at}
use Rattle.cf_watch.specs.Kept.{kept, letter_of_portion, row_value}
use Rattle.cf_watch.specs.Stretches.{FirstLetter}
use Rattle.cf_watch.specs.declared.ahead.Portion.{Portion}
use Rattle.cf_watch.proofs.Portions.{kept_last, kept_none}

le_by : (a b : ℕ) → a ≤ b → IsLeBy nat_cmp a b
le_by a b h = grind (arith, nat_tests, h)

-- what is no entry is none
none_or : (o : Option Portion) → ((p : Portion) → o ≡ Some p → ⊥) → o ≡ None
none_or None h = refl
none_or (Some p) h = absurd (h p refl)

-- the last portion of those up to a place
pub kept_by_range : (m : BTreeMap ℕ Portion) (q : ℕ) (r t : List (ℕ × Portion)) (s : ℕ) (p : Portion) → IsRangeOf nat_cmp Unbounded (Included q) m r → r ≡ t ++ (s, p) ∷ [] →
    kept m q ≡ letter_of_portion p (q - s)
kept_by_range m q r t s p h e =
    let entry = h.3 (s, p) t e in
    kept_last m q s p (record {
      here = entry.1;
      before = le_from_not_gt s q entry.0.1;
      none_between = λ k v w. none_or (get nat_cmp m k) (λ p' i.
          let to : k ≤ s = ge_from_not_lt s k (h.4 (s, p) t e k (tt, le_by k q w) (ap is_some i)) in
          omega (arith, v, to));
    })

pub none_by_range : (m : BTreeMap ℕ Portion) (q : ℕ) (r : List (ℕ × Portion)) → IsRangeOf nat_cmp Unbounded (Included q) m r → r ≡ [] → kept m q ≡ None
none_by_range m q r h e = kept_none m q (λ k l. h.5 e k (tt, le_by k q l))

pub letter_alone : (p : Portion) (k : ℕ) → letter_at (row_value p.letters) k ≡ option_map (λ (l : FirstLetter). l.letter) (letter_of_portion p k)
letter_alone p k = alone (letter_at (row_value p.letters) k)
  where
    alone : (o : Option Letter) → o ≡ option_map (λ (l : FirstLetter). l.letter) (option_map (λ (l : Letter). let r : FirstLetter = record { letter = l; number = p.number } in r) o)
    alone None = refl
    alone (Some l) = refl

pub other_key : (place q : ℕ) → q ≢ place → is_at (nat_cmp place) q ≡ false
other_key place q d = grind (arith, nat_tests, d)
