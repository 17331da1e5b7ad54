-- How what is owed for an unfinished fragment changes by a segment.
use Rattle.cf_dnptrans.proofs.History.{begun_next, unfinished_next}
use Rattle.cf_dnptrans.specs.AssemblyValue.{AssemblyValue, IsAssemblyOf, continuing, leaves, makes, open_of}
use Rattle.cf_dnptrans.specs.Transport.{added, answer_of, answer_to, continued, fitting, is_final, is_first, last_fragment, last_sequence, sequence, unfinished}
use Rattle.cf_dnptrans.specs.declared.assembly.SegmentAnswer.{SegmentAnswer}
use Rattle.cf_lane.specs.Kept.{owed_octets}
use Rattle.std.proofs.Common.{Bool, List, None, Option, Some, [], ap, arith, drop, false, inl, inr, length, refl, sym, true, ℕ, ◌*◌, ◌++◌, ◌+◌, ◌%◌, ◌-◌, ◌/◌, ◌<◌, ◌==◌, ◌∙◌, ◌∷◌, ◌≡◌, ◌≤◌}
use Rattle.std.proofs.lemmas.Bool.{cases_Bool, cond_both}
use Rattle.std.proofs.lemmas.List.{length-append, length-drop}
use Rattle.std.specs.Prelude.{if◌then◌else◌, nat_le}
use Rattle.cf_dnptrans.specs.declared.assembly.SegmentAnswer.TheVariants as answers

-- the octets that are open
abbrev pub size : Option (List ℕ) → ℕ
size None = 0
size (Some xs) = length xs

owed_by_cases : (b : Bool) (xs : List ℕ) → (if b then 5 * length xs / 4 else 0) ≡ 5 * size (if b then Some xs else None) / 4
owed_by_cases true xs = refl
owed_by_cases false xs = omega arith

pub owed_is : (v : AssemblyValue) → owed_octets v ≡ 5 * size (open_of v) / 4
owed_is v = owed_by_cases v.begun v.octets

size_if : (b : Bool) (x y : Option (List ℕ)) (n : ℕ) → size x ≤ n → size y ≤ n → size (if b then x else y) ≤ n
size_if b x y n h k = cond_both b x y (λ o. size o ≤ n) (λ _. h) (λ _. k)

fitting_size : (xs : List ℕ) → size (fitting xs) ≤ length xs
fitting_size xs = size_if (nat_le (length xs) 2048) (Some xs) None (length xs) (omega arith) (omega arith)

continuing_size : (o : Option (List ℕ)) (last : ℕ) (s : List ℕ) → size (continuing o last s) ≤ size o + (length s - 1)
continuing_size None last s = omega arith
continuing_size (Some xs) last s =
    size_if (sequence s == (last + 1) % 64) (fitting (xs ++ drop 1 s)) None (length xs + (length s - 1))
    (omega (arith, fitting_size (xs ++ drop 1 s), length-append xs (drop 1 s), length-drop 1 s)) (omega arith)

pub makes_size : (o : Option (List ℕ)) (last : ℕ) (s : List ℕ) → size (makes o last s) ≤ size o + (length s - 1)
makes_size o last s =
    size_if (is_first s) (fitting (drop 1 s)) (continuing o last s) (size o + (length s - 1))
    (omega (arith, fitting_size (drop 1 s), length-drop 1 s)) (continuing_size o last s)

pub leaves_size : (o : Option (List ℕ)) (last : ℕ) (s : List ℕ) → size (leaves o last s) ≤ size o + (length s - 1)
leaves_size o last [] = omega arith
leaves_size o last (x ∷ xs) = size_if (is_final (x ∷ xs)) None (makes o last (x ∷ xs)) (size o + (length (x ∷ xs) - 1)) (omega arith) (makes_size o last (x ∷ xs))

module _ (v w : AssemblyValue) (es : List (List ℕ)) (u : List ℕ) (a : IsAssemblyOf v es) (b : IsAssemblyOf w (u ∷ es)) where
  open_size : size (open_of w) ≤ size (open_of v) + (length u - 1)
  open_size = omega (arith, leaves_size (unfinished es) (last_sequence es) u, ap size (b.opened ∙ unfinished_next u es), ap size a.opened)

  -- a segment owes no more than its frame pays
  pub owed_step : (n : ℕ) → length u ≤ n → owed_octets w ≤ owed_octets v + 2 * n
  owed_step n h = omega (arith, h, open_size, owed_is v, owed_is w)

final_added : (xs s : List ℕ) → added xs s ≡ answers.Whole → is_final s ≡ true
final_added xs s e = elim (cases_Bool (nat_le (length xs) 2048)) [
  | inl v ↦ elim (cases_Bool (is_final s)) [ inl f ↦ f | inr f ↦ (let x = rw (v, f) at e in cc) ]
  | inr v ↦ (let x = rw v at e in cc)
]

final_continued : (o : Option (List ℕ)) (last : ℕ) (s : List ℕ) → continued o last s ≡ answers.Whole → is_final s ≡ true
final_continued None last s e = cc
final_continued (Some xs) last s e = elim (cases_Bool (sequence s == (last + 1) % 64)) [
  | inl v ↦ final_added (xs ++ drop 1 s) s (rw v at e)
  | inr v ↦ (let x = rw v at e in cc)
]

pub final_answer : (o : Option (List ℕ)) (last : ℕ) (s : List ℕ) → answer_of o last s ≡ answers.Whole → (is_final s ≡ true) × (0 < length s)
final_answer o last [] e = cc
final_answer o last (x ∷ xs) e = elim (cases_Bool (is_first (x ∷ xs))) [
  | inl v ↦ (final_added xs (x ∷ xs) (rw v at e), omega arith)
  | inr v ↦ (final_continued o last (x ∷ xs) (rw v at e), omega arith)
]

pub final_leaves : (o : Option (List ℕ)) (last : ℕ) (s : List ℕ) → is_final s ≡ true → 0 < length s → leaves o last s ≡ None
final_leaves o last [] f h = absurd (omega (arith, h))
final_leaves o last (x ∷ xs) f h = rw f refl

pub whole_size : (es : List (List ℕ)) (u xs : List ℕ) → 0 < length u → last_fragment (u ∷ es) ≡ Some xs → length xs ≤ size (unfinished es) + (length u - 1)
whole_size es [] xs h e = absurd (omega (arith, h))
whole_size es (x ∷ rest) xs h e = omega (arith, makes_size (unfinished es) (last_sequence es) (x ∷ rest), ap size (sym (begun_next x rest es) ∙ e))

module _ (v w : AssemblyValue) (es : List (List ℕ)) (u : List ℕ) (answer : SegmentAnswer) (a : IsAssemblyOf v es) (b : IsAssemblyOf w (u ∷ es))
    (is : answer ≡ answer_to es u) (whole : answer ≡ answers.Whole) (completed : w.whole ≡ true) where
  pub final : (is_final u ≡ true) × (0 < length u)
  final = final_answer (unfinished es) (last_sequence es) u (sym is ∙ whole)

  -- a fragment that is whole is no longer owed, and was paid
  pub owed_none : owed_octets w ≡ 0
  owed_none = omega (arith, owed_is w, ap size (b.opened ∙ unfinished_next u es ∙ final_leaves (unfinished es) (last_sequence es) u final.0 final.1))

  pub whole_paid : (n : ℕ) → length u + 12 ≤ n → length w.octets + 2 + (length w.octets + 2) / 4 + 16 ≤ owed_octets v + 2 * n
  whole_paid n h = omega (arith, h, whole_size es u w.octets final.1 (b.whole_is completed), owed_is v, ap size a.opened, final.1)
