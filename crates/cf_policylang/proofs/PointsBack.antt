-- The points of a rule that were written, by their set's name too, are read as they were.
use Rattle.std.proofs.Common.{◌≡◌, ◌∙◌, ℕ, zero, suc, ◌+◌, ◌<◌, ◌≤◌, nat_lt, nat_eq, ℤ, pos, negsuc, int_eq, true, false, not, if◌then◌else◌, List, [], ◌∷◌, ◌++◌, length, get_or, Some, None, Ok, ap, subst, sym, refl, arith, append_assoc, append-nil, length-append, w64, FitsSigned, bytes_eq, codes}
use Rattle.std.specs.Fmt.{decimal, signed_decimal}
use Rattle.std.specs.List.{All, starts_with}
use Rattle.std.specs.Str.Parse.{AllDigits}
use Rattle.std.proofs.lemmas.Bool.{and_parts, false_from_ne_true, true≢false}
use Rattle.std.proofs.lemmas.Bool.Decides.{nat_tests, Decides-int_eq}
use Rattle.std.proofs.lemmas.Fmt.{decimal_is_IsNumeral}
use Rattle.std.proofs.lemmas.Int.{ints}
use Rattle.std.proofs.lemmas.List.Elements.{All-head, All-push, All-tail}
use Rattle.std.proofs.lemmas.List.Quantifiers.{position-Some}
use Rattle.std.proofs.lemmas.Slice.Eq.{bytes_eq-Decides}
use Rattle.std.proofs.lemmas.Str.Parse.{digit_from_value}
use Rattle.toml.specs.Data.{string, array, Items, no_items}
use Rattle.cf_policy.specs.declared.policy.Span.{Span}
use Rattle.cf_policy.specs.Verdict.{is_empty}
use Rattle.cf_policy.specs.Within.{highest_point}
use Rattle.cf_policylang.specs.declared.fields.Kind.TheVariants as kind
use Rattle.cf_policylang.specs.declared.refusal.Key.TheVariants as key
use Rattle.cf_policylang.specs.declared.refusal.Place.{Place}
use Rattle.cf_policylang.specs.declared.sets.Edition.{Edition}
use Rattle.cf_policylang.specs.declared.sets.Named.{Named}
use Rattle.cf_policylang.specs.Lists.{listed}
use Rattle.cf_policylang.specs.Migrating.{gets_set, sets_behind, with_set}
use Rattle.cf_policylang.specs.Sets.{marked_name, named_in, point_entry, points_from, points_if_any, points_named, stated_points}
use Rattle.cf_policylang.specs.Spelling.{are_same, is_same_span, number_text, point_items, points_at, set_place, set_text, texts}
use Rattle.cf_policylang.proofs.ListsBack.{and_then_ok, listed_read, some_list}
use Rattle.cf_policylang.proofs.Printed.{fits}
use Rattle.cf_policylang.proofs.SetsBack.{IsPoint, IsSetList, point_read, set_text_is_name, set_text_same, sets_of}

-- ---- an entry that is a number or a range

digits_unmarked : (ds rest : List ℕ) → AllDigits 10 ds → 0 < length ds → starts_with nat_eq (ds ++ rest) (codes "@") ≡ false
digits_unmarked [] rest h some = absurd (omega arith)
digits_unmarked (d ∷ ds) rest h some =
    let digit = digit_from_value d h.0 in
    let apart : nat_eq 64 d ≡ false = grind (arith, nat_tests) in
    rw apart refl

unmarked : (z : ℤ) (rest : List ℕ) → FitsSigned w64 z → starts_with nat_eq (signed_decimal z ++ rest) (codes "@") ≡ false
unmarked (pos n) rest f =
    let numeral = decimal_is_IsNumeral n (omega (arith, f.sfits)) in digits_unmarked (decimal n) rest numeral.0.1 numeral.0.0
unmarked (negsuc n) rest f = refl

number_unmarked : (s : Span) → IsPoint s → starts_with nat_eq (number_text s) (codes "@") ≡ false
number_unmarked s w =
    let f : FitsSigned w64 s.low =
    fits (pos 0) highest_point s.low (record { sfits = omega arith }) (record { sfits = omega arith }) w.above (let o = w.ordered in let b = w.below in omega (arith, ints)) in
    elim (int_eq s.low s.high) as (λ b. starts_with nat_eq (if b then signed_decimal s.low else signed_decimal s.low ++ (codes ".." ++ signed_decimal s.high)) (codes "@") ≡ false) [
      | true ↦ subst (λ text. starts_with nat_eq text (codes "@") ≡ false) (append-nil (signed_decimal s.low)) (unmarked s.low [] f)
      | false ↦ unmarked s.low (codes ".." ++ signed_decimal s.high) f
    ]

-- what a rule's points may name
abbrev pub naming : Edition → List (List Span) → Named
naming e ls = record { edition = e; sets = sets_of 0 ls }

-- sets are named in a version as in version 2
abbrev pub NamesSets : Edition → Type 0
NamesSets e = (text : List ℕ) → named_in e text ≡ marked_name text

module _ (e : Edition) (marks : NamesSets e) (ls : List (List Span)) (few : length ls ≤ 64) (p : Place) where
  entry_read : (s : Span) → IsPoint s → point_entry (naming e ls) p (string (number_text s)) ≡ Ok (s ∷ [])
  entry_read s w = rw (marks (number_text s), number_unmarked s w, point_read s w) refl

  entries_read : (ss seen : List Span) → All IsPoint ss → points_from (naming e ls) p (texts number_text ss) seen ≡ Ok (seen ++ ss)
  entries_read [] seen h = ap Ok (sym (append-nil seen))
  entries_read (s ∷ ss) seen h =
      and_then_ok (point_entry (naming e ls) p (string (number_text s))) (λ own. points_from (naming e ls) p (texts number_text ss) (seen ++ own)) (s ∷ []) (Ok (seen ++ (s ∷ ss)))
      (entry_read s (All-head IsPoint s ss h))
      (entries_read ss (seen ++ s ∷ []) (All-tail IsPoint s ss h) ∙ ap Ok (append_assoc seen (s ∷ []) ss))

  -- what is read of the entries, if there are not too many points
  stated_read : (ds : Items) (points : List Span) → listed kind.Text key.Points p (array ds) ≡ Ok ds → points_from (naming e ls) p ds [] ≡ Ok points
      → length points ≤ 64 → stated_points (naming e ls) p (array ds) ≡ Ok points
  stated_read ds points form read short =
      let not_many : nat_lt 64 (length points) ≡ false = grind (arith, nat_tests) in
      and_then_ok (listed kind.Text key.Points p (array ds)) _ ds (Ok points) form
      (and_then_ok (points_from (naming e ls) p ds []) _ points (Ok points) read (rw not_many refl))

  plain_read : (points : List Span) → length points ≤ 64 → All IsPoint points → points_if_any (naming e ls) p (some_list (texts number_text points)) ≡ Ok points
  plain_read [] short h = refl
  plain_read (s ∷ ss) short h =
      stated_read (texts number_text (s ∷ ss)) (s ∷ ss)
      (listed_read (λ (t : Span). string (number_text t)) kind.Text key.Points p (λ t. refl) (s ∷ ss) (omega arith) short)
      (entries_read (s ∷ ss) [] h) short

  -- ---- an entry that names a set

  found_from : (m : ℕ) (rest : List (List Span)) (i : ℕ) → i < length rest → m + length rest ≤ 64
      → points_named (sets_of m rest) (set_text (m + i)) ≡ Some (get_or rest i [])
  found_from m [] i inside room = absurd (omega arith)
  found_from m (l ∷ rest) zero inside room =
      let here : m + 0 ≡ m = omega arith in
      let same : bytes_eq (set_text m) (set_text (m + 0)) ≡ true = (bytes_eq-Decides (set_text m) (set_text (m + 0))).1 (ap set_text (sym here)) in
      rw same refl
  found_from m (l ∷ rest) (suc i) inside room =
      let further : m + suc i ≡ (m + 1) + i = omega arith in
      let other : bytes_eq (set_text m) (set_text (m + suc i)) ≡ false =
      false_from_ne_true (bytes_eq (set_text m) (set_text (m + suc i)))
      (λ e. let same : m ≡ m + suc i = set_text_same m (m + suc i) (omega arith) (omega arith) ((bytes_eq-Decides (set_text m) (set_text (m + suc i))).0 e) in omega arith) in
      rw other (subst (λ n. points_named (sets_of (m + 1) rest) (set_text n) ≡ Some (get_or rest i [])) (sym further)
      (found_from (m + 1) rest i (omega arith) (omega arith)))

  found : (i : ℕ) → i < length ls → points_named (sets_of 0 ls) (set_text i) ≡ Some (get_or ls i [])
  found i inside =
      let counted : 0 + i ≡ i = omega arith in
      subst (λ n. points_named (sets_of 0 ls) (set_text n) ≡ Some (get_or ls i [])) counted (found_from 0 ls i inside (omega arith))

  named_read : (i : ℕ) (points : List Span) → i < length ls → get_or ls i [] ≡ points → length points ≤ 64
      → points_if_any (naming e ls) p (some_list (points_at points (Some i))) ≡ Ok points
  named_read i points inside is short =
      let own : point_entry (naming e ls) p (string (codes "@" ++ set_text i)) ≡ Ok points =
      rw (marks (codes "@" ++ set_text i), set_text_is_name i (omega arith), found i inside, is) refl in
      stated_read (points_at points (Some i)) points refl
      (and_then_ok (point_entry (naming e ls) p (string (codes "@" ++ set_text i))) (λ own. points_from (naming e ls) p no_items ([] ++ own)) points (Ok points) own refl) short

  -- ---- the points of a rule

  same_span : (s t : Span) → is_same_span s t ≡ true → s ≡ t
  same_span s t e =
      let parts = and_parts _ _ e in
      let low : s.low ≡ t.low = (Decides-int_eq s.low t.low).0 parts.0 in
      let high : s.high ≡ t.high = (Decides-int_eq s.high t.high).0 parts.1 in
      record_same s t low high
    where
      record_same : (s t : Span) → s.low ≡ t.low → s.high ≡ t.high → s ≡ t
      record_same s t low high = ap (λ z. record { low = z; high = s.high }) low ∙ ap (λ z. record { low = t.low; high = z }) high

  same_list : (a b : List Span) → are_same a b ≡ true → a ≡ b
  same_list [] [] e = refl
  same_list [] (t ∷ b) e = absurd (true≢false (sym e))
  same_list (s ∷ a) [] e = absurd (true≢false (sym e))
  same_list (s ∷ a) (t ∷ b) e =
      let parts = and_parts (is_same_span s t) (are_same a b) e in
      ap (λ x. x ∷ a) (same_span s t parts.0) ∙ ap (λ xs. t ∷ xs) (same_list a b parts.1)

  pub points_read : (points : List Span) → length points ≤ 64 → All IsPoint points → points_if_any (naming e ls) p (some_list (point_items ls points)) ≡ Ok points
  points_read points short h =
      elim (set_place ls points) as (λ o. set_place ls points ≡ o → points_if_any (naming e ls) p (some_list (points_at points o)) ≡ Ok points) [
        | None ↦ λ e. plain_read points short h
        | Some i ↦ λ e.
            let at = position-Some (λ l. are_same l points) ls i [] e in
            named_read i points at.0 (same_list (get_or ls i []) points at.1) short
      ]
      refl

-- ---- the lists that get a set

-- a list of points as a rule has it
abbrev pub IsPointList : List Span → Type 0
IsPointList points = (length points ≤ 64) × All IsPoint points

stated_list : (points : List Span) → not (is_empty points) ≡ true → IsPointList points → IsSetList points
stated_list [] e h = absurd (true≢false (sym e))
stated_list (s ∷ ss) e h = (omega arith, h.0, h.1)

one_more : (seen : List (List Span)) (points : List Span) (later : List (List Span)) → (length seen ≤ 64) × All IsSetList seen → IsPointList points
    → (length (with_set seen points later) ≤ 64) × All IsSetList (with_set seen points later)
one_more seen points later h own =
    elim (gets_set seen points later) as (λ b. gets_set seen points later ≡ b
    → (length (if b then seen ++ points ∷ [] else seen) ≤ 64) × All IsSetList (if b then seen ++ points ∷ [] else seen)) [
      | true ↦ λ e.
          let parts = and_parts (nat_lt (length seen) 64) _ e in
          let stated = and_parts (not (is_empty points)) _ parts.1 in
          let room : length seen < 64 = (let r = parts.0 in grind (arith, nat_tests)) in
          (omega (arith, length-append seen (points ∷ [])), All-push IsSetList seen points h.1 (stated_list points stated.0 own))
      | false ↦ λ e. h
    ]
    refl

pub lists_kept : (seen points : List (List Span)) → (length seen ≤ 64) × All IsSetList seen → All IsPointList points
    → (length (sets_behind seen points) ≤ 64) × All IsSetList (sets_behind seen points)
lists_kept seen [] h all = h
lists_kept seen (l ∷ later) h all =
    lists_kept (with_set seen l later) later (one_more seen l later h (All-head IsPointList l later all)) (All-tail IsPointList l later all)
