-- Lists that were written entry by entry are read as they were.
use Rattle.std.proofs.Common.{◌≡◌, ◌∙◌, ℕ, ◌+◌, ◌≤◌, nat_eq, nat_lt, true, false, if◌then◌else◌, List, [], ◌∷◌, ◌++◌, length, map, Option, Some, None, Ok, ap, sym, refl, arith, append_assoc, append-nil}
use Rattle.std.specs.List.{All}
use Rattle.std.proofs.lemmas.Bool.Decides.{nat_tests}
use Rattle.std.proofs.lemmas.List.Elements.{All-head, All-tail}
use Rattle.toml.specs.Data.{Data, array, table, Items, no_items, item, Members}
use Rattle.toml.specs.View.{items_of}
use Rattle.cf_policy.specs.declared.policy.Span.{Span}
use Rattle.cf_policylang.specs.declared.fields.Kind.{Kind}
use Rattle.cf_policylang.specs.declared.lists.Entries.{Entries}
use Rattle.cf_policylang.specs.declared.refusal.Cause.TheVariants as cause
use Rattle.cf_policylang.specs.declared.refusal.Key.{Key}
use Rattle.cf_policylang.specs.declared.refusal.Place.{Place}
use Rattle.cf_policylang.specs.Fields.{all_kind, as_array_of, count, is_kind, tables_from}
use Rattle.cf_policylang.specs.Lists.{entries_from, entry, kind_of, listed, spans, spans_if_any}
use Rattle.cf_policylang.specs.Spelling.{with_list}
use Rattle.cf_policylang.specs.Tested.{Tested, and_then, refused}
use Rattle.cf_policylang.proofs.Stated.{put}

-- what follows a test that passes
pub and_then_ok : {A B : Type 0} (t : Tested A) (next : A → Tested B) (x : A) (u : Tested B) → t ≡ Ok x → next x ≡ u → and_then t next ≡ u
and_then_ok t next x u passes rest = rw passes rest

-- ---- lists that are absent where they have no entry

abbrev pub some_list : Items → Option Data
some_list no_items = None
some_list (item d ds) = Some (array (item d ds))

pub list_put : (k : Key) (ds : Items) (ms : Members) → with_list k ds ms ≡ put k (some_list ds) ms
list_put k no_items ms = refl
list_put k (item d ds) ms = refl

pub list_step : (k : Key) (ds : Items) {ms more : Members} → ms ≡ more → with_list k ds ms ≡ put k (some_list ds) more
list_step k ds {ms} {more} e = ap (with_list k ds) e ∙ list_put k ds more

-- ---- the form of a list

module _ {A : Type 0} (spell : A → Data) where
  pub count_of : (xs : List A) → count (items_of (map spell xs)) ≡ length xs
  count_of [] = refl
  count_of (x ∷ xs) = rw (count_of xs) (omega arith)

  pub all_of : (kind : Kind) → ((x : A) → is_kind kind (spell x) ≡ true) → (xs : List A) → all_kind kind (items_of (map spell xs)) ≡ true
  all_of kind each [] = refl
  all_of kind each (x ∷ xs) = rw (each x, all_of kind each xs) refl

  pub array_read : (kind : Kind) (k : Key) (p : Place) → ((x : A) → is_kind kind (spell x) ≡ true) → (xs : List A)
      → as_array_of kind k p (array (items_of (map spell xs))) ≡ Ok (items_of (map spell xs))
  array_read kind k p each xs = rw (all_of kind each xs) refl

  pub few_read : (kind : Kind) (k : Key) (p : Place) (high : ℕ) → ((x : A) → is_kind kind (spell x) ≡ true) → (xs : List A) → length xs ≤ high
      → and_then (as_array_of kind k p (array (items_of (map spell xs)))) (λ ds. if nat_lt high (count ds) then refused cause.TooMany k p else Ok ds) ≡ Ok (items_of (map spell xs))
  few_read kind k p high each xs few =
      let counted : count (items_of (map spell xs)) ≡ length xs = count_of xs in
      let not_many : nat_lt high (count (items_of (map spell xs))) ≡ false = grind (arith, nat_tests) in
      and_then_ok (as_array_of kind k p (array (items_of (map spell xs)))) _ (items_of (map spell xs)) _ (array_read kind k p each xs) (rw not_many refl)

  pub listed_read : (kind : Kind) (k : Key) (p : Place) → ((x : A) → is_kind kind (spell x) ≡ true) → (xs : List A) → 1 ≤ length xs → length xs ≤ 64
      → listed kind k p (array (items_of (map spell xs))) ≡ Ok (items_of (map spell xs))
  listed_read kind k p each xs some few =
      let counted : count (items_of (map spell xs)) ≡ length xs = count_of xs in
      let not_none : nat_eq (count (items_of (map spell xs))) 0 ≡ false = grind (arith, nat_tests) in
      let not_many : nat_lt 64 (count (items_of (map spell xs))) ≡ false = grind (arith, nat_tests) in
      and_then_ok (as_array_of kind k p (array (items_of (map spell xs)))) _ (items_of (map spell xs)) (Ok (items_of (map spell xs))) (array_read kind k p each xs)
      (rw (not_none, not_many) refl)

-- ---- lists of spans

module _ (e : Entries) (k : Key) (p : Place) (spell : Span → Data) (Fit : Span → Type 0)
    (of_kind : (s : Span) → is_kind (kind_of e) (spell s) ≡ true) (reads : (s : Span) → Fit s → entry e k p (spell s) ≡ Ok s) where
  entries_read : (ss seen : List Span) → All Fit ss → entries_from e k p (items_of (map spell ss)) seen ≡ Ok (seen ++ ss)
  entries_read [] seen h = ap Ok (sym (append-nil seen))
  entries_read (s ∷ ss) seen h =
      and_then_ok (entry e k p (spell s)) (λ t. entries_from e k p (items_of (map spell ss)) (seen ++ t ∷ [])) s (Ok (seen ++ (s ∷ ss))) (reads s (All-head Fit s ss h))
      (entries_read ss (seen ++ s ∷ []) (All-tail Fit s ss h) ∙ ap Ok (append_assoc seen (s ∷ []) ss))

  pub spans_read : (ss : List Span) → 1 ≤ length ss → length ss ≤ 64 → All Fit ss → spans e k p (array (items_of (map spell ss))) ≡ Ok ss
  spans_read ss some few h =
      and_then_ok (listed (kind_of e) k p (array (items_of (map spell ss)))) (λ ds. entries_from e k p ds []) (items_of (map spell ss)) (Ok ss)
      (listed_read spell (kind_of e) k p of_kind ss some few) (entries_read ss [] h)

  pub spans_if_any_read : (ss : List Span) → length ss ≤ 64 → All Fit ss → spans_if_any e k p (some_list (items_of (map spell ss))) ≡ Ok ss
  spans_if_any_read [] few h = refl
  spans_if_any_read (s ∷ ss) few h = spans_read (s ∷ ss) (omega arith) few h

-- ---- tables, each of which is read after those before it

module _ {X : Type 0} (k : Key) (p : Place) (read : ℕ → List X → Members → Tested X) (spell : X → Members) (whole : List X)
    (reads : (n : ℕ) (before : List X) (x : X) (after : List X) → whole ≡ before ++ (x ∷ after) → read n before (spell x) ≡ Ok x) where
  pub tables_read : (n : ℕ) (seen xs : List X) → whole ≡ seen ++ xs → tables_from k p read n (items_of (map (λ x. table (spell x)) xs)) seen ≡ Ok whole
  tables_read n seen [] e = ap Ok (sym (e ∙ append-nil seen))
  tables_read n seen (x ∷ xs) e =
      and_then_ok (read (n + 1) seen (spell x)) (λ y. tables_from k p read (n + 1) (items_of (map (λ z. table (spell z)) xs)) (seen ++ y ∷ [])) x (Ok whole)
      (reads (n + 1) seen x xs e) (tables_read (n + 1) (seen ++ x ∷ []) xs (e ∙ sym (append_assoc seen (x ∷ []) xs)))
