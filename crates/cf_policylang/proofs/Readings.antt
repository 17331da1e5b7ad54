-- What a call answers where one of its tests refuses, and the values of an array read one behind the other.
use Rattle.std.proofs.Common.{◌≡◌, ◌∙◌, ℕ, ◌+◌, ◌<◌, ◌≤◌, List, [], ◌∷◌, ◌++◌, Result, Ok, Err, length, get_or, drop, ap, subst, sym}
use Rattle.std.specs.Prelude.{IsErrAnd}
use Rattle.std.proofs.lemmas.List.{at_drop_all}
use Rattle.toml.specs.Data.{Items, no_items, item, Members}
use Rattle.toml.specs.View.{items_view, view}
use Rattle.toml.specs.declared.value.Value.{Value}
use Rattle.toml.proofs.Views.{items_view-drop}
use Rattle.cf_policy.specs.declared.policy.Span.{Span}
use Rattle.cf_policylang.specs.declared.lists.Entries.{Entries}
use Rattle.cf_policylang.specs.declared.refusal.Key.{Key}
use Rattle.cf_policylang.specs.declared.refusal.Place.{Place}
use Rattle.cf_policylang.specs.declared.refusal.PolicyFault.{PolicyFault}
use Rattle.cf_policylang.specs.declared.refusal.PolicyFault.TheVariants.{NoMemory, Refused}
use Rattle.cf_policylang.specs.declared.refusal.PolicyRefusal.{PolicyRefusal}
use Rattle.cf_policylang.specs.declared.sets.Named.{Named}
use Rattle.cf_policylang.specs.Fields.{as_table, tables_from}
use Rattle.cf_policylang.specs.Lists.{entry, entries_from}
use Rattle.cf_policylang.specs.Sets.{point_entry, points_from}
use Rattle.cf_policylang.specs.Tested.{Tested, Answers, and_then}

-- ---- what is handed on

-- a refusal of the tests is that of the call
pub refuses : {A B : Type 0} (see : A → B) (meaning : Tested B) (result : Result A PolicyFault) (r : PolicyRefusal)
    → IsErrAnd result (λ e. e ≡ Refused r) → meaning ≡ Err r → Answers see meaning result
refuses see meaning (Ok x) r is same = absurd is
refuses see meaning (Err e) r is same = subst (λ f. Answers see meaning (Err f)) (sym is) same

-- want of memory says nothing
pub runs_out : {A B : Type 0} (see : A → B) (meaning : Tested B) (result : Result A PolicyFault) → IsErrAnd result (λ e. e ≡ NoMemory)
    → Answers see meaning result
runs_out see meaning (Ok x) is = absurd is
runs_out see meaning (Err e) is = subst (λ f. Answers see meaning (Err f)) (sym is) tt

faults : {A B C D : Type 0} (see : A → B) (meaning : Tested B) (own : C → D) (part : Tested D) (fault : PolicyFault)
    → Answers own part (Err fault) → ((r : PolicyRefusal) → part ≡ Err r → meaning ≡ Err r) → Answers see meaning (Err fault)
faults see meaning own part (Refused r) told whole = whole r told
faults see meaning own part NoMemory told whole = tt

-- the fault of a part is that of the call, where its refusals are those of the whole
pub hands_on : {A B C D : Type 0} (see : A → B) (meaning : Tested B) (result : Result A PolicyFault) (own : C → D) (part : Tested D) (fault : PolicyFault)
    → IsErrAnd result (λ e. e ≡ fault) → Answers own part (Err fault) → ((r : PolicyRefusal) → part ≡ Err r → meaning ≡ Err r)
    → Answers see meaning result
hands_on see meaning (Ok x) own part fault is told whole = absurd is
hands_on see meaning (Err e) own part fault is told whole =
    subst (λ f. Answers see meaning (Err f)) (sym is) (faults see meaning own part fault told whole)

-- ---- arrays

-- what is left of an array begins with the value at the index, or is empty
module _ {Y : Type 0} (F : Items → Y) (xs vs : List Value) (same : xs ≡ vs) (i : ℕ) where
  at_next : (v : Value) → i < length xs → v ≡ get_or xs i v → F (items_view (drop i vs)) ≡ F (item (view v) (items_view (drop (i + 1) vs)))
  at_next v inside at =
      let within : i < length vs = subst (λ (ys : List Value). i < length ys) same inside in
      let there : v ≡ get_or vs i v = subst (λ (ys : List Value). v ≡ get_or ys i v) same at in
      ap F (items_view-drop vs i v within) ∙ ap (λ w. F (item (view w) (items_view (drop (i + 1) vs)))) (sym there)

  pub at_end : length xs ≤ i → F (items_view (drop i vs)) ≡ F no_items
  at_end past = at_drop_all (λ ys. F (items_view ys)) vs i (subst (λ (ys : List Value). length ys ≤ i) same past)

-- an array of tables
module _ {X : Type 0} (key : Key) (place : Place) (read : ℕ → List X → Members → Tested X) (xs vs : List Value) (same : xs ≡ vs) (i : ℕ)
    (v : Value) (inside : i < length xs) (at : v ≡ get_or xs i v) (seen : List X) where
  abbrev Rest : X → Tested (List X)
  Rest x = tables_from key place read (i + 1) (items_view (drop (i + 1) vs)) (seen ++ x ∷ [])

  table_next : tables_from key place read i (items_view (drop i vs)) seen
      ≡ and_then (as_table key place (view v)) (λ ms. and_then (read (i + 1) seen ms) Rest)
  table_next = at_next (λ items. tables_from key place read i items seen) xs vs same i v inside at

  pub no_table : (r : PolicyRefusal) → as_table key place (view v) ≡ Err r → tables_from key place read i (items_view (drop i vs)) seen ≡ Err r
  no_table r none = table_next ∙ ap (λ t. and_then t (λ ms. and_then (read (i + 1) seen ms) Rest)) none

  pub table_unread : (ms : Members) → as_table key place (view v) ≡ Ok ms → (r : PolicyRefusal) → read (i + 1) seen ms ≡ Err r
      → tables_from key place read i (items_view (drop i vs)) seen ≡ Err r
  table_unread ms is r none =
      table_next ∙ (ap (λ t. and_then t (λ ns. and_then (read (i + 1) seen ns) Rest)) is ∙ ap (λ t. and_then t Rest) none)

  pub table_read : (ms : Members) → as_table key place (view v) ≡ Ok ms → (x : X) → read (i + 1) seen ms ≡ Ok x
      → tables_from key place read i (items_view (drop i vs)) seen ≡ Rest x
  table_read ms is x was =
      table_next ∙ (ap (λ t. and_then t (λ ns. and_then (read (i + 1) seen ns) Rest)) is ∙ ap (λ t. and_then t Rest) was)

-- a list of entries
module _ (entries : Entries) (key : Key) (place : Place) (xs vs : List Value) (same : xs ≡ vs) (i : ℕ) (v : Value) (inside : i < length xs)
    (at : v ≡ get_or xs i v) (seen : List Span) where
  abbrev RestOf : Span → Tested (List Span)
  RestOf s = entries_from entries key place (items_view (drop (i + 1) vs)) (seen ++ s ∷ [])

  pub entry_next : (m : Tested Span) → entry entries key place (view v) ≡ m → entries_from entries key place (items_view (drop i vs)) seen ≡ and_then m RestOf
  entry_next m is = at_next (λ items. entries_from entries key place items seen) xs vs same i v inside at ∙ ap (λ t. and_then t RestOf) is

-- the points of a rule
module _ (named : Named) (place : Place) (xs vs : List Value) (same : xs ≡ vs) (i : ℕ) (v : Value) (inside : i < length xs)
    (at : v ≡ get_or xs i v) (seen : List Span) where
  abbrev RestBehind : List Span → Tested (List Span)
  RestBehind own = points_from named place (items_view (drop (i + 1) vs)) (seen ++ own)

  points_next : (m : Tested (List Span)) → point_entry named place (view v) ≡ m → points_from named place (items_view (drop i vs)) seen ≡ and_then m RestBehind
  points_next m is = at_next (λ items. points_from named place items seen) xs vs same i v inside at ∙ ap (λ t. and_then t RestBehind) is

  -- an entry that was appended
  abbrev Appended : Tested (List Span) → Tested (List Span)
  Appended m = and_then m (λ own. Ok (seen ++ own))

  pub points_refused : (m : Tested (List Span)) → point_entry named place (view v) ≡ m → (r : PolicyRefusal) → Appended m ≡ Err r
      → points_from named place (items_view (drop i vs)) seen ≡ Err r
  points_refused (Ok own) is r e = absurd cc
  points_refused (Err q) is r e = points_next (Err q) is ∙ cc

  pub points_read : (m : Tested (List Span)) → point_entry named place (view v) ≡ m → (all : List Span) → Appended m ≡ Ok all
      → points_from named place (items_view (drop i vs)) seen ≡ points_from named place (items_view (drop (i + 1) vs)) all
  points_read (Ok own) is all e =
      let same_all : seen ++ own ≡ all = cc in
      points_next (Ok own) is ∙ ap (points_from named place (items_view (drop (i + 1) vs))) same_all
  points_read (Err q) is all e = absurd cc
