-- Sets and points that were written are read as they were.
use Rattle.std.proofs.Common.{◌≡◌, ◌≢◌, ◌∙◌, ℕ, suc, ◌+◌, ◌<◌, ◌≤◌, nat_le, pos, true, false, List, [], ◌∷◌, length, drop, map, Some, Ok, ap, subst, refl, arith, AllPairs}
use Rattle.std.specs.Fmt.{decimal}
use Rattle.std.specs.List.{All, enumerate_from, list_all}
use Rattle.std.specs.Str.Parse.{AllDigits}
use Rattle.std.proofs.lemmas.Bool.Decides.{nat_tests}
use Rattle.std.proofs.lemmas.Fmt.{decimal_injective, decimal_is_IsNumeral, length-decimal-le}
use Rattle.std.proofs.lemmas.List.Elements.{All-cons, All-head, All-nil, All-tail}
use Rattle.std.proofs.lemmas.Str.Parse.{digit_from_value}
use Rattle.toml.specs.Data.{string, table, item, Members, no_members}
use Rattle.toml.specs.View.{items_of}
use Rattle.cf_policy.specs.declared.policy.Span.{Span}
use Rattle.cf_policy.specs.Names.{is_name, is_name_byte}
use Rattle.cf_policy.specs.Within.{IsSpanWithin, highest_point}
use Rattle.cf_policylang.specs.declared.fields.Kind.TheVariants as kind
use Rattle.cf_policylang.specs.declared.lists.Entries.TheVariants as entries
use Rattle.cf_policylang.specs.declared.refusal.Cause.TheVariants as cause
use Rattle.cf_policylang.specs.declared.refusal.Key.TheVariants as key
use Rattle.cf_policylang.specs.declared.refusal.Place.{Place}
use Rattle.cf_policylang.specs.declared.sets.PointSet.{PointSet}
use Rattle.cf_policylang.specs.Fields.{has_other, name, stated}
use Rattle.cf_policylang.specs.Numbers.{number_span}
use Rattle.cf_policylang.specs.Sets.{is_set_taken, set, set_items, set_keys, set_name, set_points, sets}
use Rattle.cf_policylang.specs.Spelling.{number_text, set_table, set_tables, set_text, texts, with_key, with_list}
use Rattle.cf_policylang.specs.Tested.{at_document, at_set, or_refused}
use Rattle.cf_policylang.proofs.ListsBack.{and_then_ok, few_read, list_put, some_list, spans_read, tables_read}
use Rattle.cf_policylang.proofs.Middles.{middle, none_before, pairs_cons}
use Rattle.cf_policylang.proofs.ReadBack.{span_read}
use Rattle.cf_policylang.proofs.Stated.{Given, built, has_no_other, stated_at}

abbrev pub IsPoint : Span → Type 0
IsPoint = IsSpanWithin (pos 0) highest_point

pub point_read : (s : Span) → IsPoint s → number_span (pos 0) highest_point (number_text s) ≡ Some s
point_read s w = span_read (pos 0) highest_point s (record { sfits = omega arith }) (record { sfits = omega arith }) w

-- ---- the names of sets

pub set_text_same : (m n : ℕ) → m < 64 → n < 64 → set_text m ≡ set_text n → m ≡ n
set_text_same m n hm hn e =
    let digits : decimal (m + 1) ≡ decimal (n + 1) = ap (drop 3) e in
    let same : m + 1 ≡ n + 1 = decimal_injective (m + 1) (n + 1) (omega arith) (omega arith) digits in
    omega arith

name_digits : (ds : List ℕ) → AllDigits 10 ds → list_all is_name_byte ds ≡ true
name_digits [] h = refl
name_digits (d ∷ ds) h =
    let digit = digit_from_value d h.0 in
    let own : is_name_byte d ≡ true = grind (arith, nat_tests) in
    rw (own, name_digits ds h.1) refl

pub set_text_is_name : (n : ℕ) → n < 64 → is_name (set_text n) ≡ true
set_text_is_name n h =
    let long : length (decimal (n + 1)) ≤ 2 = length-decimal-le 2 (n + 1) (omega arith) (omega arith) (omega arith) in
    let short : nat_le (length (set_text n)) 32 ≡ true = grind (arith, nat_tests) in
    rw (short, name_digits (decimal (n + 1)) (decimal_is_IsNumeral (n + 1) (omega arith)).0.1) refl

-- ---- the sets of a document

-- the sets of these lists, numbered on from n
abbrev pub sets_of : ℕ → List (List Span) → List PointSet
sets_of n [] = []
sets_of n (l ∷ ls) = record { name = set_text n; points = l } ∷ sets_of (n + 1) ls

abbrev pub set_members : PointSet → Members
set_members s = with_list key.Points (texts number_text s.points) (with_key key.Name (string s.name) no_members)

abbrev pub set_given : PointSet → List Given
set_given s = (key.Points, some_list (texts number_text s.points)) ∷ (key.Name, Some (string s.name)) ∷ []

pub tables_of : (n : ℕ) (ls : List (List Span))
    → items_of (map (λ numbered. table (set_table numbered.0 numbered.1)) (enumerate_from n ls)) ≡ items_of (map (λ s. table (set_members s)) (sets_of n ls))
tables_of n [] = refl
tables_of n (l ∷ ls) = ap (item (table (set_table n l))) (tables_of (n + 1) ls)

-- a list that a set may have
abbrev pub IsSetList : List Span → Type 0
IsSetList points = (1 ≤ length points) × (length points ≤ 64) × All IsPoint points

pub set_built : (s : PointSet) → set_members s ≡ built (set_given s)
set_built s = list_put key.Points (texts number_text s.points) (with_key key.Name (string s.name) no_members)

set_points_read : (p : Place) (ms : Members) (points : List Span) → IsSetList points → stated key.Points ms ≡ some_list (texts number_text points)
    → set_points p ms ≡ Ok points
set_points_read p ms [] h e = absurd (omega (arith, h.0))
set_points_read p ms (s ∷ ss) h e =
    rw e (spans_read (entries.Numbers (pos 0) highest_point) key.Points p (λ t. string (number_text t)) IsPoint (λ t. refl)
    (λ t w. ap (or_refused cause.BadRange key.Points p) (point_read t w)) (s ∷ ss) h.0 h.1 h.2)

pub name_read : (p : Place) (ms : Members) (text : List ℕ) → stated key.Name ms ≡ Some (string text) → is_name text ≡ true → name p ms ≡ Ok text
name_read p ms text e h = rw (e, h) refl

set_read : (p : Place) (seen : List PointSet) (s : PointSet) → is_name s.name ≡ true → is_set_taken seen s.name ≡ false → IsSetList s.points
    → set p seen (set_members s) ≡ Ok s
set_read p seen s form free points =
    let known : has_other set_keys (built (set_given s)) ≡ false = has_no_other set_keys (set_given s) refl in
    let own_name : set_name p seen (built (set_given s)) ≡ Ok s.name =
    and_then_ok (name p (built (set_given s))) _ s.name (Ok s.name) (name_read p (built (set_given s)) s.name (stated_at key.Name (set_given s) refl) form)
    (rw free refl) in
    let own_points : set_points p (built (set_given s)) ≡ Ok s.points =
    set_points_read p (built (set_given s)) s.points points (stated_at key.Points (set_given s) refl) in
    ap (set p seen) (set_built s)
    ∙ rw known
    (and_then_ok (set_name p seen (built (set_given s))) _ s.name (Ok s) own_name (and_then_ok (set_points p (built (set_given s))) _ s.points (Ok s) own_points refl))

-- what each set has
record IsOwnSet (s : PointSet) : Type 0 where
  form : is_name s.name ≡ true
  points : IsSetList s.points

own_sets : (n : ℕ) (ls : List (List Span)) → n + length ls ≤ 64 → All IsSetList ls → All IsOwnSet (sets_of n ls)
own_sets n [] room h = All-nil IsOwnSet
own_sets n (l ∷ ls) room h =
    All-cons IsOwnSet (record { name = set_text n; points = l }) (sets_of (n + 1) ls)
    (record { form = set_text_is_name n (omega arith); points = All-head IsSetList l ls h }) (own_sets (n + 1) ls (omega arith) (All-tail IsSetList l ls h))

-- no set after n has the name of this one
names_behind : (m n : ℕ) (ls : List (List Span)) → m < n → n + length ls ≤ 64 → All (λ t. set_text m ≢ t.name) (sets_of n ls)
names_behind m n [] h room = All-nil (λ (t : PointSet). set_text m ≢ t.name)
names_behind m n (l ∷ ls) h room =
    All-cons (λ (t : PointSet). set_text m ≢ t.name) (record { name = set_text n; points = l }) (sets_of (n + 1) ls)
    (λ e. let same : m ≡ n = set_text_same m n (omega arith) (omega arith) e in omega arith) (names_behind m (n + 1) ls (omega arith) (omega arith))

names_apart : (n : ℕ) (ls : List (List Span)) → n + length ls ≤ 64 → AllPairs (λ s t. s.name ≢ t.name) (sets_of n ls)
names_apart n [] room = λ i j d lt inside. absurd (omega arith)
names_apart n (l ∷ ls) room =
    pairs_cons (λ (s t : PointSet). s.name ≢ t.name) (record { name = set_text n; points = l }) (sets_of (n + 1) ls)
    (names_behind n (n + 1) ls (omega arith) (omega arith)) (names_apart (n + 1) ls (omega arith))

set_items_read : (f : PointSet → Members) (ss : List PointSet) → length ss ≤ 64
    → set_items (some_list (items_of (map (λ s. table (f s)) ss))) ≡ Ok (items_of (map (λ s. table (f s)) ss))
set_items_read f [] few = refl
set_items_read f (s ∷ ss) few = few_read (λ (t : PointSet). table (f t)) kind.Table key.Set at_document 64 (λ t. refl) (s ∷ ss) few

length_sets_of : (n : ℕ) (ls : List (List Span)) → length (sets_of n ls) ≡ length ls
length_sets_of n [] = refl
length_sets_of n (l ∷ ls) = ap suc (length_sets_of (n + 1) ls)

pub sets_read : (ms : Members) (ls : List (List Span)) → length ls ≤ 64 → All IsSetList ls → stated key.Set ms ≡ some_list (set_tables ls)
    → sets ms ≡ Ok (sets_of 0 ls)
sets_read ms ls few h e =
    let whole = sets_of 0 ls in
    let all : All IsOwnSet whole = own_sets 0 ls (omega arith) h in
    let apart : AllPairs (λ s t. s.name ≢ t.name) whole = names_apart 0 ls (omega arith) in
    let written : stated key.Set ms ≡ some_list (items_of (map (λ s. table (set_members s)) whole)) = e ∙ ap some_list (tables_of 0 ls) in
    and_then_ok (set_items (stated key.Set ms)) _ (items_of (map (λ s. table (set_members s)) whole)) (Ok whole)
    (ap set_items written ∙ set_items_read set_members whole (omega (arith, length_sets_of 0 ls)))
    (tables_read key.Set at_document (λ m. set (at_set m)) set_members whole
    (λ n before s after is.
    let own : IsOwnSet s = middle IsOwnSet before s after (subst (All IsOwnSet) is all) in
    set_read (at_set n) before s own.form
    (none_before (λ (t : PointSet). t.name) before s after (subst (AllPairs (λ t u. t.name ≢ u.name)) is apart)) own.points)
    0 [] whole refl)
