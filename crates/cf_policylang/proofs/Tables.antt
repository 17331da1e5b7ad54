-- TOML's tables and arrays beside the maps and vectors that the program has.
use Rattle.std.proofs.Common.{◌≡◌, not, ◌||◌, ◌&&◌, List, [], ◌∷◌, length, map, String, BTreeMap, Global, string_bytes, refl, ap, arith}
use Rattle.std.specs.List.{list_any, list_all}
use Rattle.std.specs.BTreeMap.{keys}
use Rattle.toml.specs.View.{view, items_view, members_view, table_view}
use Rattle.toml.specs.declared.value.Value.{Value}
use Rattle.cf_policylang.specs.declared.fields.Kind.{Kind}
use Rattle.cf_policylang.specs.declared.refusal.Key.{Key}
use Rattle.cf_policylang.specs.Fields.{all_kind, is_kind, count, has_other, is_among}

pub all_kind_view : (k : Kind) (vs : List Value) → all_kind k (items_view vs) ≡ list_all (λ v. is_kind k (view v)) vs
all_kind_view k [] = refl
all_kind_view k (v ∷ vs) = ap (λ b. is_kind k (view v) && b) (all_kind_view k vs)

pub count_view : (vs : List Value) → count (items_view vs) ≡ length vs
count_view [] = refl
count_view (v ∷ vs) = rw (count_view vs) (omega arith)

other_entries : (known : List Key) (es : List (String Global × Value)) → has_other known (members_view es) ≡ list_any (λ k. not (is_among known (string_bytes k))) (map (λ e. e.0) es)
other_entries known [] = refl
other_entries known (e ∷ es) = ap (λ b. not (is_among known (string_bytes e.0)) || b) (other_entries known es)

pub has_other_view : (known : List Key) (m : BTreeMap (String Global) Value) → has_other known (table_view m) ≡ list_any (λ k. not (is_among known (string_bytes k))) (keys m)
has_other_view known m = other_entries known m.entries
