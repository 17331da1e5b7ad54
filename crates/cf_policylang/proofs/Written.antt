-- Arrays as they are written, a value at a time.
use Rattle.std.proofs.Common.{◌≡◌, ◌∙◌, ℕ, ◌+◌, ◌<◌, List, [], ◌∷◌, ◌++◌, length, take, map, get_or, ap, sym, refl, arith}
use Rattle.std.proofs.lemmas.List.{map_more}
use Rattle.toml.specs.Data.{Data, array, item, push_item, Members}
use Rattle.toml.specs.View.{items_of, items_view, view}
use Rattle.toml.specs.declared.value.Value.{Value}
use Rattle.toml.proofs.Views.{items_view-push}
use Rattle.cf_policylang.specs.declared.refusal.Key.{Key}
use Rattle.cf_policylang.specs.Spelling.{with_key, with_list}

items_push : (ds : List Data) (d : Data) → items_of (ds ++ d ∷ []) ≡ push_item (items_of ds) d
items_push [] d = refl
items_push (e ∷ ds) d = ap (item e) (items_push ds d)

-- one more value of an array is that of one more element
pub values_step : {A : Type 0} (spell : A → Data) (vs : List Value) (v : Value) (xs : List A) (i : ℕ) (x : A) → i < length xs
    → view v ≡ spell (get_or xs i x) → items_view vs ≡ items_of (map spell (take i xs))
    → items_view (vs ++ v ∷ []) ≡ items_of (map spell (take (i + 1) xs))
values_step spell vs v xs i x h e so_far =
    items_view-push vs v ∙ (ap (λ ds. push_item ds (view v)) so_far
    ∙ (ap (push_item (items_of (map spell (take i xs)))) e
    ∙ (sym (items_push (map spell (take i xs)) (spell (get_or xs i x))) ∙ sym (ap items_of (map_more spell xs i x h)))))

pub list_none : (k : Key) (vs : List Value) (ms : Members) → length vs ≡ 0 → with_list k (items_view vs) ms ≡ ms
list_none k [] ms e = refl
list_none k (v ∷ vs) ms e = absurd (omega (arith, e))

pub list_some : (k : Key) (vs : List Value) (ms : Members) → 0 < length vs → with_list k (items_view vs) ms ≡ with_key k (array (items_view vs)) ms
list_some k [] ms h = absurd (omega (arith, h))
list_some k (v ∷ vs) ms h = refl
