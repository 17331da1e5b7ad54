-- Acts of a kind of a table.
use Rattle.std.proofs.Common.{inl, inr, ◌≡◌, ℕ, ◌≤◌, pos, int_le, true, false, List, ◌∷◌, ◌==◌, Some, sym, subst, arith}
use Rattle.std.specs.List.{list_any}
use Rattle.std.proofs.lemmas.Int.{ints}
use Rattle.std.proofs.lemmas.Bool.{and_from, or_left, or_right, cases_Bool, eqb-true}
use Rattle.cf_view.specs.declared.base.Act.{Act}
use Rattle.cf_policy.specs.Verdict.{covers}
use Rattle.cf_acts.specs.declared.acts.Kind.{Kind}
use Rattle.cf_acts.specs.Acts.{between, up_to, has_group, has_value, is_of_kind}

pub of_kind : (k : Kind) (act : Act) → has_group k.groups (pos act.group) ≡ true → covers k.points (pos act.point) ≡ true
    → has_value k.values act.value ≡ true → is_of_kind act k ≡ true
of_kind k act group point value =
    and_from (has_group k.groups (pos act.group)) _ group
    (and_from (covers k.points (pos act.point)) (has_value k.values act.value) point value)

-- an act of the first kind of a list, and of the second
pub at_first : (act : Act) (k : Kind) (ks : List Kind) → has_group k.groups (pos act.group) ≡ true → covers k.points (pos act.point) ≡ true
    → has_value k.values act.value ≡ true → list_any (is_of_kind act) (k ∷ ks) ≡ true
at_first act k ks group point value = or_left (is_of_kind act k) (list_any (is_of_kind act) ks) (of_kind k act group point value)

pub at_second : (act : Act) (j k : Kind) (ks : List Kind) → has_group k.groups (pos act.group) ≡ true → covers k.points (pos act.point) ≡ true
    → has_value k.values act.value ≡ true → list_any (is_of_kind act) (j ∷ k ∷ ks) ≡ true
at_second act j k ks group point value =
    or_right (is_of_kind act j) (list_any (is_of_kind act) (k ∷ ks)) (at_first act k ks group point value)

pub in_between : (low high n : ℕ) → low ≤ n → n ≤ high → covers (between low high) (pos n) ≡ true
in_between low high n a b = and_from (int_le (pos low) (pos n)) (int_le (pos n) (pos high)) (grind (arith, ints)) (grind (arith, ints))

pub in_up_to : (high n : ℕ) → n ≤ high → covers (up_to high) (pos n) ≡ true
in_up_to high n b = and_from (int_le (pos 0) (pos n)) (int_le (pos n) (pos high)) (grind (arith, ints)) (grind (arith, ints))

pub some_is : (a b : Act) → Some a ≡ Some b → a ≡ b
some_is a b e = cc

-- what holds of one number, and of a number that is not this one, holds
pub split : (P : ℕ → Type 0) (n code : ℕ) → P n → ((code == n) ≡ false → P code) → P code
split P n code here others =
    elim (cases_Bool (code == n)) [
      | inl t ↦ subst P (sym (eqb-true code n t)) here
      | inr f ↦ others f
    ]
