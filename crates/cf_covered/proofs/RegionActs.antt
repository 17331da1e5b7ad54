-- Acts of regions: which rules have them, and what a part leaves.
use Rattle.std.proofs.Common.{◌≡◌, ℕ, ◌⊎◌, inl, inr, ℤ, pos, ◌+ℤ◌, int_le, int_lt, Bool, true, false, ◌||◌, List, [], ◌∷◌, ◌++◌, Option, Some, None, refl, sym, subst, ap, ◌∙◌, arith}
use mathlib.Core.Logic.{⊎_elim}
use Rattle.std.specs.List.{flat_map, list_any}
use Rattle.std.proofs.lemmas.Int.{ints}
use Rattle.std.proofs.lemmas.Bool.{true≢false, and_parts, and_from, or_cases, or_left, or_right, cases_Bool, cond-true}
use Rattle.std.proofs.lemmas.List.Folds.{list_any-append}
use Rattle.cf_view.specs.declared.base.Act.{Act}
use Rattle.cf_policy.specs.declared.policy.Rule.{Rule}
use Rattle.cf_policy.specs.declared.policy.Span.{Span}
use Rattle.cf_policy.specs.Verdict.{covers, takes, takes_value, has_act}
use Rattle.cf_acts.specs.Acts.{has_value}
use Rattle.cf_covered.specs.declared.regions.Region.{Region}
use Rattle.cf_covered.specs.Common.{have_common, lists_overlap}
use Rattle.cf_covered.specs.Regions.{behind, values_behind, Begin, Begins, is_in, AreSettled, listed, rest, with_clients, with_groups, with_points, with_values}
use Rattle.cf_covered.proofs.SpanLists.{lists_common, values_common}

-- each list of the rule takes its number of the act
pub record HasEach (r : Rule) (client : ℕ) (act : Act) : Type 0 where
  pub clients : takes r.clients (pos client) ≡ true
  pub codes : takes r.codes (pos act.code) ≡ true
  pub groups : takes r.groups (pos act.group) ≡ true
  pub points : takes r.points (pos act.point) ≡ true
  pub values : takes_value r.values act.value ≡ true

pub has_each : (r : Rule) (client : ℕ) (act : Act) → has_act r client act ≡ true → HasEach r client act
has_each r client act has =
    let value = and_parts _ (takes_value r.values act.value) has in
    let point = and_parts _ (takes r.points (pos act.point)) value.0 in
    let client_had = and_parts (takes r.clients (pos client)) _ point.0 in
    let code = and_parts (takes r.codes (pos act.code)) (takes r.groups (pos act.group)) client_had.1 in
    record { clients = client_had.0; codes = code.0; groups = code.1; points = point.1; values = value.1 }

pub has_from : (r : Rule) (client : ℕ) (act : Act) → HasEach r client act → has_act r client act ≡ true
has_from r client act each =
    and_from _ (takes_value r.values act.value)
    (and_from _ (takes r.points (pos act.point))
    (and_from (takes r.clients (pos client)) _ each.clients
    (and_from (takes r.codes (pos act.code)) (takes r.groups (pos act.group)) each.codes each.groups))
    each.points)
    each.values

-- rules that have an act in common
pub common : (a b : Rule) (client : ℕ) (act : Act) → has_act a client act ≡ true → has_act b client act ≡ true → have_common a b ≡ true
common a b client act h k =
    let one = has_each a client act h in
    let other = has_each b client act k in
    and_from (lists_overlap a.clients b.clients) _ (lists_common a.clients b.clients (pos client) one.clients other.clients)
    (and_from (lists_overlap a.codes b.codes) _ (lists_common a.codes b.codes (pos act.code) one.codes other.codes)
    (and_from (lists_overlap a.groups b.groups) _ (lists_common a.groups b.groups (pos act.group) one.groups other.groups)
    (and_from (lists_overlap a.values b.values) (lists_overlap a.points b.points) (values_common a.values b.values act.value one.values other.values)
    (lists_common a.points b.points (pos act.point) one.points other.points))))

-- each span of the region has its number of the act
pub record IsInEach (g : Region) (client : ℕ) (act : Act) : Type 0 where
  pub clients : covers g.clients (pos client) ≡ true
  pub groups : covers g.groups (pos act.group) ≡ true
  pub points : covers g.points (pos act.point) ≡ true
  pub values : has_value g.values act.value ≡ true

pub in_each : (g : Region) (client : ℕ) (act : Act) → is_in g client act ≡ true → IsInEach g client act
in_each g client act h =
    let a = and_parts (covers g.clients (pos client)) _ h in
    let b = and_parts (covers g.groups (pos act.group)) _ a.1 in
    let c = and_parts (covers g.points (pos act.point)) (has_value g.values act.value) b.1 in
    record { clients = a.0; groups = b.0; points = c.0; values = c.1 }

pub in_from : (g : Region) (client : ℕ) (act : Act) → IsInEach g client act → is_in g client act ≡ true
in_from g client act each =
    and_from (covers g.clients (pos client)) _ each.clients
    (and_from (covers g.groups (pos act.group)) _ each.groups
    (and_from (covers g.points (pos act.point)) (has_value g.values act.value) each.points each.values))

-- a number of a span is in the part with which the span begins, or after it
beyond : (s part : Span) (n : ℤ) → part.low ≡ s.low → covers s n ≡ true
    → (covers part n ≡ true) ⊎ ((r : Span) × (behind s part.high ≡ Some r) × (covers r n ≡ true))
beyond s part n begins h =
    let ends = and_parts (int_le s.low n) (int_le n s.high) h in
    ⊎_elim
    (λ within. inl (and_from (int_le part.low n) (int_le n part.high) (subst (λ k. int_le k n ≡ true) (sym begins) ends.0) within))
    (λ later.
    let less : int_lt part.high s.high ≡ true = grind (arith, ints, later, ends.1) in
    inr (
      record { low = part.high +ℤ pos 1; high = s.high },
      cond-true (int_lt part.high s.high) _ _ less,
      and_from (int_le (part.high +ℤ pos 1) n) (int_le n s.high) (grind (arith, ints, later)) ends.1,
    ))
    (cases_Bool (int_le n part.high))

beyond_values : (vs part : Option Span) (v : Option ℤ) → Begin part vs → has_value vs v ≡ true
    → (has_value part v ≡ true) ⊎ ((r : Span) × (values_behind vs part ≡ Some r) × (has_value (Some r) v ≡ true))
beyond_values None None v begins h = inl h
beyond_values None (Some p) v begins h = absurd begins
beyond_values (Some s) None v begins h = absurd begins
beyond_values (Some s) (Some p) None begins h = absurd (true≢false (sym h))
beyond_values (Some s) (Some p) (Some n) begins h = beyond s p n begins h

module _ (client : ℕ) (act : Act) where
  abbrev has : Region → Bool
  has g = is_in g client act

  abbrev some_has : Option Region → Bool
  some_has None = false
  some_has (Some g) = has g

  in_listed : (os : List (Option Region)) → list_any has (flat_map listed os) ≡ list_any some_has os
  in_listed [] = refl
  in_listed (None ∷ os) = in_listed os
  in_listed (Some g ∷ os) = ap (λ b. has g || b) (in_listed os)

  module _ (g part : Region) where
    abbrev by_clients : Option Region
    by_clients = with_clients g (behind g.clients part.clients.high)

    abbrev by_groups : Option Region
    by_groups = with_groups (record g { clients = part.clients }) (behind g.groups part.groups.high)

    abbrev by_points : Option Region
    by_points = with_points (record g { clients = part.clients; groups = part.groups }) (behind g.points part.points.high)

    abbrev by_values : Option Region
    by_values = with_values part (values_behind g.values part.values)

    -- an act of a region is in the part with which it begins, or in what that leaves
    pub left_or_in : Begins part g → has g ≡ true → (has part ≡ true) ⊎ (list_any has (rest g part) ≡ true)
    left_or_in begins h =
        let each = in_each g client act h in
        let found : list_any some_has (by_clients ∷ by_groups ∷ by_points ∷ by_values ∷ []) ≡ true → (has part ≡ true) ⊎ (list_any has (rest g part) ≡ true) =
        λ some. inr (in_listed (by_clients ∷ by_groups ∷ by_points ∷ by_values ∷ []) ∙ some) in
        ⊎_elim
        (λ clients. ⊎_elim
        (λ groups. ⊎_elim
        (λ points. ⊎_elim
        (λ values. inl (in_from part client act (record { clients = clients; groups = groups; points = points; values = values })))
        (λ v. found (or_right (some_has by_clients) _ (or_right (some_has by_groups) _ (or_right (some_has by_points) _ (or_left (some_has by_values) _
        (ap (λ o. some_has (with_values part o)) v.1
        ∙ in_from (record part { values = Some v.0 }) client act (record { clients = clients; groups = groups; points = points; values = v.2 })))))))
        (beyond_values g.values part.values act.value begins.values each.values))
        (λ p. found (or_right (some_has by_clients) _ (or_right (some_has by_groups) _ (or_left (some_has by_points) _
        (ap (λ o. some_has (with_points (record g { clients = part.clients; groups = part.groups }) o)) p.1
        ∙ in_from (record g { clients = part.clients; groups = part.groups; points = p.0 }) client act
        (record { clients = clients; groups = groups; points = p.2; values = each.values }))))))
        (beyond g.points part.points (pos act.point) begins.points each.points))
        (λ q. found (or_right (some_has by_clients) _ (or_left (some_has by_groups) _
        (ap (λ o. some_has (with_groups (record g { clients = part.clients }) o)) q.1
        ∙ in_from (record g { clients = part.clients; groups = q.0 }) client act
        (record { clients = clients; groups = q.2; points = each.points; values = each.values })))))
        (beyond g.groups part.groups (pos act.group) begins.groups each.groups))
        (λ c. found (or_left (some_has by_clients) _
        (ap (λ o. some_has (with_clients g o)) c.1
        ∙ in_from (record g { clients = c.0 }) client act (record { clients = c.2; groups = each.groups; points = each.points; values = each.values }))))
        (beyond g.clients part.clients (pos client) begins.clients each.clients)

-- where a part of the last region is settled, what it leaves is to be settled in the region's place
pub settled_step : (rule : Rule) (others : List Rule) (code : ℕ) (left : List Region) (g part : Region) → Begins part g
    → AreSettled rule others code (part ∷ []) → AreSettled rule others code (left ++ rest g part) → AreSettled rule others code (left ++ g ∷ [])
settled_step rule others code left g part begins settled next client act same inside has =
    let before = list_any-append (λ q. is_in q client act) left (g ∷ []) in
    let after = list_any-append (λ q. is_in q client act) left (rest g part) in
    let some : list_any (λ q. is_in q client act) left ≡ true → list_any (λ r. has_act r client act) others ≡ true =
    λ early. next client act same (after ∙ or_left _ (list_any (λ q. is_in q client act) (rest g part)) early) has in
    ⊎_elim
    some
    (λ here. ⊎_elim
    (λ done. settled client act same (or_left (is_in part client act) false done) has)
    (λ later. next client act same (after ∙ or_right (list_any (λ q. is_in q client act) left) _ later) has)
    (left_or_in client act g part begins (⊎_elim (λ own. own) (λ none. absurd (true≢false (sym none))) (or_cases (is_in g client act) false here))))
    (or_cases (list_any (λ q. is_in q client act) left) _ (sym before ∙ inside))
