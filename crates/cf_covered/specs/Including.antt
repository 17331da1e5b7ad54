-- Beside the proof: one rule that includes another, list by list: `includes_rule`, and the first that does, `first_including`. Warnings
-- go by it.
use Rattle.std.specs.Prelude.{◌≢◌, ℕ, int_le, Bool, not, ◌&&◌, ◌||◌, List, Option, Some, position, take}
use Rattle.std.specs.List.{list_any, list_all}
use Rattle.cf_view.specs.declared.base.Act.{Act}
use Rattle.cf_policy.specs.declared.policy.Span.{Span}
use Rattle.cf_policy.specs.declared.policy.Rule.{Rule}
use Rattle.cf_policy.specs.Verdict.{first_number, is_empty}

-- all numbers of the second span are in the first
abbrev pub is_inside : Span → Span → Bool
is_inside outer inner = int_le outer.low inner.low && int_le inner.high outer.high

-- spans that are in one of the spans
abbrev pub is_inside_some : List Span → Span → Bool
is_inside_some outers inner = list_any (λ o. is_inside o inner) outers

-- a list that is not stated has every number; else the other one is stated, and each of its spans is inside one of this list
abbrev pub includes : List Span → List Span → Bool
includes outers inners = is_empty outers || (not (is_empty inners) && list_all (is_inside_some outers) inners)

-- each list of the first rule includes that of the second
abbrev pub includes_rule : Rule → Rule → Bool
includes_rule a b =
    includes a.clients b.clients && (includes a.codes b.codes
    && (includes a.groups b.groups && (includes a.points b.points && includes a.values b.values)))

-- no act is decided by the rule of this number
abbrev pub NeverDecides : List Rule → ℕ → Type 0
NeverDecides rules number = (client : ℕ) (act : Act) → first_number rules client act ≢ Some number

-- the first rule before that of a number which includes this rule
abbrev pub first_including : List Rule → ℕ → Rule → Option ℕ
first_including rules number rule = position (λ r. includes_rule r rule) (take number rules)
