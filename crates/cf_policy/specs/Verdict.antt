-- What the rules of an asset say about an act of a client: verdict_of. The first rule that has the act decides.
use Rattle.std.specs.Prelude.{ℕ, ◌<◌, ℤ, pos, int_le, Bool, true, false, not, ◌&&◌, if◌then◌else◌, List, [], ◌∷◌, length, Option, Some}
use Rattle.std.specs.Prelude.{None, position, slice_get, option_map, option_and_then}
use Rattle.std.specs.List.{list_any}
use Rattle.cf_view.specs.declared.base.Act.{Act}
use Rattle.cf_view.specs.declared.base.Reason.{Reason}
use Rattle.cf_view.specs.declared.base.Reason.TheVariants as reason
use Rattle.cf_policy.specs.declared.policy.Span.{Span}
use Rattle.cf_policy.specs.declared.policy.Rule.{Rule}
use Rattle.cf_policy.specs.declared.policy.Asset.{Asset}
use Rattle.cf_policy.specs.declared.policy.Action.{Action}
use Rattle.cf_policy.specs.declared.policy.Action.TheVariants.{Allow, Refuse}
use Rattle.cf_policy.specs.declared.policy.Decider.{Decider}
use Rattle.cf_policy.specs.declared.policy.Decider.TheVariants as decider
use Rattle.cf_policy.specs.declared.policy.Verdict.{Verdict}
use Rattle.cf_policy.specs.declared.policy.Verdict.TheVariants as verdict

-- the list has nothing
abbrev pub is_empty : {A : Type 0} → List A → Bool
is_empty [] = true
is_empty (x ∷ xs) = false

-- the number lies in the span, whose ends belong to it
abbrev pub covers : Span → ℤ → Bool
covers s n = int_le s.low n && int_le n s.high

-- a list that is stated has the number, and one that is not stated has every number
abbrev pub takes : List Span → ℤ → Bool
takes [] n = true
takes (s ∷ ss) n = list_any (λ t. covers t n) (s ∷ ss)

-- values that are stated have the value, and none where the act has no value
abbrev pub takes_value : List Span → Option ℤ → Bool
takes_value [] v = true
takes_value (s ∷ ss) None = false
takes_value (s ∷ ss) (Some n) = takes (s ∷ ss) n

-- the rule has the client, the code and the group
abbrev pub has_function : Rule → ℕ → Act → Bool
has_function r client act = takes r.clients (pos client) && (takes r.codes (pos act.code) && takes r.groups (pos act.group))

-- the rule has these and the point
abbrev pub has_point : Rule → ℕ → Act → Bool
has_point r client act = has_function r client act && takes r.points (pos act.point)

-- the rule has these and the value: it has the act of the client
abbrev pub has_act : Rule → ℕ → Act → Bool
has_act r client act = has_point r client act && takes_value r.values act.value

-- the number of the first rule that has the act
abbrev pub first_number : List Rule → ℕ → Act → Option ℕ
first_number rules client act = position (λ r. has_act r client act) rules

-- the rule of a number, with the number
abbrev pub numbered : List Rule → ℕ → Option (ℕ × Rule)
numbered rules n = option_map (λ r. (n, r)) (slice_get rules n)

-- the first rule that has the act, with its number
abbrev pub first_rule : List Rule → ℕ → Act → Option (ℕ × Rule)
first_rule rules client act = option_and_then (numbered rules) (first_number rules client act)

-- the action is to allow
abbrev pub is_allow : Action → Bool
is_allow Allow = true
is_allow Refuse = false

-- what of the act no allow rule has
abbrev pub default_reason : List Rule → ℕ → Act → Reason
default_reason rules client act =
    if not (list_any (λ r. is_allow r.action && has_function r client act) rules) then reason.Function
    else if not (list_any (λ r. is_allow r.action && has_point r client act) rules) then reason.Point
    else reason.Value

-- the last list that the rule states, of values and points
abbrev pub rule_reason : Rule → Reason
rule_reason r =
    if not (is_empty r.values) then reason.Value
    else if not (is_empty r.points) then reason.Point
    else reason.Function

-- what a rule of this number does with an act that it decides
abbrev pub by_rule : ℕ → Rule → Action → Verdict
by_rule n r Allow = verdict.Allow n
by_rule n r Refuse = verdict.Refuse (decider.Rule n) (rule_reason r)

-- the verdict of the rule that was found, and without one a refusal by default
abbrev pub decided : Option (ℕ × Rule) → Reason → Verdict
decided (Some p) otherwise = by_rule p.0 p.1 p.1.action
decided None otherwise = verdict.Refuse decider.Default otherwise

-- the first rule that has the act decides, else `default`
abbrev pub verdict_of : Asset → ℕ → Act → Verdict
verdict_of asset client act =
    decided (first_rule asset.rules client act) (default_reason asset.rules client act)

-- a decider that is a rule is one of the rules
abbrev pub IsOneOf : List Rule → Decider → Type 0
IsOneOf rules (decider.Rule n) = n < length rules
IsOneOf rules (decider.Spent n) = n < length rules
IsOneOf rules _ = Unit {0}

-- the rule that decided is one of the rules
abbrev pub IsInside : List Rule → Verdict → Type 0
IsInside rules (verdict.Allow n) = n < length rules
IsInside rules (verdict.Refuse d why) = IsOneOf rules d
