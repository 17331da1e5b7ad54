-- What was seen, and when rules allow exactly that: AllowsSeen.
use Rattle.std.specs.Prelude.{◌≡◌, ℕ, ◌==◌, ℤ, Bool, true, false, ◌&&◌, ◌⊎◌, ◌↔◌, List, Contains, Option, Some, None, pos, ◌≤ℤ◌, IfSome}
use Rattle.std.specs.Ordering.{int_eq}
use Rattle.std.specs.Option.{is_some}
use Rattle.cf_view.specs.declared.Act.{Act}
use Rattle.cf_policy.specs.declared.Rule.{Rule}
use Rattle.cf_policy.specs.Laws.{IsAllowedByRule}
use Rattle.cf_policy.specs.Within.{highest_address, highest_code, highest_group, highest_point, lowest_value, highest_value}
use Rattle.cf_learn.specs.declared.seen.Kind.{Kind}
use Rattle.cf_learn.specs.declared.seen.Seen.{Seen}

-- the act of the client
abbrev pub seen_of : ℕ → Act → Seen
seen_of client act = record { kind = record { client = client; code = act.code; group = act.group; value = act.value }; point = act.point }

-- the act without the client
abbrev pub act_of : Seen → Act
act_of s = record { code = s.kind.code; group = s.kind.group; point = s.point; value = s.kind.value }

-- both have no value, or the same one
abbrev pub is_same_value : Option ℤ → Option ℤ → Bool
is_same_value None None = true
is_same_value (Some m) (Some n) = int_eq m n
is_same_value _ _ = false

-- both are of one client, code, group and value
abbrev pub is_same_kind : Kind → Kind → Bool
is_same_kind a b = (a.client == b.client) && ((a.code == b.code) && ((a.group == b.group) && is_same_value a.value b.value))

-- what was seen speaks for the act: it is the act, or it has no value and is the act but for its value
pub record SpeaksFor (s : Seen) (client : ℕ) (act : Act) : Type 0 where
  pub client_is : s.kind.client ≡ client
  pub code : s.kind.code ≡ act.code
  pub group : s.kind.group ≡ act.group
  pub point : s.point ≡ act.point
  pub value : (s.kind.value ≡ None) ⊎ (s.kind.value ≡ act.value)

-- something that was seen speaks for the act
pub record IsSpokenFor (seen : List Seen) (client : ℕ) (act : Act) : Type 0 where
  pub one : Seen
  pub here : Contains seen one
  pub speaks : SpeaksFor one client act

-- what was seen with the code and the group of the act has a value exactly where the act has one
abbrev pub SettlesValue : List Seen → Act → Type 0
SettlesValue seen act = (s : Seen) → Contains seen s → s.kind.code ≡ act.code → s.kind.group ≡ act.group
    → is_some s.kind.value ≡ is_some act.value

-- the rules allow an act exactly where something that was seen speaks for it; so, where its code and group settle whether it has a value,
-- exactly where it was seen itself
pub record AllowsSeen (seen : List Seen) (rules : List Rule) : Type 0 where
  pub spoken : (client : ℕ) (act : Act) → IsAllowedByRule rules client act ↔ IsSpokenFor seen client act
  pub exact : (client : ℕ) (act : Act) → SettlesValue seen act → IsAllowedByRule rules client act ↔ Contains seen (seen_of client act)

-- an act of a client whose numbers are in the ranges of a policy
pub record IsSeenWithin (s : Seen) : Type 0 where
  pub address : pos s.kind.client ≤ℤ highest_address
  pub code : pos s.kind.code ≤ℤ highest_code
  pub group : pos s.kind.group ≤ℤ highest_group
  pub point : pos s.point ≤ℤ highest_point
  pub value : IfSome s.kind.value (λ n. (lowest_value ≤ℤ n) × (n ≤ℤ highest_value))
