-- Steps of the proof: what holds of every act that a command can have: `IsActWithin` and `ValuesAreSettled`.
use Rattle.std.specs.Prelude.{◌≡◌, pos, ◌≤ℤ◌, is_some, IfSome}
use Rattle.cf_view.specs.declared.Act.{Act}
use Rattle.cf_policy.specs.Within.{highest_code, highest_group, highest_point, lowest_value, highest_value}
use Rattle.cf_policy.specs.declared.Protocol.{Protocol}
use Rattle.cf_acts.specs.Commands.{IsOfCommand}

-- an act whose numbers are in the ranges of a policy
pub record IsActWithin (act : Act) : Type 0 where
  pub code : pos act.code ≤ℤ highest_code
  pub group : pos act.group ≤ℤ highest_group
  pub point : pos act.point ≤ℤ highest_point
  pub value : IfSome act.value (λ n. (lowest_value ≤ℤ n) × (n ≤ℤ highest_value))

-- code and group settle whether an act of a command has a value
abbrev pub ValuesAreSettled : Type 0
ValuesAreSettled =
    (protocol : Protocol) (a b : Act) → IsOfCommand protocol a → IsOfCommand protocol b → a.code ≡ b.code → a.group ≡ b.group
    → is_some a.value ≡ is_some b.value
