-- Beside the proof: the reads of function 23 of Modbus, which have no value, and a rule: `NamesReads` and `HasReads`. Warnings go by it.
use Rattle.std.specs.Prelude.{◌≡◌, ℕ, ◌<◌, pos, true}
use Rattle.cf_view.specs.declared.base.Act.{Act}
use Rattle.cf_policy.specs.declared.policy.Protocol.{Protocol}
use Rattle.cf_policy.specs.declared.policy.Protocol.TheVariants.{Modbus}
use Rattle.cf_policy.specs.declared.policy.Rule.{Rule}
use Rattle.cf_policy.specs.Verdict.{takes, has_act}
use Rattle.cf_acts.specs.Commands.{IsOfCommand}

-- a rule of Modbus has the function and the group of its reads
abbrev pub NamesReads : Protocol → Rule → Type 0
NamesReads protocol rule = (protocol ≡ Modbus) × (takes rule.codes (pos 23) ≡ true) × (takes rule.groups (pos 0) ≡ true)

-- a command with the function reads this point, and the read is the rule's
pub record HasReadAt (rule : Rule) (client point : ℕ) : Type 0 where
  pub act : Act
  pub of_command : IsOfCommand Modbus act
  pub code : act.code ≡ 23
  pub group : act.group ≡ 0
  pub place : act.point ≡ point
  pub had : has_act rule client act ≡ true

-- the reads for each client and at each address that the rule has
abbrev pub HasReads : Rule → Type 0
HasReads rule =
    (client point : ℕ) → takes rule.clients (pos client) ≡ true → takes rule.points (pos point) ≡ true → point < 65536 →
    HasReadAt rule client point

-- some command with the function has a read that is the rule's
pub record HasSomeRead (rule : Rule) : Type 0 where
  pub client : ℕ
  pub point : ℕ
  pub read : HasReadAt rule client point
