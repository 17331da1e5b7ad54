-- What the verdict means, in other words than those that define it: AllowsByFirstRule, KeepsDecidedActs.
use Rattle.std.specs.Prelude.{◌≡◌, ℕ, ◌<◌, ◌↔◌, true, false, List, [], ◌∷◌, ◌++◌, Some, slice_get}
use Rattle.cf_view.specs.declared.base.Act.{Act}
use Rattle.cf_policy.specs.declared.policy.Rule.{Rule}
use Rattle.cf_policy.specs.declared.policy.Asset.{Asset}
use Rattle.cf_policy.specs.declared.policy.Action.TheVariants.{Allow}
use Rattle.cf_policy.specs.declared.policy.Decider.TheVariants as decider
use Rattle.cf_policy.specs.declared.policy.Verdict.{Verdict}
use Rattle.cf_policy.specs.declared.policy.Verdict.TheVariants as verdict
use Rattle.cf_policy.specs.Verdict.{has_act, verdict_of}

-- the verdict allows the act
abbrev pub IsAllowed : Verdict → Type 0
IsAllowed (verdict.Allow n) = Unit {0}
IsAllowed _ = ⊥

-- no rule before this number has the act
abbrev pub HasNoneBefore : ℕ → List Rule → ℕ → Act → Type 0
HasNoneBefore n rules client act = (k : ℕ) (r : Rule) → k < n → slice_get rules k ≡ Some r → has_act r client act ≡ false

-- some allow rule has the act, and no earlier rule has it
pub record IsAllowedByRule (rules : List Rule) (client : ℕ) (act : Act) : Type 0 where
  pub number : ℕ
  pub rule : Rule
  pub here : slice_get rules number ≡ Some rule
  pub allows : rule.action ≡ Allow
  pub has : has_act rule client act ≡ true
  pub first : HasNoneBefore number rules client act

-- an act is allowed exactly where some allow rule has it and no earlier rule has it
abbrev pub AllowsByFirstRule : Type 0
AllowsByFirstRule =
    (asset : Asset) (client : ℕ) (act : Act) → IsAllowed (verdict_of asset client act) ↔ IsAllowedByRule asset.rules client act

-- `default` did not decide
abbrev pub IsDecidedByRule : Verdict → Type 0
IsDecidedByRule (verdict.Refuse decider.Default why) = ⊥
IsDecidedByRule _ = Unit {0}

-- the asset with one more rule after the others
abbrev pub with_rule : Asset → Rule → Asset
with_rule asset rule = record asset { rules = asset.rules ++ rule ∷ [] }

-- a rule put at the end changes only acts that `default` decided
abbrev pub KeepsDecidedActs : Type 0
KeepsDecidedActs =
    (asset : Asset) (rule : Rule) (client : ℕ) (act : Act)
    → IsDecidedByRule (verdict_of asset client act) → verdict_of (with_rule asset rule) client act ≡ verdict_of asset client act
