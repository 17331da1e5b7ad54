-- Beside the proof: rules that decide nothing that a command can have: `DecidesNoCommand`, and `IsCover`, which says what has all that
-- they have. Warnings go by it.
use Rattle.std.specs.Prelude.{◌≡◌, ◌≢◌, ℕ, ◌^◌, ◌<◌, List, [], ◌∷◌, Some, length, slice_get, true}
use Rattle.std.specs.List.{list_any}
use Rattle.cf_view.specs.declared.base.Act.{Act}
use Rattle.cf_policy.specs.declared.policy.Protocol.{Protocol}
use Rattle.cf_policy.specs.declared.policy.Rule.{Rule}
use Rattle.cf_policy.specs.declared.policy.Asset.{Asset}
use Rattle.cf_policy.specs.Verdict.{has_act, first_number}
use Rattle.cf_acts.specs.Commands.{IsOfCommand}
use Rattle.cf_covered.specs.declared.answer.Cover.{Cover}
use Rattle.cf_covered.specs.declared.answer.Cover.TheVariants.{Rule as One, Rules as Several}

-- no act of a client's command is decided by the rule of this number
abbrev pub DecidesNoCommand : Asset → ℕ → Type 0
DecidesNoCommand asset number =
    (client : ℕ) (act : Act) → client < 2 ^ 32 → IsOfCommand asset.protocol act → first_number asset.rules client act ≢ Some number

-- each act of a client's command that the rule has is one of these rules' too
abbrev pub HaveAllOf : Protocol → List Rule → Rule → Type 0
HaveAllOf protocol rules rule =
    (client : ℕ) (act : Act) → client < 2 ^ 32 → IsOfCommand protocol act → has_act rule client act ≡ true
    → list_any (λ r. has_act r client act) rules ≡ true

-- the acts with one code, each of which a rule has
abbrev pub HaveCodeOf : Protocol → List Rule → Rule → ℕ → Type 0
HaveCodeOf protocol rules rule code =
    (client : ℕ) (act : Act) → act.code ≡ code → client < 2 ^ 32 → IsOfCommand protocol act → has_act rule client act ≡ true
    → list_any (λ r. has_act r client act) rules ≡ true

-- the earlier rule of this number has all that the rule has, or the earlier rules have it together
abbrev pub IsCover : Protocol → List Rule → Rule → Cover → Type 0
IsCover protocol earlier rule (One number) =
    (number < length earlier) × ((first : Rule) → slice_get earlier number ≡ Some first → HaveAllOf protocol (first ∷ []) rule)
IsCover protocol earlier rule Several = HaveAllOf protocol earlier rule
