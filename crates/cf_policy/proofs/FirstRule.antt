-- What the first rule that has an act means for the verdict.
use Rattle.std.proofs.Common.{◌≡◌, ℕ, ◌⊎◌, Bool, List, Some, None, subst, sym, ◌∙◌, refl}
use mathlib.Core.Logic.{⊎_elim}
use Rattle.cf_view.specs.declared.base.Act.{Act}
use Rattle.cf_policy.specs.declared.policy.Rule.{Rule}
use Rattle.cf_policy.specs.declared.policy.Asset.{Asset}
use Rattle.cf_policy.specs.declared.policy.Action.{Action}
use Rattle.cf_policy.specs.declared.policy.Action.TheVariants.{Allow, Refuse}
use Rattle.cf_policy.specs.declared.policy.Decider.TheVariants as decider
use Rattle.cf_policy.specs.declared.policy.Verdict.TheVariants as verdict
use Rattle.cf_policy.specs.Verdict.{has_act, first_rule, by_rule, default_reason, verdict_of}
use Rattle.cf_policy.specs.Laws.{IsAllowed, IsAllowedByRule, AllowsByFirstRule, IsDecidedByRule, with_rule, KeepsDecidedActs}
use Rattle.cf_policy.proofs.FirstPlace.{IsFirstAt, first_at, position_is, first_at_append}
use Rattle.std.proofs.lemmas.Grind.{common_steps}
use Rattle.std.proofs.Common.{arith}

-- the rule of this number has the act, and no earlier rule has it
abbrev pub IsFirst : List Rule → ℕ → Act → ℕ → Rule → Type 0
IsFirst all client act n r = IsFirstAt (λ q. has_act q client act) all n r

first_rule_is : (all : List Rule) (client : ℕ) (act : Act) (n : ℕ) (r : Rule) → IsFirst all client act n r → first_rule all client act ≡ Some (n, r)
first_rule_is all client act n r f = rw (position_is (λ q. has_act q client act) all n r f, f.here) refl

pub verdict_is : (asset : Asset) (client : ℕ) (act : Act) (n : ℕ) (r : Rule) → IsFirst asset.rules client act n r → verdict_of asset client act ≡ by_rule n r r.action
verdict_is asset client act n r f = rw (first_rule_is asset.rules client act n r f) refl

-- a rule that is first decides, or none has the act
pub cases : (all : List Rule) (client : ℕ) (act : Act)
    → ((n : ℕ) × (r : Rule) × IsFirst all client act n r) ⊎ (first_rule all client act ≡ None)
cases all client act = grind (arith, common_steps, first_at)

pub default_is : (asset : Asset) (client : ℕ) (act : Act) → first_rule asset.rules client act ≡ None
    → verdict_of asset client act ≡ verdict.Refuse decider.Default (default_reason asset.rules client act)
default_is asset client act e = rw e refl

allow_of : (n : ℕ) (r : Rule) (a : Action) → IsAllowed (by_rule n r a) → a ≡ Allow
allow_of n r Allow h = refl
allow_of n r Refuse h = absurd h

allowed : (asset : Asset) (client : ℕ) (act : Act) → IsAllowed (verdict_of asset client act) → IsAllowedByRule asset.rules client act
allowed asset client act h =
    ⊎_elim
    (λ q. record {
      number = q.0;
      rule = q.1;
      here = q.2.here;
      allows = allow_of q.0 q.1 q.1.action (subst IsAllowed (verdict_is asset client act q.0 q.1 q.2) h);
      has = q.2.passes;
      first = q.2.before;
    })
    (λ e. absurd (subst IsAllowed (default_is asset client act e) h))
    (cases asset.rules client act)

allows : (asset : Asset) (client : ℕ) (act : Act) → IsAllowedByRule asset.rules client act → IsAllowed (verdict_of asset client act)
allows asset client act b =
    let f : IsFirst asset.rules client act b.number b.rule = record { here = b.here; passes = b.has; before = b.first } in
    rw (verdict_is asset client act b.number b.rule f, b.allows) tt

pub allows_by_first : AllowsByFirstRule
allows_by_first asset client act = (allowed asset client act, allows asset client act)

pub keeps_decided : KeepsDecidedActs
keeps_decided asset rule client act h =
    ⊎_elim
    (λ q. let p : Rule → Bool = λ r. has_act r client act in
    verdict_is (with_rule asset rule) client act q.0 q.1 (first_at_append p asset.rules q.0 q.1 rule q.2)
    ∙ sym (verdict_is asset client act q.0 q.1 q.2))
    (λ e. absurd (subst IsDecidedByRule (default_is asset client act e) h))
    (cases asset.rules client act)
