-- What a draft allows: AreDrafted. Read from the end. What flows show is said in `cf_learn`.
use Rattle.std.specs.Prelude.{◌≡◌, ℕ, List, length, slice_get, Some}
use Rattle.cf_acts.specs.Commands.{IsOfCommand}
use Rattle.cf_compare.specs.Inclusion.{IsInRange}
use Rattle.cf_learn.specs.Assets.{with_rules}
use Rattle.cf_learn.specs.Shown.{IsSeen, site_place}
use Rattle.cf_policy.specs.declared.Asset.{Asset}
use Rattle.cf_policy.specs.Laws.{IsAllowed}
use Rattle.cf_policy.specs.Verdict.{verdict_of}
use Rattle.cf_view.specs.declared.Act.{Act}
use Rattle.cf_watch.specs.FlowValue.{FlowValue}

-- each act that flows to the site at this place show of the asset is allowed
abbrev pub AllowsShown : Asset → (place : ℕ) → List FlowValue → (drafted : Asset) → Type 0
AllowsShown asset place flows drafted =
    (client : ℕ) (act : Act) → IsSeen asset place flows client act → IsAllowed (verdict_of drafted client act)

-- of the acts that commands can have, by clients that there can be, no other is
abbrev pub AllowsOnlyShown : Asset → (place : ℕ) → List FlowValue → (drafted : Asset) → Type 0
AllowsOnlyShown asset place flows drafted =
    (client : ℕ) (act : Act) → IsInRange client act → IsOfCommand asset.protocol act → IsAllowed (verdict_of drafted client act)
    → IsSeen asset place flows client act

-- the asset with other rules, which allow each act that flows to the site at this place show of it, and no other where nothing was widened
pub record IsDraftedAsset (asset : Asset) (place : ℕ) (flows : List FlowValue) (widened : ℕ) (drafted : Asset) : Type 0 where
  pub same : drafted ≡ with_rules asset drafted.rules
  pub shown : AllowsShown asset place flows drafted
  pub only : widened ≡ 0 → AllowsOnlyShown asset place flows drafted

-- so each asset of a policy was drafted by the flows to its site, where so many were widened
pub record AreDrafted (flows : List FlowValue) (widened : ℕ) (assets drafted : List Asset) : Type 0 where
  pub count : length drafted ≡ length assets
  pub each :
      (place : ℕ) (asset own : Asset) → slice_get assets place ≡ Some asset → slice_get drafted place ≡ Some own →
      IsDraftedAsset asset (site_place assets asset) flows widened own
