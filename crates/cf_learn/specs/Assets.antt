-- The policy that is learned from what flows show: AreLearned.
use Rattle.std.specs.Prelude.{◌≡◌, ℕ, ◌^◌, ◌<◌, ◌↔◌, List, [], ◌∷◌, ◌++◌, Contains, length}
use Rattle.cf_acts.specs.Commands.{IsOfCommand}
use Rattle.cf_view.specs.declared.Act.{Act}
use Rattle.cf_policy.specs.declared.Asset.{Asset}
use Rattle.cf_policy.specs.declared.Rule.{Rule}
use Rattle.cf_policy.specs.Laws.{IsAllowed}
use Rattle.cf_policy.specs.Verdict.{verdict_of}
use Rattle.cf_policy.specs.Within.{IsAssetWithin}
use Rattle.cf_watch.specs.FlowValue.{FlowValue}
use Rattle.cf_learn.specs.declared.seen.Seen.{Seen}
use Rattle.cf_learn.specs.declared.assets.LearnFault.{LearnFault}
use Rattle.cf_learn.specs.declared.assets.LearnFault.TheVariants as fault
use Rattle.cf_learn.specs.Greatest.{IsGrouped}
use Rattle.cf_learn.specs.Rules.{AreLearnedFrom, MakesTooMany}
use Rattle.cf_learn.specs.Seen.{seen_of}
use Rattle.cf_learn.specs.Shown.{IsSeen, site_place}

-- the asset with other rules
abbrev pub with_rules : Asset → List Rule → Asset
with_rules asset rules = record asset { rules = rules }

-- the acts of clients that flows to the site at this place show of the asset, each an act of a command of its protocol by a client with an address
pub record AreSeen (asset : Asset) (place : ℕ) (flows : List FlowValue) (seen : List Seen) : Type 0 where
  pub exactly : (client : ℕ) (act : Act) → Contains seen (seen_of client act) ↔ IsSeen asset place flows client act
  pub of_commands : (client : ℕ) (act : Act) → Contains seen (seen_of client act) → IsOfCommand asset.protocol act
  pub clients : (client : ℕ) (act : Act) → Contains seen (seen_of client act) → client < 2 ^ 32

-- the asset with rules that allow an act that a command can have exactly where flows to the site at this place show it of the client
pub record IsLearnedAsset (asset : Asset) (place : ℕ) (flows : List FlowValue) (learned : Asset) : Type 0 where
  pub same : learned ≡ with_rules asset learned.rules
  pub seen : List Seen
  pub are_seen : AreSeen asset place flows seen
  pub rules : AreLearnedFrom seen learned.rules
  pub grouped : IsGrouped learned.rules
  pub within : IsAssetWithin learned
  pub exact : (client : ℕ) (act : Act) → IsOfCommand asset.protocol act
      → IsAllowed (verdict_of learned client act) ↔ IsSeen asset place flows client act

-- asset by asset, each of what the flows to its site show of it; all are the assets of the policy
abbrev pub AreLearned : List FlowValue → (all : List Asset) → List Asset → List Asset → Type 0
AreLearned flows all [] [] = Unit {0}
AreLearned flows all (asset ∷ assets) (one ∷ learned) = IsLearnedAsset asset (site_place all asset) flows one × AreLearned flows all assets learned
AreLearned flows all [] (one ∷ learned) = ⊥
AreLearned flows all (asset ∷ assets) [] = ⊥

-- what flows show of the asset makes too many rules
pub record LearnsTooMany (asset : Asset) (place : ℕ) (flows : List FlowValue) : Type 0 where
  pub seen : List Seen
  pub are_seen : AreSeen asset place flows seen
  pub many : MakesTooMany seen

-- the asset at this place would have too many rules, and the earlier ones are learned
pub record IsFirstTooMany (flows : List FlowValue) (assets : List Asset) (place : ℕ) : Type 0 where
  pub earlier : List Asset
  pub asset : Asset
  pub later : List Asset
  pub here : assets ≡ earlier ++ asset ∷ later
  pub at : length earlier ≡ place
  pub many : LearnsTooMany asset (site_place assets asset) flows
  pub learned : List Asset
  pub are_learned : AreLearned flows assets earlier learned

abbrev pub StopsAt : List FlowValue → List Asset → LearnFault → Type 0
StopsAt flows assets fault.NoMemory = Unit {0}
StopsAt flows assets (fault.Many place) = IsFirstTooMany flows assets place
