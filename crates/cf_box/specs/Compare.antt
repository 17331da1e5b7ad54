-- `compare POLICY OTHER`: whether the first policy allows only what the second allows. The main definitions are `Compares`,
-- `DeniesInclusion` and `FilesExceed`; what one policy allows beyond another is said in `cf_compare`.
use Rattle.std.specs.Prelude.{◌≡◌, ◌≢◌, ℕ, List, All, Result, Ok, Err}
use Rattle.cf_compare.specs.Inclusion.{IsIncludedIn}
use Rattle.cf_compare.specs.Outcome.{HasDifference, HasNoPartner, HasNothing, HasTooManyCells, StopsAt}
use Rattle.cf_outside.specs.Files.{holds}
use Rattle.cf_policy.specs.declared.Policy.{Policy}
use Rattle.cf_policylang.specs.Documents.{policy_meaning}
use Rattle.cf_box.specs.Check.{ChangesNothing}
use Rattle.cf_ending.specs.Outside.{Outside}
use Rattle.cf_box.specs.PolicyFile.{HasPolicy}
use Rattle.cf_ending.specs.declared.Denial.{Denial}
use Rattle.cf_ending.specs.declared.Denial.TheVariants as denial
use Rattle.cf_ending.specs.declared.Done.{Done}
use Rattle.cf_ending.specs.declared.Done.TheVariants as done
use Rattle.cf_ending.specs.declared.Stop.{Stop}
use Rattle.cf_ending.specs.declared.Stop.TheVariants as stop

-- ---- what is said of two policies

-- the asset at this place is the first that is not included: the second policy has no such controller, or refuses what the first
-- allows there, and this is the first such act
abbrev pub IsNotIncluded : (ours theirs : Policy) → Denial → Type 0
IsNotIncluded ours theirs (denial.NoPartner name) =
    (place : ℕ) × StopsAt ours theirs place (λ asset. (name.bytes ≡ asset.name) × HasNoPartner theirs asset)
IsNotIncluded ours theirs (denial.Objects tells) = ⊥
IsNotIncluded ours theirs (denial.Remarks counts) = ⊥
IsNotIncluded ours theirs (denial.Allows name client act) =
    (place : ℕ) × StopsAt ours theirs place (λ asset. (name.bytes ≡ asset.name) × HasDifference theirs asset client act)

-- or the rules of the asset of this name make too many cells
abbrev pub ExceedsAt : (ours theirs : Policy) → (name : List ℕ) → Type 0
ExceedsAt ours theirs name =
    (place : ℕ) × StopsAt ours theirs place (λ asset. (name ≡ asset.name) × HasTooManyCells theirs asset)

-- the first policy is included in the second, and no other answer could come for any of its assets
pub record IsIncluded (ours theirs : Policy) : Type 0 where
  pub included : IsIncludedIn ours theirs
  pub nothing : All (HasNothing theirs) ours.assets

-- the answer about two policies
abbrev pub Says : (ours theirs : Policy) → Result Done Stop → Type 0
Says ours theirs (Ok d) = (d ≡ done.Included) × IsIncluded ours theirs
Says ours theirs (Err (stop.Denied why)) = IsNotIncluded ours theirs why
Says ours theirs (Err (stop.TooManyCells name)) = ExceedsAt ours theirs name.bytes
Says ours theirs (Err stop.NoMemory) = Unit {0}
Says ours theirs (Err _) = ⊥

-- ---- of the policies of two files

-- the files mean these policies
pub record HasPolicies (policy other : List ℕ) (before : Outside) (ours theirs : Policy) : Type 0 where
  pub has_ours : HasPolicy (before.files.content policy) ours
  pub has_theirs : HasPolicy (before.files.content other) theirs

module _ (policy other : List ℕ) (before : Outside) where
  -- they mean two policies of which this is so
  abbrev pub OfPolicies : (Policy → Policy → Type 0) → Type 0
  OfPolicies Holds = (ours theirs : Policy) × HasPolicies policy other before ours theirs × Holds ours theirs

  -- the first is not included in the second
  abbrev pub DeniesInclusion : Denial → Type 0
  DeniesInclusion why = OfPolicies (λ ours theirs. IsNotIncluded ours theirs why)

  -- there is too much to compare at the asset of this name
  abbrev pub FilesExceed : (name : List ℕ) → Type 0
  FilesExceed name = OfPolicies (λ ours theirs. ExceedsAt ours theirs name)

  -- whatever they mean, no asset stands against inclusion
  abbrev pub IncludesAll : Type 0
  IncludesAll = (ours theirs : Policy) → HasPolicies policy other before ours theirs → All (HasNothing theirs) ours.assets

  -- both are told, and mean two policies of which some asset of the first stands against inclusion
  pub record TellsNotIncluded : Type 0 where
    pub bytes : List ℕ
    pub other_bytes : List ℕ
    pub ours : Policy
    pub theirs : Policy
    pub told : before.files.content policy ≡ holds bytes
    pub other_told : before.files.content other ≡ holds other_bytes
    pub means : policy_meaning bytes ≡ Ok ours
    pub other_means : policy_meaning other_bytes ≡ Ok theirs
    pub not_all : All (HasNothing theirs) ours.assets → ⊥

  -- the work is done: the first is included in the second, and no file changed
  pub record Compares (after : Outside) (d : Done) : Type 0 where
    pub includes : OfPolicies IsIncluded
    pub answer : d ≡ done.Included
    pub same : ChangesNothing before after

-- whatever stops it
pub record CompareLeaves (before after : Outside) (s : Stop) : Type 0 where
  pub unwritten : s ≢ stop.WriteFault
  pub same : ChangesNothing before after
