-- When one policy allows only what another allows: IsIncludedIn; and what shows that it does not: IsLeastDifference.
use Rattle.std.specs.Prelude.{◌≡◌, ℕ, ◌<◌, ◌⊎◌, pos, ℤ, ◌≤ℤ◌, All, Contains, Option, Some, None, IfSome}
use Rattle.cf_view.specs.declared.base.Act.{Act}
use Rattle.cf_policy.specs.declared.policy.Asset.{Asset}
use Rattle.cf_policy.specs.declared.policy.Policy.{Policy}
use Rattle.cf_policy.specs.Laws.{IsAllowed}
use Rattle.cf_policy.specs.Verdict.{verdict_of}
use Rattle.cf_policy.specs.Within.{highest_address, highest_code, highest_group, highest_point, lowest_value, highest_value}

-- the client and the act have their numbers in the ranges of a policy; the act may have no value
pub record IsInRange (client : ℕ) (act : Act) : Type 0 where
  pub address : pos client ≤ℤ highest_address
  pub code : pos act.code ≤ℤ highest_code
  pub group : pos act.group ≤ℤ highest_group
  pub point : pos act.point ≤ℤ highest_point
  pub value : IfSome act.value (λ n. (lowest_value ≤ℤ n) × (n ≤ℤ highest_value))

-- the asset's rules allow the client's act
abbrev pub Allows : Asset → ℕ → Act → Type 0
Allows asset client act = IsAllowed (verdict_of asset client act)

-- the second asset allows each client and act that the first allows
abbrev pub AllowsAllOf : Asset → Asset → Type 0
AllowsAllOf ours other = (client : ℕ) (act : Act) → IsInRange client act → Allows ours client act → Allows other client act

-- two assets that are one controller under one name
pub record IsSameController (ours other : Asset) : Type 0 where
  pub name : ours.name ≡ other.name
  pub endpoint : ours.endpoint ≡ other.endpoint
  pub protocol : ours.protocol ≡ other.protocol
  pub station : ours.station ≡ other.station
  pub master : ours.master ≡ other.master

-- an asset of the second policy is the same controller and allows each client and act that this one allows
pub record IsIncludedAsset (other : Policy) (asset : Asset) : Type 0 where
  pub partner : Asset
  pub here : Contains other.assets partner
  pub same : IsSameController asset partner
  pub allows : AllowsAllOf asset partner

-- each asset of the first policy is included in the second
abbrev pub IsIncludedIn : Policy → Policy → Type 0
IsIncludedIn ours other = All (IsIncludedAsset other) ours.assets

-- the first asset allows the client's act, and the second refuses it
pub record IsDifference (ours other : Asset) (client : ℕ) (act : Act) : Type 0 where
  pub in_range : IsInRange client act
  pub allowed : Allows ours client act
  pub refused : Allows other client act → ⊥

-- the first number is less, or they are equal and this holds of what follows
abbrev pub IsLessOr : ℕ → ℕ → Type 0 → Type 0
IsLessOr m n rest = (m < n) ⊎ ((m ≡ n) × rest)

-- no value stands before numbers
abbrev pub IsValueUpTo : Option ℤ → Option ℤ → Type 0
IsValueUpTo None w = Unit {0}
IsValueUpTo (Some m) None = ⊥
IsValueUpTo (Some m) (Some n) = m ≤ℤ n

-- an act that is not after the other by code, then client, group, point and value
abbrev pub IsUpTo : ℕ → Act → ℕ → Act → Type 0
IsUpTo client act another later =
    IsLessOr act.code later.code
    (IsLessOr client another
    (IsLessOr act.group later.group
    (IsLessOr act.point later.point
    (IsValueUpTo act.value later.value))))

-- a difference, and none stands before it
pub record IsLeastDifference (ours other : Asset) (client : ℕ) (act : Act) : Type 0 where
  pub differs : IsDifference ours other client act
  pub least : (another : ℕ) (later : Act) → IsDifference ours other another later → IsUpTo client act another later

-- no difference, or the first
abbrev pub IsFirstDifference : Asset → Asset → Option (ℕ × Act) → Type 0
IsFirstDifference ours other None = AllowsAllOf ours other
IsFirstDifference ours other (Some found) = IsLeastDifference ours other found.0 found.1
