-- What the commands of a session used of each asset's rates: `used_at`; and that no rate is exceeded, `KeepsRates`.
use Rattle.cf_lane.specs.Caller.{RateMoments}
use Rattle.cf_lane.specs.Judged.{Judged}
use Rattle.cf_lane.specs.Parts.{part}
use Rattle.cf_lane.specs.Rates.{KeepsOwnRates, own_used_at}
use Rattle.cf_policy.specs.Site.{SiteValue, asset_of}
use Rattle.std.specs.Prelude.{List, ℕ}

-- of each asset: the moments at which earlier sessions used its rules, and then those of its own earlier items of this one
abbrev pub used_at : SiteValue → (before : RateMoments) → (earlier : List Judged) → RateMoments
used_at site before earlier k = own_used_at (before k) (part site k earlier)

-- each asset's own commands among judged items keep the rates of its rules: what another asset's commands used does not count
abbrev pub KeepsRates : SiteValue → (before : RateMoments) → List Judged → Type 0
KeepsRates site before js = (k : ℕ) → KeepsOwnRates (asset_of site k) (before k) (part site k js)
