-- Steps of the proof: the octets of a flow are read in one way: `ReadingsAreOne`.
use Rattle.std.specs.Prelude.{◌≡◌, ℕ, List, []}
use Rattle.cf_judge.specs.Plain.{AreRead, Ending}
use Rattle.cf_lane.specs.Judged.{Judged}
use Rattle.cf_policy.specs.Site.{SiteValue}

-- two readings of the same octets, which came with the same records, have the same units, fates and ending
abbrev pub ReadingsAreOne : Type 0
ReadingsAreOne =
    (site : SiteValue) (client : ℕ) (bytes born : List ℕ) (js ks : List Judged) (ending other : Ending) →
    AreRead site client [] bytes born js ending → AreRead site client [] bytes born ks other → (js ≡ ks) × (ending ≡ other)
