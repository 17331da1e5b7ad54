-- The items of a session that concern one asset of a site: `part`.
use Rattle.cf_lane.specs.Item.{Broke, Ended, Item, Took}
use Rattle.cf_lane.specs.Judged.{Judged}
use Rattle.cf_lane.specs.Site.{place_for}
use Rattle.cf_lane.specs.Unit.{Adu, Apdu, Frame}
use Rattle.cf_policy.specs.Site.{SiteValue}
use Rattle.std.specs.Prelude.{Bool, List, [], false, nat_eq, true, ℕ, ◌∷◌}

-- an item concerns the asset of a place: a unit that goes by it, and the End and the break of either side
abbrev pub concerns : SiteValue → (k : ℕ) → Item → Bool
concerns site k (Took s u) = nat_eq (place_for site s u) k
concerns site k (Ended s rest) = true
concerns site k (Broke s because) = true

-- an item before others, where it is one of them
abbrev pub with_if : Bool → Judged → List Judged → List Judged
with_if true j js = j ∷ js
with_if false j js = js

-- those of the items that concern the asset of a place
abbrev pub part : SiteValue → (k : ℕ) → List Judged → List Judged
part site k [] = []
part site k (j ∷ js) = with_if (concerns site k j.item) j (part site k js)

-- The earlier items that bear on an item, of all and of those that concern its asset: the latter, but for the numbers of
-- IEC 60870-5-104, which count for the whole session
abbrev pub bears : Item → (all own : List Judged) → List Judged
bears (Took s (Adu a)) all own = own
bears (Took s (Frame x)) all own = own
bears (Took s (Apdu a)) all own = all
bears (Ended s rest) all own = own
bears (Broke s because) all own = own

-- an item is an APDU
abbrev pub is_apdu : Item → Bool
is_apdu (Took s (Adu a)) = false
is_apdu (Took s (Frame x)) = false
is_apdu (Took s (Apdu a)) = true
is_apdu (Ended s rest) = false
is_apdu (Broke s because) = false
