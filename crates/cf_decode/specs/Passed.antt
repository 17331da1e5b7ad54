-- What goes to the controller of a session, one after the other: the main definition is `passed`, which stands last. Which items go on
-- is the fate of each (cf_lane, `Fate`).
use Rattle.cf_decode.specs.Dnp3.{passed_by_frame}
use Rattle.cf_decode.specs.Iec104.{passed_by_apdu}
use Rattle.cf_decode.specs.Units.{Passed, Whole}
use Rattle.cf_lane.specs.Item.{Broke, Ended, Item, Took}
use Rattle.cf_lane.specs.Judged.{Judged, goes_on, in_turn}
use Rattle.cf_lane.specs.Parts.{bears, part}
use Rattle.cf_lane.specs.Site.{item_place}
use Rattle.cf_lane.specs.Unit.{Adu, Apdu, Frame}
use Rattle.cf_policy.specs.Site.{SiteValue, asset_of}
use Rattle.cf_policy.specs.declared.Asset.{Asset}
use Rattle.std.specs.Prelude.{List, [], if◌then◌else◌, ℕ, ◌∷◌}
use Rattle.cf_view.specs.declared.Side.TheVariants as side

-- what goes to an asset by an item, after the earlier ones: one case a protocol, and an admitted ADU of Modbus as it came. Nothing
-- goes there that the controller sent
abbrev pub passed_by : Asset → List Judged → Judged → Item → List Passed
passed_by asset earlier j (Took side.Client (Adu a)) = if goes_on j.fate then Whole (Adu a) ∷ [] else []
passed_by asset earlier j (Took side.Client (Frame x)) = passed_by_frame asset earlier j.fate x
passed_by asset earlier j (Took side.Client (Apdu a)) = passed_by_apdu earlier j.fate a
passed_by asset earlier j (Took side.Controller u) = []
passed_by asset earlier j (Ended s n) = []
passed_by asset earlier j (Broke s because) = []

-- what goes to the asset of a place by a judged item, after the earlier ones that bear on it
abbrev pub passed_to : SiteValue → (k : ℕ) → List Judged → Judged → List Passed
passed_to site k earlier j = passed_by (asset_of site k) (bears j.item earlier (part site k earlier)) j j.item

-- what goes to the controller by a judged item: what goes to the asset that it is for
abbrev pub passed_now : SiteValue → List Judged → Judged → List Passed
passed_now site earlier j = passed_to site (item_place site j.item) earlier j

-- what goes to the controller by judged items, in their order
abbrev pub passed : SiteValue → List Judged → List Passed
passed site js = in_turn (passed_now site) [] js
