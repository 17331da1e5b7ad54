-- The stream to each side, `outputs`: the spellings of what goes there, in order.
use Rattle.cf_lane.specs.Dnp3.{frame_output}
use Rattle.cf_lane.specs.Iec104.{apdu_output}
use Rattle.cf_lane.specs.Item.{Broke, Ended, Item, Took}
use Rattle.cf_lane.specs.Judged.{Judged, has_ended, in_turn}
use Rattle.cf_lane.specs.Modbus.{adu_output}
use Rattle.cf_lane.specs.Parts.{bears, part}
use Rattle.cf_lane.specs.Site.{item_place}
use Rattle.cf_lane.specs.Unit.{Adu, Apdu, Frame, UnitValue}
use Rattle.cf_policy.specs.Site.{SiteValue, asset_of}
use Rattle.cf_policy.specs.declared.Asset.{Asset}
use Rattle.cf_stream.specs.Stream.{Stream}
use Rattle.cf_view.specs.declared.Side.{Side}
use Rattle.std.specs.Prelude.{List, [], ℕ}
use Rattle.cf_view.specs.declared.Side.TheVariants as side

-- what a unit of a side puts into the stream to a side, after the earlier items: one case a protocol
abbrev pub unit_output : Asset → Side → List Judged → Judged → Side → UnitValue → List ℕ
unit_output asset to earlier j s (Adu a) = adu_output to (has_ended side.Controller earlier) s j.fate a
unit_output asset to earlier j s (Frame x) = frame_output asset to earlier j s x
unit_output asset to earlier j s (Apdu a) = apdu_output to earlier j.fate s a

-- what an item puts into the stream to a side by one asset: an End and a break nothing
abbrev pub item_output : Asset → Side → List Judged → Judged → Item → List ℕ
item_output asset to earlier j (Took s unit) = unit_output asset to earlier j s unit
item_output asset to earlier j (Ended s rest) = []
item_output asset to earlier j (Broke s because) = []

-- what a judged item puts there by the asset of a place, after the earlier items that bear on it
abbrev pub output_by : SiteValue → (k : ℕ) → Side → List Judged → Judged → List ℕ
output_by site k to earlier j = item_output (asset_of site k) to (bears j.item earlier (part site k earlier)) j j.item

-- what a judged item puts into the stream to a side, by the asset that it is for
abbrev pub output : SiteValue → Side → List Judged → Judged → List ℕ
output site to earlier j = output_by site (item_place site j.item) to earlier j

-- the bytes of the stream to a side
abbrev pub outputs : SiteValue → Side → List Judged → List Judged → List ℕ
outputs site to earlier js = in_turn (output site to) earlier js

-- the other side
abbrev pub other : Side → Side
other side.Client = side.Controller
other side.Controller = side.Client

-- the stream to a side: End stands after the last spelling once the other side's End is an item
abbrev pub stream_to : SiteValue → Side → List Judged → Stream
stream_to site to js = record { bytes = outputs site to [] js; ended = has_ended (other to) js }
