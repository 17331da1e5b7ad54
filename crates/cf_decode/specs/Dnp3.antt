-- What goes to the controller by a frame of the client: `passed_by_frame`. IEEE 1815-2012, sections 8.2 and 9.2.
use Rattle.cf_decode.specs.Units.{Fragment, Passed, Whole, addresses_of}
use Rattle.cf_dnplink.specs.LinkFrame.{FrameValue}
use Rattle.cf_lane.specs.Dnp3.{is_data, whole_now}
use Rattle.cf_lane.specs.Judged.{Judged, goes_on}
use Rattle.cf_lane.specs.Unit.{Frame}
use Rattle.cf_lane.specs.declared.fate.Fate.{Fate}
use Rattle.cf_policy.specs.declared.Asset.{Asset}
use Rattle.std.specs.Prelude.{List, [], if◌then◌else◌, map, ◌∷◌}
use Rattle.cf_view.specs.declared.Side.TheVariants as side

-- the fragment that a data frame to an asset completes, where it is admitted or carried; a link status frame, as it came
abbrev pub passed_by_frame : Asset → List Judged → Fate → FrameValue → List Passed
passed_by_frame asset earlier f x =
    if goes_on f then (if is_data x then map (Fragment (addresses_of asset)) (whole_now asset side.Client earlier x) else Whole (Frame x) ∷ []) else []
