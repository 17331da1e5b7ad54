-- What goes to the controller by an APDU of the client: `passed_by_apdu`. IEC 60870-5-104, section 5.
use Rattle.cf_apci.specs.Apdu.{Ack, ApduValue}
use Rattle.cf_decode.specs.Units.{Passed, Whole}
use Rattle.cf_lane.specs.Iec104.{info_number, renumbered}
use Rattle.cf_lane.specs.Judged.{Judged, goes_on, is_refused}
use Rattle.cf_lane.specs.Numbers.{events_of}
use Rattle.cf_lane.specs.Unit.{Apdu}
use Rattle.cf_lane.specs.declared.fate.Fate.{Fate}
use Rattle.cf_renumber.specs.Counts.{owed_ack}
use Rattle.std.specs.Prelude.{List, None, Option, Some, [], if◌then◌else◌, ℕ, ◌∷◌}
use Rattle.cf_view.specs.declared.Side.TheVariants as side

-- an S frame, where one is owed
abbrev pub acks : Option ℕ → List Passed
acks None = []
acks (Some receive) = Whole (Apdu (Ack receive)) ∷ []

-- an APDU that is admitted or carried, with the numbers of its place; a refused I frame leaves an S frame, where it acknowledges
-- more than went there
abbrev pub passed_by_apdu : List Judged → Fate → ApduValue → List Passed
passed_by_apdu earlier f a =
    if goes_on f then Whole (Apdu (renumbered side.Controller earlier a)) ∷ []
    else (if is_refused f then acks (owed_ack (events_of earlier) (info_number a)) else [])
