-- Modbus in the lane: the fate of an ADU (`HasAduFate`), what it puts into the stream to each side, and what its line shows. Modbus
-- Application Protocol V1.1b3; fates are this project's own.
use Rattle.cf_lane.specs.Rates.{Says}
use Rattle.cf_lane.specs.Acts.{fate_of_acts}
use Rattle.cf_lane.specs.Judged.{goes_on}
use Rattle.cf_lane.specs.declared.fate.Fate.{Fate}
use Rattle.cf_lane.specs.declared.fate.Refusal.{Refusal}
use Rattle.cf_modbus.specs.Acts.{acts}
use Rattle.cf_modbus.specs.Adu.{AduValue, spelling}
use Rattle.cf_modbus.specs.Exception.{exception_of}
use Rattle.cf_modbus.specs.Request.{Reads, RequestValue, refusal_reason}
use Rattle.cf_modbus.specs.declared.RequestRefusal.{RequestRefusal}
use Rattle.cf_policy.specs.declared.Asset.{Asset}
use Rattle.cf_view.specs.declared.Act.{Act}
use Rattle.cf_view.specs.declared.Side.{Side}
use Rattle.std.specs.Prelude.{Bool, Err, List, None, Ok, [], false, if◌then◌else◌, slice_index, true, ℕ, ◌≡◌, ◌≢◌}
use Rattle.cf_policy.specs.declared.Decider.TheVariants as decider
use Rattle.cf_lane.specs.declared.fate.Fate.TheVariants as fate
use Rattle.cf_view.specs.declared.Reason.TheVariants as reason
use Rattle.cf_view.specs.declared.Side.TheVariants as side

-- the act that stands for a whole command: its function code, with a point
abbrev pub whole_act : AduValue → ℕ → Act
whole_act a point = record { code = slice_index a.pdu 0; group = 0; point = point; value = None }

-- a command for another station shows the station that it is for
abbrev pub station_refusal : AduValue → Refusal
station_refusal a = record { decider = decider.Station; reason = reason.Station; act = whole_act a a.unit }

-- the refusal of a request whose form is not served
abbrev pub form_refusal : AduValue → RequestRefusal → Refusal
form_refusal a refusal = record { decider = decider.Form; reason = refusal_reason refusal; act = whole_act a 0 }

-- the fate of a client's ADU: the station is compared first, then the form is read, then the acts are judged
pub data HasCommandFate (asset : Asset) (says : Says) (a : AduValue) (f : Fate) : Type 0 where
  of_other_station : a.unit ≢ asset.station → f ≡ fate.Refused (station_refusal a) → HasCommandFate asset says a f
  of_no_form : a.unit ≡ asset.station → (refusal : RequestRefusal) → Reads (Err refusal) a.pdu → f ≡ fate.Refused (form_refusal a refusal)
      → HasCommandFate asset says a f
  of_its_acts : a.unit ≡ asset.station → (r : RequestValue) → Reads (Ok r) a.pdu → f ≡ fate_of_acts asset says (acts r)
      → HasCommandFate asset says a f

-- the fate of an ADU: what the controller sends goes on
abbrev pub HasAduFate : Asset → Says → Side → AduValue → Fate → Type 0
HasAduFate asset says side.Client a f = HasCommandFate asset says a f
HasAduFate asset says side.Controller a f = f ≡ fate.Carried

-- a reply is the exception response; nothing follows an End
abbrev pub adu_reply : (ended : Bool) → Fate → AduValue → List ℕ
adu_reply true f a = []
adu_reply false (fate.Refused refusal) a = spelling (exception_of a refusal.reason)
adu_reply false fate.Carried a = []
adu_reply false (fate.Admitted used) a = []
adu_reply false (fate.Stray because) a = []
adu_reply false fate.Lengthens a = []
adu_reply false (fate.Cuts because) a = []

-- what an ADU of a side puts into the stream to a side: itself, or a reply
abbrev pub adu_output : Side → (ended : Bool) → Side → Fate → AduValue → List ℕ
adu_output side.Client ended side.Client f a = adu_reply ended f a
adu_output side.Client ended side.Controller f a = if goes_on f then spelling a else []
adu_output side.Controller ended side.Client f a = if goes_on f then spelling a else []
adu_output side.Controller ended side.Controller f a = []

-- the octets that the line of an ADU shows
abbrev pub adu_octets : AduValue → List ℕ
adu_octets a = spelling a
