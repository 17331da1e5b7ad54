-- What flows show of an asset: IsSeen. The commands are those that the readers of the protocols read, with the asset's station; the
-- frames, segments and fragments of DNP3 are put together as the filter does it, those to each asset for themselves. Read from the end.
use Rattle.std.specs.Prelude.{◌≡◌, ◌≢◌, ℕ, Bool, ◌&&◌, List, [], ◌∷◌, ◌++◌, map, Ok, Contains}
use Rattle.std.specs.List.{flat_map}
use Rattle.std.specs.Option.{option_map_or}
use Rattle.cf_apci.specs.Apdu.{Ack, Control, Info}
use Rattle.cf_asdu.specs.Asdu.{AsduValue}
use Rattle.cf_asdu.specs.Asdu as asdus
use Rattle.cf_asdu.specs.Acts as asdu_acts
use Rattle.cf_dnpobj.specs.Fragment.{FragmentValue, read_octets}
use Rattle.cf_dnpobj.specs.Acts as fragment_acts
use Rattle.cf_dnptrans.specs.Passing.{fragments_of}
use Rattle.cf_dnplink.specs.LinkFrame.{FrameValue}
use Rattle.cf_lane.specs.Dnp3.{is_data, is_none, segment_in, stray_of}
use Rattle.cf_lane.specs.Item.{Took}
use Rattle.cf_lane.specs.Unit.{Adu, Apdu, AreUnits, Frame, Tail, UnitValue}
use Rattle.cf_modbus.specs.Adu.{AduValue}
use Rattle.cf_modbus.specs.Request.{RequestValue}
use Rattle.cf_modbus.specs.Request as requests
use Rattle.cf_modbus.specs.Acts as request_acts
use Rattle.cf_policy.specs.AtEndpoint.{asset_place}
use Rattle.cf_policy.specs.declared.Asset.{Asset}
use Rattle.cf_view.specs.declared.Act.{Act}
use Rattle.cf_view.specs.declared.Side.TheVariants as side
use Rattle.cf_watch.specs.FlowValue.{FlowValue}

-- what may be a command of a client: an ADU of Modbus, a whole fragment of DNP3, the ASDU of an I frame of IEC 60870-5-104
pub data Message : Type 0 where
  Request : AduValue → Message
  Fragment : (octets : List ℕ) → Message
  Asdu : (octets : List ℕ) → Message

-- the message that one unit is, if it is one; those of DNP3 are made of several frames
abbrev pub message_in : UnitValue → List Message
message_in (Adu a) = Request a ∷ []
message_in (Frame x) = []
message_in (Apdu (Info send receive octets)) = Asdu octets ∷ []
message_in (Apdu (Ack receive)) = []
message_in (Apdu (Control code)) = []

-- a client's frame that is served, with data
abbrev pub is_segment : Asset → FrameValue → Bool
is_segment asset f = is_none (stray_of asset side.Client f) && is_data f

-- the user octets of such a frame
abbrev pub segment_of : Asset → UnitValue → List (List ℕ)
segment_of asset u = segment_in asset side.Client (Took side.Client u)

-- the messages of a client's units; its frames make whole fragments
abbrev pub messages : Asset → List UnitValue → List Message
messages asset units = flat_map message_in units ++ map Fragment (fragments_of [] (flat_map (segment_of asset) units))

-- a message that is a command with the asset's station and a right form has the act. A confirmation of DNP3 is no command
abbrev pub HasAct : Asset → Message → Act → Type 0
HasAct asset (Request a) act = (a.unit ≡ asset.station) × (r : RequestValue) × requests.Reads (Ok r) a.pdu
    × Contains (request_acts.acts r) act
HasAct asset (Fragment octets) act = (f : FragmentValue) × (read_octets octets ≡ Ok f) × (f.code ≢ 0) × Contains (fragment_acts.acts f) act
HasAct asset (Asdu octets) act = (a : AsduValue) × asdus.Reads (Ok a) octets × (a.station ≡ asset.station) × Contains (asdu_acts.acts a) act

-- messages one of which has the act
abbrev pub HaveAct : Asset → List Message → Act → Type 0
HaveAct asset ms act = (m : Message) × Contains ms m × HasAct asset m act

-- the bytes of a client show the act, up to where they break or end
pub record IsShown (asset : Asset) (bytes : List ℕ) (act : Act) : Type 0 where
  pub units : List UnitValue
  pub tail : Tail
  pub are : AreUnits asset.protocol bytes units tail
  pub have : HaveAct asset (messages asset units) act

-- the place by which a flow names the site of an asset: that of the first of a policy's assets with its address and port
abbrev pub site_place : List Asset → Asset → ℕ
site_place assets asset = option_map_or (λ place. place) (asset_place assets asset.endpoint) 0

-- a flow of the client to the site at this place shows the act of the asset
pub record IsSeen (asset : Asset) (place : ℕ) (flows : List FlowValue) (client : ℕ) (act : Act) : Type 0 where
  pub flow : FlowValue
  pub here : Contains flows flow
  pub to_site : flow.asset ≡ place
  pub of_client : flow.client.address ≡ client
  pub shown : IsShown asset flow.bytes act
