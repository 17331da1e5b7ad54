-- Beside the proof: worked exchanges, evaluated, a check of the definitions alone: `RowsHold`.
use Rattle.cf_lane.specs.Caller.{newcomer, own}
use Rattle.cf_lane.specs.Rates.{says_at}
use Rattle.cf_apci.specs.Apdu.{Ack, ApduValue, Control, Info}
use Rattle.cf_dnplink.specs.Crc.{crc_of}
use Rattle.cf_dnplink.specs.LinkFrame.{FrameValue, frame_with}
use Rattle.cf_lane.specs.Dnp3.{fate_of_frame, stray_of}
use Rattle.cf_lane.specs.Handled.{state}
use Rattle.cf_lane.specs.Iec104.{fate_of_apdu}
use Rattle.cf_lane.specs.Item.{Broke, Ended, Took}
use Rattle.cf_lane.specs.Judged.{Judged, cut_of}
use Rattle.cf_audit.specs.Line.{Refuse, Stray}
use Rattle.cf_lane.specs.Log.{line_about, lines}
use Rattle.cf_lane.specs.Output.{outputs, stream_to}
use Rattle.cf_lane.specs.Unit.{Adu, Apdu, Frame, UnitValue}
use Rattle.cf_lane.specs.declared.fate.Fate.{Fate}
use Rattle.cf_modbus.specs.Adu.{AduValue}
use Rattle.cf_lane.specs.Parts.{part}
use Rattle.cf_lane.specs.Site.{place_for}
use Rattle.cf_policy.specs.Site.{SiteValue, alone, asset_of}
use Rattle.cf_policy.specs.declared.Protocol.{Protocol}
use Rattle.cf_policy.specs.declared.Rule.{Rule}
use Rattle.cf_policy.specs.declared.Asset.{Asset}
use Rattle.cf_policy.specs.declared.Span.{Span}
use Rattle.cf_view.specs.Octets.{u16_le_octets}
use Rattle.cf_view.specs.declared.Endpoint.{Endpoint}
use Rattle.cf_view.specs.declared.Side.{Side}
use Rattle.std.specs.Prelude.{List, None, Some, [], codes, drop, false, pos, replicate, slice_index, take, true, ℕ, ◌++◌, ◌+◌, ◌∷◌, ◌≡◌}
use Rattle.cf_policy.specs.declared.Action.TheVariants as action
use Rattle.cf_view.specs.declared.Break.TheVariants as break
use Rattle.cf_audit.specs.declared.line.CutReason.TheVariants as cut
use Rattle.cf_audit.specs.declared.line.Why.TheVariants as why
use Rattle.cf_policy.specs.declared.Decider.TheVariants as decider
use Rattle.cf_lane.specs.declared.fate.Fate.TheVariants as fate
use Rattle.cf_policy.specs.declared.Protocol.TheVariants as protocol
use Rattle.cf_view.specs.declared.Reason.TheVariants as reason
use Rattle.cf_view.specs.declared.Side.TheVariants as side

abbrev pub one : ℕ → Span
one n = record { low = pos n; high = pos n }

abbrev pub iec104_asset : Asset
iec104_asset = record {
  name = [];
  endpoint = record { address = 0; port = 2404 };
  protocol = protocol.Iec104;
  station = 1;
  master = 0;
  rules = record {
    name = [];
    action = action.Allow;
    clients = [];
    codes = one 45 ∷ [];
    groups = one 6 ∷ [];
    points = one 1000
        ∷ [];
    values = [];
    rate = None;
    log = false;
  } ∷ [];
}

abbrev pub dnp3_asset : Asset
dnp3_asset = record {
  name = [];
  endpoint = record { address = 0; port = 20000 };
  protocol = protocol.Dnp3;
  station = 10;
  master = 1;
  rules
      = [];
}

abbrev pub unit_fate : Asset → List Judged → Side → UnitValue → Fate
unit_fate asset earlier s (Adu a) = fate.Carried
unit_fate asset earlier s (Frame x) = fate_of_frame asset (says_at asset (own 0 (newcomer 0)) earlier 0) s earlier x (stray_of asset s x)
unit_fate asset earlier s (Apdu a) = fate_of_apdu asset (says_at asset (own 0 (newcomer 0)) earlier 0) s earlier a

abbrev pub judge_all : Asset → List Judged → List (Side × UnitValue) → List Judged
judge_all asset earlier [] = []
judge_all asset earlier (u ∷ us) =
    let j : Judged = record { moment = 0; item = Took u.0 u.1; fate = unit_fate asset earlier u.0 u.1 } in
    j ∷ judge_all asset (earlier ++ j ∷ []) us

abbrev pub asked : ℕ → ℕ → List ℕ
asked low state = 0x2d ∷ 1 ∷ 6 ∷ 0 ∷ 1 ∷ 0 ∷ low ∷ 3 ∷ 0 ∷ state ∷ []

abbrev pub measured : List ℕ
measured = 1 ∷ 1 ∷ 3 ∷ 0 ∷ 1 ∷ 0 ∷ 1 ∷ 0 ∷ 0 ∷ 1 ∷ []

abbrev pub by_client : ApduValue → Side × UnitValue
by_client a = (side.Client, Apdu a)

abbrev pub by_controller : ApduValue → Side × UnitValue
by_controller a = (side.Controller, Apdu a)

abbrev pub refused_then_admitted : List Judged
refused_then_admitted = judge_all iec104_asset [] (by_client (Control 7) ∷ by_client (Info 0 0 (asked 0xe9 0x81))
    ∷ by_client (Info 1 1 (asked 0xe8 1)) ∷ [])

abbrev pub refused_behind_data : List Judged
refused_behind_data = judge_all iec104_asset [] (by_client (Control 7) ∷ by_controller (Info 0 0 measured)
    ∷ by_controller (Info 1 0 measured) ∷ by_controller (Info 2 0 measured) ∷ by_client (Info 0 3 (asked 0xe9 0x81)) ∷ [])

abbrev pub wrong_send : List Judged
wrong_send = judge_all iec104_asset [] (by_client (Control 7) ∷ by_client (Info 1 0 (asked 0xe9 0x81)) ∷ [])

abbrev pub acks_of_a_refusal : List Judged
acks_of_a_refusal = judge_all iec104_asset [] (by_client (Control 7) ∷ by_controller (Info 0 0 measured)
    ∷ by_client (Info 0 0 (asked 0xe9 0x81)) ∷ by_client (Ack 1) ∷ by_client (Ack 2) ∷ [])

abbrev pub other_station : List Judged
other_station = judge_all iec104_asset [] (by_client (Control 7) ∷ by_client (Info 0 0 (0x2d ∷ 1 ∷ 6 ∷ 0 ∷ 2 ∷ 0 ∷ 0xe8 ∷ 3 ∷ 0 ∷ 1 ∷ []))
    ∷ [])

abbrev pub start : List ℕ
start = 0x68 ∷ 4 ∷ 7 ∷ 0 ∷ 0 ∷ 0 ∷ []

-- frames of the controller that make one fragment of 600 octets, and a client's request with code 5
abbrev pub data_frame : Asset → Side → List ℕ → FrameValue
data_frame asset side.Controller user = frame_with 0xc4 asset.station asset.master user
data_frame asset side.Client user = frame_with 0x44 asset.master asset.station user

abbrev pub third : ℕ → ℕ → Side × UnitValue
third head n = (side.Controller, Frame (data_frame dnp3_asset side.Client (head ∷ replicate n 7)))

abbrev pub asks : Side × UnitValue
asks = (side.Client, Frame (data_frame dnp3_asset side.Controller (0xc0 ∷ 0xc3 ∷ 5 ∷ [])))

abbrev pub refused_in_a_fragment : List Judged
refused_in_a_fragment = judge_all dnp3_asset [] (third 0x45 249 ∷ third 0x06 249 ∷ asks ∷ third 0x87 102 ∷ [])

abbrev pub other_master : List Judged
other_master = judge_all dnp3_asset [] ((side.Client, Frame (frame_with 0xc4 10 2 (0xc0 ∷ 0xc3 ∷ 1 ∷ []))) ∷ [])

-- a direct operate of point 5, which no rule allows, in one frame
abbrev pub direct_operate : List ℕ
direct_operate =
    0xc3 ∷ 0x05 ∷ 0x0c ∷ 0x01 ∷ 0x17 ∷ 0x01 ∷ 0x05 ∷ 0x03 ∷ 0x01 ∷ 0x64 ∷ 0x00 ∷ 0x00 ∷ 0x00 ∷ 0x64 ∷ 0x00 ∷ 0x00 ∷ 0x00 ∷ 0x00 ∷ []

abbrev pub refused_direct_operate : List Judged
refused_direct_operate = judge_all dnp3_asset [] ((side.Client, Frame (data_frame dnp3_asset side.Controller (0xc0 ∷ direct_operate))) ∷ [])

abbrev pub modbus_asset : Asset
modbus_asset = record {
  name = codes "pump";
  endpoint = record { address = 167772169; port = 502 };
  protocol = protocol.Modbus;
  station = 1;
  master = 0;
  rules = [];
}

abbrev pub write_of : ℕ → ℕ → AduValue
write_of point value = record { transaction = 1; unit = 1; pdu = 6 ∷ 0 ∷ point ∷ 0 ∷ value ∷ [] }

abbrev pub from_client : AduValue → Fate → Judged
from_client a f = record { moment = 0; item = Took side.Client (Adu a); fate = f }

abbrev pub by_default : Fate
by_default = fate.Refused (record {
  decider = decider.Default;
  reason = reason.Point;
  act = record
      { code = 6; group = 0; point = 50; value = Some (pos 100) };
})

abbrev pub a_write_refused_then_one_admitted : List Judged
a_write_refused_then_one_admitted = from_client (write_of 50 100) by_default ∷ from_client (write_of 40 100) (fate.Admitted (record { used = []; shown = None }))
    ∷ record { moment = 0; item = Ended side.Client 0; fate = fate.Carried } ∷ []

abbrev pub refused_behind_the_end : List Judged
refused_behind_the_end = record { moment = 0; item = Ended side.Controller 0; fate = fate.Carried }
    ∷ from_client (write_of 50 100) by_default ∷ []

abbrev pub broken_behind_a_write : List Judged
broken_behind_a_write = from_client (write_of 40 100) (fate.Admitted (record { used = []; shown = None }))
    ∷ record { moment = 0; item = Broke side.Client break.Protocol; fate = fate.Cuts (cut.Framing side.Client break.Protocol) } ∷ []

abbrev pub stored : Endpoint
stored = record { address = 167772165; port = 0 }

-- ---- two assets behind one address and port

-- the fate of a unit by the asset that it is for, and units judged one after the other
abbrev pub site_fate : SiteValue → (k : ℕ) → List Judged → Side → UnitValue → Fate
site_fate site k earlier s (Adu a) = fate.Carried
site_fate site k earlier s (Frame x) =
    fate_of_frame (asset_of site k) (says_at (asset_of site k) (own k (newcomer 0)) (part site k earlier) 0) s (part site k earlier) x
    (stray_of (asset_of site k) s x)
site_fate site k earlier s (Apdu a) =
    fate_of_apdu (asset_of site k) (says_at (asset_of site k) (own k (newcomer 0)) (part site k earlier) 0) s earlier a

abbrev pub judge_site : SiteValue → List Judged → List (Side × UnitValue) → List Judged
judge_site site earlier [] = []
judge_site site earlier (u ∷ us) =
    let j : Judged = record { moment = 0; item = Took u.0 u.1; fate = site_fate site (place_for site u.0 u.1) earlier u.0 u.1 } in
    j ∷ judge_site site (earlier ++ j ∷ []) us

-- an asset of a protocol with a station, and a rule that allows what it states
abbrev pub asset_with : Protocol → List ℕ → (station master : ℕ) → List Rule → Asset
asset_with p name station master rules = record {
  name = name;
  endpoint = record { address = 0; port = 20000 };
  protocol = p;
  station = station;
  master = master;
  rules = rules;
}

abbrev pub allowing : List ℕ → (code : ℕ) → (groups points : List Span) → Rule
allowing name code groups points = record {
  name = name;
  action = action.Allow;
  clients = [];
  codes = one code ∷ [];
  groups = groups;
  points = points;
  values = [];
  rate = None;
  log = false;
}

-- two outstations of one master: the one may be polled for class 1 alone, the other not at all
abbrev pub outstations : SiteValue
outstations = record {
  first = asset_with protocol.Dnp3 (codes "rtu-a") 10 1 (allowing (codes "poll") 1 (one 15362 ∷ []) [] ∷ []);
  others = asset_with protocol.Dnp3 (codes "rtu-b") 11 1 [] ∷ [];
}

-- a first segment for the one, a whole request for the other, the last segment for the one, and a request for a third
abbrev pub interleaved : List Judged
interleaved = judge_site outstations []
    ((side.Client, Frame (frame_with 0xc4 10 1 (0x40 ∷ 0xc0 ∷ 0x01 ∷ [])))
    ∷ (side.Client, Frame (frame_with 0xc4 11 1 (0xc0 ∷ 0xc1 ∷ 0x01 ∷ 0x3c ∷ 0x02 ∷ 0x06 ∷ [])))
    ∷ (side.Client, Frame (frame_with 0xc4 10 1 (0x81 ∷ 0x3c ∷ 0x02 ∷ 0x06 ∷ [])))
    ∷ (side.Client, Frame (frame_with 0xc4 12 1 (0xc0 ∷ 0xc2 ∷ 0x01 ∷ 0x3c ∷ 0x02 ∷ 0x06 ∷ []))) ∷ [])

-- two stations of one concentrator: the one may be switched, the other interrogated
abbrev pub stations : SiteValue
stations = record {
  first = asset_with protocol.Iec104 (codes "sub-a") 1 0 (allowing (codes "switch") 45 (one 6 ∷ []) (one 1000 ∷ []) ∷ []);
  others = asset_with protocol.Iec104 (codes "sub-b") 2 0 (allowing (codes "ask") 100 [] [] ∷ []) ∷ [];
}

-- a single command of a station
abbrev pub switch_of : (station : ℕ) → List ℕ
switch_of station = 0x2d ∷ 1 ∷ 6 ∷ 0 ∷ station ∷ 0 ∷ 0xe8 ∷ 3 ∷ 0 ∷ 1 ∷ []

-- a switch for the one, a question for the other, a switch for the other, and one for a third
abbrev pub by_stations : List Judged
by_stations = judge_site stations [] (by_client (Control 7) ∷ by_client (Info 0 0 (switch_of 1))
    ∷ by_client (Info 1 0 (0x64 ∷ 1 ∷ 6 ∷ 0 ∷ 2 ∷ 0 ∷ 0 ∷ 0 ∷ 0 ∷ 0x14 ∷ [])) ∷ by_client (Info 2 0 (switch_of 2))
    ∷ by_client (Info 3 0 (switch_of 3)) ∷ [])

pub record RowsHold : Type 0 where
  pub crc : u16_le_octets (crc_of (0x31 ∷ 0x32 ∷ 0x33 ∷ 0x34 ∷ 0x35 ∷ 0x36 ∷ 0x37 ∷ 0x38 ∷ 0x39 ∷ [])) ≡ 0x82 ∷ 0xea ∷ []
  pub refused_then_admitted_controller : outputs (alone iec104_asset) side.Controller [] refused_then_admitted ≡ start
      ++ (0x68 ∷ 0x0e ∷ 0 ∷ 0 ∷ 0 ∷ 0 ∷ []) ++ asked 0xe8 1
  pub refused_then_admitted_client : outputs (alone iec104_asset) side.Client [] refused_then_admitted ≡ (0x68 ∷ 0x0e ∷ 0 ∷ 0 ∷ 2 ∷ 0 ∷ []) ++ 0x2d
      ∷ 1 ∷ 0x47 ∷ 0 ∷ 1 ∷ 0 ∷ 0xe9 ∷ 3 ∷ 0 ∷ 0x81 ∷ []
  pub refused_behind_data_controller : outputs (alone iec104_asset) side.Controller [] refused_behind_data ≡ start ++ 0x68 ∷ 4 ∷ 1 ∷ 0 ∷ 6 ∷ 0 ∷ []
  pub refused_behind_data_mirror : take 6 (drop 48 (outputs (alone iec104_asset) side.Client [] refused_behind_data)) ≡ 0x68 ∷ 0x0e ∷ 6 ∷ 0 ∷ 2 ∷ 0
      ∷ []
  pub wrong_send_cut : cut_of wrong_send ≡ Some (cut.WrongSend side.Client 0 1)
  pub acks_of_a_refusal_controller : outputs (alone iec104_asset) side.Controller [] acks_of_a_refusal ≡ start ++ (0x68 ∷ 4 ∷ 1 ∷ 0 ∷ 2 ∷ 0 ∷ [])
      ++ 0x68 ∷ 4 ∷ 1 ∷ 0 ∷ 2 ∷ 0 ∷ []
  pub acks_of_a_refusal_mirror : take 6 (drop 16 (outputs (alone iec104_asset) side.Client [] acks_of_a_refusal)) ≡ 0x68 ∷ 0x0e ∷ 2 ∷ 0 ∷ 2 ∷ 0 ∷ []
  pub other_station_client : outputs (alone iec104_asset) side.Client [] other_station ≡ (0x68 ∷ 0x0e ∷ 0 ∷ 0 ∷ 2 ∷ 0 ∷ []) ++ 0x2d ∷ 1 ∷ 0x47 ∷ 0
      ∷ 2 ∷ 0 ∷ 0xe8 ∷ 3 ∷ 0 ∷ 1 ∷ []
  pub refused_in_a_fragment_reply : slice_index (outputs (alone dnp3_asset) side.Client [] refused_in_a_fragment) 10 ≡ 0xc0
  pub refused_in_a_fragment_first : slice_index (drop 17 (outputs (alone dnp3_asset) side.Client [] refused_in_a_fragment)) 10 ≡ 0x41
  pub refused_in_a_fragment_second : slice_index (drop (17 + 292) (outputs (alone dnp3_asset) side.Client [] refused_in_a_fragment)) 10 ≡ 0x02
  pub refused_in_a_fragment_third : slice_index (drop (17 + 584) (outputs (alone dnp3_asset) side.Client [] refused_in_a_fragment)) 10 ≡ 0x83
  pub refused_direct_operate_controller : outputs (alone dnp3_asset) side.Controller [] refused_direct_operate ≡ []
  pub refused_direct_operate_client :
      outputs (alone dnp3_asset) side.Client [] refused_direct_operate
      ≡ 0x05 ∷ 0x64 ∷ 0x1a ∷ 0x44 ∷ 0x01 ∷ 0x00 ∷ 0x0a ∷ 0x00 ∷ 0xaf ∷ 0x5d ∷ 0xc0 ∷ 0xc3 ∷ 0x81 ∷ 0x00 ∷ 0x00 ∷ 0x0c ∷ 0x01 ∷ 0x17 ∷ 0x01
      ∷ 0x05 ∷ 0x03 ∷ 0x01 ∷ 0x64 ∷ 0x00 ∷ 0x00 ∷ 0x00 ∷ 0xbc ∷ 0x51 ∷ 0x64 ∷ 0x00 ∷ 0x00 ∷ 0x00 ∷ 0x09 ∷ 0xd7 ∷ 0x92 ∷ []
  pub other_master_none : outputs (alone dnp3_asset) side.Client [] other_master ++ outputs (alone dnp3_asset) side.Controller [] other_master ≡ []
  pub a_write_refused_then_one_admitted_controller : outputs (alone modbus_asset) side.Controller [] a_write_refused_then_one_admitted ≡ 0 ∷ 1 ∷ 0
      ∷ 0 ∷ 0 ∷ 6 ∷ 1 ∷ 6 ∷ 0 ∷ 40 ∷ 0 ∷ 100 ∷ []
  pub a_write_refused_then_one_admitted_client : outputs (alone modbus_asset) side.Client [] a_write_refused_then_one_admitted ≡ 0 ∷ 1 ∷ 0 ∷ 0 ∷ 0
      ∷ 3 ∷ 1 ∷ 0x86 ∷ 2 ∷ []
  pub refused_behind_the_end_client : stream_to (alone modbus_asset) side.Client refused_behind_the_end ≡ record { bytes = []; ended = true }
  pub broken_behind_a_write_cut : cut_of broken_behind_a_write ≡ Some (cut.Framing side.Client break.Protocol)
  pub broken_behind_a_write_controller : outputs (alone modbus_asset) side.Controller [] broken_behind_a_write ≡ 0 ∷ 1 ∷ 0 ∷ 0 ∷ 0 ∷ 6 ∷ 1 ∷ 6 ∷ 0
      ∷ 40 ∷ 0 ∷ 100 ∷ []
  pub broken_behind_a_write_log : lines (alone modbus_asset) stored [] broken_behind_a_write ≡ []
  pub interleaved_controller : outputs outstations side.Controller [] interleaved ≡ 0x05 ∷ 0x64 ∷ 0x0b ∷ 0xc4 ∷ 0x0a ∷ 0x00 ∷ 0x01 ∷ 0x00 ∷ 0xac
      ∷ 0xd1 ∷ 0xc0 ∷ 0xc0 ∷ 0x01 ∷ 0x3c ∷ 0x02 ∷ 0x06 ∷ 0x54 ∷ 0xe0 ∷ []
  pub interleaved_client : outputs outstations side.Client [] interleaved ≡ 0x05 ∷ 0x64 ∷ 0x0a ∷ 0x44 ∷ 0x01 ∷ 0x00 ∷ 0x0b ∷ 0x00 ∷ 0x20 ∷ 0x8e
      ∷ 0xc0 ∷ 0xc1 ∷ 0x81 ∷ 0x00 ∷ 0x01 ∷ 0x2a ∷ 0x1c ∷ []
  pub interleaved_log :
      lines outstations stored [] interleaved
      ≡ line_about (asset_of outstations 1) stored 0
      (Refuse (codes "default") reason.Function (record { code = 1; group = 15362; point = 0; value = None }) true
      (0xc1 ∷ 0x01 ∷ 0x3c ∷ 0x02 ∷ 0x06 ∷ []))
      ∷ line_about (asset_of outstations 0) stored 0 (Stray side.Client why.Address) ∷ []
  pub by_stations_controller : outputs stations side.Controller [] by_stations ≡ start ++ ((0x68 ∷ 0x0e ∷ 0 ∷ 0 ∷ 0 ∷ 0 ∷ []) ++ switch_of 1)
      ++ 0x68 ∷ 0x0e ∷ 2 ∷ 0 ∷ 0 ∷ 0 ∷ 0x64 ∷ 1 ∷ 6 ∷ 0 ∷ 2 ∷ 0 ∷ 0 ∷ 0 ∷ 0 ∷ 0x14 ∷ []
  pub by_stations_client : outputs stations side.Client [] by_stations ≡ (0x68 ∷ 0x0e ∷ 0 ∷ 0 ∷ 0 ∷ 0 ∷ 0x2d ∷ 1 ∷ 0x47 ∷ 0 ∷ 2 ∷ 0 ∷ 0xe8 ∷ 3
      ∷ 0 ∷ 1 ∷ []) ++ 0x68 ∷ 0x0e ∷ 2 ∷ 0 ∷ 0 ∷ 0 ∷ 0x2d ∷ 1 ∷ 0x47 ∷ 0 ∷ 3 ∷ 0 ∷ 0xe8 ∷ 3 ∷ 0 ∷ 1 ∷ []
  pub by_stations_log :
      lines stations stored [] by_stations
      ≡ line_about (asset_of stations 1) stored 0
      (Refuse (codes "default") reason.Function (record { code = 45; group = 6; point = 1000; value = Some (pos 1) }) true
      ((0x68 ∷ 0x0e ∷ 4 ∷ 0 ∷ 0 ∷ 0 ∷ []) ++ switch_of 2))
      ∷ line_about (asset_of stations 0) stored 0
      (Refuse (codes "station") reason.Station (record { code = 45; group = 0; point = 3; value = None }) true
      ((0x68 ∷ 0x0e ∷ 6 ∷ 0 ∷ 0 ∷ 0 ∷ []) ++ switch_of 3)) ∷ []
