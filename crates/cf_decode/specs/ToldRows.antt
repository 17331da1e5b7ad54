-- Beside the proof: two sessions worked by hand, evaluated, a check of the definitions alone: `ToldRowsHold`. The replies are those of Modbus
-- Application Protocol V1.1b3, section 7, IEEE 1815-2012, section 4.2, and IEC 60870-5-101, section 7.2.3; the lines those of docs/LOG.md.
-- That the items of a session are judged so is what a lane proves of itself; here stands what the laws conclude of them.
use Rattle.cf_apci.specs.Apdu.{Control, Info}
use Rattle.cf_lane.specs.Item.{Ended, Item, Took}
use Rattle.cf_lane.specs.Judged.{Judged}
use Rattle.cf_lane.specs.Log.{lines}
use Rattle.cf_lane.specs.Output.{outputs}
use Rattle.cf_lane.specs.Rows.{asked, data_frame, direct_operate, dnp3_asset, iec104_asset, modbus_asset, one, write_of}
use Rattle.cf_lane.specs.Unit.{Adu, Apdu, Frame}
use Rattle.cf_lane.specs.declared.fate.Admission.{Admission}
use Rattle.cf_lane.specs.declared.fate.Refusal.{Refusal}
use Rattle.cf_policy.specs.Site.{SiteValue, alone}
use Rattle.cf_policy.specs.declared.Asset.{Asset}
use Rattle.cf_policy.specs.declared.Rule.{Rule}
use Rattle.cf_decode.specs.Told.{IsReply, IsShown, IsTold}
use Rattle.cf_view.specs.declared.Act.{Act}
use Rattle.cf_view.specs.declared.Endpoint.{Endpoint}
use Rattle.cf_view.specs.declared.Reason.{Reason}
use Rattle.std.specs.Prelude.{List, None, Some, [], codes, false, pos, true, ℕ, ◌∷◌, ◌≡◌}
use Rattle.cf_lane.specs.declared.fate.Fate.TheVariants as fate
use Rattle.cf_policy.specs.declared.Action.TheVariants as action
use Rattle.cf_policy.specs.declared.Decider.TheVariants as decider
use Rattle.cf_view.specs.declared.Reason.TheVariants as reason
use Rattle.cf_view.specs.declared.Side.TheVariants as side

-- a pump whose one rule allows and logs writes of register 40
abbrev pub levels : Rule
levels = record {
  name = codes "levels";
  action = action.Allow;
  clients = [];
  codes = one 6 ∷ [];
  groups = [];
  points = one 40 ∷ [];
  values = [];
  rate = None;
  log = true;
}

-- the pump with that rule alone
abbrev pub pump : Asset
pump = record modbus_asset { rules = levels ∷ [] }

-- two clients, each with a session of its own
abbrev pub one_client : Endpoint
one_client = record { address = 0x0a000005; port = 49152 }

-- the client of the other session
abbrev pub other_client : Endpoint
other_client = record { address = 0x0a000006; port = 49153 }

-- the act of a write of 100 to a register
abbrev pub write_to : ℕ → Act
write_to point = record { code = 6; group = 0; point = point; value = Some (pos 100) }

-- a refusal by no rule
abbrev pub by_none : Reason → Refusal
by_none because = record { decider = decider.Default; reason = because; act = write_to 50 }

-- an admission by the rule with the log, which shows a write to a register
abbrev pub by_levels : (point : ℕ) → Admission
by_levels point = record { used = []; shown = Some (record { rule = 0; act = write_to point }) }

-- a write of a client to a register
abbrev pub written : (point : ℕ) → Item
written point = Took side.Client (Adu (write_of point 100))

-- a refused write to register 50
abbrev pub refused : (moment : ℕ) → Judged
refused moment = record { moment = moment; item = written 50; fate = fate.Refused (by_none reason.Point) }

-- an admitted write to register 40
abbrev pub admitted : Judged
admitted = record { moment = 2000000; item = written 40; fate = fate.Admitted (by_levels 40) }

-- a valve behind the same address and port, at station 2, without rules
abbrev pub valve : Asset
valve = record pump { name = codes "valve"; station = 2; rules = [] }

-- both
abbrev pub both : SiteValue
both = record { first = pump; others = valve ∷ [] }

-- a refused write to register 40 of the valve
abbrev pub for_valve : Refusal
for_valve = record { decider = decider.Default; reason = reason.Function; act = write_to 40 }

abbrev pub refused_for_valve : Judged
refused_for_valve = record {
  moment = 1000000;
  item = Took side.Client (Adu (record (write_of 40 100) { unit = 2 }));
  fate = fate.Refused for_valve;
}

-- the end of what the controller sends
abbrev pub ended : Judged
ended = record { moment = 2500000; item = Ended side.Controller 0; fate = fate.Carried }

-- the exception response to the refused write, with a code: transaction 1, unit 1, function 6 with its top bit set
abbrev pub exception : (code : ℕ) → List ℕ
exception code = 0 ∷ 1 ∷ 0 ∷ 0 ∷ 0 ∷ 3 ∷ 1 ∷ 0x86 ∷ code ∷ []

-- a direct operate of DNP3 in one frame, and a command of IEC 60870-5-104 for another point behind STARTDT
abbrev pub operated : Item
operated = Took side.Client (Frame (data_frame dnp3_asset side.Controller (0xc0 ∷ direct_operate)))

-- the STARTDT of the client, which is carried
abbrev pub started : Judged
started = record { moment = 0; item = Took side.Client (Apdu (Control 7)); fate = fate.Carried }

-- the frame of the response: control and addresses, transport 0xc0, the request's sequence, code 0x81, its block with a status octet
abbrev pub response : List ℕ
response =
    0x05 ∷ 0x64 ∷ 0x1a ∷ 0x44 ∷ 0x01 ∷ 0x00 ∷ 0x0a ∷ 0x00 ∷ 0xaf ∷ 0x5d ∷ 0xc0 ∷ 0xc3 ∷ 0x81 ∷ 0x00 ∷ 0x00 ∷ 0x0c ∷ 0x01 ∷ 0x17 ∷ 0x01
    ∷ 0x05 ∷ 0x03 ∷ 0x01 ∷ 0x64 ∷ 0x00 ∷ 0x00 ∷ 0x00 ∷ 0xbc ∷ 0x51 ∷ 0x64 ∷ 0x00 ∷ 0x00 ∷ 0x00 ∷ 0x09 ∷ 0xd7 ∷ 0x92 ∷ []

-- the mirror: an I frame with the numbers 0 and 1, cause 7 with the P/N bit
abbrev pub mirror : List ℕ
mirror = 0x68 ∷ 0x0e ∷ 0 ∷ 0 ∷ 2 ∷ 0 ∷ 0x2d ∷ 1 ∷ 0x47 ∷ 0 ∷ 1 ∷ 0 ∷ 0xe9 ∷ 3 ∷ 0 ∷ 0x81 ∷ []

pub record ToldRowsHold : Type 0 where
  -- the one session: a refused write has its line and exception 2, an admitted one its line and nothing of the box
  pub one_log :
      lines (alone pump) one_client [] (refused 1000000 ∷ admitted ∷ [])
      ≡ codes "1.000000 10.0.0.5:49152 pump refuse default point code 6 group 0 point 50 value 100 replied 000100000006010600320064\n"
      ∷ codes "2.000000 10.0.0.5:49152 pump admit levels code 6 group 0 point 40 value 100 000100000006010600280064\n" ∷ []
  pub one_stream : outputs (alone pump) side.Client [] (refused 1000000 ∷ admitted ∷ []) ≡ exception 2
  pub reply : IsReply pump false [] (written 50) (by_none reason.Point) (exception 2)
  pub told : IsTold (alone pump) one_client [] (refused 1000000) (admitted ∷ []) (by_none reason.Point)
  pub shown : IsShown (alone pump) one_client (refused 1000000 ∷ []) admitted [] (by_levels 40)
  -- the other session, whose controller has ended: its line says so, and no reply follows
  pub other_log :
      lines (alone pump) other_client [] (ended ∷ refused 3000000 ∷ [])
      ≡ codes "3.000000 10.0.0.6:49153 pump refuse default point code 6 group 0 point 50 value 100 unanswered 000100000006010600320064\n"
      ∷ []
  pub no_reply : IsReply pump true (ended ∷ []) (written 50) (by_none reason.Point) []
  pub other_told : IsTold (alone pump) other_client (ended ∷ []) (refused 3000000) [] (by_none reason.Point)
  -- two assets behind one address and port: a refused write to the valve has its line under the valve's name, and exception 1 of its
  -- unit; an admitted one to the pump its line under the pump's
  pub both_log :
      lines both one_client [] (refused_for_valve ∷ admitted ∷ [])
      ≡ codes "1.000000 10.0.0.5:49152 valve refuse default function code 6 group 0 point 40 value 100 replied 000100000006020600280064\n"
      ∷ codes "2.000000 10.0.0.5:49152 pump admit levels code 6 group 0 point 40 value 100 000100000006010600280064\n" ∷ []
  pub both_stream : outputs both side.Client [] (refused_for_valve ∷ admitted ∷ []) ≡ 0 ∷ 1 ∷ 0 ∷ 0 ∷ 0 ∷ 3 ∷ 2 ∷ 0x86 ∷ 1 ∷ []
  pub both_told : IsTold both one_client [] refused_for_valve (admitted ∷ []) for_valve
  pub both_shown : IsShown both one_client (refused_for_valve ∷ []) admitted [] (by_levels 40)
  -- the replies of the other protocols; an ASDU of eight octets has none
  pub frame_reply : IsReply dnp3_asset false [] operated (by_none reason.Function) response
  pub mirror_reply : IsReply iec104_asset false (started ∷ []) (Took side.Client (Apdu (Info 0 0 (asked 0xe9 0x81)))) (by_none reason.Point) mirror
  pub short_reply :
      IsReply iec104_asset false (started ∷ []) (Took side.Client (Apdu (Info 0 0 (0x2d ∷ 1 ∷ 6 ∷ 0 ∷ 1 ∷ 0 ∷ 0xe9 ∷ 3 ∷ [])))) (by_none reason.Point)
      []
  -- nothing else is told: another exception, one behind the end, another octet of a response or a mirror, a reply to a controller,
  -- another reason, another act
  pub other_code : IsReply pump false [] (written 50) (by_none reason.Point) (exception 3) → ⊥
  pub behind_the_end : IsReply pump true (ended ∷ []) (written 50) (by_none reason.Point) (exception 2) → ⊥
  pub silence : IsReply pump false [] (written 50) (by_none reason.Point) [] → ⊥
  pub no_frame : IsReply dnp3_asset false [] operated (by_none reason.Function) [] → ⊥
  pub no_mirror : IsReply iec104_asset false (started ∷ []) (Took side.Client (Apdu (Info 0 0 (asked 0xe9 0x81)))) (by_none reason.Point) [] → ⊥
  pub of_a_controller : IsReply pump false [] (Took side.Controller (Adu (write_of 50 100))) (by_none reason.Point) [] → ⊥
  pub other_reason : IsTold (alone pump) one_client [] (refused 1000000) (admitted ∷ []) (by_none reason.Value) → ⊥
  pub other_act : IsShown (alone pump) one_client (refused 1000000 ∷ []) admitted [] (by_levels 41) → ⊥
