-- Two flows worked by hand, which hold the definitions of what a receiver may put together, and two more, of a read each, which hold
-- those of a judgement, and flows to two pumps behind one address and port: RowsHold. The reads are those of Modbus Application
-- Protocol V1.1b3, section 6.3.
use Rattle.std.specs.Prelude.{ℕ, pos, false, List, [], ◌++◌, ◌∷◌, ◌≡◌, codes, map, replicate, None, Some}
use Rattle.cf_decode.specs.Units.{Whole as WholeUnit}
use Rattle.cf_judge.specs.Objections.{IsJudgementOf}
use Rattle.cf_judge.specs.declared.Complaint.TheVariants as complaint
use Rattle.cf_judge.specs.declared.Judged.{Judged as Judgement}
use Rattle.cf_judge.specs.declared.Objection.{Objection}
use Rattle.cf_lane.specs.Rows.{modbus_asset, one}
use Rattle.cf_lane.specs.Unit.{Adu}
use Rattle.cf_lane.specs.declared.Fate.TheVariants as fate
use Rattle.cf_modbus.specs.Adu.{AduValue, spelling}
use Rattle.cf_policy.specs.declared.Action.TheVariants as action
use Rattle.cf_policy.specs.Site.{alone}
use Rattle.cf_policy.specs.declared.Asset.{Asset}
use Rattle.cf_policy.specs.declared.Decider.{Decider}
use Rattle.cf_policy.specs.declared.Decider.TheVariants as decider
use Rattle.cf_policy.specs.declared.Protocol.TheVariants as protocol
use Rattle.cf_session.specs.Laws.{IsFront, IsReassembly}
use Rattle.cf_stream.specs.Stream.{Byte, Stream}
use Rattle.cf_view.specs.declared.Endpoint.{Endpoint}
use Rattle.cf_view.specs.declared.Reason.{Reason}
use Rattle.cf_view.specs.declared.Reason.TheVariants as reason
use Rattle.cf_watch.specs.Carried.{Carried, HasConflict}
use Rattle.cf_watch.specs.FlowValue.{FlowValue}
use Rattle.cf_unobjected.specs.Allowed.{DecodesToAllowed, IsLetThrough, part_of}
use Rattle.cf_unobjected.specs.Passed.{IsRightlyPassed}
use Rattle.cf_unobjected.specs.ShortestFront.{within}

-- a packet of one octet, in the record of this number, at this position
abbrev pub one_octet : (number place octet : ℕ) → Carried
one_octet number place octet = record { number = number; at = pos place; text = record { bytes = octet ∷ []; ended = false } }

-- the newest packet first: after the octet 7 at position 0 another record has 8 there
abbrev pub with_conflict : List Carried
with_conflict = one_octet 2 0 8 ∷ one_octet 1 0 7 ∷ []

-- the octet 8 at position 1 comes before the 7 at position 0
abbrev pub out_of_order : List Carried
out_of_order = one_octet 2 0 7 ∷ one_octet 1 1 8 ∷ []

-- a pump whose one rule allows reads of register 0
abbrev pub reads : Asset
reads = record modbus_asset {
  rules = record {
    name = codes "reads";
    action = action.Allow;
    clients = [];
    codes = one 3 ∷ [];
    groups = [];
    points = one 0 ∷ [];
    values = [];
    rate = None;
    log = false;
  } ∷ [];
}

-- a policy of that pump alone
abbrev pub pumps : List Asset
pumps = reads ∷ []

-- a read of one register, and its octets
abbrev pub read_of : (point : ℕ) → AduValue
read_of point = record { transaction = 1; unit = 1; pdu = 3 ∷ 0 ∷ point ∷ 0 ∷ 1 ∷ [] }

-- the octets of a read
abbrev pub read_octets : (point : ℕ) → List ℕ
read_octets point = 0 ∷ 1 ∷ 0 ∷ 0 ∷ 0 ∷ 6 ∷ 1 ∷ 3 ∷ 0 ∷ point ∷ 0 ∷ 1 ∷ []

-- the flows of 10.0.0.5, all of whose octets came with record 5, and of 10.0.0.6, whose last six came with record 7
abbrev pub one_client : Endpoint
one_client = record { address = 0x0a000005; port = 49152 }

-- the client of the other flow
abbrev pub other_client : Endpoint
other_client = record { address = 0x0a000006; port = 49153 }

-- the flow with a read of register 0
abbrev pub one_flow : FlowValue
one_flow = record {
  client = one_client;
  asset = 0;
  midstream = None;
  bytes = read_octets 0;
  born = replicate 12 5;
  conflict = None;
}

-- the flow with a read of any register
abbrev pub other_flow : (point : ℕ) → FlowValue
other_flow point = record {
  client = other_client;
  asset = 0;
  midstream = None;
  bytes = read_octets point;
  born = replicate 6 6 ++ replicate 6 7;
  conflict = None;
}

-- the objection to a read of register 1: it comes with the record of its last octet
abbrev pub objection : Objection
objection =
    record { at_record = 7; client = other_client; asset = 0; what = complaint.Refused decider.Default reason.Point }

-- judgements of two flows: both commands allowed, or one and the objection
abbrev pub clear : Judgement
clear = record { flows = 2; commands = 2; objection = None }

-- one command allowed, and the objection
abbrev pub objected : Judgement
objected = record { flows = 2; commands = 1; objection = Some objection }

-- ---- two pumps behind one address and port

-- the second has station 2 and no rule
abbrev pub second : Asset
second = record reads { station = 2; rules = [] }

-- a policy of both
abbrev pub gateway : List Asset
gateway = reads ∷ second ∷ []

-- a read of register 0 of a station, and its octets
abbrev pub read_to : (station : ℕ) → AduValue
read_to station = record { transaction = 1; unit = station; pdu = 3 ∷ 0 ∷ 0 ∷ 0 ∷ 1 ∷ [] }

-- the octets of the read
abbrev pub octets_to : (station : ℕ) → List ℕ
octets_to station = 0 ∷ 1 ∷ 0 ∷ 0 ∷ 0 ∷ 6 ∷ station ∷ 3 ∷ 0 ∷ 0 ∷ 0 ∷ 1 ∷ []

-- a flow with a read of station 1, which came with record 5, and then one of this station, with record 7
abbrev pub flow_to : (station : ℕ) → FlowValue
flow_to station = record {
  client = one_client;
  asset = 0;
  midstream = None;
  bytes = read_octets 0 ++ octets_to station;
  born = replicate 12 5 ++ replicate 12 7;
  conflict = None;
}

-- its judgement where the second read is refused: under the asset of this place, by what decided, for this reason
abbrev pub refused_under : (place : ℕ) → Decider → Reason → Judgement
refused_under place by because = record {
  flows = 1;
  commands = 1;
  objection = Some (record { at_record = 7; client = one_client; asset = place; what = complaint.Refused by because });
}

pub record RowsHold : Type 0 where
  -- of the first flow a receiver may have taken either octet; no stream begins with both; the conflict is that of record 2 at position 0
  pub first_copy : IsReassembly (map part_of with_conflict) (Byte 7 ∷ [])
  pub other_copy : IsReassembly (map part_of with_conflict) (Byte 8 ∷ [])
  pub no_stream : (whole : Stream) → IsFront whole (Byte 7 ∷ []) → IsFront whole (Byte 8 ∷ []) → ⊥
  pub conflict : HasConflict with_conflict (Some (record { at_record = 2; position = pos 0 }))
  -- of the second one it may have taken both octets, in the order of their positions, and there is no conflict
  pub both : IsReassembly (map part_of out_of_order) (Byte 7 ∷ Byte 8 ∷ [])
  pub clean : HasConflict out_of_order None
  -- two reads of register 0 are two commands and no objection; where the other one is of register 1 there is one, with record 7; neither
  -- is judged as the other
  pub are_clear : IsJudgementOf pumps (one_flow ∷ other_flow 0 ∷ []) clear
  pub are_objected : IsJudgementOf pumps (one_flow ∷ other_flow 1 ∷ []) objected
  pub not_objected : IsJudgementOf pumps (one_flow ∷ other_flow 0 ∷ []) objected → ⊥
  pub not_clear : IsJudgementOf pumps (one_flow ∷ other_flow 1 ∷ []) clear → ⊥
  -- a read that the first pump's rule allows is refused of the second pump, which has no rule, under the second one's name; and of a
  -- station that no pump has, under the first one's
  pub of_second : IsJudgementOf gateway (flow_to 2 ∷ []) (refused_under 1 decider.Default reason.Function)
  pub of_nobody : IsJudgementOf gateway (flow_to 3 ∷ []) (refused_under 0 decider.Station reason.Station)
  pub spelled : spelling (read_of 1) ≡ read_octets 1
  -- the objection is of the first seven records, and of no fewer
  pub in_seven : within 7 (Some objection) ≡ Some objection
  pub not_in_six : within 6 (Some objection) ≡ None
  -- what the one flow has is let through, and is rightly passed; what is refused, or lengthens a fragment of Modbus, is not let through
  pub decodes : DecodesToAllowed (alone reads) one_client.address (read_octets 0)
  pub rightly_passed : IsRightlyPassed (alone reads) one_client.address (WholeUnit (Adu (read_of 0)))
  pub refused : IsLetThrough protocol.Modbus
      (fate.Refused (record { decider = decider.Default; reason = reason.Point; act = record { code = 3; group = 0; point = 1; value = None } })) → ⊥
  pub lengthens : IsLetThrough protocol.Modbus fate.Lengthens → ⊥
