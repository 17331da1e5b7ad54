-- IEC 104 in the lane: the fate of an APDU (`fate_of_apdu`), what it puts into the stream to each side, and what its line shows. IEC
-- 60870-5-104; fates are this project's own.
use Rattle.cf_lane.specs.Rates.{Says}
use Rattle.cf_apci.specs.Apdu.{Ack, ApduValue, Control, Info}
use Rattle.cf_asdu.specs.Asdu.{AsduValue, refusal_reason, station_of}
use Rattle.cf_asdu.specs.Mirror.{mirrored}
use Rattle.cf_asdu.specs.declared.asdu.AsduRefusal.{AsduRefusal}
use Rattle.cf_audit.specs.declared.line.CutReason.{CutReason}
use Rattle.cf_lane.specs.Acts.{act_of_code, fate_of_acts}
use Rattle.cf_lane.specs.Judged.{Judged, goes_on}
use Rattle.cf_lane.specs.Numbers.{ack_cut, events_of, has_mirror, info_cut}
use Rattle.cf_lane.specs.Unit.{apdu_spelling}
use Rattle.cf_lane.specs.declared.fate.Fate.{Fate}
use Rattle.cf_policy.specs.declared.Asset.{Asset}
use Rattle.cf_policy.specs.declared.Decider.{Decider}
use Rattle.cf_renumber.specs.Counts.{admitted_stamp, carried_stamp, client_translated, controller_translated, mirror_stamp, owed_ack}
use Rattle.cf_renumber.specs.declared.answer.Stamp.{Stamp}
use Rattle.cf_view.specs.declared.Reason.{Reason}
use Rattle.cf_view.specs.declared.Side.{Side}
use Rattle.std.specs.Prelude.{List, None, Option, Some, [], drop, if◌then◌else◌, length, nat_eq, nat_lt, slice_index, ℕ, ◌%◌}
use Rattle.cf_asdu.specs.Asdu as asdus
use Rattle.cf_asdu.specs.Acts as commands
use Rattle.cf_policy.specs.declared.Decider.TheVariants as decider
use Rattle.cf_lane.specs.declared.fate.Fate.TheVariants as fate
use Rattle.cf_view.specs.declared.Reason.TheVariants as reason
use Rattle.cf_asdu.specs.declared.asdu.AsduRefusal.TheVariants as refusal
use Rattle.cf_view.specs.declared.Side.TheVariants as side

-- the ASDU whose octets these are, nine or more
abbrev pub asdu_in : List ℕ → AsduValue
asdu_in octets = record {
  kind = slice_index octets 0;
  number = slice_index octets 1;
  cause = slice_index octets 2;
  origin = slice_index octets 3;
  station = station_of octets;
  objects = drop 6 octets;
}

-- a refusal of a whole ASDU: its act is the type with a point
abbrev pub asdu_refused : Decider → Reason → List ℕ → (point : ℕ) → Fate
asdu_refused decided because octets point =
    fate.Refused (record { decider = decided; reason = because; act = act_of_code (slice_index octets 0) point })

-- the fate of an ASDU of the right station by the rest of its form
abbrev pub fate_by_form : Asset → Says → List ℕ → Option AsduRefusal → Fate
fate_by_form asset says octets (Some refusal) = asdu_refused decider.Form (refusal_reason refusal) octets 0
fate_by_form asset says octets None = fate_of_acts asset says (commands.acts (asdu_in octets))

-- the fate of a client's ASDU: whether it is too short is tested before the station, the rest of the form after it
abbrev pub fate_of_asdu : Asset → Says → List ℕ → Fate
fate_of_asdu asset says octets =
    if nat_lt (length octets) 9 then asdu_refused decider.Form (refusal_reason refusal.Short) octets 0
    else (if nat_eq (station_of octets) asset.station then fate_by_form asset says octets (asdus.first_refusal (asdu_in octets))
    else asdu_refused decider.Station reason.Station octets (station_of octets))

-- the fate, but where the numbers cut
abbrev pub or_cut : Option CutReason → Fate → Fate
or_cut None f = f
or_cut (Some because) f = fate.Cuts because

-- the fate of an I frame's ASDU, once its numbers are right
abbrev pub fate_of_info : Asset → Says → Side → List ℕ → Fate
fate_of_info asset says side.Client asdu = fate_of_asdu asset says asdu
fate_of_info asset says side.Controller asdu = fate.Carried

-- the fate of an APDU: a control frame is carried, numbers may cut, and an I frame is judged
abbrev pub fate_of_apdu : Asset → Says → Side → List Judged → ApduValue → Fate
fate_of_apdu asset says s earlier (Control octet) = fate.Carried
fate_of_apdu asset says s earlier (Ack receive) = or_cut (ack_cut s earlier receive) fate.Carried
fate_of_apdu asset says s earlier (Info send receive asdu) = or_cut (info_cut s earlier send receive) (fate_of_info asset says s asdu)

-- the S unit that a refused command leaves towards the controller, where it acknowledges more
abbrev pub ack_octets : Option ℕ → List ℕ
ack_octets None = []
ack_octets (Some receive) = apdu_spelling (Ack receive)

-- the S frame that goes to the controller by a refused command, if one is owed
abbrev pub ack_output : List Judged → Fate → ℕ → List ℕ
ack_output earlier (fate.Refused refusal) receive = ack_octets (owed_ack (events_of earlier) receive)
ack_output earlier fate.Carried receive = []
ack_output earlier (fate.Admitted used) receive = []
ack_output earlier (fate.Stray because) receive = []
ack_output earlier fate.Lengthens receive = []
ack_output earlier (fate.Cuts because) receive = []

-- an I unit with these numbers
abbrev pub stamped : Stamp → List ℕ → ApduValue
stamped stamp asdu = Info stamp.send stamp.receive asdu

-- the mirror that goes to the client by a refused command, with numbers of its own
abbrev pub mirror_output : List Judged → Fate → ApduValue → List ℕ
mirror_output earlier (fate.Refused refusal) (Info send receive asdu) =
    if has_mirror earlier asdu then apdu_spelling (stamped (mirror_stamp (events_of earlier)) (mirrored asdu)) else []
mirror_output earlier (fate.Refused refusal) (Ack receive) = []
mirror_output earlier (fate.Refused refusal) (Control octet) = []
mirror_output earlier fate.Carried a = []
mirror_output earlier (fate.Admitted used) a = []
mirror_output earlier (fate.Stray because) a = []
mirror_output earlier fate.Lengthens a = []
mirror_output earlier (fate.Cuts because) a = []

-- what goes on to a side, with its numbers translated
abbrev pub renumbered : Side → List Judged → ApduValue → ApduValue
renumbered side.Controller earlier (Info send receive asdu) = stamped (admitted_stamp (events_of earlier) receive) asdu
renumbered side.Controller earlier (Ack receive) = Ack (client_translated (events_of earlier) receive % 32768)
renumbered side.Controller earlier (Control octet) = Control octet
renumbered side.Client earlier (Info send receive asdu) = stamped (carried_stamp (events_of earlier) receive) asdu
renumbered side.Client earlier (Ack receive) = Ack (controller_translated (events_of earlier) receive % 32768)
renumbered side.Client earlier (Control octet) = Control octet

-- the receive number of an APDU
abbrev pub info_number : ApduValue → ℕ
info_number (Info send receive asdu) = receive
info_number (Ack receive) = receive
info_number (Control octet) = 0

-- what an APDU of a side puts into the stream to a side
abbrev pub apdu_output : Side → List Judged → Fate → Side → ApduValue → List ℕ
apdu_output side.Client earlier f side.Client a = mirror_output earlier f a
apdu_output side.Client earlier f side.Controller a = if goes_on f then apdu_spelling (renumbered side.Client earlier a) else []
apdu_output side.Controller earlier f side.Client a = if goes_on f then apdu_spelling (renumbered side.Controller earlier a) else ack_output
    earlier f (info_number a)
apdu_output side.Controller earlier f side.Controller a = []

-- the octets that the line of an APDU shows
abbrev pub apdu_octets : ApduValue → List ℕ
apdu_octets a = apdu_spelling a
