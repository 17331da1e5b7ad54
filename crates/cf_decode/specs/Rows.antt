-- Beside the proof: worked rows of the definitions, evaluated, a check of the definitions alone: `RowsHold`.
use Rattle.cf_apci.specs.Apdu.{Ack, Control, Info}
use Rattle.cf_decode.specs.Passed.{passed}
use Rattle.cf_decode.specs.Commands.{OfModbus}
use Rattle.cf_decode.specs.Stations.{commands_to, units_to}
use Rattle.cf_decode.specs.Received.{received, segments_in}
use Rattle.cf_decode.specs.Units.{Addresses, Fragment, Passed, Whole, addresses_of, units_from, units_of}
use Rattle.cf_dnplink.specs.LinkFrame.{FrameValue, frame_with}
use Rattle.cf_view.specs.declared.Side.{Side}
use Rattle.cf_dnptrans.specs.Transport.{unfinished}
use Rattle.cf_lane.specs.Judged.{Judged}
use Rattle.cf_lane.specs.Rows.{a_write_refused_then_one_admitted, asked, dnp3_asset, iec104_asset, judge_all, modbus_asset}
use Rattle.cf_lane.specs.Rows.{refused_behind_data, refused_then_admitted, write_of}
use Rattle.cf_lane.specs.Unit.{Adu, Apdu, Frame, UnitValue}
use Rattle.cf_policy.specs.Site.{alone}
use Rattle.std.specs.Prelude.{List, Some, [], drop, map, ◌++◌, replicate, reverse, take, ℕ, ◌∷◌, ◌≡◌}
use Rattle.cf_view.specs.declared.Side.TheVariants as side

-- a request for link status
abbrev pub status_request : FrameValue
status_request = frame_with 0xc9 10 1 []

-- the addresses of the asset of DNP3
abbrev pub rtu : Addresses
rtu = addresses_of dnp3_asset

-- a fragment of 300 octets between two of two octets, and a request for link status before the last
abbrev pub several : List Passed
several = Fragment rtu (0xc0 ∷ 2 ∷ []) ∷ Fragment rtu (replicate 300 7) ∷ Whole (Frame status_request) ∷ Fragment rtu (0xc1 ∷ 13 ∷ []) ∷ []

-- the units of those, behind 62 segments
abbrev pub units : List UnitValue
units = units_from (replicate 62 (Fragment rtu (0xc0 ∷ 2 ∷ []))) several

abbrev pub heads : List (List ℕ) → List (List ℕ)
heads segments = map (λ s. take 1 s) segments

abbrev pub by_client : FrameValue → Side × UnitValue
by_client x = (side.Client, Frame x)

-- a second station behind the same master, and what goes to both in turn
abbrev pub other_rtu : Addresses
other_rtu = record { station = 11; master = 1 }

-- a long fragment to the one, and a short one to the other
abbrev pub long : Passed
long = Fragment rtu (replicate 300 7)

-- the short one
abbrev pub short : Passed
short = Fragment other_rtu (0xc0 ∷ 2 ∷ [])

-- the units of the short one between those of the long one
abbrev pub in_turns : List UnitValue
in_turns = take 1 (units_of [] long) ++ units_of (long ∷ []) short ++ drop 1 (units_of [] long)

-- the units of three fragments, of which the second is the other station's
abbrev pub three : List UnitValue
three = units_from [] (Fragment rtu (0xc0 ∷ 2 ∷ []) ∷ short ∷ Fragment rtu (0xc1 ∷ 2 ∷ []) ∷ [])

-- a write to the station of the asset, and one to another
abbrev pub two_writes : List UnitValue
two_writes = Adu (write_of 40 100) ∷ Adu (record (write_of 40 100) { unit = 2 }) ∷ []

-- a confirmation in two segments of the client, and a request for link status between them
abbrev pub confirmed : List Judged
confirmed =
    judge_all dnp3_asset []
    (by_client (frame_with 0xc4 10 1 (0x45 ∷ 0xc0 ∷ [])) ∷ by_client status_request ∷ by_client (frame_with 0xc4 10 1 (0x86 ∷ 0 ∷ [])) ∷ [])

pub record RowsHold : Type 0 where
  -- FIN, FIR and sequences, which count on modulo 64
  pub sequences : heads (segments_in rtu units) ≡ (0xfe ∷ []) ∷ (0x7f ∷ []) ∷ (0x80 ∷ []) ∷ (0xc1 ∷ []) ∷ []
  -- what is made of all units, and of the first two
  pub of_all : received [] units ≡ several
  pub of_two : received [] (take 2 units) ≡ Fragment rtu (0xc0 ∷ 2 ∷ []) ∷ []
  pub unfinished_of_two : unfinished (segments_in rtu (reverse (take 2 units))) ≡ Some (replicate 249 7)
  -- fragments to two stations: each is put together for itself, also where their segments come in turns, and has sequences of its own
  pub of_both : received [] in_turns ≡ short ∷ long ∷ []
  pub own_sequences : heads (segments_in rtu three) ≡ (0xc0 ∷ []) ∷ (0xc1 ∷ []) ∷ []
  pub other_sequences : heads (segments_in other_rtu three) ≡ (0xc0 ∷ []) ∷ []
  -- what the units with one station make
  pub own_frames : received [] (units_to dnp3_asset in_turns) ≡ long ∷ []
  pub own_writes : commands_to modbus_asset two_writes ≡ OfModbus (write_of 40 100) ∷ []
  pub a_confirmation : passed (alone dnp3_asset) confirmed ≡ Whole (Frame status_request) ∷ Fragment rtu (0xc0 ∷ 0 ∷ []) ∷ []
  pub a_write : passed (alone modbus_asset) a_write_refused_then_one_admitted ≡ Whole (Adu (write_of 40 100)) ∷ []
  pub an_admitted_command :
      passed (alone iec104_asset) refused_then_admitted
      ≡ Whole (Apdu (Control 7)) ∷ Whole (Apdu (Info 0 0 (asked 0xe8 1))) ∷ []
  pub a_refused_command : passed (alone iec104_asset) refused_behind_data ≡ Whole (Apdu (Control 7)) ∷ Whole (Apdu (Ack 3)) ∷ []
