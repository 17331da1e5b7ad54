-- The units of the three protocols, `UnitValue`: one line a protocol in each definition.
use Rattle.cf_apci.specs.Apdu.{ApduValue, SpellsApdu, apdu_break}
use Rattle.cf_dnplink.specs.LinkFrame.{FrameValue, SpellsFrame, frame_break}
use Rattle.cf_dnplink.specs.UserOctets.{user_of}
use Rattle.cf_modbus.specs.Adu.{AduValue, SpellsAdu, mbap_break, spelling}
use Rattle.cf_policy.specs.declared.Protocol.{Protocol}
use Rattle.cf_view.specs.Units.{IsUnitsThenBreak, IsUnitsThenRest}
use Rattle.cf_view.specs.declared.Break.{Break}
use Rattle.std.specs.Prelude.{List, ℕ, ◌≡◌}
use Rattle.cf_apci.specs.Apdu as apci
use Rattle.cf_dnplink.specs.LinkFrame as link
use Rattle.cf_policy.specs.declared.Protocol.TheVariants as protocol

-- the octets of a frame
abbrev pub frame_spelling : FrameValue → List ℕ
frame_spelling f = link.spelling f.control f.dest f.source (user_of f.blocks)

-- the octets of an APDU
abbrev pub apdu_spelling : ApduValue → List ℕ
apdu_spelling a = apci.spelling a

-- a unit of one of the three protocols
pub data UnitValue : Type 0 where
  Adu : AduValue → UnitValue
  Frame : FrameValue → UnitValue
  Apdu : ApduValue → UnitValue

-- an ADU, a frame and an APDU as units
abbrev pub adu_unit : AduValue → UnitValue
adu_unit a = Adu a

abbrev pub frame_unit : FrameValue → UnitValue
frame_unit f = Frame f

abbrev pub apdu_unit : ApduValue → UnitValue
apdu_unit a = Apdu a

-- the octets of a unit
abbrev pub unit_spelling : UnitValue → List ℕ
unit_spelling (Adu a) = spelling a
unit_spelling (Frame f) = frame_spelling f
unit_spelling (Apdu a) = apdu_spelling a

-- the octets are this unit of the protocol
abbrev pub SpellsUnit : Protocol → UnitValue → List ℕ → Type 0
SpellsUnit protocol.Modbus (Adu a) octets = SpellsAdu a octets
SpellsUnit protocol.Dnp3 (Frame f) octets = SpellsFrame f octets
SpellsUnit protocol.Iec104 (Apdu a) octets = SpellsApdu a octets
SpellsUnit _ _ octets = ⊥

-- the break at a place of a unit
abbrev pub unit_break : Protocol → ℕ → Break
unit_break protocol.Modbus place = mbap_break place
unit_break protocol.Dnp3 place = frame_break place
unit_break protocol.Iec104 place = apdu_break place

-- what follows the whole units of a stream: a proper prefix of a unit, which may be empty, or a break
pub data Tail : Type 0 where
  Left : List ℕ → Tail
  Wrong : Break → Tail

-- the bytes are these units and then this tail
abbrev pub AreUnits : Protocol → List ℕ → List UnitValue → Tail → Type 0
AreUnits p bytes units (Left rest) = IsUnitsThenRest (SpellsUnit p) units bytes rest
AreUnits p bytes units (Wrong reason) = (place : ℕ) × IsUnitsThenBreak (SpellsUnit p) units bytes place × (reason ≡ unit_break p place)
