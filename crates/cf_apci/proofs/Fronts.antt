-- What stands at the front of octets, and that no APDU begins another.
use Rattle.std.proofs.Common.{ℕ, List, arith}
use Rattle.cf_view.specs.Octets.{IsOctets}
use Rattle.cf_view.specs.Framing.{IsPrefixFree, HasFront}
use Rattle.cf_view.specs.Places.{SpellsBy}
use Rattle.cf_view.proofs.Places.{prefix_free, has_front, free_too, front_too}
use Rattle.cf_apci.specs.Apdu.{ApduValue, SpellsApdu}
use Rattle.cf_apci.specs.Places.{size_of, follows, fields_of}
use Rattle.cf_apci.proofs.Places.{told, next, goes_on, size_least}
use Rattle.cf_apci.proofs.Spelled.{to_spelled, from_spelled}

pub apdus_free : IsPrefixFree SpellsApdu
apdus_free = free_too (SpellsBy follows size_of fields_of) SpellsApdu to_spelled from_spelled (prefix_free follows size_of told fields_of)

pub apdu_front : (xs : List ℕ) → IsOctets xs → HasFront SpellsApdu xs
apdu_front xs o =
    front_too (SpellsBy follows size_of fields_of) SpellsApdu to_spelled from_spelled xs
    (has_front follows size_of told next goes_on fields_of (λ ys. omega (arith, size_least ys)) xs o)

-- what is spelled is octets
pub apdu_octets : (a : ApduValue) (xs : List ℕ) → SpellsApdu a xs → IsOctets xs
apdu_octets a xs s = (from_spelled a xs s).unit.octets_are
