-- The mirror of an ASDU, field by field.
use Rattle.std.proofs.Common.{ℕ, ◌%◌, ◌<◌, ◌==◌, not, if◌then◌else◌, Bool, true, false, List, refl, arith}
use Rattle.std.proofs.lemmas.Bool.Decides.{nat_tests}
use Rattle.cf_asdu.specs.Asdu.{AsduValue, SpellsAsdu, is_served}
use Rattle.cf_asdu.specs.Mirror.{mirror_octet, mirror_of, mirrored}

cause_of : Bool → ℕ → ℕ
cause_of served cause = if not served then 44 else (if cause == 6 then 7 else (if cause == 8 then 9 else 45))

cause_small : (served : Bool) (cause : ℕ) → cause_of served cause < 64
unfolding cause_of
cause_small true cause = grind (arith, nat_tests)
cause_small false cause = omega arith

octet_small : (kind octet : ℕ) → octet < 256 → mirror_octet kind octet < 256
unfolding cause_of
octet_small kind octet h = (let c = cause_small (is_served kind) (octet % 64) in omega (arith, c, h))

-- the octets of the mirror are those of the ASDU with another cause
pub mirror_spelled : (a : AsduValue) (octets : List ℕ) → SpellsAsdu a octets → SpellsAsdu (mirror_of a) (mirrored octets)
mirror_spelled a octets s =
    record {
      kind = s.kind;
      number = s.number;
      origin = s.origin;
      station = s.station;
      objects = s.objects;
      cause = octet_small a.kind a.cause s.cause;
      spelled = rw s.spelled refl;
    }
