-- The ASDU of a command, and what is read of its octets: the main definition is Reads, read from the end.
-- IEC 60870-5-101, section 7.2: type identification, variable structure qualifier, cause of transmission of two octets, common
-- address of two octets, and information objects with addresses of three octets, as IEC 60870-5-104 has them.
use Rattle.std.specs.Prelude.{◌≡◌, ℕ, ◌+◌, ◌*◌, ◌%◌, ◌<◌, ◌≤◌, ◌==◌, ◌&&◌, ◌||◌, not, nat_lt, nat_le, if◌then◌else◌, Bool, false, List, ◌∷◌}
use Rattle.std.specs.Prelude.{◌++◌, length, Option, Some, None, is_some, Result, Ok, Err}
use Rattle.cf_view.specs.Octets.{IsOctets, u16_le_at, u16_le_octets}
use Rattle.cf_view.specs.declared.Reason.{Reason}
use Rattle.cf_view.specs.declared.Reason.TheVariants as reasons
use Rattle.cf_asdu.specs.declared.asdu.Asdu.{Asdu}
use Rattle.cf_asdu.specs.declared.asdu.AsduRefusal.{AsduRefusal}
use Rattle.cf_asdu.specs.declared.asdu.AsduRefusal.TheVariants as refusals
use Rattle.cf_asdu.specs.declared.element.Element.{Element}
use Rattle.cf_asdu.specs.Types.{element_of}

-- an ASDU without where it lies in memory
pub record AsduValue : Type 0 where
  pub kind : ℕ
  -- SQ and the number of objects
  pub number : ℕ
  -- T, P/N and the cause
  pub cause : ℕ
  pub origin : ℕ
  pub station : ℕ
  pub objects : List ℕ

-- what a contract sees of an `Asdu`
abbrev pub asdu_value : Asdu → AsduValue
asdu_value a =
    record { kind = a.kind; number = a.number; cause = a.cause; origin = a.origin; station = a.station; objects = a.objects.bytes }

-- the octets of an ASDU
abbrev pub spelling : AsduValue → List ℕ
spelling a = a.kind ∷ a.number ∷ a.cause ∷ a.origin ∷ u16_le_octets a.station ++ a.objects

-- the octets are this ASDU
pub record SpellsAsdu (a : AsduValue) (octets : List ℕ) : Type 0 where
  pub kind : a.kind < 256
  pub number : a.number < 256
  pub cause : a.cause < 256
  pub origin : a.origin < 256
  pub station : a.station < 65536
  pub objects : IsOctets a.objects
  pub spelled : octets ≡ spelling a

-- a type of the table
abbrev pub is_served : ℕ → Bool
is_served kind = is_some (element_of kind)

-- SQ is not set, and there are as many objects as the number says, at least one, each an address and an element
abbrev pub has_objects : Option Element → AsduValue → Bool
has_objects None a = false
has_objects (Some e) a = nat_le 1 a.number && (nat_lt a.number 128 && (length a.objects == a.number * (3 + e.octets)))

-- the cause, without P/N and T: request, activation and deactivation. That no other is a command is this project's own.
abbrev pub is_command_cause : ℕ → Bool
is_command_cause cause = (cause % 64 == 5) || ((cause % 64 == 6) || (cause % 64 == 8))

-- the tests of an ASDU of nine octets or more, in their order: the first that fails
abbrev pub first_refusal : AsduValue → Option AsduRefusal
first_refusal a =
    if not (is_served a.kind) then Some refusals.Kind else
    (if not (has_objects (element_of a.kind) a) then Some refusals.Shape else
    (if not (is_command_cause a.cause) then Some refusals.Cause else None))

-- the octets are an ASDU of nine octets or more, of which the tests tell this
abbrev pub Tests : AsduValue → List ℕ → Option AsduRefusal → Type 0
Tests a octets refusal = SpellsAsdu a octets × (9 ≤ length octets) × (first_refusal a ≡ refusal)

-- an answer about octets is true
abbrev pub Reads : Result AsduValue AsduRefusal → List ℕ → Type 0
Reads (Ok a) octets = Tests a octets None
Reads (Err refusals.Short) octets = length octets < 9
Reads (Err refusals.Kind) octets = (a : AsduValue) × Tests a octets (Some refusals.Kind)
Reads (Err refusals.Shape) octets = (a : AsduValue) × Tests a octets (Some refusals.Shape)
Reads (Err refusals.Cause) octets = (a : AsduValue) × Tests a octets (Some refusals.Cause)

-- an answer, with the ASDU as a contract sees it
abbrev pub asdu_answer : Result Asdu AsduRefusal → Result AsduValue AsduRefusal
asdu_answer (Ok asdu) = Ok (asdu_value asdu)
asdu_answer (Err refusal) = Err refusal

-- an ASDU that reading some octets gives
abbrev pub IsRead : AsduValue → Type 0
IsRead a = (octets : List ℕ) × Reads (Ok a) octets

-- the common address of the ASDU that the octets begin
abbrev pub station_of : List ℕ → ℕ
station_of octets = u16_le_at octets 4

-- the reason that a refusal stands for: this project's own division
abbrev pub refusal_reason : AsduRefusal → Reason
refusal_reason refusals.Short = reasons.Value
refusal_reason refusals.Kind = reasons.Function
refusal_reason refusals.Shape = reasons.Value
refusal_reason refusals.Cause = reasons.Function
