use Rattle.std.proofs.Common.{arith}
use Rattle.cf_view.specs.Places.{SpellsBy}
use Rattle.cf_view.proofs.Places.{partial, breaks, begins, begins_too, partial_too, breaks_too}
use Rattle.cf_apci.specs.Apdu.{SpellsApdu}
use Rattle.cf_apci.specs.Places.{follows, size_of, fields_of}
use Rattle.cf_apci.proofs.Places.{told, next, goes_on}
use Rattle.cf_apci.proofs.Spelled.{to_spelled, from_spelled}
use Rattle.cf_apci.proofs.apdu.front.Goals as goal

pub returns-in-Some : goal.returns-in-Some
returns-in-Some c =
    let f = c.in-Some.ensures in (
      c.in-Some.place,
      breaks_too (SpellsBy follows size_of fields_of) SpellsApdu to_spelled from_spelled c.args.bytes.bytes c.in-Some.place
          (breaks follows size_of told next goes_on fields_of c.args.bytes.bytes c.in-Some.place c.len-len.ensures.octets (omega arith) (omega arith) f.1 f.2),
      c.break_at.ensures,
    )

pub returns-then-len-size : goal.returns-then-len-size
returns-then-len-size c =
    partial_too (SpellsBy follows size_of fields_of) SpellsApdu to_spelled from_spelled c.args.bytes.bytes
    (partial follows size_of told next goes_on fields_of c.args.bytes.bytes c.len-len.ensures.octets (λ p l. c.in_default.ensures p (omega arith)) (omega arith))

pub returns : goal.returns
returns c =
    let b = begins_too (SpellsBy follows size_of fields_of) SpellsApdu to_spelled from_spelled c.args.bytes.bytes _ _
    (begins follows size_of told fields_of c.args.bytes.bytes c.len-len.ensures.octets (omega arith) (λ p l. c.in_default.ensures p (omega arith))) in
    rw (c.unit_of.ensures, c.size-size.ensures.value) b
