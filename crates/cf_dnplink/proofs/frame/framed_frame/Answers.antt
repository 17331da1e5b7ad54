use Rattle.std.proofs.Common.{arith}
use Rattle.cf_dnplink.specs.FramePlaces.{follows, size_of, fields_of}
use Rattle.cf_view.proofs.Places.{partial, breaks, begins}
use Rattle.cf_dnplink.proofs.FramePlaces.{told, next, goes_on, fields_front, size_least}
use Rattle.cf_dnplink.proofs.frame.framed_frame.Goals as goal

pub returns-in-Some : goal.returns-in-Some
returns-in-Some c =
    let f = c.in-Some.ensures in
    (c.in-Some.place, breaks follows size_of told next goes_on fields_of c.args.bytes.bytes c.in-Some.place c.len-len.ensures.octets (omega arith) (omega arith) f.1 f.2, c.break_at.ensures)

pub returns-then-len-size : goal.returns-then-len-size
returns-then-len-size c =
    partial follows size_of told next goes_on fields_of c.args.bytes.bytes c.len-len.ensures.octets (λ p l. c.in_default.ensures p (omega arith)) (omega arith)

pub returns : goal.returns
returns c =
    let b = begins follows size_of told fields_of c.args.bytes.bytes c.len-len.ensures.octets (omega arith) (λ p l. c.in_default.ensures p (omega arith)) in
    rw (c.at.ensures.value, c.u16_le.ensures.value, c.u16_le-2.ensures.value, c.sub.ensures.bytes, c.size-size.ensures.value, ← fields_front c.args.bytes.bytes (size_of c.args.bytes.bytes) (size_least c.args.bytes.bytes)) b
