use Rattle.std.proofs.Common.{refl, arith}
use Rattle.cf_records.proofs.ClassicPieces.{cut_need, fits_whole, never_long}
use Rattle.cf_records.proofs.classic.body_at.Goals as goal

pub returns-in-Whole-clause-found : goal.returns-in-Whole-clause-found
returns-in-Whole-clause-found c = λ all size e fits.
    (fits_whole c.args.header.now c.args.place size all c.args.octets.now fits e (omega arith) c.in-Whole.stamp c.in-Whole.used c.in-Whole.body.now c.in-Whole.ensures.value, refl)

pub returns-in-Need-clause-found : goal.returns-in-Need-clause-found
returns-in-Need-clause-found c = λ all size e fits.
    (cut_need c.args.header.now c.args.place size all c.args.octets.now fits e (omega arith) c.in-Need.field-0 c.in-Need.ensures.value, refl)

pub returns-in-TooLong-clause-found : goal.returns-in-TooLong-clause-found
returns-in-TooLong-clause-found c = λ all size e fits.
    absurd (never_long c.args.header.now c.args.place size all c.args.octets.now fits e (omega arith) c.in-TooLong.ensures.value)
