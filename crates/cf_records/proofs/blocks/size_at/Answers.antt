use Rattle.std.proofs.Common.{◌≡◌, ◌<◌, length, false, sym, ap, ◌∙◌, subst, arith, length-take}
use Rattle.std.proofs.lemmas.Bool.Decides.{nat_tests}
use Rattle.cf_pcapng.specs.Block.{Needs, Refuses, size_at}
use Rattle.cf_records.specs.Capture.{is_past}
use Rattle.cf_records.specs.Pieces.{EndsAs}
use Rattle.cf_records.proofs.BlockPieces.{first_size, section_by}
use Rattle.cf_records.proofs.blocks.size_at.Goals as goal

pub returns-in-Size-clause-found : goal.returns-in-Size-clause-found
returns-in-Size-clause-found c = λ octets e.
    let long = ap length e ∙ length-take 28 octets in
    record {
      some = grind (arith, nat_tests, long);
      near = grind (arith, nat_tests, long);
      told = sym (first_size c.args.reader.now octets) ∙ ap (size_at c.args.reader.now) (sym e) ∙ sym c.in-Size.ensures.size;
    }

pub returns-in-Need-clause-found : goal.returns-in-Need-clause-found
returns-in-Need-clause-found c = λ octets e.
    let long = ap length e ∙ length-take 28 octets in
    let some : 0 < length octets = grind (arith, nat_tests, long) in
    let near : is_past c.args.place 8 octets ≡ false = grind (arith, nat_tests, long) in
    section_by c.args.reader.now c.args.place octets (Needs c.in-Need.field-0) some near
    (sym (first_size c.args.reader.now octets) ∙ ap (size_at c.args.reader.now) (sym e) ∙ sym c.in-Need.ensures.size)

pub returns-in-Refused-clause-found : goal.returns-in-Refused-clause-found
returns-in-Refused-clause-found c = λ octets e.
    let long = ap length e ∙ length-take 28 octets in
    let some : 0 < length octets = grind (arith, nat_tests, long) in
    let near : is_past c.args.place 8 octets ≡ false = grind (arith, nat_tests, long) in
    subst (EndsAs c.refused.result) (sym (section_by c.args.reader.now c.args.place octets (Refuses c.in-Refused.number) some near
    (sym (first_size c.args.reader.now octets) ∙ ap (size_at c.args.reader.now) (sym e) ∙ sym c.in-Refused.ensures.size))) c.refused.ensures.value
