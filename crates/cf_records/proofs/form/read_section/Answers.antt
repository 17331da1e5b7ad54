use Rattle.std.proofs.Common.{◌≡◌, ◌==◌, Ok, ap, arith, false, sym, ◌∙◌}
use Rattle.cf_pcapng.specs.Block.{Is, Needs, Other, Refuses, size_at}
use Rattle.cf_pcapng.specs.Section.{Section}
use Rattle.cf_pcapng.specs.declared.block.TheConstants.{REFUSED_SECTION}
use Rattle.cf_records.specs.declared.form.Form.TheVariants as form
use Rattle.cf_records.proofs.Forms.{form_by, formed}
use Rattle.cf_records.proofs.form.read_section.Goals as goal

pub returns-in-Need : goal.returns-in-Need
returns-in-Need c =
    formed c.args.kinds c.args.bytes.now c.requires (Needs c.in-Need.field-0) (c.in-Need.ensures.size ∙ ap (λ (s : Section). size_at s c.args.bytes.now) c.in-Ok.ensures)

pub returns-in-Size : goal.returns-in-Size
returns-in-Size c =
    formed c.args.kinds c.args.bytes.now c.requires (Is Other c.in-Size.field-0) (c.in-Size.ensures.size ∙ ap (λ (s : Section). size_at s c.args.bytes.now) c.in-Ok.ensures)
    ∙ ap (λ (s : Section). Ok (form.Blocks s)) (sym c.in-Ok.ensures)

pub returns-then-number-eq-REFUSED_SECTION : goal.returns-then-number-eq-REFUSED_SECTION
returns-then-number-eq-REFUSED_SECTION c =
    formed c.args.kinds c.args.bytes.now c.requires (Refuses c.in-Refused.number)
    (c.in-Refused.ensures.size ∙ ap (λ (s : Section). size_at s c.args.bytes.now) c.in-Ok.ensures)
    ∙ ap (λ n. form_by c.args.kinds (Refuses n)) c.if-number-eq-REFUSED_SECTION.true

pub returns-else-number-eq-REFUSED_SECTION : goal.returns-else-number-eq-REFUSED_SECTION
returns-else-number-eq-REFUSED_SECTION c =
    let other : (c.in-Refused.number == REFUSED_SECTION) ≡ false = grind (arith, c.if-number-eq-REFUSED_SECTION.false) in
    formed c.args.kinds c.args.bytes.now c.requires (Refuses c.in-Refused.number)
    (c.in-Refused.ensures.size ∙ ap (λ (s : Section). size_at s c.args.bytes.now) c.in-Ok.ensures)
    ∙ rw other (ap (λ (s : Section). Ok (form.Blocks s)) (sym c.in-Ok.ensures))
