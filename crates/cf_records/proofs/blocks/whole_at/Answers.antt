use Rattle.std.proofs.Common.{◌≡◌, ◌^◌, ◌+◌, ◌≤◌, List, ℕ, length, take, false, sym, ap, ◌∙◌, subst, arith, length-take}
use Rattle.std.proofs.lemmas.Bool.Decides.{nat_tests}
use Rattle.cf_pcapng.specs.Answers.{answer_of}
use Rattle.cf_pcapng.specs.Block.{Found, Is, Needs, Other, Refuses, block_at}
use Rattle.cf_pcapng.specs.Blocks.{after_found}
use Rattle.cf_pcapng.specs.Section.{Section}
use Rattle.cf_records.specs.Capture.{Fits, by_block, is_past, section_at}
use Rattle.cf_records.specs.Pieces.{EndsAs, SizeFits}
use Rattle.cf_records.specs.declared.form.Form.TheVariants as form
use Rattle.cf_records.proofs.BlockPieces.{same_after, same_refused, section_whole, whole_block}
use Rattle.cf_records.proofs.blocks.whole_at.Goals as goal

-- what the octets say stands there
stood : (section : Section) (place size : ℕ) (octets all : List ℕ) (f : Found) → octets ≡ take size all → place + length octets ≤ 2 ^ 40 →
    SizeFits section place all size → f ≡ answer_of (block_at section octets) → section_at section place all ≡ by_block f
stood section place size octets all f e near fits is =
    let long = ap length e ∙ length-take size all in
    let past : is_past place size all ≡ false = grind (arith, nat_tests, long) in
    section_whole section place all size fits past ∙ ap (λ o. by_block (answer_of (block_at section o))) (sym e) ∙ ap by_block (sym is)

-- the form after it
behind : (section new : Section) (size : ℕ) (octets all : List ℕ) (place : ℕ) → octets ≡ take size all → SizeFits section place all size →
    new ≡ after_found section (block_at section octets) → form.Blocks new ≡ form.Blocks (after_found section (block_at section all))
behind section new size octets all place e fits is =
    ap form.Blocks (is ∙ ap (λ o. after_found section (block_at section o)) e ∙ ap (after_found section) (whole_block section all size fits.told))

pub returns-in-Record-clause-found : goal.returns-in-Record-clause-found
returns-in-Record-clause-found c = λ all size e fits.
    let section = c.args.reader.now in
    let placed = c.in-Record.ensures.inside.0.0 in (
      stood section c.args.place size c.args.octets.now all _ e (omega arith) fits c.in-Record.ensures.found
          ∙ ap (λ b. Fits (record { stamp = c.in-Record.stamp; link = c.in-Record.link; body = b }) c.in-Record.used) placed,
      behind section c.next_block.new.self size c.args.octets.now all c.args.place e fits c.in-Record.ensures.section,
    )

pub returns-in-Passed-clause-found : goal.returns-in-Passed-clause-found
returns-in-Passed-clause-found c = λ all size e fits.
    let section = c.args.reader.now in (
      stood section c.args.place size c.args.octets.now all (Is Other c.in-Passed.used) e (omega arith) fits c.in-Passed.ensures.found,
      behind section c.next_block.new.self size c.args.octets.now all c.args.place e fits c.in-Passed.ensures.section,
    )

pub returns-in-Need-clause-found : goal.returns-in-Need-clause-found
returns-in-Need-clause-found c = λ all size e fits.
    let section = c.args.reader.now in (
      stood section c.args.place size c.args.octets.now all (Needs c.in-Need.field-0) e (omega arith) fits c.in-Need.ensures.found,
      ap form.Blocks (c.in-Need.ensures.section ∙ same_after section (block_at section c.args.octets.now) c.in-Need.field-0 c.in-Need.ensures.found),
    )

pub returns-in-Refused-clause-found : goal.returns-in-Refused-clause-found
returns-in-Refused-clause-found c = λ all size e fits.
    let section = c.args.reader.now in (
      subst (EndsAs c.refused.result) (sym (stood section c.args.place size c.args.octets.now all (Refuses c.in-Refused.number) e (omega arith) fits c.in-Refused.ensures.found)) c.refused.ensures.value,
      ap form.Blocks (c.in-Refused.ensures.section ∙ same_refused section (block_at section c.args.octets.now) c.in-Refused.number c.in-Refused.ensures.found),
    )
