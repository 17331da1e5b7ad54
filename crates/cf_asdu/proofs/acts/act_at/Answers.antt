use Rattle.std.proofs.Common.{◌≡◌, ◌<◌, arith, ◌∙◌, sym, Some}
use Rattle.cf_asdu.specs.Asdu.{asdu_value}
use Rattle.cf_asdu.specs.Types.{element_of}
use Rattle.cf_asdu.proofs.ActList.{object_inside, number_inside, act_there, count_of_acts}
use Rattle.cf_asdu.proofs.acts.act_at.Goals as goal

known : (c : goal.After-from-3) → element_of c.args.asdu.now.kind ≡ Some c.in-Some.element
known c = sym c.element_of.ensures ∙ c.in-Some.is

inside : (c : goal.After-from-3) → c.args.i < c.args.asdu.now.number
inside c = (let n = count_of_acts (asdu_value c.args.asdu.now) c.requires.read in let i = c.requires.inside in omega (arith, n, i))

pub u24_le-requires : goal.u24_le-requires
u24_le-requires c =
    let o = object_inside (asdu_value c.args.asdu.now) c.in-Some.element c.args.i c.requires.read (known c) (inside c) in
    rw c.from.ensures (omega (arith, o))

pub number_at-requires : goal.number_at-requires
number_at-requires c =
    let k : element_of c.args.asdu.now.kind ≡ Some c.in-Some.element = sym c.element_of.ensures ∙ c.in-Some.is in
    let n = count_of_acts (asdu_value c.args.asdu.now) c.requires.read in
    let i = c.requires.inside in
    rw c.from.ensures (number_inside (asdu_value c.args.asdu.now) c.in-Some.element c.args.i c.requires.read k (omega (arith, n, i)))

pub returns : goal.returns
returns c =
    let k : element_of c.args.asdu.now.kind ≡ Some c.in-Some.element = sym c.element_of.ensures ∙ c.in-Some.is in
    let n = count_of_acts (asdu_value c.args.asdu.now) c.requires.read in
    let i = c.requires.inside in
    rw (c.number_at.ensures, c.u24_le.ensures, c.from.ensures, c.from-2.ensures, c.from-3.ensures)
    (act_there (asdu_value c.args.asdu.now) c.in-Some.element c.args.i k (omega (arith, n, i)))
