use Rattle.std.proofs.Common.{rules, ◌≡◌, ◌+◌, ◌-◌, ◌≤◌, sym, subst, arith, pos, ◌+ℤ◌, take, drop, length, ◌++◌, false, ℤ, ℕ, List, to_z, of_z, w64}
use Rattle.std.proofs.Math.Seq.{take-add}
use Rattle.std.proofs.lemmas.Int.{ints}
use Rattle.std.proofs.lemmas.List.{length-drop, length-take-le, take_all}
use Rattle.cf_watch.specs.Kept.{Takes, with_gone}
use Rattle.cf_watch.proofs.Taking.{bytes_from, letters_from, takes_both, takes_nothing}
use Rattle.cf_watch.proofs.carry.carry_text.Goals as goal

pub letters-init : goal.letters-init
letters-init c = record {
  most = search rules;
  takes = λ gone gone_born gone_size. takes_nothing c.args.number _ (with_gone gone gone_born c.args.flow.now) c.args.ahead.now;
}

pub letters-preserved : goal.letters-preserved
letters-preserved c =
    let i = c.letters.i in
    let text = c.args.text.now in
    let at = to_z w64 (of_z w64 c.args.at) in
    let n = c.in_ok-i.field-0 in
    let most : i ≤ length text = c.letters.invariant.most in
    let size : length (take i text) ≡ i = length-take-le i text most in
    let next : to_z w64 (of_z w64 (at +ℤ to_z w64 i)) ≡ at +ℤ pos (length (take i text)) = omega (arith, ints, size, most, c.requires.past, c.requires.short, c.ranges.at.sfits) in
    let more : take i text ++ take n (drop i text) ≡ take (i + n) text = sym (take-add i n text) in
    let rest : take (length text - i) (drop i text) ≡ drop i text = take_all (length text - i) (drop i text) (omega (arith, length-drop i text)) in
    record {
      most = search rules;
      takes = λ gone gone_born gone_size.
          let old = with_gone gone gone_born c.args.flow.now in
          let a = c.args.ahead.now in
          let mid = with_gone gone gone_born c.letters.flow in
          let new = with_gone gone gone_born c.carry_some.new.flow in
          let b = c.carry_some.new.ahead in
          let piece : Takes (letters_from c.args.number (to_z w64 (of_z w64 (at +ℤ to_z w64 i))) (take n (drop i text)) false) mid c.letters.ahead new b =
          subst (λ (xs : List ℕ). Takes (letters_from c.args.number (to_z w64 (of_z w64 (at +ℤ to_z w64 i))) (take n xs) false) mid c.letters.ahead new b) rest
          (c.in_ok-i.ensures.takes gone gone_born gone_size) in
          subst (λ (xs : List ℕ). Takes (bytes_from c.args.number at xs) old a new b) more
          (takes_both c.args.number at (take i text) (take n (drop i text)) false old mid new a c.letters.ahead b (c.letters.invariant.takes gone gone_born gone_size)
          (subst (λ (z : ℤ). Takes (letters_from c.args.number z (take n (drop i text)) false) mid c.letters.ahead new b) next piece));
    }

pub returns : goal.returns
returns c =
    let text = c.args.text.now in
    let all : take c.letters.i text ≡ text = take_all c.letters.i text (omega (arith, c.letters-test.false)) in
    let here : to_z w64 (of_z w64 c.args.at) ≡ c.args.at = omega (arith, ints, c.ranges.at.sfits) in
    record {
      takes = λ gone gone_born gone_size.
          let old = with_gone gone gone_born c.args.flow.now in
          let new = with_gone gone gone_born c.letters.flow in
          subst (λ (z : ℤ). Takes (bytes_from c.args.number z text) old c.args.ahead.now new c.letters.ahead) here
          (subst (λ (xs : List ℕ). Takes (bytes_from c.args.number (to_z w64 (of_z w64 c.args.at)) xs) old c.args.ahead.now new c.letters.ahead) all
          (c.letters.invariant.takes gone gone_born gone_size));
    }

pub overflow_add-at : goal.overflow_add-at
overflow_add-at c = omega (arith, ints, c.requires.from, c.requires.past, c.requires.short, c.ranges.at.sfits)

pub carry_some-requires-clause-from : goal.carry_some-requires-clause-from
carry_some-requires-clause-from c = omega (arith, ints, c.requires.from, c.requires.past, c.requires.short, c.ranges.at.sfits)

pub carry_some-requires-clause-past : goal.carry_some-requires-clause-past
carry_some-requires-clause-past c = omega (arith, ints, c.requires.from, c.requires.past, c.requires.short, c.ranges.at.sfits)
