use Rattle.std.proofs.Common.{◌≡◌, sym, subst, arith, pos, ◌+ℤ◌, length, [], true, Bool, ℤ, ℕ, List, to_z, of_z, w64}
use Rattle.std.proofs.lemmas.Int.{ints}
use Rattle.std.proofs.lemmas.List.{append-nil}
use Rattle.cf_watch.specs.Kept.{Takes, with_gone}
use Rattle.cf_watch.proofs.Taking.{bytes_from, letters_from, takes_both}
use Rattle.cf_watch.proofs.carry.carry.Goals as goal

pub returns-in_ok-carry_letter : goal.returns-in_ok-carry_letter
returns-in_ok-carry_letter c = record {
  takes = λ gone gone_born gone_size.
      let text = c.args.text.now in
      let at = c.args.at in
      let old = with_gone gone gone_born c.args.flow.now in
      let mid = with_gone gone gone_born c.carry_text.new.flow in
      let new = with_gone gone gone_born c.carry_letter.new.flow in
      let here : to_z w64 (of_z w64 at) ≡ at = omega (arith, ints, c.ranges.at.sfits) in
      let next : to_z w64 (of_z w64 (to_z w64 (of_z w64 at) +ℤ to_z w64 (length text))) ≡ at +ℤ pos (length text) = omega (arith, ints, c.requires.past, c.requires.short, c.ranges.at.sfits) in
      let front = subst (λ (z : ℤ). Takes (bytes_from c.args.number z text) old c.args.ahead.now mid c.carry_text.new.ahead) here (c.in_ok-carry_text.ensures.takes gone gone_born gone_size) in
      let back = subst (λ (z : ℤ). Takes (letters_from c.args.number z [] true) mid c.carry_text.new.ahead new c.carry_letter.new.ahead) next (c.in_ok-carry_letter.ensures.takes gone gone_born gone_size) in
      let both = takes_both c.args.number at text [] true old mid new c.args.ahead.now c.carry_text.new.ahead c.carry_letter.new.ahead front back in
      subst (λ (b : Bool). Takes (letters_from c.args.number at text b) old c.args.ahead.now new c.carry_letter.new.ahead) (sym c.if-ended.true)
      (subst (λ (xs : List ℕ). Takes (letters_from c.args.number at xs true) old c.args.ahead.now new c.carry_letter.new.ahead) (append-nil text) both);
}

pub returns-else-ended : goal.returns-else-ended
returns-else-ended c = record {
  takes = λ gone gone_born gone_size.
      let text = c.args.text.now in
      let at = c.args.at in
      let old = with_gone gone gone_born c.args.flow.now in
      let new = with_gone gone gone_born c.carry_text.new.flow in
      let here : to_z w64 (of_z w64 at) ≡ at = omega (arith, ints, c.ranges.at.sfits) in
      subst (λ (b : Bool). Takes (letters_from c.args.number at text b) old c.args.ahead.now new c.carry_text.new.ahead) (sym c.if-ended.false)
      (subst (λ (z : ℤ). Takes (bytes_from c.args.number z text) old c.args.ahead.now new c.carry_text.new.ahead) here (c.in_ok-carry_text.ensures.takes gone gone_born gone_size));
}
