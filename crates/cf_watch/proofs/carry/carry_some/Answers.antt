use Rattle.std.proofs.Common.{rules, ◌≡◌, ◌≤ℤ◌, ◌+ℤ◌, ◌⊎◌, ◌≤◌, ◌<◌, ◌^◌, to_z, of_z, w64, ℕ, ℤ, pos, List, [], ◌∷◌, get_or, length, take, subst, sym, ap, arith, ◌++◌, append_assoc, length-append, ◌∙◌}
use Rattle.std.proofs.lemmas.Int.{ints}
use Rattle.std.proofs.lemmas.List.{length-take-le, take_all, take_more}
use Rattle.cf_watch.specs.Kept.{IsRoom, Takes, with_gone}
use Rattle.cf_watch.proofs.Taking.{bytes_from, takes_bytes, takes_next}
use Rattle.cf_watch.proofs.carry.carry_some.Goals as goal

pub returns-clause-takes : goal.returns-clause-takes
returns-clause-takes c = λ gone gone_born gone_size.
    let count = c.room_apart-count.result in
    let text = c.args.text.now in
    let a = c.args.ahead.now in
    let b = c.keep_bytes.new.ahead in
    let flow = with_gone gone gone_born c.args.flow.now in
    let most : count ≤ length text = search rules in
    let size : length (take count text) ≡ count = length-take-le count text most in
    let own : c.reached-next.result ≡ length flow.bytes = c.reached-next.ensures ∙ omega (arith, gone_size, length-append gone c.args.flow.now.bytes.items) in
    let some : 0 < count = omega (arith, c.if-count-eq0.false) in
    let here : to_z w64 (of_z w64 c.args.at) ≡ c.args.at = omega (arith, ints, c.ranges.at.sfits) in
    takes_bytes c.args.number c.args.at (take count text) flow a b (search rules) c.requires.from
    (λ q e. subst (λ (k : ℕ). IsRoom q k a) (sym size) (c.room_apart-count.ensures.room q (e ∙ ap (λ (z : ℤ). z +ℤ pos (2 ^ 31)) (sym here))))
    (subst (λ (k : ℕ). ((c.args.at +ℤ pos k) ≤ℤ pos 0) ⊎ (pos (length flow.bytes) ≤ℤ c.args.at)) (sym size)
    (subst (λ (k : ℕ). ((c.args.at +ℤ pos count) ≤ℤ pos 0) ⊎ (pos k ≤ℤ c.args.at)) own
    (subst (λ (z : ℤ). ((z +ℤ pos count) ≤ℤ pos 0) ⊎ (pos c.reached-next.result ≤ℤ z)) here (c.room_apart-count.ensures.apart some))))

pub returns-then-is_next-clause-takes : goal.returns-then-is_next-clause-takes
returns-then-is_next-clause-takes c = λ gone gone_born gone_size.
    let text = c.args.text.now in
    let a = c.args.ahead.now in
    let old = with_gone gone gone_born c.args.flow.now in
    let new = with_gone gone gone_born c.carry_on.new.flow in
    let own : c.reached-next.result ≡ length old.bytes = c.reached-next.ensures ∙ omega (arith, gone_size, length-append gone c.args.flow.now.bytes.items) in
    let here : to_z w64 (of_z w64 c.args.at) ≡ c.args.at = omega (arith, ints, c.ranges.at.sfits) in
    let at : pos (length old.bytes) ≡ c.args.at = ap pos (sym own) ∙ c.is_next.ensures.place c.if-is_next.true ∙ here in
    let all : take (length text) text ≡ text = take_all (length text) text (omega arith) in
    let bytes : new.bytes ≡ old.bytes ++ text =
    ap (λ (xs : List ℕ). gone ++ xs) c.in_ok-carry_on.ensures.bytes ∙ sym (append_assoc gone c.args.flow.now.bytes.items text) in
    subst (λ (xs : List ℕ). Takes (bytes_from c.args.number c.args.at xs) old a new a) (sym all)
    (subst (λ (z : ℤ). Takes (bytes_from c.args.number z text) old a new a) at
    (takes_next c.args.number text old new a (c.is_next.ensures.alone c.if-is_next.true) bytes (c.in_ok-carry_on.ensures.grows gone gone_born)
    c.carry_on.ensures.conflict))

pub returns-then-count-eq0-clause-takes : goal.returns-then-count-eq0-clause-takes
returns-then-count-eq0-clause-takes c = λ gone gone_born gone_size.
    let text = c.args.text.now in
    let here : to_z w64 (of_z w64 c.args.at) ≡ c.args.at = omega (arith, ints, c.ranges.at.sfits) in
    let first : get_or text 0 0 ∷ [] ≡ take 1 text = sym (take_more text 0 0 c.requires.some) in
    let old = with_gone gone gone_born c.args.flow.now in
    let new = with_gone gone gone_born c.carry_letter.new.flow in
    let one : Takes (bytes_from c.args.number c.args.at (get_or text 0 0 ∷ [])) old c.args.ahead.now new c.carry_letter.new.ahead =
    subst (λ (z : ℤ). Takes (bytes_from c.args.number z (get_or text 0 0 ∷ [])) old c.args.ahead.now new c.carry_letter.new.ahead) here
    (c.in_ok-carry_letter.ensures.takes gone gone_born gone_size) in
    subst (λ (xs : List ℕ). Takes (bytes_from c.args.number c.args.at xs) old c.args.ahead.now new c.carry_letter.new.ahead) first one
