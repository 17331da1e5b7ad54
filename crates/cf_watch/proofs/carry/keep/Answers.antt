use Rattle.std.proofs.Common.{◌≡◌, ◌∙◌, ◌+◌, ◌++◌, ◌∷◌, [], false, ℕ, ℤ, List, pos, length, subst, sym, ap, arith, append_assoc, length-append, nat_abs, replicate, to_z, of_z, w64}
use Rattle.std.proofs.lemmas.Int.{ints}
use Rattle.std.proofs.lemmas.List.{length-replicate, length_push}
use Rattle.std.specs.Option.{option_or}
use Rattle.cf_watch.specs.Kept.{Takes, kept, row_value, stream_of, with_gone}
use Rattle.cf_watch.specs.Stretches.{is_own, letter_came}
use Rattle.cf_watch.specs.declared.letter.Letter.{Letter as Heard}
use Rattle.cf_watch.specs.declared.letter.Letter.TheVariants as heard
use Rattle.cf_watch.proofs.Taking.{holds_push, knows_push, room_for_one, takes_new, takes_one}
use Rattle.cf_watch.proofs.carry.keep.Goals as goal

pub returns-in_ok-push-in-Some : goal.returns-in_ok-push-in-Some
returns-in_ok-push-in-Some c = record {
  takes = λ gone gone_born gone_size.
      let old = with_gone gone gone_born c.args.flow.now in
      let new = with_gone gone gone_born c.push.new.flow in
      let a = c.args.ahead.now in
      let number = c.args.number in
      let byte = c.in-Some.byte in
      let l : Heard = heard.Byte byte in
      let count = length old.bytes in
      let n : c.reached.result ≡ count = c.reached.ensures ∙ omega (arith, gone_size, length-append gone c.args.flow.now.bytes.items) in
      let here : to_z w64 (of_z w64 c.args.at) ≡ c.args.at = omega (arith, ints, c.ranges.at.sfits) in
      let e : pos count ≡ c.args.at = ap pos (sym n) ∙ c.in-Some.ensures.place ∙ here in
      let bytes : new.bytes ≡ old.bytes ++ byte ∷ [] =
      ap (λ (xs : List ℕ). gone ++ xs) c.in_ok-push-in-Some.ensures.bytes ∙ sym (append_assoc gone c.args.flow.now.bytes.items (byte ∷ [])) in
      let size : length new.bytes ≡ count + 1 = ap length bytes ∙ length_push old.bytes byte in
      let takes : Takes (record { number = number; at = pos count; text = stream_of l }) old a new a =
      takes_new number count l old new a a (c.requires.blank gone count gone_size e) (knows_push old.bytes new.bytes byte a bytes) (c.in_ok-push-in-Some.ensures.grows gone gone_born) c.push.ensures.conflict
      (λ q none. holds_push number l count a q (subst (λ (k : ℕ). is_own k q ≡ false) size none)) in
      subst (λ (z : ℤ). Takes (record { number = number; at = z; text = stream_of c.args.letter }) old a new a) e
      (subst (λ (m : Heard). Takes (record { number = number; at = pos count; text = stream_of m }) old a new a) (sym c.in-Some.ensures.letter) takes);
}

pub returns-in_ok-keep_apart-in-None : goal.returns-in_ok-keep_apart-in-None
returns-in_ok-keep_apart-in-None c =
    let here : to_z w64 (of_z w64 c.args.at) ≡ c.args.at = omega (arith, ints, c.ranges.at.sfits) in
    let a = c.args.ahead.now in
    let b = c.keep_apart.new.ahead in
    let s = row_value c.in_ok-letters-in-None.letters in
    let holds : (q : ℕ) → kept b q ≡ option_or (kept a q) (letter_came (record { number = c.args.number; at = c.args.at; text = s }) q) =
    subst (λ (z : ℤ). (q : ℕ) → kept b q ≡ option_or (kept a q) (letter_came (record { number = c.args.number; at = z; text = s }) q)) here c.in_ok-keep_apart-in-None.ensures in
    record {
      takes = λ gone gone_born gone_size.
          takes_one c.args.number c.args.at c.args.letter s (with_gone gone gone_born c.args.flow.now) a b c.in_ok-letters-in-None.ensures holds c.requires.from
          (λ place. c.requires.blank gone place gone_size);
    }

pub keep_apart-requires-clause-room : goal.keep_apart-requires-clause-room
keep_apart-requires-clause-room c = λ q e.
    let gone : List ℕ = replicate c.args.base 0 in
    let place = nat_abs c.args.at in
    let at : pos place ≡ c.args.at = omega (arith, ints, c.requires.from) in
    room_for_one (gone ++ c.args.flow.now.bytes.items) c.args.ahead.now place q c.args.letter (row_value c.in_ok-letters-in-None.letters) c.in_ok-letters-in-None.ensures
    (c.requires.blank gone place (length-replicate c.args.base 0) at) (omega (arith, ints, e, at, c.ranges.at.sfits))
