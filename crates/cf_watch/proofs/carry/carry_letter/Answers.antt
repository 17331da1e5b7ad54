use Rattle.std.proofs.Common.{◌≡◌, ◌∙◌, ◌++◌, sym, ap, subst, arith, pos, refl, to_z, of_z, w64, nat_abs, ℕ, ℤ, List, Some, option_map}
use Rattle.std.proofs.lemmas.Bool.{false≢true}
use Rattle.std.proofs.lemmas.Int.{ints}
use Rattle.cf_watch.specs.Carried.{IsConflictAfter}
use Rattle.cf_watch.specs.Kept.{Takes, known, letter_value, stream_of, with_gone}
use Rattle.cf_watch.proofs.Taking.{grows_nothing, no_differ, none_of, stays, takes_conflict, takes_known, unchanged}
use Rattle.cf_watch.proofs.carry.carry_letter.Goals.{else-is_none-via-then-is_none+else-differ, else-is_none-via-else-is_none}
use Rattle.cf_watch.proofs.carry.carry_letter.Goals as goal

pub returns-then-differ : goal.returns-then-differ
returns-then-differ c = record {
  takes = λ gone gone_born gone_size.
      let place = nat_abs (to_z w64 (of_z w64 c.args.at)) in
      let e : pos place ≡ c.args.at = omega (arith, ints, c.if-at-lt0.false) in
      let flow = with_gone gone gone_born c.args.flow.now in
      let a = c.args.ahead.now in
      let is : known flow.bytes a place ≡ Some (letter_value c.in-Some.first) =
      ap (λ (bs : List ℕ). known (gone ++ bs) a place) (sym c.as_slice.ensures.value) ∙ sym (c.letter_at.ensures gone gone_size) ∙ ap (option_map letter_value) c.in-Some.is in
      let new = record flow { conflict = Some (record { at_record = c.args.number; position = to_z w64 (of_z w64 c.args.at) }) } in
      let f : to_z w64 (of_z w64 c.args.at) ≡ pos place = omega (arith, ints, e) in
      let g = grows_nothing c.args.number flow in
      subst (λ (z : ℤ). Takes (record { number = c.args.number; at = z; text = stream_of c.args.letter }) flow a new a) e
      (takes_conflict c.args.number place c.args.letter c.in-Some.first flow new a is (c.if-differ.ensures.0 refl)
      refl (record { more = g.more; bytes = g.bytes; born = g.born; client = refl; asset = refl; midstream = refl }) (none_of flow.conflict c.if-is_none.ensures)
      (ap (λ (z : ℤ). Some (record { at_record = c.args.number; position = z })) f));
}

pub returns-else-is_none : goal.returns-else-is_none
returns-else-is_none c = record {
  takes = λ gone gone_born gone_size.
      let place = nat_abs (to_z w64 (of_z w64 c.args.at)) in
      let e : pos place ≡ c.args.at = omega (arith, ints, c.if-at-lt0.false) in
      let flow = with_gone gone gone_born c.args.flow.now in
      let a = c.args.ahead.now in
      let l = c.args.letter in
      let first = c.in-Some.first in
      let is : known flow.bytes a place ≡ Some (letter_value first) =
      ap (λ (bs : List ℕ). known (gone ++ bs) a place) (sym c.as_slice.ensures.value) ∙ sym (c.letter_at.ensures gone gone_size) ∙ ap (option_map letter_value) c.in-Some.is in
      let conflicts : IsConflictAfter (known flow.bytes a) (record { number = c.args.number; at = pos place; text = stream_of l }) flow.conflict flow.conflict =
      elim c.else-is_none.branch [
        | else-is_none-via-then-is_none+else-differ w ↦ unchanged (known flow.bytes a) _ flow.conflict (no_differ c.args.number place l first (known flow.bytes a) is (λ d. absurd (false≢true (w.if-differ.ensures.1 d))))
        | else-is_none-via-else-is_none w ↦ stays (known flow.bytes a) _ flow.conflict w.if-is_none.ensures
      ] in
      subst (λ (z : ℤ). Takes (record { number = c.args.number; at = z; text = stream_of l }) flow a flow a) e
      (takes_known c.args.number place l first flow flow a is refl (grows_nothing c.args.number flow) conflicts);
}

pub returns-in_ok-keep-in-None : goal.returns-in_ok-keep-in-None
returns-in_ok-keep-in-None c = record {
  takes = λ gone gone_born gone_size.
      let here : to_z w64 (of_z w64 c.args.at) ≡ c.args.at = omega (arith, ints, c.ranges.at.sfits) in
      subst (λ (z : ℤ). Takes (record { number = c.args.number; at = z; text = stream_of c.args.letter }) (with_gone gone gone_born c.args.flow.now) c.args.ahead.now
      (with_gone gone gone_born c.keep.new.flow) c.keep.new.ahead) here (c.in_ok-keep-in-None.ensures.takes gone gone_born gone_size);
}
