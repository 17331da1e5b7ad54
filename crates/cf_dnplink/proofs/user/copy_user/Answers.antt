use Rattle.std.proofs.Common.{◌≡◌, ℕ, ◌+◌, ◌-◌, ◌*◌, ◌/◌, ◌%◌, ◌⊎◌, length, get_or, inl, inr, sym, ap, ◌∙◌, arith}
use Rattle.std.proofs.lemmas.Bool.{cases_lt}
use Rattle.std.proofs.lemmas.Grind.{same_number_lists}
use Rattle.cf_dnplink.specs.LinkFrame.{frame_value}
use Rattle.cf_dnplink.specs.UserOctets.{user_of}
use Rattle.cf_dnplink.proofs.Frames.{user_sizes, user_place}
use Rattle.cf_dnplink.proofs.user.copy_user.Goals as goal

pub copy_part-requires-clause-inside : goal.copy_part-requires-clause-inside
copy_part-requires-clause-inside c =
    let sizes = user_sizes (frame_value c.args.frame.now) c.requires.frame in
    let before = c.loop-done.invariant in
    let stop = c.min-stop.ensures in
    let test = c.loop-done-test.true in
    elim before.whole [
      | inl e ↦ omega (arith, sizes.0, sizes.1, before.size, before.range, stop, test, e)
      | inr e ↦ omega (arith, test, e)
    ]

pub copy_part-requires-clause-small : goal.copy_part-requires-clause-small
copy_part-requires-clause-small c = (let sizes = user_sizes (frame_value c.args.frame.now) c.requires.frame in omega (arith, sizes.0, sizes.1))

whole_after : (c : goal.After-slice_known-in-loop-done-1) → (c.min-stop.result % 16 ≡ 0) ⊎ (c.min-stop.result ≡ length c.loop-done.out)
whole_after c =
    let stop = c.min-stop.ensures in
    let test = c.loop-done-test.true in
    elim (cases_lt (c.loop-done.done + 16) (length c.loop-done.out)) [
      | inl l ↦
          elim c.loop-done.invariant.whole [
            | inl e ↦ inl (omega (arith, stop, l, e))
            | inr e ↦ inr (omega (arith, test, e))
          ]
      | inr l ↦ inr (omega (arith, stop, l))
    ]

pub loop-done-preserved : goal.loop-done-preserved
loop-done-preserved c =
    let f = frame_value c.args.frame.now in
    let user = user_of c.args.frame.now.blocks.bytes in
    let before = c.loop-done.invariant in
    let done = c.loop-done.done in
    let stop = c.min-stop.ensures in
    let test = c.loop-done-test.true in
    let size = c.copy_part.auto.out in
    record {
      size = size ∙ before.size;
      range = omega (arith, stop, size, test, before.range);
      whole = elim (whole_after c) [
        | inl e ↦ inl e
        | inr e ↦ inr (e ∙ sym size)
      ];
      same = λ k l.
          elim (cases_lt k done) [
            | inl v ↦ c.copy_part.ensures.others k (inl v) ∙ before.same k v
            | inr v ↦
                elim before.whole [
                  | inl e ↦
                      (let place : done + done / 16 * 2 + (k - done) ≡ k + k / 16 * 2 = omega (arith, stop, e, l, v) in
                      c.copy_part.ensures.here k v l
                      ∙ ap (λ (i : ℕ). get_or c.args.frame.now.blocks.bytes i 0) place
                      ∙ user_place f c.requires.frame k (omega (arith, stop, l, before.size)))
                  | inr e ↦ absurd (omega (arith, test, e))
                ]
          ];
    }

pub returns : goal.returns
returns c =
    let before = c.loop-done.invariant in
    let test = c.loop-done-test.false in
    same_number_lists c.loop-done.out (user_of c.args.frame.now.blocks.bytes) before.size (λ k l. before.same k (omega (arith, test, l)))
