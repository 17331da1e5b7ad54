use Rattle.std.proofs.Common.{rules, ◌≡◌, ◌≤◌, ◌∙◌, Bool, true, false, not, length, refl, sym, subst}
use Rattle.std.proofs.lemmas.Bool.{false≢true, lt-ltb}
use Rattle.std.proofs.lemmas.Option.{same_Some, slice_get_read}
use Rattle.cf_watch.specs.declared.Flow.{Flow}
use Rattle.cf_review.specs.Reviewer.{IsQuiet}
use Rattle.cf_review.specs.declared.following.Following.{Following}
use Rattle.cf_review.proofs.reviewer.Reviewer.may_tell.Goals as goal
use Rattle.cf_review.proofs.reviewer.Reviewer.may_tell.Goals.{then-len-before, else-len-before}

by_not : (b : Bool) → not b ≡ false → b ≡ true
by_not true e = refl
by_not false e = absurd (false≢true (sym e))

pub returns-else-is_pending : goal.returns-else-is_pending
returns-else-is_pending c settled =
    let r = c.args.self.now in
    let g = c.index-following.result.now in
    let g_at = slice_get_read r.followings.items (length r.followings.items) c.args.place g refl c.requires.following c.index-following.ensures in
    elim c.if-len-before.branch [
      | then-len-before w ↦ absurd (false≢true (sym c.if-is_pending.false ∙ w.value-is ∙ lt-ltb c.args.before c.len.result w.if-len-before.true))
      | else-len-before w ↦ (
          let few : length g.remarks.items ≤ c.args.before = search rules in
          record {
            none = λ x at. subst (λ (y : Following). length y.remarks.items ≤ c.args.before) (same_Some g x (sym g_at ∙ at)) few;
            quiet = λ f x f_at at.
                subst (λ (y : Following). IsQuiet f y c.args.number) (same_Some g x (sym g_at ∙ at))
                (subst (λ (y : Flow). IsQuiet y g c.args.number) (same_Some w.flow.result.now f (sym w.flow.ensures ∙ f_at)) (w.is_pending.ensures (sym w.value-is ∙ c.if-is_pending.false)));
            settled = c.is_settled.ensures (by_not c.is_settled.result settled);
          })
    ]
