use Rattle.std.proofs.Common.{◌≡◌, ◌∙◌, ◌≤◌, length, refl, sym, ap, subst}
use Rattle.std.proofs.lemmas.Option.{same_Some, slice_get_read}
use Rattle.cf_review.specs.declared.following.Following.{Following}
use Rattle.cf_review.proofs.Taking.{born_at, forgets_on}
use Rattle.cf_review.proofs.reviewer.Reviewer.forget_read.Goals as goal

pub forget-requires-then-count-ge-MOST_READ-clause-born : goal.forget-requires-then-count-ge-MOST_READ-clause-born
forget-requires-then-count-ge-MOST_READ-clause-born c =
    let (assets, newest, is) = c.requires.reviewing in
    born_at assets newest c.args.self.now is c.args.place

pub returns-then-count-ge-MOST_READ : goal.returns-then-count-ge-MOST_READ
returns-then-count-ge-MOST_READ c assets newest is =
    let place = c.args.place in
    let count = c.done_of-count.result in
    let gs = c.args.self.now.followings.items in
    let g = c.index_mut.result.now in
    let g_at = slice_get_read gs (length gs) place g refl c.requires.following c.index_mut.ensures.value in
    let same : c.index.result.now ≡ g = same_Some c.index.result.now g (sym (slice_get_read gs (length gs) place c.index.result.now refl c.requires.following c.index.ensures) ∙ g_at) in
    let told = c.forget.ensures in
    forgets_on assets newest place count c.args.self.now is g c.forget.new.self g_at c.forget-then-count-ge-MOST_READ.new.self c.forget-then-count-ge-MOST_READ.ensures told.begun told.at_rest told.stage told.at
    told.remarks
    (λ x e. subst (λ (y : Following). count ≤ y.at) same (c.done_of-count.ensures.reads x (ap (λ (y : Following). y.stage) same ∙ e)))
    (λ e. c.done_of-count.ensures.waits (ap (λ (y : Following). y.stage) same ∙ e))
