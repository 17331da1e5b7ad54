use Rattle.std.proofs.Common.{◌≡◌, arith, true, sym, subst}
use Rattle.cf_review.specs.Stamps.{AreStamps, has_stamp}
use Rattle.cf_review.proofs.Stamping.{has_kept, has_pushed, stamps_pushed}
use Rattle.cf_review.proofs.stamps.Stamps.keep.Goals as goal
use Rattle.cf_review.proofs.stamps.Stamps.keep.Goals.{in-Ok, in-Err}

pub returns-clause-has : goal.returns-clause-has
returns-clause-has c = elim c.match-push.branch [
  | in-Ok w ↦ rw (w.result-is, w.in-Ok.ensures.items) (has_pushed c.self.inside.kept.items (record { number = c.args.number; stamp = c.args.stamp }))
  | in-Err w ↦ rw w.result-is tt
]

pub returns-clause-others : goal.returns-clause-others
returns-clause-others c = elim c.match-push.branch [
  | in-Ok w ↦ rw (w.result-is, w.in-Ok.ensures.items)
      (λ other has. has_kept c.self.inside.kept.items (record { number = c.args.number; stamp = c.args.stamp }) other (subst (λ s. has_stamp s other ≡ true) (sym c.self.view_is) has))
  | in-Err w ↦ rw w.result-is tt
]

pub returns-clause-stamps : goal.returns-clause-stamps
returns-clause-stamps c = elim c.match-push.branch [
  | in-Ok w ↦ rw (w.result-is, w.in-Ok.ensures.items)
      (λ stamps above below are. stamps_pushed stamps c.self.inside.kept.items (record { number = c.args.number; stamp = c.args.stamp }) (subst (AreStamps stamps) (sym c.self.view_is) are)
      c.requires.number (omega (arith, above, below)))
  | in-Err w ↦ rw w.result-is tt
]
