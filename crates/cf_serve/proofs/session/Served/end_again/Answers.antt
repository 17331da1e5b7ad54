use Rattle.std.proofs.Common.{ap, refl, subst, ◌∷◌, ◌≡◌, []}
use Rattle.std.specs.Prelude.{OnErr, OnOk}
use Rattle.cf_lane.specs.Handled.{MayHaveMore}
use Rattle.cf_lane.specs.Log.{with_lines}
use Rattle.cf_serve.proofs.Leaving.{said}
use Rattle.cf_serve.specs.declared.end.SessionEnd.TheVariants as end
use Rattle.cf_serve.specs.declared.minute.Tally.{Tally}
use Rattle.cf_serve.proofs.session.Served.end_again.Goals as goal

pub returns-clause-lines : goal.returns-clause-lines
returns-clause-lines g c =
    subst (λ l. OnOk c.log_line.result ((g.D.Desk.value c.log_line.new.desk).lines ≡ with_lines (g.D.Desk.value c.args.desk.now).lines (l ∷ [])))
    (said c.args.terms.now.site.now c.args.self.now.client c.args.terms.now.moment c.args.terms.now.moment _ end.Again _ _ _ _ refl c.last_what-what.ensures
    (ap (λ (t : Tally). t.admitted) c.counts-tally.ensures) (ap (λ (t : Tally). t.refused) c.counts-tally.ensures)) c.log_line.ensures.lines

pub returns-clause-fails : goal.returns-clause-fails
returns-clause-fails g c =
    subst (λ l. OnErr c.log_line.result (MayHaveMore (l ∷ []) (g.D.Desk.value c.args.desk.now).lines (g.D.Desk.value c.log_line.new.desk).lines (g.D.Desk.value c.log_line.new.desk).line_part))
    (said c.args.terms.now.site.now c.args.self.now.client c.args.terms.now.moment c.args.terms.now.moment _ end.Again _ _ _ _ refl c.last_what-what.ensures
    (ap (λ (t : Tally). t.admitted) c.counts-tally.ensures) (ap (λ (t : Tally). t.refused) c.counts-tally.ensures)) c.log_line.ensures.fails
