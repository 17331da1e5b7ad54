use Rattle.std.proofs.Common.{refl, ◌∷◌, []}
use Rattle.cf_audit.specs.Line.{Lost}
use Rattle.cf_lane.specs.Log.{line_about}
use Rattle.cf_outside.specs.Pair.{met_at}
use Rattle.cf_serve.proofs.Missing.{end_missed}
use Rattle.cf_serve.proofs.Reaching.{lost_first, told_same}
use Rattle.cf_serve.proofs.Stepping.{on_err}
use Rattle.cf_serve.specs.Phase.{listening_of}
use Rattle.cf_serve.specs.declared.end.SessionEnd.TheVariants as end
use Rattle.cf_serve.proofs.session.lose.Goals as goal

pub returns-clause-does : goal.returns-clause-does
returns-clause-does g c = λ left client told. record {
  answers = [];
  lines = line_about c.args.terms.now.site.now.first c.args.met 0 (Lost 0 0) ∷ [];
  tells = told_same told;
  added = c.in_ok-log_line.ensures.lines;
  leaves = (lost_first (listening_of c.args.terms.now) c.args.terms.now.most client c.requires.most c.args.met, refl);
}

pub returns-in_err-log_line-clause-breaks : goal.returns-in_err-log_line-clause-breaks
returns-in_err-log_line-clause-breaks g c = on_err c.from_residual.result _ (λ client told.
    end_missed (listening_of c.args.terms.now) c.args.terms.now.most client (met_at c.args.terms.now.port c.args.terms.now.site.now.first.endpoint c.args.met ∷ [])
    told told (g.D.Desk.value c.args.desk.now).lines (g.D.Desk.value c.log_line.new.desk).lines (g.D.Desk.value c.log_line.new.desk).line_part [] (told_same told) refl
    (line_about c.args.terms.now.site.now.first c.args.met 0 (Lost 0 0)) c.in_err-log_line.ensures.fails
    end.Lost (lost_first (listening_of c.args.terms.now) c.args.terms.now.most client c.requires.most c.args.met))
