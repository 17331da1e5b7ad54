use Rattle.std.proofs.Common.{inl, refl, ◌∷◌, []}
use Rattle.cf_audit.specs.Line.{NoMemory}
use Rattle.cf_lane.specs.Log.{line_about}
use Rattle.cf_serve.proofs.Missing.{end_missed}
use Rattle.cf_serve.proofs.Reaching.{told_same}
use Rattle.cf_serve.proofs.Stepping.{on_err}
use Rattle.cf_serve.specs.Phase.{listening_of}
use Rattle.cf_serve.specs.declared.end.SessionEnd.TheVariants as end
use Rattle.cf_serve.proofs.session.refuse.Goals as goal

pub returns-clause-does : goal.returns-clause-does
returns-clause-does g c = λ left told. record {
  answers = [];
  lines = line_about c.args.terms.now.site.now.first c.args.client c.args.terms.now.moment NoMemory ∷ [];
  tells = told_same told;
  added = c.in_ok-log_line.ensures.lines;
  leaves = (λ before. (c.args.terms.now.moment, inl (refl, refl)), refl);
}

pub returns-in_err-log_line-clause-breaks : goal.returns-in_err-log_line-clause-breaks
returns-in_err-log_line-clause-breaks g c = on_err c.from_residual.result _ (λ told.
    end_missed (listening_of c.args.terms.now) c.args.terms.now.most c.args.client []
    told told (g.D.Desk.value c.args.desk.now).lines (g.D.Desk.value c.log_line.new.desk).lines (g.D.Desk.value c.log_line.new.desk).line_part [] (told_same told) refl
    (line_about c.args.terms.now.site.now.first c.args.client c.args.terms.now.moment NoMemory) c.in_err-log_line.ensures.fails
    end.NoMemory (λ before. (c.args.terms.now.moment, inl (refl, refl))))
