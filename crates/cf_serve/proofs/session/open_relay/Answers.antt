use Rattle.std.proofs.Common.{Some, inr, refl, subst, sym, ◌∷◌, []}
use Rattle.cf_audit.specs.Line.{Begun, NoMemory}
use Rattle.cf_lane.specs.Log.{line_about}
use Rattle.cf_lane.specs.Rings.{IsLeft}
use Rattle.cf_outside.specs.Pair.{Moment, met_at}
use Rattle.cf_serve.proofs.Missing.{end_missed, open_fails, reach_missed}
use Rattle.cf_serve.proofs.Reaching.{fresh_sound, told_same}
use Rattle.cf_serve.proofs.Stepping.{on_err}
use Rattle.cf_serve.specs.Phase.{listening_of}
use Rattle.cf_serve.specs.declared.end.SessionEnd.TheVariants as end
use Rattle.cf_serve.proofs.session.open_relay.Goals as goal

pub returns-in-Err-clause-does : goal.returns-in-Err-clause-does
returns-in-Err-clause-does g c = λ told. record {
  answers = [];
  lines = line_about c.args.terms.now.site.now.first c.args.met c.args.terms.now.moment NoMemory ∷ [];
  tells = told_same told;
  added = c.in_ok-log_line-in-Err.ensures.lines;
  leaves = (λ before. (c.args.terms.now.moment, inr (c.args.met, (c.args.moment, (refl, refl)))), refl);
}

pub returns-in_err-log_line-in-Err-clause-breaks : goal.returns-in_err-log_line-in-Err-clause-breaks
returns-in_err-log_line-in-Err-clause-breaks g c = on_err c.from_residual.result _ (λ told.
    end_missed (listening_of c.args.terms.now) c.args.terms.now.most c.args.client (met_at c.args.terms.now.port c.args.terms.now.site.now.first.endpoint c.args.met ∷ Moment c.args.moment ∷ [])
    told told _ _ _ [] (told_same told) refl
    (line_about c.args.terms.now.site.now.first c.args.met c.args.terms.now.moment NoMemory) c.in_err-log_line-in-Err.ensures.fails
    end.NoMemory (λ before. (c.args.terms.now.moment, inr (c.args.met, (c.args.moment, (refl, refl))))))

pub returns-clause-does : goal.returns-clause-does
returns-clause-does g c = λ told. record {
  answers = [];
  lines = line_about c.args.terms.now.site.now.first c.args.met c.args.moment Begun ∷ [];
  tells = told_same told;
  added = c.in_ok-log_line.ensures.lines;
  leaves = λ before left. record {
    moment = c.args.moment;
    count = 0;
    answers = [];
    split = refl;
    does = refl;
    stands = c.begun-relaying.ensures.stands c.args.terms.now.site.now before c.args.terms.now.port c.args.met
        (Some (line_about c.args.terms.now.site.now.first c.args.met c.args.moment Begun ∷ []))
        (c.in-Ok.ensures.lane before (subst (λ x. IsLeft x before) (sym c.lend_rings-left.ensures.rings) left));
  };
}

pub returns-in_err-log_line-clause-breaks : goal.returns-in_err-log_line-clause-breaks
returns-in_err-log_line-clause-breaks g c = on_err c.from_residual-in_err-log_line.result _ (λ told.
    reach_missed (listening_of c.args.terms.now) c.args.terms.now.most c.args.client (met_at c.args.terms.now.port c.args.terms.now.site.now.first.endpoint c.args.met ∷ Moment c.args.moment ∷ [])
    told told _ _ _ [] (told_same told) refl
    (line_about c.args.terms.now.site.now.first c.args.met c.args.moment Begun) c.in_err-log_line.ensures.fails
    (λ before whole begins. open_fails (listening_of c.args.terms.now) c.args.terms.now.most c.args.client before c.requires.most c.args.met c.args.moment whole _ begins))

pub returns-clause-may : goal.returns-clause-may
returns-clause-may g c = (
  fresh_sound c.args.terms.now.site.now c.args.terms.now.most c.args.moment _ _ c.requires.most c.in-Ok.ensures.of_site c.in-Ok.ensures.counts c.begun-relaying.ensures.value,
  c.begun-relaying.ensures.still,
)
