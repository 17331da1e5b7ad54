use Rattle.std.proofs.Common.{refl, ◌∙◌, ◌∷◌, []}
use Rattle.cf_audit.specs.Line.{Gone, Unreached}
use Rattle.cf_lane.specs.Log.{line_about}
use Rattle.cf_outside.specs.Pair.{met_at}
use Rattle.cf_links.specs.LinkValue.{told_of}
use Rattle.cf_serve.proofs.Missing.{end_missed, then_missed}
use Rattle.cf_serve.proofs.Reaching.{met_first, refused_any, refused_missed, rings_same, then_reached, told_none}
use Rattle.cf_serve.proofs.Stepping.{on_err}
use Rattle.cf_serve.specs.Phase.{listening_of, rings_for}
use Rattle.cf_serve.specs.declared.end.SessionEnd.TheVariants as end
use Rattle.cf_serve.proofs.session.reach.Goals as goal

pub returns-then-not-may_begin-clause-does : goal.returns-then-not-may_begin-clause-does
returns-then-not-may_begin-clause-does g c =
    refused_any (listening_of c.args.terms.now) c.args.terms.now.most c.args.client [] _ _ c.refuse.result c.refuse.ensures.does
    (rings_for c.args.terms.now.site.now c.args.keeping.now c.args.terms.now.place c.args.client.address) (told_of g.L.Links c.args.session c.args.links.now)

pub returns-then-not-may_begin-clause-breaks : goal.returns-then-not-may_begin-clause-breaks
returns-then-not-may_begin-clause-breaks g c =
    refused_missed (listening_of c.args.terms.now) c.args.terms.now.most c.args.client [] _ _ _ c.refuse.result c.refuse.ensures.breaks (told_of g.L.Links c.args.session c.args.links.now)

pub returns-in-Met-clause-does : goal.returns-in-Met-clause-does
returns-in-Met-clause-does g c =
    then_reached (listening_of c.args.terms.now) c.args.terms.now.most c.args.client c.args.session (g.L.Links.told c.args.links.now)
    (told_of g.L.Links c.args.session c.begin.new.links) (g.D.Desk.value c.args.desk.now).lines (g.D.Desk.value c.begin.new.desk).lines
    (rings_for c.args.terms.now.site.now c.args.keeping.now c.args.terms.now.place c.args.client.address) []
    (told_of g.L.Links c.args.session c.meet.new.self)
    (met_at c.args.terms.now.port c.args.terms.now.site.now.first.endpoint c.in-Met.met) c.begin.result (met_first _ _ c.args.terms.now.port _ _ c.in-Met.met c.first.ensures c.in-Met.ensures.entry)
    (rings_same (listening_of c.args.terms.now) c.args.terms.now.most c.args.client c.args.keeping.now c.may_begin.new.keeping c.args.terms.now.place c.may_begin.ensures.own _ _ _ _ _ c.begin.result c.begin.ensures.does)

pub returns-in-Met-clause-breaks : goal.returns-in-Met-clause-breaks
returns-in-Met-clause-breaks g c =
    then_missed (listening_of c.args.terms.now) c.args.terms.now.most c.args.client c.args.session (g.L.Links.told c.args.links.now)
    (told_of g.L.Links c.args.session c.begin.new.links) (g.D.Desk.value c.args.desk.now).lines (g.D.Desk.value c.begin.new.desk).lines
    (g.D.Desk.value c.begin.new.desk).line_part [] (told_of g.L.Links c.args.session c.meet.new.self)
    (met_at c.args.terms.now.port c.args.terms.now.site.now.first.endpoint c.in-Met.met) c.begin.result (met_first _ _ c.args.terms.now.port _ _ c.in-Met.met c.first.ensures c.in-Met.ensures.entry) c.begin.ensures.breaks

pub returns-in_err-log_line-in-Gone-clause-breaks : goal.returns-in_err-log_line-in-Gone-clause-breaks
returns-in_err-log_line-in-Gone-clause-breaks g c = on_err c.from_residual.result _
    (end_missed (listening_of c.args.terms.now) c.args.terms.now.most c.args.client []
    (told_of g.L.Links c.args.session c.args.links.now) (told_of g.L.Links c.args.session c.meet.new.self) _ _ _ []
    (c.in-Gone.ensures.entry ∙ told_none c.args.session (g.L.Links.told c.args.links.now)) refl
    (line_about c.args.terms.now.site.now.first c.args.client c.args.terms.now.moment Gone) c.in_err-log_line-in-Gone.ensures.fails
    end.Gone (λ before. (refl, (c.args.terms.now.moment, refl))))

pub returns-in_err-log_line-in-Failed-clause-breaks : goal.returns-in_err-log_line-in-Failed-clause-breaks
returns-in_err-log_line-in-Failed-clause-breaks g c = on_err c.from_residual-in_err-log_line-in-Failed.result _
    (end_missed (listening_of c.args.terms.now) c.args.terms.now.most c.args.client []
    (told_of g.L.Links c.args.session c.args.links.now) (told_of g.L.Links c.args.session c.meet.new.self) _ _ _ []
    (c.in-Failed.ensures.entry ∙ told_none c.args.session (g.L.Links.told c.args.links.now)) refl
    (line_about c.args.terms.now.site.now.first c.args.client c.args.terms.now.moment Unreached) c.in_err-log_line-in-Failed.ensures.fails
    end.Unreached (λ before. (refl, (c.args.terms.now.moment, refl))))

pub returns-in_ok-log_line-in-Gone-clause-does : goal.returns-in_ok-log_line-in-Gone-clause-does
returns-in_ok-log_line-in-Gone-clause-does g c = record {
  answers = [];
  lines = line_about c.args.terms.now.site.now.first c.args.client c.args.terms.now.moment Gone ∷ [];
  tells = c.in-Gone.ensures.entry ∙ told_none c.args.session (g.L.Links.told c.args.links.now);
  added = c.in_ok-log_line-in-Gone.ensures.lines;
  leaves = (λ before. (refl, (c.args.terms.now.moment, refl)), refl);
}

pub returns-in_ok-log_line-in-Failed-clause-does : goal.returns-in_ok-log_line-in-Failed-clause-does
returns-in_ok-log_line-in-Failed-clause-does g c = record {
  answers = [];
  lines = line_about c.args.terms.now.site.now.first c.args.client c.args.terms.now.moment Unreached ∷ [];
  tells = c.in-Failed.ensures.entry ∙ told_none c.args.session (g.L.Links.told c.args.links.now);
  added = c.in_ok-log_line-in-Failed.ensures.lines;
  leaves = (λ before. (refl, (c.args.terms.now.moment, refl)), refl);
}
