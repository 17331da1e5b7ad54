use Rattle.std.proofs.Common.{refl, ap, subst, sym, ◌∙◌}
use Rattle.cf_outside.specs.Desk.{DeskValue}
use Rattle.cf_lane.specs.Handled.{LaneValue, MayHaveMore, state}
use Rattle.cf_lane.proofs.Parting.{within_at}
use Rattle.cf_policy.specs.Within.{IsAssetWithin}
use Rattle.cf_policy.specs.declared.Asset.{Asset}
use Rattle.cf_lane.specs.Log.{end_lines, with_lines}
use Rattle.cf_lane.proofs.Failing.{on_err}
use Rattle.cf_lane.proofs.Ends.{end_apart, end_fails, end_fails_apart, follows_end}
use Rattle.cf_lane.proofs.lane.Lane.ended.Goals as goal

pub returns-clause-history : goal.returns-clause-history
returns-clause-history g c = λ past h rests first is f.
    (let text = DeskValue.lines (g.D.Desk.value c.args.desk.now) in
    let unfinished = c.has_unfinished-unfinished.result in
    follows_end c.args.site.now past unfinished h rests first c.args.moment c.args.side c.args.rest _ _ (λ earlier knows. c.has_unfinished-unfinished.ensures c.args.site.now earlier c.requires.of_site knows)
    is f c.requires.«open» refl c.end_other.ensures
    (c.in_ok-log_end.ensures.lines ∙ ap (λ (a : Asset). with_lines text (end_lines a c.self.inside.client c.args.moment c.args.side unfinished c.args.rest)) c.first.ensures
    ∙ ap (λ (l : LaneValue). with_lines text (end_lines c.args.site.now.first l.client c.args.moment c.args.side unfinished c.args.rest)) c.self.view_is))

pub returns-in_err-log_end-clause-fails : goal.returns-in_err-log_end-clause-fails
returns-in_err-log_end-clause-fails g c =
    let old = state c.args.self.now c.args.to_client.now c.args.to_controller.now (DeskValue.lines (g.D.Desk.value c.args.desk.now)) in
    on_err _ _ (end_fails c.args.site.now _ c.args.moment c.args.side c.args.rest old (λ earlier knows. c.has_unfinished-unfinished.ensures c.args.site.now earlier c.requires.of_site knows)
    c.requires.«open» _ (ap (λ (l : LaneValue). l.client) c.self.view_is) _ _
    (subst (λ (a : Asset). MayHaveMore (end_lines a c.self.inside.client c.args.moment c.args.side c.has_unfinished-unfinished.result c.args.rest) (DeskValue.lines (g.D.Desk.value c.args.desk.now))
    (DeskValue.lines (g.D.Desk.value c.log_end.new.desk)) (DeskValue.line_part (g.D.Desk.value c.log_end.new.desk))) c.first.ensures c.in_err-log_end.ensures.fails))

pub returns-clause-apart : goal.returns-clause-apart
returns-clause-apart g c =
    let text = DeskValue.lines (g.D.Desk.value c.args.desk.now) in
    let unfinished = c.has_unfinished-unfinished.result in
    end_apart c.args.site.now unfinished c.args.moment c.args.side c.args.rest (state c.args.self.now c.args.to_client.now c.args.to_controller.now text)
    (λ earlier knows. c.has_unfinished-unfinished.ensures c.args.site.now earlier c.requires.of_site knows) c.requires.«open» _ refl c.end_other.ensures
    (c.in_ok-log_end.ensures.lines ∙ ap (λ (a : Asset). with_lines text (end_lines a c.self.inside.client c.args.moment c.args.side unfinished c.args.rest)) c.first.ensures
    ∙ ap (λ (l : LaneValue). with_lines text (end_lines c.args.site.now.first l.client c.args.moment c.args.side unfinished c.args.rest)) c.self.view_is)

pub returns-in_err-log_end-clause-fails_apart : goal.returns-in_err-log_end-clause-fails_apart
returns-in_err-log_end-clause-fails_apart g c =
    let old = state c.args.self.now c.args.to_client.now c.args.to_controller.now (DeskValue.lines (g.D.Desk.value c.args.desk.now)) in
    on_err _ _ (end_fails_apart c.args.site.now _ c.args.moment c.args.side c.args.rest old (λ earlier knows. c.has_unfinished-unfinished.ensures c.args.site.now earlier c.requires.of_site knows)
    c.requires.«open» _ (ap (λ (l : LaneValue). l.client) c.self.view_is) _ _
    (subst (λ (a : Asset). MayHaveMore (end_lines a c.self.inside.client c.args.moment c.args.side c.has_unfinished-unfinished.result c.args.rest) (DeskValue.lines (g.D.Desk.value c.args.desk.now))
    (DeskValue.lines (g.D.Desk.value c.log_end.new.desk)) (DeskValue.line_part (g.D.Desk.value c.log_end.new.desk))) c.first.ensures c.in_err-log_end.ensures.fails))

pub log_end-requires-clause-within : goal.log_end-requires-clause-within
log_end-requires-clause-within g c = subst IsAssetWithin (sym c.first.ensures) (within_at c.args.site.now c.requires.within 0)

pub returns-clause-whole : goal.returns-clause-whole
returns-clause-whole g c = c.in_ok-log_end.ensures.desk.whole refl

pub returns-clause-log : goal.returns-clause-log
returns-clause-log g c = c.in_ok-log_end.ensures.desk.log

pub returns-clause-cause : goal.returns-clause-cause
returns-clause-cause g c = c.in_ok-log_end.ensures.desk.cause

pub returns-in_err-log_end-clause-log : goal.returns-in_err-log_end-clause-log
returns-in_err-log_end-clause-log g c = c.in_err-log_end.ensures.desk.log
