use Rattle.std.proofs.Common.{List, ap, length, rules, subst, sym, ◌∙◌, ◌≡◌}
use Rattle.cf_lane.proofs.Starting.{whole_back}
use Rattle.cf_lane.specs.Handled.{LaneValue}
use Rattle.cf_lane.specs.Rings.{AllGoOn, HasFewAt}
use Rattle.cf_lane.specs.declared.rules.Rules.{Rules}
use Rattle.cf_lane.specs.declared.fate.Fate.TheVariants as fate
use Rattle.cf_lane.proofs.lane.Lane.admit.Goals as goal

pub note_at-requires : goal.note_at-requires
note_at-requires c = record { few = subst (HasFewAt c.args.place) (sym (c.as_mut_slice.ensures.value ∙ ap (λ (l : LaneValue). l.rules) c.self.view_is)) c.requires.few }

pub returns-clause-rules : goal.returns-clause-rules
returns-clause-rules c =
    let items = c.self.inside.rules.items in
    let new = c.note_at.new.all in
    let lent : c.as_mut_slice.result.now ≡ items = c.as_mut_slice.ensures.value in
    let size : c.self.inside.rules.len ≡ length items = search rules in
    subst (AllGoOn c.args.place (fate.Admitted c.args.admission.now) c.args.moment c.args.self.now.rules) (sym (whole_back c.self.inside.rules.len new items size (c.note_at.ensures.count ∙ ap length lent)))
    (subst (λ (was : List Rules). AllGoOn c.args.place (fate.Admitted c.args.admission.now) c.args.moment was new) (lent ∙ ap (λ (l : LaneValue). l.rules) c.self.view_is) c.note_at.ensures)
