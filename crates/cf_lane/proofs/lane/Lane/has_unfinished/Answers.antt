use Rattle.std.proofs.Common.{ap, sym, ◌∙◌}
use Rattle.cf_lane.specs.Handled.{LaneValue}
use Rattle.cf_lane.proofs.Earlier.{unfinished_told}
use Rattle.cf_lane.proofs.lane.Lane.has_unfinished.Goals as goal

pub returns-in-Dnp3 : goal.returns-in-Dnp3
returns-in-Dnp3 c = λ site earlier of_site knows.
    unfinished_told c.args.self.now.wire c.in-Dnp3.fragments c.args.side _ (sym (ap (λ (l : LaneValue). l.wire) c.self.view_is) ∙ c.in-Dnp3.is) c.unfinished.ensures site earlier of_site.wire knows
