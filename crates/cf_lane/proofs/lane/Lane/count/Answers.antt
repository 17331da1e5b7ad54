use Rattle.std.proofs.Common.{rules, ap, refl}
use Rattle.cf_lane.proofs.Saying.{all_stay}
use Rattle.cf_lane.specs.Handled.{LaneValue}
use Rattle.cf_lane.specs.Judged.{is_admitted}
use Rattle.cf_lane.proofs.lane.Lane.count.Goals as goal

pub returns-in-Refused-clause-rules : goal.returns-in-Refused-clause-rules
returns-in-Refused-clause-rules c =
    all_stay c.args.decided.now.place c.args.decided.now.fate c.args.moment c.args.self.now.rules c.refuse.new.self.rules (ap is_admitted c.in-Refused.is)
    (ap (λ (l : LaneValue). l.rules) c.refuse.ensures)

pub returns-clause-rules : goal.returns-clause-rules
returns-clause-rules c = all_stay c.args.decided.now.place c.args.decided.now.fate c.args.moment c.args.self.now.rules c.args.self.now.rules (search rules) refl

pub returns-2-clause-rules : goal.returns-2-clause-rules
returns-2-clause-rules c = all_stay c.args.decided.now.place c.args.decided.now.fate c.args.moment c.args.self.now.rules c.args.self.now.rules (search rules) refl

pub returns-3-clause-rules : goal.returns-3-clause-rules
returns-3-clause-rules c = all_stay c.args.decided.now.place c.args.decided.now.fate c.args.moment c.args.self.now.rules c.args.self.now.rules (search rules) refl

pub returns-4-clause-rules : goal.returns-4-clause-rules
returns-4-clause-rules c = all_stay c.args.decided.now.place c.args.decided.now.fate c.args.moment c.args.self.now.rules c.args.self.now.rules (search rules) refl
