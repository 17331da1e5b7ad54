use Rattle.std.proofs.Common.{codes}
use Rattle.cf_ending.specs.Denial.{count_line}
use Rattle.cf_ending.proofs.Texts.{ten_joined}
use Rattle.cf_ending.proofs.denial.push_reviewed.Goals as goal

pub returns : goal.returns
returns c =
    ten_joined c.args.text.now.bytes
    (count_line (codes "flows ") c.args.counts.now.flows)
    (count_line (codes "commands ") c.args.counts.now.commands)
    (count_line (codes "admitted ") c.args.counts.now.admitted)
    (count_line (codes "refused rule ") c.args.counts.now.by_rule)
    (count_line (codes "refused default ") c.args.counts.now.by_default)
    (count_line (codes "refused station ") c.args.counts.now.by_station)
    (count_line (codes "refused form ") c.args.counts.now.by_form)
    (count_line (codes "strays ") c.args.counts.now.strays)
    (count_line (codes "conflicts ") c.args.counts.now.conflicts)
    (count_line (codes "broken ") c.args.counts.now.broken)
    c.push_count.new.text.bytes c.push_count-2.new.text.bytes c.push_count-3.new.text.bytes c.push_count-4.new.text.bytes c.push_count-5.new.text.bytes
    c.push_count-6.new.text.bytes c.push_count-7.new.text.bytes c.push_count-8.new.text.bytes c.push_count-9.new.text.bytes c.push_count-10.new.text.bytes
    c.push_count.ensures.text c.push_count-2.ensures.text c.push_count-3.ensures.text c.push_count-4.ensures.text c.push_count-5.ensures.text
    c.push_count-6.ensures.text c.push_count-7.ensures.text c.push_count-8.ensures.text c.push_count-9.ensures.text c.push_count-10.ensures.text
