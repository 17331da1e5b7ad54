use Rattle.std.proofs.Common.{codes}
use Rattle.cf_ending.specs.Denial.{count_line}
use Rattle.cf_ending.proofs.Texts.{eight_joined}
use Rattle.cf_ending.proofs.ending.push_summary.Goals as goal

pub returns : goal.returns
returns c =
    eight_joined c.args.text.now.bytes (count_line (codes "records ") c.args.summary.now.records) (count_line (codes "dropped ") c.args.summary.now.dropped)
    (count_line (codes "outside ") c.args.summary.now.outside) (count_line (codes "full ") c.args.summary.now.full) (count_line (codes "sessions ") c.args.summary.now.sessions)
    (count_line (codes "admitted ") c.args.summary.now.admitted) (count_line (codes "refused ") c.args.summary.now.refused) (count_line (codes "cuts ") c.args.summary.now.cuts)
    c.push_count.new.text.bytes c.push_count-2.new.text.bytes c.push_count-3.new.text.bytes c.push_count-4.new.text.bytes c.push_count-5.new.text.bytes c.push_count-6.new.text.bytes
    c.push_count-7.new.text.bytes c.push_count-8.new.text.bytes
    c.push_count.ensures.text c.push_count-2.ensures.text c.push_count-3.ensures.text c.push_count-4.ensures.text c.push_count-5.ensures.text c.push_count-6.ensures.text
    c.push_count-7.ensures.text c.push_count-8.ensures.text
