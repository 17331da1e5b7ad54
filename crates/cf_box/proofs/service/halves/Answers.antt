use Rattle.cf_policylang.proofs.Marks.{cut_of}
use Rattle.cf_box.proofs.service.halves.Goals as goal

pub returns : goal.returns
returns c = cut_of c.args.mark.now c.args.text.now c.split_once.result c.requires c.split_once.ensures.cases
