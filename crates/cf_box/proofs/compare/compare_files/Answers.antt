use Rattle.std.proofs.Common.{refl}
use Rattle.cf_words.specs.Command.{Check, Compare}
use Rattle.cf_ending.specs.Outside.{files_value, outside}
use Rattle.cf_box.proofs.Comparing.{other_stops, policies_meet}
use Rattle.cf_box.proofs.compare.compare_files.Goals as goal

pub returns-in-Err-clause-meets : goal.returns-in-Err-clause-meets
returns-in-Err-clause-meets g c = λ sink pair. (
  c.in-Err.ensures.stop (Compare c.args.policy.now c.args.other.now) sink pair refl,
  record { unwritten = c.in-Err.ensures.unwritten; same = record { content = c.load_policy.ensures.only.content; sink = refl; pair = refl } },
)

pub returns-in-Err-load_policy-clause-meets : goal.returns-in-Err-load_policy-clause-meets
returns-in-Err-load_policy-clause-meets g c = λ sink pair.
    let before = outside (files_value g.F.Files c.args.files.now) sink pair in
    let middle = outside (files_value g.F.Files c.load_policy.new.files) sink pair in
    let after = outside (files_value g.F.Files c.load_policy-2.new.files) sink pair in
    other_stops c.args.policy.now c.args.other.now before middle after c.in-Ok.ours c.in-Ok.ensures.has c.load_policy.ensures.only
    c.load_policy-2.ensures.only refl refl c.in-Err-load_policy.stop c.in-Err-load_policy.ensures.early
    (c.in-Err-load_policy.ensures.stop (Check c.args.other.now) sink pair refl)

pub returns-clause-meets : goal.returns-clause-meets
returns-clause-meets g c = λ sink pair.
    let before = outside (files_value g.F.Files c.args.files.now) sink pair in
    let middle = outside (files_value g.F.Files c.load_policy.new.files) sink pair in
    let after = outside (files_value g.F.Files c.load_policy-2.new.files) sink pair in
    policies_meet c.args.policy.now c.args.other.now before middle after c.in-Ok.ours c.in-Ok.ensures.has c.load_policy.ensures.only
    c.load_policy-2.ensures.only refl refl c.in-Ok-load_policy.theirs c.in-Ok-load_policy.ensures.has c.compared.result c.compared.ensures
