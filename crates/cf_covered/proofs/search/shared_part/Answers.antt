use Rattle.std.proofs.Common.{true, map}
use Rattle.std.proofs.lemmas.List.{get_or-map, length-map}
use Rattle.std.proofs.lemmas.List.Folds.{list_any_at}
use Rattle.cf_policy.specs.Verdict.{has_act}
use Rattle.cf_covered.proofs.search.shared_part.Goals as goal

pub returns-in-Some-clause-shared : goal.returns-in-Some-clause-shared
returns-in-Some-clause-shared c = λ client act same inside.
    let others = c.args.others.now in
    let i = c.loop-other.other-index in
    let other = c.other-item.result in
    list_any_at (λ r. has_act r client act) (map (λ r. r.now) others) i other.now (rw (length-map others (λ r. r.now)) c.loop-other-test.true)
    (rw (get_or-map (λ r. r.now) others i other other.now c.loop-other-test.true, ← c.other-item.is) (c.in-Some.ensures.had client act same inside))
