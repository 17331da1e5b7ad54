use Rattle.std.proofs.Common.{◌≡◌, [], ◌∷◌, ◌++◌, map, sym, subst, rules}
use Rattle.cf_covered.specs.Regions.{AreSettled, rest}
use Rattle.cf_covered.proofs.RegionActs.{settled_step}
use Rattle.cf_covered.proofs.search.are_settled.Goals as goal

pub loop-preserved : goal.loop-preserved
loop-preserved c =
    let popped : c.loop.left.items ≡ c.pop.new.self.items ++ c.in-Some.region ∷ [] = search rules in
    let pushed : c.push_rest.new.left.items ≡ c.pop.new.self.items ++ rest c.in-Some.region c.in-Some-settled_part.part = search rules in
    λ next. c.loop.invariant
    (subst (AreSettled c.args.rule.now (map (λ r. r.now) c.args.others.now) c.args.code) (sym popped)
    (settled_step c.args.rule.now (map (λ r. r.now) c.args.others.now) c.args.code c.pop.new.self.items c.in-Some.region c.in-Some-settled_part.part
    c.in-Some-settled_part.ensures.begins c.in-Some-settled_part.ensures.settled
    (subst (AreSettled c.args.rule.now (map (λ r. r.now) c.args.others.now) c.args.code) pushed next)))
