use Rattle.std.proofs.Common.{ap, length, subst, sym, ◌∙◌}
use Rattle.cf_lane.proofs.Fronts.{dnp3_wire}
use Rattle.cf_lane.proofs.Starting.{new_are, new_know, new_owe}
use Rattle.cf_lane.specs.Kept.{AreNewFragments}
use Rattle.cf_policy.specs.Site.{assets_of}
use Rattle.cf_policy.specs.declared.Asset.{Asset}
use Rattle.cf_lane.proofs.wire.Wire.new.Goals as goal

pub returns-in_ok-all-in-Dnp3-clause-of_site : goal.returns-in_ok-all-in-Dnp3-clause-of_site
returns-in_ok-all-in-Dnp3-clause-of_site c =
    let all = c.in_ok-all-in-Dnp3.all.items in
    dnp3_wire c.args.site.now.first.protocol (length (assets_of c.args.site.now)) all (ap (λ (a : Asset). a.protocol) (sym c.first.ensures) ∙ c.in-Dnp3.is)
    (new_are (length (assets_of c.args.site.now)) all (subst (λ n. AreNewFragments n all) c.len.ensures c.in_ok-all-in-Dnp3.ensures.all))

pub returns-in_ok-all-in-Dnp3-clause-knows : goal.returns-in_ok-all-in-Dnp3-clause-knows
returns-in_ok-all-in-Dnp3-clause-knows c = λ site. new_know site c.len.result c.in_ok-all-in-Dnp3.all.items c.in_ok-all-in-Dnp3.ensures.all

pub returns-in_ok-all-in-Dnp3-clause-debt : goal.returns-in_ok-all-in-Dnp3-clause-debt
returns-in_ok-all-in-Dnp3-clause-debt c = let are = c.in_ok-all-in-Dnp3.ensures.all in new_owe c.in_ok-all-in-Dnp3.all.items are.each
