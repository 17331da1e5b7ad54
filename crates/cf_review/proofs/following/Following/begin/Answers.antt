use Rattle.std.proofs.Common.{sym, ap, subst}
use Rattle.cf_policy.specs.declared.Asset.{Asset}
use Rattle.cf_review.proofs.FollowedOn.{begun_found, on_ok, told_begun}
use Rattle.cf_review.specs.Follow.{IsBegun}
use Rattle.cf_review.specs.declared.following.Following.{Following}
use Rattle.cf_review.proofs.following.Following.begin.Goals as goal

pub returns-then-is_none-clause-told : goal.returns-then-is_none-clause-told
returns-then-is_none-clause-told c = on_ok c.start.result _ _ (λ (r, reader, is) known all.
    told_begun known c.args.flow.now c.args.self.now c.start.new.self r c.in-Waits.is (ap (λ (m : Following). m.stage) is) (ap (λ (m : Following). m.remarks.items) is) all)
    c.start.ensures.reads

pub returns-then-find_unit-clause-begun : goal.returns-then-find_unit-clause-begun
returns-then-find_unit-clause-begun c = on_ok c.start-then-find_unit.result _ _ (λ (r, reader, is) h tail begun.
    subst (IsBegun c.args.site.now h) (sym is)
    (begun_found c.args.site.now h c.args.flow.now tail c.args.self.now c.in-Waits.is begun r reader c.find_unit.new.at c.first.result.now.protocol c.as_slice-bytes.result.now
    (ap (λ (a : Asset). a.protocol) c.first.ensures) c.as_slice-bytes.ensures.value (cc (c.is_none.ensures, c.if-is_none.false)) c.find_unit.ensures.searched
    (c.find_unit.ensures.unit c.if-find_unit.true)))
    c.start-then-find_unit.ensures.reads

pub returns-then-find_unit-clause-told : goal.returns-then-find_unit-clause-told
returns-then-find_unit-clause-told c = on_ok c.start-then-find_unit.result _ _ (λ (r, reader, is) known all.
    told_begun known c.args.flow.now c.args.self.now c.start-then-find_unit.new.self r c.in-Waits.is (ap (λ (m : Following). m.stage) is) (ap (λ (m : Following). m.remarks.items) is) all)
    c.start-then-find_unit.ensures.reads
