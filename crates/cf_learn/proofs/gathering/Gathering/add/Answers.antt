use Rattle.std.proofs.Common.{◌++◌, rules, subst, sym}
use Rattle.std.proofs.lemmas.List.{append-nil, take_all}
use Rattle.cf_learn.specs.Reading.{HaveSame}
use Rattle.cf_learn.proofs.Same.{same_again, same_more}
use Rattle.cf_learn.proofs.gathering.Gathering.add.Goals as goal

pub loop-one-init : goal.loop-one-init
loop-one-init c = let old = c.args.self.now.sorted.items ++ c.args.self.now.loose.items in subst (HaveSame old) (sym (append-nil old)) (same_again old)

pub loop-one-preserved : goal.loop-one-preserved
loop-one-preserved c =
    same_more (c.add_one.new.self.sorted.items ++ c.add_one.new.self.loose.items) (c.loop-one.self.sorted.items ++ c.loop-one.self.loose.items)
    (c.args.self.now.sorted.items ++ c.args.self.now.loose.items) c.args.fresh.now c.loop-one.one-index _ c.loop-one-test.true (search rules) c.loop-one.invariant
    c.in_ok-add_one.ensures

pub returns : goal.returns
returns c =
    subst (λ l. HaveSame (c.loop-one.self.sorted.items ++ c.loop-one.self.loose.items) ((c.args.self.now.sorted.items ++ c.args.self.now.loose.items) ++ l))
    (take_all c.loop-one.one-index c.args.fresh.now c.loop-one-test.false) c.loop-one.invariant
