use Rattle.std.proofs.Common.{arith}
use Rattle.cf_lane.proofs.Starting.{fragments_more, one_more}
use Rattle.cf_lane.proofs.wire.fragments_of.Goals as goal

pub assets-preserved : goal.assets-preserved
assets-preserved c =
    let old = c.assets.all.items in
    let new = c.push_fragments.new.all.items in
    record {
      few = omega (arith, one_more old new c.in_ok-push_fragments.ensures, c.assets-test.true, c.len.ensures);
      are = fragments_more old new c.assets.invariant.are c.in_ok-push_fragments.ensures;
    }
