use Rattle.std.proofs.Common.{◌++◌, subst}
use Rattle.cf_learn.specs.Reading.{HaveSame, TakesFront}
use Rattle.cf_learn.proofs.Fronts.{takes_behind}
use Rattle.cf_learn.proofs.Polled.{still}
use Rattle.cf_learn.proofs.Same.{same_behind, same_then}
use Rattle.cf_learn.proofs.reading.gather_front.Goals as goal

pub returns : goal.returns
returns c = record {
  front = λ earlier all is same.
      let asset = c.args.asset.now in
      let bytes = c.args.bytes.now.bytes in
      let old = c.args.seen.now.sorted.items ++ c.args.seen.now.loose.items in
      let new = c.add.new.self.sorted.items ++ c.add.new.self.loose.items in
      let fresh = c.push_front.new.seen.items in
      let front = c.in_ok-front.front in
      record {
        after = all ++ fresh;
        takes = takes_behind asset c.args.client earlier bytes all fresh c.push_front.new.assembly front
            (subst (λ l. TakesFront asset c.args.client earlier bytes l fresh c.push_front.new.assembly front) c.clear.ensures.items
            (c.in_ok-front.ensures.front earlier is));
        same = same_then new (old ++ fresh) (all ++ fresh)
            (subst (λ l. HaveSame new (old ++ l)) c.as_slice.ensures.value c.in_ok-add.ensures)
            (same_behind old all fresh same);
      };
  polls = still (c.args.seen.now.sorted.items ++ c.args.seen.now.loose.items) c.as_slice.result.now (c.add.new.self.sorted.items ++ c.add.new.self.loose.items) c.in_ok-add.ensures
      c.args.polls.now c.requires.polls;
}
