use Rattle.cf_judge.proofs.front.Reader.new.Goals as goal

pub returns : goal.returns
returns c = record {
  reader = record {
    one_each = c.in_ok-own.ensures.one_each;
    each = c.in_ok-own.ensures.each;
  };
}
