use Rattle.cf_learn.proofs.polls.Polls.new.Goals as goal

pub returns : goal.returns
returns c seen = record { requests = c.in_ok-places.ensures seen; fragments = c.in_ok-fragments.ensures seen }
