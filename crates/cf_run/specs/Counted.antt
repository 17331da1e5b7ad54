-- Steps of the proof: how a summary in memory counts one event: `counted`. It is what `Summary` says of the events.
use Rattle.std.specs.Prelude.{ℕ, ◌+◌}
use Rattle.cf_run.specs.Summary.{capped}
use Rattle.cf_run.specs.declared.second_half.Outcome.{Outcome}
use Rattle.cf_run.specs.declared.second_half.Outcome.TheVariants as outcome
use Rattle.cf_run.specs.declared.summary.Happened.{Happened}
use Rattle.cf_run.specs.declared.summary.Summary.{Summary}

-- a count with more
abbrev pub plus : (count more : ℕ) → ℕ
plus count more = capped (count + more)

-- what became of the packet
abbrev pub counted_outcome : Summary → Outcome → Summary
counted_outcome s outcome.Dropped = record s { dropped = plus s.dropped 1 }
counted_outcome s outcome.Full = record s { full = plus s.full 1 }
counted_outcome s (outcome.Outside foreign) = record s { outside = plus s.outside 1; foreign = plus s.foreign foreign }
counted_outcome s outcome.Begun = record s { sessions = plus s.sessions 1 }
counted_outcome s (outcome.Went admitted refused cuts closed above beyond) = record s {
  admitted = plus s.admitted admitted;
  refused = plus s.refused refused;
  cuts = plus s.cuts cuts;
  closed = plus s.closed closed;
  above = plus s.above above;
  beyond = plus s.beyond beyond;
}

-- the whole event
abbrev pub counted : Summary → Happened → Summary
counted s happened = counted_outcome (record s { records = plus s.records 1; cuts = plus s.cuts happened.cuts }) happened.outcome
