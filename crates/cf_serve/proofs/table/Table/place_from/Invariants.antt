use Rattle.std.proofs.Common.{vec_len, ◌-◌, ◌≤◌}
use Rattle.cf_serve.proofs.table.Table.place_from.Given as goal

abbrev pub invariant-loop-low : goal.invariant-loop-low
invariant-loop-low l = (l.fn.index ≤ l.low) × ((l.low ≤ l.high) × (l.high ≤ vec_len l.fn.self.sessions))

abbrev pub decreases-loop-low : goal.decreases-loop-low
decreases-loop-low l = l.high - l.low
