use Rattle.std.proofs.Common.{take, ◌≡◌, ◌≤◌}
use Rattle.std.specs.List.{sum_by}
use Rattle.cf_serve.proofs.Counting.{served_is_of}
use Rattle.cf_serve.proofs.table.Table.count_at.Given as goal

abbrev pub invariant-loop-served : goal.invariant-loop-served
invariant-loop-served l = (l.count ≡ sum_by (served_is_of l.place) (take l.served-index l.fn.self.sessions.items)) × (l.count ≤ l.served-index)
