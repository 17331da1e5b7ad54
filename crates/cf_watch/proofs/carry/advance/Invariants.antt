use Rattle.std.proofs.Common.{◌≡◌, ◌-◌, ◌^◌, ◌++◌, ℕ, List, length}
use Rattle.cf_watch.specs.Kept.{GrowsBehind, known}
use Rattle.cf_watch.proofs.carry.advance.Given as goal

-- the same letters are known, and the bytes have gone on
abbrev pub invariant-bytes : goal.invariant-bytes
invariant-bytes l = record {
  knows : (gone : List ℕ) → length gone ≡ l.base → (p : ℕ) → known (gone ++ l.flow.bytes.items) l.ahead p ≡ known (gone ++ l.fn.flow.bytes.items) l.ahead p;
  grows : GrowsBehind l.number l.fn.flow l.flow;
  conflict : l.flow.conflict ≡ l.fn.flow.conflict;
}

abbrev pub decreases-bytes : goal.decreases-bytes
decreases-bytes l = 2 ^ 63 - length l.flow.bytes.items
