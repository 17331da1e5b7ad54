use Rattle.std.proofs.Common.{ℕ, ◌≡◌, ◌≤◌, true, take, pos}
use Rattle.std.specs.List.{list_any}
use Rattle.cf_policy.specs.Verdict.{covers}
use Rattle.cf_policy.proofs.point_table.ends_of.Given as goal

-- the points of the spans so far lie between the two
abbrev pub invariant-loop-span : goal.invariant-loop-span
invariant-loop-span l =
    (point : ℕ) → list_any (λ s. covers s (pos point)) (take l.span-index l.spans) ≡ true → (l.low ≤ point) × (point ≤ l.high)
