use Rattle.std.proofs.Common.{◌≡◌, map, take}
use Rattle.std.specs.List.{enumerate_from}
use Rattle.toml.specs.Data.{table}
use Rattle.toml.specs.View.{items_of, items_view}
use Rattle.cf_policylang.specs.Spelling.{set_table}
use Rattle.cf_policylang.proofs.migrate.set_tables.Given as goal

-- what was written
abbrev pub invariant-loop-number : goal.invariant-loop-number
invariant-loop-number l =
    items_view l.tables.items ≡ items_of (map (λ numbered. table (set_table numbered.0 numbered.1)) (take l.number (enumerate_from 0 l.lists)))
