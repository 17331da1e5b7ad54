use Rattle.std.proofs.Common.{◌≡◌, take}
use Rattle.toml.specs.View.{items_view}
use Rattle.cf_policylang.specs.Spelling.{numbers}
use Rattle.cf_policylang.proofs.spelling.insert_codes.Given as goal

-- what was written
abbrev pub invariant-loop-span : goal.invariant-loop-span
invariant-loop-span l = items_view l.numbers.items ≡ numbers (take l.span-index l.spans)
