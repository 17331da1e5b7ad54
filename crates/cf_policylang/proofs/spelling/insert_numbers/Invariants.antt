use Rattle.std.proofs.Common.{◌≡◌, take}
use Rattle.toml.specs.View.{items_view}
use Rattle.cf_policylang.specs.Spelling.{number_text, texts}
use Rattle.cf_policylang.proofs.spelling.insert_numbers.Given as goal

-- what was written
abbrev pub invariant-loop-span : goal.invariant-loop-span
invariant-loop-span l = items_view l.texts.items ≡ texts number_text (take l.span-index l.spans)
