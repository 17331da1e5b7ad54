use Rattle.std.proofs.Common.{◌≡◌, drop}
use Rattle.cf_policylang.specs.Fields.{is_among}
use Rattle.cf_policylang.proofs.fields.is_among.Given as goal

-- what is left has one exactly where the whole has one
abbrev pub invariant-loop-key : goal.invariant-loop-key
invariant-loop-key l = is_among (drop l.key-index l.known) l.text ≡ is_among l.known l.text
