use Rattle.std.proofs.Common.{◌≡◌, ◌∙◌, subst, sym, arith}
use Rattle.cf_policylang.proofs.Called.{IsUncalled, no_code, this_one}
use Rattle.cf_policylang.proofs.names.code_named.Goals as goal

pub returns-then-is_called : goal.returns-then-is_called
returns-then-is_called c =
    sym (this_one c.args.protocol c.args.name.now c.loop-code.code c.loop-code-test.true c.loop-code.invariant (sym c.is_called.ensures ∙ c.if-is_called.true))

-- the loop ends at 256
pub returns : goal.returns
returns c =
    let ended : c.loop-code.code ≡ 256 = let past = c.loop-code-test.false in let inside = c.loop-code.auto.code-end in omega arith in
    sym (no_code c.args.protocol c.args.name.now (subst (IsUncalled c.args.protocol c.args.name.now) ended c.loop-code.invariant))
