use Rattle.std.proofs.Common.{◌∙◌, sym}
use Rattle.cf_covered.proofs.LowCodes.{low_taken}
use Rattle.cf_covered.proofs.codes.code_end.Goals as goal

pub returns-then-are_low : goal.returns-then-are_low
returns-then-are_low c = λ code served has. low_taken c.args.rule.now.codes code (sym c.are_low.ensures ∙ c.if-are_low.true) has
