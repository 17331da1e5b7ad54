use Rattle.std.proofs.Common.{◌≡◌, ℕ, ◌<◌, pos, true}
use Rattle.cf_policy.specs.Verdict.{takes}
use Rattle.cf_explain.specs.Rules.{NeverHas}
use Rattle.cf_explain.proofs.found.never_met.Given as goal

-- no command brings one of the codes so far
abbrev pub invariant-loop-code : goal.invariant-loop-code
invariant-loop-code l = (code : ℕ) → code < l.code → takes l.rule.codes (pos code) ≡ true → NeverHas l.protocol l.rule code
