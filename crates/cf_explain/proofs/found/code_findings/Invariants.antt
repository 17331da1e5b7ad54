use Rattle.std.proofs.Common.{◌≡◌, ℕ, ◌<◌, pos, true, [], All}
use Rattle.std.specs.List.{list_any}
use Rattle.cf_policy.specs.Verdict.{takes}
use Rattle.cf_acts.specs.Acts.{kinds}
use Rattle.cf_explain.specs.Meets.{meets}
use Rattle.cf_explain.specs.Rules.{Holds}
use Rattle.cf_explain.proofs.found.code_findings.Given as goal

-- what was found so far holds, and where nothing was found each code so far is met
abbrev pub invariant-loop-code : goal.invariant-loop-code
invariant-loop-code l = record {
  so : All (Holds l.asset l.number l.rule) l.found.items;
  nothing : l.found.items ≡ [] → (code : ℕ) → code < l.code → takes l.rule.codes (pos code) ≡ true
      → list_any (meets l.rule) (kinds l.asset.protocol code) ≡ true;
}
