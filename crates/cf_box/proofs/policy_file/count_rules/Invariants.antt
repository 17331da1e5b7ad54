use Rattle.std.proofs.Common.{◌≡◌, ◌≤◌, ◌*◌, take}
use Rattle.cf_box.specs.PolicyFile.{rule_count}
use Rattle.cf_box.proofs.policy_file.count_rules.Given as goal

abbrev pub invariant-loop-asset : goal.invariant-loop-asset
invariant-loop-asset l = record {
  counted : l.count ≡ rule_count (take l.asset-index l.assets);
  few : l.count ≤ 1024 * l.asset-index;
}
