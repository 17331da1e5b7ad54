use Rattle.std.proofs.Common.{◌≡◌, drop}
use Rattle.cf_policylang.specs.Assets.{is_asset_taken}
use Rattle.cf_policylang.proofs.assets.is_asset_taken.Given as goal

-- what is left has the name exactly where the whole has it
abbrev pub invariant-loop-asset : goal.invariant-loop-asset
invariant-loop-asset l = is_asset_taken (drop l.asset-index l.earlier) l.text ≡ is_asset_taken l.earlier l.text
