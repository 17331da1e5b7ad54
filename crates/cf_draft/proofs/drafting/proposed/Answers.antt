use Rattle.std.proofs.Common.{◌≤◌, ap, arith, length}
use Rattle.cf_policy.specs.Within.{most_assets}
use Rattle.cf_draft.proofs.drafting.proposed.Goals as goal

pub propose-requires : goal.propose-requires
propose-requires c =
    let few : length c.args.policy.now.assets ≤ most_assets = c.requires.within.count in
    record { few = omega (arith, ap length c.as_slice-assets.ensures, few) }
