use Rattle.cf_policylang.proofs.Alone.{lone_alone}
use Rattle.cf_policylang.proofs.laws.lone_assets_are_read_alone.Goals as goal

pub returns : goal.returns
returns c = lone_alone
