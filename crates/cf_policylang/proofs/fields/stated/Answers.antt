-- What the map finds at a key is the member at that key.
use Rattle.toml.proofs.Views.{table_get}
use Rattle.cf_policylang.proofs.fields.stated.Goals as goal

pub returns : goal.returns
returns c = rw (← c.as_str.ensures.name) (table_get c.get.result c.as_str.result.now c.args.table.now.entries c.get.ensures.value)
