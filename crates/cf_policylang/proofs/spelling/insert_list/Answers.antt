use Rattle.std.proofs.Common.{arith, ◌<◌, length}
use Rattle.std.proofs.lemmas.Bool.Decides.{nat_tests}
use Rattle.toml.specs.View.{table_view}
use Rattle.toml.proofs.Views.{view-Array}
use Rattle.cf_policylang.proofs.Written.{list_some}
use Rattle.cf_policylang.proofs.spelling.insert_list.Goals as goal

pub returns : goal.returns
returns c =
    let some : 0 < length c.args.values.items =
    (let e = c.if-is_empty.ensures in grind (arith, nat_tests)) in
    rw (list_some c.args.key c.args.values.items (table_view c.args.table.now) some, ← view-Array c.args.values) c.insert.ensures
