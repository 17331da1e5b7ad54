use Rattle.std.specs.String.{string_bytes}
use Rattle.toml.specs.View.{table_view}
use Rattle.cf_hosts.proofs.Meaning.{text_means}
use Rattle.cf_hosts.proofs.document.made_text.Goals as goal

pub returns : goal.returns
returns c =
    text_means (string_bytes c.in_ok-text.text) (table_view c.in_ok-table.table) c.in_ok-table.ensures
    c.in_ok-text.ensures.meaning c.in_ok-text.ensures.text
