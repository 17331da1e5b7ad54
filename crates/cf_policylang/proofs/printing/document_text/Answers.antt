use Rattle.std.proofs.Common.{refl}
use Rattle.std.proofs.lemmas.Str.{IsUtf8-had}
use Rattle.std.specs.String.{string_bytes}
use Rattle.toml.specs.View.{table_view}
use Rattle.cf_policylang.proofs.Texts.{toml_read}
use Rattle.cf_policylang.proofs.printing.document_text.Goals as goal

-- the text is read as the table that was printed
pub returns-in-Ok-clause-meaning : goal.returns-in-Ok-clause-meaning
returns-in-Ok-clause-meaning c shallow =
    rw (toml_read (string_bytes c.in-Ok.text) (table_view c.args.table.now) (IsUtf8-had _ c.in-Ok.text.ok) (c.in-Ok.ensures.reads_back shallow)) refl
