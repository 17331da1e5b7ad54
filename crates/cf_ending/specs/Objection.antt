-- What is told of an objection to what clients sent: objected_text. The words are those of the log.
use Rattle.std.specs.Prelude.{List, ℕ, ◌++◌, codes, decimal}
use Rattle.std.specs.Fmt.{signed_decimal}
use Rattle.cf_audit.specs.Names.{break_name, reason_name, why_name}
use Rattle.cf_view.specs.Text.{endpoint_text}
use Rattle.cf_ending.specs.declared.objection.Objected.{Objected}
use Rattle.cf_ending.specs.declared.objection.Ground.{Ground}
use Rattle.cf_ending.specs.declared.objection.Ground.TheVariants as told

-- what is objected to
abbrev pub told_text : Ground → List ℕ
told_text (told.Conflict position) = codes "conflict " ++ signed_decimal position
told_text (told.Broken reason) = codes "broken " ++ break_name reason
told_text (told.Refused rule reason) = codes "refused " ++ rule.bytes ++ codes " " ++ reason_name reason
told_text (told.Stray why) = codes "stray " ++ why_name why

-- the record, the client, the name of the asset, and what
abbrev pub objected_text : Objected → List ℕ
objected_text o =
    decimal o.at_record ++ codes " " ++ endpoint_text o.client ++ codes " " ++ o.asset.bytes ++ codes " " ++ told_text o.what
