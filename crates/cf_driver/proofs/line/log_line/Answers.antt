use Rattle.std.proofs.Common.{ap, length, nat_le, not, true, ◌∙◌, ◌≡◌}
use Rattle.std.specs.List.{list_all}
use Rattle.std.proofs.lemmas.Bool.{and_parts}
use Rattle.std.proofs.lemmas.List.Elements.{All-head}
use Rattle.cf_policy.specs.Names.{is_name_byte}
use Rattle.cf_policy.specs.Verdict.{is_empty}
use Rattle.cf_policy.specs.Within.{IsAssetWithin}
use Rattle.cf_driver.proofs.line.log_line.Goals as goal

-- the name of the first asset has the octets of a name alone
pub put_line-requires-clause-names : goal.put_line-requires-clause-names
put_line-requires-clause-names g c =
    let first = c.args.site.now.first in
    let own = All-head IsAssetWithin first c.args.site.now.others c.requires.within.each in
    let octets : list_all is_name_byte first.name ≡ true =
    (and_parts (nat_le (length first.name) 32) (list_all is_name_byte first.name) (and_parts (not (is_empty first.name)) _ own.name).1).1 in (
      ap (list_all is_name_byte) (c.as_str.ensures.text ∙ ap (λ a. a.name) c.first.ensures) ∙ octets,
      c.requires.plain,
    )
