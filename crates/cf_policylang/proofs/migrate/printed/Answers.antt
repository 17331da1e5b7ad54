use Rattle.std.proofs.Common.{◌≡◌, ◌≤◌, ◌∙◌, Ok, ap, string_bytes, subst, sym}
use Rattle.std.proofs.lemmas.Result.{IfOk-weaker}
use Rattle.toml.specs.Data.{members_depth}
use Rattle.toml.specs.View.{array_view, table_view}
use Rattle.cf_policy.specs.declared.policy.Policy.{Policy}
use Rattle.cf_policy.specs.Within.{IsWithin}
use Rattle.cf_policylang.specs.Documents.{document, text_meaning}
use Rattle.cf_policylang.specs.Migrating.{later_document, migrated}
use Rattle.cf_policylang.proofs.Depths.{migrated_shallow}
use Rattle.cf_policylang.proofs.DocumentsBack.{document_read}
use Rattle.cf_policylang.proofs.migrate.printed.Goals as goal

-- the text means what its table means, and that is the policy
pub returns-clause-meaning : goal.returns-clause-meaning
returns-clause-meaning c =
    let own = later_document c.args.third (array_view c.args.sets) (array_view c.args.assets) in
    let table = c.in_ok-later_document.field-0 in
    let made : table_view table ≡ own = c.in_ok-later_document.ensures in
    IfOk-weaker c.document_text.result (λ t. members_depth (table_view table) ≤ 80 → text_meaning (string_bytes t) ≡ document (table_view table))
    (λ t. (p : Policy) → IsWithin p → own ≡ migrated p → text_meaning (string_bytes t) ≡ Ok p)
    (λ t read p within is.
    let whole : table_view table ≡ migrated p = made ∙ is in
    read (subst (λ ms. members_depth ms ≤ 80) (sym whole) (migrated_shallow p)) ∙ (ap document whole ∙ document_read p within))
    c.document_text.ensures.meaning
