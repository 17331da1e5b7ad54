use Rattle.std.proofs.Common.{◌≡◌, ◌∙◌, Bool, List, [], false, ap, string_bytes, subst}
use Rattle.toml.specs.Data.{Items}
use Rattle.toml.specs.Text.{IsDocumentText}
use Rattle.toml.specs.View.{array_view}
use Rattle.cf_policy.specs.declared.policy.Asset.{Asset}
use Rattle.cf_policy.specs.declared.policy.Policy.{Policy}
use Rattle.cf_policy.specs.declared.policy.Span.{Span}
use Rattle.cf_policylang.specs.Migrating.{all_points, later_document, migrated, needs_third, set_lists, sets_behind}
use Rattle.cf_policylang.specs.Spelling.{asset_tables, set_tables}
use Rattle.cf_policylang.proofs.migrate.migrated_text.Goals as goal

-- the document of what the assets give is that of the policy
migrated_from : (p : Policy) (third : Bool) (own : List Asset) (lists named used : List (List Span)) (sets assets : Items) → own ≡ p.assets
    → third ≡ needs_third own → lists ≡ sets_behind [] (all_points own) → named ≡ lists → used ≡ lists → sets ≡ set_tables named
    → assets ≡ asset_tables used own → later_document third sets assets ≡ migrated p
migrated_from p third own lists named used sets assets is needs are same again sets_are assets_are =
    let found : lists ≡ set_lists p = are ∙ ap (λ xs. sets_behind [] (all_points xs)) is in
    let version : third ≡ needs_third p.assets = needs ∙ ap needs_third is in
    let tables : sets ≡ set_tables (set_lists p) = sets_are ∙ ap set_tables (same ∙ found) in
    let stated : assets ≡ asset_tables (set_lists p) p.assets =
    assets_are ∙ (ap (λ ls. asset_tables ls own) (again ∙ found) ∙ ap (asset_tables (set_lists p)) is) in
    ap (λ t. later_document t sets assets) version
    ∙ (ap (λ xs. later_document (needs_third p.assets) xs assets) tables ∙ ap (later_document (needs_third p.assets) (set_tables (set_lists p))) stated)

pub returns-in-Ok-printed-clause-text : goal.returns-in-Ok-printed-clause-text
returns-in-Ok-printed-clause-text c =
    let whole =
    migrated_from c.args.policy.now c.needs_third-third.result c.as_slice-assets.result.now c.in-Ok.lists.items c.as_slice.result.now
    c.as_slice-2.result.now (array_view c.in-Ok-set_tables.sets) (array_view c.in-Ok-asset_tables.assets) c.as_slice-assets.ensures
    c.needs_third-third.ensures c.in-Ok.ensures.sets c.as_slice.ensures.value c.as_slice-2.ensures.value c.in-Ok-set_tables.ensures
    c.in-Ok-asset_tables.ensures in
    subst (λ ms. IsDocumentText false ms (string_bytes c.in-Ok-printed.text)) whole c.in-Ok-printed.ensures.text

pub returns-in-Ok-printed-clause-meaning : goal.returns-in-Ok-printed-clause-meaning
returns-in-Ok-printed-clause-meaning c =
    let whole =
    migrated_from c.args.policy.now c.needs_third-third.result c.as_slice-assets.result.now c.in-Ok.lists.items c.as_slice.result.now
    c.as_slice-2.result.now (array_view c.in-Ok-set_tables.sets) (array_view c.in-Ok-asset_tables.assets) c.as_slice-assets.ensures
    c.needs_third-third.ensures c.in-Ok.ensures.sets c.as_slice.ensures.value c.as_slice-2.ensures.value c.in-Ok-set_tables.ensures
    c.in-Ok-asset_tables.ensures in
    c.in-Ok-printed.ensures.meaning c.args.policy.now c.requires whole
