-- A policy that was written anew is read as it was.
use Rattle.std.proofs.Common.{◌≡◌, ◌∙◌, ◌≤◌, pos, Bool, true, false, get_or, List, [], ◌∷◌, ◌++◌, length, map, Some, Ok, ap, subst, refl, arith}
use Rattle.std.specs.List.{All, list_any}
use Rattle.std.proofs.lemmas.Bool.{or_parts}
use Rattle.std.proofs.lemmas.List.Elements.{All-append, All-cons, All-head, All-map, All-nil, All-tail, All-weaker}
use Rattle.toml.specs.Data.{integer, array, table, Members, no_members}
use Rattle.cf_policy.specs.declared.policy.Asset.{Asset}
use Rattle.cf_policy.specs.declared.policy.Policy.{Policy}
use Rattle.cf_policy.specs.declared.policy.Rule.{Rule}
use Rattle.cf_policy.specs.declared.policy.Span.{Span}
use Rattle.cf_policy.specs.Within.{AreAssetsWithin, IsAssetWithin, IsRuleWithin, IsWithin}
use Rattle.cf_policylang.specs.Assets.{assets_from}
use Rattle.cf_policylang.specs.declared.fields.Kind.TheVariants as kind
use Rattle.cf_policylang.specs.declared.refusal.Key.TheVariants as key
use Rattle.cf_policylang.specs.declared.sets.Edition.{Edition}
use Rattle.cf_policylang.specs.declared.sets.Edition.TheVariants as edition
use Rattle.cf_policylang.specs.Documents.{asset_items, document, document_keys, version}
use Rattle.cf_policylang.specs.Fields.{has_other, stated}
use Rattle.cf_policylang.specs.Migrating.{all_points, has_log, has_site, migrated, needs_third, set_lists, version_for}
use Rattle.cf_policylang.specs.Sets.{sets}
use Rattle.cf_policylang.specs.Spelling.{asset_table, asset_tables, set_tables, with_key}
use Rattle.cf_policylang.specs.Tested.{at_document}
use Rattle.cf_policylang.proofs.AssetsBack.{HasKnownRules, assets_read}
use Rattle.cf_policylang.proofs.ListsBack.{and_then_ok, few_read, list_step, some_list}
use Rattle.cf_policylang.proofs.PointsBack.{IsPointList, NamesSets, lists_kept, naming}
use Rattle.cf_policylang.proofs.RulesBack.{HasKnownKeys, known_in_second, known_in_third}
use Rattle.cf_policylang.proofs.SetsBack.{IsSetList, sets_of, sets_read}
use Rattle.cf_policylang.proofs.SitesBack.{MayFollow, in_second, in_third}
use Rattle.cf_policylang.proofs.Stated.{Given, built, has_no_other, stated_at}

-- ---- the lists of points of a policy

points_of_rules : (rs : List Rule) → All IsRuleWithin rs → All IsPointList (map (λ r. r.points) rs)
points_of_rules rs h =
    All-map IsPointList (λ (r : Rule). r.points) rs
    (All-weaker IsRuleWithin (λ r. IsPointList r.points) (λ r w. (w.points.count, w.points.each)) rs h)

points_of_assets : (own : List Asset) → All IsAssetWithin own → All IsPointList (all_points own)
points_of_assets [] h = All-nil IsPointList
points_of_assets (a ∷ own) h =
    All-append IsPointList (map (λ r. r.points) a.rules) (all_points own) (points_of_rules a.rules (All-head IsAssetWithin a own h).rules.each)
    (points_of_assets own (All-tail IsAssetWithin a own h))

lists_of : (p : Policy) → IsWithin p → (length (set_lists p) ≤ 64) × All IsSetList (set_lists p)
lists_of p h = lists_kept [] (all_points p.assets) (omega arith, All-nil IsSetList) (points_of_assets p.assets h.each)

-- ---- the document

abbrev pub document_given : Bool → List (List Span) → List Asset → List Given
document_given third ls own =
    (key.Asset, Some (array (asset_tables ls own))) ∷ (key.Set, some_list (set_tables ls)) ∷ (key.Version, Some (integer (pos (version_for third)))) ∷ []

pub document_built : (p : Policy) → migrated p ≡ built (document_given (needs_third p.assets) (set_lists p) p.assets)
document_built p =
    let front : Members = with_key key.Version (integer (pos (version_for (needs_third p.assets)))) no_members in
    ap (with_key key.Asset (array (asset_tables (set_lists p) p.assets))) (list_step key.Set (set_tables (set_lists p)) (let same : front ≡ front = refl in same))

-- the edition that is written
abbrev edition_for : Bool → Edition
edition_for false = edition.Second
edition_for true = edition.Third

version_read : (third : Bool) (ms : Members) → stated key.Version ms ≡ Some (integer (pos (version_for third))) → version ms ≡ Ok (edition_for third)
version_read false ms e = rw e refl
version_read true ms e = rw e refl

known_keys : (third : Bool) (ls : List (List Span)) (own : List Asset) → has_other (document_keys (edition_for third)) (built (document_given third ls own)) ≡ false
known_keys false ls own = has_no_other (document_keys edition.Second) (document_given false ls own) refl
known_keys true ls own = has_no_other (document_keys edition.Third) (document_given true ls own) refl

names_sets : (third : Bool) → NamesSets (edition_for third)
names_sets false text = refl
names_sets true text = refl

-- where no rule has a log, version 2 knows the keys of all rules, and version 3 knows them always
rules_in_second : (ls : List (List Span)) (rs : List Rule) → list_any (λ r. r.log) rs ≡ false → All (HasKnownKeys edition.Second ls) rs
rules_in_second ls [] none = All-nil (HasKnownKeys edition.Second ls)
rules_in_second ls (r ∷ rs) none =
    let parts = or_parts r.log (list_any (λ s. s.log) rs) none in
    All-cons (HasKnownKeys edition.Second ls) r rs (known_in_second ls r parts.0) (rules_in_second ls rs parts.1)

assets_in_second : (ls : List (List Span)) (own : List Asset) → has_log own ≡ false → All (HasKnownRules edition.Second ls) own
assets_in_second ls [] none = All-nil (HasKnownRules edition.Second ls)
assets_in_second ls (a ∷ own) none =
    let parts = or_parts (list_any (λ r. r.log) a.rules) (has_log own) none in
    All-cons (HasKnownRules edition.Second ls) a own (rules_in_second ls a.rules parts.0) (assets_in_second ls own parts.1)

known_rules : (third : Bool) (ls : List (List Span)) (own : List Asset) → needs_third own ≡ third → All (HasKnownRules (edition_for third) ls) own
known_rules false ls own none = assets_in_second ls own (or_parts (has_log own) (has_site own) none).0
known_rules true ls own some = λ i d inside j e within. known_in_third ls (get_or (get_or own i d).rules j e)

-- each asset may follow those before it: in version 2 where no two have one endpoint, and in version 3 always
follow : (third : Bool) (own : List Asset) → needs_third own ≡ third → AreAssetsWithin own → (before : List Asset) (a : Asset) (after : List Asset)
    → own ≡ before ++ (a ∷ after) → MayFollow (edition_for third) before a
follow false own none h before a after is =
    in_second before a after (subst AreAssetsWithin is h) (subst (λ l. has_site l ≡ false) is (or_parts (has_log own) (has_site own) none).1)
follow true own some h before a after is = in_third before a after (subst AreAssetsWithin is h)

asset_items_read : (ms : Members) (ls : List (List Span)) (own : List Asset) → length own ≤ 256 → stated key.Asset ms ≡ Some (array (asset_tables ls own))
    → asset_items ms ≡ Ok (asset_tables ls own)
asset_items_read ms ls own few e = rw e (few_read (λ (a : Asset). table (asset_table ls a)) kind.Table key.Asset at_document 256 (λ a. refl) own few)

read_with : (third : Bool) (ls : List (List Span)) (p : Policy) → needs_third p.assets ≡ third → IsWithin p → length ls ≤ 64 → All IsSetList ls
    → document (built (document_given third ls p.assets)) ≡ Ok p
read_with third ls p needs h few all =
    let gs : List Given = document_given third ls p.assets in
    let ms : Members = built gs in
    let e = edition_for third in
    and_then_ok (version ms) _ e (Ok p) (version_read third ms (stated_at key.Version gs refl))
    (rw (known_keys third ls p.assets)
    (and_then_ok (sets ms) _ (sets_of 0 ls) (Ok p) (sets_read ms ls few all (stated_at key.Set gs refl))
    (and_then_ok (asset_items ms) _ (asset_tables ls p.assets) (Ok p) (asset_items_read ms ls p.assets h.count (stated_at key.Asset gs refl))
    (and_then_ok (assets_from (naming e ls) 0 (asset_tables ls p.assets) []) _ p.assets (Ok p)
    (assets_read e (names_sets third) ls few p.assets (known_rules third ls p.assets needs) h (follow third p.assets needs h)) refl))))

-- the table of a policy means that policy
pub document_read : (p : Policy) → IsWithin p → document (migrated p) ≡ Ok p
document_read p h =
    let lists = lists_of p h in
    ap document (document_built p) ∙ read_with (needs_third p.assets) (set_lists p) p refl h lists.0 lists.1
