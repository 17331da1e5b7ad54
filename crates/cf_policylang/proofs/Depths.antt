-- A policy's table nests no deeper than TOML is read.
use Rattle.std.proofs.Common.{ℕ, ◌≤◌, ◌<◌, Bool, true, false, List, [], ◌∷◌, map, Option, Some, None, IfSome, subst, sym, arith}
use Rattle.std.specs.List.{enumerate_from}
use Rattle.toml.specs.Data.{Data, depth, items_depth, members_depth, string, integer, table, Items, no_items, item}
use Rattle.toml.specs.View.{items_of}
use Rattle.cf_policy.specs.declared.policy.Asset.{Asset}
use Rattle.cf_policy.specs.declared.policy.Policy.{Policy}
use Rattle.cf_policy.specs.declared.policy.Protocol.{Protocol}
use Rattle.cf_policy.specs.declared.policy.Protocol.TheVariants.{Modbus, Dnp3, Iec104}
use Rattle.cf_policy.specs.declared.policy.Rate.{Rate}
use Rattle.cf_policy.specs.declared.policy.Rule.{Rule}
use Rattle.cf_policy.specs.declared.policy.Span.{Span}
use Rattle.cf_policylang.specs.Migrating.{migrated, needs_third, set_lists}
use Rattle.cf_policylang.specs.Spelling.{address_text, asset_table, asset_tables, number_text, numbers, point_items, points_at, rule_table, rule_tables, set_place, set_table, set_tables, set_text, texts}
use Rattle.cf_policylang.proofs.AssetsBack.{asset_built, asset_given, master_given}
use Rattle.cf_policylang.proofs.DocumentsBack.{document_built, document_given}
use Rattle.cf_policylang.proofs.ListsBack.{some_list}
use Rattle.cf_policylang.proofs.RulesBack.{log_given, most_given, rule_built, rule_given, seconds_given}
use Rattle.cf_policylang.proofs.SetsBack.{set_given, set_built}
use Rattle.cf_policylang.proofs.Stated.{built, built_shallow}

items_shallow : {A : Type 0} (n : ℕ) (spell : A → Data) → ((x : A) → depth (spell x) ≤ n) → (xs : List A) → items_depth (items_of (map spell xs)) ≤ n
items_shallow n spell each [] = omega arith
items_shallow n spell each (x ∷ xs) = let own : depth (spell x) ≤ n = each x in let rest : items_depth (items_of (map spell xs)) ≤ n = items_shallow n spell each xs in omega arith

list_shallow : (n : ℕ) (ds : Items) → items_depth ds < n → IfSome (some_list ds) (λ d. depth d ≤ n)
list_shallow n no_items h = tt
list_shallow n (item d ds) h = omega arith

texts_shallow : (spell : Span → List ℕ) (ss : List Span) → items_depth (texts spell ss) < 1
texts_shallow spell ss = let flat : items_depth (texts spell ss) ≤ 0 = items_shallow 0 (λ s. string (spell s)) (λ s. omega arith) ss in omega arith

codes_shallow : (ss : List Span) → items_depth (numbers ss) < 1
codes_shallow ss = let flat : items_depth (numbers ss) ≤ 0 = items_shallow 0 (λ (s : Span). integer s.low) (λ s. omega arith) ss in omega arith

points_shallow : (points : List Span) (o : Option ℕ) → items_depth (points_at points o) < 1
points_shallow points None = texts_shallow number_text points
points_shallow points (Some n) = omega arith

most_shallow : (o : Option Rate) → IfSome (most_given o) (λ d. depth d ≤ 1)
most_shallow None = tt
most_shallow (Some r) = omega arith

seconds_shallow : (o : Option Rate) → IfSome (seconds_given o) (λ d. depth d ≤ 1)
seconds_shallow None = tt
seconds_shallow (Some r) = omega arith

master_shallow : (own : Protocol) (n : ℕ) → IfSome (master_given own n) (λ d. depth d ≤ 3)
master_shallow Modbus n = tt
master_shallow Dnp3 n = omega arith
master_shallow Iec104 n = tt

log_shallow : (b : Bool) → IfSome (log_given b) (λ d. depth d ≤ 1)
log_shallow false = tt
log_shallow true = omega arith

rule_shallow : (ls : List (List Span)) (r : Rule) → members_depth (rule_table ls r) ≤ 1
rule_shallow ls r =
    subst (λ ms. members_depth ms ≤ 1) (sym (rule_built ls r))
    (built_shallow 1 (rule_given ls r) (
      log_shallow r.log,
      (
        seconds_shallow r.rate,
        (
          most_shallow r.rate,
          (
            list_shallow 1 (texts number_text r.values) (texts_shallow number_text r.values),
            (
              list_shallow 1 (point_items ls r.points) (points_shallow r.points (set_place ls r.points)),
              (
                list_shallow 1 (texts number_text r.groups) (texts_shallow number_text r.groups),
                (
                  list_shallow 1 (numbers r.codes) (codes_shallow r.codes),
                  (
                    list_shallow 1 (texts address_text r.clients) (texts_shallow address_text r.clients),
                    (omega arith, (omega arith, tt)),
                  ),
                ),
              ),
            ),
          ),
        ),
      ),
    ))

rules_shallow : (ls : List (List Span)) (rs : List Rule) → items_depth (rule_tables ls rs) < 3
rules_shallow ls rs =
    let flat : items_depth (rule_tables ls rs) ≤ 2 = items_shallow 2 (λ (r : Rule). table (rule_table ls r)) (λ r. let own = rule_shallow ls r in omega arith) rs in
    omega arith

asset_shallow : (ls : List (List Span)) (a : Asset) → members_depth (asset_table ls a) ≤ 3
asset_shallow ls a =
    subst (λ ms. members_depth ms ≤ 3) (sym (asset_built ls a))
    (built_shallow 3 (asset_given ls a) (
      list_shallow 3 (rule_tables ls a.rules) (rules_shallow ls a.rules),
      (
        master_shallow a.protocol a.master,
        (omega arith, (omega arith, (omega arith, (omega arith, (omega arith, tt))))),
      ),
    ))

assets_shallow : (ls : List (List Span)) (own : List Asset) → items_depth (asset_tables ls own) ≤ 4
assets_shallow ls own = items_shallow 4 (λ (a : Asset). table (asset_table ls a)) (λ a. let each = asset_shallow ls a in omega arith) own

set_shallow : (n : ℕ) (points : List Span) → members_depth (set_table n points) ≤ 1
set_shallow n points =
    subst (λ ms. members_depth ms ≤ 1) (sym (set_built (record { name = set_text n; points = points })))
    (built_shallow 1 (set_given (record { name = set_text n; points = points }))
    (list_shallow 1 (texts number_text points) (texts_shallow number_text points), (omega arith, tt)))

sets_shallow : (ls : List (List Span)) → items_depth (set_tables ls) < 3
sets_shallow ls =
    let flat : items_depth (set_tables ls) ≤ 2 =
    items_shallow 2 (λ (numbered : ℕ × List Span). table (set_table numbered.0 numbered.1)) (λ numbered. let own = set_shallow numbered.0 numbered.1 in omega arith) (enumerate_from 0 ls) in
    omega arith

pub migrated_shallow : (p : Policy) → members_depth (migrated p) ≤ 80
migrated_shallow p =
    let assets = assets_shallow (set_lists p) p.assets in
    let five : members_depth (built (document_given (needs_third p.assets) (set_lists p) p.assets)) ≤ 5 =
    built_shallow 5 (document_given (needs_third p.assets) (set_lists p) p.assets)
    (omega arith, (list_shallow 5 (set_tables (set_lists p)) (let sets = sets_shallow (set_lists p) in omega arith), (omega arith, tt))) in
    let whole : members_depth (migrated p) ≤ 5 = subst (λ ms. members_depth ms ≤ 5) (sym (document_built p)) five in
    omega arith
