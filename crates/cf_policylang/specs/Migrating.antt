-- Steps of the proof: a policy as a document of version 2, or 3: `migrated`.
use Rattle.std.specs.Prelude.{ℕ, pos, Bool, true, false, not, ◌&&◌, ◌||◌, nat_lt, if◌then◌else◌, List, [], ◌∷◌, ◌++◌, length, map, flat_map}
use Rattle.std.specs.List.{list_any}
use Rattle.toml.specs.Data.{integer, array, Items, Members, no_members}
use Rattle.cf_policy.specs.declared.policy.Asset.{Asset}
use Rattle.cf_policy.specs.declared.policy.Policy.{Policy}
use Rattle.cf_policy.specs.declared.policy.Span.{Span}
use Rattle.cf_policy.specs.AtEndpoint.{has_asset_at}
use Rattle.cf_policy.specs.Verdict.{is_empty}
use Rattle.cf_policylang.specs.declared.refusal.Key.TheVariants as key
use Rattle.cf_policylang.specs.declared.sets.TheConstants.{MOST_SETS}
use Rattle.cf_policylang.specs.Spelling.{are_same, asset_tables, set_tables, with_key, with_list}

-- the lists of points of all rules of these assets in their order
abbrev pub all_points : List Asset → List (List Span)
all_points assets = flat_map (λ a. map (λ r. r.points) a.rules) assets

abbrev pub has_list : List (List Span) → List Span → Bool
has_list lists points = list_any (λ l. are_same l points) lists

-- a list gets a set if it is stated and has none, while there is room, and a later rule has it too
abbrev pub gets_set : List (List Span) → List Span → List (List Span) → Bool
gets_set seen points later =
    nat_lt (length seen) MOST_SETS && (not (is_empty points) && (not (has_list seen points) && has_list later points))

-- the lists that have a set, with this one if it gets one
abbrev pub with_set : List (List Span) → List Span → List (List Span) → List (List Span)
with_set seen points later = if gets_set seen points later then seen ++ points ∷ [] else seen

abbrev pub sets_behind : List (List Span) → List (List Span) → List (List Span)
sets_behind seen [] = seen
sets_behind seen (points ∷ later) = sets_behind (with_set seen points later) later

-- the different lists that two rules state at least, in the order of the first of them
abbrev pub set_lists : Policy → List (List Span)
set_lists policy = sets_behind [] (all_points policy.assets)

-- what some rule admits is written to the log
abbrev pub has_log : List Asset → Bool
has_log assets = list_any (λ a. list_any (λ r. r.log) a.rules) assets

-- two assets have one endpoint
abbrev pub has_site : List Asset → Bool
has_site [] = false
has_site (asset ∷ assets) = has_asset_at assets asset.endpoint || has_site assets

-- a policy that version 3 alone can state
abbrev pub needs_third : List Asset → Bool
needs_third assets = has_log assets || has_site assets

-- the version of the document
abbrev pub version_for : (third : Bool) → ℕ
version_for false = 2
version_for true = 3

-- a document of version 2, or 3, that has these sets and assets
abbrev pub later_document : (third : Bool) → Items → Items → Members
later_document third sets assets =
    with_key key.Asset (array assets) (with_list key.Set sets (with_key key.Version (integer (pos (version_for third))) no_members))

-- the policy in the least version that can state it, with the sets first found and a rule's points by the name of their set
abbrev pub migrated : Policy → Members
migrated policy =
    let lists = set_lists policy in
    later_document (needs_third policy.assets) (set_tables lists) (asset_tables lists policy.assets)
