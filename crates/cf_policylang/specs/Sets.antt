-- What the sets of points of a version 2 document mean: sets; and a rule's points beside them: rule_points.
use Rattle.std.specs.Prelude.{ℕ, pos, Bool, nat_eq, nat_lt, if◌then◌else◌, List, [], ◌∷◌, ◌++◌, length, drop, Option, Some, None, Ok}
use Rattle.std.specs.Prelude.{option_map, codes, bytes_eq, find}
use Rattle.std.specs.List.{list_any, starts_with}
use Rattle.toml.specs.Data.{Data, Items, no_items, item, Members}
use Rattle.cf_policy.specs.declared.policy.Span.{Span}
use Rattle.cf_policy.specs.Names.{is_name}
use Rattle.cf_policy.specs.Within.{highest_point, most_spans}
use Rattle.cf_policylang.specs.declared.fields.Kind.TheVariants as kind
use Rattle.cf_policylang.specs.declared.lists.Entries.TheVariants as entries
use Rattle.cf_policylang.specs.declared.refusal.Key.{Key}
use Rattle.cf_policylang.specs.declared.refusal.Key.TheVariants as key
use Rattle.cf_policylang.specs.declared.refusal.Cause.TheVariants as cause
use Rattle.cf_policylang.specs.declared.refusal.Place.{Place}
use Rattle.cf_policylang.specs.declared.sets.TheConstants.{MOST_SETS}
use Rattle.cf_policylang.specs.declared.sets.Edition.{Edition}
use Rattle.cf_policylang.specs.declared.sets.Edition.TheVariants as edition
use Rattle.cf_policylang.specs.declared.sets.Named.{Named}
use Rattle.cf_policylang.specs.declared.sets.PointSet.{PointSet}
use Rattle.cf_policylang.specs.Fields.{as_array_of, as_text, count, has_other, name, required, tables_from, stated}
use Rattle.cf_policylang.specs.Lists.{listed, spans}
use Rattle.cf_policylang.specs.Numbers.{number_span}
use Rattle.cf_policylang.specs.Tested.{Tested, and_then, refused, or_refused, at_document, at_set}

-- ---- the sets of a document

-- the keys that a set may have
abbrev pub set_keys : List Key
set_keys = key.Name ∷ key.Points ∷ []

-- an earlier set has the name
abbrev pub is_set_taken : List PointSet → List ℕ → Bool
is_set_taken seen text = list_any (λ s. bytes_eq s.name text) seen

-- the name of a set, which no earlier one has
abbrev pub set_name : Place → List PointSet → Members → Tested (List ℕ)
set_name place seen members =
    and_then (name place members) (λ text. if is_set_taken seen text then refused cause.Duplicate key.Name place else Ok text)

-- the points, which name no sets
abbrev pub set_points : Place → Members → Tested (List Span)
set_points place members =
    and_then (required key.Points place members) (λ value. spans (entries.Numbers (pos 0) highest_point) key.Points place value)

-- a set after those that were read
abbrev pub set : Place → List PointSet → Members → Tested PointSet
set place seen members =
    if has_other set_keys members then refused cause.UnknownKey key.Nothing place else
    and_then (set_name place seen members) (λ own_name.
    and_then (set_points place members) (λ own_points.
    Ok (record { name = own_name; points = own_points })))

-- the sets in their order, after n that were read
abbrev pub sets_from : ℕ → Items → List PointSet → Tested (List PointSet)
sets_from n items seen = tables_from key.Set at_document (λ m. set (at_set m)) n items seen

-- the array of the sets, which may be absent
abbrev pub set_items : Option Data → Tested Items
set_items None = Ok no_items
set_items (Some value) =
    and_then (as_array_of kind.Table key.Set at_document value) (λ items.
    if nat_lt MOST_SETS (count items) then refused cause.TooMany key.Set at_document else Ok items)

-- the sets of a document, tested in their order
abbrev pub sets : Members → Tested (List PointSet)
sets members = and_then (set_items (stated key.Set members)) (λ items. sets_from 0 items [])

-- ---- the points of a rule

-- the name after the mark of an entry that names a set
abbrev pub marked_name : List ℕ → Option (List ℕ)
marked_name text = if starts_with nat_eq text (codes "@") then Some (drop 1 text) else None

-- the name after the mark of an entry that names a set, which version 1 does not have
abbrev pub named_in : Edition → List ℕ → Option (List ℕ)
named_in edition.First text = None
named_in edition.Second text = marked_name text
named_in edition.Third text = marked_name text

-- the points of the set of a name
abbrev pub points_named : List PointSet → List ℕ → Option (List Span)
points_named sets text = option_map (λ s. s.points) (find (λ s. bytes_eq s.name text) sets)

-- the spans in place of a set's name: a text that is no name is a bad entry
abbrev pub set_spans : List PointSet → Place → List ℕ → Tested (List Span)
set_spans sets place text =
    if is_name text then or_refused cause.UnknownSet key.Points place (points_named sets text) else refused cause.BadRange key.Points place

-- the one span of any other entry
abbrev pub own_span : Place → List ℕ → Tested (List Span)
own_span place text =
    and_then (or_refused cause.BadRange key.Points place (number_span (pos 0) highest_point text)) (λ s. Ok (s ∷ []))

-- the spans of an entry, which may name a set
abbrev pub entry_spans : List PointSet → Place → List ℕ → Option (List ℕ) → Tested (List Span)
entry_spans sets place text (Some set) = set_spans sets place set
entry_spans sets place text None = own_span place text

-- the spans of one entry of a rule's points: its own, or those of the set that it names
abbrev pub point_entry : Named → Place → Data → Tested (List Span)
point_entry named place value =
    and_then (as_text key.Points place value) (λ text. entry_spans named.sets place text (named_in named.edition text))

-- the spans of the entries in their order, after those before them
abbrev pub points_from : Named → Place → Items → List Span → Tested (List Span)
points_from named place no_items seen = Ok seen
points_from named place (item value items) seen =
    and_then (point_entry named place value) (λ own. points_from named place items (seen ++ own))

-- the points that a rule states: their form, then the first bad entry, and at last how many spans there are
abbrev pub stated_points : Named → Place → Data → Tested (List Span)
stated_points named place value =
    and_then (listed kind.Text key.Points place value) (λ items.
    and_then (points_from named place items []) (λ own.
    if nat_lt most_spans (length own) then refused cause.TooMany key.Points place else Ok own))

-- the points of a rule, none where the key is not there
abbrev pub points_if_any : Named → Place → Option Data → Tested (List Span)
points_if_any named place None = Ok []
points_if_any named place (Some value) = stated_points named place value

-- the points of a rule, which may have none
abbrev pub rule_points : Named → Place → Members → Tested (List Span)
rule_points named place members = points_if_any named place (stated key.Points members)
