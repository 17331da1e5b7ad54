-- The keys of a table and the kinds of their values, as they are tested: `required`, `as_text`, `as_number` and `as_table`. The tests
-- are this project's own; tables and values are those of TOML 1.1.
use Rattle.std.specs.Prelude.{ℕ, ◌+◌, ℤ, pos, negsuc, Bool, true, false, not, ◌&&◌, ◌||◌, nat_le, if◌then◌else◌, List, [], ◌∷◌, ◌++◌}
use Rattle.std.specs.Prelude.{Option, Some, None, Ok, bytes_eq}
use Rattle.std.specs.List.{list_any}
use Rattle.toml.specs.Data.{Data, string, integer, boolean, array, table, Items, no_items, item, Members, no_members, member, get_member}
use Rattle.cf_policy.specs.Names.{is_name}
use Rattle.cf_policylang.specs.declared.fields.Kind.{Kind}
use Rattle.cf_policylang.specs.declared.fields.Kind.TheVariants as kind
use Rattle.cf_policylang.specs.declared.refusal.Key.{Key}
use Rattle.cf_policylang.specs.declared.refusal.Key.TheVariants as key
use Rattle.cf_policylang.specs.declared.refusal.Cause.TheVariants as cause
use Rattle.cf_policylang.specs.declared.refusal.Place.{Place}
use Rattle.cf_policylang.specs.Keys.{key_text}
use Rattle.cf_policylang.specs.Tested.{Tested, and_then, refused, or_refused}

-- the text is one of the keys
abbrev pub is_among : List Key → List ℕ → Bool
is_among known text = list_any (λ key. bytes_eq text (key_text key)) known

-- the table has a key besides these
abbrev pub has_other : List Key → Members → Bool
has_other known no_members = false
has_other known (member text value members) = not (is_among known text) || has_other known members

-- the value at a key, if the table has it
abbrev pub stated : Key → Members → Option Data
stated key members = get_member (key_text key) members

-- the value of a key that must be there
abbrev pub required : Key → Place → Members → Tested Data
required key place members = or_refused cause.MissingKey key place (stated key members)

-- a value that must be a text
abbrev pub as_text : Key → Place → Data → Tested (List ℕ)
as_text key place (string s) = Ok s
as_text key place _ = refused cause.WrongKind key place

-- a value that must be an integer
abbrev pub as_number : Key → Place → Data → Tested ℤ
as_number key place (integer z) = Ok z
as_number key place _ = refused cause.WrongKind key place

-- a value that must be a boolean
abbrev pub as_flag : Key → Place → Data → Tested Bool
as_flag key place (boolean b) = Ok b
as_flag key place _ = refused cause.WrongKind key place

-- a value that must be a table
abbrev pub as_table : Key → Place → Data → Tested Members
as_table key place (table members) = Ok members
as_table key place _ = refused cause.WrongKind key place

-- a name, of an asset, a rule or a set
abbrev pub name : Place → Members → Tested (List ℕ)
name place members =
    and_then (required key.Name place members) (λ value.
    and_then (as_text key.Name place value) (λ text.
    if is_name text then Ok text else refused cause.BadRange key.Name place))

-- the value is of the kind
abbrev pub is_kind : Kind → Data → Bool
is_kind kind.Text (string s) = true
is_kind kind.Number (integer z) = true
is_kind kind.Code (string s) = true
is_kind kind.Code (integer z) = true
is_kind kind.Table (table entries) = true
is_kind _ _ = false

-- each entry is of the kind
abbrev pub all_kind : Kind → Items → Bool
all_kind key no_items = true
all_kind key (item value items) = is_kind key value && all_kind key items

-- the number of values of an array
abbrev pub count : Items → ℕ
count no_items = 0
count (item value items) = 1 + count items

-- an array each of whose entries is of the kind
abbrev pub as_array_of : Kind → Key → Place → Data → Tested Items
as_array_of kind key place (array items) = if all_kind kind items then Ok items else refused cause.WrongKind key place
as_array_of kind key place _ = refused cause.WrongKind key place

-- the number, if it is from low to high
abbrev pub number_in : ℕ → ℕ → ℤ → Option ℕ
number_in low high (pos n) = if nat_le low n && nat_le n high then Some n else None
number_in low high (negsuc n) = None

-- the tables of an array in their order, after n that were read: read gets the number of each, from 1, and what was
-- read before it
abbrev pub tables_from : {X : Type 0} → Key → Place → (ℕ → List X → Members → Tested X) → ℕ → Items → List X → Tested (List X)
tables_from key place read n no_items seen = Ok seen
tables_from key place read n (item value items) seen =
    and_then (as_table key place value) (λ members.
    and_then (read (n + 1) seen members) (λ x.
    tables_from key place read (n + 1) items (seen ++ x ∷ [])))
