-- What the lists of a rule mean: spans.
use Rattle.std.specs.Prelude.{ℕ, ℤ, pos, nat_eq, nat_lt, if◌then◌else◌, List, [], ◌∷◌, ◌++◌, Option, Some, None, Ok, option_and_then}
use Rattle.std.specs.Prelude.{option_map}
use Rattle.std.specs.Option.{option_or}
use Rattle.toml.specs.Data.{Data, string, integer, Items, no_items, item, Members}
use Rattle.cf_policy.specs.declared.policy.Protocol.{Protocol}
use Rattle.cf_policy.specs.declared.policy.Span.{Span}
use Rattle.cf_policy.specs.Within.{highest_code, highest_group}
use Rattle.cf_policylang.specs.declared.fields.Kind.{Kind}
use Rattle.cf_policylang.specs.declared.fields.Kind.TheVariants as kind
use Rattle.cf_policylang.specs.declared.lists.Entries.{Entries}
use Rattle.cf_policylang.specs.declared.lists.Entries.TheVariants as entries
use Rattle.cf_policylang.specs.declared.refusal.Key.{Key}
use Rattle.cf_policylang.specs.declared.refusal.Cause.TheVariants as cause
use Rattle.cf_policylang.specs.declared.refusal.Place.{Place}
use Rattle.cf_policylang.specs.Fields.{as_text, as_number, as_array_of, count, stated}
use Rattle.cf_policylang.specs.Names.{code_named, group_named}
use Rattle.cf_policylang.specs.Numbers.{address, ends, number_span, printed_number_in, span, span_by, within}
use Rattle.cf_policylang.specs.Tested.{Tested, and_then, refused, or_refused}
use Rattle.cf_policy.specs.Within.{most_spans}

-- what kind the entries are of
abbrev pub kind_of : Entries → Kind
kind_of entries.Addresses = kind.Text
kind_of entries.Codes = kind.Number
kind_of (entries.NamedCodes protocol) = kind.Code
kind_of (entries.Numbers low high) = kind.Text
kind_of (entries.NamedGroups protocol) = kind.Text

-- an address, or a range of addresses: a part that is none is a bad address, and else the order is tested
abbrev pub address_span : Key → Place → List ℕ → Tested Span
address_span key place text =
    let both = ends text in
    and_then (or_refused cause.BadAddress key place (address both.0)) (λ a.
    and_then (or_refused cause.BadAddress key place (address both.1)) (λ b.
    or_refused cause.BadRange key place (span (pos a) (pos b))))

-- a code is a span of its own
abbrev pub code_span : ℤ → Option Span
code_span z = option_and_then (λ n. span n n) (within (pos 0) highest_code z)

-- the code of a name of the protocol's
abbrev pub named_code_span : Protocol → List ℕ → Option Span
named_code_span protocol text = option_and_then (λ n. code_span (pos n)) (code_named protocol text)

-- a code as a number or by its name
abbrev pub code_entry : Protocol → Key → Place → Data → Tested Span
code_entry protocol key place (integer z) = or_refused cause.BadRange key place (code_span z)
code_entry protocol key place (string text) = or_refused cause.BadRange key place (named_code_span protocol text)
code_entry protocol key place _ = refused cause.WrongKind key place

-- a group as a number or by its name
abbrev pub group_end : Protocol → List ℕ → Option ℤ
group_end protocol text = option_or (printed_number_in (pos 0) highest_group text) (option_map pos (group_named protocol text))

-- a group, or a range of groups
abbrev pub group_span : Protocol → List ℕ → Option Span
group_span protocol text = span_by (group_end protocol) text

-- the span of one entry of a list
abbrev pub entry : Entries → Key → Place → Data → Tested Span
entry entries.Addresses key place value = and_then (as_text key place value) (λ text. address_span key place text)
entry entries.Codes key place value = and_then (as_number key place value) (λ z. or_refused cause.BadRange key place (code_span z))
entry (entries.Numbers low high) key place value =
    and_then (as_text key place value) (λ text. or_refused cause.BadRange key place (number_span low high text))
entry (entries.NamedCodes protocol) key place value = code_entry protocol key place value
entry (entries.NamedGroups protocol) key place value =
    and_then (as_text key place value) (λ text. or_refused cause.BadRange key place (group_span protocol text))

-- the entries in their order, after those before them
abbrev pub entries_from : Entries → Key → Place → Items → List Span → Tested (List Span)
entries_from entries key place no_items seen = Ok seen
entries_from entries key place (item value items) seen =
    and_then (entry entries key place value) (λ s. entries_from entries key place items (seen ++ s ∷ []))

-- the entries of a list as written: the kind of all of them, then how many there are
abbrev pub listed : Kind → Key → Place → Data → Tested Items
listed kind key place value =
    and_then (as_array_of kind key place value) (λ items.
    if nat_eq (count items) 0 then refused cause.BadRange key place
    else if nat_lt most_spans (count items) then refused cause.TooMany key place
    else Ok items)

-- a list: its form, and then the first bad entry
abbrev pub spans : Entries → Key → Place → Data → Tested (List Span)
spans entries key place value = and_then (listed (kind_of entries) key place value) (λ items. entries_from entries key place items [])

-- the spans of a list, none where the key is not there
abbrev pub spans_if_any : Entries → Key → Place → Option Data → Tested (List Span)
spans_if_any entries key place None = Ok []
spans_if_any entries key place (Some value) = spans entries key place value

-- a list that may be absent, and is then empty
abbrev pub optional_spans : Entries → Key → Place → Members → Tested (List Span)
optional_spans entries key place members = spans_if_any entries key place (stated key members)
