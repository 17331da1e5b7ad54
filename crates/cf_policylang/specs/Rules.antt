-- What the tables of an asset's rules mean: rules, and rule of one.
use Rattle.std.specs.Prelude.{ℕ, pos, Bool, ◌||◌, nat_lt, if◌then◌else◌, List, [], ◌∷◌, Option, Some, None, Ok, codes, bytes_eq}
use Rattle.std.specs.List.{list_any}
use Rattle.toml.specs.Data.{Data, Items, no_items, Members}
use Rattle.cf_policy.specs.declared.policy.Action.{Action}
use Rattle.cf_policy.specs.declared.policy.Action.TheVariants.{Allow, Refuse}
use Rattle.cf_policy.specs.declared.policy.Protocol.{Protocol}
use Rattle.cf_policy.specs.declared.policy.Rule.{Rule}
use Rattle.cf_policy.specs.declared.policy.Span.{Span}
use Rattle.cf_policy.specs.Names.{is_reserved}
use Rattle.cf_policy.specs.Within.{highest_group, lowest_value, highest_value}
use Rattle.cf_policylang.specs.declared.fields.Kind.TheVariants as kind
use Rattle.cf_policylang.specs.declared.lists.Entries.{Entries}
use Rattle.cf_policylang.specs.declared.lists.Entries.TheVariants as entries
use Rattle.cf_policylang.specs.declared.refusal.Key.{Key}
use Rattle.cf_policylang.specs.declared.refusal.Key.TheVariants as key
use Rattle.cf_policylang.specs.declared.refusal.Cause.TheVariants as cause
use Rattle.cf_policylang.specs.declared.refusal.Place.{Place}
use Rattle.cf_policylang.specs.Fields.{as_text, as_array_of, count, has_other, name, required, stated, tables_from}
use Rattle.cf_policylang.specs.Lists.{optional_spans, spans}
use Rattle.cf_policylang.specs.Logs.{log}
use Rattle.cf_policylang.specs.Rates.{rate}
use Rattle.cf_policylang.specs.declared.rules.RuleLists.{RuleLists}
use Rattle.cf_policylang.specs.declared.sets.Edition.{Edition}
use Rattle.cf_policylang.specs.declared.sets.Edition.TheVariants as edition
use Rattle.cf_policylang.specs.declared.sets.Named.{Named}
use Rattle.cf_policylang.specs.Sets.{rule_points}
use Rattle.cf_policylang.specs.Tested.{Tested, and_then, refused, or_refused, at_asset, at_rule}
use Rattle.cf_policy.specs.Within.{most_rules}

-- the keys that a rule may have in versions 1 and 2
abbrev pub earlier_keys : List Key
earlier_keys = key.Name ∷ key.Action ∷ key.Clients ∷ key.Codes ∷ key.Groups ∷ key.Points ∷ key.Values ∷ key.Most ∷ key.Seconds ∷ []

-- the keys that a rule may have in a version
abbrev pub rule_keys : Edition → List Key
rule_keys edition.First = earlier_keys
rule_keys edition.Second = earlier_keys
rule_keys edition.Third =
    key.Name ∷ key.Action ∷ key.Clients ∷ key.Codes ∷ key.Groups ∷ key.Points ∷ key.Values ∷ key.Most ∷ key.Seconds ∷ key.Log ∷ []

-- an earlier rule has the name, or it stands for another decider
abbrev pub is_rule_taken : List Rule → List ℕ → Bool
is_rule_taken seen text = is_reserved text || list_any (λ r. bytes_eq r.name text) seen

-- the name of a rule, which no earlier one of the asset has
abbrev pub rule_name : Place → List Rule → Members → Tested (List ℕ)
rule_name place seen members =
    and_then (name place members) (λ text. if is_rule_taken seen text then refused cause.Duplicate key.Name place else Ok text)

-- the action of a word
abbrev pub action_of : List ℕ → Option Action
action_of text =
    if bytes_eq text (codes "allow") then Some Allow
    else if bytes_eq text (codes "refuse") then Some Refuse
    else None

-- the action of a rule
abbrev pub action : Place → Members → Tested Action
action place members =
    and_then (required key.Action place members) (λ value.
    and_then (as_text key.Action place value) (λ text. or_refused cause.BadRange key.Action place (action_of text)))

-- the lists of a rule: each may be absent but the codes
abbrev pub client_spans : Place → Members → Tested (List Span)
client_spans place members = optional_spans entries.Addresses key.Clients place members

-- what the codes of a rule are in a version: numbers and, in version 3, names of the protocol's
abbrev pub code_entries : Edition → Protocol → Entries
code_entries edition.First protocol = entries.Codes
code_entries edition.Second protocol = entries.Codes
code_entries edition.Third protocol = entries.NamedCodes protocol

-- the codes of a rule, which must be there
abbrev pub code_spans : Edition → Protocol → Place → Members → Tested (List Span)
code_spans edition protocol place members =
    and_then (required key.Codes place members) (λ value. spans (code_entries edition protocol) key.Codes place value)

-- what the groups of a rule are in a version, the same way
abbrev pub group_entries : Edition → Protocol → Entries
group_entries edition.First protocol = entries.Numbers (pos 0) highest_group
group_entries edition.Second protocol = entries.Numbers (pos 0) highest_group
group_entries edition.Third protocol = entries.NamedGroups protocol

-- the groups of a rule, if it states any
abbrev pub group_spans : Edition → Protocol → Place → Members → Tested (List Span)
group_spans edition protocol place members = optional_spans (group_entries edition protocol) key.Groups place members

-- the values of a rule, if it states any
abbrev pub value_spans : Place → Members → Tested (List Span)
value_spans place members = optional_spans (entries.Numbers lowest_value highest_value) key.Values place members

-- the lists of a rule, tested in this order
abbrev pub rule_lists : Named → Protocol → Place → Members → Tested RuleLists
rule_lists named protocol place members =
    and_then (client_spans place members) (λ own_clients.
    and_then (code_spans named.edition protocol place members) (λ own_codes.
    and_then (group_spans named.edition protocol place members) (λ own_groups.
    and_then (rule_points named place members) (λ own_points.
    and_then (value_spans place members) (λ own_values.
    Ok (record {
      clients = own_clients;
      codes = own_codes;
      groups = own_groups;
      points = own_points;
      values = own_values;
    }))))))

-- a rule after those of its asset that were read, which has the protocol
abbrev pub rule : Named → Protocol → Place → List Rule → Members → Tested Rule
rule named protocol place seen members =
    if has_other (rule_keys named.edition) members then refused cause.UnknownKey key.Nothing place else
    and_then (rule_name place seen members) (λ own_name.
    and_then (action place members) (λ own_action.
    and_then (rule_lists named protocol place members) (λ lists.
    and_then (rate place seen own_action members) (λ own_rate.
    and_then (log own_action place members) (λ own_log.
    Ok (record {
      name = own_name;
      action = own_action;
      clients = lists.clients;
      codes = lists.codes;
      groups = lists.groups;
      points = lists.points;
      values = lists.values;
      rate = own_rate;
      log = own_log;
    }))))))

-- the rules of the asset of this number in their order, after n that were read
abbrev pub rules_from : Named → Protocol → ℕ → ℕ → Items → List Rule → Tested (List Rule)
rules_from named protocol a n items seen = tables_from key.Rule (at_asset a) (λ m. rule named protocol (at_rule a m)) n items seen

-- the array of the rules, which may be absent
abbrev pub rule_items : Place → Option Data → Tested Items
rule_items place None = Ok no_items
rule_items place (Some value) =
    and_then (as_array_of kind.Table key.Rule place value) (λ items.
    if nat_lt most_rules (count items) then refused cause.TooMany key.Rule place else Ok items)

-- the rules of an asset, tested in their order
abbrev pub rules : Named → Protocol → ℕ → Members → Tested (List Rule)
rules named protocol a members = and_then (rule_items (at_asset a) (stated key.Rule members)) (λ items. rules_from named protocol a 0 items [])
