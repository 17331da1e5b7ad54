-- Steps of the proof: the tables of TOML that rules, sets and assets are as they are written: `rule_table`, `set_table` and `asset_table`.
use Rattle.std.specs.Prelude.{ℕ, ◌+◌, pos, nat_abs, Bool, ◌&&◌, true, false, if◌then◌else◌, List, [], ◌∷◌, ◌++◌, Option, Some, None, codes}
use Rattle.std.specs.Prelude.{decimal, map}
use Rattle.std.specs.Fmt.{signed_decimal}
use Rattle.std.specs.List.{enumerate_from, position}
use Rattle.std.specs.Ordering.{match_ordering, nat_cmp, int_eq}
use Rattle.std.specs.Cmp.Lexicographic.{slice_cmp}
use Rattle.toml.specs.Data.{Data, string, integer, boolean, array, table, Items, no_items, item, Members, no_members, member}
use Rattle.toml.specs.View.{items_of}
use Rattle.cf_view.specs.Text.{dotted}
use Rattle.cf_policy.specs.declared.policy.Action.{Action}
use Rattle.cf_policy.specs.declared.policy.Action.TheVariants.{Allow, Refuse}
use Rattle.cf_policy.specs.declared.policy.Asset.{Asset}
use Rattle.cf_policy.specs.declared.policy.Protocol.{Protocol}
use Rattle.cf_policy.specs.declared.policy.Protocol.TheVariants.{Modbus, Dnp3, Iec104}
use Rattle.cf_policy.specs.declared.policy.Rate.{Rate}
use Rattle.cf_policy.specs.declared.policy.Rule.{Rule}
use Rattle.cf_policy.specs.declared.policy.Span.{Span}
use Rattle.cf_policylang.specs.declared.refusal.Key.{Key}
use Rattle.cf_policylang.specs.declared.refusal.Key.TheVariants as key
use Rattle.cf_policylang.specs.Keys.{key_text}

-- ---- tables

-- the members with this one, in the order of their keys
abbrev pub with_member : (key : List ℕ) → Data → Members → Members
with_member key value no_members = member key value no_members
with_member key value (member other there more) =
    match_ordering (slice_cmp nat_cmp key other)
    (member key value (member other there more)) (member other value more) (member other there (with_member key value more))

abbrev pub with_key : Key → Data → Members → Members
with_key key value members = with_member (key_text key) value members

-- a list at a key, which is absent where it has no entry
abbrev pub with_list : Key → Items → Members → Members
with_list key no_items members = members
with_list key (item value items) members = with_key key (array (item value items)) members

-- ---- lists

-- a number, or a range of numbers
abbrev pub number_text : Span → List ℕ
number_text span =
    if int_eq span.low span.high then signed_decimal span.low else signed_decimal span.low ++ (codes ".." ++ signed_decimal span.high)

-- an address, or a range of addresses
abbrev pub address_text : Span → List ℕ
address_text span =
    if int_eq span.low span.high then dotted (nat_abs span.low)
    else dotted (nat_abs span.low) ++ (codes ".." ++ dotted (nat_abs span.high))

abbrev pub texts : (Span → List ℕ) → List Span → Items
texts spell spans = items_of (map (λ span. string (spell span)) spans)

-- codes, which are spans of one number
abbrev pub numbers : List Span → Items
numbers spans = items_of (map (λ span. integer span.low) spans)

-- ---- sets

abbrev pub is_same_span : Span → Span → Bool
is_same_span a b = int_eq a.low b.low && int_eq a.high b.high

abbrev pub are_same : List Span → List Span → Bool
are_same [] [] = true
are_same (s ∷ spans) (t ∷ others) = is_same_span s t && are_same spans others
are_same _ _ = false

-- the name of the set of this number, counted from 0
abbrev pub set_text : ℕ → List ℕ
set_text n = codes "set" ++ decimal (n + 1)

-- the first of these lists that is the same
abbrev pub set_place : List (List Span) → List Span → Option ℕ
set_place lists points = position (λ l. are_same l points) lists

abbrev pub points_at : List Span → Option ℕ → Items
points_at points None = texts number_text points
points_at points (Some n) = item (string (codes "@" ++ set_text n)) no_items

-- the entries of a rule's points beside the lists that have a set
abbrev pub point_items : List (List Span) → List Span → Items
point_items lists points = points_at points (set_place lists points)

abbrev pub set_table : ℕ → List Span → Members
set_table n points = with_list key.Points (texts number_text points) (with_key key.Name (string (set_text n)) no_members)

abbrev pub set_tables : List (List Span) → Items
set_tables lists = items_of (map (λ numbered. table (set_table numbered.0 numbered.1)) (enumerate_from 0 lists))

-- ---- rules

abbrev pub action_text : Action → List ℕ
action_text Allow = codes "allow"
action_text Refuse = codes "refuse"

abbrev pub with_rate : Option Rate → Members → Members
with_rate None members = members
with_rate (Some rate) members = with_key key.Seconds (integer (pos rate.seconds)) (with_key key.Most (integer (pos rate.most)) members)

-- a log, which is absent where there is none
abbrev pub with_log : Bool → Members → Members
with_log false members = members
with_log true members = with_key key.Log (boolean true) members

abbrev pub rule_table : List (List Span) → Rule → Members
rule_table lists r =
    with_log r.log (with_rate r.rate (with_list key.Values (texts number_text r.values) (with_list key.Points (point_items lists r.points)
    (with_list key.Groups (texts number_text r.groups) (with_list key.Codes (numbers r.codes)
    (with_list key.Clients (texts address_text r.clients) (with_key key.Action (string (action_text r.action))
    (with_key key.Name (string r.name) no_members))))))))

abbrev pub rule_tables : List (List Span) → List Rule → Items
rule_tables lists own = items_of (map (λ r. table (rule_table lists r)) own)

-- ---- assets

abbrev pub protocol_text : Protocol → List ℕ
protocol_text Modbus = codes "modbus"
protocol_text Dnp3 = codes "dnp3"
protocol_text Iec104 = codes "iec104"

-- the master, which DNP3 alone has
abbrev pub with_master : Protocol → ℕ → Members → Members
with_master Dnp3 master members = with_key key.Master (integer (pos master)) members
with_master _ master members = members

abbrev pub asset_table : List (List Span) → Asset → Members
asset_table lists a =
    with_list key.Rule (rule_tables lists a.rules) (with_master a.protocol a.master (with_key key.Station (integer (pos a.station))
    (with_key key.Protocol (string (protocol_text a.protocol)) (with_key key.Port (integer (pos a.endpoint.port))
    (with_key key.Address (string (dotted a.endpoint.address)) (with_key key.Name (string a.name) no_members))))))

abbrev pub asset_tables : List (List Span) → List Asset → Items
asset_tables lists assets = items_of (map (λ a. table (asset_table lists a)) assets)
