-- Steps of the proof: the table that the document of a world is, as it is made: `document_table`. Tables and values are those of TOML 1.1.
use Rattle.std.specs.Prelude.{ℕ, ℤ, pos, List, codes}
use Rattle.toml.specs.Data.{Data, string, integer, array, table, Items, no_items, item, Members, no_members}
use Rattle.cf_policylang.specs.Spelling.{with_member}

-- an array of one value
abbrev pub only : Data → Data
only value = array (item value no_items)

-- the rule `ok`, without groups
abbrev pub rule_table : (code : ℤ) → (points : List ℕ) → Members
rule_table code points =
    with_member (codes "points") (only (string points)) (with_member (codes "codes") (only (integer code))
    (with_member (codes "action") (string (codes "allow")) (with_member (codes "name") (string (codes "ok")) no_members)))

-- the table of a rule with a group
abbrev pub grouped_rule_table : (code : ℤ) → (group points : List ℕ) → Members
grouped_rule_table code group points = with_member (codes "groups") (only (string group)) (rule_table code points)

-- an asset without a master and without its rules
abbrev pub bare_asset_table : (name address : List ℕ) → (port : ℤ) → (protocol : List ℕ) → (station : ℤ) → Members
bare_asset_table name address port protocol station =
    with_member (codes "station") (integer station) (with_member (codes "protocol") (string protocol)
    (with_member (codes "port") (integer port) (with_member (codes "address") (string address)
    (with_member (codes "name") (string name) no_members))))

-- an asset with one rule, without a master
abbrev pub asset_table : (name address : List ℕ) → (port : ℤ) → (protocol : List ℕ) → (station : ℤ) → (rule : Members) → Members
asset_table name address port protocol station rule =
    with_member (codes "rule") (only (table rule)) (bare_asset_table name address port protocol station)

abbrev pub w0_table : Members
w0_table = asset_table (codes "w0") (codes "10.2.0.1") (pos 502) (codes "modbus") (pos 1) (rule_table (pos 6) (codes "0..9"))

abbrev pub w1_table : Members
w1_table =
    with_member (codes "master") (integer (pos 1))
    (asset_table (codes "w1") (codes "10.2.0.2") (pos 20000) (codes "dnp3") (pos 10)
    (grouped_rule_table (pos 5) (codes "3073") (codes "0..9")))

abbrev pub w2_table : Members
w2_table =
    asset_table (codes "w2") (codes "10.2.0.3") (pos 2404) (codes "iec104") (pos 1)
    (grouped_rule_table (pos 45) (codes "6") (codes "1000..1009"))

abbrev pub asset_items : Items
asset_items = item (table w0_table) (item (table w1_table) (item (table w2_table) no_items))

abbrev pub document_table : Members
document_table = with_member (codes "asset") (array asset_items) (with_member (codes "version") (integer (pos 1)) no_members)
