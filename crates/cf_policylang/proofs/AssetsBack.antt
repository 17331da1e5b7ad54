-- Assets that were written are read as they were.
use Rattle.std.proofs.Common.{◌≡◌, ◌≢◌, ◌∙◌, ℕ, ◌^◌, ◌<◌, ◌≤◌, nat_le, pos, true, false, List, [], ◌∷◌, ◌++◌, length, Option, Some, None, Ok, ap, subst, refl, arith, bytes_eq, AllPairs}
use Rattle.std.specs.List.{All, list_any}
use Rattle.std.proofs.lemmas.Bool.Decides.{nat_tests}
use Rattle.toml.specs.Data.{Data, string, integer, Members, no_members}
use Rattle.cf_view.specs.declared.base.Endpoint.{Endpoint}
use Rattle.cf_view.specs.Text.{dotted}
use Rattle.cf_policy.specs.declared.policy.Asset.{Asset}
use Rattle.cf_policy.specs.declared.policy.Protocol.{Protocol}
use Rattle.cf_policy.specs.declared.policy.Protocol.TheVariants.{Modbus, Dnp3, Iec104}
use Rattle.cf_policy.specs.declared.policy.Span.{Span}
use Rattle.cf_policy.specs.Names.{is_name}
use Rattle.cf_policy.specs.Within.{AreAssetsWithin, IsAssetWithin, highest_master, highest_station, lowest_station}
use Rattle.cf_policylang.specs.Assets.{asset, asset_address, asset_keys, asset_name, assets_from, endpoint, master, number_at, protocol, stated_protocol, station}
use Rattle.cf_policylang.specs.Sites.{is_endpoint_barred}
use Rattle.cf_policylang.specs.declared.refusal.Cause.TheVariants as cause
use Rattle.cf_policylang.specs.declared.refusal.Key.{Key}
use Rattle.cf_policylang.specs.declared.refusal.Key.TheVariants as key
use Rattle.cf_policylang.specs.declared.refusal.Place.{Place}
use Rattle.cf_policylang.specs.Fields.{has_other, name, stated}
use Rattle.cf_policylang.specs.Rules.{rules}
use Rattle.cf_policylang.specs.Spelling.{asset_table, asset_tables, protocol_text, rule_tables, with_key, with_master}
use Rattle.cf_policylang.specs.Tested.{at_asset, at_document, or_refused}
use Rattle.cf_policylang.proofs.AddressesBack.{address_read}
use Rattle.cf_policylang.proofs.ListsBack.{and_then_ok, list_step, some_list, tables_read}
use Rattle.cf_policylang.proofs.Middles.{middle, none_before}
use Rattle.cf_policylang.proofs.PointsBack.{NamesSets, naming}
use Rattle.cf_policylang.specs.declared.sets.Edition.{Edition}
use Rattle.cf_policylang.proofs.RulesBack.{HasKnownKeys, rules_read}
use Rattle.cf_policylang.proofs.SetsBack.{name_read}
use Rattle.cf_policylang.proofs.SitesBack.{MayFollow}
use Rattle.cf_policylang.proofs.Stated.{Given, built, has_no_other, put, stated_at}

-- ---- the fields of an asset

asset_name_read : (p : Place) (seen : List Asset) (ms : Members) (text : List ℕ) → stated key.Name ms ≡ Some (string text) → is_name text ≡ true
    → list_any (λ a. bytes_eq a.name text) seen ≡ false → asset_name p seen ms ≡ Ok text
asset_name_read p seen ms text e form free = and_then_ok (name p ms) _ text (Ok text) (name_read p ms text e form) (rw free refl)

number_at_read : (k : Key) (low high : ℕ) (p : Place) (ms : Members) (n : ℕ) → stated k ms ≡ Some (integer (pos n)) → low ≤ n → n ≤ high
    → number_at k low high p ms ≡ Ok n
number_at_read k low high p ms n e some most =
    let above : nat_le low n ≡ true = grind (arith, nat_tests) in
    let below : nat_le n high ≡ true = grind (arith, nat_tests) in
    rw (e, above, below) refl

asset_address_read : (p : Place) (ms : Members) (n : ℕ) → stated key.Address ms ≡ Some (string (dotted n)) → n < 2 ^ 32 → asset_address p ms ≡ Ok n
asset_address_read p ms n e h = rw e (ap (or_refused cause.BadAddress key.Address p) (address_read n h))

endpoint_read : (e : Edition) (p : Place) (seen : List Asset) (ms : Members) (own : Endpoint) → own.address < 2 ^ 32 → 1 ≤ own.port → own.port < 2 ^ 16
    → stated key.Address ms ≡ Some (string (dotted own.address)) → stated key.Port ms ≡ Some (integer (pos own.port)) → is_endpoint_barred e seen own ≡ false
    → endpoint e p seen ms ≡ Ok own
endpoint_read e p seen ms own fit some below a n free =
    and_then_ok (asset_address p ms) _ own.address (Ok own) (asset_address_read p ms own.address a fit)
    (and_then_ok (number_at key.Port 1 65535 p ms) _ own.port (Ok own) (number_at_read key.Port 1 65535 p ms own.port n some (omega arith)) (rw free refl))

stated_protocol_read : (p : Place) (ms : Members) (own : Protocol) → stated key.Protocol ms ≡ Some (string (protocol_text own)) → stated_protocol p ms ≡ Ok own
stated_protocol_read p ms Modbus e = rw e refl
stated_protocol_read p ms Dnp3 e = rw e refl
stated_protocol_read p ms Iec104 e = rw e refl

protocol_read : (e : Edition) (p : Place) (seen : List Asset) (a : Asset) (ms : Members) → MayFollow e seen a → stated key.Protocol ms ≡ Some (string (protocol_text a.protocol))
    → protocol p seen a.endpoint ms ≡ Ok a.protocol
protocol_read e p seen a ms follows is =
    and_then_ok (stated_protocol p ms) _ a.protocol (Ok a.protocol) (stated_protocol_read p ms a.protocol is) (rw (follows.protocol, follows.room) refl)

station_read : (e : Edition) (p : Place) (seen : List Asset) (a : Asset) (ms : Members) → MayFollow e seen a → stated key.Station ms ≡ Some (integer (pos a.station))
    → lowest_station a.protocol ≤ a.station → a.station ≤ highest_station a.protocol → station a.protocol p seen a.endpoint ms ≡ Ok a.station
station_read e p seen a ms follows is some most =
    and_then_ok (number_at key.Station (lowest_station a.protocol) (highest_station a.protocol) p ms) _ a.station (Ok a.station)
    (number_at_read key.Station (lowest_station a.protocol) (highest_station a.protocol) p ms a.station is some most) (rw follows.station refl)

abbrev pub master_given : Protocol → ℕ → Option Data
master_given Modbus n = None
master_given Dnp3 n = Some (integer (pos n))
master_given Iec104 n = None

master_read : (own : Protocol) (p : Place) (ms : Members) (n : ℕ) → stated key.Master ms ≡ master_given own n → n ≤ highest_master own → master own p ms ≡ Ok n
master_read Modbus p ms n e h = let none : 0 ≡ n = omega arith in rw e (ap Ok none)
master_read Dnp3 p ms n e h = number_at_read key.Master 0 (highest_master Dnp3) p ms n e (omega arith) h
master_read Iec104 p ms n e h = let none : 0 ≡ n = omega arith in rw e (ap Ok none)

-- ---- an asset

abbrev pub asset_given : List (List Span) → Asset → List Given
asset_given ls a =
    (key.Rule, some_list (rule_tables ls a.rules)) ∷ (key.Master, master_given a.protocol a.master) ∷ (key.Station, Some (integer (pos a.station)))
    ∷ (key.Protocol, Some (string (protocol_text a.protocol))) ∷ (key.Port, Some (integer (pos a.endpoint.port)))
    ∷ (key.Address, Some (string (dotted a.endpoint.address))) ∷ (key.Name, Some (string a.name)) ∷ []

master_put : (own : Protocol) (n : ℕ) (ms : Members) → with_master own n ms ≡ put key.Master (master_given own n) ms
master_put Modbus n ms = refl
master_put Dnp3 n ms = refl
master_put Iec104 n ms = refl

pub asset_built : (ls : List (List Span)) (a : Asset) → asset_table ls a ≡ built (asset_given ls a)
asset_built ls a =
    let front : Members =
    with_key key.Station (integer (pos a.station)) (with_key key.Protocol (string (protocol_text a.protocol)) (with_key key.Port (integer (pos a.endpoint.port))
    (with_key key.Address (string (dotted a.endpoint.address)) (with_key key.Name (string a.name) no_members)))) in
    list_step key.Rule (rule_tables ls a.rules) (master_put a.protocol a.master front)

-- so it is of each rule of an asset
abbrev pub HasKnownRules : Edition → List (List Span) → Asset → Type 0
HasKnownRules e ls a = All (HasKnownKeys e ls) a.rules

module _ (e : Edition) (marks : NamesSets e) (ls : List (List Span)) (few : length ls ≤ 64) where
  asset_read : (n : ℕ) (seen : List Asset) (a : Asset) → HasKnownRules e ls a → IsAssetWithin a → list_any (λ b. bytes_eq b.name a.name) seen ≡ false
      → MayFollow e seen a → asset (naming e ls) n seen (asset_table ls a) ≡ Ok a
  asset_read n seen a rules_known h free follows =
      let p : Place = at_asset n in
      let gs : List Given = asset_given ls a in
      let ms : Members = built gs in
      let known : has_other asset_keys (built (asset_given ls a)) ≡ false = has_no_other asset_keys (asset_given ls a) refl in
      ap (asset (naming e ls) n seen) (asset_built ls a)
      ∙ rw known
      (and_then_ok (asset_name p seen ms) _ a.name (Ok a) (asset_name_read p seen ms a.name (stated_at key.Name gs refl) h.name free)
      (and_then_ok (endpoint e p seen ms) _ a.endpoint (Ok a)
      (endpoint_read e p seen ms a.endpoint h.address h.some_port h.port (stated_at key.Address gs refl) (stated_at key.Port gs refl) follows.port)
      (and_then_ok (protocol p seen a.endpoint ms) _ a.protocol (Ok a) (protocol_read e p seen a ms follows (stated_at key.Protocol gs refl))
      (and_then_ok (station a.protocol p seen a.endpoint ms) _ a.station (Ok a)
      (station_read e p seen a ms follows (stated_at key.Station gs refl) h.station_above h.station_below)
      (and_then_ok (master a.protocol p ms) _ a.master (Ok a) (master_read a.protocol p ms a.master (stated_at key.Master gs refl) h.master)
      (and_then_ok (rules (naming e ls) a.protocol n ms) _ a.rules (Ok a) (rules_read e marks ls few a.protocol n ms a.rules rules_known h.rules (stated_at key.Rule gs refl)) refl))))))

  -- ---- the assets of a document

  pub assets_read : (own : List Asset) → All (HasKnownRules e ls) own → AreAssetsWithin own
      → ((before : List Asset) (a : Asset) (after : List Asset) → own ≡ before ++ (a ∷ after) → MayFollow e before a)
      → assets_from (naming e ls) 0 (asset_tables ls own) [] ≡ Ok own
  assets_read own known h follows =
      tables_read key.Asset at_document (asset (naming e ls)) (asset_table ls) own
      (λ n before a after is.
      asset_read n before a (middle (HasKnownRules e ls) before a after (subst (All (HasKnownRules e ls)) is known)) (middle IsAssetWithin before a after (subst (All IsAssetWithin) is h.each))
      (none_before (λ (b : Asset). b.name) before a after (subst (AllPairs (λ b c. b.name ≢ c.name)) is h.names))
      (follows before a after is))
      0 [] own refl
