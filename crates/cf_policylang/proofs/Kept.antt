-- What a policy that was read keeps: names apart, assets of one endpoint as a site, and every number in its range.
use Rattle.std.proofs.Common.{◌≡◌, ◌≢◌, ℕ, ◌+◌, ◌<◌, ◌≤◌, nat_lt, ℤ, pos, Bool, true, false, if◌then◌else◌, List, [], ◌∷◌, ◌++◌, length, Option, Some, None, Result, Ok, Err, IfOk, is_some, not, cond, nat_le, bytes_eq, sym, subst, ◌∙◌, refl, arith, length-append}
use Rattle.std.specs.List.{All, AllPairs, list_any}
use Rattle.std.proofs.lemmas.Bool.{leb-false, or_parts, true≢false}
use Rattle.std.proofs.lemmas.Bool.Decides.{nat_tests}
use Rattle.std.proofs.lemmas.List.Elements.{All-nil, All-push, All-weaker}
use Rattle.std.proofs.lemmas.List.Quantifiers.{all_pairs_push}
use Rattle.std.proofs.lemmas.List.Sums.{sum_by-append}
use Rattle.std.proofs.lemmas.Result.{IfOk-at_ok, IfOk-weaker}
use Rattle.std.proofs.lemmas.Slice.Eq.{bytes_eq-Decides}
use Rattle.toml.specs.Data.{boolean, Data, Items, no_items, item, Members}
use Rattle.cf_view.specs.declared.base.Endpoint.{Endpoint}
use Rattle.cf_policy.specs.declared.policy.Asset.{Asset}
use Rattle.cf_policy.specs.declared.policy.Policy.{Policy}
use Rattle.cf_policy.specs.declared.policy.Protocol.{Protocol}
use Rattle.cf_policy.specs.declared.policy.Protocol.TheVariants.{Modbus, Dnp3, Iec104}
use Rattle.cf_policy.specs.declared.policy.Action.{Action}
use Rattle.cf_policy.specs.declared.policy.Action.TheVariants.{Allow, Refuse}
use Rattle.cf_policy.specs.declared.policy.Rate.{Rate}
use Rattle.cf_policy.specs.declared.policy.Rule.{Rule}
use Rattle.cf_policy.specs.declared.policy.Span.{Span}
use Rattle.cf_policy.specs.Names.{is_name, is_reserved}
use Rattle.cf_policy.specs.Within.{HasLogWithin, HasRateWithin, IsRateWithin, IsSpanWithin, AreSpansWithin, IsRuleWithin, AreRulesWithin, IsAssetWithin, IsWithin, MayShare, lowest_station, highest_station, highest_master, highest_address, highest_code, highest_group, highest_point, lowest_value, highest_value, highest_most, longest_rate, most_at_site, most_rated, rated_count}
use Rattle.cf_policylang.specs.declared.fields.Kind.TheVariants as kind
use Rattle.cf_policylang.specs.declared.lists.Entries.TheVariants as entries
use Rattle.cf_policylang.specs.declared.refusal.Key.{Key}
use Rattle.cf_policylang.specs.declared.refusal.Key.TheVariants as key
use Rattle.cf_policylang.specs.declared.refusal.Cause.TheVariants as cause
use Rattle.cf_policylang.specs.declared.refusal.Place.{Place}
use Rattle.cf_policylang.specs.declared.refusal.PolicyFault.{PolicyFault}
use Rattle.cf_policylang.specs.declared.refusal.PolicyRefusal.{PolicyRefusal}
use Rattle.cf_policylang.specs.Tested.{Answers, Tested, or_refused, at_asset, at_document, at_rule}
use Rattle.cf_policylang.specs.Assets.{asset, asset_keys, asset_name, assets_from, asset_address, endpoint, is_asset_taken, master, no_master, number_at, protocol, station, stated_protocol}
use Rattle.cf_policylang.specs.Sites.{is_endpoint_barred, is_protocol_barred, is_site_full, is_station_taken}
use Rattle.cf_policy.specs.AtEndpoint.{count_at}
use Rattle.cf_policylang.specs.Documents.{document, document_keys, asset_items, text_meaning, toml_of, version}
use Rattle.cf_policylang.specs.Fields.{as_flag, name, as_text, as_number, as_table, as_array_of, count, has_other, required, stated, number_in, tables_from}
use Rattle.cf_policylang.specs.Numbers.{address}
use Rattle.cf_policylang.specs.Logs.{log, log_if_any}
use Rattle.cf_policylang.specs.Rates.{rate, rate_number, rate_value, states_rate}
use Rattle.cf_policylang.specs.declared.sets.Edition.{Edition}
use Rattle.cf_policylang.specs.declared.sets.Edition.TheVariants as edition
use Rattle.cf_policylang.specs.Lists.{optional_spans, spans}
use Rattle.cf_policylang.specs.Rules.{rule, rule_keys, rule_lists, rule_name, action, is_rule_taken, client_spans, code_entries, code_spans, group_spans, value_spans, rule_items, rules, rules_from}
use Rattle.cf_policylang.specs.declared.rules.RuleLists.{RuleLists}
use Rattle.cf_policylang.specs.declared.sets.Named.{Named}
use Rattle.cf_policylang.specs.Sets.{rule_points, sets}
use Rattle.cf_policylang.proofs.SitesKept.{AreSites, Joins, joins_by, no_sites, none_passes, protocols_by, sites_more, stations_by}
use Rattle.cf_policylang.proofs.SetsKept.{IsSetWithin, rule_points_if, sets_if}
use Rattle.cf_policylang.proofs.Ranges.{and_then_if, and_then_any, unless_if, or_refused_if, IsNaturalIn, number_in_if, address_if, IsCode, AreRead as AreSpansRead, address_entry_if, code_entry_if, group_entry_if, named_code_entry_if, number_entry_if, spans_if, optional_spans_if}

-- ---- names

-- a value that comes only where a test passes
ok_if : {A : Type 0} (P : A → Type 0) (b : Bool) (x : A) (r : PolicyRefusal) → (b ≡ true → P x) → IfOk (if b then Ok x else Err r) P
ok_if P true x r h = h refl
ok_if P false x r h = tt

differ : (s t : List ℕ) → bytes_eq s t ≡ false → s ≢ t
differ s t e same = true≢false (sym ((bytes_eq-Decides s t).1 same) ∙ e)

name_if : (p : Place) (ms : Members) → IfOk (name p ms) (λ text. is_name text ≡ true)
name_if p ms =
    and_then_any (λ text. is_name text ≡ true) (required key.Name p ms) _
    (λ d. and_then_any (λ text. is_name text ≡ true) (as_text key.Name p d) _
    (λ text. ok_if (λ t. is_name t ≡ true) (is_name text) text _ (λ e. e)))

-- ---- lists that are read in order

-- what was read so far, n in number: each keeps Each, and each is apart from those after it
record AreRead (n : ℕ) {X : Type 0} (Each : X → Type 0) (Apart : X → X → Type 0) (Also : List X → Type 0) (xs : List X) : Type 0 where
  count : length xs ≡ n
  each : All Each xs
  apart : AllPairs Apart xs
  also : Also xs

-- what comes after those that were read
record IsNext {X : Type 0} (Each : X → Type 0) (Apart : X → X → Type 0) (Also : List X → Type 0) (seen : List X) (x : X) : Type 0 where
  within : Each x
  apart : All (λ y. Apart y x) seen
  also : Also seen → Also (seen ++ x ∷ [])

module _ {X : Type 0} (Each : X → Type 0) (Apart : X → X → Type 0) (Also : List X → Type 0) where
  none_read : Also [] → AreRead 0 Each Apart Also []
  none_read h = record { count = refl; each = All-nil Each; apart = λ i j d lt inside. absurd (omega arith); also = h }

  one_more : (n : ℕ) (xs : List X) (x : X) → AreRead n Each Apart Also xs → IsNext Each Apart Also xs x → AreRead (n + 1) Each Apart Also (xs ++ x ∷ [])
  one_more n xs x h next =
      record {
        count = let long = h.count in omega (arith, length-append xs (x ∷ []));
        each = All-push Each xs x h.each next.within;
        apart = all_pairs_push Apart xs x h.apart next.apart;
        also = next.also h.also;
      }

  module _ (k : Key) (p : Place) (read : ℕ → List X → Members → Tested X)
      (keeps : (n : ℕ) (seen : List X) (ms : Members) → IfOk (read n seen ms) (IsNext Each Apart Also seen)) where
    tables_from_if : (n : ℕ) (ds : Items) (seen : List X) → AreRead n Each Apart Also seen
        → IfOk (tables_from k p read n ds seen) (AreRead (n + count ds) Each Apart Also)
    tables_from_if n no_items seen h = record { count = let long = h.count in omega arith; each = h.each; apart = h.apart; also = h.also }
    tables_from_if n (item d ds) seen h =
        and_then_any (AreRead (n + (1 + count ds)) Each Apart Also) (as_table k p d) _
        (λ ms. and_then_if (IsNext Each Apart Also seen) (AreRead (n + (1 + count ds)) Each Apart Also) (read (n + 1) seen ms) _ (keeps (n + 1) seen ms)
        (λ x next. IfOk-weaker (tables_from k p read (n + 1) ds (seen ++ x ∷ [])) (AreRead ((n + 1) + count ds) Each Apart Also) (AreRead (n + (1 + count ds)) Each Apart Also)
        (λ xs g. record { count = let long = g.count in omega arith; each = g.each; apart = g.apart; also = g.also })
        (tables_from_if (n + 1) ds (seen ++ x ∷ []) (one_more n seen x h next))))

-- ---- rules

record IsRuleName (seen : List Rule) (text : List ℕ) : Type 0 where
  form : is_name text ≡ true
  own : is_reserved text ≡ false
  apart : All (λ r. r.name ≢ text) seen

rule_name_if : (p : Place) (seen : List Rule) (ms : Members) → IfOk (rule_name p seen ms) (IsRuleName seen)
rule_name_if p seen ms =
    and_then_if (λ text. is_name text ≡ true) (IsRuleName seen) (name p ms) _ (name_if p ms)
    (λ text form. unless_if (IsRuleName seen) (is_rule_taken seen text) _ _
    (λ e. let parts = or_parts (is_reserved text) (list_any (λ r. bytes_eq r.name text) seen) e in
    record {
      form = form;
      own = parts.0;
      apart = All-weaker (λ r. bytes_eq r.name text ≡ false) (λ r. r.name ≢ text) (λ r. differ r.name text) seen
          (none_passes (λ r. bytes_eq r.name text) seen parts.1);
    }))

-- a list that is read keeps the range of its numbers
are_within : (low high : ℤ) (n : ℕ) (ss : List Span) → AreSpansRead (IsSpanWithin low high) n ss → AreSpansWithin low high ss
are_within low high n ss h = record { count = h.count; each = h.each }

-- no more rules have a rate than may
abbrev AreFewRated : List Rule → Type 0
AreFewRated rules = rated_count rules ≤ most_rated

abbrev IsNextRule : List Rule → Rule → Type 0
IsNextRule = IsNext IsRuleWithin (λ r s. r.name ≢ s.name) AreFewRated

-- the number of rated rules rises by one with one that has a rate
rated-more : (seen : List Rule) (r : Rule) → rated_count (seen ++ r ∷ []) ≡ rated_count seen + (0 + cond (is_some r.rate) 1 0)
rated-more seen r = sum_by-append (λ s. cond (is_some s.rate) 1 0) seen (r ∷ [])

rate_number_if : (k : Key) (high : ℕ) (a : Action) (p : Place) (ms : Members) → IfOk (rate_number k high a p ms) (λ n. (a ≡ Allow) × IsNaturalIn 1 high n)
rate_number_if k high Allow p ms =
    and_then_any (λ n. (Allow ≡ Allow) × IsNaturalIn 1 high n) (rate_value k Allow p ms) _
    (λ d. and_then_any (λ n. (Allow ≡ Allow) × IsNaturalIn 1 high n) (as_number k p d) _
    (λ z. IfOk-weaker (or_refused cause.BadRange k p (number_in 1 high z)) (IsNaturalIn 1 high) (λ n. (Allow ≡ Allow) × IsNaturalIn 1 high n) (λ n h. (refl, h))
    (or_refused_if (IsNaturalIn 1 high) cause.BadRange k p (number_in 1 high z) (number_in_if 1 high z))))
rate_number_if k high Refuse p ms =
    and_then_if (λ d. ⊥) (λ n. (Refuse ≡ Allow) × IsNaturalIn 1 high n) (rate_value k Refuse p ms) _
    (and_then_any (λ d. ⊥) (required k p ms) _ (λ d. tt))
    (λ d h. absurd h)

-- a rate that was read is one of an allow rule, and with it no more rules have a rate than may
record IsRateRead (seen : List Rule) (a : Action) (own : Option Rate) : Type 0 where
  within : HasRateWithin a own
  few : rated_count seen ≤ most_rated → rated_count seen + (0 + cond (is_some own) 1 0) ≤ most_rated

rate_within : (a : Action) (own : Rate) → a ≡ Allow → IsRateWithin own → HasRateWithin a (Some own)
rate_within Allow own is h = h
rate_within Refuse own is h = cc

either_if : {A : Type 0} (Q : A → Type 0) (b : Bool) (x : A) (t : Tested A) → Q x → IfOk t Q → IfOk (if b then Ok x else t) Q
either_if Q true x t h g = h
either_if Q false x t h g = g

rate_if : (p : Place) (seen : List Rule) (a : Action) (ms : Members) → IfOk (rate p seen a ms) (IsRateRead seen a)
rate_if p seen a ms =
    either_if (IsRateRead seen a) (not (states_rate ms)) None _ (record { within = tt; few = λ h. omega (arith, h) })
    (and_then_if (λ n. (a ≡ Allow) × IsNaturalIn 1 highest_most n) (IsRateRead seen a) (rate_number key.Most highest_most a p ms) _ (rate_number_if key.Most highest_most a p ms)
    (λ most m. unless_if (IsRateRead seen a) (nat_le most_rated (rated_count seen)) _ _
    (λ room. and_then_if (λ n. (a ≡ Allow) × IsNaturalIn 1 longest_rate n) (IsRateRead seen a) (rate_number key.Seconds longest_rate a p ms) _ (rate_number_if key.Seconds longest_rate a p ms)
    (λ seconds s. record {
      within = rate_within a _ m.0 (record { some = m.1.above; most = m.1.below; some_time = s.1.above; seconds = s.1.below });
      few = λ h. (let under = leb-false most_rated (rated_count seen) room in omega (arith, under));
    }))))

-- a log that was read is one of an allow rule
log_of_allow : (own : Bool) → HasLogWithin Allow own
log_of_allow false = tt
log_of_allow true = tt

flag_if : (k : Key) (p : Place) (d : Data) → IfOk (as_flag k p d) (HasLogWithin Allow)
flag_if k p (boolean b) = log_of_allow b
flag_if k p d = tt

log_if : (a : Action) (p : Place) (o : Option Data) → IfOk (log_if_any a p o) (HasLogWithin a)
log_if a p None = tt
log_if Allow p (Some d) = flag_if key.Log p d
log_if Refuse p (Some d) = tt

code_spans_if : (e : Edition) (protocol : Protocol) (p : Place) (ms : Members) → IfOk (code_spans e protocol p ms) (AreSpansRead IsCode 1)
code_spans_if e protocol p ms = and_then_any (AreSpansRead IsCode 1) (required key.Codes p ms) _ (λ d. each e d)
  where
    each : (e : Edition) (d : Data) → IfOk (spans (code_entries e protocol) key.Codes p d) (AreSpansRead IsCode 1)
    each edition.First d = spans_if IsCode entries.Codes key.Codes p (code_entry_if key.Codes p) d
    each edition.Second d = spans_if IsCode entries.Codes key.Codes p (code_entry_if key.Codes p) d
    each edition.Third d = spans_if IsCode (entries.NamedCodes protocol) key.Codes p (named_code_entry_if protocol key.Codes p) d

abbrev AreGroups : List Span → Type 0
AreGroups = AreSpansRead (IsSpanWithin (pos 0) highest_group) 0

plain_groups_if : (p : Place) (ms : Members) → IfOk (optional_spans (entries.Numbers (pos 0) highest_group) key.Groups p ms) AreGroups
plain_groups_if p ms =
    optional_spans_if (IsSpanWithin (pos 0) highest_group) (entries.Numbers (pos 0) highest_group) key.Groups p (number_entry_if (pos 0) highest_group key.Groups p) ms

group_spans_if : (e : Edition) (protocol : Protocol) (p : Place) (ms : Members) → IfOk (group_spans e protocol p ms) AreGroups
group_spans_if edition.First protocol p ms = plain_groups_if p ms
group_spans_if edition.Second protocol p ms = plain_groups_if p ms
group_spans_if edition.Third protocol p ms =
    optional_spans_if (IsSpanWithin (pos 0) highest_group) (entries.NamedGroups protocol) key.Groups p (group_entry_if protocol key.Groups p) ms

-- the lists of a rule that were read
abbrev AreListsRead : RuleLists → Type 0
AreListsRead l = record {
  clients : AreSpansRead (IsSpanWithin (pos 0) highest_address) 0 l.clients;
  codes : AreSpansRead IsCode 1 l.codes;
  groups : AreGroups l.groups;
  points : AreSpansRead (IsSpanWithin (pos 0) highest_point) 0 l.points;
  values : AreSpansRead (IsSpanWithin lowest_value highest_value) 0 l.values;
}

rule_lists_if : (named : Named) → All IsSetWithin named.sets → (protocol : Protocol) (p : Place) (ms : Members)
    → IfOk (rule_lists named protocol p ms) AreListsRead
rule_lists_if named kept protocol p ms =
    and_then_if (AreSpansRead (IsSpanWithin (pos 0) highest_address) 0) AreListsRead (client_spans p ms) _
    (optional_spans_if (IsSpanWithin (pos 0) highest_address) entries.Addresses key.Clients p (address_entry_if key.Clients p) ms)
    (λ own_clients cl. and_then_if (AreSpansRead IsCode 1) AreListsRead (code_spans named.edition protocol p ms) _ (code_spans_if named.edition protocol p ms)
    (λ own_codes co. and_then_if AreGroups AreListsRead (group_spans named.edition protocol p ms) _ (group_spans_if named.edition protocol p ms)
    (λ own_groups gr. and_then_if (AreSpansRead (IsSpanWithin (pos 0) highest_point) 0) AreListsRead (rule_points named p ms) _
    (rule_points_if named kept p ms)
    (λ own_points po. and_then_if (AreSpansRead (IsSpanWithin lowest_value highest_value) 0) AreListsRead (value_spans p ms) _
    (optional_spans_if (IsSpanWithin lowest_value highest_value) (entries.Numbers lowest_value highest_value) key.Values p (number_entry_if lowest_value highest_value key.Values p) ms)
    (λ own_values va. record { clients = cl; codes = co; groups = gr; points = po; values = va })))))

rule_if : (named : Named) → All IsSetWithin named.sets → (protocol : Protocol) (p : Place) (seen : List Rule) (ms : Members)
    → IfOk (rule named protocol p seen ms) (IsNextRule seen)
rule_if named kept protocol p seen ms =
    unless_if (IsNextRule seen) (has_other (rule_keys named.edition) ms) _ _
    (λ _. and_then_if (IsRuleName seen) (IsNextRule seen) (rule_name p seen ms) _ (rule_name_if p seen ms)
    (λ own_name n. and_then_any (IsNextRule seen) (action p ms) _
    (λ own_action. and_then_if AreListsRead (IsNextRule seen) (rule_lists named protocol p ms) _ (rule_lists_if named kept protocol p ms)
    (λ lists are. and_then_if (IsRateRead seen own_action) (IsNextRule seen) (rate p seen own_action ms) _ (rate_if p seen own_action ms)
    (λ own_rate ra. and_then_if (HasLogWithin own_action) (IsNextRule seen) (log own_action p ms) _ (log_if own_action p (stated key.Log ms))
    (λ own_log lo. record {
      within = record {
        name = n.form;
        own = n.own;
        clients = are_within (pos 0) highest_address 0 lists.clients are.clients;
        codes = record { count = are.codes.count; each = All-weaker IsCode (IsSpanWithin (pos 0) highest_code) (λ s h. h.range) lists.codes are.codes.each };
        single_codes = All-weaker IsCode (λ s. s.low ≡ s.high) (λ s h. h.single) lists.codes are.codes.each;
        some_code = are.codes.some;
        groups = are_within (pos 0) highest_group 0 lists.groups are.groups;
        points = are_within (pos 0) highest_point 0 lists.points are.points;
        values = are_within lowest_value highest_value 0 lists.values are.values;
        rate = ra.within;
        log = lo;
      };
      apart = n.apart;
      also = λ few. subst (λ n. n ≤ most_rated) (sym (rated-more seen _)) (ra.few few);
    }))))))

rule_items_if : (p : Place) (o : Option Data) → IfOk (rule_items p o) (λ ds. count ds ≤ 1024)
rule_items_if p None = omega arith
rule_items_if p (Some d) =
    and_then_any (λ ds. count ds ≤ 1024) (as_array_of kind.Table key.Rule p d) _
    (λ ds. unless_if (λ es. count es ≤ 1024) (nat_lt 1024 (count ds)) _ _ (λ e. grind (arith, nat_tests)))

rules_if : (named : Named) → All IsSetWithin named.sets → (protocol : Protocol) (a : ℕ) (ms : Members) → IfOk (rules named protocol a ms) AreRulesWithin
rules_if named kept protocol a ms =
    and_then_if (λ ds. count ds ≤ 1024) AreRulesWithin (rule_items (at_asset a) (stated key.Rule ms)) _ (rule_items_if (at_asset a) (stated key.Rule ms))
    (λ ds short. IfOk-weaker (rules_from named protocol a 0 ds []) (AreRead (0 + count ds) IsRuleWithin (λ r s. r.name ≢ s.name) AreFewRated) AreRulesWithin
    (λ rs h. record { count = let long = h.count in omega arith; each = h.each; names = h.apart; rated = h.also })
    (tables_from_if IsRuleWithin (λ r s. r.name ≢ s.name) AreFewRated key.Rule (at_asset a) (λ m. rule named protocol (at_rule a m))
    (λ m. rule_if named kept protocol (at_rule a m)) 0 ds [] (none_read IsRuleWithin (λ r s. r.name ≢ s.name) AreFewRated (omega arith))))

-- ---- assets

record IsAssetName (seen : List Asset) (text : List ℕ) : Type 0 where
  form : is_name text ≡ true
  apart : All (λ a. a.name ≢ text) seen

asset_name_if : (p : Place) (seen : List Asset) (ms : Members) → IfOk (asset_name p seen ms) (IsAssetName seen)
asset_name_if p seen ms =
    and_then_if (λ text. is_name text ≡ true) (IsAssetName seen) (name p ms) _ (name_if p ms)
    (λ text form. unless_if (IsAssetName seen) (is_asset_taken seen text) _ _
    (λ e. record {
      form = form;
      apart = All-weaker (λ a. bytes_eq a.name text ≡ false) (λ a. a.name ≢ text) (λ a. differ a.name text) seen
          (none_passes (λ a. bytes_eq a.name text) seen e);
    }))

number_at_if : (k : Key) (low high : ℕ) (p : Place) (ms : Members) → IfOk (number_at k low high p ms) (IsNaturalIn low high)
number_at_if k low high p ms =
    and_then_any (IsNaturalIn low high) (required k p ms) _
    (λ d. and_then_any (IsNaturalIn low high) (as_number k p d) _
    (λ z. or_refused_if (IsNaturalIn low high) cause.BadRange k p (number_in low high z) (number_in_if low high z)))

asset_address_if : (p : Place) (ms : Members) → IfOk (asset_address p ms) (λ n. n ≤ 4294967295)
asset_address_if p ms =
    and_then_any (λ n. n ≤ 4294967295) (required key.Address p ms) _
    (λ d. and_then_any (λ n. n ≤ 4294967295) (as_text key.Address p d) _
    (λ text. or_refused_if (λ n. n ≤ 4294967295) cause.BadAddress key.Address p (address text) (address_if text)))

record IsAssetEndpoint (seen : List Asset) (e : Endpoint) : Type 0 where
  address : e.address ≤ 4294967295
  port : IsNaturalIn 1 65535 e.port
  joins : Joins seen e

endpoint_if : (own : Edition) (p : Place) (seen : List Asset) (ms : Members) → IfOk (endpoint own p seen ms) (IsAssetEndpoint seen)
endpoint_if own p seen ms =
    and_then_if (λ n. n ≤ 4294967295) (IsAssetEndpoint seen) (asset_address p ms) _ (asset_address_if p ms)
    (λ own_address fit. and_then_if (IsNaturalIn 1 65535) (IsAssetEndpoint seen) (number_at key.Port 1 65535 p ms) _ (number_at_if key.Port 1 65535 p ms)
    (λ own_port range.
    let e : Endpoint = record { address = own_address; port = own_port } in
    unless_if (IsAssetEndpoint seen) (is_endpoint_barred own seen e) _ _
    (λ free. record { address = fit; port = range; joins = joins_by own seen e free })))

record IsAssetProtocol (seen : List Asset) (e : Endpoint) (own : Protocol) : Type 0 where
  same : All (λ a. a.endpoint ≡ e → a.protocol ≡ own) seen
  room : count_at seen e < most_at_site own

protocol_if : (p : Place) (seen : List Asset) (e : Endpoint) (ms : Members) → IfOk (protocol p seen e ms) (IsAssetProtocol seen e)
protocol_if p seen e ms =
    and_then_any (IsAssetProtocol seen e) (stated_protocol p ms) _
    (λ own. unless_if (IsAssetProtocol seen e) (is_protocol_barred seen e own) _ _
    (λ alike. unless_if (IsAssetProtocol seen e) (is_site_full seen e own) _ _
    (λ few. record { same = protocols_by seen e own alike; room = leb-false (most_at_site own) (count_at seen e) few })))

record IsAssetStation (own : Protocol) (seen : List Asset) (e : Endpoint) (n : ℕ) : Type 0 where
  range : IsNaturalIn (lowest_station own) (highest_station own) n
  apart : All (λ a. a.endpoint ≡ e → a.station ≢ n) seen

station_if : (own : Protocol) (p : Place) (seen : List Asset) (e : Endpoint) (ms : Members) → IfOk (station own p seen e ms) (IsAssetStation own seen e)
station_if own p seen e ms =
    and_then_if (IsNaturalIn (lowest_station own) (highest_station own)) (IsAssetStation own seen e) (number_at key.Station (lowest_station own) (highest_station own) p ms) _
    (number_at_if key.Station (lowest_station own) (highest_station own) p ms)
    (λ n range. unless_if (IsAssetStation own seen e) (is_station_taken seen e n) _ _
    (λ free. record { range = range; apart = stations_by seen e n free }))

no_master_if : (p : Place) (ms : Members) → IfOk (no_master p ms) (λ n. n ≤ 0)
no_master_if p ms = unless_if (λ n. n ≤ 0) (is_some (stated key.Master ms)) _ _ (λ _. omega arith)

master_if : (protocol : Protocol) (p : Place) (ms : Members) → IfOk (master protocol p ms) (λ n. n ≤ highest_master protocol)
master_if Modbus p ms = no_master_if p ms
master_if Dnp3 p ms =
    IfOk-weaker (number_at key.Master 0 65519 p ms) (IsNaturalIn 0 65519) (λ n. n ≤ 65519) (λ n h. h.below) (number_at_if key.Master 0 65519 p ms)
master_if Iec104 p ms = no_master_if p ms

-- two assets have different names, and are of one site where they have one endpoint
abbrev AreApart : Asset → Asset → Type 0
AreApart a b = (a.name ≢ b.name) × MayShare a b

abbrev IsNextAsset : List Asset → Asset → Type 0
IsNextAsset = IsNext IsAssetWithin AreApart AreSites

asset_if : (named : Named) → All IsSetWithin named.sets → (n : ℕ) (seen : List Asset) (ms : Members) → IfOk (asset named n seen ms) (IsNextAsset seen)
asset_if named kept n seen ms =
    let p = at_asset n in
    unless_if (IsNextAsset seen) (has_other asset_keys ms) _ _
    (λ _. and_then_if (IsAssetName seen) (IsNextAsset seen) (asset_name p seen ms) _ (asset_name_if p seen ms)
    (λ own_name na. and_then_if (IsAssetEndpoint seen) (IsNextAsset seen) (endpoint named.edition p seen ms) _ (endpoint_if named.edition p seen ms)
    (λ own_endpoint en. and_then_if (IsAssetProtocol seen own_endpoint) (IsNextAsset seen) (protocol p seen own_endpoint ms) _ (protocol_if p seen own_endpoint ms)
    (λ own_protocol pr. and_then_if (IsAssetStation own_protocol seen own_endpoint) (IsNextAsset seen) (station own_protocol p seen own_endpoint ms) _
    (station_if own_protocol p seen own_endpoint ms)
    (λ own_station st. and_then_if (λ n. n ≤ highest_master own_protocol) (IsNextAsset seen) (master own_protocol p ms) _ (master_if own_protocol p ms)
    (λ own_master ma. and_then_if AreRulesWithin (IsNextAsset seen) (rules named own_protocol n ms) _ (rules_if named kept own_protocol n ms)
    (λ own_rules ru. record {
      within = record {
        name = na.form;
        address = let fit = en.address in omega arith;
        some_port = en.port.above;
        port = let below = en.port.below in omega arith;
        station_above = st.range.above;
        station_below = st.range.below;
        master = ma;
        rules = ru;
      };
      apart = λ i d lt. (na.apart i d lt, λ is. (pr.same i d lt is, st.apart i d lt is));
      also = λ h. sites_more seen _ h en.joins pr.same pr.room;
    })))))))

-- ---- documents

asset_items_if : (ms : Members) → IfOk (asset_items ms) (λ ds. count ds ≤ 256)
asset_items_if ms =
    and_then_any (λ ds. count ds ≤ 256) (required key.Asset at_document ms) _
    (λ d. and_then_any (λ ds. count ds ≤ 256) (as_array_of kind.Table key.Asset at_document d) _
    (λ ds. unless_if (λ es. count es ≤ 256) (nat_lt 256 (count ds)) _ _ (λ e. grind (arith, nat_tests))))

document_if : (ms : Members) → IfOk (document ms) IsWithin
document_if ms =
    and_then_any IsWithin (version ms) _
    (λ own_edition. unless_if IsWithin (has_other (document_keys own_edition) ms) _ _
    (λ _. and_then_if (All IsSetWithin) IsWithin (sets ms) _ (sets_if ms)
    (λ own_sets kept. let named : Named = record { edition = own_edition; sets = own_sets } in and_then_if (λ ds. count ds ≤ 256) IsWithin (asset_items ms) _ (asset_items_if ms)
    (λ ds short. and_then_if (AreRead (0 + count ds) IsAssetWithin AreApart AreSites) IsWithin (assets_from named 0 ds []) _
    (tables_from_if IsAssetWithin AreApart AreSites key.Asset at_document (asset named) (asset_if named kept) 0 ds [] (none_read IsAssetWithin AreApart AreSites no_sites))
    (λ xs h. record {
      count = let long = h.count in omega arith;
      each = h.each;
      names = λ i j d lt inside. (h.apart i j d lt inside).0;
      shared = λ i j d lt inside. (h.apart i j d lt inside).1;
      together = h.also.together;
      few = h.also.few;
    })))))

meaning_if : (bytes : List ℕ) → IfOk (text_meaning bytes) IsWithin
meaning_if bytes = and_then_any IsWithin (or_refused cause.NotToml key.Nothing at_document (toml_of bytes)) _ document_if

-- a call that answers a policy's meaning answers one within its ranges
pub answer_within : (bytes : List ℕ) (r : Result Policy PolicyFault) → Answers (λ p. p) (text_meaning bytes) r → IfOk r IsWithin
answer_within bytes (Ok p) h = IfOk-at_ok IsWithin h (meaning_if bytes)
answer_within bytes (Err e) h = tt
