-- Rules that were written are read as they were.
use Rattle.std.proofs.Common.{◌≡◌, ◌≢◌, ◌∙◌, ℕ, ◌+◌, ◌≤◌, nat_le, ℤ, pos, ◌≤ℤ◌, int_le, Bool, true, false, cond, List, [], ◌∷◌, ◌++◌, length, Option, Some, None, is_some, option_map, Ok, ap, subst, refl, arith, w64, FitsSigned, bytes_eq, AllPairs}
use Rattle.std.specs.List.{All, list_any}
use Rattle.std.proofs.lemmas.Bool.Decides.{nat_tests}
use Rattle.std.proofs.lemmas.Int.{ints}
use Rattle.std.proofs.lemmas.List.Sums.{sum_by-append, sum_by-cons}
use Rattle.std.specs.Fmt.{signed_decimal}
use Rattle.toml.specs.Data.{Data, array, boolean, string, integer, table, Members, no_members}
use Rattle.cf_policy.specs.declared.policy.Protocol.{Protocol}
use Rattle.cf_policy.specs.declared.policy.Action.{Action}
use Rattle.cf_policy.specs.declared.policy.Action.TheVariants.{Allow, Refuse}
use Rattle.cf_policy.specs.declared.policy.Rate.{Rate}
use Rattle.cf_policy.specs.declared.policy.Rule.{Rule}
use Rattle.cf_policy.specs.declared.policy.Span.{Span}
use Rattle.cf_policy.specs.Names.{is_name, is_reserved}
use Rattle.cf_policy.specs.Within.{AreRulesWithin, AreSpansWithin, HasLogWithin, HasRateWithin, IsRuleWithin, IsSpanWithin, highest_address, highest_code, highest_group, highest_most, highest_value, longest_rate, lowest_value, most_rated, rated_count}
use Rattle.cf_policylang.specs.declared.fields.Kind.TheVariants as kind
use Rattle.cf_policylang.specs.declared.lists.Entries.TheVariants as entries
use Rattle.cf_policylang.specs.declared.refusal.Cause.TheVariants as cause
use Rattle.cf_policylang.specs.declared.refusal.Key.{Key}
use Rattle.cf_policylang.specs.declared.refusal.Key.TheVariants as key
use Rattle.cf_policylang.specs.declared.refusal.Place.{Place}
use Rattle.cf_policylang.specs.Fields.{has_other, name, stated}
use Rattle.cf_policylang.specs.Lists.{code_span, entry, group_end, spans, spans_if_any}
use Rattle.cf_policylang.specs.Logs.{log, log_if_any}
use Rattle.cf_policylang.specs.Rates.{rate, rate_number}
use Rattle.cf_policylang.specs.declared.rules.RuleLists.{RuleLists}
use Rattle.cf_policylang.specs.declared.sets.Edition.{Edition}
use Rattle.cf_policylang.specs.declared.sets.Edition.TheVariants as edition
use Rattle.cf_policylang.specs.Rules.{action, client_spans, code_entries, code_spans, group_spans, rule, rule_items, rule_keys, rule_lists, rule_name, rules, value_spans}
use Rattle.cf_policylang.specs.Sets.{points_if_any, rule_points}
use Rattle.cf_policylang.specs.Spelling.{action_text, address_text, number_text, numbers, point_items, rule_table, rule_tables, texts, with_key, with_list, with_log, with_rate}
use Rattle.cf_policylang.specs.Tested.{at_asset, at_rule, or_refused}
use Rattle.cf_policylang.proofs.AddressesBack.{addresses_read}
use Rattle.cf_policylang.proofs.ListsBack.{and_then_ok, few_read, list_step, some_list, spans_if_any_read, spans_read, tables_read}
use Rattle.cf_policylang.proofs.Middles.{middle, none_before}
use Rattle.cf_policylang.proofs.PointsBack.{NamesSets, naming, points_read}
use Rattle.cf_policylang.proofs.Ranges.{IsCode}
use Rattle.cf_policylang.proofs.ReadBack.{in_range_read, inside, span_by_read, span_read}
use Rattle.cf_policylang.proofs.SetsBack.{name_read}
use Rattle.cf_policylang.proofs.Stated.{Given, built, has_no_other, put, stated_at}

-- ---- the lists of a rule

numbers_read : (low high : ℤ) (k : Key) (p : Place) → FitsSigned w64 low → FitsSigned w64 high → (s : Span) → IsSpanWithin low high s
    → entry (entries.Numbers low high) k p (string (number_text s)) ≡ Ok s
numbers_read low high k p l h s w = ap (or_refused cause.BadRange k p) (span_read low high s l h w)

one_code : (s : Span) → s.low ≡ s.high → ◌≡◌ {A = Option Span} (Some (record { low = s.low; high = s.low })) (Some s)
one_code s single = ap (λ z. Some (record { low = s.low; high = z })) single

code_read : (k : Key) (p : Place) (s : Span) → IsCode s → entry entries.Codes k p (integer s.low) ≡ Ok s
code_read k p s w =
    let range = w.range in
    let below : s.low ≤ℤ highest_code = (let o = range.ordered in let b = range.below in omega (arith, ints)) in
    let itself : int_le s.low s.low ≡ true = grind (arith, ints) in
    let read : code_span s.low ≡ Some s = rw (inside (pos 0) highest_code s.low range.above below, itself) (one_code s w.single) in
    ap (or_refused cause.BadRange k p) read

are_codes : (ss : List Span) → All (IsSpanWithin (pos 0) highest_code) ss → All (λ s. s.low ≡ s.high) ss → All IsCode ss
are_codes ss each single i d lt = record { range = each i d lt; single = single i d lt }

-- a version that names codes reads their numbers the same way
code_list_read : (e : Edition) (protocol : Protocol) (p : Place) (ss : List Span) → 1 ≤ length ss → length ss ≤ 64 → All IsCode ss
    → spans (code_entries e protocol) key.Codes p (array (numbers ss)) ≡ Ok ss
code_list_read edition.First protocol p ss some few h =
    spans_read entries.Codes key.Codes p (λ t. integer t.low) IsCode (λ t. refl) (code_read key.Codes p) ss some few h
code_list_read edition.Second protocol p ss some few h =
    spans_read entries.Codes key.Codes p (λ t. integer t.low) IsCode (λ t. refl) (code_read key.Codes p) ss some few h
code_list_read edition.Third protocol p ss some few h =
    spans_read (entries.NamedCodes protocol) key.Codes p (λ t. integer t.low) IsCode (λ t. refl) (code_read key.Codes p) ss some few h

codes_read : (e : Edition) (protocol : Protocol) (p : Place) (ms : Members) (ss : List Span) → 1 ≤ length ss → length ss ≤ 64 → All IsCode ss
    → stated key.Codes ms ≡ some_list (numbers ss) → code_spans e protocol p ms ≡ Ok ss
codes_read version protocol p ms [] some few h e = absurd (omega arith)
codes_read version protocol p ms (s ∷ ss) some few h e = rw e (code_list_read version protocol p (s ∷ ss) some few h)

clients_read : (p : Place) (ms : Members) (ss : List Span) → AreSpansWithin (pos 0) highest_address ss → stated key.Clients ms ≡ some_list (texts address_text ss)
    → client_spans p ms ≡ Ok ss
clients_read p ms ss h e =
    ap (spans_if_any entries.Addresses key.Clients p) e
    ∙ spans_if_any_read entries.Addresses key.Clients p (λ s. string (address_text s)) (IsSpanWithin (pos 0) highest_address) (λ s. refl)
    (addresses_read key.Clients p) ss h.count h.each

ranges_read : (low high : ℤ) (k : Key) (p : Place) (o : Option Data) (ss : List Span) → FitsSigned w64 low → FitsSigned w64 high → AreSpansWithin low high ss
    → o ≡ some_list (texts number_text ss) → spans_if_any (entries.Numbers low high) k p o ≡ Ok ss
ranges_read low high k p o ss l g h e =
    ap (spans_if_any (entries.Numbers low high) k p) e
    ∙ spans_if_any_read (entries.Numbers low high) k p (λ s. string (number_text s)) (IsSpanWithin low high) (λ s. refl)
    (numbers_read low high k p l g) ss h.count h.each

group_end_read : (protocol : Protocol) (z : ℤ) → FitsSigned w64 z → pos 0 ≤ℤ z → z ≤ℤ highest_group → group_end protocol (signed_decimal z) ≡ Some z
group_end_read protocol z f above below = rw (in_range_read (pos 0) highest_group z f above below) refl

group_read : (protocol : Protocol) (k : Key) (p : Place) (s : Span) → IsSpanWithin (pos 0) highest_group s
    → entry (entries.NamedGroups protocol) k p (string (number_text s)) ≡ Ok s
group_read protocol k p s w =
    ap (or_refused cause.BadRange k p)
    (span_by_read (pos 0) highest_group (group_end protocol) (group_end_read protocol) s (record { sfits = omega arith }) (record { sfits = omega arith }) w)

plain_groups_read : (p : Place) (o : Option Data) (ss : List Span) → AreSpansWithin (pos 0) highest_group ss → o ≡ some_list (texts number_text ss)
    → spans_if_any (entries.Numbers (pos 0) highest_group) key.Groups p o ≡ Ok ss
plain_groups_read p o ss h e = ranges_read (pos 0) highest_group key.Groups p o ss (record { sfits = omega arith }) (record { sfits = omega arith }) h e

groups_read : (e : Edition) (protocol : Protocol) (p : Place) (ms : Members) (ss : List Span) → AreSpansWithin (pos 0) highest_group ss
    → stated key.Groups ms ≡ some_list (texts number_text ss) → group_spans e protocol p ms ≡ Ok ss
groups_read edition.First protocol p ms ss h e = plain_groups_read p (stated key.Groups ms) ss h e
groups_read edition.Second protocol p ms ss h e = plain_groups_read p (stated key.Groups ms) ss h e
groups_read edition.Third protocol p ms ss h e =
    ap (spans_if_any (entries.NamedGroups protocol) key.Groups p) e
    ∙ spans_if_any_read (entries.NamedGroups protocol) key.Groups p (λ s. string (number_text s)) (IsSpanWithin (pos 0) highest_group) (λ s. refl)
    (group_read protocol key.Groups p) ss h.count h.each

-- ---- the rest of a rule

action_read : (p : Place) (ms : Members) (a : Action) → stated key.Action ms ≡ Some (string (action_text a)) → action p ms ≡ Ok a
action_read p ms Allow e = rw e refl
action_read p ms Refuse e = rw e refl

rate_number_read : (k : Key) (high : ℕ) (p : Place) (ms : Members) (n : ℕ) → stated k ms ≡ Some (integer (pos n)) → 1 ≤ n → n ≤ high
    → rate_number k high Allow p ms ≡ Ok n
rate_number_read k high p ms n e some most =
    let above : nat_le 1 n ≡ true = grind (arith, nat_tests) in
    let below : nat_le n high ≡ true = grind (arith, nat_tests) in
    rw (e, above, below) refl

abbrev pub most_given : Option Rate → Option Data
most_given own = option_map (λ r. integer (pos r.most)) own

abbrev pub seconds_given : Option Rate → Option Data
seconds_given own = option_map (λ r. integer (pos r.seconds)) own

rate_read : (p : Place) (seen : List Rule) (a : Action) (ms : Members) (own : Option Rate) → HasRateWithin a own
    → rated_count seen + cond (is_some own) 1 0 ≤ most_rated → stated key.Most ms ≡ most_given own → stated key.Seconds ms ≡ seconds_given own
    → rate p seen a ms ≡ Ok own
rate_read p seen a ms None h room m s = rw (m, s) refl
rate_read p seen Refuse ms (Some r) h room m s = absurd h
rate_read p seen Allow ms (Some r) h room m s =
    let not_many : nat_le most_rated (rated_count seen) ≡ false = grind (arith, nat_tests) in
    let states : is_some (stated key.Most ms) ≡ true = rw m refl in
    rw states
    (and_then_ok (rate_number key.Most highest_most Allow p ms) _ r.most (Ok (Some r)) (rate_number_read key.Most highest_most p ms r.most m h.some h.most)
    (rw not_many
    (and_then_ok (rate_number key.Seconds longest_rate Allow p ms) _ r.seconds (Ok (Some r))
    (rate_number_read key.Seconds longest_rate p ms r.seconds s h.some_time h.seconds) refl)))

-- ---- a rule

abbrev pub log_given : Bool → Option Data
log_given false = None
log_given true = Some (boolean true)

log_put : (own : Bool) (ms : Members) → with_log own ms ≡ put key.Log (log_given own) ms
log_put false ms = refl
log_put true ms = refl

log_read : (a : Action) (p : Place) (o : Option Data) (own : Bool) → HasLogWithin a own → o ≡ log_given own → log_if_any a p o ≡ Ok own
log_read a p o false h e = rw e refl
log_read Allow p o true h e = rw e refl
log_read Refuse p o true h e = absurd h

-- what versions 1 and 2 can state of it
abbrev pub plain_given : List (List Span) → Rule → List Given
plain_given ls r =
    (key.Seconds, seconds_given r.rate) ∷ (key.Most, most_given r.rate) ∷ (key.Values, some_list (texts number_text r.values))
    ∷ (key.Points, some_list (point_items ls r.points)) ∷ (key.Groups, some_list (texts number_text r.groups)) ∷ (key.Codes, some_list (numbers r.codes))
    ∷ (key.Clients, some_list (texts address_text r.clients)) ∷ (key.Action, Some (string (action_text r.action))) ∷ (key.Name, Some (string r.name)) ∷ []

abbrev pub rule_given : List (List Span) → Rule → List Given
rule_given ls r = (key.Log, log_given r.log) ∷ plain_given ls r

rate_step : (own : Option Rate) {ms more : Members} → ms ≡ more → with_rate own ms ≡ put key.Seconds (seconds_given own) (put key.Most (most_given own) more)
rate_step None e = e
rate_step (Some r) e = ap (λ ms. with_key key.Seconds (integer (pos r.seconds)) (with_key key.Most (integer (pos r.most)) ms)) e

pub rule_built : (ls : List (List Span)) (r : Rule) → rule_table ls r ≡ built (rule_given ls r)
rule_built ls r =
    let front : Members = with_key key.Action (string (action_text r.action)) (with_key key.Name (string r.name) no_members) in
    log_put r.log (with_rate r.rate (with_list key.Values (texts number_text r.values) (with_list key.Points (point_items ls r.points)
    (with_list key.Groups (texts number_text r.groups) (with_list key.Codes (numbers r.codes) (with_list key.Clients (texts address_text r.clients) front))))))
    ∙ ap (put key.Log (log_given r.log)) (rate_step r.rate (list_step key.Values (texts number_text r.values) (list_step key.Points (point_items ls r.points)
    (list_step key.Groups (texts number_text r.groups) (list_step key.Codes (numbers r.codes)
    (list_step key.Clients (texts address_text r.clients) (let same : front ≡ front = refl in same)))))))

-- a rule's table has no key that a version does not have
abbrev pub HasKnownKeys : Edition → List (List Span) → Rule → Type 0
HasKnownKeys e ls r = has_other (rule_keys e) (built (rule_given ls r)) ≡ false

pub known_in_third : (ls : List (List Span)) (r : Rule) → HasKnownKeys edition.Third ls r
known_in_third ls r = has_no_other (rule_keys edition.Third) (rule_given ls r) refl

pub known_in_second : (ls : List (List Span)) (r : Rule) → r.log ≡ false → HasKnownKeys edition.Second ls r
known_in_second ls r none = ap (λ b. has_other (rule_keys edition.Second) (put key.Log (log_given b) (built (plain_given ls r)))) none
    ∙ has_no_other (rule_keys edition.Second) (plain_given ls r) refl

abbrev lists_in : Rule → RuleLists
lists_in r = record { clients = r.clients; codes = r.codes; groups = r.groups; points = r.points; values = r.values }

rule_name_read : (p : Place) (seen : List Rule) (ms : Members) (text : List ℕ) → stated key.Name ms ≡ Some (string text) → is_name text ≡ true
    → is_reserved text ≡ false → list_any (λ s. bytes_eq s.name text) seen ≡ false → rule_name p seen ms ≡ Ok text
rule_name_read p seen ms text e form own free =
    and_then_ok (name p ms) _ text (Ok text) (name_read p ms text e form) (rw (own, free) refl)

module _ (e : Edition) (marks : NamesSets e) (ls : List (List Span)) (few : length ls ≤ 64) where
  rule_lists_read : (protocol : Protocol) (p : Place) (r : Rule) → IsRuleWithin r
      → rule_lists (naming e ls) protocol p (built (rule_given ls r)) ≡ Ok (lists_in r)
  rule_lists_read protocol p r h =
      let gs : List Given = rule_given ls r in
      let ms : Members = built gs in
      and_then_ok (client_spans p ms) _ r.clients (Ok (lists_in r)) (clients_read p ms r.clients h.clients (stated_at key.Clients gs refl))
      (and_then_ok (code_spans e protocol p ms) _ r.codes (Ok (lists_in r))
      (codes_read e protocol p ms r.codes h.some_code h.codes.count (are_codes r.codes h.codes.each h.single_codes) (stated_at key.Codes gs refl))
      (and_then_ok (group_spans e protocol p ms) _ r.groups (Ok (lists_in r)) (groups_read e protocol p ms r.groups h.groups (stated_at key.Groups gs refl))
      (and_then_ok (rule_points (naming e ls) p ms) _ r.points (Ok (lists_in r))
      (ap (points_if_any (naming e ls) p) (stated_at key.Points gs refl) ∙ points_read e marks ls few p r.points h.points.count h.points.each)
      (and_then_ok (value_spans p ms) _ r.values (Ok (lists_in r))
      (ranges_read lowest_value highest_value key.Values p (stated key.Values ms) r.values (record { sfits = omega arith }) (record { sfits = omega arith }) h.values (stated_at key.Values gs refl)) refl))))

  rule_read : (protocol : Protocol) (p : Place) (seen : List Rule) (r : Rule) → HasKnownKeys e ls r → IsRuleWithin r → list_any (λ s. bytes_eq s.name r.name) seen ≡ false
      → rated_count seen + cond (is_some r.rate) 1 0 ≤ most_rated → rule (naming e ls) protocol p seen (rule_table ls r) ≡ Ok r
  rule_read protocol p seen r known h free room =
      let gs : List Given = rule_given ls r in
      let ms : Members = built gs in
      ap (rule (naming e ls) protocol p seen) (rule_built ls r)
      ∙ rw known
      (and_then_ok (rule_name p seen ms) _ r.name (Ok r) (rule_name_read p seen ms r.name (stated_at key.Name gs refl) h.name h.own free)
      (and_then_ok (action p ms) _ r.action (Ok r) (action_read p ms r.action (stated_at key.Action gs refl))
      (and_then_ok (rule_lists (naming e ls) protocol p ms) _ (lists_in r) (Ok r) (rule_lists_read protocol p r h)
      (and_then_ok (rate p seen r.action ms) _ r.rate (Ok r)
      (rate_read p seen r.action ms r.rate h.rate room (stated_at key.Most gs refl) (stated_at key.Seconds gs refl))
      (and_then_ok (log r.action p ms) _ r.log (Ok r) (log_read r.action p (stated key.Log ms) r.log h.log (stated_at key.Log gs refl)) refl)))))

  -- ---- the rules of an asset

  few_rated : (before : List Rule) (r : Rule) (after : List Rule) → rated_count (before ++ (r ∷ after)) ≤ most_rated
      → rated_count before + cond (is_some r.rate) 1 0 ≤ most_rated
  few_rated before r after h =
      let rated : Rule → ℕ = λ s. cond (is_some s.rate) 1 0 in
      omega (arith, h, sum_by-append (λ (s : Rule). cond (is_some s.rate) 1 0) before (r ∷ after), sum_by-cons (λ (s : Rule). cond (is_some s.rate) 1 0) r after)

  rule_items_read : (p : Place) (rs : List Rule) → length rs ≤ 1024 → rule_items p (some_list (rule_tables ls rs)) ≡ Ok (rule_tables ls rs)
  rule_items_read p [] short = refl
  rule_items_read p (r ∷ rs) short = few_read (λ (s : Rule). table (rule_table ls s)) kind.Table key.Rule p 1024 (λ s. refl) (r ∷ rs) short

  pub rules_read : (protocol : Protocol) (a : ℕ) (ms : Members) (rs : List Rule) → All (HasKnownKeys e ls) rs → AreRulesWithin rs → stated key.Rule ms ≡ some_list (rule_tables ls rs) → rules (naming e ls) protocol a ms ≡ Ok rs
  rules_read protocol a ms rs known h stands =
      and_then_ok (rule_items (at_asset a) (stated key.Rule ms)) _ (rule_tables ls rs) (Ok rs)
      (ap (rule_items (at_asset a)) stands ∙ rule_items_read (at_asset a) rs h.count)
      (tables_read key.Rule (at_asset a) (λ m. rule (naming e ls) protocol (at_rule a m)) (rule_table ls) rs
      (λ n before r after is.
      rule_read protocol (at_rule a n) before r (middle (HasKnownKeys e ls) before r after (subst (All (HasKnownKeys e ls)) is known)) (middle IsRuleWithin before r after (subst (All IsRuleWithin) is h.each))
      (none_before (λ (s : Rule). s.name) before r after (subst (AllPairs (λ s t. s.name ≢ t.name)) is h.names))
      (few_rated before r after (subst (λ xs. rated_count xs ≤ most_rated) is h.rated)))
      0 [] rs refl)
