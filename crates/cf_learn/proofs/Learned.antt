-- Assets with learned rules, one by one.
use Rattle.std.proofs.Common.{◌≡◌, cond, ℕ, zero, suc, ◌+◌, ◌<◌, ◌≤◌, List, [], ◌∷◌, ◌++◌, length, take, drop, get_or, refl, sym, ap, subst, ◌∙◌, arith, append_assoc}
use Rattle.std.specs.Prelude.{All, Contains}
use Rattle.std.proofs.lemmas.Int.{ints}
use Rattle.std.proofs.lemmas.List.{length-take-le, take_all, take_more, take-append-drop}
use Rattle.std.proofs.lemmas.List.Elements.{All-contains_itself, All-from_recursion, All-weaker}
use Rattle.std.proofs.lemmas.List.Sums.{sum_by-cons}
use Rattle.std.specs.List.{AllByRecursion}
use Rattle.cf_acts.proofs.Ranges.{act_within, values_settled}
use Rattle.cf_acts.specs.Commands.{IsOfCommand}
use Rattle.cf_policy.specs.declared.Asset.{Asset}
use Rattle.cf_policy.specs.declared.Rule.{Rule}
use Rattle.cf_policy.specs.AtEndpoint.{count_at}
use Rattle.cf_policy.specs.Within.{AreAssetsWithin, AreRulesWithin, IsAssetWithin, most_at_site}
use Rattle.cf_view.specs.Endpoints.{same_endpoint}
use Rattle.cf_view.specs.declared.Endpoint.{Endpoint}
use Rattle.cf_policy.proofs.FirstRule.{allows_by_first}
use Rattle.cf_view.specs.declared.Act.{Act}
use Rattle.cf_watch.specs.FlowValue.{FlowValue}
use Rattle.cf_learn.specs.declared.seen.Seen.{Seen}
use Rattle.cf_learn.specs.Assets.{AreLearned, AreSeen, IsFirstTooMany, IsLearnedAsset, LearnsTooMany, with_rules}
use Rattle.cf_learn.specs.Greatest.{IsGrouped}
use Rattle.cf_learn.specs.Rules.{AreLearnedFrom}
use Rattle.cf_learn.specs.Seen.{AllowsSeen, IsSeenWithin, SettlesValue, act_of}
use Rattle.cf_learn.specs.Shown.{site_place}

module _ (asset : Asset) (place : ℕ) (flows : List FlowValue) (seen : List Seen) (are : AreSeen asset place flows seen) where
  settled : (act : Act) → IsOfCommand asset.protocol act → SettlesValue seen act
  settled act of s here code group = values_settled asset.protocol (act_of s) act (are.of_commands s.kind.client (act_of s) here) of code group

  one_within : (s : Seen) → Contains seen s → IsSeenWithin s
  one_within s here =
      let w = act_within asset.protocol (act_of s) (are.of_commands s.kind.client (act_of s) here) in
      record {
        address = let small = are.clients s.kind.client (act_of s) here in omega (arith, ints, small);
        code = w.code;
        group = w.group;
        point = w.point;
        value = w.value;
      }

  all_within : All IsSeenWithin seen
  all_within = All-weaker (Contains seen) IsSeenWithin one_within seen (All-contains_itself seen)

  pub learned_with : (rules : List Rule) → IsAssetWithin asset → AreLearnedFrom seen rules → AllowsSeen seen rules → IsGrouped rules → (All IsSeenWithin seen → AreRulesWithin rules)
      → IsLearnedAsset asset place flows (with_rules asset rules)
  learned_with rules inside from allows grouped within = record {
    same = refl;
    seen = seen;
    are_seen = are;
    rules = from;
    grouped = grouped;
    within = record {
      name = inside.name;
      address = inside.address;
      some_port = inside.some_port;
      port = inside.port;
      station_above = inside.station_above;
      station_below = inside.station_below;
      master = inside.master;
      rules = within all_within;
    };
    exact = λ client act of.
        let by = allows_by_first (with_rules asset rules) client act in
        let say = allows.exact client act (settled act of) in
        let shown = are.exactly client act in
        (λ h. shown.0 (say.0 (by.0 h)), λ h. by.1 (say.1 (shown.1 h)));
  }

pub learned_more : (flows : List FlowValue) (all assets learned : List Asset) (asset one : Asset) → AreLearned flows all assets learned
    → IsLearnedAsset asset (site_place all asset) flows one → AreLearned flows all (assets ++ asset ∷ []) (learned ++ one ∷ [])
learned_more flows all [] [] asset one are is = (is, tt)
learned_more flows all [] (x ∷ learned) asset one are is = absurd are
learned_more flows all (a ∷ assets) [] asset one are is = absurd are
learned_more flows all (a ∷ assets) (x ∷ learned) asset one are is = (are.0, learned_more flows all assets learned asset one are.1 is)

taken : (assets : List Asset) (i : ℕ) → i < length assets → length (take i assets) ≡ i
taken assets i lt = length-take-le i assets (omega (arith, lt))

learned_step : (flows : List FlowValue) (all assets learned after : List Asset) (i : ℕ) (d one : Asset) → i < length assets → AreLearned flows all (take i assets) learned
    → IsLearnedAsset (get_or assets i d) (site_place all (get_or assets i d)) flows one → after ≡ learned ++ one ∷ [] → AreLearned flows all (take (i + 1) assets) after
learned_step flows all assets learned after i d one lt are is e =
    let more = learned_more flows all (take i assets) learned (get_or assets i d) one are is in
    subst (λ l. AreLearned flows all (take (i + 1) assets) l) (sym e) (subst (λ l. AreLearned flows all l (learned ++ one ∷ [])) (sym (take_more assets i d lt)) more)

-- the same over items that are lent, the assets of the policy
module _ (flows : List FlowValue) (items assets learned : List Asset) (i : ℕ) (asset : Asset) (same : items ≡ assets) (lt : i < length items) (here : asset ≡ get_or items i asset)
    (are : AreLearned flows assets (take i assets) learned) where
  in_place : asset ≡ get_or assets i asset
  in_place = here ∙ ap (λ l. get_or l i asset) same

  pub learned_lent : (after : List Asset) (one : Asset) → IsLearnedAsset asset (site_place assets asset) flows one → after ≡ learned ++ one ∷ [] →
      AreLearned flows assets (take (i + 1) assets) after
  learned_lent after one is e =
      learned_step flows assets assets learned after i asset one (subst (λ l. i < length l) same lt) are
      (subst (λ a. IsLearnedAsset a (site_place assets a) flows one) in_place is) e

  pub stops_here : LearnsTooMany asset (site_place assets asset) flows → IsFirstTooMany flows assets i
  stops_here many =
      let inside : i < length assets = subst (λ l. i < length l) same lt in
      record {
        earlier = take i assets;
        asset = asset;
        later = drop (i + 1) assets;
        here = sym (take-append-drop (i + 1) assets) ∙ (ap (λ l. l ++ drop (i + 1) assets) (take_more assets i asset inside ∙ ap (λ a. take i assets ++ a ∷ []) (sym in_place))
            ∙ append_assoc (take i assets) (asset ∷ []) (drop (i + 1) assets));
        at = taken assets i inside;
        many = many;
        learned = learned;
        are_learned = are;
      }

pub all_learned : (flows : List FlowValue) (items assets learned : List Asset) (i : ℕ) → items ≡ assets → length items ≤ i → AreLearned flows assets (take i assets) learned →
    AreLearned flows assets assets learned
all_learned flows items assets learned i same past are = subst (λ l. AreLearned flows assets l learned) (take_all i assets (subst (λ l. length l ≤ i) same past)) are

-- the same but for their rules
abbrev IsAlike : Asset → Asset → Type 0
IsAlike a b = (a.name ≡ b.name) × (a.endpoint ≡ b.endpoint) × (a.protocol ≡ b.protocol) × (a.station ≡ b.station)

-- as many assets, each within the limits, and the same but for their rules as those at their places
kept : (flows : List FlowValue) (all assets learned : List Asset) → AreLearned flows all assets learned
    → (length learned ≡ length assets) × AllByRecursion IsAssetWithin learned
    × ((i : ℕ) (d : Asset) → i < length assets → IsAlike (get_or learned i d) (get_or assets i d))
kept flows all [] [] are = (refl, tt, λ i d lt. absurd (omega (arith, lt)))
kept flows all [] (x ∷ learned) are = absurd are
kept flows all (a ∷ assets) [] are = absurd are
kept flows all (a ∷ assets) (x ∷ learned) are =
    let more = kept flows all assets learned are.1 in (ap suc more.0, (are.0.within, more.1), at more.2)
  where
    at : ((i : ℕ) (d : Asset) → i < length assets → IsAlike (get_or learned i d) (get_or assets i d))
        → (i : ℕ) (d : Asset) → i < suc (length assets) → IsAlike (get_or (x ∷ learned) i d) (get_or (a ∷ assets) i d)
    at later zero d lt = (
      ap (λ (b : Asset). b.name) are.0.same,
      ap (λ (b : Asset). b.endpoint) are.0.same,
      ap (λ (b : Asset). b.protocol) are.0.same,
      ap (λ (b : Asset). b.station) are.0.same,
    )
    at later (suc i) d lt = later i d (omega (arith, lt))

-- as many at each endpoint
count_kept : (flows : List FlowValue) (all assets learned : List Asset) → AreLearned flows all assets learned → (e : Endpoint) → count_at learned e ≡ count_at assets e
count_kept flows all [] [] are e = refl
count_kept flows all [] (x ∷ learned) are e = absurd are
count_kept flows all (a ∷ assets) [] are e = absurd are
count_kept flows all (a ∷ assets) (x ∷ learned) are e =
    let one : Asset → ℕ = (λ b. cond (same_endpoint b.endpoint e) 1 0) in
    let same : x.endpoint ≡ a.endpoint = ap (λ (b : Asset). b.endpoint) are.0.same in
    sum_by-cons one x learned
    ∙ ap (λ (p : Endpoint). cond (same_endpoint p e) 1 0 + count_at learned e) same
    ∙ ap (λ n. one a + n) (count_kept flows all assets learned are.1 e)
    ∙ sym (sum_by-cons one a assets)

pub learned_within : (flows : List FlowValue) (assets learned : List Asset) → AreAssetsWithin assets → AreLearned flows assets assets learned → AreAssetsWithin learned
learned_within flows assets learned within are =
    let all = kept flows assets assets learned are in
    let size = all.0 in
    let alike = all.2 in
    record {
      count = let count = within.count in omega (arith, size, count);
      each = All-from_recursion IsAssetWithin learned all.1;
      names = λ i j d lt inside e.
          let in_j : j < length assets = omega (arith, inside, size) in
          within.names i j d lt in_j (sym (alike i d (omega (arith, lt, in_j))).0 ∙ (e ∙ (alike j d in_j).0));
      shared = λ i j d lt inside e.
          let in_j : j < length assets = omega (arith, inside, size) in
          let a = alike i d (omega (arith, lt, in_j)) in
          let b = alike j d in_j in
          let may = within.shared i j d lt in_j (sym a.1 ∙ (e ∙ b.1)) in
          (a.2 ∙ may.0 ∙ sym b.2, λ station. may.1 (sym a.3 ∙ (station ∙ b.3)));
      together = λ i j k d lt low inside e.
          let in_k : k < length assets = omega (arith, inside, size) in
          let a = alike i d (omega (arith, lt, low, in_k)) in
          let b = alike j d (omega (arith, low, in_k)) in
          let c = alike k d in_k in
          b.1 ∙ (within.together i j k d lt low in_k (sym a.1 ∙ (e ∙ c.1)) ∙ sym c.1);
      few = λ k d inside.
          let in_k : k < length assets = omega (arith, inside, size) in
          let a = alike k d in_k in
          let few = within.few k d in_k in
          let count : count_at learned (get_or learned k d).endpoint ≡ count_at assets (get_or assets k d).endpoint =
          count_kept flows assets assets learned are (get_or learned k d).endpoint ∙ ap (count_at assets) a.1 in
          subst (λ p. count_at learned (get_or learned k d).endpoint ≤ most_at_site p) (sym a.2) (subst (λ n. n ≤ most_at_site (get_or assets k d).protocol) (sym count) few);
    }
