-- Assets of one endpoint that were written are read as they were: each may follow those before it.
use Rattle.std.proofs.Common.{◌≡◌, ◌≢◌, ◌∙◌, ℕ, ◌+◌, ◌-◌, ◌<◌, ◌≤◌, inl, inr, ◌==◌, nat_eq, zero, suc, Bool, true, false, not, cond, ◌&&◌, List, [], ◌∷◌, ◌++◌, length, get_or, ap, refl, subst, sym, arith, length-append}
use Rattle.std.specs.List.{All, list_any, sum_by}
use Rattle.std.specs.Option.{option_map_or}
use Rattle.std.proofs.lemmas.Bool.{and_left, and_right, cases_Bool, eqb-false, eqb-true, false_from_ne_true, false≢true, not_from_true, or_cases, or_from, or_parts}
use Rattle.std.proofs.lemmas.Bool.Decides.{nat_tests}
use Rattle.std.proofs.lemmas.List.{get_or_append_left, get_or_at}
use Rattle.std.proofs.lemmas.List.Folds.{list_any-append, list_any_none}
use Rattle.std.proofs.lemmas.List.Sums.{sum_by-append}
use Rattle.std.proofs.lemmas.Option.{slice_get-get_or}
use Rattle.cf_view.specs.declared.base.Endpoint.{Endpoint}
use Rattle.cf_view.specs.Endpoints.{same_endpoint}
use Rattle.cf_policy.specs.declared.policy.Asset.{Asset}
use Rattle.cf_policy.specs.declared.policy.Protocol.{Protocol}
use Rattle.cf_policy.specs.declared.policy.Protocol.TheVariants.{Modbus, Dnp3, Iec104}
use Rattle.cf_policy.specs.AtEndpoint.{count_at, has_asset_at}
use Rattle.cf_policy.specs.Within.{AreAssetsWithin, MayShare, most_at_site}
use Rattle.cf_policylang.specs.declared.sets.Edition.{Edition}
use Rattle.cf_policylang.specs.declared.sets.Edition.TheVariants as edition
use Rattle.cf_policylang.specs.Migrating.{has_site}
use Rattle.cf_policylang.specs.Sites.{is_endpoint_barred, is_last_at, is_protocol_barred, is_site_full, is_station_taken, same_protocol, some_at}
use Rattle.cf_policylang.proofs.Middles.{middle, pairs_before}
use Rattle.cf_policylang.proofs.SitesKept.{endpoint_is, endpoints_differ, is_same, same_itself}

-- nothing that was read at its endpoint bars the asset
pub record MayFollow (e : Edition) (seen : List Asset) (a : Asset) : Type 0 where
  pub port : is_endpoint_barred e seen a.endpoint ≡ false
  pub protocol : is_protocol_barred seen a.endpoint a.protocol ≡ false
  pub room : is_site_full seen a.endpoint a.protocol ≡ false
  pub station : is_station_taken seen a.endpoint a.station ≡ false

-- where each asset of the endpoint fails, none passes
fails_with : (e : Endpoint) (test : Asset → Bool) (a : Asset) (b : Bool) → same_endpoint a.endpoint e ≡ b → (a.endpoint ≡ e → test a ≡ false) → (same_endpoint a.endpoint e && test a) ≡ false
fails_with e test a true is fails = and_right (same_endpoint a.endpoint e) (test a) (fails (endpoint_is a.endpoint e is))
fails_with e test a false is fails = and_left (same_endpoint a.endpoint e) (test a) is

pub none_at : (seen : List Asset) (e : Endpoint) (test : Asset → Bool) → All (λ a. a.endpoint ≡ e → test a ≡ false) seen → some_at seen e test ≡ false
none_at seen e test h =
    list_any_none (λ (a : Asset). same_endpoint a.endpoint e && test a) seen
    (λ i d lt. fails_with e test (get_or seen i d) (same_endpoint (get_or seen i d).endpoint e) refl (h i d lt))

protocol_self : (p : Protocol) → same_protocol p p ≡ true
protocol_self Modbus = refl
protocol_self Dnp3 = refl
protocol_self Iec104 = refl

-- one that passes has a place
found : {X : Type 0} (p : X → Bool) (xs : List X) → list_any p xs ≡ true → (i : ℕ) × (i < length xs) × ((d : X) → p (get_or xs i d) ≡ true)
found p [] e = absurd (false≢true e)
found p (x ∷ xs) e =
    elim (or_cases (p x) (list_any p xs) e) [
      | inl here ↦ (zero, omega arith, λ d. here)
      | inr later ↦ let more = found p xs later in (suc more.0, omega (arith, more.1), λ d. more.2 d)
    ]

module _ (before : List Asset) (a : Asset) (after : List Asset) (h : AreAssetsWithin (before ++ (a ∷ after))) where
  abbrev own : List Asset
  own = before ++ (a ∷ after)

  earlier : All (λ b. MayShare b a) before
  earlier = pairs_before MayShare before a after h.shared

  no_other_protocol : is_protocol_barred before a.endpoint a.protocol ≡ false
  no_other_protocol =
      none_at before a.endpoint (λ (b : Asset). not (same_protocol b.protocol a.protocol))
      (λ i d lt is. ap (λ p. not (same_protocol p a.protocol)) (earlier i d lt is).0 ∙ ap not (protocol_self a.protocol))

  no_same_station : is_station_taken before a.endpoint a.station ≡ false
  no_same_station =
      none_at before a.endpoint (λ (b : Asset). nat_eq b.station a.station)
      (λ i d lt is. false_from_ne_true (nat_eq (get_or before i d).station a.station) (λ same. (earlier i d lt is).1 (eqb-true (get_or before i d).station a.station same)))

  has_room : is_site_full before a.endpoint a.protocol ≡ false
  has_room =
      let one : Asset → ℕ = λ (b : Asset). cond (same_endpoint b.endpoint a.endpoint) 1 0 in
      let all : count_at own a.endpoint ≤ most_at_site a.protocol = middle (λ (b : Asset). count_at own b.endpoint ≤ most_at_site b.protocol) before a after h.few in
      let parts : count_at own a.endpoint ≡ count_at before a.endpoint + sum_by one (a ∷ after) = sum_by-append one before (a ∷ after) in
      let rest : sum_by one (a ∷ after) ≡ (0 + cond (same_endpoint a.endpoint a.endpoint) 1 0) + sum_by one after = sum_by-append one (a ∷ []) after in
      let self : (0 + cond (same_endpoint a.endpoint a.endpoint) 1 0) ≡ 1 = ap (λ b. 0 + cond b 1 0) (same_itself a.endpoint) in
      let below : count_at before a.endpoint < most_at_site a.protocol = omega (arith, all, parts, rest, self) in
      grind (arith, nat_tests)

  abbrev at : ℕ → Asset → Endpoint
  at i d = (get_or before i d).endpoint

  -- where an earlier asset has its endpoint, the one before it has it
  right_before : (i : ℕ) → i < length before → at i a ≡ a.endpoint → at (length before - 1) a ≡ a.endpoint
  right_before i lt is =
      elim (cases_Bool (i == length before - 1)) [
        | inl here ↦ subst (λ n. at n a ≡ a.endpoint) (eqb-true i (length before - 1) here) is
        | inr sooner ↦
            let ne : i ≢ length before - 1 = eqb-false i (length before - 1) sooner in
            let last : ℕ = length before - 1 in
            let in_last : length before - 1 < length before = omega (arith, lt) in
            let old_i : (get_or own i a).endpoint ≡ at i a = ap (λ (b : Asset). b.endpoint) (get_or_append_left before (a ∷ after) a i lt) in
            let old_last : (get_or own (length before - 1) a).endpoint ≡ at (length before - 1) a =
            ap (λ (b : Asset). b.endpoint) (get_or_append_left before (a ∷ after) a (length before - 1) in_last) in
            let here : (get_or own (length before) a).endpoint ≡ a.endpoint = ap (λ (b : Asset). b.endpoint) (get_or_at before a after a (length before) refl) in
            sym old_last
            ∙ (h.together i (length before - 1) (length before) a (omega (arith, lt, ne)) in_last (omega (arith, length-append before (a ∷ after)))
            (old_i ∙ (is ∙ sym here)) ∙ here)
      ]

  last_has : (i : ℕ) → i < length before → at i a ≡ a.endpoint → is_last_at before a.endpoint ≡ true
  last_has i lt is =
      ap (λ o. option_map_or (λ (b : Asset). same_endpoint b.endpoint a.endpoint) o false) (slice_get-get_or before (length before - 1) a (omega (arith, lt)))
      ∙ is_same (at (length before - 1) a) a.endpoint (right_before i lt is)

  free_by : (b : Bool) → has_asset_at before a.endpoint ≡ b → is_endpoint_barred edition.Third before a.endpoint ≡ false
  free_by false none = and_left (has_asset_at before a.endpoint) (not (is_last_at before a.endpoint)) none
  free_by true some =
      let one = found (λ (b : Asset). same_endpoint b.endpoint a.endpoint) before some in
      and_right (has_asset_at before a.endpoint) (not (is_last_at before a.endpoint))
      (not_from_true (is_last_at before a.endpoint) (last_has one.0 one.1 (endpoint_is (at one.0 a) a.endpoint (one.2 a))))

  pub in_third : MayFollow edition.Third before a
  in_third = record { port = free_by (has_asset_at before a.endpoint) refl; protocol = no_other_protocol; room = has_room; station = no_same_station }

-- ---- version 2

swapped : (d e : Endpoint) → same_endpoint d e ≡ false → same_endpoint e d ≡ false
swapped d e other = false_from_ne_true (same_endpoint e d) (λ same. endpoints_differ d e other (sym (endpoint_is e d same)))

free_in_second : (before : List Asset) (a : Asset) (after : List Asset) → has_site (before ++ (a ∷ after)) ≡ false → has_asset_at before a.endpoint ≡ false
free_in_second [] a after none = refl
free_in_second (b ∷ before) a after none =
    let parts = or_parts (has_asset_at (before ++ (a ∷ after)) b.endpoint) (has_site (before ++ (a ∷ after))) none in
    let behind = sym (list_any-append (λ (c : Asset). same_endpoint c.endpoint b.endpoint) before (a ∷ after)) ∙ parts.0 in
    let here = or_parts (has_asset_at before b.endpoint) (has_asset_at (a ∷ after) b.endpoint) behind in
    let other = or_parts (same_endpoint a.endpoint b.endpoint) (has_asset_at after b.endpoint) here.1 in
    or_from (same_endpoint b.endpoint a.endpoint) (has_asset_at before a.endpoint) (swapped a.endpoint b.endpoint other.0) (free_in_second before a after parts.1)

pub in_second : (before : List Asset) (a : Asset) (after : List Asset) → AreAssetsWithin (before ++ (a ∷ after)) → has_site (before ++ (a ∷ after)) ≡ false
    → MayFollow edition.Second before a
in_second before a after h none =
    let third = in_third before a after h in
    record { port = free_in_second before a after none; protocol = third.protocol; room = third.room; station = third.station }
