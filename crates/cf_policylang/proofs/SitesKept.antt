-- What the assets of one endpoint keep that were read: they stand one behind the other, and are not too many.
use Rattle.std.proofs.Common.{◌≡◌, ◌≢◌, ◌∙◌, ℕ, ◌+◌, ◌-◌, ◌<◌, ◌≤◌, ◌⊎◌, inl, inr, ◌==◌, nat_eq, Bool, true, false, not, cond, ◌&&◌, List, [], ◌∷◌, ◌++◌, length, get_or, Option, Some, None, ap, refl, subst, sym, arith, length-append}
use Rattle.std.specs.List.{All, list_any, slice_get}
use Rattle.std.specs.Option.{option_map_or}
use Rattle.std.proofs.lemmas.Bool.{and_cases, and_parts, cases_Bool, eq-eqb, eqb-true, eqb-false, not-false, or_parts, true≢false}
use Rattle.std.proofs.lemmas.Bool.Decides.{nat_tests}
use Rattle.std.proofs.lemmas.List.{get_or_append_left, get_or_at}
use Rattle.std.proofs.lemmas.List.Elements.{All-cons, All-nil, All-push, All-weaker}
use Rattle.std.proofs.lemmas.List.Sums.{sum_by-append}
use Rattle.std.proofs.lemmas.Option.{get_or_from_slice_get}
use Rattle.cf_view.specs.declared.base.Endpoint.{Endpoint}
use Rattle.cf_view.specs.Endpoints.{same_endpoint}
use Rattle.cf_policy.specs.declared.policy.Asset.{Asset}
use Rattle.cf_policy.specs.declared.policy.Protocol.{Protocol}
use Rattle.cf_policy.specs.declared.policy.Protocol.TheVariants.{Modbus, Dnp3, Iec104}
use Rattle.cf_policy.specs.AtEndpoint.{count_at, has_asset_at}
use Rattle.cf_policy.specs.Within.{StandTogether, most_at_site}
use Rattle.cf_policylang.specs.declared.sets.Edition.{Edition}
use Rattle.cf_policylang.specs.declared.sets.Edition.TheVariants as edition
use Rattle.cf_policylang.specs.Sites.{is_endpoint_barred, is_last_at, is_protocol_barred, is_station_taken, same_protocol}

pub none_passes : {X : Type 0} (p : X → Bool) (xs : List X) → list_any p xs ≡ false → All (λ x. p x ≡ false) xs
none_passes p [] e = All-nil (λ x. p x ≡ false)
none_passes p (x ∷ xs) e =
    let parts = or_parts (p x) (list_any p xs) e in
    All-cons (λ y. p y ≡ false) x xs parts.0 (none_passes p xs parts.1)

-- ---- endpoints

pub same_itself : (e : Endpoint) → same_endpoint e e ≡ true
same_itself e = grind (arith, nat_tests)

pub endpoint_is : (d f : Endpoint) → same_endpoint d f ≡ true → d ≡ f
endpoint_is d f same =
    let parts = and_parts (d.address == f.address) (d.port == f.port) same in
    let address : d.address ≡ f.address = eqb-true d.address f.address parts.0 in
    let port : d.port ≡ f.port = eqb-true d.port f.port parts.1 in
    ap (λ n. record { address = n; port = d.port }) address ∙ ap (λ n. record { address = f.address; port = n }) port

pub is_same : (d e : Endpoint) → d ≡ e → same_endpoint d e ≡ true
is_same d e is = ap (λ f. same_endpoint d f) (sym is) ∙ same_itself d

pub endpoints_differ : (d e : Endpoint) → same_endpoint d e ≡ false → d ≢ e
endpoints_differ d e other same = true≢false (sym (is_same d e same) ∙ other)

-- ---- what an asset keeps that comes behind others

-- no asset has the endpoint, or the last one has it
abbrev pub Joins : List Asset → Endpoint → Type 0
Joins seen e = All (λ a. a.endpoint ≢ e) seen ⊎ (is_last_at seen e ≡ true)

pub apart_by : (seen : List Asset) (e : Endpoint) → has_asset_at seen e ≡ false → All (λ a. a.endpoint ≢ e) seen
apart_by seen e free =
    All-weaker (λ (a : Asset). same_endpoint a.endpoint e ≡ false) (λ (a : Asset). a.endpoint ≢ e) (λ a. endpoints_differ a.endpoint e) seen
    (none_passes (λ (a : Asset). same_endpoint a.endpoint e) seen free)

pub joins_by : (own : Edition) (seen : List Asset) (e : Endpoint) → is_endpoint_barred own seen e ≡ false → Joins seen e
joins_by edition.First seen e free = inl (apart_by seen e free)
joins_by edition.Second seen e free = inl (apart_by seen e free)
joins_by edition.Third seen e free =
    elim (and_cases (has_asset_at seen e) (not (is_last_at seen e)) free) [
      | inl none ↦ inl (apart_by seen e none)
      | inr last ↦ inr (not-false (is_last_at seen e) last)
    ]

protocol_is : (a b : Protocol) → same_protocol a b ≡ true → a ≡ b
protocol_is Modbus Modbus e = refl
protocol_is Dnp3 Dnp3 e = refl
protocol_is Iec104 Iec104 e = refl
protocol_is a b e = absurd (true≢false (sym e))

-- where no asset of the endpoint passes, each that has it fails
each_fails : (seen : List Asset) (e : Endpoint) (test : Asset → Bool) → list_any (λ a. same_endpoint a.endpoint e && test a) seen ≡ false
    → All (λ a. a.endpoint ≡ e → test a ≡ false) seen
each_fails seen e test none =
    All-weaker (λ (a : Asset). (same_endpoint a.endpoint e && test a) ≡ false) (λ (a : Asset). a.endpoint ≡ e → test a ≡ false)
    (λ a fails is. sym (ap (λ b. b && test a) (is_same a.endpoint e is)) ∙ fails) seen
    (none_passes (λ (a : Asset). same_endpoint a.endpoint e && test a) seen none)

pub protocols_by : (seen : List Asset) (e : Endpoint) (own : Protocol) → is_protocol_barred seen e own ≡ false → All (λ a. a.endpoint ≡ e → a.protocol ≡ own) seen
protocols_by seen e own none =
    All-weaker (λ (a : Asset). a.endpoint ≡ e → not (same_protocol a.protocol own) ≡ false) (λ (a : Asset). a.endpoint ≡ e → a.protocol ≡ own)
    (λ a fails is. protocol_is a.protocol own (not-false (same_protocol a.protocol own) (fails is))) seen
    (each_fails seen e (λ (a : Asset). not (same_protocol a.protocol own)) none)

pub stations_by : (seen : List Asset) (e : Endpoint) (n : ℕ) → is_station_taken seen e n ≡ false → All (λ a. a.endpoint ≡ e → a.station ≢ n) seen
stations_by seen e n none =
    All-weaker (λ (a : Asset). a.endpoint ≡ e → nat_eq a.station n ≡ false) (λ (a : Asset). a.endpoint ≡ e → a.station ≢ n)
    (λ a fails is same. true≢false (sym (eq-eqb a.station n same) ∙ fails is)) seen
    (each_fails seen e (λ (a : Asset). nat_eq a.station n) none)

-- ---- sites

abbrev AreFew : List Asset → Type 0
AreFew assets = All (λ a. count_at assets a.endpoint ≤ most_at_site a.protocol) assets

-- assets of one endpoint stand one behind the other, and are not too many
pub record AreSites (assets : List Asset) : Type 0 where
  pub together : StandTogether assets
  pub few : AreFew assets

pub no_sites : AreSites []
no_sites = record { together = λ i j k d lt low inside is. absurd (omega (arith, inside)); few = All-nil (λ a. count_at [] a.endpoint ≤ most_at_site a.protocol) }

-- the endpoint of the asset of a place
abbrev at : List Asset → ℕ → Asset → Endpoint
at assets i d = (get_or assets i d).endpoint

last_is : (seen : List Asset) (e : Endpoint) (d : Asset) → is_last_at seen e ≡ true → at seen (length seen - 1) d ≡ e
last_is seen e d last = by (slice_get seen (length seen - 1)) refl last
  where
    by : (o : Option Asset) → slice_get seen (length seen - 1) ≡ o → option_map_or (λ (a : Asset). same_endpoint a.endpoint e) o false ≡ true → at seen (length seen - 1) d ≡ e
    by None is l = absurd (true≢false (sym l))
    by (Some a) is l = ap (λ (b : Asset). b.endpoint) (get_or_from_slice_get seen (length seen - 1) a d is) ∙ endpoint_is a.endpoint e l

module _ (seen : List Asset) (x : Asset) (h : AreSites seen) (joins : Joins seen x.endpoint) where
  abbrev all : List Asset
  all = seen ++ x ∷ []

  old_at : (i : ℕ) (d : Asset) → i < length seen → at all i d ≡ at seen i d
  old_at i d lt = ap (λ (b : Asset). b.endpoint) (get_or_append_left seen (x ∷ []) d i lt)

  new_at : (k : ℕ) (d : Asset) → k ≡ length seen → at all k d ≡ x.endpoint
  new_at k d is = ap (λ (b : Asset). b.endpoint) (get_or_at seen x [] d k (sym is))

  -- behind an asset of its endpoint that stands before the last, there are only such
  behind : (i j : ℕ) (d : Asset) → i < j → j < length seen → at seen i d ≡ x.endpoint → at seen j d ≡ x.endpoint
  behind i j d lt low is =
      elim joins [
        | inl none ↦ absurd (none i d (omega (arith, lt, low)) is)
        | inr last ↦
            let end : at seen (length seen - 1) d ≡ x.endpoint = last_is seen x.endpoint d last in
            elim (cases_Bool (j == length seen - 1)) [
              | inl here ↦ subst (λ n. at seen n d ≡ x.endpoint) (sym (eqb-true j (length seen - 1) here)) end
              | inr before ↦
                  let ne : j ≢ length seen - 1 = eqb-false j (length seen - 1) before in
                  h.together i j (length seen - 1) d lt (omega (arith, low, ne)) (omega (arith, low)) (is ∙ sym end) ∙ end
            ]
      ]

  more_together : StandTogether all
  more_together i j k d lt low inside is =
      let long = length-append seen (x ∷ []) in
      elim (cases_Bool (k == length seen)) [
        | inl here ↦
            let end : k ≡ length seen = eqb-true k (length seen) here in
            let old : j < length seen = omega (arith, low, end) in
            let first : at seen i d ≡ x.endpoint = sym (old_at i d (omega (arith, lt, old))) ∙ (is ∙ new_at k d end) in
            old_at j d old ∙ (behind i j d lt old first ∙ sym (new_at k d end))
        | inr before ↦
            let ne : k ≢ length seen = eqb-false k (length seen) before in
            let in_k : k < length seen = omega (arith, inside, long, ne) in
            let in_j : j < length seen = omega (arith, low, in_k) in
            let in_i : i < length seen = omega (arith, lt, in_j) in
            let old : at seen i d ≡ at seen k d = sym (old_at i d in_i) ∙ (is ∙ old_at k d in_k) in
            old_at j d in_j ∙ (h.together i j k d lt low in_k old ∙ sym (old_at k d in_k))
      ]

  module _ (same : All (λ a. a.endpoint ≡ x.endpoint → a.protocol ≡ x.protocol) seen) (room : count_at seen x.endpoint < most_at_site x.protocol) where
    counted : (e : Endpoint) → count_at all e ≡ count_at seen e + (0 + cond (same_endpoint x.endpoint e) 1 0)
    counted e = sum_by-append (λ (a : Asset). cond (same_endpoint a.endpoint e) 1 0) seen (x ∷ [])

    few_with : (a : Asset) → (a.endpoint ≡ x.endpoint → a.protocol ≡ x.protocol) → count_at seen a.endpoint ≤ most_at_site a.protocol → (b : Bool) → same_endpoint x.endpoint a.endpoint ≡ b
        → count_at seen a.endpoint + (0 + cond b 1 0) ≤ most_at_site a.protocol
    few_with a alike few true e =
        let is : x.endpoint ≡ a.endpoint = endpoint_is x.endpoint a.endpoint e in
        let fits : count_at seen a.endpoint < most_at_site a.protocol =
        subst (λ n. count_at seen a.endpoint < most_at_site n) (sym (alike (sym is))) (subst (λ d. count_at seen d < most_at_site x.protocol) is room) in
        omega (arith, fits)
    few_with a alike few false e = omega (arith, few)

    few_old : (a : Asset) → (a.endpoint ≡ x.endpoint → a.protocol ≡ x.protocol) → count_at seen a.endpoint ≤ most_at_site a.protocol → count_at all a.endpoint ≤ most_at_site a.protocol
    few_old a alike few =
        subst (λ n. n ≤ most_at_site a.protocol) (sym (counted a.endpoint)) (few_with a alike few (same_endpoint x.endpoint a.endpoint) refl)

    few_new : count_at all x.endpoint ≤ most_at_site x.protocol
    few_new =
        let more : count_at all x.endpoint ≡ count_at seen x.endpoint + (0 + cond true 1 0) =
        counted x.endpoint ∙ ap (λ b. count_at seen x.endpoint + (0 + cond b 1 0)) (same_itself x.endpoint) in
        subst (λ n. n ≤ most_at_site x.protocol) (sym more) (omega (arith, room))

    more_few : AreFew all
    more_few =
        All-push (λ (a : Asset). count_at all a.endpoint ≤ most_at_site a.protocol) seen x
        (λ k d lt. few_old (get_or seen k d) (same k d lt) (h.few k d lt)) few_new

    pub sites_more : AreSites all
    sites_more = record { together = more_together; few = more_few }
