-- The site at an endpoint of a policy has each asset of the endpoint, and is in form.
use Rattle.std.proofs.Common.{◌≡◌, ◌≢◌, ◌∙◌, ℕ, zero, suc, ◌+◌, ◌≤◌, ◌==◌, nat_lt, inl, inr, Bool, true, false, cond, List, [], ◌∷◌, drop, length, get_or, Option, Some, None, option_map, option_and_then, ap, refl, subst, sym, arith}
use Rattle.std.specs.List.{All, AllPairs, filter, position, position_or_len, take_while}
use Rattle.std.specs.Option.{IfSome, option_map_or}
use Rattle.std.proofs.lemmas.Bool.{and_parts, cases_Bool, eqb-true, false_from_ne_true, true≢false}
use Rattle.std.proofs.lemmas.Bool.Decides.{nat_tests}
use Rattle.std.proofs.lemmas.List.Elements.{All-filter, All-head, All-tail, All-weaker, filter_passes}
use Rattle.std.proofs.lemmas.List.Sums.{length-filter, take_while-cons}
use Rattle.cf_policy.specs.declared.policy.Asset.{Asset}
use Rattle.cf_policy.specs.AtEndpoint.{asset_at, asset_place, count_at}
use Rattle.cf_policy.specs.Site.{IsSiteWithin, SiteValue, alone, assets_of, site_at, site_of}
use Rattle.cf_policy.specs.SiteLaws.{AssetsStandAlone, SitesAreWhole, SitesAreWithin, SitesBeginWithAssets}
use Rattle.cf_policy.specs.Within.{AreAssetsWithin, IsAssetWithin, MayShare, StandTogether, most_at_site}
use Rattle.cf_view.specs.Endpoints.{same_endpoint}
use Rattle.cf_view.specs.declared.base.Endpoint.{Endpoint}

-- ---- endpoints

pub same_self : (e : Endpoint) → same_endpoint e e ≡ true
same_self e = grind (arith, nat_tests)

same_means : (d e : Endpoint) → same_endpoint d e ≡ true → d ≡ e
same_means d e same =
    let parts = and_parts (d.address == e.address) (d.port == e.port) same in
    let address : d.address ≡ e.address = eqb-true d.address e.address parts.0 in
    let port : d.port ≡ e.port = eqb-true d.port e.port parts.1 in
    ap (λ n. record { address = n; port = d.port }) address ∙ ap (λ n. record { address = e.address; port = n }) port

is_same : (d e : Endpoint) → d ≡ e → same_endpoint d e ≡ true
is_same d e is = ap (λ f. same_endpoint d f) (sym is) ∙ same_self d

not_same : (d e : Endpoint) → d ≢ e → same_endpoint d e ≡ false
not_same d e other = false_from_ne_true (same_endpoint d e) (λ same. other (same_means d e same))

differs : (d e : Endpoint) → same_endpoint d e ≡ false → d ≢ e
differs d e other is = true≢false (sym (is_same d e is) ∙ other)

-- ---- lists

module _ {X : Type 0} (R : X → X → Type 0) where
  pairs_head : (x : X) (xs : List X) → AllPairs R (x ∷ xs) → All (R x) xs
  pairs_head x xs h k d lt = h zero (suc k) d (omega arith) (omega (arith, lt))

  pub pairs_tail : (x : X) (xs : List X) → AllPairs R (x ∷ xs) → AllPairs R xs
  pairs_tail x xs h i j d lt inside = h (suc i) (suc j) d (omega (arith, lt)) (omega (arith, inside))

  pairs_cons : (x : X) (xs : List X) → All (R x) xs → AllPairs R xs → AllPairs R (x ∷ xs)
  pairs_cons x xs own rest zero zero d lt inside = absurd (omega (arith, lt))
  pairs_cons x xs own rest zero (suc j) d lt inside = own j d (omega (arith, inside))
  pairs_cons x xs own rest (suc i) zero d lt inside = absurd (omega (arith, lt))
  pairs_cons x xs own rest (suc i) (suc j) d lt inside = rest i j d (omega (arith, lt)) (omega (arith, inside))

  pairs_nil : AllPairs R []
  pairs_nil i j d lt inside = absurd (omega (arith, inside))

  filter_step : (p : X → Bool) (x : X) (xs : List X) (b : Bool) → All (R x) xs → AllPairs R (filter p xs) → AllPairs R (cond b (x ∷ filter p xs) (filter p xs))
  filter_step p x xs true own rest = pairs_cons x (filter p xs) (All-filter p (R x) xs own) rest
  filter_step p x xs false own rest = rest

  pairs_filter : (p : X → Bool) (xs : List X) → AllPairs R xs → AllPairs R (filter p xs)
  pairs_filter p [] h = h
  pairs_filter p (x ∷ xs) h = filter_step p x xs (p x) (pairs_head x xs h) (pairs_filter p xs (pairs_tail x xs h))

filter_none : {X : Type 0} (p : X → Bool) (xs : List X) → All (λ x. p x ≡ false) xs → filter p xs ≡ []
filter_none p [] h = refl
filter_none p (x ∷ xs) h =
    ap (λ b. cond b (x ∷ filter p xs) (filter p xs)) (All-head (λ y. p y ≡ false) x xs h) ∙ filter_none p xs (All-tail (λ y. p y ≡ false) x xs h)

prefix_by : {X : Type 0} (p : X → Bool) (x : X) (xs : List X) (b : Bool) → p x ≡ b → position_or_len p (x ∷ xs) ≡ cond b 0 (1 + position_or_len p xs)
prefix_by p x xs true e = rw e refl
prefix_by p x xs false e = rw e refl

-- the place of the first that passes, by what the front one says
place_by : {X : Type 0} (p : X → Bool) (x : X) (xs : List X) (b : Bool) → p x ≡ b → position p (x ∷ xs) ≡ cond b (Some 0) (option_map suc (position p xs))
place_by p x xs true e =
    let inside : nat_lt 0 (length (x ∷ xs)) ≡ true = grind (arith, nat_tests) in
    rw (prefix_by p x xs true e, inside) refl
place_by p x xs false e =
    let n = position_or_len p xs in
    let one_more : 1 + n ≡ suc n = omega arith in
    elim (cases_Bool (nat_lt n (length xs))) [
      | inl here ↦
          let inside : nat_lt (1 + n) (length (x ∷ xs)) ≡ true = grind (arith, nat_tests, here) in
          rw (prefix_by p x xs false e, inside, here) (ap Some one_more)
      | inr gone ↦
          let past : nat_lt (1 + n) (length (x ∷ xs)) ≡ false = grind (arith, nat_tests, gone) in
          rw (prefix_by p x xs false e, past, gone) refl
    ]

-- ---- the site at an endpoint, by the first asset

-- the assets with an endpoint, as long as they stand at the front
abbrev front : List Asset → Endpoint → List Asset
front assets endpoint = take_while (λ a. same_endpoint a.endpoint endpoint) assets

site_later : (a : Asset) (assets : List Asset) (o : Option ℕ) → option_and_then (λ k. site_of (drop k (a ∷ assets))) (option_map suc o) ≡ option_and_then (λ k. site_of (drop k assets)) o
site_later a assets None = refl
site_later a assets (Some k) = refl

-- it begins with the first asset, or is that of the others
abbrev site_or : Bool → Asset → List Asset → Endpoint → Option SiteValue
site_or true a assets endpoint = Some (record { first = a; others = front assets a.endpoint })
site_or false a assets endpoint = site_at assets endpoint

site_by : (a : Asset) (assets : List Asset) (endpoint : Endpoint) (b : Bool) → same_endpoint a.endpoint endpoint ≡ b → site_at (a ∷ assets) endpoint ≡ site_or b a assets endpoint
site_by a assets endpoint true e =
    ap (option_and_then (λ k. site_of (drop k (a ∷ assets)))) (place_by (λ c. same_endpoint c.endpoint endpoint) a assets true e)
site_by a assets endpoint false e =
    ap (option_and_then (λ k. site_of (drop k (a ∷ assets)))) (place_by (λ c. same_endpoint c.endpoint endpoint) a assets false e)
    ∙ site_later a assets (asset_place assets endpoint)

find_by : (a : Asset) (assets : List Asset) (endpoint : Endpoint) (b : Bool) → same_endpoint a.endpoint endpoint ≡ b
    → asset_at (a ∷ assets) endpoint ≡ cond b (Some a) (asset_at assets endpoint)
find_by a assets endpoint b e = ap (λ c. cond c (Some a) (asset_at assets endpoint)) e

-- ---- its first asset

begins : (a : Asset) (assets : List Asset) (endpoint : Endpoint) → option_map (λ site. site.first) (site_at assets endpoint) ≡ asset_at assets endpoint → (b : Bool)
    → same_endpoint a.endpoint endpoint ≡ b → option_map (λ site. site.first) (site_at (a ∷ assets) endpoint) ≡ asset_at (a ∷ assets) endpoint
begins a assets endpoint rest true e = rw (site_by a assets endpoint true e, find_by a assets endpoint true e) refl
begins a assets endpoint rest false e = rw (site_by a assets endpoint false e, find_by a assets endpoint false e) rest

pub sites_begin : SitesBeginWithAssets
sites_begin [] endpoint = refl
sites_begin (a ∷ assets) endpoint = begins a assets endpoint (sites_begin assets endpoint) (same_endpoint a.endpoint endpoint) refl

-- ---- an asset that is alone

front_none : (assets : List Asset) (endpoint : Endpoint) → All (λ a. same_endpoint a.endpoint endpoint ≡ false) assets → front assets endpoint ≡ []
front_none [] endpoint h = refl
front_none (a ∷ assets) endpoint h =
    take_while-cons (λ c. same_endpoint c.endpoint endpoint) a assets
    ∙ ap (λ b. cond b (a ∷ front assets endpoint) []) (All-head (λ c. same_endpoint c.endpoint endpoint ≡ false) a assets h)

abbrev AreApart : List Asset → Type 0
AreApart assets = AllPairs (λ a b. a.endpoint ≢ b.endpoint) assets

lone_here : (a : Asset) (assets : List Asset) (endpoint : Endpoint) → AreApart (a ∷ assets) → site_at assets endpoint ≡ option_map alone (asset_at assets endpoint) → (b : Bool)
    → same_endpoint a.endpoint endpoint ≡ b → site_at (a ∷ assets) endpoint ≡ option_map alone (asset_at (a ∷ assets) endpoint)
lone_here a assets endpoint apart rest true e =
    let others : All (λ c. same_endpoint c.endpoint a.endpoint ≡ false) assets =
    All-weaker (λ c. a.endpoint ≢ c.endpoint) (λ c. same_endpoint c.endpoint a.endpoint ≡ false) (λ c ne. not_same c.endpoint a.endpoint (λ is. ne (sym is))) assets
    (pairs_head (λ (c d : Asset). c.endpoint ≢ d.endpoint) a assets apart) in
    rw (site_by a assets endpoint true e, find_by a assets endpoint true e) (ap (λ l. Some (record { first = a; others = l })) (front_none assets a.endpoint others))
lone_here a assets endpoint apart rest false e = rw (site_by a assets endpoint false e, find_by a assets endpoint false e) rest

pub stand_alone : AssetsStandAlone
stand_alone [] endpoint apart = refl
stand_alone (a ∷ assets) endpoint apart =
    lone_here a assets endpoint apart (stand_alone assets endpoint (pairs_tail (λ (c d : Asset). c.endpoint ≢ d.endpoint) a assets apart)) (same_endpoint a.endpoint endpoint) refl

-- ---- all assets of an endpoint

pub together_tail : (a : Asset) (assets : List Asset) → StandTogether (a ∷ assets) → StandTogether assets
together_tail a assets h i j k d lt low inside is = h (suc i) (suc j) (suc k) d (omega (arith, lt)) (omega (arith, low)) (omega (arith, inside)) is

together_skip : (a b : Asset) (assets : List Asset) → StandTogether (a ∷ b ∷ assets) → StandTogether (a ∷ assets)
together_skip a b assets h zero zero k d lt low inside is = absurd (omega (arith, lt))
together_skip a b assets h zero (suc j) zero d lt low inside is = absurd (omega (arith, low))
together_skip a b assets h zero (suc j) (suc k) d lt low inside is = h zero (suc (suc j)) (suc (suc k)) d (omega arith) (omega (arith, low)) (omega (arith, inside)) is
together_skip a b assets h (suc i) zero k d lt low inside is = absurd (omega (arith, lt))
together_skip a b assets h (suc i) (suc j) zero d lt low inside is = absurd (omega (arith, low))
together_skip a b assets h (suc i) (suc j) (suc k) d lt low inside is =
    h (suc (suc i)) (suc (suc j)) (suc (suc k)) d (omega (arith, lt)) (omega (arith, low)) (omega (arith, inside)) is

-- behind one with another endpoint there is none of the first one's
none_behind : (a b : Asset) (assets : List Asset) → StandTogether (a ∷ b ∷ assets) → same_endpoint b.endpoint a.endpoint ≡ false
    → All (λ c. same_endpoint c.endpoint a.endpoint ≡ false) assets
none_behind a b assets h other k d lt =
    let c : Asset = get_or assets k d in
    not_same c.endpoint a.endpoint
    (λ is. differs b.endpoint a.endpoint other (h zero (suc zero) (suc (suc k)) d (omega arith) (omega arith) (omega (arith, lt)) (sym is) ∙ is))

front_step : (a b : Asset) (assets : List Asset) → StandTogether (a ∷ b ∷ assets) → front assets a.endpoint ≡ filter (λ c. same_endpoint c.endpoint a.endpoint) assets → (t : Bool)
    → same_endpoint b.endpoint a.endpoint ≡ t → front (b ∷ assets) a.endpoint ≡ filter (λ c. same_endpoint c.endpoint a.endpoint) (b ∷ assets)
front_step a b assets h rest true e =
    take_while-cons (λ c. same_endpoint c.endpoint a.endpoint) b assets ∙ rw e (ap (λ l. b ∷ l) rest)
front_step a b assets h rest false e =
    take_while-cons (λ c. same_endpoint c.endpoint a.endpoint) b assets
    ∙ rw e (sym (filter_none (λ c. same_endpoint c.endpoint a.endpoint) assets (none_behind a b assets h e)))

front_all : (a : Asset) (assets : List Asset) → StandTogether (a ∷ assets) → front assets a.endpoint ≡ filter (λ c. same_endpoint c.endpoint a.endpoint) assets
front_all a [] h = refl
front_all a (b ∷ assets) h = front_step a b assets h (front_all a assets (together_skip a b assets h)) (same_endpoint b.endpoint a.endpoint) refl

-- the assets of the endpoint, as the site has them
abbrev IsWhole : List Asset → Endpoint → Type 0
IsWhole assets endpoint = option_map_or assets_of (site_at assets endpoint) [] ≡ filter (λ a. same_endpoint a.endpoint endpoint) assets

whole_step : (a : Asset) (assets : List Asset) (endpoint : Endpoint) → StandTogether (a ∷ assets) → IsWhole assets endpoint → (b : Bool)
    → same_endpoint a.endpoint endpoint ≡ b → IsWhole (a ∷ assets) endpoint
whole_step a assets endpoint h rest true e =
    let is : a.endpoint ≡ endpoint = same_means a.endpoint endpoint e in
    rw (site_by a assets endpoint true e, e) (ap (λ l. a ∷ l) (front_all a assets h ∙ ap (λ n. filter (λ (c : Asset). same_endpoint c.endpoint n) assets) is))
whole_step a assets endpoint h rest false e = rw (site_by a assets endpoint false e, e) rest

whole : (assets : List Asset) (endpoint : Endpoint) → StandTogether assets → IsWhole assets endpoint
whole [] endpoint h = refl
whole (a ∷ assets) endpoint h = whole_step a assets endpoint h (whole assets endpoint (together_tail a assets h)) (same_endpoint a.endpoint endpoint) refl

pub sites_whole : SitesAreWhole
sites_whole assets endpoint h = whole assets endpoint h.together

-- ---- a site in form

module _ (assets : List Asset) (endpoint : Endpoint) (h : AreAssetsWithin assets) where
  abbrev here : Asset → Bool
  here a = same_endpoint a.endpoint endpoint

  in_form : (o : Option SiteValue) → option_map_or assets_of o [] ≡ filter here assets → IfSome o IsSiteWithin
  in_form None e = tt
  in_form (Some site) e =
      let at : All (λ (a : Asset). a.endpoint ≡ endpoint) (assets_of site) =
      subst (All (λ (a : Asset). a.endpoint ≡ endpoint)) (sym e)
      (All-weaker (λ (a : Asset). here a ≡ true) (λ (a : Asset). a.endpoint ≡ endpoint) (λ a is. same_means a.endpoint endpoint is) (filter here assets) (filter_passes here assets)) in
      let first : site.first.endpoint ≡ endpoint = All-head (λ (a : Asset). a.endpoint ≡ endpoint) site.first site.others at in
      let behind : All (λ (a : Asset). a.endpoint ≡ site.first.endpoint) site.others =
      All-weaker (λ (a : Asset). a.endpoint ≡ endpoint) (λ (a : Asset). a.endpoint ≡ site.first.endpoint) (λ a is. is ∙ sym first) site.others
      (All-tail (λ (a : Asset). a.endpoint ≡ endpoint) site.first site.others at) in
      let pairs : AllPairs MayShare (assets_of site) = subst (AllPairs MayShare) (sym e) (pairs_filter MayShare here assets h.shared) in
      let few : All (λ (a : Asset). count_at assets a.endpoint ≤ most_at_site a.protocol) (assets_of site) =
      subst (All (λ (a : Asset). count_at assets a.endpoint ≤ most_at_site a.protocol)) (sym e)
      (All-filter here (λ (a : Asset). count_at assets a.endpoint ≤ most_at_site a.protocol) assets h.few) in
      let most : count_at assets site.first.endpoint ≤ most_at_site site.first.protocol =
      All-head (λ (a : Asset). count_at assets a.endpoint ≤ most_at_site a.protocol) site.first site.others few in
      let long : length (assets_of site) ≡ count_at assets site.first.endpoint =
      ap length e ∙ (length-filter here assets ∙ ap (λ n. count_at assets n) (sym first)) in
      record {
        each = subst (All IsAssetWithin) (sym e) (All-filter here IsAssetWithin assets h.each);
        endpoint = behind;
        protocol = λ k d lt. sym (pairs_head MayShare site.first site.others pairs k d lt (sym (behind k d lt))).0;
        stations = λ i j d lt inside. (pairs i j d lt inside (at i d (omega (arith, lt, inside)) ∙ sym (at j d inside))).1;
        count = subst (λ n. n ≤ most_at_site site.first.protocol) (sym long) most;
      }

pub sites_within : SitesAreWithin
sites_within assets endpoint h = in_form assets endpoint h (site_at assets endpoint) (sites_whole assets endpoint h)

pub within_by : (assets : List Asset) (endpoint : Endpoint) (o : Option SiteValue) → o ≡ site_at assets endpoint → AreAssetsWithin assets → IfSome o IsSiteWithin
within_by assets endpoint o is h = subst (λ p. IfSome p IsSiteWithin) (sym is) (sites_within assets endpoint h)
