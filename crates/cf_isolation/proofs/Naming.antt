-- Which lines of one event name a client and a site: those of their session.
use Rattle.std.proofs.Common.{◌≡◌, ◌≢◌, ℕ, ◌<◌, ◌==◌, ◌&&◌, inl, inr, Bool, true, false, not, List, [], ◌∷◌, ◌++◌, length, drop, cond, filter, get_or, map, zero, suc, ◌||◌, if◌then◌else◌, Option, Some, None, refl, sym, ap, ◌∙◌, subst, arith, bytes_eq, nat_lt, slice_get, slice_index_or}
use Rattle.cf_isolation.proofs.Common.{AllByRecursion, Asset, CutReason, Endpoint, Flow, IsBeginning, IsPacket, PacketValue, SessionEvent, Side, and_parts, client_of, is_first_half, is_flow_of, logged_first, logged_second, moment, moment_in, names_both, nat_tests, same_endpoint, same_is, true≢false}
use Rattle.std.specs.List.{AllPairs, list_all, list_any}
use Rattle.std.specs.Option.{option_map_or}
use Rattle.std.proofs.Math.Seq.{drop-append_seam}
use Rattle.std.proofs.lemmas.Bool.{cases_Bool, false_from_ne_true}
use Rattle.std.proofs.lemmas.List.Elements.{All-get_or}
use Rattle.std.proofs.lemmas.Option.{get_or_from_slice_get, slice_get_within}
use Rattle.std.proofs.lemmas.Slice.Eq.{bytes_eq-Decides}
use Rattle.cf_audit.specs.Line.{Close, Cut, LineValue}
use Rattle.cf_lane.specs.History.{Element}
use Rattle.cf_lane.specs.Log.{lines}
use Rattle.cf_policy.proofs.SiteLaws.{sites_whole}
use Rattle.cf_policy.specs.Site.{SiteValue, asset_of, assets_of, site_at}
use Rattle.cf_isolation.specs.Lines.{names_of}
use Rattle.cf_policy.specs.Names.{is_name_byte}
use Rattle.cf_policy.specs.Within.{AreAssetsWithin, IsAssetWithin}
use Rattle.cf_session.specs.Event.{AreEvents as AreSessionEvents, AreFed}
use Rattle.cf_session.specs.Laws.{WorkIsOfTheTaken}
use Rattle.cf_session.specs.Sent.{cut_line, first_line, last_line, new_lines}
use Rattle.cf_session.specs.Session.{history, is_closed, was_closed, work_of}
use Rattle.cf_session.specs.Work.{Work, Works}
use Rattle.cf_stream.specs.Stream.{letter_count}
use Rattle.cf_isolation.proofs.Items.{AreAbout, IsAbout, new_about}
use Rattle.cf_isolation.proofs.Lists.{all_both, all_map}
use Rattle.cf_isolation.proofs.Tables.{IsAmong, IsSiteAmong, same_self}
use Rattle.cf_isolation.proofs.Words.{IsEndpoint, IsMoment, moment_is, names_is}
use Rattle.cf_audit.specs.Line as line

-- ---- the lines of a session's event are about it

module _ (f : Flow) where
  abbrev pub AreIts : ℕ → List (List ℕ) → Type 0
  AreIts now lines = AreAbout now (client_of f) f.site lines

  if_its : (now : ℕ) (b : Bool) (xs : List (List ℕ)) → AreIts now xs → AreIts now (if b then xs else [])
  if_its now true xs h = h
  if_its now false xs h = tt

  if_not_its : (now : ℕ) (b : Bool) (xs : List (List ℕ)) → AreIts now xs → AreIts now (if b then [] else xs)
  if_not_its now true xs h = tt
  if_not_its now false xs h = h

  cut_its : (now : ℕ) (c : Option CutReason) → AreIts now (cut_line f now c)
  cut_its now None = tt
  cut_its now (Some because) = ((0, (Cut because, refl)), tt)

  pub first_its : (t : SessionEvent) → AreIts t.client.tick (logged_first f t)
  first_its t = if_its t.client.tick (is_first_half t) (cut_line f t.client.tick t.cut) (cut_its t.client.tick t.cut)

  last_its : (es : List SessionEvent) (e : SessionEvent) (c : Option CutReason) → AreIts (moment e.client) (last_line f es e c)
  last_its es e None = if_its (moment e.client) (is_closed f (e ∷ es) && not (was_closed f es)) _ ((0, (Close e.work.admitted e.work.refused, refl)), tt)
  last_its es e (Some because) = if_not_its (moment e.client) (is_first_half e) _ ((0, (Cut because, refl)), tt)

  begun_its : (es : List SessionEvent) (e : SessionEvent) → AreIts (moment e.client) (first_line f es e)
  begun_its [] e = ((0, (line.Begun, refl)), tt)
  begun_its (d ∷ es) e = tt

  fed_now : (now : ℕ) (from : Side) (fed : List Element) → AreFed now from fed → AllByRecursion (λ x. x.moment ≡ now) fed
  fed_now now from fed (letters, is) = subst (AllByRecursion (λ x. x.moment ≡ now)) (sym is) (by (letter_count letters == 0))
    where
      by : (b : Bool) → AllByRecursion (λ (x : Element). x.moment ≡ now) (if b then [] else record { moment = now; side = from; letters = letters } ∷ [])
      by true = tt
      by false = (refl, tt)

  -- those of the items that it completed
  new_its : (es : List SessionEvent) (e : SessionEvent) → Works f.site (client_of f) (history es) (work_of es) → Works f.site (client_of f) (history (e ∷ es)) e.work →
      AllByRecursion (λ x. x.moment ≡ moment e.client) e.fed → AreIts (moment e.client) (new_lines es e)
  new_its es e was is fed =
      let n = new_about (moment e.client) (client_of f) f.site (history es) e.fed was.judged is.judged was.are_judged is.are_judged fed in
      let before : (work_of es).log ≡ lines f.site (client_of f) [] was.judged = ap (λ (w : Work). w.log) was.is_work in
      let after : e.work.log ≡ lines f.site (client_of f) [] was.judged ++ n.0 = ap (λ (w : Work). w.log) is.is_work ∙ n.1 in
      let same : new_lines es e ≡ n.0 =
      ap (λ l. drop (length l) e.work.log) before ∙ ap (drop (length (lines f.site (client_of f) [] was.judged))) after ∙ drop-append_seam (lines f.site (client_of f) [] was.judged) n.0 in
      subst (AreIts (moment e.client)) (sym same) n.2

  second_its : (es : List SessionEvent) (e : SessionEvent) → AreIts (moment e.client) (new_lines es e) → AreIts (moment e.client) (logged_second f es e)
  second_its es e new = all_both (IsAbout (moment e.client) (client_of f) f.site) (first_line f es e ++ new_lines es e) (last_line f es e e.cut)
      (all_both (IsAbout (moment e.client) (client_of f) f.site) (first_line f es e) (new_lines es e) (begun_its es e) new) (last_its es e e.cut)

  pub begins_its : (tick : ℕ) (e : SessionEvent) → IsBeginning f tick e → AreIts (moment e.client) (logged_second f [] e)
  begins_its tick e h = second_its [] e (subst (λ (w : Work). AreIts (moment e.client) (drop 0 w.log)) (sym h.work) tt)

  pub packet_its : (law : WorkIsOfTheTaken) (limit : ℕ) (es : List SessionEvent) (half : SessionEvent) (s : Side) (p : PacketValue) (e : SessionEvent) → AreSessionEvents f limit es →
      IsPacket f limit es half s p e → AreIts (moment e.client) (logged_second f es e)
  packet_its law limit es half s p e h g = second_its es e (new_its es e (law f limit es h) g.work (fed_now (moment e.client) s e.fed g.fed))

-- ---- a line about a flow names its client and site alone

module _ (assets : List Asset) (within : AreAssetsWithin assets) where
  apart : (R : Asset → Asset → Type 0) → AllPairs R assets → (a b : Asset) (x : IsAmong assets a) (y : IsAmong assets b) → x.0 < y.0 → R a b
  apart R all a b x y l =
      let r = all x.0 y.0 a l (slice_get_within assets y.0 b y.1) in
      subst (λ z. R z b) (get_or_from_slice_get assets x.0 a a x.1) (subst (R (slice_index_or assets x.0 a)) (get_or_from_slice_get assets y.0 b a y.1) r)

  same_some : (a b : Asset) → Some a ≡ Some b → a ≡ b
  same_some a b h = cc

  -- no two have one place, or what tells them apart
  one_asset : (R : Asset → Asset → Type 0) → AllPairs R assets → (a b : Asset) (x : IsAmong assets a) (y : IsAmong assets b) → (R a b → ⊥) → (R b a → ⊥) → a ≡ b
  one_asset R all a b x y first second = elim (cases_Bool (nat_lt x.0 y.0)) [
    | inl l ↦ absurd (first (apart R all a b x y (grind (arith, nat_tests, l))))
    | inr g ↦ elim (cases_Bool (nat_lt y.0 x.0)) [
      | inl l ↦ absurd (second (apart R all b a y x (grind (arith, nat_tests, l))))
      | inr k ↦ let same : x.0 ≡ y.0 = grind (arith, nat_tests, g, k) in same_some a b (sym x.1 ∙ ap (slice_get assets) same ∙ y.1)
    ]
  ]

  name_is : (a : Asset) → IsAmong assets a → list_all is_name_byte a.name ≡ true
  name_is a x =
      let all = All-get_or IsAssetWithin assets x.0 a (slice_get_within assets x.0 a x.1) within.each in
      let is = subst IsAssetWithin (get_or_from_slice_get assets x.0 a a x.1) all in
      (and_parts _ _ (and_parts _ _ is.name).1).1

  same_name : (a b : Asset) → IsAmong assets a → IsAmong assets b → bytes_eq a.name b.name ≡ true → a ≡ b
  same_name a b x y e =
      let names : a.name ≡ b.name = (bytes_eq-Decides a.name b.name).0 e in
      one_asset (λ c d. c.name ≢ d.name) within.names a b x y (λ n. n names) (λ n. n (sym names))

  -- ---- the assets of a site

  each_among : (xs : List Asset) → AllByRecursion (IsAmong xs) xs
  each_among [] = tt
  each_among (a ∷ xs) = ((0, refl), all_map (IsAmong xs) (IsAmong (a ∷ xs)) (λ b h. (suc h.0, h.1)) xs (each_among xs))

  -- an asset is one of these, and has this endpoint
  abbrev IsAt : Endpoint → Asset → Type 0
  IsAt endpoint a = IsAmong assets a × (same_endpoint a.endpoint endpoint ≡ true)

  at_if : (endpoint : Endpoint) (b : Bool) (a : Asset) (xs : List Asset) → same_endpoint a.endpoint endpoint ≡ b → IsAmong assets a → AllByRecursion (IsAt endpoint) xs →
      AllByRecursion (IsAt endpoint) (cond b (a ∷ xs) xs)
  at_if endpoint true a xs e h all = ((h, e), all)
  at_if endpoint false a xs e h all = all

  filtered_at : (endpoint : Endpoint) (xs : List Asset) → AllByRecursion (IsAmong assets) xs → AllByRecursion (IsAt endpoint) (filter (λ a. same_endpoint a.endpoint endpoint) xs)
  filtered_at endpoint [] h = tt
  filtered_at endpoint (a ∷ xs) h =
      at_if endpoint (same_endpoint a.endpoint endpoint) a (filter (λ b. same_endpoint b.endpoint endpoint) xs) refl h.0 (filtered_at endpoint xs h.1)

  site_all : (site : SiteValue) → IsSiteAmong assets site → AllByRecursion (IsAt site.first.endpoint) (assets_of site)
  site_all site is =
      let endpoint = site.first.endpoint in
      let whole : assets_of site ≡ filter (λ a. same_endpoint a.endpoint endpoint) assets =
      ap (λ o. option_map_or assets_of o []) (sym is) ∙ sites_whole assets endpoint within in
      subst (AllByRecursion (IsAt endpoint)) (sym whole) (filtered_at endpoint assets (each_among assets))

  one_of : (P : Asset → Type 0) (xs : List Asset) (k : ℕ) (d : Asset) → P d → AllByRecursion P xs → P (get_or xs k d)
  one_of P [] k d own all = own
  one_of P (x ∷ xs) zero d own all = all.0
  one_of P (x ∷ xs) (suc k) d own all = one_of P xs k d own all.1

  site_one : (site : SiteValue) → IsSiteAmong assets site → (k : ℕ) → IsAt site.first.endpoint (asset_of site k)
  site_one site is k = let all = site_all site is in one_of (IsAt site.first.endpoint) (assets_of site) k site.first all.0 all

  -- ---- names of a site

  none_named : (p : List ℕ → Bool) (xs : List Asset) → AllByRecursion (λ b. p b.name ≡ false) xs → list_any p (map (λ (b : Asset). b.name) xs) ≡ false
  none_named p [] h = refl
  none_named p (x ∷ xs) h = ap (λ b. b || list_any p (map (λ (c : Asset). c.name) xs)) h.0 ∙ none_named p xs h.1

  or_true : (b : Bool) → (b || true) ≡ true
  or_true true = refl
  or_true false = refl

  widen : (a b c : Bool) → (a || c) ≡ true → (a || (b || c)) ≡ true
  widen true b c e = refl
  widen false true c e = refl
  widen false false c e = e

  any_named : (p : List ℕ → Bool) (xs : List Asset) (k : ℕ) (d : Asset) → p (get_or xs k d).name ≡ true → (p d.name || list_any p (map (λ (b : Asset). b.name) xs)) ≡ true
  any_named p [] k d h = ap (λ b. b || false) h
  any_named p (x ∷ xs) zero d h = ap (λ b. p d.name || (b || list_any p (map (λ (c : Asset). c.name) xs))) h ∙ or_true (p d.name)
  any_named p (x ∷ xs) (suc k) d h = widen (p d.name) (p x.name) (list_any p (map (λ (b : Asset). b.name) xs)) (any_named p xs k d h)

  asset_named : (p : List ℕ → Bool) (site : SiteValue) (k : ℕ) → p (asset_of site k).name ≡ true → list_any p (names_of site) ≡ true
  asset_named p site zero h = ap (λ b. b || list_any p (map (λ (c : Asset). c.name) site.others)) h
  asset_named p site (suc k) h = any_named p site.others k site.first h

  some_is : (c d : SiteValue) → Some c ≡ Some d → c ≡ d
  some_is c d e = cc

  one_site : (a b : SiteValue) → IsSiteAmong assets a → IsSiteAmong assets b → a.first.endpoint ≡ b.first.endpoint → a ≡ b
  one_site a b x y ends = some_is a b (sym x ∙ ap (site_at assets) ends ∙ y)

  -- the names of a site are those of its assets alone
  name_tells : (a b : SiteValue) (k : ℕ) → IsSiteAmong assets a → IsSiteAmong assets b → list_any (λ name. bytes_eq (asset_of a k).name name) (names_of b) ≡ same_endpoint a.first.endpoint b.first.endpoint
  name_tells a b k x y = by (same_endpoint a.first.endpoint b.first.endpoint) refl
    where
      by : (q : Bool) → same_endpoint a.first.endpoint b.first.endpoint ≡ q → list_any (λ name. bytes_eq (asset_of a k).name name) (names_of b) ≡ q
      by true e =
          let same = one_site a b x y (same_is a.first.endpoint b.first.endpoint e) in
          subst (λ s. list_any (λ name. bytes_eq (asset_of a k).name name) (names_of s) ≡ true) same
          (asset_named (λ name. bytes_eq (asset_of a k).name name) a k ((bytes_eq-Decides (asset_of a k).name (asset_of a k).name).1 refl))
      by false e =
          let own = site_one a x k in
          none_named (λ name. bytes_eq (asset_of a k).name name) (assets_of b)
          (all_map (IsAt b.first.endpoint) (λ c. bytes_eq (asset_of a k).name c.name ≡ false)
          (λ c at. false_from_ne_true _ (λ yes.
          let same = same_name (asset_of a k) c own.0 at.0 yes in
          let ends : a.first.endpoint ≡ b.first.endpoint =
          sym (same_is (asset_of a k).endpoint a.first.endpoint own.1) ∙ ap (λ (d : Asset). d.endpoint) same ∙ same_is c.endpoint b.first.endpoint at.1 in
          true≢false (sym (ap (λ n. same_endpoint n b.first.endpoint) ends ∙ same_self b.first.endpoint) ∙ e)))
          (assets_of b) (site_all b y))

  module _ (client : Endpoint) (site : SiteValue) (known : IsEndpoint client) (among : IsSiteAmong assets site) where
    -- what a line of a flow tells
    abbrev pub IsTold : Flow → ℕ → List ℕ → Type 0
    IsTold f now line = (names_both client (names_of site) line ≡ is_flow_of client site.first.endpoint f) × (moment_in line ≡ now)

    line_told : (f : Flow) → IsEndpoint (client_of f) → IsSiteAmong assets f.site → (now : ℕ) → IsMoment now → (line : List ℕ) → IsAbout now (client_of f) f.site line → IsTold f now line
    line_told f e a now m line (k, (what, is)) =
        let asset = asset_of f.site k in
        let name = name_is asset (site_one f.site a k).0 in
        let value : LineValue = record { moment = now; client = client_of f; asset = asset.name; what = what } in (
          ap (names_both client (names_of site)) is ∙ names_is value m e name client (names_of site) known
              ∙ ap (λ b. same_endpoint (client_of f) client && b) (name_tells f.site site k a among),
          ap moment_in is ∙ moment_is value m e name,
        )

    pub lines_told : (f : Flow) → IsEndpoint (client_of f) → IsSiteAmong assets f.site → (now : ℕ) → IsMoment now → (xs : List (List ℕ)) → AreIts f now xs → AllByRecursion (IsTold f now) xs
    lines_told f e a now m xs h = all_map (IsAbout now (client_of f) f.site) (IsTold f now) (λ line g. line_told f e a now m line g) xs h
