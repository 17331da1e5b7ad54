-- What is kept of clients, behind a turn of a session and behind its end.
use Rattle.std.proofs.Common.{Bool, List, None, Option, Some, ap, arith, inl, inr, refl, subst, suc, sym, true, false, zero, ℕ, ◌++◌, ◌∙◌, ◌∷◌, ◌≡◌, ◌⊎◌, []}
use Rattle.std.proofs.Common.{if◌then◌else◌}
use Rattle.std.specs.List.{AllByRecursion}
use Rattle.std.specs.Prelude.{IfSome, slice_get, ◌&&◌, ◌==◌}
use Rattle.std.proofs.lemmas.Bool.{eq-eqb}
use Rattle.std.proofs.lemmas.Bool.Decides.{nat_tests}
use Rattle.std.proofs.lemmas.Option.{same_Some}
use Rattle.cf_lane.specs.Caller.{RateMoments}
use Rattle.cf_lane.specs.Over.{are_over}
use Rattle.cf_lane.specs.Ring.{RingValue}
use Rattle.cf_lane.specs.Rings.{AreRingsOf, KnowRings}
use Rattle.cf_outside.specs.Pair.{Entry}
use Rattle.cf_policy.specs.Site.{IsSiteWithin, SiteValue}
use Rattle.cf_serve.proofs.Beginning.{forgotten_last, left_other, left_own, left_stay, stored_more}
use Rattle.cf_serve.proofs.Forgetting.{over_at}
use Rattle.cf_serve.specs.Kept.{left_to}
use Rattle.cf_serve.specs.Lending.{Fits, Has, IsDropped, IsFree, IsStored, KeepsOthers, KeptRings, KeptValue, Lends, Lent, Stored, kept_at, rings_in}
use Rattle.cf_serve.specs.Phase.{HasLent, IsGivenBack, LeavesOf, LinkedValue, listening_at, listenings, rings_for}
use Rattle.cf_serve.specs.Rounds.{Seat, TurnOf, has_rates, is_client}
use Rattle.cf_serve.specs.Session.{Listening}
use Rattle.cf_serve.specs.declared.end.SessionEnd.{SessionEnd}
use Rattle.cf_serve.specs.declared.table.Place.{Place}

-- the sites of the places
abbrev pub AreWithin : List Listening → Type 0
AreWithin places = (place : ℕ) (at : Listening) → slice_get places place ≡ Some at → IsSiteWithin at.site

eq_flip : (m n : ℕ) → (m == n) ≡ (n == m)
eq_flip m n = grind (arith, nat_tests)

key_flip : (p a : ℕ) (z : Seat) (b : Bool) → is_client p a z ≡ b → ((p == z.place) && (a == z.client.address)) ≡ b
key_flip p a z b h =
    ap (λ (x : Bool). x && (a == z.client.address)) (eq_flip p z.place) ∙ ap (λ (x : Bool). (z.place == p) && x) (eq_flip a z.client.address) ∙ h

both_true : (a b : Bool) → (a && b) ≡ true → (a ≡ true) × (b ≡ true)
both_true true true h = (refl, refl)
both_true true false h = cc
both_true false b h = cc

eq_by : (m n : ℕ) → (m == n) ≡ true → m ≡ n
eq_by m n h = grind (arith, nat_tests)

own_key : (p a : ℕ) (z : Seat) → is_client p a z ≡ true → (z.place ≡ p) × (z.client.address ≡ a)
own_key p a z h = let b = both_true (z.place == p) (z.client.address == a) h in (eq_by z.place p b.0, eq_by z.client.address a b.1)

-- ---- one entry, as a session is lent what is kept

abbrev LendsOne : (session moment : ℕ) → (k k' : Option KeptRings) → Type 0
LendsOne session moment k k' = (k' ≡ k) ⊎ ((IsDropped moment k × (k' ≡ None)) ⊎ (IsFree k × (k' ≡ Some (Lent session))))

lent_one : (session moment n : ℕ) (k k' : Option KeptRings) → k ≡ Some (Lent n) → LendsOne session moment k k' → k' ≡ Some (Lent n)
lent_one session moment n k k' is (inl same) = same ∙ is
lent_one session moment n k k' is (inr (inl (dropped, none))) = absurd (subst (IsDropped moment) is dropped)
lent_one session moment n k k' is (inr (inr (free, lent))) = absurd (subst IsFree is free)

has_one : (session moment : ℕ) (rings : List (List RingValue)) (k k' : Option KeptRings) → k' ≡ Some (Has rings) → LendsOne session moment k k' → k ≡ Some (Has rings)
has_one session moment rings k k' is (inl same) = sym same ∙ is
has_one session moment rings k k' is (inr (inl (dropped, none))) = let e : None ≡ Some (Has rings) = sym none ∙ is in cc
has_one session moment rings k k' is (inr (inr (free, lent))) = let e : Some (Lent session) ≡ Some (Has rings) = sym lent ∙ is in cc

module _ (site : SiteValue) (within : IsSiteWithin site) (past : List TurnOf) (t : TurnOf) (moment : ℕ) (at_moment : t.moment ≡ moment) (left : RateMoments) where
  dropped_one : (k : Option KeptRings) → ((rings : List (List RingValue)) → k ≡ Some (Has rings) → AreRingsOf site rings) → Stored site past left k → IsDropped moment k →
      Stored site (past ++ t ∷ []) left None
  dropped_one None fits stored dropped = absurd dropped
  dropped_one (Some (Has rings)) fits stored dropped =
      inr (forgotten_last site left past t (over_at site rings left t.moment within (fits rings refl) stored (ap (λ (m : ℕ). are_over m rings) at_moment ∙ dropped)))
  dropped_one (Some (Lent n)) fits stored dropped = absurd dropped

  stored_one : (session : ℕ) (k k' : Option KeptRings) → ((rings : List (List RingValue)) → k ≡ Some (Has rings) → AreRingsOf site rings) → Stored site past left k → LendsOne session moment k k' →
      Stored site (past ++ t ∷ []) left k'
  stored_one session k k' fits stored (inl same) = subst (Stored site (past ++ t ∷ []) left) (sym same) (stored_more site left past (t ∷ []) k stored)
  stored_one session k k' fits stored (inr (inl (dropped, none))) = subst (Stored site (past ++ t ∷ []) left) (sym none) (dropped_one k fits stored dropped)
  stored_one session k k' fits stored (inr (inr (free, lent))) = subst (Stored site (past ++ t ∷ []) left) (sym lent) tt

-- ---- all of them

pub lent_on : (site : SiteValue) (session moment : ℕ) (store store' : List KeptValue) → Lends session moment store store' → (seat : Seat) (o : Option LinkedValue) → HasLent site store seat o → HasLent site store' seat o
lent_on site session moment store store' lends seat None h = tt
lent_on site session moment store store' lends seat (Some v) h = λ rated. lent_one session moment seat.session _ _ (h rated) (lends seat.place seat.client.address)

pub fits_on : (places : List Listening) (session moment : ℕ) (store store' : List KeptValue) → Lends session moment store store' → Fits places store → Fits places store'
fits_on places session moment store store' lends fits place address rings is = fits place address rings (has_one session moment rings _ _ is (lends place address))

-- nothing is lent and nothing dropped
pub stored_idle : (places : List Listening) (store : List KeptValue) (past : List TurnOf) (t : TurnOf) → t.end ≡ None → IsStored places store past → IsStored places store (past ++ t ∷ [])
stored_idle places store past t none stored p a at is rated =
    subst (λ (left : RateMoments). Stored at.site (past ++ t ∷ []) left (kept_at store p a)) (sym (left_stay p a past t none))
    (stored_more at.site (left_to p a past) past (t ∷ []) (kept_at store p a) (stored p a at is rated))

pub lends_none : (session moment : ℕ) (store : List KeptValue) → Lends session moment store store
lends_none session moment store p a = inl refl

module _ (places : List Listening) (within : AreWithin places) (past : List TurnOf) (t : TurnOf) (session moment : ℕ) (at_moment : t.moment ≡ moment) (store store' : List KeptValue)
    (stored : IsStored places store past) (fits : Fits places store) (lends : Lends session moment store store') where
  one_stored : (p a : ℕ) (at : Listening) → slice_get places p ≡ Some at → has_rates at.site ≡ true → Stored at.site (past ++ t ∷ []) (left_to p a past) (kept_at store' p a)
  one_stored p a at is rated =
      stored_one at.site (within p at is) past t moment at_moment (left_to p a past) session (kept_at store p a) (kept_at store' p a) (λ rings h. fits p a rings h at is) (stored p a at is rated) (lends p a)

  -- the session stays
  pub stored_stays : t.end ≡ None → IsStored places store' (past ++ t ∷ [])
  stored_stays none p a at is rated = subst (λ (left : RateMoments). Stored at.site (past ++ t ∷ []) left (kept_at store' p a)) (sym (left_stay p a past t none)) (one_stored p a at is rated)

  -- it ended, and gave back what it had
  module _ (z : Seat) (seat : t.seat ≡ z) (e : SessionEnd) (ended : t.end ≡ Some e) (at : Listening) (is_at : slice_get places z.place ≡ Some at) (store'' : List KeptValue)
      (others : KeepsOthers z.place z.client.address store' store'') (before : RateMoments) (es : List Entry) where
    over_stored : (rings : List (List RingValue)) (b : Bool) → are_over moment rings ≡ b → AreRingsOf at.site rings → KnowRings rings t.left →
        Stored at.site (past ++ t ∷ []) t.left (if b then None else Some (Has rings))
    over_stored rings true over fit know =
        inr (forgotten_last at.site t.left past t (over_at at.site rings t.left t.moment (within z.place at is_at) fit know (ap (λ (m : ℕ). are_over m rings) at_moment ∙ over)))
    over_stored rings false over fit know = know

    own_stored : (o : Option LinkedValue) → LeavesOf at before (left_to z.place z.client.address past) es o t.left →
        IsGivenBack at.site moment o (kept_at store' z.place z.client.address) (kept_at store'' z.place z.client.address) → has_rates at.site ≡ true →
        Stored at.site (past ++ t ∷ []) t.left (kept_at store'' z.place z.client.address)
    own_stored None left back rated =
        subst (Stored at.site (past ++ t ∷ []) t.left) (sym back)
        (subst (λ (l : RateMoments). Stored at.site (past ++ t ∷ []) l (kept_at store' z.place z.client.address)) (sym left) (one_stored z.place z.client.address at is_at rated))
    own_stored (Some v) (js, (items, (rules, left))) back rated =
        let b = back.1 rated in
        subst (Stored at.site (past ++ t ∷ []) t.left) (sym b.1.1.1)
        (over_stored b.0 (are_over moment b.0) refl b.1.0 (subst (KnowRings b.0) (sym left) (b.1.1.0 before js rules)))

    module _ (o : Option LinkedValue) (left : LeavesOf at before (left_to z.place z.client.address past) es o t.left)
        (back : IsGivenBack at.site moment o (kept_at store' z.place z.client.address) (kept_at store'' z.place z.client.address)) where
      stored_by : (p a : ℕ) (at' : Listening) → slice_get places p ≡ Some at' → has_rates at'.site ≡ true → (b : Bool) → is_client p a z ≡ b →
          Stored at'.site (past ++ t ∷ []) (left_to p a (past ++ t ∷ [])) (kept_at store'' p a)
      stored_by p a at' is rated false not =
          subst (Stored at'.site (past ++ t ∷ []) (left_to p a (past ++ t ∷ []))) (sym (others p a (key_flip p a z false not)))
          (subst (λ (l : RateMoments). Stored at'.site (past ++ t ∷ []) l (kept_at store' p a)) (sym (left_other p a past t (ap (is_client p a) seat ∙ not))) (one_stored p a at' is rated))
      stored_by p a at' is rated true own =
          let k = own_key p a z own in
          let same : at ≡ at' = same_Some at at' (sym is_at ∙ ap (slice_get places) k.0 ∙ is) in
          subst (λ (l : RateMoments). Stored at'.site (past ++ t ∷ []) l (kept_at store'' p a)) (sym (left_own p a past t (ap (is_client p a) seat ∙ own) e ended))
          (subst (λ (x : ℕ). Stored at'.site (past ++ t ∷ []) t.left (kept_at store'' p x)) k.1
          (subst (λ (x : ℕ). Stored at'.site (past ++ t ∷ []) t.left (kept_at store'' x z.client.address)) k.0
          (subst (λ (x : Listening). Stored x.site (past ++ t ∷ []) t.left (kept_at store'' z.place z.client.address)) same
          (own_stored o left back (ap (λ (x : Listening). has_rates x.site) same ∙ rated)))))

      pub stored_ends : IsStored places store'' (past ++ t ∷ [])
      stored_ends p a at' is rated = stored_by p a at' is rated (is_client p a z) refl

-- the rings of an entry that has some, and the number of a session that has one
abbrev rings_of : Option KeptRings → List (List RingValue)
rings_of None = []
rings_of (Some (Has rings)) = rings
rings_of (Some (Lent n)) = []

abbrev lent_number : Option KeptRings → ℕ
lent_number None = 0
lent_number (Some (Has rings)) = 0
lent_number (Some (Lent n)) = n

has_same : (rings rings' : List (List RingValue)) → Some (Has rings) ≡ Some (Has rings') → rings ≡ rings'
has_same rings rings' is = ap rings_of is

not_other : (n : ℕ) → (n == n) ≡ false → ⊥
not_other n h = let e : (n == n) ≡ true = eq-eqb n n refl in let f : true ≡ false = sym e ∙ h in cc

-- what is given back fits, and takes nothing from another session
module _ (places : List Listening) (z : Seat) (at : Listening) (is_at : slice_get places z.place ≡ Some at) (moment : ℕ) (store store' : List KeptValue) (others : KeepsOthers z.place z.client.address store store') where
  over_has : (rings rings' : List (List RingValue)) (b : Bool) → (if b then None else Some (Has rings)) ≡ Some (Has rings') → AreRingsOf at.site rings → AreRingsOf at.site rings'
  over_has rings rings' true is fit = cc
  over_has rings rings' false is fit = subst (AreRingsOf at.site) (has_same rings rings' is) fit

  own_fits : (o : Option LinkedValue) (k k' : Option KeptRings) → IsGivenBack at.site moment o k k' → ((rings : List (List RingValue)) → k ≡ Some (Has rings) → AreRingsOf at.site rings) →
      (rings : List (List RingValue)) → k' ≡ Some (Has rings) → (b : Bool) → has_rates at.site ≡ b → AreRingsOf at.site rings
  own_fits None k k' back fit rings is b rated = fit rings (sym back ∙ is)
  own_fits (Some v) k k' back fit rings is false rated = fit rings (sym (back.0 rated) ∙ is)
  own_fits (Some v) k k' back fit rings is true rated =
      let b = back.1 rated in
      over_has b.0 rings (are_over moment b.0) (sym b.1.1.1 ∙ is) b.1.0

  module _ (o : Option LinkedValue) (back : IsGivenBack at.site moment o (kept_at store z.place z.client.address) (kept_at store' z.place z.client.address)) where
    fits_by : Fits places store → (p a : ℕ) (rings : List (List RingValue)) → kept_at store' p a ≡ Some (Has rings) → (at' : Listening) → slice_get places p ≡ Some at' → (b : Bool) → is_client p a z ≡ b →
        AreRingsOf at'.site rings
    fits_by fits p a rings is at' is' false not = fits p a rings (sym (others p a (key_flip p a z false not)) ∙ is) at' is'
    fits_by fits p a rings is at' is' true own =
        let k = own_key p a z own in
        let same : at ≡ at' = same_Some at at' (sym is_at ∙ ap (slice_get places) k.0 ∙ is') in
        subst (λ (x : Listening). AreRingsOf x.site rings) same
        (own_fits o (kept_at store z.place z.client.address) (kept_at store' z.place z.client.address) back (λ rs h. fits z.place z.client.address rs h at is_at) rings
        (ap (λ (x : ℕ). kept_at store' x z.client.address) k.0 ∙ ap (λ (x : ℕ). kept_at store' p x) k.1 ∙ is) (has_rates at.site) refl)

    pub fits_ends : Fits places store → Fits places store'
    fits_ends fits p a rings is at' is' = fits_by fits p a rings is at' is' (is_client p a z) refl

    -- its own entry is of no other session
    own_lent : (n : ℕ) → (z.session == n) ≡ false → (x : Option LinkedValue) → x ≡ o → HasLent at.site store z x → has_rates at.site ≡ true →
        kept_at store z.place z.client.address ≡ Some (Lent n) → kept_at store' z.place z.client.address ≡ Some (Lent n)
    own_lent n other None is lent rated its = subst (λ (x : Option LinkedValue). IsGivenBack at.site moment x (kept_at store z.place z.client.address) (kept_at store' z.place z.client.address)) (sym is) back ∙ its
    own_lent n other (Some v) is lent rated its =
        let e : z.session ≡ n = ap lent_number (sym (lent rated) ∙ its) in
        let f : (n == n) ≡ false = subst (λ (x : ℕ). (x == n) ≡ false) e other in
        absurd (not_other n f)

    lent_by : HasLent at.site store z o → (q : Seat) → (z.session == q.session) ≡ false → (at' : Listening) → slice_get places q.place ≡ Some at' → has_rates at'.site ≡ true →
        kept_at store q.place q.client.address ≡ Some (Lent q.session) → (b : Bool) → is_client q.place q.client.address z ≡ b → kept_at store' q.place q.client.address ≡ Some (Lent q.session)
    lent_by lent q other at' is' rated its false not = others q.place q.client.address (key_flip q.place q.client.address z false not) ∙ its
    lent_by lent q other at' is' rated its true own =
        let k = own_key q.place q.client.address z own in
        let same : at' ≡ at = same_Some at' at (sym is' ∙ ap (slice_get places) (sym k.0) ∙ is_at) in
        let key : (s : List KeptValue) → kept_at s z.place z.client.address ≡ kept_at s q.place q.client.address =
        λ s. ap (λ (x : ℕ). kept_at s x z.client.address) k.0 ∙ ap (λ (x : ℕ). kept_at s q.place x) k.1 in
        sym (key store') ∙ own_lent q.session other o refl lent (ap (λ (x : Listening). has_rates x.site) (sym same) ∙ rated) (key store ∙ its)

    pub lent_ends : HasLent at.site store z o → (q : Seat) (x : Option LinkedValue) → (z.session == q.session) ≡ false → (at' : Listening) → slice_get places q.place ≡ Some at' →
        HasLent at'.site store q x → HasLent at'.site store' q x
    lent_ends lent q None other at' is' h = tt
    lent_ends lent q (Some v) other at' is' h = λ rated. lent_by lent q other at' is' rated (h rated) (is_client q.place q.client.address z) refl

pub within_all : (ps : List Place) → AllByRecursion (λ (p : Place). IsSiteWithin p.site) ps → AreWithin (listenings ps)
within_all [] h place at is = cc is
within_all (p ∷ ps) (w, h) zero at is = subst (λ (a : Listening). IsSiteWithin a.site) (same_Some (listening_at p) at is) w
within_all (p ∷ ps) (w, h) (suc place) at is = within_all ps h place at is

-- the rings that are there for a session fit
fits_by_kept : (site : SiteValue) (b : Bool) (k : Option KeptRings) → ((rings : List (List RingValue)) → k ≡ Some (Has rings) → AreRingsOf site rings) → IfSome (if b then rings_in k else None) (AreRingsOf site)
fits_by_kept site false k fit = tt
fits_by_kept site true None fit = tt
fits_by_kept site true (Some (Has rings)) fit = fit rings refl
fits_by_kept site true (Some (Lent n)) fit = tt

pub fits_for : (places : List Listening) (store : List KeptValue) → Fits places store → (place address : ℕ) (at : Listening) → slice_get places place ≡ Some at →
    IfSome (rings_for at.site store place address) (AreRingsOf at.site)
fits_for places store fits place address at is = fits_by_kept at.site (has_rates at.site) (kept_at store place address) (λ rings h. fits place address rings h at is)
