-- A packet changes the flows of its own client and asset as if there were no others.
use Rattle.std.proofs.Common.{◌≡◌, ◌==◌, ℕ, suc, Bool, true, false, inl, inr, List, [], ◌∷◌, ◌++◌, slice_get, Option, Some, None, refl, sym, ap, ◌∙◌, arith, if◌then◌else◌}
use Rattle.cf_unobjected.proofs.Common.{PacketValue, Watched, begins_anew, begun_by, cases_Bool, goes_at, goes_to, is_between, is_opening, last_place, nat_tests, none-some, pair_of, pair_on}
use Rattle.cf_watch.specs.Watched.{later_place}

pub self_number : (n : ℕ) → (n == n) ≡ true
self_number n = grind (arith, nat_tests)

module _ (number asset : ℕ) (p : PacketValue) where
  abbrev Mine : Watched → Bool
  Mine f = is_between p.source asset f

  abbrev pair : List Watched → List Watched
  pair ws = pair_of p.source asset ws

  abbrev one_if : Watched → List Watched
  one_if f = if Mine f then f ∷ [] else []

  abbrev new : Watched
  new = begun_by number asset p

  abbrev go : List Watched → List Watched
  go ws = goes_at number asset p (last_place p.source asset ws) ws

  pub new_mine : Mine new ≡ true
  new_mine = rw (self_number p.source.address, self_number p.source.port, self_number asset) refl

  pair_append : (ws : List Watched) → pair (ws ++ new ∷ []) ≡ new ∷ pair ws
  pair_append [] = rw new_mine refl
  pair_append (w ∷ ws) = ap (λ (xs : List Watched). xs ++ one_if w) (pair_append ws)

  none_later : (o : Option ℕ) (b : Bool) → later_place o b ≡ None → (o ≡ None) × (b ≡ false)
  none_later (Some i) b h = absurd (none-some (suc i) (sym h))
  none_later None true h = absurd (none-some 0 (sym h))
  none_later None false h = (refl, refl)

  none_pair : (ws : List Watched) → last_place p.source asset ws ≡ None → pair ws ≡ []
  none_pair [] h = refl
  none_pair (w ∷ ws) h =
      let x = none_later (last_place p.source asset ws) (Mine w) h in
      rw (none_pair ws x.0, x.1) refl

  -- on a list that is not empty only its head is changed
  on_front : (f : Watched) (fs t : List Watched) → pair_on number asset p (f ∷ fs) ++ t ≡ pair_on number asset p (f ∷ (fs ++ t))
  on_front f fs t = elim (cases_Bool (begins_anew p f)) [ inl a ↦ rw a refl | inr a ↦ rw a refl ]

  abbrev HasFront : List Watched → Type 0
  HasFront xs = (f : Watched) × (fs : List Watched) × (xs ≡ f ∷ fs)

  some_pair_by : (w : Watched) (ws : List Watched) (o : Option ℕ) (b : Bool) (i : ℕ) → ((k : ℕ) → o ≡ Some k → HasFront (pair ws)) → (o ≡ None → pair ws ≡ []) → later_place o b ≡ Some i → HasFront (pair ws ++ (if b then w ∷ [] else []))
  some_pair_by w ws (Some k) b i ih none h = let x = ih k refl in (x.0, x.1 ++ (if b then w ∷ [] else []), ap (λ (xs : List Watched). xs ++ (if b then w ∷ [] else [])) x.2)
  some_pair_by w ws None true i ih none h = (w, [], ap (λ (xs : List Watched). xs ++ w ∷ []) (none refl))
  some_pair_by w ws None false i ih none h = absurd (none-some i h)

  some_pair : (ws : List Watched) (i : ℕ) → last_place p.source asset ws ≡ Some i → HasFront (pair ws)
  some_pair [] i h = absurd (none-some i h)
  some_pair (w ∷ ws) i h = some_pair_by w ws (last_place p.source asset ws) (Mine w) i (some_pair ws) (none_pair ws) h

  -- where a flow follows, the first one stays
  behind_to : (w : Watched) (ws : List Watched) (i : ℕ) (o : Option Watched) → goes_to number asset (suc i) p o (w ∷ ws) ≡ w ∷ goes_to number asset i p o ws
  behind_to w ws i None = refl
  behind_to w ws i (Some f) = elim (cases_Bool (begins_anew p f)) [ inl a ↦ rw a refl | inr a ↦ rw a refl ]

  behind : (w : Watched) (ws : List Watched) (i : ℕ) → last_place p.source asset ws ≡ Some i → go (w ∷ ws) ≡ w ∷ go ws
  behind w ws i h = rw h (behind_to w ws i (slice_get ws i))

  keeps_some : (w : Watched) (ws : List Watched) (i : ℕ) → last_place p.source asset ws ≡ Some i → pair (go ws) ≡ pair_on number asset p (pair ws) → pair (go (w ∷ ws)) ≡ pair_on number asset p (pair (w ∷ ws))
  keeps_some w ws i h ih =
      let x = some_pair ws i h in
      ap pair (behind w ws i h) ∙ ap (λ (xs : List Watched). xs ++ one_if w) (ih ∙ ap (pair_on number asset p) x.2) ∙ on_front x.0 x.1 (one_if w)
      ∙ ap (λ (xs : List Watched). pair_on number asset p (xs ++ one_if w)) (sym x.2)

  keeps_none : (w : Watched) (ws : List Watched) (b : Bool) → Mine w ≡ b → last_place p.source asset ws ≡ None → pair (go (w ∷ ws)) ≡ pair_on number asset p (pair (w ∷ ws))
  keeps_none w ws true m h =
      let e = none_pair ws h in
      let app = pair_append ws in
      elim (cases_Bool (begins_anew p w)) [
        | inl a ↦ rw (h, m, a, e) (ap (λ (xs : List Watched). xs ++ one_if w) (app ∙ ap (λ (xs : List Watched). new ∷ xs) e) ∙ rw (m, a) refl)
        | inr a ↦ rw (h, m, a, e) (rw (m, a) refl)
      ]
  keeps_none w ws false m h =
      let e = none_pair ws h in
      let app = pair_append ws in
      elim (cases_Bool (is_opening p)) [
        | inl a ↦ rw (h, m, a, e) (ap (λ (xs : List Watched). xs ++ one_if w) (app ∙ ap (λ (xs : List Watched). new ∷ xs) e) ∙ rw (m, a) refl)
        | inr a ↦ rw (h, m, a, e) (rw (m, a) refl)
      ]

  keeps_by : (w : Watched) (ws : List Watched) (o : Option ℕ) → last_place p.source asset ws ≡ o → pair (go ws) ≡ pair_on number asset p (pair ws) → pair (go (w ∷ ws)) ≡ pair_on number asset p (pair (w ∷ ws))
  keeps_by w ws None h ih = keeps_none w ws (Mine w) refl h
  keeps_by w ws (Some i) h ih = keeps_some w ws i h ih

  pub keeps : (ws : List Watched) → pair (go ws) ≡ pair_on number asset p (pair ws)
  keeps [] = elim (cases_Bool (is_opening p)) [ inl a ↦ rw a (rw new_mine refl) | inr a ↦ rw a refl ]
  keeps (w ∷ ws) = keeps_by w ws (last_place p.source asset ws) refl (keeps ws)
