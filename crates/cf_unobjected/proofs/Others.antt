-- A packet leaves the flows of another client or asset as they are.
use Rattle.std.proofs.Common.{◌≡◌, ◌&&◌, ◌==◌, ℕ, zero, suc, Bool, true, false, List, [], ◌∷◌, ◌++◌, set, slice_get, Option, Some, None, refl, sym, ap, ◌∙◌, subst, arith, if◌then◌else◌}
use Rattle.cf_unobjected.proofs.Common.{Endpoint, PacketValue, Watched, and_parts, append-nil, begins_anew, begun_by, false≢true, goes_at, goes_to, is_between, is_opening, last_place, nat_tests, none-some, pair_of, same_Some, same_endpoint, with_packet}
use Rattle.cf_watch.specs.Watched.{later_place}
use Rattle.cf_unobjected.proofs.Separate.{new_mine}

pub number_is : (a b : ℕ) → (a == b) ≡ true → a ≡ b
number_is a b e = grind (arith, nat_tests, e)

module _ (number asset other : ℕ) (p : PacketValue) (client : Endpoint) (apart : (same_endpoint p.source client && (asset == other)) ≡ false) where
  abbrev Mine : Watched → Bool
  Mine f = is_between p.source asset f

  abbrev Theirs : Watched → Bool
  Theirs f = is_between client other f

  abbrev pair : List Watched → List Watched
  pair ws = pair_of client other ws

  abbrev new : Watched
  new = begun_by number asset p

  -- no flow is of both
  not_theirs : (f : Watched) → Mine f ≡ true → Theirs f ≡ false
  not_theirs f h =
      let ends = (and_parts (same_endpoint f.client p.source) (f.asset == asset) h).0 in
      let a = number_is f.client.address p.source.address ((and_parts (f.client.address == p.source.address) _ ends).0) in
      let b = number_is f.client.port p.source.port ((and_parts (f.client.address == p.source.address) _ ends).1) in
      let c = number_is f.asset asset ((and_parts (same_endpoint f.client p.source) _ h).1) in
      ap (λ n. ((n == client.address) && (f.client.port == client.port)) && (f.asset == other)) a
      ∙ ap (λ n. ((p.source.address == client.address) && (n == client.port)) && (f.asset == other)) b
      ∙ ap (λ n. ((p.source.address == client.address) && (p.source.port == client.port)) && (n == other)) c
      ∙ apart

  add_none : (xs : List Watched) (f : Watched) (b : Bool) → b ≡ false → xs ++ (if b then f ∷ [] else []) ≡ xs
  add_none xs f true h = absurd (false≢true (sym h))
  add_none xs f false h = append-nil xs

  pair_append : (ws : List Watched) (f : Watched) → Theirs f ≡ false → pair (ws ++ f ∷ []) ≡ pair ws
  pair_append [] f h = add_none [] f (Theirs f) h
  pair_append (w ∷ ws) f h = ap (λ (xs : List Watched). xs ++ (if Theirs w then w ∷ [] else [])) (pair_append ws f h)

  pair_set : (ws : List Watched) (i : ℕ) (f g : Watched) → slice_get ws i ≡ Some f → Theirs f ≡ false → Theirs g ≡ false → pair (set ws i g) ≡ pair ws
  pair_set [] i f g e h k = refl
  pair_set (w ∷ ws) zero f g e h k =
      let same : w ≡ f = same_Some w f e in
      add_none (pair ws) g (Theirs g) k ∙ sym (add_none (pair ws) w (Theirs w) (ap Theirs same ∙ h))
  pair_set (w ∷ ws) (suc i) f g e h k = ap (λ (xs : List Watched). xs ++ (if Theirs w then w ∷ [] else [])) (pair_set ws i f g e h k)

  abbrev IsMineAt : List Watched → ℕ → Type 0
  IsMineAt ws i = (f : Watched) × (slice_get ws i ≡ Some f) × (Mine f ≡ true)

  mine_by : (w : Watched) (ws : List Watched) (o : Option ℕ) (b : Bool) (i : ℕ) → Mine w ≡ b → ((k : ℕ) → o ≡ Some k → IsMineAt ws k) → later_place o b ≡ Some i → IsMineAt (w ∷ ws) i
  mine_by w ws (Some k) b i m ih h = subst (IsMineAt (w ∷ ws)) (same_Some (suc k) i h) (ih k refl)
  mine_by w ws None true i m ih h = subst (IsMineAt (w ∷ ws)) (same_Some 0 i h) (w, refl, m)
  mine_by w ws None false i m ih h = absurd (none-some i h)

  mine_at : (ws : List Watched) (i : ℕ) → last_place p.source asset ws ≡ Some i → IsMineAt ws i
  mine_at [] i h = absurd (none-some i h)
  mine_at (w ∷ ws) i h = mine_by w ws (last_place p.source asset ws) (Mine w) i refl (mine_at ws) h

  stays_if : (b : Bool) (xs ys ws : List Watched) → pair xs ≡ pair ws → pair ys ≡ pair ws → pair (if b then xs else ys) ≡ pair ws
  stays_if true xs ys ws h g = h
  stays_if false xs ys ws h g = g

  with_new : (ws : List Watched) → pair (ws ++ new ∷ []) ≡ pair ws
  with_new ws = pair_append ws new (not_theirs new (new_mine number asset p))

  to_place : (ws : List Watched) (i : ℕ) (o : Option Watched) → slice_get ws i ≡ o → IsMineAt ws i → pair (goes_to number asset i p o ws) ≡ pair ws
  to_place ws i None e m = refl
  to_place ws i (Some f) e m =
      let same : m.0 ≡ f = same_Some m.0 f (sym m.1 ∙ e) in
      let theirs : Theirs f ≡ false = not_theirs f (sym (ap Mine same) ∙ m.2) in
      stays_if (begins_anew p f) (ws ++ new ∷ []) (set ws i (with_packet number p f)) ws (with_new ws) (pair_set ws i f (with_packet number p f) e theirs theirs)

  stays_by : (ws : List Watched) (o : Option ℕ) → last_place p.source asset ws ≡ o → pair (goes_at number asset p o ws) ≡ pair ws
  stays_by ws None e = stays_if (is_opening p) (ws ++ new ∷ []) ws ws (with_new ws) refl
  stays_by ws (Some i) e = to_place ws i (slice_get ws i) refl (mine_at ws i e)

  pub stays : (ws : List Watched) → pair (goes_at number asset p (last_place p.source asset ws) ws) ≡ pair ws
  stays ws = stays_by ws (last_place p.source asset ws) refl
