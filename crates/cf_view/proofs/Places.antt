-- What stands at the front of a stream, for a grammar by places.
use Rattle.std.proofs.Common.{◌≡◌, ℕ, zero, suc, ◌+◌, ◌-◌, min, ◌<◌, ◌≤◌, Bool, true, false, List, [], ◌∷◌, ◌++◌, length, get_or, take, drop, inl, inr, ◌⊎◌, refl, sym, ◌∙◌, ap, subst, append_assoc, arith, length-append, take-append-drop}
use Rattle.std.proofs.Math.Seq.{take-append_seam, get_or-append_seam}
use Rattle.std.proofs.lemmas.List.{take-take, take-append-le, take_all, get_or_append_left, get_or-take, length-take-le, append-nil}
use Rattle.std.proofs.lemmas.Bool.{cases_lt, cases_Bool, false≢true}
use Rattle.cf_view.proofs.OctetLists.{IsOctets-take, IsOctets-append}
use Rattle.cf_view.specs.Octets.{IsOctets}
use Rattle.cf_view.specs.Framing.{Begins, IsPartial, IsFront, BreaksAt, HasFront, IsPrefixFree}
use Rattle.cf_view.specs.Places.{EachFollows, IsUnit, SpellsBy}
use Rattle.std.proofs.lemmas.Grind.{common_steps}

-- the size is told by any front that is as long, and by any front that is as long as it tells
pub record IsTold (size : List ℕ → ℕ) : Type 0 where
  pub by_front : (xs ys : List ℕ) → size xs ≤ length xs → size (xs ++ ys) ≡ size xs
  pub by_whole : (xs ys : List ℕ) → size (xs ++ ys) ≤ length xs → size (xs ++ ys) ≡ size xs

-- an octet that may follow, after octets that are fewer than the unit's, and that changes no size
pub record GoesOn (follows : List ℕ → ℕ → Bool) (size : List ℕ → ℕ) (next : List ℕ → ℕ) : Type 0 where
  pub follows_on : (xs : List ℕ) → IsOctets xs → length xs < size xs → follows xs (next xs) ≡ true
  pub octet : (xs : List ℕ) → IsOctets xs → length xs < size xs → next xs < 256
  pub keeps : (xs : List ℕ) → length xs < size xs → size (xs ++ next xs ∷ []) ≡ size xs

one_octet : (c : ℕ) → c < 256 → IsOctets (c ∷ [])
one_octet c h zero = h
one_octet c h (suc i) = omega arith

module _ (follows : List ℕ → ℕ → Bool) (size : List ℕ → ℕ) (told : IsTold size) where
  -- of two units that begin the same octets, the one that is not longer is the other
  no_longer : (a b x y : List ℕ) → IsUnit follows size a → IsUnit follows size b → a ++ x ≡ b ++ y → length a ≤ length b → a ≡ b
  no_longer a b x y s t e h =
      grind (arith, common_steps, take-append_seam a x, take-append-le (length a) b y h, take-append-drop (length a) b, take_all)

  one_unit : (a b x y : List ℕ) → IsUnit follows size a → IsUnit follows size b → a ++ x ≡ b ++ y → a ≡ b
  one_unit a b x y s t e = grind (arith, common_steps, cases_lt, no_longer)

  -- the first octets of a longer list are as right as they are
  right_front : (xs : List ℕ) (n p : ℕ) → EachFollows follows xs n → p < n → follows (take p (take n xs)) (get_or (take n xs) p 0) ≡ true
  right_front xs n p r h = grind (arith, common_steps, take-take, get_or-take)

  unit_front : (xs : List ℕ) → IsOctets xs → size xs ≤ length xs → EachFollows follows xs (size xs) → IsUnit follows size (take (size xs) xs)
  unit_front xs o h r =
      let n = size xs in
      let long : length (take n xs) ≡ n = length-take-le n xs h in
      let whole : take n xs ++ drop n xs ≡ xs = take-append-drop n xs in
      let same : size xs ≡ size (take n xs) = ap size (sym whole) ∙ told.by_whole (take n xs) (drop n xs) (omega (arith, ap size whole, long)) in
      record {
        octets_are = IsOctets-take xs n o;
        whole = long ∙ same;
        right = λ p l. right_front xs n p r (omega (arith, long));
      }

  module _ (next : List ℕ → ℕ) (on : GoesOn follows size next) where
    right_more : (xs : List ℕ) (c : ℕ) → EachFollows follows xs (length xs) → follows xs c ≡ true → EachFollows follows (xs ++ c ∷ []) (length (xs ++ c ∷ []))
    right_more xs c r f p h =
        elim (cases_lt p (length xs)) [
          | inl v ↦ rw (take-append-le p xs (c ∷ []) (omega arith), get_or_append_left xs (c ∷ []) 0 p v) (r p v)
          | inr v ↦
              (let e : p ≡ length xs = omega (arith, length-append xs (c ∷ [])) in
              rw (e, take-append_seam xs (c ∷ []), get_or-append_seam xs c [] 0) f)
        ]

    -- octets that are right and too few are the beginning of a unit
    grown : (n : ℕ) (xs : List ℕ) → IsOctets xs → EachFollows follows xs (length xs) → length xs + n ≡ size xs → (more : List ℕ) × (length more ≡ n) × IsUnit follows size (xs ++ more)
    grown zero xs o r h = ([], refl, rw (append-nil xs) (record { octets_are = o; whole = omega arith; right = r }))
    grown (suc n) xs o r h =
        let short : length xs < size xs = omega arith in
        let c = next xs in
        let k = on.keeps xs short in
        let g = grown n (xs ++ c ∷ []) (IsOctets-append xs (c ∷ []) o (one_octet c (on.octet xs o short))) (right_more xs c r (on.follows_on xs o short)) (omega (arith, k, length-append xs (c ∷ []))) in
        (c ∷ g.0, ap suc g.1, subst (IsUnit follows size) (append_assoc xs (c ∷ []) g.0) g.2)

    module _ {U : Type 0} (of : List ℕ → U) where
      pub partial : (xs : List ℕ) → IsOctets xs → EachFollows follows xs (length xs) → length xs < size xs → IsPartial (SpellsBy follows size of) xs
      partial xs o r h =
          let g = grown (size xs - length xs) xs o r (omega arith) in
          record { whole = of (xs ++ g.0); more = g.0; proper = omega (arith, g.1); spells = record { unit = g.2; fields = refl } }

      -- an octet that may not follow breaks
      pub breaks : (xs : List ℕ) (i : ℕ) → IsOctets xs → i < length xs → i < size xs → EachFollows follows xs i → follows (take i xs) (get_or xs i 0) ≡ false → BreaksAt (SpellsBy follows size of) xs i
      breaks xs i o inside h r f =
          let long : length (take i xs) ≡ i = length-take-le i xs (omega arith) in
          let whole : take i xs ++ drop i xs ≡ xs = take-append-drop i xs in
          let short : i < size (take i xs) = elim (cases_lt i (size (take i xs))) [
            | inl v ↦ v
            | inr v ↦ (let same = ap size (sym whole) ∙ told.by_front (take i xs) (drop i xs) (omega (arith, long)) in absurd (omega (arith, same)))
          ] in
          let right : EachFollows follows (take i xs) (length (take i xs)) = λ p l. right_front xs i p r (omega (arith, long)) in
          record {
            inside = inside;
            before = partial (take i xs) (IsOctets-take xs i o) right (omega (arith, long));
            here = λ front. (let longer : length (take (i + 1) xs) ≡ i + 1 = length-take-le (i + 1) xs (omega arith) in
                let at = front.spells.unit.right i (omega (arith, longer, length-append (take (i + 1) xs) front.more)) in
                let e1 : take i (take (i + 1) xs ++ front.more) ≡ take i xs = take-append-le i (take (i + 1) xs) front.more (omega (arith, longer)) ∙ take-take i (i + 1) xs (omega arith) in
                let e2 : get_or (take (i + 1) xs ++ front.more) i 0 ≡ get_or xs i 0 = get_or_append_left (take (i + 1) xs) front.more 0 i (omega (arith, longer)) ∙ get_or-take (i + 1) xs i 0 (omega arith) in
                let at' = rw (e1, e2) at at in
                false≢true (sym f ∙ at'));
          }

  module _ {U : Type 0} (of : List ℕ → U) where
    pub begins : (xs : List ℕ) → IsOctets xs → size xs ≤ length xs → EachFollows follows xs (size xs) → Begins (SpellsBy follows size of) xs (of (take (size xs) xs)) (size xs)
    begins xs o h r = record { inside = h; spells = record { unit = unit_front xs o h r; fields = refl } }

    pub prefix_free : IsPrefixFree (SpellsBy follows size of)
    prefix_free u v a b x y s t e = grind (arith, common_steps, one_unit)

-- the first of n octets that may not follow those before it, or none
first_wrong : (follows : List ℕ → ℕ → Bool) (xs : List ℕ) (n : ℕ) → EachFollows follows xs n ⊎ ((p : ℕ) × (p < n) × EachFollows follows xs p × (follows (take p xs) (get_or xs p 0) ≡ false))
first_wrong follows xs zero = inl (λ p h. absurd (omega (arith, h)))
first_wrong follows xs (suc n) =
    elim (first_wrong follows xs n) [
      | inr w ↦ (let below = w.1 in inr (w.0, omega (arith, below), w.2, w.3))
      | inl r ↦ elim (cases_Bool (follows (take n xs) (get_or xs n 0))) [
        | inl t ↦ inl (λ p h. elim (cases_lt p n) [
          | inl v ↦ r p v
          | inr v ↦ (let e : p ≡ n = omega (arith, h, v) in rw e t)
        ])
        | inr f ↦ inr (n, omega arith, r, f)
      ]
    ]

-- each list of octets has a front
module _ (follows : List ℕ → ℕ → Bool) (size : List ℕ → ℕ) (told : IsTold size) (next : List ℕ → ℕ) (on : GoesOn follows size next) {U : Type 0} (of : List ℕ → U) where
  pub has_front : ((xs : List ℕ) → 0 < size xs) → (xs : List ℕ) → IsOctets xs → HasFront (SpellsBy follows size of) xs
  has_front some xs o =
      elim (first_wrong follows xs (min (length xs) (size xs))) [
        | inr w ↦ (let below = w.1 in inr (inr (w.0, breaks follows size told next on of xs w.0 o (omega (arith, below)) (omega (arith, below)) w.2 w.3)))
        | inl r ↦ elim (cases_lt (length xs) (size xs)) [
          | inl short ↦ (let e : length xs ≡ min (length xs) (size xs) = omega (arith, short) in
              inr (inl (partial follows size told next on of xs o (λ p h. r p (omega (arith, h, e))) short)))
          | inr long ↦ (let e : size xs ≡ min (length xs) (size xs) = omega (arith, long) in
              inl (of (take (size xs) xs), size xs, begins follows size told of xs o long (λ p h. r p (omega (arith, h, e))), some xs))
        ]
      ]

-- two relations that spell the same have the same fronts
module _ {U : Type 0} (A B : U → List ℕ → Type 0) (to : (u : U) (xs : List ℕ) → A u xs → B u xs) (from : (u : U) (xs : List ℕ) → B u xs → A u xs) where
  pub begins_too : (xs : List ℕ) (u : U) (n : ℕ) → Begins A xs u n → Begins B xs u n
  begins_too xs u n b = record { inside = b.inside; spells = to u (take n xs) b.spells }

  pub partial_too : (xs : List ℕ) → IsPartial A xs → IsPartial B xs
  partial_too xs p = record { whole = p.whole; more = p.more; proper = p.proper; spells = to p.whole (xs ++ p.more) p.spells }

  front_back : (xs : List ℕ) → IsFront B xs → IsFront A xs
  front_back xs f = record { whole = f.whole; more = f.more; spells = from f.whole (xs ++ f.more) f.spells }

  pub breaks_too : (xs : List ℕ) (i : ℕ) → BreaksAt A xs i → BreaksAt B xs i
  breaks_too xs i b = record { inside = b.inside; before = partial_too (take i xs) b.before; here = λ f. b.here (front_back (take (i + 1) xs) f) }

  pub free_too : IsPrefixFree A → IsPrefixFree B
  free_too free u v a b x y s t e = free u v a b x y (from u a s) (from v b t) e

  pub front_too : (xs : List ℕ) → HasFront A xs → HasFront B xs
  front_too xs h =
      elim h [
        | inl b ↦ (let some = b.3 in inl (b.0, b.1, begins_too xs b.0 b.1 b.2, some))
        | inr (inl p) ↦ inr (inl (partial_too xs p))
        | inr (inr w) ↦ inr (inr (w.0, breaks_too xs w.0 w.1))
      ]
