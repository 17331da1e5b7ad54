-- Sessions that follow each other, each with what it put out at its own time; and what is selected by the life of one.
use Rattle.std.proofs.Common.{◌≡◌, ℕ, ◌<◌, ◌≤◌, Bool, true, false, List, [], ◌∷◌, ◌++◌, sym, ap, ◌∙◌, subst, append_assoc, arith, filter}
use Rattle.cf_isolation.proofs.Common.{AllByRecursion, Session, append-nil, born_at, filter-append, flat_map, is_in_life, nat_tests}
use Rattle.cf_isolation.proofs.Lists.{all_both, all_map, filter_all}

abbrev pub born : Session → ℕ
born s = born_at s.events

module _ {X : Type 0} (at : X → ℕ) (own : Session → List X) where
  -- from one moment on, and before another
  abbrev pub IsWithin : (low high : ℕ) → X → Type 0
  IsWithin low high x = (low ≤ at x) × (at x < high)

  -- each was born after all that those before it put out, and put out nothing before
  abbrev pub InOrder : (from : ℕ) → List Session → (until : ℕ) → Type 0
  InOrder from [] until = from ≤ until
  InOrder from (s ∷ ss) until = (u : ℕ) × (from ≤ born s) × (born s ≤ u) × AllByRecursion (IsWithin (born s) u) (own s) × InOrder u ss until

  -- ---- a list of sessions of which the last one puts out more, or to which one comes

  pub record Moves (before after : List Session) (more : List X) (until now : ℕ) : Type 0 where
    pub content : flat_map own after ≡ flat_map own before ++ more
    pub order : InOrder 0 before until → InOrder 0 after now

  later_end : (from : ℕ) (ss : List Session) (until now : ℕ) → until ≤ now → InOrder from ss until → InOrder from ss now
  later_end from [] until now l h = omega (arith, h, l)
  later_end from (s ∷ ss) until now l h = (h.0, h.1, h.2, h.3, later_end h.0 ss until now l h.4)

  pub stays_so : (ss : List Session) (until now : ℕ) → until ≤ now → Moves ss ss [] until now
  stays_so ss until now l = record { content = sym (append-nil (flat_map own ss)); order = later_end 0 ss until now l }

  grown_content : (ss : List Session) (s t : Session) (more : List X) → own t ≡ own s ++ more → flat_map own (ss ++ t ∷ []) ≡ flat_map own (ss ++ s ∷ []) ++ more
  grown_content [] s t more e = append-nil (own t) ∙ e ∙ ap (λ xs. xs ++ more) (sym (append-nil (own s)))
  grown_content (x ∷ ss) s t more e = ap (λ xs. own x ++ xs) (grown_content ss s t more e) ∙ sym (append_assoc (own x) (flat_map own (ss ++ s ∷ [])) more)

  grown_order : (from : ℕ) (ss : List Session) (s t : Session) (more : List X) (until now : ℕ) → born t ≡ born s → own t ≡ own s ++ more → AllByRecursion (IsWithin until now) more → until ≤ now →
      InOrder from (ss ++ s ∷ []) until → InOrder from (ss ++ t ∷ []) now
  grown_order from [] s t more until now b e new l h =
      let u = h.0 in
      let low = h.2 in
      let end = h.4 in
      let old = all_map (IsWithin (born s) u) (IsWithin (born s) now) (λ x g. (g.0, omega (arith, g.1, end, l))) (own s) h.3 in
      let fresh = all_map (IsWithin until now) (IsWithin (born s) now) (λ x g. (omega (arith, g.0, low, end), g.1)) more new in
      let all = subst (AllByRecursion (IsWithin (born s) now)) (sym e) (all_both (IsWithin (born s) now) (own s) more old fresh) in
      (now, subst (λ n. from ≤ n) (sym b) h.1, subst (λ n. n ≤ now) (sym b) (omega (arith, low, end, l)), subst (λ n. AllByRecursion (IsWithin n now) (own t)) (sym b) all, omega arith)
  grown_order from (x ∷ ss) s t more until now b e new l h = (h.0, h.1, h.2, h.3, grown_order h.0 ss s t more until now b e new l h.4)

  pub grows : (ss : List Session) (s t : Session) (more : List X) (until now : ℕ) → born t ≡ born s → own t ≡ own s ++ more → AllByRecursion (IsWithin until now) more → until ≤ now →
      Moves (ss ++ s ∷ []) (ss ++ t ∷ []) more until now
  grows ss s t more until now b e new l = record { content = grown_content ss s t more e; order = grown_order 0 ss s t more until now b e new l }

  come_content : (ss : List Session) (n : Session) → flat_map own (ss ++ n ∷ []) ≡ flat_map own ss ++ own n
  come_content [] n = append-nil (own n)
  come_content (x ∷ ss) n = ap (λ xs. own x ++ xs) (come_content ss n) ∙ sym (append_assoc (own x) (flat_map own ss) (own n))

  come_order : (from : ℕ) (ss : List Session) (n : Session) (until now : ℕ) → until ≤ born n → born n ≤ now → AllByRecursion (IsWithin (born n) now) (own n) → InOrder from ss until → InOrder from (ss ++ n ∷ []) now
  come_order from [] n until now a b all h = (now, omega (arith, h, a), b, all, omega arith)
  come_order from (x ∷ ss) n until now a b all h = (h.0, h.1, h.2, h.3, come_order h.0 ss n until now a b all h.4)

  pub comes : (ss : List Session) (n : Session) (more : List X) (until now : ℕ) → own n ≡ more → until ≤ born n → born n ≤ now → AllByRecursion (IsWithin (born n) now) more → Moves ss (ss ++ n ∷ []) more until now
  comes ss n more until now e a b all = record {
    content = come_content ss n ∙ ap (λ xs. flat_map own ss ++ xs) e;
    order = come_order 0 ss n until now a b (subst (AllByRecursion (IsWithin (born n) now)) (sym e) all);
  }

  -- ---- a life

  born_later : (from : ℕ) (before : List Session) (s : Session) (later : List Session) (until : ℕ) → InOrder from (before ++ s ∷ later) until → from ≤ born s
  born_later from [] s later until h = h.1
  born_later from (b ∷ before) s later until h = let more = born_later h.0 before s later until h.4 in omega (arith, h.1, h.2, more)

  all_later : (from : ℕ) (ss : List Session) (until : ℕ) → InOrder from ss until → AllByRecursion (λ x. from ≤ at x) (flat_map own ss)
  all_later from [] until h = tt
  all_later from (s ∷ ss) until h =
      let low = h.1 in
      let next = h.2 in
      all_both (λ x. from ≤ at x) (own s) (flat_map own ss) (all_map (IsWithin (born s) h.0) (λ x. from ≤ at x) (λ x g. omega (arith, g.0, low)) (own s) h.3)
      (all_map (λ x. h.0 ≤ at x) (λ x. from ≤ at x) (λ x g. omega (arith, g, low, next)) (flat_map own ss) (all_later h.0 ss until h.4))

  early : (b : ℕ) (later : List Session) (m : ℕ) → m < b → is_in_life b later m ≡ false
  early b [] m l = grind (arith, nat_tests, l)
  early b (n ∷ later) m l = grind (arith, nat_tests, l)

  abbrev alive : Session → List Session → X → Bool
  alive s later x = is_in_life (born s) later (at x)

  own_alive : (s : Session) (later : List Session) (u until : ℕ) → AllByRecursion (IsWithin (born s) u) (own s) → InOrder u later until → AllByRecursion (λ x. alive s later x ≡ true) (own s)
  own_alive s [] u until all h = all_map (IsWithin (born s) u) (λ x. alive s [] x ≡ true) (λ x g. grind (arith, nat_tests, g.0)) (own s) all
  own_alive s (n ∷ later) u until all h =
      let next = h.1 in all_map (IsWithin (born s) u) (λ x. alive s (n ∷ later) x ≡ true) (λ x g. grind (arith, nat_tests, g.0, g.1, next)) (own s) all

  later_dead : (s : Session) (later : List Session) (u until : ℕ) → InOrder u later until → AllByRecursion (λ x. alive s later x ≡ false) (flat_map own later)
  later_dead s [] u until h = tt
  later_dead s (n ∷ later) u until h =
      let same : InOrder (born n) (n ∷ later) until = (h.0, omega arith, h.2, h.3, h.4) in
      all_map (λ x. born n ≤ at x) (λ x. alive s (n ∷ later) x ≡ false) (λ x g. grind (arith, nat_tests, g)) (flat_map own (n ∷ later)) (all_later (born n) (n ∷ later) until same)

  pub life : (from : ℕ) (before : List Session) (s : Session) (later : List Session) (until : ℕ) → InOrder from (before ++ s ∷ later) until →
      filter (alive s later) (flat_map own (before ++ s ∷ later)) ≡ own s
  life from [] s later until h =
      filter-append (alive s later) (own s) (flat_map own later)
      ∙ ap (λ xs. xs ++ filter (alive s later) (flat_map own later)) (filter_all (alive s later) true (own s) (own_alive s later h.0 until h.3 h.4))
      ∙ ap (λ xs. own s ++ xs) (filter_all (alive s later) false (flat_map own later) (later_dead s later h.0 until h.4)) ∙ append-nil (own s)
  life from (b ∷ before) s later until h =
      let next = born_later h.0 before s later until h.4 in
      let dead = all_map (IsWithin (born b) h.0) (λ x. alive s later x ≡ false) (λ x g. early (born s) later (at x) (omega (arith, g.1, next))) (own b) h.3 in
      filter-append (alive s later) (own b) (flat_map own (before ++ s ∷ later))
      ∙ ap (λ xs. xs ++ filter (alive s later) (flat_map own (before ++ s ∷ later))) (filter_all (alive s later) false (own b) dead) ∙ life h.0 before s later until h.4
