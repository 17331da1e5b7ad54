-- The sessions of a client and a site in a table, where one of its elements goes, changes or leaves.
use Rattle.std.proofs.Common.{◌≡◌, ℕ, zero, suc, ◌≤◌, Bool, true, false, List, [], ◌∷◌, length, cond, Option, option_map, Some, None, refl, sym, ap, ◌∙◌, subst, arith}
use Rattle.std.specs.Prelude.{filter, position, slice_get}
use Rattle.std.specs.List.{remove}
use Rattle.std.proofs.lemmas.Bool.{and_parts}
use Rattle.std.proofs.lemmas.List.Sums.{count_by-le-length, length-filter}
use Rattle.std.proofs.lemmas.Option.{same_Some}
use Rattle.cf_session.specs.Session.{SessionEvent, client_of}
use Rattle.cf_view.specs.declared.Endpoint.{Endpoint}
use Rattle.cf_run.specs.Isolation.{is_theirs, ticks_of}
use Rattle.cf_run.specs.Table.{Session, is_between, place_of, without}
use Rattle.cf_run.specs.Trace.{AreTicks, replaced, with_event_at, with_events}
use Rattle.cf_run.proofs.Matched.{place_by, same_is}

-- ---- filters

pub filter_keeps : {A : Type 0} (p : A → Bool) (x : A) (xs : List A) → p x ≡ true → filter p (x ∷ xs) ≡ x ∷ filter p xs
filter_keeps p x xs e = ap (λ b. cond b (x ∷ filter p xs) (filter p xs)) e

pub filter_drops : {A : Type 0} (p : A → Bool) (x : A) (xs : List A) → p x ≡ false → filter p (x ∷ xs) ≡ filter p xs
filter_drops p x xs e = ap (λ b. cond b (x ∷ filter p xs) (filter p xs)) e

swap_one : {A : Type 0} (p q : A → Bool) (x : A) (xs : List A) (a b : Bool) → p x ≡ a → q x ≡ b → filter p (filter q xs) ≡ filter q (filter p xs) →
    filter p (filter q (x ∷ xs)) ≡ filter q (filter p (x ∷ xs))
swap_one p q x xs true true e f h =
    ap (filter p) (filter_keeps q x xs f) ∙ filter_keeps p x (filter q xs) e ∙ ap (λ l. x ∷ l) h ∙ sym (ap (filter q) (filter_keeps p x xs e) ∙ filter_keeps q x (filter p xs) f)
swap_one p q x xs true false e f h = ap (filter p) (filter_drops q x xs f) ∙ h ∙ sym (ap (filter q) (filter_keeps p x xs e) ∙ filter_drops q x (filter p xs) f)
swap_one p q x xs false true e f h = ap (filter p) (filter_keeps q x xs f) ∙ filter_drops p x (filter q xs) e ∙ h ∙ sym (ap (filter q) (filter_drops p x xs e))
swap_one p q x xs false false e f h = ap (filter p) (filter_drops q x xs f) ∙ h ∙ sym (ap (filter q) (filter_drops p x xs e))

-- two filters in either order
pub filter_swap : {A : Type 0} (p q : A → Bool) (xs : List A) → filter p (filter q xs) ≡ filter q (filter p xs)
filter_swap p q [] = refl
filter_swap p q (x ∷ xs) = swap_one p q x xs (p x) (q x) refl refl (filter_swap p q xs)

pub filter_at_most : {A : Type 0} (p : A → Bool) (xs : List A) → length (filter p xs) ≤ length xs
filter_at_most p xs = omega (arith, length-filter p xs, count_by-le-length p xs)

-- ---- which session is that of a client and a site

-- what a session between them is between
pub client_is : (client site : Endpoint) (s : Session) → is_between client site s ≡ true → client_of s.flow ≡ client
client_is client site s e = same_is (client_of s.flow) client (and_parts _ _ e).0

pub site_is : (client site : Endpoint) (s : Session) → is_between client site s ≡ true → s.flow.site.first.endpoint ≡ site
site_is client site s e = same_is s.flow.site.first.endpoint site (and_parts _ _ e).1

-- ---- the first of theirs

none_by : {A : Type 0} (p : A → Bool) (x : A) (xs : List A) (b : Bool) (o : Option ℕ) → p x ≡ b → position p xs ≡ o → cond b (Some 0) (option_map suc o) ≡ None →
    (p x ≡ false) × (position p xs ≡ None)
none_by p x xs true o e f h = cc
none_by p x xs false (Some i) e f h = cc
none_by p x xs false None e f h = (e, f)

pub none_there : {A : Type 0} (p : A → Bool) (xs : List A) → position p xs ≡ None → filter p xs ≡ []
none_there p [] h = refl
none_there p (x ∷ xs) h =
    let parts = none_by p x xs (p x) (position p xs) refl refl (sym (place_by p x xs (p x) refl) ∙ h) in
    filter_drops p x xs parts.0 ∙ none_there p xs parts.1

module _ (client site : Endpoint) where
  -- the first session of theirs, and the others of theirs
  pub record First (place : ℕ) (ss : List Session) : Type 0 where
    pub one : Session
    pub more : List Session
    pub at : slice_get ss place ≡ Some one
    pub passes : is_between client site one ≡ true
    pub is : filter (is_between client site) ss ≡ one ∷ more
    pub removed : filter (is_between client site) (remove ss place) ≡ more
    pub changed : (e : SessionEvent) →
        filter (is_between client site) (with_event_at place e ss) ≡ record one { events = replaced e one.events } ∷ more

  first_by : (s : Session) (ss : List Session) (place : ℕ) (b : Bool) (o : Option ℕ) → is_between client site s ≡ b → place_of client site ss ≡ o →
      cond b (Some 0) (option_map suc o) ≡ Some place → ((i : ℕ) → place_of client site ss ≡ Some i → First i ss) → First place (s ∷ ss)
  first_by s ss place true o h f at more =
      subst (λ n. First n (s ∷ ss)) (same_Some 0 place at)
      (record {
        one = s;
        more = filter (is_between client site) ss;
        at = refl;
        passes = h;
        is = filter_keeps (is_between client site) s ss h;
        removed = refl;
        changed = λ e. filter_keeps (is_between client site) (record s { events = replaced e s.events }) ss h;
      })
  first_by s ss place false None h f at more = cc
  first_by s ss place false (Some i) h f at more =
      let there = more i f in
      subst (λ n. First n (s ∷ ss)) (same_Some (suc i) place at)
      (record {
        one = there.one;
        more = there.more;
        at = there.at;
        passes = there.passes;
        is = filter_drops (is_between client site) s ss h ∙ there.is;
        removed = filter_drops (is_between client site) s (remove ss i) h ∙ there.removed;
        changed = λ e. filter_drops (is_between client site) s (with_event_at i e ss) h ∙ there.changed e;
      })

  never_in_none : (place : ℕ) → place_of client site [] ≡ Some place → ⊥
  never_in_none place h = cc

  pub first : (place : ℕ) (ss : List Session) → place_of client site ss ≡ Some place → First place ss
  first place [] h = absurd (never_in_none place h)
  first place (s ∷ ss) h =
      first_by s ss place (is_between client site s) (place_of client site ss) refl refl
      (sym (place_by (is_between client site) s ss (is_between client site s) refl) ∙ h) (λ i e. first i ss e)

module _ (client site : Endpoint) where
  -- ---- the first half

  pub ticks_are : (tick : ℕ) (ss : List Session) (ts : List SessionEvent) → AreTicks tick ss ts → AreTicks tick (filter (is_between client site) ss) (ticks_of client site ss ts)
  ticks_are tick [] ts are = refl
  ticks_are tick (s ∷ ss) [] are = absurd are
  ticks_are tick (s ∷ ss) (t ∷ ts) are =
      let more = ticks_are tick ss ts are.1 in
      let F = filter (is_between client site) ss in
      let T = ticks_of client site ss ts in
      elim (is_between client site s) as (λ b. AreTicks tick (cond b (s ∷ F) F) (cond b (t ∷ T) T)) [ true ↦ (are.0, more) | false ↦ more ]

  pub next_are : (tick : ℕ) (ss : List Session) (ts : List SessionEvent) → AreTicks tick ss ts →
      filter (is_between client site) (with_events ss ts) ≡ with_events (filter (is_between client site) ss) (ticks_of client site ss ts)
  next_are tick [] ts are = refl
  next_are tick (s ∷ ss) [] are = absurd are
  next_are tick (s ∷ ss) (t ∷ ts) are =
      let more = next_are tick ss ts are.1 in
      let new : Session = record s { events = t ∷ s.events } in
      let N = filter (is_between client site) (with_events ss ts) in
      let F = filter (is_between client site) ss in
      let T = ticks_of client site ss ts in
      elim (is_between client site s) as (λ b. cond b (new ∷ N) N ≡ with_events (cond b (s ∷ F) F) (cond b (t ∷ T) T)) [ true ↦ ap (λ l. new ∷ l) more | false ↦ more ]

  -- ---- one element changed, or taken out

  pub changed_other : (place : ℕ) (e : SessionEvent) (ss : List Session) → is_theirs client site (slice_get ss place) ≡ false →
      filter (is_between client site) (with_event_at place e ss) ≡ filter (is_between client site) ss
  changed_other place e [] h = refl
  changed_other zero e (s ∷ ss) h =
      filter_drops (is_between client site) (record s { events = replaced e s.events }) ss h ∙ sym (filter_drops (is_between client site) s ss h)
  changed_other (suc place) e (s ∷ ss) h =
      let more = changed_other place e ss h in
      let N = filter (is_between client site) (with_event_at place e ss) in
      let F = filter (is_between client site) ss in
      elim (is_between client site s) as (λ b. cond b (s ∷ N) N ≡ cond b (s ∷ F) F) [ true ↦ ap (λ l. s ∷ l) more | false ↦ more ]

  removed_other : (place : ℕ) (ss : List Session) → is_theirs client site (slice_get ss place) ≡ false → filter (is_between client site) (remove ss place) ≡ filter (is_between client site) ss
  removed_other zero [] h = refl
  removed_other (suc place) [] h = refl
  removed_other zero (s ∷ ss) h = sym (filter_drops (is_between client site) s ss h)
  removed_other (suc place) (s ∷ ss) h =
      let more = removed_other place ss h in
      let N = filter (is_between client site) (remove ss place) in
      let F = filter (is_between client site) ss in
      elim (is_between client site s) as (λ b. cond b (s ∷ N) N ≡ cond b (s ∷ F) F) [ true ↦ ap (λ l. s ∷ l) more | false ↦ more ]

  empty_behind : (x : Session) (xs : List Session) → length (x ∷ xs) ≤ 1 → xs ≡ []
  empty_behind x [] h = refl
  empty_behind x (y ∷ ys) h = absurd (omega (arith, h))

  without_theirs_by : (ss : List Session) (o : Option ℕ) → position (is_between client site) ss ≡ o → length (filter (is_between client site) ss) ≤ 1 →
      filter (is_between client site) (elim o [ Some place ↦ remove ss place | None ↦ ss ]) ≡ []
  without_theirs_by ss None e h = none_there (is_between client site) ss e
  without_theirs_by ss (Some place) e h =
      let there = first client site place ss e in
      there.removed ∙ empty_behind there.one there.more (subst (λ l. length l ≤ 1) there.is h)

  -- without it there is none
  pub without_theirs : (ss : List Session) → length (filter (is_between client site) ss) ≤ 1 → filter (is_between client site) (without client site ss) ≡ []
  without_theirs ss h = without_theirs_by ss (place_of client site ss) refl h

  without_other_by : (c a : Endpoint) (ss : List Session) (o : Option ℕ) → position (is_between c a) ss ≡ o → ((s : Session) → is_between c a s ≡ true → is_between client site s ≡ false) →
      filter (is_between client site) (elim o [ Some place ↦ remove ss place | None ↦ ss ]) ≡ filter (is_between client site) ss
  without_other_by c a ss None e apart = refl
  without_other_by c a ss (Some place) e apart =
      let there = first c a place ss e in
      removed_other place ss (ap (is_theirs client site) there.at ∙ apart there.one there.passes)

  pub without_other : (c a : Endpoint) (ss : List Session) → ((s : Session) → is_between c a s ≡ true → is_between client site s ≡ false) →
      filter (is_between client site) (without c a ss) ≡ filter (is_between client site) ss
  without_other c a ss apart = without_other_by c a ss (place_of c a ss) refl apart
