-- The sessions of a client and a site in a table, through the two halves of an event.
use Rattle.std.proofs.Common.{◌≡◌, ℕ, zero, suc, Bool, true, false, List, [], ◌∷◌, ◌++◌, cond, Option, Some, None, refl, sym, ap, ◌∙◌, subst, filter, position, slice_get}
use Rattle.cf_isolation.proofs.Common.{AllByRecursion, Endpoint, RunEvent, Session, SessionEvent, client_of, is_between, remove, session_at, sessions_of, with_event_at}
use Rattle.cf_policy.proofs.FirstPlace.{first_at}
use Rattle.cf_run.specs.Trace.{replaced}
use Rattle.cf_run.proofs.Pairs.{none_there}
use Rattle.cf_isolation.specs.Lives.{EachHasALife, HasLife}
use Rattle.cf_isolation.proofs.Lists.{all_back, all_filtered}
use Rattle.cf_isolation.proofs.Tables.{same_self}

-- ---- filters

pub filter_one : {A : Type 0} (p : A → Bool) (b : Bool) (x : A) → p x ≡ b → filter p (x ∷ []) ≡ cond b (x ∷ []) []
filter_one p b x e = ap (λ c. cond c (x ∷ []) []) e

-- ---- an element at a place, among those that pass

module _ (p : Session → Bool) (keeps : (s : Session) (es : List SessionEvent) → p (record s { events = es }) ≡ p s) where
  -- those that pass before it and after it
  pub record Around (xs : List Session) (i : ℕ) (y : Session) : Type 0 where
    pub front : List Session
    pub back : List Session
    pub is : filter p xs ≡ front ++ cond (p y) (y ∷ back) back
    pub removed : filter p (remove xs i) ≡ front ++ back
    pub changed : (e : SessionEvent) → filter p (with_event_at i e xs) ≡ front ++ cond (p y) (record y { events = replaced e y.events } ∷ back) back

  more_around : (x : Session) (xs : List Session) (i : ℕ) (y : Session) (b : Bool) → p x ≡ b → Around xs i y → Around (x ∷ xs) (suc i) y
  more_around x xs i y true e a = record {
    front = x ∷ a.front;
    back = a.back;
    is = ap (λ b. cond b (x ∷ filter p xs) (filter p xs)) e ∙ ap (λ l. x ∷ l) a.is;
    removed = ap (λ b. cond b (x ∷ filter p (remove xs i)) (filter p (remove xs i))) e ∙ ap (λ l. x ∷ l) a.removed;
    changed = λ d. ap (λ b. cond b (x ∷ filter p (with_event_at i d xs)) (filter p (with_event_at i d xs))) e ∙ ap (λ l. x ∷ l) (a.changed d);
  }
  more_around x xs i y false e a = record {
    front = a.front;
    back = a.back;
    is = ap (λ b. cond b (x ∷ filter p xs) (filter p xs)) e ∙ a.is;
    removed = ap (λ b. cond b (x ∷ filter p (remove xs i)) (filter p (remove xs i))) e ∙ a.removed;
    changed = λ d. ap (λ b. cond b (x ∷ filter p (with_event_at i d xs)) (filter p (with_event_at i d xs))) e ∙ a.changed d;
  }

  pub around : (xs : List Session) (i : ℕ) (y : Session) → slice_get xs i ≡ Some y → Around xs i y
  around [] i y h = cc
  around (x ∷ xs) zero y h =
      let same : x ≡ y = cc in
      subst (Around (x ∷ xs) zero) same
      (record {
        front = [];
        back = filter p xs;
        is = refl;
        removed = refl;
        changed = λ e. ap (λ b. cond b (record x { events = replaced e x.events } ∷ filter p xs) (filter p xs)) (keeps x (replaced e x.events));
      })
  around (x ∷ xs) (suc i) y h = more_around x xs i y (p x) refl (around xs i y h)

-- ---- a client and a site

module _ (client site : Endpoint) where
  abbrev pub theirs : List Session → List Session
  theirs ss = filter (is_between client site) ss

  pub around_theirs : (xs : List Session) (i : ℕ) (y : Session) → slice_get xs i ≡ Some y → Around (is_between client site) (λ s es. refl) xs i y
  around_theirs xs i y h = around (is_between client site) (λ s es. refl) xs i y h

  -- ---- the session that gives way to a new one

  -- at a place of the table, what stands there and what is left without it
  pub record GivesWay (table : List Session) (place : Option ℕ) (left rest : List Session) : Type 0 where
    pub gone : theirs (session_at table place) ≡ left
    pub stays : theirs (elim place [ Some i ↦ remove table i | None ↦ table ]) ≡ rest

  one_left : (x : Session) (y : Session) (front back : List Session) → y ∷ [] ≡ front ++ x ∷ back → (x ≡ y) × (front ++ back ≡ [])
  one_left x y [] back h = let same : x ≡ y = cc in let none : [] ≡ back = cc in (same, sym none)
  one_left x y (z ∷ []) back h = cc
  one_left x y (z ∷ (w ∷ front)) back h = cc

  none_left : (x : Session) (front back : List Session) → [] ≡ front ++ x ∷ back → ⊥
  none_left x [] back h = cc
  none_left x (z ∷ front) back h = cc

  at_one : (table : List Session) (i : ℕ) (x : Session) → slice_get table i ≡ Some x → session_at table (Some i) ≡ x ∷ []
  at_one table i x h = ap (λ o. elim o [ None ↦ [] | Some session ↦ session ∷ [] ]) h

  -- the one of theirs, where there is one at most
  pub gives_theirs : (table : List Session) (y : Session) (place : Option ℕ) → position (is_between client site) table ≡ place → theirs table ≡ y ∷ [] → GivesWay table place (y ∷ []) []
  gives_theirs table y None e h = let none = none_there (is_between client site) table e in cc (sym h ∙ none)
  gives_theirs table y (Some i) e h =
      let first = first_at (is_between client site) table i e in
      let a = around_theirs table i first.0 first.1.here in
      let all : y ∷ [] ≡ a.front ++ first.0 ∷ a.back = sym h ∙ a.is ∙ ap (λ b. a.front ++ cond b (first.0 ∷ a.back) a.back) first.1.passes in
      let one = one_left first.0 y a.front a.back all in
      record {
        gone = ap theirs (at_one table i first.0 first.1.here) ∙ filter_one (is_between client site) true first.0 first.1.passes ∙ ap (λ z. z ∷ []) one.0;
        stays = a.removed ∙ one.1;
      }

  pub gives_none : (table : List Session) (place : Option ℕ) → position (is_between client site) table ≡ place → theirs table ≡ [] → GivesWay table place [] []
  gives_none table None e h = record { gone = refl; stays = h }
  gives_none table (Some i) e h =
      let first = first_at (is_between client site) table i e in
      let a = around_theirs table i first.0 first.1.here in
      absurd (none_left first.0 a.front a.back (sym h ∙ a.is ∙ ap (λ b. a.front ++ cond b (first.0 ∷ a.back) a.back) first.1.passes))

  -- that of others
  pub gives_other : (c a : Endpoint) (table : List Session) → ((s : Session) → is_between c a s ≡ true → is_between client site s ≡ false) → (place : Option ℕ) →
      position (is_between c a) table ≡ place → GivesWay table place [] (theirs table)
  gives_other c a table apart None e = record { gone = refl; stays = refl }
  gives_other c a table apart (Some i) e =
      let first = first_at (is_between c a) table i e in
      let near = around_theirs table i first.0 first.1.here in
      let other = apart first.0 first.1.passes in
      record {
        gone = ap theirs (at_one table i first.0 first.1.here) ∙ filter_one (is_between client site) false first.0 other;
        stays = near.removed ∙ sym (near.is ∙ ap (λ b. near.front ++ cond b (first.0 ∷ near.back) near.back) other);
      }

  -- ---- the one that goes on

  pub record Changes (table : List Session) (i : ℕ) (e : SessionEvent) (y : Session) : Type 0 where
    pub after : theirs (with_event_at i e table) ≡ record y { events = replaced e y.events } ∷ []

  pub own_changes : (table : List Session) (i : ℕ) (e : SessionEvent) (x y : Session) → slice_get table i ≡ Some x → is_between client site x ≡ true → theirs table ≡ y ∷ [] → (x ≡ y) × Changes table i e y
  own_changes table i e x y at passes h =
      let a = around_theirs table i x at in
      let all : y ∷ [] ≡ a.front ++ x ∷ a.back = sym h ∙ a.is ∙ ap (λ b. a.front ++ cond b (x ∷ a.back) a.back) passes in
      let one = one_left x y a.front a.back all in
      let new : Session → Session = λ z. record z { events = replaced e z.events } in (
        one.0,
        record {
          after = a.changed e ∙ ap (λ b. a.front ++ cond b (new x ∷ a.back) a.back) passes ∙ put_in (new x) a.front a.back one.1 ∙ ap (λ z. new z ∷ []) one.0;
        },
      )
    where
      put_in : (z : Session) (front back : List Session) → front ++ back ≡ [] → front ++ z ∷ back ≡ z ∷ []
      put_in z [] back k = ap (λ l. z ∷ l) k
      put_in z (w ∷ front) back k = cc

  pub none_changes : (table : List Session) (i : ℕ) (x : Session) → slice_get table i ≡ Some x → is_between client site x ≡ true → theirs table ≡ [] → ⊥
  none_changes table i x at passes h =
      let a = around_theirs table i x at in
      none_left x a.front a.back (sym h ∙ a.is ∙ ap (λ b. a.front ++ cond b (x ∷ a.back) a.back) passes)

  pub other_changes : (table : List Session) (i : ℕ) (e : SessionEvent) (x : Session) → slice_get table i ≡ Some x → is_between client site x ≡ false → theirs (with_event_at i e table) ≡ theirs table
  other_changes table i e x at other =
      let a = around_theirs table i x at in
      a.changed e ∙ ap (λ b. a.front ++ cond b (record x { events = replaced e x.events } ∷ a.back) a.back) other ∙ sym (a.is ∙ ap (λ b. a.front ++ cond b (x ∷ a.back) a.back) other)

-- ---- lives

pub each_has_a_life : EachHasALife
each_has_a_life events place s h =
    let own : is_between (client_of s.flow) s.flow.site.first.endpoint s ≡ true = let x = same_self (client_of s.flow) in let y = same_self s.flow.site.first.endpoint in rw (x, y) refl in
    let a = around_theirs (client_of s.flow) s.flow.site.first.endpoint (sessions_of events) place s h in
    record { before = a.front; later = a.back; are = a.is ∙ ap (λ b. a.front ++ cond b (s ∷ a.back) a.back) own }

-- what holds of each session holds of one that has a life
pub of_life : (P : Session → Type 0) (s : Session) (events : List RunEvent) (life : HasLife s events) → AllByRecursion P (sessions_of events) → P s
of_life P s events life all =
    (all_back P life.before (s ∷ life.later) (subst (AllByRecursion P) life.are (all_filtered P (is_between (client_of s.flow) s.flow.site.first.endpoint) (sessions_of events) all))).0
