-- Sessions whose client did not come again, as sessions come and go.
use Rattle.std.proofs.Common.{Bool, List, None, Option, Some, ap, arith, length, map, refl, subst, suc, sym, true, false, zero, ℕ, ◌++◌, ◌+◌, ◌≤◌, ◌∙◌, ◌∷◌, ◌≡◌, []}
use Rattle.std.proofs.lemmas.Option.{same_Some}
use Rattle.std.proofs.Common.{if◌then◌else◌}
use Rattle.std.specs.List.{AllByRecursion, list_any}
use Rattle.std.specs.Prelude.{nat_lt, slice_get, take, vec_len, ◌&&◌, ◌==◌, ◌||◌}
use Rattle.std.proofs.lemmas.Bool.Decides.{nat_tests}
use Rattle.std.proofs.lemmas.List.{append_assoc, length-append, length-map, map-append, take_all}
use Rattle.std.proofs.Math.Seq.{take-append_seam}
use Rattle.cf_view.specs.declared.Endpoint.{Endpoint}
use Rattle.cf_serve.proofs.Numbers.{all_join, all_map}
use Rattle.cf_serve.proofs.Placing.{all_at}
use Rattle.cf_serve.specs.Phase.{Phase, phase_of}
use Rattle.cf_serve.specs.Rounds.{Seat, has_later, has_rates, is_later, is_same_client, must_end}
use Rattle.cf_serve.specs.Session.{Listening}
use Rattle.cf_serve.specs.Table.{AreCalm, SeatsStep, new_phase, seats_of}
use Rattle.cf_serve.specs.declared.session.Served.{Served}
use Rattle.cf_serve.specs.declared.table.Table.{Table}

and_less : (a l l' : Bool) → (l ≡ false → l' ≡ false) → (a && l) ≡ false → (a && l') ≡ false
and_less true l l' f h = f h
and_less false l l' f h = refl

or_less : (a l l' : Bool) → (l ≡ false → l' ≡ false) → (a || l) ≡ false → (a || l') ≡ false
or_less true l l' f h = cc h
or_less false l l' f h = f h

or_right : (a l : Bool) → (a || l) ≡ false → l ≡ false
or_right true l h = cc h
or_right false l h = h

must_less : (o : Option Listening) (l l' : Bool) → (l ≡ false → l' ≡ false) → (elim o as (λ x. Bool) [ None ↦ false | Some at ↦ has_rates at.site && l ]) ≡ false →
    (elim o as (λ x. Bool) [ None ↦ false | Some at ↦ has_rates at.site && l' ]) ≡ false
must_less None l l' f h = refl
must_less (Some at) l l' f h = and_less (has_rates at.site) l l' f h

later_less : (before : List Seat) (it : Seat) (after : List Seat) (s : Seat) → has_later (before ++ it ∷ after) s ≡ false → has_later (before ++ after) s ≡ false
later_less [] it after s h = or_right (is_same_client it s && nat_lt s.session it.session) (has_later after s) h
later_less (x ∷ before) it after s h = or_less (is_same_client x s && nat_lt s.session x.session) (has_later (before ++ it ∷ after) s) (has_later (before ++ after) s) (later_less before it after s) h

all_take : {X : Type 0} (P : X → Type 0) (xs : List X) (n : ℕ) → AllByRecursion P xs → AllByRecursion P (take n xs)
all_take P [] zero h = tt
all_take P [] (suc n) h = tt
all_take P (x ∷ xs) zero h = tt
all_take P (x ∷ xs) (suc n) (p, h) = (p, all_take P xs n h)

module _ (places : List Listening) where
  abbrev pub IsCalm : List Seat → Seat → Type 0
  IsCalm ss s = must_end places ss s ≡ false

  -- the first of them are calm
  abbrev pub Done : List Seat → ℕ → Type 0
  Done ss n = AllByRecursion (IsCalm ss) (take n ss)

  calm_less : (before : List Seat) (it : Seat) (after : List Seat) (s : Seat) → IsCalm (before ++ it ∷ after) s → IsCalm (before ++ after) s
  calm_less before it after s h = must_less (slice_get places s.place) (has_later (before ++ it ∷ after) s) (has_later (before ++ after) s) (later_less before it after s) h

  drop_it : (P : Seat → Type 0) (before : List Seat) (it : Seat) (after : List Seat) → AllByRecursion P (before ++ it ∷ after) → AllByRecursion P (before ++ after)
  drop_it P [] it after (p, h) = h
  drop_it P (x ∷ before) it after (p, h) = (p, drop_it P before it after h)

  module _ (index : ℕ) (old new : List Seat) where
    -- one that stays changes nothing
    same_now : (st : SeatsStep places index old new true) → new ≡ old
    same_now st = st.is ∙ sym st.was

    pub calm_step : (stays_on : Bool) → SeatsStep places index old new stays_on → AreCalm places old → AreCalm places new
    calm_step true st calm = subst (AreCalm places) (sym (same_now st)) calm
    calm_step false st calm =
        subst (AreCalm places) (sym st.is)
        (all_map (IsCalm (st.before ++ st.it ∷ st.after)) (IsCalm (st.before ++ st.after)) (st.before ++ st.after) (calm_less st.before st.it st.after)
        (drop_it (IsCalm (st.before ++ st.it ∷ st.after)) st.before st.it st.after (subst (AreCalm places) st.was calm)))

    front : (st : ℕ) (before rest : List Seat) → length before ≡ index → take index (before ++ rest) ≡ before
    front st before rest at = ap (λ (n : ℕ). take n (before ++ rest)) (sym at) ∙ take-append_seam before rest

    pub done_step : (stays_on : Bool) → SeatsStep places index old new stays_on → Done old index → Done new (index + (if stays_on then 1 else 0))
    done_step true st done =
        let all : List Seat = st.before ++ st.it ∷ st.after in
        let has : AllByRecursion (IsCalm all) st.before = subst (AllByRecursion (IsCalm all)) (front 0 st.before (st.it ∷ st.after) st.at) (subst (λ (ss : List Seat). Done ss index) st.was done) in
        let its : IsCalm all st.it = subst (λ (ss : List Seat). IsCalm ss st.it) st.was (st.calm refl) in
        let long : length (st.before ++ st.it ∷ []) ≡ index + 1 = length-append st.before (st.it ∷ []) ∙ ap (λ (n : ℕ). n + 1) st.at in
        let taken : take (index + 1) all ≡ st.before ++ st.it ∷ [] =
        ap (λ (n : ℕ). take n all) (sym long) ∙ ap (take (length (st.before ++ st.it ∷ []))) (sym (append_assoc st.before (st.it ∷ []) st.after)) ∙ take-append_seam (st.before ++ st.it ∷ []) st.after in
        subst (λ (ss : List Seat). Done ss (index + 1)) (sym st.is) (subst (AllByRecursion (IsCalm all)) (sym taken) (all_join (IsCalm all) st.before (st.it ∷ []) has (its, tt)))
    done_step false st done =
        let all : List Seat = st.before ++ st.it ∷ st.after in
        let has : AllByRecursion (IsCalm all) st.before = subst (AllByRecursion (IsCalm all)) (front 0 st.before (st.it ∷ st.after) st.at) (subst (λ (ss : List Seat). Done ss index) st.was done) in
        let e : index ≡ index + 0 = omega arith in
        subst (Done new) e (subst (λ (ss : List Seat). Done ss index) (sym st.is)
        (subst (AllByRecursion (IsCalm (st.before ++ st.after))) (sym (front 0 st.before st.after st.at))
        (all_map (IsCalm all) (IsCalm (st.before ++ st.after)) st.before (calm_less st.before st.it st.after) has)))

  -- those that are passed over are calm, or none is
  pub done_on : (has_new : Bool) (ss : List Seat) (index upto : ℕ) → (has_new ≡ false → AreCalm places ss) → (has_new ≡ true → upto ≡ index) → Done ss index → Done ss upto
  done_on true ss index upto calm all done = subst (Done ss) (sym (all refl)) done
  done_on false ss index upto calm all done = all_take (IsCalm ss) ss upto (calm refl)

  pub done_none : (ss : List Seat) → Done ss 0
  done_none [] = tt
  done_none (s ∷ ss) = tt

  pub done_all : (ss : List Seat) (n : ℕ) → length ss ≤ n → Done ss n → AreCalm places ss
  done_all ss n h done = subst (AllByRecursion (IsCalm ss)) (take_all n ss h) done

  -- one more of an asset without rates
  module _ (n : Seat) (at : Listening) (is : slice_get places n.place ≡ Some at) (not : has_rates at.site ≡ false) where
    must_not : (o : Option Listening) (l : Bool) → o ≡ Some at → (elim o as (λ x. Bool) [ None ↦ false | Some a ↦ has_rates a.site && l ]) ≡ false
    must_not None l e = refl
    must_not (Some a) l e = ap (λ (b : Bool). b && l) (ap (λ (z : Listening). has_rates z.site) (same_Some a at e) ∙ not)

    later_same : (ss : List Seat) (s : Seat) → (n.place == s.place) ≡ false → has_later (ss ++ n ∷ []) s ≡ has_later ss s
    later_same [] s other = ap (λ (b : Bool). ((b && n.client.address == s.client.address) && nat_lt s.session n.session) || false) other
    later_same (x ∷ ss) s other = ap (λ (b : Bool). (is_same_client x s && nat_lt s.session x.session) || b) (later_same ss s other)

    one_calm : (ss : List Seat) (s : Seat) (b : Bool) → (n.place == s.place) ≡ b → IsCalm ss s → IsCalm (ss ++ n ∷ []) s
    one_calm ss s true same h =
        let e : n.place ≡ s.place = grind (arith, nat_tests) in
        must_not (slice_get places s.place) (has_later (ss ++ n ∷ []) s) (ap (slice_get places) (sym e) ∙ is)
    one_calm ss s false other h =
        ap (λ (l : Bool). elim (slice_get places s.place) as (λ x. Bool) [ None ↦ false | Some a ↦ has_rates a.site && l ]) (later_same ss s other) ∙ h

    pub calm_more : (ss : List Seat) → AreCalm places ss → AreCalm places (ss ++ n ∷ [])
    calm_more ss calm = all_join (IsCalm (ss ++ n ∷ [])) ss (n ∷ []) (all_map (IsCalm ss) (IsCalm (ss ++ n ∷ [])) ss (λ s h. one_calm ss s (n.place == s.place) refl h) calm)
        (must_not (slice_get places n.place) (has_later (ss ++ n ∷ []) n) is, tt)

-- a client that was taken
or_both : (a b : Bool) → (a || b) ≡ false → (a ≡ false) × (b ≡ false)
or_both true b h = cc h
or_both false b h = (refl, h)

pub calm_taken : (places : List Listening) (at : Listening) (old new : Bool) (ps qs : List Phase) (session place : ℕ) (client : Endpoint) → slice_get places place ≡ Some at →
    qs ≡ ps ++ new_phase session place client ∷ [] → new ≡ (old || has_rates at.site) → (old ≡ false → AreCalm places (seats_of ps)) → new ≡ false → AreCalm places (seats_of qs)
calm_taken places at old new ps qs session place client is one says calm not =
    let b = or_both old (has_rates at.site) (sym says ∙ not) in
    subst (λ (xs : List Phase). AreCalm places (seats_of xs)) (sym one)
    (subst (AreCalm places) (sym (map-append (λ (p : Phase). p.seat) ps (new_phase session place client ∷ [])))
    (calm_more places (new_phase session place client).seat at is b.1 (seats_of ps) (calm b.0)))

-- all that stand
pub seats_within : (table : Table) (index : ℕ) → vec_len table.sessions ≤ index → length (seats_of (map phase_of table.sessions.items)) ≤ index
seats_within table index h =
    let all : vec_len table.sessions ≡ length table.sessions.items = table.sessions.ok.0 in
    let same : length (map phase_of table.sessions.items) ≡ length table.sessions.items = length-map table.sessions.items phase_of in
    let seats : length (seats_of (map phase_of table.sessions.items)) ≡ length (map phase_of table.sessions.items) = length-map (map phase_of table.sessions.items) (λ (p : Phase). p.seat) in
    omega (arith, h, all, same, seats)

-- ---- the session of a place

seats_slice : (xs : List Served) (i : ℕ) (x : Served) → slice_get xs i ≡ Some x → slice_get (seats_of (map phase_of xs)) i ≡ Some (phase_of x).seat
seats_slice [] i x is = cc is
seats_slice (y ∷ xs) zero x is = ap (λ z. Some (phase_of z).seat) (same_Some y x is)
seats_slice (y ∷ xs) (suc i) x is = seats_slice xs i x is

later_is : (z : Seat) (xs : List Served) → list_any (λ (s : Served). is_later z (phase_of s).seat) xs ≡ has_later (seats_of (map phase_of xs)) z
later_is z [] = refl
later_is z (x ∷ xs) = ap (λ (b : Bool). is_later z (phase_of x).seat || b) (later_is z xs)

pub came_is : (places : List Listening) (xs : List Served) (i : ℕ) (x : Served) (has_new : Bool) (at : Listening) → slice_get xs i ≡ Some x → slice_get places x.place ≡ Some at →
    (has_new ≡ false → AreCalm places (seats_of (map phase_of xs))) →
    ((has_new && has_rates at.site) && list_any (λ (s : Served). is_later (phase_of x).seat (phase_of s).seat) xs) ≡ must_end places (seats_of (map phase_of xs)) (phase_of x).seat
came_is places xs i x true at there is calm =
    ap (λ (b : Bool). has_rates at.site && b) (later_is (phase_of x).seat xs)
    ∙ ap (λ (o : Option Listening). elim o as (λ y. Bool) [ None ↦ false | Some a ↦ has_rates a.site && has_later (seats_of (map phase_of xs)) (phase_of x).seat ]) (sym is)
came_is places xs i x false at there is calm =
    sym (all_at (IsCalm places (seats_of (map phase_of xs))) (seats_of (map phase_of xs)) i (phase_of x).seat (seats_slice xs i x there) (calm refl))
