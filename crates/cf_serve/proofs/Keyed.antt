-- What is kept of each client, behind each call.
use Rattle.cf_lane.specs.Over.{are_over}
use Rattle.cf_serve.proofs.Entries.{IsFoundStill, counted_kept, counted_more_no, counted_more_yes, counted_without, found_at, found_more_no, found_more_yes, found_nowhere, found_still, found_without, none_counted, none_without}
use Rattle.cf_serve.specs.Keeping.{AreSingle, counts_still, takes_entry}
use Rattle.cf_serve.specs.Lending.{Drops, Has, IsDropped, IsToLend, KeepsOthers, KeptRings, KeptValue, Lent, MayLend, kept_at, most_kept, rings_in}
use Rattle.std.proofs.Common.{Bool, List, None, Option, Some, [], ap, arith, cond, count_by, false, inl, inr, not, option_map, refl, is_some, length, slice_get, subst, sym, true, ℕ, ◌&&◌, ◌++◌, ◌∙◌, ◌∷◌, ◌<◌, ◌≡◌, ◌⊎◌}
use Rattle.std.proofs.lemmas.Bool.{cases_Bool}
use Rattle.std.proofs.lemmas.Bool.Decides.{nat_tests}
use Rattle.std.specs.List.{filter, find, position, remove}
use Rattle.std.specs.Prelude.{if◌then◌else◌, ◌==◌}

-- ---- what is kept is what is found

abbrev kept_in : Option KeptValue → Option KeptRings
kept_in found = option_map (λ (k : KeptValue). k.kept) found

first_one : (b : Bool) (k : KeptValue) (found : Option KeptValue) (rest : Option KeptRings) → rest ≡ kept_in found →
    (if b then Some k.kept else rest) ≡ kept_in (cond b (Some k) found)
first_one true k found rest e = refl
first_one false k found rest e = e

is_found : (store : List KeptValue) (place address : ℕ) → kept_at store place address ≡ kept_in (find (takes_entry place address) store)
is_found [] place address = refl
is_found (k ∷ store) place address =
    first_one (takes_entry place address k) k (find (takes_entry place address) store) (kept_at store place address) (is_found store place address)

-- what is kept behind a change is what is found behind it
by_found : (old new : List KeptValue) (place address : ℕ) → find (takes_entry place address) new ≡ find (takes_entry place address) old → kept_at new place address ≡ kept_at old place address
by_found old new place address e = is_found new place address ∙ ap kept_in e ∙ sym (is_found old place address)

nothing : (found : Option KeptValue) → kept_in found ≡ None → found ≡ None
nothing None e = refl
nothing (Some k) e = cc e

nothing_kept : (store : List KeptValue) (place address : ℕ) → kept_at store place address ≡ None → find (takes_entry place address) store ≡ None
nothing_kept store place address e = nothing (find (takes_entry place address) store) (sym (is_found store place address) ∙ e)

-- ---- clients

-- an entry of one client is of no other
apart : (k : KeptValue) (place address p a : ℕ) → takes_entry place address k ≡ true → (p == place) && (a == address) ≡ false → takes_entry p a k ≡ false
apart k place address p a own differs = grind (arith, nat_tests)

own_entry : (k : KeptValue) → takes_entry k.place k.address k ≡ true
own_entry k = grind (arith, nat_tests)

taken_same : (k : KeptValue) (place address : ℕ) → takes_entry place address k ≡ true → (k.place ≡ place) × (k.address ≡ address)
taken_same k place address e = (grind (arith, nat_tests), grind (arith, nat_tests))

pub others_both : (place address : ℕ) (old now new : List KeptValue) → KeepsOthers place address old now → KeepsOthers place address now new → KeepsOthers place address old new
others_both place address old now new first second p a differs = second p a differs ∙ first p a differs

-- ---- an entry is taken out

pub single_without : (store : List KeptValue) (i : ℕ) (k : KeptValue) → slice_get store i ≡ Some k → AreSingle store → AreSingle (remove store i)
single_without store i k at single place address = omega (arith, single place address, counted_without (takes_entry place address) store i k at)

pub others_without : (store : List KeptValue) (i : ℕ) (k : KeptValue) (place address : ℕ) → slice_get store i ≡ Some k → takes_entry place address k ≡ true → KeepsOthers place address store (remove store i)
others_without store i k place address at own p a differs =
    by_found store (remove store i) p a (found_without (takes_entry p a) store i k at (apart k place address p a own differs))

pub gone_without : (store : List KeptValue) (i : ℕ) (k : KeptValue) (place address : ℕ) → slice_get store i ≡ Some k → takes_entry place address k ≡ true → AreSingle store → kept_at (remove store i) place address ≡ None
gone_without store i k place address at own single =
    is_found (remove store i) place address ∙ ap kept_in (none_without (takes_entry place address) store i k at own (single place address))

pub kept_there : (store : List KeptValue) (i : ℕ) (k : KeptValue) (place address : ℕ) → position (takes_entry place address) store ≡ Some i → slice_get store i ≡ Some k → kept_at store place address ≡ Some k.kept
kept_there store i k place address e at = is_found store place address ∙ ap kept_in (found_at (takes_entry place address) store i e ∙ at)

pub kept_nowhere : (store : List KeptValue) (place address : ℕ) → position (takes_entry place address) store ≡ None → kept_at store place address ≡ None
kept_nowhere store place address e = is_found store place address ∙ ap kept_in (found_nowhere (takes_entry place address) store e)

-- ---- an entry is put behind the others

none_of_its : (store : List KeptValue) (k : KeptValue) (place address : ℕ) → kept_at store k.place k.address ≡ None → takes_entry place address k ≡ true → count_by (takes_entry place address) store ≡ 0
none_of_its store k place address none own =
    let same = taken_same k place address own in
    none_counted (takes_entry place address) store
    (nothing_kept store place address
    (subst (λ a. kept_at store place a ≡ None) same.1 (subst (λ p. kept_at store p k.address ≡ None) same.0 none)))

pub single_more : (store : List KeptValue) (k : KeptValue) → AreSingle store → kept_at store k.place k.address ≡ None → AreSingle (store ++ k ∷ [])
single_more store k single none place address = elim (cases_Bool (takes_entry place address k)) [
  | inl own ↦ omega (arith, counted_more_yes (takes_entry place address) store k own, none_of_its store k place address none own)
  | inr other ↦ omega (arith, single place address, counted_more_no (takes_entry place address) store k other)
]

pub others_more : (store : List KeptValue) (k : KeptValue) → KeepsOthers k.place k.address store (store ++ k ∷ [])
others_more store k p a differs =
    by_found store (store ++ k ∷ []) p a (found_more_no (takes_entry p a) store k (apart k k.place k.address p a (own_entry k) differs))

pub own_more : (store : List KeptValue) (k : KeptValue) → kept_at store k.place k.address ≡ None → kept_at (store ++ k ∷ []) k.place k.address ≡ Some k.kept
own_more store k none =
    is_found (store ++ k ∷ []) k.place k.address
    ∙ ap kept_in (found_more_yes (takes_entry k.place k.address) store k (nothing_kept store k.place k.address none) (own_entry k))

-- ---- what is over is dropped

abbrev pub still : (moment : ℕ) → KeptValue → Bool
still moment k = counts_still moment k.kept

pub single_dropped : (moment : ℕ) (store : List KeptValue) → AreSingle store → AreSingle (filter (λ k. counts_still moment k.kept) store)
single_dropped moment store single place address = omega (arith, single place address, counted_kept (takes_entry place address) (still moment) store)

is_over_then : (b : Bool) → not b ≡ false → b ≡ true
is_over_then true e = refl
is_over_then false e = cc e

is_dropped : (moment : ℕ) (kept : KeptRings) → counts_still moment kept ≡ false → IsDropped moment (Some kept)
is_dropped moment (Has rings) e = is_over_then (are_over moment rings) e
is_dropped moment (Lent session) e = cc e

dropped_one : (moment place address : ℕ) (store : List KeptValue) → IsFoundStill (takes_entry place address) (still moment) store →
    (kept_at (filter (still moment) store) place address ≡ kept_at store place address)
    ⊎ (IsDropped moment (kept_at store place address) × (kept_at (filter (still moment) store) place address ≡ None))
dropped_one moment place address store (inl same) = inl (by_found store (filter (still moment) store) place address same)
dropped_one moment place address store (inr gone) =
    inr (
      subst (IsDropped moment) (sym (is_found store place address ∙ ap kept_in gone.1)) (is_dropped moment gone.0.kept gone.2),
      is_found (filter (still moment) store) place address ∙ ap kept_in gone.3,
    )

pub drops_over : (moment : ℕ) (store : List KeptValue) → AreSingle store → Drops moment store (filter (λ k. counts_still moment k.kept) store)
drops_over moment store single place address =
    dropped_one moment place address store (found_still (takes_entry place address) (still moment) store (single place address))

-- ---- what may be lent

abbrev MayBe : (store : List KeptValue) (place address : ℕ) (b : Bool) → Type 0
MayBe store place address b = (b ≡ true → MayLend place address store) × (b ≡ false → MayLend place address store → ⊥)

may_of : (store : List KeptValue) (place address : ℕ) (kept : KeptRings) → kept_at store place address ≡ Some kept → MayBe store place address (is_some (rings_in (Some kept)))
may_of store place address (Has rings) e = rw e (λ h. tt, λ h. cc h)
may_of store place address (Lent session) e = rw e (λ h. cc h, λ h m. m)

pub may_here : (store : List KeptValue) (place address : ℕ) (kept : KeptRings) (b : Bool) → kept_at store place address ≡ Some kept → b ≡ is_some (rings_in (Some kept)) → MayBe store place address b
may_here store place address kept b e is = subst (MayBe store place address) (sym is) (may_of store place address kept e)

pub may_new : (store : List KeptValue) (place address : ℕ) (b : Bool) → kept_at store place address ≡ None → (b ≡ true → length store < most_kept) → (b ≡ false → length store ≡ most_kept) → MayBe store place address b
may_new store place address b e room full = rw e (room, λ h m. omega (arith, full h, m))

pub may_then : (store : List KeptValue) (place address : ℕ) → kept_at store place address ≡ None → MayLend place address store → length store < most_kept
may_then store place address e m = subst (IsToLend store) e m

-- nothing is dropped of a client of which nothing is kept
pub none_dropped : (moment place address : ℕ) (old new : List KeptValue) → Drops moment old new → kept_at old place address ≡ None → kept_at new place address ≡ kept_at old place address
none_dropped moment place address old new drops none = elim (drops place address) [
  | inl same ↦ same
  | inr gone ↦ gone.1 ∙ sym none
]

not_some : (o : Option KeptRings) → is_some o ≡ false → o ≡ None
not_some None e = refl
not_some (Some kept) e = cc e

-- the rings that were there, or room where nothing was
pub room_behind : (store now : List KeptValue) (place address : ℕ) (b : Bool) → MayLend place address store → is_some (kept_at store place address) ≡ b → (b ≡ true → length now < most_kept) → (b ≡ false → now ≡ store) → length now < most_kept
room_behind store now place address true may is room same = room refl
room_behind store now place address false may is room same = omega (arith, ap length (same refl), may_then store place address (not_some (kept_at store place address) is) may)
