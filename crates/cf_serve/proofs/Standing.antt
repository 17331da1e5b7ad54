-- Turns one after the other: each is of a session that has not ended, and a session that begins does so alone of its client.
use Rattle.cf_serve.specs.Rounds.{TurnOf, ends_in, has_rates, is_same_client, part}
use Rattle.cf_serve.specs.Session.{Listening}
use Rattle.std.proofs.Common.{Bool, List, Some, [], ap, arith, false, inl, inr, is_some, refl, slice_get, subst, sym, true, ℕ, ◌++◌, ◌∙◌, ◌∷◌, ◌≡◌, ◌⊎◌}
use Rattle.std.proofs.lemmas.Bool.Decides.{nat_tests}
use Rattle.std.proofs.lemmas.Grind.{flat_map-append}
use Rattle.std.proofs.lemmas.List.{append-nil}
use Rattle.std.specs.List.{AllByRecursion}
use Rattle.std.specs.Prelude.{if◌then◌else◌, option_to_list, ◌==◌}

-- ---- one of a list

abbrev pub Among : {X : Type 0} → X → List X → Type 0
Among x [] = ⊥
Among x (y ∷ ys) = (y ≡ x) ⊎ Among x ys

pub among_front : {X : Type 0} (x : X) (xs ys : List X) → Among x xs → Among x (xs ++ ys)
among_front x [] ys m = absurd m
among_front x (y ∷ xs) ys (inl here) = inl here
among_front x (y ∷ xs) ys (inr behind) = inr (among_front x xs ys behind)

pub among_back : {X : Type 0} (x : X) (xs ys : List X) → Among x ys → Among x (xs ++ ys)
among_back x [] ys m = m
among_back x (y ∷ xs) ys m = inr (among_back x xs ys m)

pub among_either : {X : Type 0} (x : X) (xs ys : List X) → Among x (xs ++ ys) → Among x xs ⊎ Among x ys
among_either x [] ys m = inr m
among_either x (y ∷ xs) ys (inl here) = inl (inl here)
among_either x (y ∷ xs) ys (inr behind) = elim (among_either x xs ys behind) [
  | inl front ↦ inl (inr front)
  | inr back ↦ inr back
]

pub all_among : {X : Type 0} (P : X → Type 0) (x : X) (xs : List X) → AllByRecursion P xs → Among x xs → P x
all_among P x [] all m = absurd m
all_among P x (y ∷ xs) (here, behind) (inl same) = subst P same here
all_among P x (y ∷ xs) (here, behind) (inr m) = all_among P x xs behind m

-- among one more
pub among_more : {X : Type 0} (x : X) (xs : List X) (y : X) → Among x (xs ++ y ∷ []) → Among x xs ⊎ (y ≡ x)
among_more x xs y m = elim (among_either x xs (y ∷ []) m) [
  | inl front ↦ inl front
  | inr back ↦ elim back [ inl same ↦ inr same | inr none ↦ absurd none ]
]

-- ---- numbers

pub same_number : (a b : ℕ) → (a == b) ≡ true → a ≡ b
same_number a b h = grind (arith, nat_tests)

pub own_number : (a : ℕ) → (a == a) ≡ true
own_number a = grind (arith, nat_tests)

-- ---- what a session has of the turns

module _ {A : Type 0} (of : TurnOf → List A) where
  pub part_behind : (k : ℕ) (past later : List TurnOf) → part of k (past ++ later) ≡ part of k past ++ part of k later
  part_behind k past later = flat_map-append (λ (u : TurnOf). if u.seat.session == k then of u else []) past later

  one : (k : ℕ) (t : TurnOf) (b : Bool) → (t.seat.session == k) ≡ b → part of k (t ∷ []) ≡ (if b then of t else [])
  one k t b e = append-nil (if t.seat.session == k then of t else []) ∙ ap (λ (x : Bool). if x then of t else []) e

  pub its_own : (k : ℕ) (past : List TurnOf) (t : TurnOf) → (t.seat.session == k) ≡ true → part of k (past ++ t ∷ []) ≡ part of k past ++ of t
  its_own k past t e = part_behind k past (t ∷ []) ∙ ap (λ xs. part of k past ++ xs) (one k t true e)

  pub its_other : (k : ℕ) (past : List TurnOf) (t : TurnOf) → (t.seat.session == k) ≡ false → part of k (past ++ t ∷ []) ≡ part of k past
  its_other k past t e = part_behind k past (t ∷ []) ∙ ap (λ xs. part of k past ++ xs) (one k t false e) ∙ append-nil (part of k past)

pub no_front : {X : Type 0} (xs ys : List X) → xs ++ ys ≡ [] → xs ≡ []
no_front [] ys e = refl
no_front (x ∷ xs) ys e = cc e

pub no_back : {X : Type 0} (xs ys : List X) → xs ++ ys ≡ [] → ys ≡ []
no_back [] ys e = e
no_back (x ∷ xs) ys e = cc e

-- a session that has not ended behind a turn had not before it
pub not_before : (k : ℕ) (past later : List TurnOf) → ends_in k (past ++ later) ≡ [] → ends_in k past ≡ []
not_before k past later e = no_front (ends_in k past) (ends_in k later) (sym (part_behind (λ (u : TurnOf). option_to_list u.end) k past later) ∙ e)

pub not_then : (k : ℕ) (past : List TurnOf) (t : TurnOf) → (t.seat.session == k) ≡ true → ends_in k (past ++ t ∷ []) ≡ [] → option_to_list t.end ≡ []
not_then k past t own e = no_back (ends_in k past) (option_to_list t.end) (sym (its_own (λ (u : TurnOf). option_to_list u.end) k past t own) ∙ e)

-- ---- what the turns of a service are

-- a turn behind others: its session has not ended, and has one seat; and where it begins at an asset with rates, every other session of its
-- client that had a turn has ended
pub record IsStood (places : List Listening) (past : List TurnOf) (t : TurnOf) : Type 0 where
  pub still : ends_in t.seat.session past ≡ []
  pub same : (s : TurnOf) → Among s past → (s.seat.session == t.seat.session) ≡ true → s.seat ≡ t.seat
  pub alone : (at : Listening) → slice_get places t.seat.place ≡ Some at → has_rates at.site ≡ true → is_some t.begun ≡ true
      → (s : TurnOf) → Among s past → is_same_client s.seat t.seat ≡ true → (s.seat.session == t.seat.session) ≡ false
      → ends_in s.seat.session past ≡ [] → ⊥

abbrev pub AreStood : List Listening → (past : List TurnOf) → List TurnOf → Type 0
AreStood places past [] = Unit {0}
AreStood places past (t ∷ ts) = IsStood places past t × AreStood places (past ++ t ∷ []) ts
