-- The commands of a listening place, as they are kept from turn to turn and as they are told.
use Rattle.std.proofs.Common.{Bool, List, ap, arith, false, length, refl, subst, sym, true, ℕ, ◌++◌, ◌+◌, ◌-◌, ◌<◌, ◌∙◌, ◌∷◌, ◌≡◌, []}
use Rattle.std.proofs.Common.{if◌then◌else◌, ◌≤◌}
use Rattle.std.specs.Prelude.{min, set, ◌==◌}
use Rattle.std.specs.List.{sum_by}
use Rattle.std.proofs.lemmas.Bool.{eq-eqb, eqb-true}
use Rattle.std.proofs.lemmas.List.{get_or-replicate, get_or-set_other, get_or-set_same, length-replicate, length-set}
use Rattle.std.proofs.lemmas.List.Sums.{sum_by_push}
use Rattle.cf_serve.specs.Minute.{IsTallied, admitted_by, commands_of, no_minutes, no_tally, refused_by, stands_lines, tally_at, tally_with, told_count}
use Rattle.cf_serve.specs.Rounds.{Seat, TurnOf}
use Rattle.cf_serve.specs.declared.minute.Minutes.{Minutes}
use Rattle.cf_serve.specs.declared.minute.Tally.{Tally}
use Rattle.cf_serve.specs.declared.table.Place.{Place}

-- a number that was told and then raised is told as the raised one
cap : (a d m : ℕ) → min (min a m + d) m ≡ min (a + d) m
cap a d m = omega arith

told_more : (a b d : ℕ) → b ≡ a + d → told_count (told_count a + d) ≡ told_count b
told_more a b d is = cap a d _ ∙ ap told_count (sym is)

-- ---- the turns

own_part : (of : TurnOf → ℕ) (place : ℕ) (past : List TurnOf) (t : TurnOf) (own : Bool) → (t.seat.place == place) ≡ own →
    sum_by (λ (u : TurnOf). if u.seat.place == place then of u else 0) (past ++ t ∷ []) ≡ sum_by (λ (u : TurnOf). if u.seat.place == place then of u else 0) past + (if own then of t else 0)
own_part of place past t own is =
    sum_by_push (λ (u : TurnOf). if u.seat.place == place then of u else 0) past t
    ∙ ap (λ (b : Bool). sum_by (λ (u : TurnOf). if u.seat.place == place then of u else 0) past + (if b then of t else 0)) is

abbrev tally_of : (admitted refused : ℕ) → Tally
tally_of admitted refused = record { admitted = admitted; refused = refused }

same_tally : (a b c d : ℕ) → a ≡ c → b ≡ d → tally_of a b ≡ tally_of c d
same_tally a b c d p q = rw (p, q)

module _ (tallies : List Tally) (past : List TurnOf) (t : TurnOf) (before after : Tally) (placed : t.seat.place < 256)
    (admits : t.admitted ≡ after.admitted - before.admitted) (refuses : t.refused ≡ after.refused - before.refused) (h : IsTallied tallies past) where
  abbrev with_turn : List Tally
  with_turn = set tallies t.seat.place (tally_with (tally_at tallies t.seat.place) before after)

  -- the place of the turn
  own : tally_at with_turn t.seat.place ≡ commands_of (past ++ t ∷ []) t.seat.place
  own =
      let is : (t.seat.place == t.seat.place) ≡ true = eq-eqb t.seat.place t.seat.place refl in
      let all : length tallies ≡ 256 = h.all in
      get_or-set_same tallies t.seat.place (tally_with (tally_at tallies t.seat.place) before after) no_tally (omega (arith, all, placed))
      ∙ ap (λ (x : Tally). tally_with x before after) (h.each t.seat.place placed)
      ∙ same_tally _ _ _ _
      (told_more (admitted_by t.seat.place past) (admitted_by t.seat.place (past ++ t ∷ [])) (after.admitted - before.admitted)
      (own_part (λ (u : TurnOf). u.admitted) t.seat.place past t true is ∙ ap (λ n. admitted_by t.seat.place past + n) admits))
      (told_more (refused_by t.seat.place past) (refused_by t.seat.place (past ++ t ∷ [])) (after.refused - before.refused)
      (own_part (λ (u : TurnOf). u.refused) t.seat.place past t true is ∙ ap (λ n. refused_by t.seat.place past + n) refuses))

  -- another place
  none_more : (a b : ℕ) → b ≡ a + 0 → told_count a ≡ told_count b
  none_more a b is = ap told_count (let e : b ≡ a + 0 = is in omega (arith, e))

  other : (place : ℕ) → place < 256 → (t.seat.place == place) ≡ false → tally_at with_turn place ≡ commands_of (past ++ t ∷ []) place
  other place within is =
      get_or-set_other tallies t.seat.place place (tally_with (tally_at tallies t.seat.place) before after) no_tally
      (λ same. let no : (t.seat.place == place) ≡ true = eq-eqb t.seat.place place (sym same) in let both : true ≡ false = sym no ∙ is in cc)
      ∙ h.each place within
      ∙ same_tally _ _ _ _
      (none_more (admitted_by place past) (admitted_by place (past ++ t ∷ [])) (own_part (λ (u : TurnOf). u.admitted) place past t false is))
      (none_more (refused_by place past) (refused_by place (past ++ t ∷ [])) (own_part (λ (u : TurnOf). u.refused) place past t false is))

  by : (place : ℕ) → place < 256 → (same : Bool) → (t.seat.place == place) ≡ same → tally_at with_turn place ≡ commands_of (past ++ t ∷ []) place
  by place within true is = subst (λ n. tally_at with_turn n ≡ commands_of (past ++ t ∷ []) n) (eqb-true t.seat.place place is) own
  by place within false is = other place within is

  pub tallied_more : IsTallied with_turn (past ++ t ∷ [])
  tallied_more = record {
    all = length-set tallies t.seat.place (tally_with (tally_at tallies t.seat.place) before after) ∙ h.all;
    each = λ place within. by place within (t.seat.place == place) refl;
  }

-- a turn in which nothing was admitted or refused
idle_by : (of : TurnOf → ℕ) (place : ℕ) (past : List TurnOf) (t : TurnOf) → of t ≡ 0 → (own : Bool) → (t.seat.place == place) ≡ own →
    sum_by (λ (u : TurnOf). if u.seat.place == place then of u else 0) (past ++ t ∷ []) ≡ sum_by (λ (u : TurnOf). if u.seat.place == place then of u else 0) past
idle_by of place past t none true is = let e = own_part of place past t true is in omega (arith, e, none)
idle_by of place past t none false is = let e = own_part of place past t false is in omega (arith, e)

pub tallied_idle : (tallies : List Tally) (past : List TurnOf) (t : TurnOf) → t.admitted ≡ 0 → t.refused ≡ 0 → IsTallied tallies past → IsTallied tallies (past ++ t ∷ [])
tallied_idle tallies past t admitted refused h = record {
  all = h.all;
  each = λ place within. h.each place within ∙ same_tally _ _ _ _
      (ap told_count (sym (idle_by (λ (u : TurnOf). u.admitted) place past t admitted (t.seat.place == place) refl)))
      (ap told_count (sym (idle_by (λ (u : TurnOf). u.refused) place past t refused (t.seat.place == place) refl)));
}

-- the number of a place
pub few_of : {A B : Type 0} (xs : List A) (ys : List B) (place : ℕ) → length xs ≡ length ys → place < length xs → length ys ≤ 256 → place < 256
few_of xs ys place same within few = omega (arith, same, within, few)

-- what is kept, by the numbers of the session before and behind its turn
pub tallies_are : (old new : Minutes) (place : ℕ) (b a b' a' : Tally) → new ≡ record old { tallies = set old.tallies place (tally_with (tally_at old.tallies place) b a) } →
    b ≡ b' → a ≡ a' → new.tallies ≡ set old.tallies place (tally_with (tally_at old.tallies place) b' a')
tallies_are old new place b a b' a' is p q =
    ap (λ (m : Minutes). m.tallies) is ∙ ap (λ (x : Tally). set old.tallies place (tally_with (tally_at old.tallies place) x a)) p
    ∙ ap (λ (x : Tally). set old.tallies place (tally_with (tally_at old.tallies place) b' x)) q

pub tallied_none : IsTallied no_minutes.tallies []
tallied_none = record {
  all = length-replicate 256 no_tally;
  each = λ place within. get_or-replicate 256 place no_tally no_tally within;
}

-- ---- the lines

-- numbers that are the same have the same lines
pub lines_same : (places : List Place) (number : ℕ) (standing : List Seat) (one two : ℕ → Tally) (moment : ℕ) → number + length places ≤ 256 →
    ((place : ℕ) → place < 256 → one place ≡ two place) → stands_lines places number standing one moment ≡ stands_lines places number standing two moment
lines_same [] number standing one two moment few same = refl
lines_same (p ∷ places) number standing one two moment few same =
    let f : number + length (p ∷ places) ≤ 256 = few in
    simp (same number (omega (arith, f)), lines_same places (number + 1) standing one two moment (omega (arith, f)) same)
