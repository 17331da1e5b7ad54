-- One turn more: what it does to the sessions that stand, and to those that ended.
use Rattle.std.proofs.Common.{Bool, List, None, Option, Some, ap, arith, refl, subst, sym, true, false, ℕ, ◌++◌, ◌<◌, ◌∙◌, ◌∷◌, ◌≡◌, []}
use Rattle.std.proofs.Common.{if◌then◌else◌}
use Rattle.std.specs.Prelude.{◌==◌, option_to_list, slice_get}
use Rattle.std.specs.List.{AllByRecursion}
use Rattle.std.proofs.lemmas.Bool.{eq-eqb}
use Rattle.std.proofs.lemmas.Bool.Decides.{nat_tests}
use Rattle.std.proofs.lemmas.Grind.{flat_map-append}
use Rattle.std.proofs.lemmas.List.{append-nil}
use Rattle.cf_outside.specs.Pair.{Entry}
use Rattle.cf_serve.proofs.Numbers.{all_join, all_map, all_one, all_others, all_with, all_zip, number_within, others}
use Rattle.cf_serve.proofs.Owing.{debt_other, debt_own, measured_more}
use Rattle.cf_lane.specs.Caller.{RateMoments}
use Rattle.cf_serve.proofs.Beginning.{begun_more}
use Rattle.cf_serve.specs.Debt.{IsMeasured, debt_of, debt_with}
use Rattle.cf_serve.specs.Kept.{IsBegun, before_in, before_of, begins_in}
use Rattle.cf_serve.specs.Lending.{IsStored, KeptValue}
use Rattle.cf_serve.specs.Phase.{LinkedValue, Phase, StandsAs, TurnLeaves, debt_at}
use Rattle.cf_serve.specs.Rounds.{TurnOf, answers_in, ends_in, lines_in, part}
use Rattle.cf_serve.specs.Session.{EndsSo, Listening}
use Rattle.cf_serve.specs.Table.{BegunAs, IfOver, IsBetween, IsHeld, IsOver, Keeps}
use Rattle.cf_serve.specs.declared.debt.Debt.{Debt}
use Rattle.cf_serve.specs.declared.end.SessionEnd.{SessionEnd}

-- ---- what a session has of the turns

module _ {A : Type 0} (of : TurnOf → List A) where
  own_one : (k : ℕ) (t : TurnOf) (b : Bool) → (t.seat.session == k) ≡ b → part of k (t ∷ []) ≡ (if b then of t else [])
  own_one k t b e = append-nil (if t.seat.session == k then of t else []) ∙ ap (λ (x : Bool). if x then of t else []) e

  pub part_own : (k : ℕ) (past : List TurnOf) (t : TurnOf) → (t.seat.session == k) ≡ true → part of k (past ++ t ∷ []) ≡ part of k past ++ of t
  part_own k past t e =
      flat_map-append (λ (u : TurnOf). if u.seat.session == k then of u else []) past (t ∷ []) ∙ ap (λ xs. part of k past ++ xs) (own_one k t true e)

  pub part_other : (k : ℕ) (past : List TurnOf) (t : TurnOf) → (t.seat.session == k) ≡ false → part of k (past ++ t ∷ []) ≡ part of k past
  part_other k past t e =
      flat_map-append (λ (u : TurnOf). if u.seat.session == k then of u else []) past (t ∷ []) ∙ ap (λ xs. part of k past ++ xs) (own_one k t false e)
      ∙ append-nil (part of k past)

  pub part_none : (k : ℕ) (past : List TurnOf) → AllByRecursion (λ (t : TurnOf). (t.seat.session == k) ≡ false) past → part of k past ≡ []
  part_none k [] h = refl
  part_none k (t ∷ past) (e, h) = ap (λ (x : Bool). (if x then of t else []) ++ part of k past) e ∙ part_none k past h

module _ (places : List Listening) (most : ℕ) (past : List TurnOf) (t : TurnOf) where
  begins_other : (k : ℕ) → (t.seat.session == k) ≡ false → begins_in k (past ++ t ∷ []) ≡ begins_in k past
  begins_other k other = part_other (λ (u : TurnOf). option_to_list u.begun) k past t other

  -- a session of another number
  held_other : (p : Phase) → (t.seat.session == p.seat.session) ≡ false → IsHeld places most past p → IsHeld places most (past ++ t ∷ []) p
  held_other p other h = record {
    no_end = part_other (λ (u : TurnOf). option_to_list u.end) p.seat.session past t other ∙ h.no_end;
    debt = h.debt ∙ sym (debt_other p.seat.session past t other);
    begun = subst (BegunAs p.linked) (sym (begins_other p.seat.session other)) h.begun;
    stands = λ at is.
        subst (λ (bs : List RateMoments). StandsAs at (before_of bs) most (answers_in p.seat.session (past ++ t ∷ [])) (lines_in p.seat.session (past ++ t ∷ [])) p.linked)
        (sym (begins_other p.seat.session other))
        (subst (λ (es : List Entry). StandsAs at (before_in p.seat.session past) most es (lines_in p.seat.session (past ++ t ∷ [])) p.linked)
        (sym (part_other (λ (u : TurnOf). u.answers) p.seat.session past t other))
        (subst (λ (ls : List (List ℕ)). StandsAs at (before_in p.seat.session past) most (answers_in p.seat.session past) ls p.linked)
        (sym (part_other (λ (u : TurnOf). u.lines) p.seat.session past t other)) (h.stands at is)));
  }

  over_other : (u : TurnOf) (ps qs : List Phase) (e : SessionEnd) → (t.seat.session == u.seat.session) ≡ false →
      AllByRecursion (λ (p : Phase). (p.seat.session == u.seat.session) ≡ false) qs → IsOver places most past ps u e → IsOver places most (past ++ t ∷ []) qs u e
  over_other u ps qs e other gone h = record {
    gone = gone;
    one_end = part_other (λ (x : TurnOf). option_to_list x.end) u.seat.session past t other ∙ h.one_end;
    ends = λ at is.
        subst (λ (bs : List RateMoments). EndsSo at (before_of bs) most u.seat.client (answers_in u.seat.session (past ++ t ∷ [])) (lines_in u.seat.session (past ++ t ∷ [])) e)
        (sym (begins_other u.seat.session other))
        (subst (λ (es : List Entry). EndsSo at (before_in u.seat.session past) most u.seat.client es (lines_in u.seat.session (past ++ t ∷ [])) e)
        (sym (part_other (λ (x : TurnOf). x.answers) u.seat.session past t other))
        (subst (λ (ls : List (List ℕ)). EndsSo at (before_in u.seat.session past) most u.seat.client (answers_in u.seat.session past) ls e)
        (sym (part_other (λ (x : TurnOf). x.lines) u.seat.session past t other)) (h.ends at is)));
  }

  -- the turn of this session leaves so much
  abbrev pub Leaves : Option LinkedValue → Option SessionEnd → Type 0
  Leaves linked end = (at : Listening) → slice_get places t.seat.place ≡ Some at →
      TurnLeaves at (before_in t.seat.session (past ++ t ∷ [])) most t.seat.client (answers_in t.seat.session past ++ t.answers) (lines_in t.seat.session past ++ t.lines) linked end

  own_answers : answers_in t.seat.session (past ++ t ∷ []) ≡ answers_in t.seat.session past ++ t.answers
  own_answers = part_own (λ (u : TurnOf). u.answers) t.seat.session past t (eq-eqb t.seat.session t.seat.session refl)

  own_lines : lines_in t.seat.session (past ++ t ∷ []) ≡ lines_in t.seat.session past ++ t.lines
  own_lines = part_own (λ (u : TurnOf). u.lines) t.seat.session past t (eq-eqb t.seat.session t.seat.session refl)

  own_ends : ends_in t.seat.session past ≡ [] → ends_in t.seat.session (past ++ t ∷ []) ≡ option_to_list t.end
  own_ends none =
      part_own (λ (u : TurnOf). option_to_list u.end) t.seat.session past t (eq-eqb t.seat.session t.seat.session refl)
      ∙ ap (λ (xs : List SessionEnd). xs ++ option_to_list t.end) none

  abbrev its_before : RateMoments
  its_before = before_in t.seat.session (past ++ t ∷ [])

  held_own : (linked : Option LinkedValue) → t.end ≡ None → ends_in t.seat.session past ≡ [] → debt_at linked ≡ debt_of t.seat.session (past ++ t ∷ []) →
      BegunAs linked (begins_in t.seat.session (past ++ t ∷ [])) → Leaves linked None → IsHeld places most (past ++ t ∷ []) (record { seat = t.seat; linked = linked })
  held_own linked stands none debt begun leaves = record {
    no_end = own_ends none ∙ ap option_to_list stands;
    debt = debt;
    begun = begun;
    stands = λ at is.
        subst (λ (es : List Entry). StandsAs at its_before most es (lines_in t.seat.session (past ++ t ∷ [])) linked) (sym own_answers)
        (subst (λ (ls : List (List ℕ)). StandsAs at its_before most (answers_in t.seat.session past ++ t.answers) ls linked) (sym own_lines) (leaves at is));
  }

  over_own : (linked : Option LinkedValue) (qs : List Phase) (e : SessionEnd) → t.end ≡ Some e → ends_in t.seat.session past ≡ [] →
      AllByRecursion (λ (p : Phase). (p.seat.session == t.seat.session) ≡ false) qs → Leaves linked (Some e) → IsOver places most (past ++ t ∷ []) qs t e
  over_own linked qs e ended none gone leaves = record {
    gone = gone;
    one_end = own_ends none ∙ ap option_to_list ended;
    ends = λ at is.
        subst (λ (es : List Entry). EndsSo at its_before most t.seat.client es (lines_in t.seat.session (past ++ t ∷ [])) e) (sym own_answers)
        (subst (λ (ls : List (List ℕ)). EndsSo at its_before most t.seat.client (answers_in t.seat.session past ++ t.answers) ls e) (sym own_lines) (leaves at is).0);
  }

module _ (places : List Listening) (most : ℕ) (store : List KeptValue) (next : ℕ) (past : List TurnOf) (t : TurnOf) (before after : List Phase) (linked new : Option LinkedValue)
    (ordered : IsBetween 0 next (before ++ record { seat = t.seat; linked = linked } ∷ after))
    (keeps : Keeps places most store next past (before ++ record { seat = t.seat; linked = linked } ∷ after)) where
  abbrev it : Option LinkedValue → Phase
  it l = record { seat = t.seat; linked = l }

  abbrev IsNot : TurnOf → Phase → Type 0
  IsNot u p = (p.seat.session == u.seat.session) ≡ false

  abbrev Then : List Phase → TurnOf → Type 0
  Then ps u = IfOver places most (past ++ t ∷ []) ps u u.end

  early : AllByRecursion (λ (u : TurnOf). u.seat.session < next) (past ++ t ∷ [])
  early = all_join (λ (u : TurnOf). u.seat.session < next) past (t ∷ []) keeps.early ((number_within 0 next before (it linked) after ordered).1, tt)

  none : ends_in t.seat.session past ≡ []
  none = (all_one (IsHeld places most past) before (it linked) after keeps.held).no_end

  pub others_held : AllByRecursion (IsHeld places most (past ++ t ∷ [])) (before ++ after)
  others_held = all_zip (λ (q : Phase). (t.seat.session == q.seat.session) ≡ false) (IsHeld places most past) (IsHeld places most (past ++ t ∷ [])) (before ++ after) (held_other places most past t)
      (others 0 next before (it linked) after ordered) (all_others (IsHeld places most past) before (it linked) after keeps.held)

  -- those that ended before, where fewer may stand
  module _ (qs : List Phase) (fewer : (u : TurnOf) → AllByRecursion (IsNot u) (before ++ it linked ∷ after) → AllByRecursion (IsNot u) qs) where
    over_by : (u : TurnOf) (o : Option SessionEnd) → IfOver places most past (before ++ it linked ∷ after) u o → IfOver places most (past ++ t ∷ []) qs u o
    over_by u None h = tt
    over_by u (Some e) h =
        over_other places most past t u (before ++ it linked ∷ after) qs e (all_one (IsNot u) before (it linked) after h.gone) (fewer u h.gone) h

    over_all : Then qs t → AllByRecursion (Then qs) (past ++ t ∷ [])
    over_all last = all_join (Then qs) past (t ∷ [])
        (all_map (λ (u : TurnOf). IfOver places most past (before ++ it linked ∷ after) u u.end) (Then qs) past (λ u h. over_by u u.end h) keeps.over) (last, tt)

  own_debt : debt_at linked ≡ debt_of t.seat.session past
  own_debt = (all_one (IsHeld places most past) before (it linked) after keeps.held).debt

  debt_now : debt_at new ≡ debt_with (debt_at linked) t.moment t.refused → debt_at new ≡ debt_of t.seat.session (past ++ t ∷ [])
  debt_now owes = owes ∙ ap (λ (d : Debt). debt_with d t.moment t.refused) own_debt ∙ sym (debt_own t.seat.session past t (eq-eqb t.seat.session t.seat.session refl))

  -- it stays
  pub keeps_stay : IsMeasured places past t → IsBegun places past t → (store' : List KeptValue) → IsStored places store' (past ++ t ∷ []) → BegunAs new (begins_in t.seat.session (past ++ t ∷ [])) →
      debt_at new ≡ debt_with (debt_at linked) t.moment t.refused → t.end ≡ None → Leaves places most past t new None → Keeps places most store' next (past ++ t ∷ []) (before ++ it new ∷ after)
  keeps_stay measured begun store' stored once owes stands leaves = record {
    early = early;
    measured = measured_more places [] past t keeps.measured measured;
    begun = begun_more places [] past t keeps.begun begun;
    stored = stored;
    held = all_with (IsHeld places most (past ++ t ∷ [])) before (it new) after (held_own places most past t new stands none (debt_now owes) once leaves) others_held;
    over = over_all (before ++ it new ∷ after)
        (λ u h. all_with (IsNot u) before (it new) after (all_one (IsNot u) before (it linked) after h) (all_others (IsNot u) before (it linked) after h))
        (subst (IfOver places most (past ++ t ∷ []) (before ++ it new ∷ after) t) (sym stands) tt);
  }

  -- its line failed: those that ended have ended so
  pub over_still : t.end ≡ None → AllByRecursion (Then (before ++ it linked ∷ after)) (past ++ t ∷ [])
  over_still stands = over_all (before ++ it linked ∷ after) (λ u h. h) (subst (IfOver places most (past ++ t ∷ []) (before ++ it linked ∷ after) t) (sym stands) tt)

  -- it ended
  own_gone : AllByRecursion (IsNot t) (before ++ after)
  own_gone = all_map (λ (q : Phase). (t.seat.session == q.seat.session) ≡ false) (IsNot t) (before ++ after) (λ q h. grind (arith, nat_tests)) (others 0 next before (it linked) after ordered)

  pub keeps_end : IsMeasured places past t → IsBegun places past t → (store' : List KeptValue) → IsStored places store' (past ++ t ∷ []) → (e : SessionEnd) → t.end ≡ Some e →
      Leaves places most past t new (Some e) → Keeps places most store' next (past ++ t ∷ []) (before ++ after)
  keeps_end measured begun store' stored e ended leaves = record {
    early = early;
    measured = measured_more places [] past t keeps.measured measured;
    begun = begun_more places [] past t keeps.begun begun;
    stored = stored;
    held = others_held;
    over = over_all (before ++ after) (λ u h. all_others (IsNot u) before (it linked) after h)
        (subst (IfOver places most (past ++ t ∷ []) (before ++ after) t) (sym ended) (over_own places most past t new (before ++ after) e ended none own_gone leaves));
  }
