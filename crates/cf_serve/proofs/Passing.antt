-- Sessions that have no turn in a round, as the links pass them over.
use Rattle.std.proofs.Common.{Bool, List, Option, Some, ap, arith, inr, length, refl, subst, suc, sym, true, zero, ℕ, ◌++◌, ◌+◌, ◌-◌, []}
use Rattle.std.proofs.Common.{◌≤◌, ◌<◌, ◌∙◌, ◌∷◌, ◌≡◌, None, false}
use Rattle.std.specs.List.{AllByRecursion}
use Rattle.std.specs.Prelude.{map, option_to_list, slice_get, vec_len, ◌==◌}
use Rattle.std.proofs.lemmas.Bool.{eq-eqb}
use Rattle.std.proofs.lemmas.List.{append-nil, length-append, length-map, map-append}
use Rattle.cf_lane.specs.Caller.{RateMoments, none_before}
use Rattle.cf_links.specs.Links.{LinksEntry}
use Rattle.cf_outside.specs.Pair.{Entry}
use Rattle.cf_relay.proofs.Lined.{lines_none}
use Rattle.cf_relay.specs.Answers.{history_of}
use Rattle.cf_serve.proofs.Keeping.{keeps_stay, part_own}
use Rattle.cf_serve.proofs.Numbers.{all_one}
use Rattle.cf_serve.proofs.Owing.{admits_none, refuses_none}
use Rattle.cf_serve.proofs.Rounding.{more_none, turns_on}
use Rattle.cf_serve.proofs.Storing.{stored_idle}
use Rattle.cf_serve.proofs.Tallying.{tallied_idle}
use Rattle.cf_serve.specs.Debt.{Admits, IsMeasured, Refuses}
use Rattle.cf_serve.specs.Kept.{IsBegun, before_in, before_of, begins_in}
use Rattle.cf_serve.specs.Lending.{KeptValue}
use Rattle.cf_serve.specs.Phase.{LinkedValue, Phase, StandsAs, phase_of}
use Rattle.cf_serve.specs.Rounds.{IsAgain, Seat, TurnOf, answers_in, lines_in, must_end}
use Rattle.cf_serve.specs.Session.{Listening}
use Rattle.cf_serve.specs.Table.{AreCalm, BegunAs, IsBetween, IsHeld, Keeps, StepDoes, TurnsBegin, seats_of}
use Rattle.cf_serve.specs.declared.minute.Tally.{Tally}
use Rattle.cf_serve.specs.declared.table.Table.{Table}

-- a place among those that stand, as phases
pub phases_within : (table : Table) (index : ℕ) → index ≤ vec_len table.sessions → index ≤ length (map phase_of table.sessions.items)
phases_within table index h =
    let all : vec_len table.sessions ≡ length table.sessions.items = table.sessions.ok.0 in
    let same : length (map phase_of table.sessions.items) ≡ length table.sessions.items = length-map table.sessions.items phase_of in
    omega (arith, h, all, same)

-- the place of such a session in the round
abbrev no_turn : (moment : ℕ) → Phase → TurnOf
no_turn moment p = record {
  seat = p.seat;
  moment = moment;
  ready = false;
  answers = [];
  lines = [];
  admitted = 0;
  refused = 0;
  end = None;
  begun = None;
  left = none_before;
}

-- a session of which nothing was told has begun as before
idle_takes : (at : Listening) (before : RateMoments) (most : ℕ) (es : List Entry) (own : List (List ℕ)) (o : Option LinkedValue) (bs : List RateMoments) → BegunAs o bs → StandsAs at before most es own o →
    bs ≡ [] → history_of es ≡ []
idle_takes at before most es own None bs once h none = ap history_of h.0
idle_takes at before most es own (Some v) bs once h none = let e : once.0 ∷ [] ≡ [] = sym once.1 ∙ none in cc

module _ (places : List Listening) (most next moment : ℕ) where
  module _ (store : List KeptValue) (past : List TurnOf) (before : List Phase) (p : Phase) (after : List Phase) (keeps : Keeps places most store next past (before ++ p ∷ after)) where
    abbrev it : TurnOf
    it = no_turn moment p

    held : IsHeld places most past p
    held = all_one (IsHeld places most past) before p after keeps.held

    own : (p.seat.session == p.seat.session) ≡ true
    own = eq-eqb p.seat.session p.seat.session refl

    begins_same : begins_in p.seat.session (past ++ it ∷ []) ≡ begins_in p.seat.session past
    begins_same = part_own (λ (u : TurnOf). option_to_list u.begun) p.seat.session past it own ∙ append-nil (begins_in p.seat.session past)

    answers_same : answers_in p.seat.session (past ++ it ∷ []) ≡ answers_in p.seat.session past
    answers_same = part_own (λ (u : TurnOf). u.answers) p.seat.session past it own ∙ append-nil (answers_in p.seat.session past)

    before_same : before_in p.seat.session past ≡ before_in p.seat.session (past ++ it ∷ [])
    before_same = ap before_of (sym begins_same)

    measured : IsMeasured places past it
    measured = record {
      rests = λ too_much. refl;
      idle = λ idle. refl;
      refuses = λ at is. subst (λ (b : RateMoments). Refuses at b (answers_in p.seat.session past) [] 0) before_same
          (refuses_none at (before_in p.seat.session past) most (answers_in p.seat.session past) (lines_in p.seat.session past) p.linked (held.stands at is));
      passive = λ idle. refl;
      admits = λ at is. subst (λ (b : RateMoments). Admits at b (answers_in p.seat.session past) [] 0) before_same
          (admits_none at (before_in p.seat.session past) most (answers_in p.seat.session past) (lines_in p.seat.session past) p.linked (held.stands at is));
    }

    begun : IsBegun places past it
    begun = record {
      begins = λ b is. cc is;
      first = λ b is. cc is;
      met = λ b is. cc is;
      takes = λ at is none. ap history_of answers_same
          ∙ idle_takes at (before_in p.seat.session past) most (answers_in p.seat.session past) (lines_in p.seat.session past) p.linked (begins_in p.seat.session past) held.begun (held.stands at is) (sym begins_same ∙ none);
      leaves = λ e is. cc is;
    }

    stands_still : (at : Listening) → slice_get places p.seat.place ≡ Some at →
        StandsAs at (before_in p.seat.session (past ++ it ∷ [])) most (answers_in p.seat.session past ++ []) (lines_in p.seat.session past ++ []) p.linked
    stands_still at is =
        subst (λ (b : RateMoments). StandsAs at b most (answers_in p.seat.session past ++ []) (lines_in p.seat.session past ++ []) p.linked) before_same
        (subst (λ (es : List Entry). StandsAs at (before_in p.seat.session past) most es (lines_in p.seat.session past ++ []) p.linked) (sym (append-nil (answers_in p.seat.session past)))
        (subst (λ (ls : List (List ℕ)). StandsAs at (before_in p.seat.session past) most (answers_in p.seat.session past) ls p.linked) (sym (append-nil (lines_in p.seat.session past))) (held.stands at is)))

    calm_it : (b : Bool) → must_end places (seats_of (before ++ p ∷ after)) p.seat ≡ b → b ≡ false → IsAgain b it
    calm_it true is not = cc not
    calm_it false is not = λ again. cc again

    pub passed : (told : Option (List LinksEntry)) (log : Option (List (List ℕ))) (tallies : List Tally) → IsBetween 0 next (before ++ p ∷ after) →
        must_end places (seats_of (before ++ p ∷ after)) p.seat ≡ false →
        StepDoes places most store next moment past (length before) told told log log tallies tallies (before ++ p ∷ after) (before ++ p ∷ after) true
    passed told log tallies ordered calm = record {
      before = before;
      it = p;
      after = after;
      left = p ∷ [];
      was = refl;
      at = refl;
      is = refl;
      turn = it;
      seat = refl;
      is_turn = (refl, λ idle. (refl, (refl, inr (refl, refl))));
      again = calm_it (must_end places (seats_of (before ++ p ∷ after)) p.seat) refl calm;
      tells = more_none told;
      added = lines_none log;
      stay = refl;
      count = refl;
      keeps = keeps_stay places most store next past it before after p.linked p.linked ordered keeps measured begun store (stored_idle places store past it refl keeps.stored)
          (subst (BegunAs p.linked) (sym begins_same) held.begun) refl refl stands_still;
      tallied = tallied_idle tallies past it refl refl;
    }

  module _ (past : List TurnOf) (told : Option (List LinksEntry)) (log : Option (List (List ℕ))) (tallies : List Tally) (old : List Phase) (store1 : List KeptValue)
      (told1 : Option (List LinksEntry)) (log1 : Option (List (List ℕ))) (tallies1 : List Tally) (mid : List Phase) (ordered0 : IsBetween 0 next old) (ordered : IsBetween 0 next mid)
      (calm : AreCalm places (seats_of mid)) where
    abbrev Begin : ℕ → Type 0
    Begin index = TurnsBegin places most store1 next moment past index told told1 log log1 tallies tallies1 old mid

    calm_one : (before : List Phase) (p : Phase) (after : List Phase) → mid ≡ before ++ p ∷ after → must_end places (seats_of (before ++ p ∷ after)) p.seat ≡ false
    calm_one before p after was =
        all_one (λ (s : Seat). must_end places (seats_of (before ++ p ∷ after)) s ≡ false) (seats_of before) p.seat (seats_of after)
        (subst (AllByRecursion (λ (s : Seat). must_end places (seats_of (before ++ p ∷ after)) s ≡ false)) (map-append (λ (q : Phase). q.seat) before (p ∷ after))
        (subst (λ (ps : List Phase). AreCalm places (seats_of ps)) was calm))

    one_by : (index : ℕ) (b : Begin index) (rest : List Phase) → b.rest ≡ rest → index < length mid → Begin (index + 1)
    one_by index b [] none h =
        let all : length mid ≡ length b.done + length b.rest = ap length b.was ∙ length-append b.done b.rest in
        let no : length b.rest ≡ 0 = ap length none in
        absurd (omega (arith, all, no, b.at, h))
    one_by index b (p ∷ after) is h =
        let was : mid ≡ b.done ++ p ∷ after = b.was ∙ ap (λ ps. b.done ++ ps) is in
        turns_on places most next moment past told log tallies old index store1 told1 log1 tallies1 mid b ordered0 ordered store1 told1 log1 tallies1 mid true
        (subst (λ n. StepDoes places most store1 next moment (past ++ b.turns) n told1 told1 log1 log1 tallies1 tallies1 mid mid true) b.at
        (subst (λ ps. IsBetween 0 next ps → Keeps places most store1 next (past ++ b.turns) ps →
        StepDoes places most store1 next moment (past ++ b.turns) (length b.done) told1 told1 log1 log1 tallies1 tallies1 ps ps true) (sym was)
        (λ o k. passed store1 (past ++ b.turns) b.done p after k told1 log1 tallies1 o (calm_one b.done p after was)) ordered b.keeps))

    many : (count index : ℕ) → Begin index → index + count ≤ length mid → Begin (index + count)
    many zero index b h = subst Begin (let e : index ≡ index + 0 = omega arith in e) b
    many (suc count) index b h =
        subst Begin (let e : index + 1 + count ≡ index + suc count = omega arith in e)
        (many count (index + 1) (one_by index b b.rest refl (omega (arith, h))) (omega (arith, h)))

    -- those up to a place, of which the links tell nothing
    skipped : (told2 : Option (List LinksEntry)) → told2 ≡ told1 → (index upto : ℕ) → index ≤ upto → upto ≤ length mid → Begin index →
        TurnsBegin places most store1 next moment past upto told told2 log log1 tallies tallies1 old mid
    skipped told2 same index upto on within b =
        let e : index + (upto - index) ≡ upto = omega (arith, on) in
        subst (λ t. TurnsBegin places most store1 next moment past upto told t log log1 tallies tallies1 old mid) (sym same)
        (subst Begin e (many (upto - index) index b (omega (arith, on, within))))

  -- where a client of an asset with rates was taken none is passed over
  pub turns_passed : (past : List TurnOf) (told : Option (List LinksEntry)) (log : Option (List (List ℕ))) (tallies : List Tally) (old : List Phase) (store1 : List KeptValue)
      (told1 : Option (List LinksEntry)) (log1 : Option (List (List ℕ))) (tallies1 : List Tally) (mid : List Phase) → IsBetween 0 next old → IsBetween 0 next mid → (has_new : Bool) →
      (has_new ≡ false → AreCalm places (seats_of mid)) → (told2 : Option (List LinksEntry)) → told2 ≡ told1 → (index upto : ℕ) → index ≤ upto → upto ≤ length mid → (has_new ≡ true → upto ≡ index) →
      TurnsBegin places most store1 next moment past index told told1 log log1 tallies tallies1 old mid →
      TurnsBegin places most store1 next moment past upto told told2 log log1 tallies tallies1 old mid
  turns_passed past told log tallies old store1 told1 log1 tallies1 mid ordered0 ordered true calm told2 same index upto on within all b =
      subst (λ t. TurnsBegin places most store1 next moment past upto told t log log1 tallies tallies1 old mid) (sym same)
      (subst (λ n. TurnsBegin places most store1 next moment past n told told1 log log1 tallies tallies1 old mid) (sym (all refl)) b)
  turns_passed past told log tallies old store1 told1 log1 tallies1 mid ordered0 ordered false calm told2 same index upto on within all b =
      skipped past told log tallies old store1 told1 log1 tallies1 mid ordered0 ordered (calm refl) told2 same index upto on within b
