-- A round that breaks off where a line fails, and the service whose last round it is.
use Rattle.std.proofs.Common.{Bool, List, None, Option, Some, ap, inl, inr, length, map, refl, subst, sym, true, false, ℕ, ◌++◌, ◌-◌, ◌<◌, []}
use Rattle.std.proofs.Common.{◌^◌, ◌∙◌, ◌∷◌, ◌≡◌}
use Rattle.std.specs.Prelude.{option_map, option_to_list, slice_get, ◌==◌}
use Rattle.std.proofs.Math.ListN.{set}
use Rattle.std.specs.List.{AllByRecursion, flat_map}
use Rattle.std.proofs.lemmas.Bool.{eq-eqb}
use Rattle.std.proofs.lemmas.List.{append-nil, append_assoc, map-append}
use Rattle.cf_lane.specs.Caller.{RateMoments}
use Rattle.cf_links.specs.Links.{LinksEntry}
use Rattle.cf_outside.specs.Pair.{Entry}
use Rattle.cf_relay.specs.Answers.{history_of}
use Rattle.cf_serve.proofs.Beginning.{begun_more}
use Rattle.cf_serve.proofs.Keeping.{others_held, over_still, part_own}
use Rattle.cf_serve.proofs.Numbers.{all_join, all_one}
use Rattle.cf_serve.proofs.Placing.{PhasesAt}
use Rattle.cf_serve.proofs.Rounding.{flat_one, later_by, more_twice, must_same, same_back, same_front}
use Rattle.cf_serve.proofs.Stepping.{at_place, keeps_it, may_go, may_others, ordered, own_debt, with_y}
use Rattle.cf_serve.proofs.Whole.{IsQuiet, all_ended, all_quiet, all_seats, all_stand, one_stands, own_of_broken}
use Rattle.cf_serve.specs.Broken.{Breaks, BreaksOff, FailsIn, FailsSo, IsFailedClient}
use Rattle.cf_serve.specs.Failing.{MissesRounds, MissesSeat, MissesStep, MissesTurns, TakesNone}
use Rattle.cf_serve.specs.Debt.{debt_of, must_rest}
use Rattle.cf_serve.specs.Door.{first_lobby}
use Rattle.cf_serve.specs.Kept.{AreBegun, IsBegun, before_in, before_of, begins_in}
use Rattle.cf_serve.specs.Lending.{KeptValue}
use Rattle.cf_serve.specs.Minute.{all_lines, last_from}
use Rattle.cf_serve.specs.Phase.{LinkedValue, Phase, debt_at, listenings, phase_of}
use Rattle.cf_serve.specs.Rounds.{Round, Seat, TurnOf, answers_in, lines_in, must_end, round_entries, round_lines}
use Rattle.cf_serve.specs.Rounds.{stays, turns_of}
use Rattle.cf_serve.specs.declared.debt.Debt.{Debt}
use Rattle.cf_serve.specs.declared.door.Lobby.{Lobby}
use Rattle.cf_serve.specs.declared.minute.Tally.{Tally}
use Rattle.cf_serve.specs.Served.{IfEnded, IsClient, OpensDo, left_of, listen_lines, opened_from}
use Rattle.cf_serve.specs.Session.{Listening}
use Rattle.cf_serve.specs.Table.{BegunAs, IsBetween, IsHeld, IsTable, Keeps, TurnsBegin, seats_of}
use Rattle.cf_serve.specs.declared.session.Served.{Served}
use Rattle.cf_serve.specs.declared.table.Place.{Place}

-- ---- the step

module _ {xs : List Served} {index : ℕ} {x : Served} (s : PhasesAt xs index x) {places : List Listening} {most next : ℕ} {serves : ℕ → Bool} {store : List KeptValue}
    (table : IsTable places most store serves next (map phase_of xs)) {past : List TurnOf} (keeps : Keeps places most store next past (map phase_of xs))
    {at : Listening} (is_at : slice_get places x.place ≡ Some at) where
  abbrev After : TurnOf → Type 0
  After t = AllByRecursion (λ (u : TurnOf). IfEnded places most (past ++ t ∷ []) u u.end) (past ++ t ∷ []) × AllByRecursion (IsHeld places most (past ++ t ∷ [])) (s.before ++ s.after)

  after_it : (t : TurnOf) → t.seat ≡ (phase_of x).seat → t.end ≡ None → After t
  after_it t is none =
      subst (λ z. IsBetween 0 next (s.before ++ record { seat = z; linked = (phase_of x).linked } ∷ s.after) →
      Keeps places most store next past (s.before ++ record { seat = z; linked = (phase_of x).linked } ∷ s.after) → After t) is
      (λ o k. (
        all_ended places most (past ++ t ∷ []) (s.before ++ record { seat = t.seat; linked = (phase_of x).linked } ∷ s.after)
            (over_still places most store next past t s.before s.after (phase_of x).linked (phase_of x).linked o k none),
        others_held places most store next past t s.before s.after (phase_of x).linked (phase_of x).linked o k,
      )) (ordered s table) (keeps_it s table keeps is_at)

  -- its line failed
  module _ {again : Bool} {moment : ℕ} {told told' : Option (List LinksEntry)} {log log' : Option (List (List ℕ))} {part : List ℕ}
      (m : MissesSeat at again (before_in x.number past) most moment (answers_in x.number past) (lines_in x.number past) told told' log log' part (phase_of x).seat (debt_at (phase_of x).linked) (phase_of x).linked) where
    own : (m.turn.seat.session == x.number) ≡ true
    own = eq-eqb m.turn.seat.session x.number (ap (λ (z : Seat). z.session) m.its)

    abbrev all : List TurnOf
    all = past ++ m.turn ∷ []

    held_it : IsHeld places most past (phase_of x)
    held_it = all_one (IsHeld places most past) s.before (phase_of x) s.after (keeps_it s table keeps is_at).held

    begins_same : begins_in x.number all ≡ begins_in x.number past
    begins_same = part_own (λ (u : TurnOf). option_to_list u.begun) x.number past m.turn own ∙ ap (λ (o : Option RateMoments). begins_in x.number past ++ option_to_list o) m.no_begin ∙ append-nil (begins_in x.number past)

    answers_same : answers_in x.number all ≡ answers_in x.number past ++ m.turn.answers
    answers_same = part_own (λ (u : TurnOf). u.answers) x.number past m.turn own

    takes_by : (o : Option LinkedValue) (bs : List RateMoments) (es : List Entry) → BegunAs o bs → TakesNone o es → bs ≡ [] → history_of es ≡ []
    takes_by None bs es once h none = h
    takes_by (Some v) bs es once h none = let e : once.0 ∷ [] ≡ [] = sym once.1 ∙ none in cc e

    begun_it : IsBegun places past m.turn
    begun_it = record {
      begins = λ b is. cc (sym m.no_begin ∙ is);
      first = λ b is. cc (sym m.no_begin ∙ is);
      met = λ b is. cc (sym m.no_begin ∙ is);
      takes = λ at' is. subst (λ (z : Seat). begins_in z.session all ≡ [] → history_of (answers_in z.session all) ≡ []) (sym m.its)
          (λ none. ap history_of answers_same ∙ takes_by (phase_of x).linked (begins_in x.number past) (answers_in x.number past ++ m.turn.answers) held_it.begun m.takes (sym begins_same ∙ none));
      leaves = λ e is. cc (sym m.no_end ∙ is);
    }

    pub step_missed : (y : Served) → y ≡ record x { linked = y.linked } → again ≡ must_end places (seats_of (map phase_of xs)) (phase_of x).seat →
        MissesStep places most moment past index told told' log log' part (map phase_of xs) (map phase_of (set xs index y))
    step_missed y same again_is =
        let t = m.turn in
        let a = after_it t m.its m.no_end in
        record {
          before = s.before;
          it = phase_of x;
          after = s.after;
          was = s.was;
          at = s.at;
          kept = simp (with_y s table y same, map-append, s.was);
          turn = t;
          seat = m.its;
          its_moment = m.its_moment;
          fails_in = subst (λ (o : Debt). FailsIn (must_end places (seats_of (map phase_of xs)) (phase_of x).seat) (must_rest o moment) t) (own_debt s table keeps is_at)
              (subst (λ (b : Bool). FailsIn b (must_rest (debt_at (phase_of x).linked) moment) t) again_is m.fails_in);
          no_end = m.no_end;
          no_begin = m.no_begin;
          tells = m.tells;
          added = m.added;
          ended = a.0;
          begun = begun_more places [] past t keeps.begun begun_it;
          others = all_stand places most all store serves (s.before ++ s.after) a.1 (may_others s table);
          stood = one_stands places most past store serves (phase_of x) held_it (may_go s table);
          fails = at_place places x.place at is_at
              (λ (o : Listening). FailsSo o (before_in x.number all) most (phase_of x).seat.client (answers_in x.number all) (lines_in x.number all) part)
              (subst (λ (bs : List RateMoments). FailsSo at (before_of bs) most (phase_of x).seat.client (answers_in x.number all) (lines_in x.number all) part) (sym begins_same)
              (rw (answers_same, part_own (λ (u : TurnOf). u.lines) x.number past t own) m.fails));
        }

-- ---- the turns

module _ (places : List Listening) (most next moment : ℕ) (past : List TurnOf) (told : Option (List LinksEntry)) (log : Option (List (List ℕ))) (old : List Phase) (index : ℕ)
    (store1 : List KeptValue) (told1 : Option (List LinksEntry)) (log1 : Option (List (List ℕ))) (tallies tallies1 : List Tally) (mid : List Phase)
    (ordered : IsBetween 0 next old) (ordered1 : IsBetween 0 next mid) (b : TurnsBegin places most store1 next moment past index told told1 log log1 tallies tallies1 old mid)
    (told2 : Option (List LinksEntry)) (log2 : Option (List (List ℕ))) (part : List ℕ) (new : List Phase)
    (m : MissesStep places most moment (past ++ b.turns) index told1 told2 log1 log2 part mid new) where
  front : b.done ≡ m.before
  front = same_front b.done b.rest m.before (m.it ∷ m.after) (sym b.was ∙ m.was) (b.at ∙ sym m.at)

  back : b.rest ≡ m.it ∷ m.after
  back = same_back b.done b.rest m.before (m.it ∷ m.after) (sym b.was ∙ m.was) (b.at ∙ sym m.at)

  done : seats_of m.before ≡ flat_map stays b.turns
  done = ap seats_of (sym front) ∙ b.stay

  -- those that stood as the round began and those that stand now have the same ones behind it
  fails_now : must_end places (seats_of mid) m.it.seat ≡ must_end places (seats_of old) m.turn.seat
  fails_now =
      let was : seats_of mid ≡ seats_of m.before ++ m.it.seat ∷ seats_of m.after = ap seats_of m.was ∙ map-append (λ (p : Phase). p.seat) m.before (m.it ∷ m.after) in
      let stood : seats_of old ≡ map (λ (t : TurnOf). t.seat) b.turns ++ m.it.seat ∷ seats_of m.after =
      sym b.in_turn ∙ ap (λ (ps : List Phase). map (λ (t : TurnOf). t.seat) b.turns ++ seats_of ps) back in
      must_same places m.it.seat (seats_of mid) (seats_of old) (later_by next mid (seats_of m.before) m.it.seat (seats_of m.after) was ordered1
      ∙ sym (later_by next old (map (λ (t : TurnOf). t.seat) b.turns) m.it.seat (seats_of m.after) stood ordered))
      ∙ ap (must_end places (seats_of old)) (sym m.seat)

  later : past ++ (b.turns ++ m.turn ∷ []) ≡ (past ++ b.turns) ++ m.turn ∷ []
  later = sym (append_assoc past b.turns (m.turn ∷ []))

  pub turns_missed : MissesTurns places most moment past told told2 log log2 part old new
  turns_missed = record {
    turns = b.turns ++ m.turn ∷ [];
    tells = simp (m.tells, b.tells, more_twice, flat_one);
    added = simp (m.added, b.added, more_twice, flat_one);
    ended = subst (λ (p : List TurnOf). AllByRecursion (λ (t : TurnOf). IfEnded places most p t t.end) p) (sym later) m.ended;
    fails = record {
      before = b.turns;
      turn = m.turn;
      behind = seats_of m.after;
      are = refl;
      in_turn = simp m.seat (rw back at b.in_turn);
      each = b.each;
      again = b.again;
      measured = b.keeps.measured;
      begun = subst (AreBegun places []) (sym later) m.begun;
      its_moment = m.its_moment;
      fails_in = subst (λ (x : Bool). FailsIn x (must_rest (debt_of m.turn.seat.session (past ++ b.turns)) moment) m.turn) fails_now
          (subst (λ (z : Seat). FailsIn (must_end places (seats_of mid) m.it.seat) (must_rest (debt_of z.session (past ++ b.turns)) moment) m.turn) (sym m.seat) m.fails_in);
      no_end = m.no_end;
      no_begin = m.no_begin;
      all = simp (m.kept, m.was, map-append, m.seat, done);
      others = subst (λ (p : List TurnOf). AllByRecursion (λ (s : Seat). IsClient places most p s []) (flat_map stays b.turns ++ seats_of m.after)) (sym later)
          (subst (AllByRecursion (λ (s : Seat). IsClient places most ((past ++ b.turns) ++ m.turn ∷ []) s [])) (simp (map-append, done))
          (all_seats (λ (s : Seat). IsClient places most ((past ++ b.turns) ++ m.turn ∷ []) s []) (m.before ++ m.after) m.others));
      was = subst (λ (s : Seat). IsClient places most (past ++ b.turns) s []) (sym m.seat) m.stood;
      fails = subst (λ (s : Seat). IsFailedClient places most (past ++ (b.turns ++ m.turn ∷ [])) s part) (sym m.seat)
          (subst (λ (p : List TurnOf). IsFailedClient places most p m.it.seat part) (sym later) m.fails);
    };
  }

-- ---- the service

fails_quiet : (again rests : Bool) (t : TurnOf) → FailsIn again rests t → IsQuiet t
fails_quiet true rests t h not = h.1
fails_quiet false rests t h not = cc (sym h.0 ∙ not)

-- the turns of a round that breaks off
broken_turns : (places : List Place) (last : Option ℕ) (most : ℕ) (past : List TurnOf) (lobby : Lobby) (standing : List Seat) (r : Round) (minute : List (List ℕ)) (left : List Seat) (part : List ℕ) →
    BreaksOff places last most past lobby standing r minute left part → AllByRecursion IsQuiet r.turns
broken_turns places last most past lobby standing r minute left part (inl (none, early)) = subst (AllByRecursion IsQuiet) (sym early.no_turns) tt
broken_turns places last most past lobby standing r minute left part (inr (inl (none, (come, f)))) =
    subst (AllByRecursion IsQuiet) (sym f.are) (all_join IsQuiet f.before (f.turn ∷ []) (all_quiet r.moment f.before f.each) (fails_quiet _ _ f.turn f.fails_in, tt))
broken_turns places last most past lobby standing r minute left part (inr (inr behind)) = all_quiet r.moment r.turns behind.is_round.each

pub breaks_all : (places : List Place) (most made : ℕ) (told told1 told2 told3 : Option (List LinksEntry)) (log log1 log2 : Option (List (List ℕ))) (part : List ℕ) (ps : List Phase) →
    made < 2 ^ 64 - 1 → OpensDo places (length places) told told1 log log1 → MissesRounds places most first_lobby None made [] told1 told2 log1 log2 part [] ps →
    told3 ≡ option_map (λ es. es ++ left_of (seats_of ps)) told2 → Breaks places most told told3 log log2 part
breaks_all places most made told told1 told2 told3 log log1 log2 part ps few o r left =
    let rs = r.rounds ++ r.round ∷ [] in (
      opened_from 0 o.moments ++ (flat_map round_entries rs ++ left_of (seats_of ps)),
      (
        listen_lines places o.moments ++ (all_lines places None [] r.rounds ++ (round_lines r.round ++ r.minute)),
        (
          simp (left, r.tells, o.tells, more_twice, append_assoc),
          (
            simp (r.added, o.added, more_twice),
            inr (record {
              moments = o.moments;
              opened = o.all;
              rounds = r.rounds;
              made = subst (λ n. n < 2 ^ 64 - 1) (sym r.count) few;
              lobby = r.mid;
              standing = r.standing;
              in_turn = r.in_turn;
              round = r.round;
              left = seats_of ps;
              minute = r.minute;
              breaks = r.breaks;
              told = refl;
              logged = refl;
              answers = λ k. own_of_broken k (listenings places) o.moments r.rounds r.mid r.standing (seats_of ps) r.round r.in_turn
                  (broken_turns places (last_from None r.rounds) most (turns_of r.rounds) r.mid r.standing r.round r.minute (seats_of ps) part r.breaks);
              ended = r.ended;
            }),
          ),
        ),
      ),
    )
