-- A round with the lines of its minute: whole, or broken off.
use Rattle.std.proofs.Common.{List, None, Option, ap, arith, inl, inr, length, refl, subst, sym, ℕ, ◌++◌, ◌∙◌, ◌∷◌, ◌≡◌, ◌≤◌, []}
use Rattle.std.proofs.Common.{Bool, if◌then◌else◌}
use Rattle.std.specs.Prelude.{option_map}
use Rattle.std.specs.List.{AllByRecursion}
use Rattle.std.proofs.lemmas.List.{append-nil}
use Rattle.cf_lane.specs.Log.{with_lines}
use Rattle.cf_links.specs.Links.{LinksEntry, Woke}
use Rattle.cf_serve.proofs.Rounding.{more_twice}
use Rattle.cf_serve.proofs.Tallying.{lines_same, tallied_none}
use Rattle.cf_serve.proofs.Whole.{all_ended, all_seats, all_stand}
use Rattle.cf_serve.specs.Broken.{TurnFails}
use Rattle.cf_serve.specs.Failing.{MissesArrival, MissesLine, MissesRound, MissesTurns}
use Rattle.cf_serve.specs.Minute.{IsTallied, commands_of, is_over, last_behind, lines_at, no_minutes, tally_at}
use Rattle.cf_serve.specs.Phase.{Phase, listenings}
use Rattle.cf_serve.specs.Lending.{KeptValue}
use Rattle.cf_serve.specs.Rounds.{IsAgainOf, IsRound, Round, Seat, TurnOf, stays}
use Rattle.cf_serve.specs.Served.{IfEnded, IsClient}
use Rattle.cf_serve.specs.Table.{Arrive, IsMinuteOf, IsTable, Keeps, RoundDoes, TurnsDo, seats_of}
use Rattle.cf_serve.specs.declared.door.Lobby.{Lobby}
use Rattle.cf_serve.specs.declared.minute.Minutes.{Minutes}
use Rattle.cf_serve.specs.declared.minute.Tally.{Tally}
use Rattle.cf_serve.specs.declared.table.Place.{Place}
use Rattle.std.specs.List.{flat_map}

-- what is kept before the first round
pub minute_start : (minutes : Minutes) → minutes ≡ no_minutes → IsMinuteOf minutes None []
minute_start minutes is = record { last_is = ap (λ (m : Minutes). m.last) is; tallied = subst (λ (m : Minutes). IsTallied m.tallies []) (sym is) tallied_none }

-- the lines by what is kept are those by the turns
lines_by : (places : List Place) (last last' : Option ℕ) (standing standing' : List Seat) (tallies : List Tally) (turns : List TurnOf) (moment : ℕ) → length places ≤ 256 →
    last ≡ last' → standing ≡ standing' → IsTallied tallies turns → lines_at places last standing (tally_at tallies) moment ≡ lines_at places last' standing' (commands_of turns) moment
lines_by places last last' standing standing' tallies turns moment few p q h =
    ap (λ (l : Option ℕ). lines_at places l standing (tally_at tallies) moment) p ∙ ap (λ (s : List Seat). lines_at places last' s (tally_at tallies) moment) q
    ∙ ap (λ (xs : List (List ℕ)). if is_over last' moment then xs else [])
    (lines_same places 0 standing' (tally_at tallies) (commands_of turns) moment (omega (arith, few)) h.each)

module _ (places : List Place) (most moment : ℕ) (lobby lobby1 : Lobby) (last : Option ℕ) (past : List TurnOf) (told0 told told1 : Option (List LinksEntry))
    (log log1 : Option (List (List ℕ))) (part : List ℕ) (old mid : List Phase) (woke : told ≡ option_map (λ es. es ++ Woke moment ∷ []) told0) where
  -- a line failed as clients came
  pub round_missed_early : (store : List KeptValue) (serves : ℕ → Bool) → MissesArrival (listenings places) most moment 0 lobby lobby1 told told1 log log1 part old mid → IsTable (listenings places) most store serves lobby1.next mid →
      Keeps (listenings places) most store lobby.next past old → MissesRound places most lobby last past told0 told1 log log1 part old mid
  round_missed_early store serves a table keeps =
      let k = a.keeps store past keeps in
      record {
        round = record { moment = moment; arrivals = a.arrivals; turns = [] };
        tells = simp (a.tells, woke, more_twice, append-nil);
        minute = [];
        added = simp (a.added, append-nil);
        ended = subst (λ (p : List TurnOf). AllByRecursion (λ (t : TurnOf). IfEnded (listenings places) most p t t.end) p) (sym (append-nil past)) (all_ended (listenings places) most past mid k.over);
        breaks = inl (
          refl,
          record {
            fails = a.fails;
            no_turns = refl;
            measured = k.measured;
            begun = k.begun;
            all = a.seats;
            stand = all_seats (λ (s : Seat). IsClient (listenings places) most past s []) mid (all_stand (listenings places) most past store serves mid k.held table.each);
          },
        );
      }

  module _ (upto : ℕ) (told2 : Option (List LinksEntry)) (log2 : Option (List (List ℕ))) (new : List Phase)
      (a : Arrive (listenings places) most moment 0 upto lobby lobby1 told told1 log log1 old mid) where
    -- in the turns
    pub round_missed : MissesTurns (listenings places) most moment past told1 told2 log1 log2 part mid new → MissesRound places most lobby last past told0 told2 log log2 part old new
    round_missed b = record {
      round = record { moment = moment; arrivals = a.arrivals; turns = b.turns };
      tells = simp (b.tells, a.tells, woke, more_twice);
      minute = [];
      added = simp (b.added, a.added, more_twice, append-nil);
      ended = b.ended;
      breaks = inr (inl (refl, (a.come, subst (λ (ss : List Seat). TurnFails (listenings places) most moment past ss b.turns (seats_of new) part) a.seats b.fails)));
    }

    -- all had their turns
    module _ (store : List KeptValue) (minutes minutes1 minutes2 : Minutes) (b : TurnsDo (listenings places) most store lobby1.next moment past told1 told2 log1 log2 minutes1.tallies minutes2.tallies mid new)
        (few : length places ≤ 256) (is : IsMinuteOf minutes last past) (came : minutes1 ≡ minutes) (kept : minutes2.last ≡ minutes1.last) where
      abbrev round : Round
      round = record { moment = moment; arrivals = a.arrivals; turns = b.turns }

      its_last : minutes2.last ≡ last
      its_last = kept ∙ ap (λ (m : Minutes). m.last) came ∙ is.last_is

      tallied : IsTallied minutes2.tallies (past ++ b.turns)
      tallied = b.tallied (subst (λ (m : Minutes). IsTallied m.tallies past) (sym came) is.tallied)

      is_round : IsRound (listenings places) lobby (seats_of old) round lobby1 (seats_of new)
      is_round = record { arrive = a.come; in_turn = b.in_turn ∙ a.seats; each = b.each; again = subst (λ (ss : List Seat). AllByRecursion (IsAgainOf (listenings places) ss) b.turns) a.seats b.again; counts = a.counts; stay = b.stay }

      abbrev Lines : List (List ℕ)
      Lines = lines_at places minutes2.last (seats_of new) (tally_at minutes2.tallies) moment

      same_lines : Lines ≡ lines_at places last (flat_map stays b.turns) (commands_of (past ++ b.turns)) moment
      same_lines = lines_by places minutes2.last last (seats_of new) (flat_map stays b.turns) minutes2.tallies (past ++ b.turns) moment few its_last b.stay tallied

      pub round_is : (minutes3 : Minutes) (log3 : Option (List (List ℕ))) → minutes3 ≡ record minutes2 { last = last_behind minutes2.last moment } → log3 ≡ with_lines log2 Lines →
          RoundDoes places most store lobby lobby1 minutes3 last past told0 told2 log log3 old new
      round_is minutes3 log3 noted put = record {
        round = round;
        tells = simp (b.tells, a.tells, woke, more_twice);
        added = simp (put, same_lines, b.added, a.added, more_twice);
        is_round = is_round;
        keeps = b.keeps;
        minutes = record {
          last_is = ap (λ (m : Minutes). m.last) noted ∙ ap (λ (l : Option ℕ). last_behind l moment) its_last;
          tallied = subst (λ (m : Minutes). IsTallied m.tallies (past ++ b.turns)) (sym noted) tallied;
        };
      }

      -- a line of the minute failed
      pub round_missed_late : (serves : ℕ → Bool) (log3 : Option (List (List ℕ))) → IsTable (listenings places) most store serves lobby1.next new → MissesLine Lines log2 log3 part →
          MissesRound places most lobby last past told0 told2 log log3 part old new
      round_missed_late serves log3 table m = record {
        round = round;
        tells = simp (b.tells, a.tells, woke, more_twice);
        minute = m.before ++ m.whole;
        added = simp (m.added, b.added, a.added, more_twice);
        ended = all_ended (listenings places) most (past ++ b.turns) new b.keeps.over;
        breaks = inr (inr (record {
          is_round = subst (λ (f : Lobby). IsRound (listenings places) lobby (seats_of old) round f (seats_of new)) a.counts is_round;
          measured = b.keeps.measured;
          begun = b.keeps.begun;
          stand = all_seats (λ (s : Seat). IsClient (listenings places) most (past ++ b.turns) s []) new (all_stand (listenings places) most (past ++ b.turns) store serves new b.keeps.held table.each);
          before = m.before;
          line = m.line;
          behind = m.behind;
          all = sym same_lines ∙ m.are;
          whole = m.whole;
          are = refl;
          begins = m.begins;
        }));
      }
