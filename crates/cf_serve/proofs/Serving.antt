-- Round after round.
use Rattle.std.proofs.Common.{Err, List, Option, ap, refl, subst, sym, ℕ, ◌++◌, ◌+◌, ◌∙◌, ◌∷◌, ◌≡◌, []}
use Rattle.std.specs.List.{AllByRecursion}
use Rattle.std.proofs.lemmas.List.{append-nil, append_assoc, length-append}
use Rattle.cf_links.specs.Links.{LinksEntry}
use Rattle.cf_relay.proofs.Lined.{lines_none}
use Rattle.cf_serve.proofs.Rounding.{flat_one, more_none, more_twice}
use Rattle.cf_serve.specs.Failing.{MissesRound, MissesRounds}
use Rattle.cf_serve.specs.Lending.{KeptValue}
use Rattle.cf_serve.specs.Minute.{all_lines, last_behind, last_from, minute_lines}
use Rattle.cf_serve.specs.Phase.{Phase, listenings}
use Rattle.cf_serve.specs.Rounds.{AreRounds, IsRound, Round, Seat, TurnOf, round_lines, turns_of}
use Rattle.cf_serve.specs.Served.{IfEnded}
use Rattle.cf_serve.specs.Session.{Listening}
use Rattle.cf_serve.specs.Table.{IfWhole, IsMinuteOf, Keeps, RoundDoes, RoundsDo, seats_of}
use Rattle.cf_serve.specs.declared.door.Lobby.{Lobby}
use Rattle.cf_serve.specs.declared.fault.ServeFault.{ServeFault}
use Rattle.cf_serve.specs.declared.fault.ServeFault.TheVariants as fault
use Rattle.cf_serve.specs.declared.minute.Minutes.{Minutes}
use Rattle.cf_serve.specs.declared.table.Place.{Place}

rounds_more : (places : List Listening) (lobby : Lobby) (standing : List Seat) (rs : List Round) (n : Lobby) (mid : List Seat) (r : Round) (n' : Lobby) (after : List Seat) →
    AreRounds places lobby standing rs n mid → IsRound places n mid r n' after → AreRounds places lobby standing (rs ++ r ∷ []) n' after
rounds_more places lobby standing [] n mid r n' after (p, q) is =
    (n', (after, (subst (λ k. IsRound places k standing r n' after) p (subst (λ (s : List Seat). IsRound places n s r n' after) q is), (refl, refl))))
rounds_more places lobby standing (x ∷ rs) n mid r n' after (k, (s, (one, later))) is =
    (k, (s, (one, rounds_more places k s rs n mid r n' after later is)))

turns_behind : (past : List TurnOf) (rs : List Round) (r : Round) → (past ++ turns_of rs) ++ r.turns ≡ past ++ turns_of (rs ++ r ∷ [])
turns_behind past rs r = simp (append_assoc, flat_one)

-- the lines of one round more, and from when the next minute counts behind it
lines_one : (places : List Place) (last : Option ℕ) (past : List TurnOf) (rs : List Round) (r : Round) →
    all_lines places last past (rs ++ r ∷ []) ≡ all_lines places last past rs ++ (round_lines r ++ minute_lines places (last_from last rs) (past ++ turns_of rs) r)
lines_one places last past [] r =
    append-nil (round_lines r ++ minute_lines places last past r) ∙ ap (λ (p : List TurnOf). round_lines r ++ minute_lines places last p r) (sym (append-nil past))
lines_one places last past (x ∷ rs) r =
    let own = round_lines x ++ minute_lines places last past x in
    let next = last_behind last x.moment in
    ap (λ ls. own ++ ls) (lines_one places next (past ++ x.turns) rs r
    ∙ ap (λ (p : List TurnOf). all_lines places next (past ++ x.turns) rs ++ (round_lines r ++ minute_lines places (last_from next rs) p r)) (append_assoc past x.turns (turns_of rs)))
    ∙ sym (append_assoc own (all_lines places next (past ++ x.turns) rs) _)

last_one : (last : Option ℕ) (rs : List Round) (r : Round) → last_from last (rs ++ r ∷ []) ≡ last_behind (last_from last rs) r.moment
last_one last [] r = refl
last_one last (x ∷ rs) r = last_one (last_behind last x.moment) rs r

module _ (places : List Place) (most : ℕ) (lobby : Lobby) (last : Option ℕ) (past : List TurnOf) (told : Option (List LinksEntry)) (log : Option (List (List ℕ))) (old : List Phase) where
  pub rounds_none : (store : List KeptValue) (minutes : Minutes) → Keeps (listenings places) most store lobby.next past old → IsMinuteOf minutes last past →
      RoundsDo places most store lobby lobby minutes last 0 past told told log log old old
  rounds_none store minutes keeps is = record {
    rounds = [];
    count = refl;
    tells = more_none told;
    added = lines_none log;
    in_turn = (refl, refl);
    keeps = subst (λ (p : List TurnOf). Keeps (listenings places) most store lobby.next p old) (sym (append-nil past)) keeps;
    minutes = subst (λ (p : List TurnOf). IsMinuteOf minutes last p) (sym (append-nil past)) is;
  }

  pub rounds_then : (store1 store2 : List KeptValue) (lobby1 lobby2 : Lobby) (minutes1 minutes2 : Minutes) (made : ℕ) (told1 told2 : Option (List LinksEntry)) (log1 log2 : Option (List (List ℕ))) (mid new : List Phase) →
      RoundsDo places most store1 lobby lobby1 minutes1 last made past told told1 log log1 old mid →
      ((p : List TurnOf) → Keeps (listenings places) most store1 lobby1.next p mid → (l : Option ℕ) → IsMinuteOf minutes1 l p → RoundDoes places most store2 lobby1 lobby2 minutes2 l p told1 told2 log1 log2 mid new) →
      RoundsDo places most store2 lobby lobby2 minutes2 last (made + 1) past told told2 log log2 old new
  rounds_then store1 store2 lobby1 lobby2 minutes1 minutes2 made told1 told2 log1 log2 mid new a round =
      let b = round (past ++ turns_of a.rounds) a.keeps (last_from last a.rounds) a.minutes in
      record {
        rounds = a.rounds ++ b.round ∷ [];
        count = length-append a.rounds (b.round ∷ []) ∙ ap (λ n. n + 1) a.count;
        tells = simp (b.tells, a.tells, more_twice, flat_one);
        added = simp (b.added, a.added, more_twice, lines_one places last past a.rounds b.round);
        in_turn = rounds_more (listenings places) lobby (seats_of old) a.rounds lobby1 (seats_of mid) b.round lobby2 (seats_of new) a.in_turn b.is_round;
        keeps = subst (λ (p : List TurnOf). Keeps (listenings places) most store2 lobby2.next p new) (turns_behind past a.rounds b.round) b.keeps;
        minutes = subst (λ (l : Option ℕ). IsMinuteOf minutes2 l (past ++ turns_of (a.rounds ++ b.round ∷ []))) (sym (last_one last a.rounds b.round))
            (subst (λ (p : List TurnOf). IsMinuteOf minutes2 (last_behind (last_from last a.rounds) b.round.moment) p) (turns_behind past a.rounds b.round) b.minutes);
      }

  -- a line failed in the round behind them
  pub rounds_fail : (store1 : List KeptValue) (lobby1 : Lobby) (minutes1 : Minutes) (made : ℕ) (told1 told2 : Option (List LinksEntry)) (log1 log2 : Option (List (List ℕ))) (part : List ℕ) (mid new : List Phase) →
      RoundsDo places most store1 lobby lobby1 minutes1 last made past told told1 log log1 old mid →
      ((p : List TurnOf) → Keeps (listenings places) most store1 lobby1.next p mid → (l : Option ℕ) → IsMinuteOf minutes1 l p → MissesRound places most lobby1 l p told1 told2 log1 log2 part mid new) →
      MissesRounds places most lobby last made past told told2 log log2 part old new
  rounds_fail store1 lobby1 minutes1 made told1 told2 log1 log2 part mid new a round =
      let b = round (past ++ turns_of a.rounds) a.keeps (last_from last a.rounds) a.minutes in
      record {
        rounds = a.rounds;
        count = a.count;
        round = b.round;
        tells = simp (b.tells, a.tells, more_twice, flat_one);
        minute = b.minute;
        added = simp (b.added, a.added, more_twice);
        ended = subst (λ (p : List TurnOf). AllByRecursion (λ (t : TurnOf). IfEnded (listenings places) most p t t.end) p) (turns_behind past a.rounds b.round) b.ended;
        mid = lobby1;
        standing = seats_of mid;
        in_turn = a.in_turn;
        breaks = b.breaks;
      }

-- a fault: either the wait's, or not
pub if_loop : (P : Type 0) (f : ServeFault) → (f ≡ fault.Loop → P) → IfWhole (Err f) P
if_loop P fault.Loop h = h refl
if_loop P fault.Write h = tt
if_loop P fault.NoMemory h = tt
