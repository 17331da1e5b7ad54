-- What a service did, from its rounds.
use Rattle.std.proofs.Common.{Bool, List, None, Option, Some, ap, arith, length, map, inl, inr, refl, subst, sym, true, false, ℕ, []}
use Rattle.std.proofs.Common.{◌++◌, ◌+◌, ◌∙◌, ◌∷◌, ◌≡◌, if◌then◌else◌}
use Rattle.std.specs.Prelude.{Err, Ok, Result, option_map, ◌==◌}
use Rattle.std.specs.List.{AllByRecursion, flat_map}
use Rattle.std.proofs.lemmas.Grind.{flat_map-append}
use Rattle.std.proofs.lemmas.List.{append-nil, append_assoc}
use Rattle.cf_links.proofs.Projection.{answers_more}
use Rattle.cf_links.specs.Links.{Came, LinksEntry, Of, Ready, answers_of}
use Rattle.cf_outside.specs.Pair.{Entry}
use Rattle.cf_serve.proofs.Numbers.{all_map, all_zip}
use Rattle.cf_serve.proofs.Rounding.{flat_one, more_twice}
use Rattle.cf_serve.proofs.Relayed.{stands_session}
use Rattle.cf_serve.specs.Lending.{KeptValue}
use Rattle.cf_serve.specs.Phase.{Phase, listenings}
use Rattle.cf_serve.specs.Door.{first_lobby}
use Rattle.cf_serve.specs.Rounds.{AreRounds, AreTurns, Arrival, Round, Seat, TurnOf, answers_in, arrival_entries, left_by}
use Rattle.cf_serve.specs.Rounds.{round_entries, turn_entries, turns_of}
use Rattle.cf_serve.specs.Minute.{all_lines}
use Rattle.cf_serve.specs.declared.door.Closing.{Closing}
use Rattle.cf_serve.specs.declared.door.Lobby.{Lobby}
use Rattle.cf_serve.specs.Served.{IfEnded, IsClient, OpensDo, Serves, left_of, listen_lines, opened_from}
use Rattle.cf_serve.specs.Session.{Listening}
use Rattle.cf_serve.specs.Table.{IfOver, IfWhole, IsHeld, IsTable, Keeps, MayGo, RoundsDo, seats_of}
use Rattle.cf_serve.specs.declared.end.SessionEnd.{SessionEnd}
use Rattle.cf_serve.specs.declared.fault.ServeFault.{ServeFault}
use Rattle.cf_serve.specs.declared.fault.ServeFault.TheVariants as fault
use Rattle.cf_serve.specs.declared.minute.Minutes.{Minutes}
use Rattle.cf_serve.specs.declared.table.Place.{Place}

-- ---- a session's answers, out of those of all

-- a session that is not ready has no answers
abbrev pub IsQuiet : TurnOf → Type 0
IsQuiet t = t.ready ≡ false → t.answers ≡ []

pub all_quiet : (m : ℕ) (ts : List TurnOf) → AreTurns m ts → AllByRecursion IsQuiet ts
all_quiet m [] are = tt
all_quiet m (t ∷ ts) (is, are) = (λ not. (is.1 not).0, all_quiet m ts are)

module _ (k : ℕ) where
  of_left : (s : ℕ) (o : Option SessionEnd) → answers_of k (left_by s o) ≡ []
  of_left s None = refl
  of_left s (Some e) = refl

  of_own : (s : ℕ) (b : Bool) (xs : List Entry) → (s == k) ≡ b → answers_of k (map (Of s) xs) ≡ (if b then xs else [])
  of_own s true [] e = refl
  of_own s false [] e = refl
  of_own s true (x ∷ xs) e = ap (λ (c : Bool). (if c then x ∷ [] else []) ++ answers_of k (map (Of s) xs)) e ∙ ap (λ ys. x ∷ ys) (of_own s true xs e)
  of_own s false (x ∷ xs) e = ap (λ (c : Bool). (if c then x ∷ [] else []) ++ answers_of k (map (Of s) xs)) e ∙ of_own s false xs e

  abbrev own_of : TurnOf → List Entry
  own_of t = if t.seat.session == k then t.answers else []

  nothing : (b : Bool) (xs : List Entry) → xs ≡ [] → (if b then xs else []) ≡ []
  nothing true xs e = e
  nothing false xs e = refl

  of_ready : (t : TurnOf) → answers_of k (Ready t.seat.session ∷ (map (Of t.seat.session) t.answers ++ left_by t.seat.session t.end)) ≡ own_of t
  of_ready t =
      answers_more k (map (Of t.seat.session) t.answers) (left_by t.seat.session t.end)
      ∙ ap (λ xs. answers_of k (map (Of t.seat.session) t.answers) ++ xs) (of_left t.seat.session t.end) ∙ append-nil (answers_of k (map (Of t.seat.session) t.answers))
      ∙ of_own t.seat.session (t.seat.session == k) t.answers refl

  of_turn : (t : TurnOf) (ready : Bool) → t.ready ≡ ready → IsQuiet t → answers_of k (turn_entries t) ≡ own_of t
  of_turn t true is idle =
      ap (λ (b : Bool). answers_of k (if b then Ready t.seat.session ∷ (map (Of t.seat.session) t.answers ++ left_by t.seat.session t.end) else left_by t.seat.session t.end)) is ∙ of_ready t
  of_turn t false is idle =
      ap (λ (b : Bool). answers_of k (if b then Ready t.seat.session ∷ (map (Of t.seat.session) t.answers ++ left_by t.seat.session t.end) else left_by t.seat.session t.end)) is
      ∙ of_left t.seat.session t.end ∙ sym (nothing (t.seat.session == k) t.answers (idle is))

  of_turns : (ts : List TurnOf) → AllByRecursion IsQuiet ts → answers_of k (flat_map turn_entries ts) ≡ answers_in k ts
  of_turns [] are = refl
  of_turns (t ∷ ts) (is, are) =
      answers_more k (turn_entries t) (flat_map turn_entries ts) ∙ ap (λ xs. xs ++ answers_of k (flat_map turn_entries ts)) (of_turn t t.ready refl is)
      ∙ ap (λ xs. own_of t ++ xs) (of_turns ts are)

  -- a client that was taken, or closed
  of_one : (closed : Option Closing) (c : Arrival) (cs : List LinksEntry) → answers_of k ((Came c.seat.session c.seat.place c.seat.client ∷ left_by c.seat.session closed) ++ cs) ≡ answers_of k cs
  of_one None c cs = refl
  of_one (Some why) c cs = refl

  of_arrivals : (cs : List Arrival) → answers_of k (flat_map arrival_entries cs) ≡ []
  of_arrivals [] = refl
  of_arrivals (c ∷ cs) = of_one c.closed c (flat_map arrival_entries cs) ∙ of_arrivals cs

  of_round : (r : Round) → AllByRecursion IsQuiet r.turns → answers_of k (round_entries r) ≡ answers_in k r.turns
  of_round r are =
      answers_more k (flat_map arrival_entries r.arrivals) (flat_map turn_entries r.turns)
      ∙ ap (λ xs. xs ++ answers_of k (flat_map turn_entries r.turns)) (of_arrivals r.arrivals) ∙ of_turns r.turns are

  of_rounds : (places : List Listening) (lobby : Lobby) (standing : List Seat) (rs : List Round) (n : Lobby) (after : List Seat) → AreRounds places lobby standing rs n after →
      answers_of k (flat_map round_entries rs) ≡ answers_in k (turns_of rs)
  of_rounds places lobby standing [] n after are = refl
  of_rounds places lobby standing (r ∷ rs) n after (m, (s, (one, later))) =
      answers_more k (round_entries r) (flat_map round_entries rs)
      ∙ ap (λ xs. xs ++ answers_of k (flat_map round_entries rs)) (of_round r (all_quiet r.moment r.turns one.each))
      ∙ ap (λ xs. answers_in k r.turns ++ xs) (of_rounds places m s rs n after later)
      ∙ sym (flat_map-append own_of r.turns (turns_of rs))

  of_opened : (place : ℕ) (ms : List ℕ) → answers_of k (opened_from place ms) ≡ []
  of_opened place [] = refl
  of_opened place (m ∷ ms) = of_opened (place + 1) ms

  of_all_left : (ss : List Seat) → answers_of k (left_of ss) ≡ []
  of_all_left [] = refl
  of_all_left (s ∷ ss) = of_all_left ss

  own_of_whole : (ms : List ℕ) (es : List LinksEntry) (ss : List Seat) → answers_of k (opened_from 0 ms ++ (es ++ left_of ss)) ≡ answers_of k es
  own_of_whole ms es ss =
      answers_more k (opened_from 0 ms) (es ++ left_of ss) ∙ ap (λ xs. xs ++ answers_of k (es ++ left_of ss)) (of_opened 0 ms)
      ∙ answers_more k es (left_of ss) ∙ ap (λ xs. answers_of k es ++ xs) (of_all_left ss) ∙ append-nil (answers_of k es)

  pub own_of_broken : (places : List Listening) (ms : List ℕ) (rs : List Round) (n : Lobby) (standing ss : List Seat) (r : Round) → AreRounds places first_lobby [] rs n standing →
      AllByRecursion IsQuiet r.turns → answers_of k (opened_from 0 ms ++ (flat_map round_entries (rs ++ r ∷ []) ++ left_of ss)) ≡ answers_in k (turns_of (rs ++ r ∷ []))
  own_of_broken places ms rs n standing ss r are turns =
      own_of_whole ms (flat_map round_entries (rs ++ r ∷ [])) ss ∙ ap (answers_of k) (flat_one round_entries rs r)
      ∙ answers_more k (flat_map round_entries rs) (round_entries r)
      ∙ ap (λ xs. xs ++ answers_of k (round_entries r)) (of_rounds places first_lobby [] rs n standing are)
      ∙ ap (λ xs. answers_in k (turns_of rs) ++ xs) (of_round r turns)
      ∙ sym (flat_map-append own_of (turns_of rs) r.turns)
      ∙ ap (λ (xs : List TurnOf). answers_in k xs) (sym (flat_one (λ (x : Round). x.turns) rs r))

  pub own_of_all : (places : List Listening) (ms : List ℕ) (rs : List Round) (n : Lobby) (standing ss : List Seat) → AreRounds places first_lobby [] rs n standing →
      answers_of k (opened_from 0 ms ++ (flat_map round_entries rs ++ left_of ss)) ≡ answers_in k (turns_of rs)
  own_of_all places ms rs n standing ss are = own_of_whole ms (flat_map round_entries rs) ss ∙ of_rounds places first_lobby [] rs n standing are

-- ---- what stands, and what ended

pub all_seats : (P : Seat → Type 0) (ps : List Phase) → AllByRecursion (λ (p : Phase). P p.seat) ps → AllByRecursion P (seats_of ps)
all_seats P [] h = tt
all_seats P (p ∷ ps) (x, h) = (x, all_seats P ps h)

ended_by : (places : List Listening) (most : ℕ) (past : List TurnOf) (ps : List Phase) (t : TurnOf) (o : Option SessionEnd) → IfOver places most past ps t o → IfEnded places most past t o
ended_by places most past ps t None h = tt
ended_by places most past ps t (Some e) h = (h.one_end, λ at is. (refl, h.ends at is))

module _ (places : List Listening) (most : ℕ) (past : List TurnOf) where
  -- the turns of those that ended
  pub all_ended : (ps : List Phase) → AllByRecursion (λ (t : TurnOf). IfOver places most past ps t t.end) past →
      AllByRecursion (λ (t : TurnOf). IfEnded places most past t t.end) past
  all_ended ps over = all_map (λ (t : TurnOf). IfOver places most past ps t t.end) (λ (t : TurnOf). IfEnded places most past t t.end) past
      (λ t h. ended_by places most past ps t t.end h) over

  -- sessions that stand
  pub one_stands : (store : List KeptValue) (serves : ℕ → Bool) (p : Phase) → IsHeld places most past p → MayGo places most store serves p → IsClient places most past p.seat []
  one_stands store serves p h m at is = stands_session at _ most _ _ p.linked (h.stands at is) (m.may at is)

  pub all_stand : (store : List KeptValue) (serves : ℕ → Bool) (ps : List Phase) → AllByRecursion (IsHeld places most past) ps → AllByRecursion (MayGo places most store serves) ps →
      AllByRecursion (λ (p : Phase). IsClient places most past p.seat []) ps
  all_stand store serves ps held may =
      all_zip (IsHeld places most past) (MayGo places most store serves) (λ (p : Phase). IsClient places most past p.seat []) ps (one_stands store serves) held may

module _ (places : List Place) (most : ℕ) (told told1 : Option (List LinksEntry)) (log log1 : Option (List (List ℕ))) where
  -- a place could not be listened at
  pub serves_none : (Made : ℕ → Type 0) → Made 0 → (count : ℕ) → OpensDo places count told told1 log log1 → Serves places most Made told told1 log log1
  serves_none Made none count o = (
    opened_from 0 o.moments ++ [],
    (
      listen_lines places o.moments ++ [],
      (
        simp (o.tells, append-nil),
        (
          simp (o.added, append-nil),
          (
            record {
              moments = o.moments;
              rounds = [];
              lobby = first_lobby;
              standing = [];
              told = refl;
              logged = refl;
              opened = inr refl;
              in_turn = (refl, refl);
              answers = λ k. own_of_all k (listenings places) o.moments [] first_lobby [] [] (refl, refl);
              ended = tt;
              measured = tt;
              begun = tt;
              stand = tt;
            },
            none,
          ),
        ),
      ),
    ),
  )

  pub serves_all : (Made : ℕ → Type 0) (store : List KeptValue) (lobby : Lobby) (minutes : Minutes) (made : ℕ) (told2 told3 : Option (List LinksEntry)) (log2 : Option (List (List ℕ))) (serves : ℕ → Bool) (ps : List Phase) →
      Made made → OpensDo places (length places) told told1 log log1 → RoundsDo places most store first_lobby lobby minutes None made [] told1 told2 log1 log2 [] ps →
      IsTable (listenings places) most store serves lobby.next ps → told3 ≡ option_map (λ es. es ++ left_of (seats_of ps)) told2 →
      Serves places most Made told told3 log log2
  serves_all Made store lobby minutes made told2 told3 log2 serves ps so_many o r table left = (
    opened_from 0 o.moments ++ (flat_map round_entries r.rounds ++ left_of (seats_of ps)),
    (
      listen_lines places o.moments ++ all_lines places None [] r.rounds,
      (
        simp (left, r.tells, o.tells, more_twice, append_assoc),
        (
          simp (r.added, o.added, more_twice),
          (
            record {
              moments = o.moments;
              rounds = r.rounds;
              lobby = lobby;
              standing = seats_of ps;
              told = refl;
              logged = refl;
              opened = inl o.all;
              in_turn = r.in_turn;
              answers = λ k. own_of_all k (listenings places) o.moments r.rounds lobby (seats_of ps) (seats_of ps) r.in_turn;
              ended = all_ended (listenings places) most (turns_of r.rounds) ps r.keeps.over;
              measured = r.keeps.measured;
              begun = r.keeps.begun;
              stand = all_seats (λ (s : Seat). IsClient (listenings places) most (turns_of r.rounds) s []) ps
                  (all_stand (listenings places) most (turns_of r.rounds) store serves ps r.keeps.held table.each);
            },
            subst Made (sym r.count) so_many,
          ),
        ),
      ),
    ),
  )

pub keeps_start : (places : List Listening) (most : ℕ) → Keeps places most [] 0 [] []
keeps_start places most = record { early = tt; measured = tt; begun = tt; stored = λ place address at is rated. inl refl; held = tt; over = tt }

pub table_start : (places : List Listening) (most : ℕ) (serves : ℕ → Bool) → ((session : ℕ) → serves session ≡ false) → IsTable places most [] serves 0 []
table_start places most serves free = record { ordered = omega arith; each = tt; free = λ session h. free session; fits = λ place address rings is. cc }

pub whole_one : {A B : Type 0} (r : Result Unit ServeFault) → IfWhole r A → (A → B) → IfWhole r B
whole_one (Ok u) a f = f a
whole_one (Err fault.Loop) a f = f a
whole_one (Err fault.Write) a f = tt
whole_one (Err fault.NoMemory) a f = tt

pub whole_two : {A B C : Type 0} (r : Result Unit ServeFault) → IfWhole r A → IfWhole r B → (A → B → C) → IfWhole r C
whole_two (Ok u) a b f = f a b
whole_two (Err fault.Loop) a b f = f a b
whole_two (Err fault.Write) a b f = tt
whole_two (Err fault.NoMemory) a b f = tt

-- from an empty table on
pub from_start : (places : List Listening) (most : ℕ) (Q : ℕ → Lobby → List TurnOf → List Phase → Type 0) (m : ℕ) (store : List KeptValue) (n : Lobby) (q : List Phase) →
    m ≡ most → store ≡ [] → n ≡ first_lobby → q ≡ [] → ((past : List TurnOf) → Keeps places m store n.next past q → Q m n past q) → Q most first_lobby [] []
from_start places most Q m store n q e k f p d =
    let x : (past : List TurnOf) → Keeps places most [] 0 past [] → Q most first_lobby past [] =
    subst (λ y. (past : List TurnOf) → Keeps places most [] 0 past y → Q most first_lobby past y) p
    (subst (λ (y : Lobby). (past : List TurnOf) → Keeps places most [] y.next past q → Q most y past q) f
    (subst (λ (y : List KeptValue). (past : List TurnOf) → Keeps places most y n.next past q → Q most n past q) k
    (subst (λ y. (past : List TurnOf) → Keeps places y store n.next past q → Q y n past q) e d))) in
    x [] (keeps_start places most)
