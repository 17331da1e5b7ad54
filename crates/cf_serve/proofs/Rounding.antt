-- The turns of a round, one after the other.
use Rattle.std.proofs.Common.{Bool, List, None, Option, Some, ap, arith, length, map, refl, subst, sym, true, false, ℕ, ◌++◌, ◌+◌, []}
use Rattle.std.proofs.Common.{◌<◌, ◌≤◌, ◌∙◌, ◌∷◌, ◌≡◌, if◌then◌else◌}
use Rattle.std.specs.Prelude.{nat_lt, option_map, slice_get, ◌&&◌, ◌==◌, ◌||◌}
use Rattle.std.specs.List.{AllByRecursion, flat_map}
use Rattle.std.proofs.lemmas.Bool.Decides.{nat_tests}
use Rattle.std.proofs.lemmas.Grind.{flat_map-append}
use Rattle.std.proofs.lemmas.List.{append-nil, append_assoc, map-append, length-append}
use Rattle.std.proofs.Math.Seq.{drop-append_seam, take-append_seam}
use Rattle.std.specs.Prelude.{drop, take}
use Rattle.cf_links.specs.Links.{Left, LinksEntry, LinksPlace}
use Rattle.cf_links.specs.Service.{LosesSession}
use Rattle.cf_relay.proofs.Lined.{lines_none}
use Rattle.cf_serve.proofs.Numbers.{all_join, all_map, all_zip, lower, others_after}
use Rattle.cf_serve.specs.Lending.{KeptValue}
use Rattle.cf_serve.specs.Minute.{IsTallied}
use Rattle.cf_serve.specs.Phase.{Phase, phase_of}
use Rattle.cf_serve.specs.Rounds.{AreTurns, IsAgain, IsAgainOf, Seat, TurnOf, has_later, has_rates, is_same_client, must_end}
use Rattle.cf_serve.specs.Session.{Listening}
use Rattle.cf_serve.specs.Table.{IsBetween, IsTable, Keeps, MayGo, MayLeave, StepDoes, TurnsBegin, TurnsDo, seats_of}
use Rattle.cf_serve.specs.Served.{left_of}
use Rattle.cf_serve.specs.declared.minute.Tally.{Tally}
use Rattle.cf_serve.specs.declared.session.Served.{Served}

-- what may be given a turn may be left
pub may_leave : (places : List Listening) (most : ℕ) (store : List KeptValue) (next : ℕ) (serves : ℕ → Bool) (ps : List Phase) → IsTable places most store serves next ps → MayLeave serves next ps
may_leave places most store next serves ps t = record {
  ordered = t.ordered;
  served = all_map (MayGo places most store serves) (λ (p : Phase). serves p.seat.session ≡ true) ps (λ p m. m.served) t.each;
}

-- the same is kept
pub kept_on : (places : List Listening) (most : ℕ) (store store' : List KeptValue) (next : ℕ) (past : List TurnOf) (ps : List Phase) → store' ≡ store → Keeps places most store next past ps →
    Keeps places most store' next past ps
kept_on places most store store' next past ps same keeps = subst (λ (k : List KeptValue). Keeps places most k next past ps) (sym same) keeps

-- two lists that begin alike
pub same_front : {X : Type 0} (xs ys zs ws : List X) → xs ++ ys ≡ zs ++ ws → length xs ≡ length zs → xs ≡ zs
same_front xs ys zs ws e l =
    sym (take-append_seam xs ys) ∙ ap (λ n. take n (xs ++ ys)) l ∙ ap (take (length zs)) e ∙ take-append_seam zs ws

pub same_back : {X : Type 0} (xs ys zs ws : List X) → xs ++ ys ≡ zs ++ ws → length xs ≡ length zs → ys ≡ ws
same_back xs ys zs ws e l =
    sym (drop-append_seam xs ys) ∙ ap (λ n. drop n (xs ++ ys)) l ∙ ap (drop (length zs)) e ∙ drop-append_seam zs ws

-- ---- whether the client of a session came again

no_less : (n : ℕ) → nat_lt n n ≡ false
no_less n = grind (arith, nat_tests)

not_less : (m n : ℕ) → m < n → nat_lt n m ≡ false
not_less m n h = grind (arith, nat_tests)

and_false : (a b : Bool) → b ≡ false → (a && b) ≡ false
and_false true b h = h
and_false false b h = refl

-- of sessions in the order of their numbers only those behind one came later
later_behind : (front : List Seat) (s : Seat) (behind : List Seat) → AllByRecursion (λ (x : Seat). x.session < s.session) front → has_later (front ++ s ∷ behind) s ≡ has_later behind s
later_behind [] s behind h = ap (λ (b : Bool). b || has_later behind s) (and_false (is_same_client s s) (nat_lt s.session s.session) (no_less s.session))
later_behind (x ∷ front) s behind (less, h) =
    ap (λ (b : Bool). b || has_later (front ++ s ∷ behind) s) (and_false (is_same_client x s) (nat_lt s.session x.session) (not_less x.session s.session less)) ∙ later_behind front s behind h

in_front : (low next : ℕ) (ps : List Phase) (front : List Seat) (s : Seat) (behind : List Seat) → seats_of ps ≡ front ++ s ∷ behind → IsBetween low next ps →
    AllByRecursion (λ (x : Seat). x.session < s.session) front × (low ≤ s.session)
in_front low next [] [] s behind is b = cc is
in_front low next [] (x ∷ front) s behind is b = cc is
in_front low next (p ∷ ps) [] s behind is (l, b) = let same : p.seat ≡ s = cc is in (tt, subst (λ (z : Seat). low ≤ z.session) same l)
in_front low next (p ∷ ps) (x ∷ front) s behind is (l, b) =
    let same : p.seat ≡ x = cc is in
    let rest : seats_of ps ≡ front ++ s ∷ behind = cc is in
    let h = in_front (p.seat.session + 1) next ps front s behind rest b in
    ((subst (λ (z : Seat). z.session < s.session) same (omega (arith, h.1)), h.0), omega (arith, l, h.1))

pub later_by : (next : ℕ) (ps : List Phase) (front : List Seat) (s : Seat) (behind : List Seat) → seats_of ps ≡ front ++ s ∷ behind → IsBetween 0 next ps → has_later (seats_of ps) s ≡ has_later behind s
later_by next ps front s behind is b = ap (λ (ss : List Seat). has_later ss s) is ∙ later_behind front s behind (in_front 0 next ps front s behind is b).0

-- so whether it must end is the same
pub must_same : (places : List Listening) (s : Seat) (one two : List Seat) → has_later one s ≡ has_later two s → must_end places one s ≡ must_end places two s
must_same places s one two same = ap (λ (later : Bool). elim (slice_get places s.place) as (λ x. Bool) [ None ↦ false | Some at ↦ has_rates at.site && later ]) same

pub turns_join : (m : ℕ) (ts us : List TurnOf) → AreTurns m ts → AreTurns m us → AreTurns m (ts ++ us)
turns_join m [] us h k = k
turns_join m (t ∷ ts) us (p, h) k = (p, turns_join m ts us h k)

-- more of what was told, or of a log
pub more_twice : {A : Type 0} (told : Option (List A)) (xs ys : List A) →
    option_map (λ es. es ++ ys) (option_map (λ es. es ++ xs) told) ≡ option_map (λ es. es ++ (xs ++ ys)) told
more_twice None xs ys = refl
more_twice (Some es) xs ys = ap Some (append_assoc es xs ys)

pub more_none : {A : Type 0} (told : Option (List A)) → told ≡ option_map (λ es. es ++ []) told
more_none None = refl
more_none (Some es) = ap Some (sym (append-nil es))

no_length : {X : Type 0} (xs : List X) → length xs ≡ 0 → xs ≡ []
no_length [] e = refl
no_length (x ∷ xs) e = absurd (let n : length (x ∷ xs) ≡ 0 = e in omega (arith, n))

pub flat_one : {X A : Type 0} (f : X → List A) (xs : List X) (x : X) → flat_map f (xs ++ x ∷ []) ≡ flat_map f xs ++ f x
flat_one f xs x = flat_map-append f xs (x ∷ []) ∙ ap (λ ys. flat_map f xs ++ ys) (append-nil (f x))

module _ (places : List Listening) (most next moment : ℕ) (past : List TurnOf) (told : Option (List LinksEntry)) (log : Option (List (List ℕ))) (tallies : List Tally) (old : List Phase) where
  pub turns_begin : (store : List KeptValue) → Keeps places most store next past old → TurnsBegin places most store next moment past 0 told told log log tallies tallies old old
  turns_begin store keeps = record {
    done = [];
    rest = old;
    was = refl;
    at = refl;
    turns = [];
    tells = more_none told;
    added = lines_none log;
    in_turn = refl;
    each = tt;
    again = tt;
    stay = refl;
    keeps = subst (λ p. Keeps places most store next p old) (sym (append-nil past)) keeps;
    tallied = λ h. subst (IsTallied tallies) (sym (append-nil past)) h;
  }

  module _ (index : ℕ) (store1 : List KeptValue) (told1 : Option (List LinksEntry)) (log1 : Option (List (List ℕ))) (tallies1 : List Tally) (mid : List Phase)
      (b : TurnsBegin places most store1 next moment past index told told1 log log1 tallies tallies1 old mid) where
    pub turns_end : length mid ≡ index → TurnsDo places most store1 next moment past told told1 log log1 tallies tallies1 old mid
    turns_end all =
        let l : length mid ≡ length b.done + length b.rest = ap length b.was ∙ length-append b.done b.rest in
        let none : b.rest ≡ [] = no_length b.rest (omega (arith, l, all, b.at)) in
        record {
          turns = b.turns;
          tells = b.tells;
          added = b.added;
          in_turn = sym (append-nil (map (λ (t : TurnOf). t.seat) b.turns)) ∙ ap (λ (ps : List Phase). map (λ (t : TurnOf). t.seat) b.turns ++ map (λ (p : Phase). p.seat) ps) (sym none) ∙ b.in_turn;
          each = b.each;
          again = b.again;
          stay = ap (map (λ (p : Phase). p.seat)) (b.was ∙ ap (λ ps. b.done ++ ps) none ∙ append-nil b.done) ∙ b.stay;
          keeps = b.keeps;
          tallied = b.tallied;
        }

    module _ (ordered : IsBetween 0 next old) (ordered1 : IsBetween 0 next mid) (store2 : List KeptValue) (told2 : Option (List LinksEntry)) (log2 : Option (List (List ℕ))) (tallies2 : List Tally)
        (new : List Phase) (stays_on : Bool) (d : StepDoes places most store2 next moment (past ++ b.turns) index told1 told2 log1 log2 tallies1 tallies2 mid new stays_on) where
      front : b.done ≡ d.before
      front = same_front b.done b.rest d.before (d.it ∷ d.after) (sym b.was ∙ d.was) (b.at ∙ sym d.at)

      back : b.rest ≡ d.it ∷ d.after
      back = same_back b.done b.rest d.before (d.it ∷ d.after) (sym b.was ∙ d.was) (b.at ∙ sym d.at)

      -- those that stood as the round began and those that stand now have the same ones behind it
      again_now : IsAgainOf places (seats_of old) d.turn
      again_now =
          let was : seats_of mid ≡ seats_of d.before ++ d.turn.seat ∷ seats_of d.after =
          ap seats_of d.was ∙ map-append (λ (p : Phase). p.seat) d.before (d.it ∷ d.after) ∙ ap (λ (z : Seat). seats_of d.before ++ z ∷ seats_of d.after) (sym d.seat) in
          let stood : seats_of old ≡ map (λ (t : TurnOf). t.seat) b.turns ++ d.turn.seat ∷ seats_of d.after =
          sym b.in_turn ∙ ap (λ (ps : List Phase). map (λ (t : TurnOf). t.seat) b.turns ++ seats_of ps) back ∙ ap (λ (z : Seat). map (λ (t : TurnOf). t.seat) b.turns ++ z ∷ seats_of d.after) (sym d.seat) in
          subst (λ (x : Bool). IsAgain x d.turn)
          (must_same places d.turn.seat (seats_of mid) (seats_of old) (later_by next mid (seats_of d.before) d.turn.seat (seats_of d.after) was ordered1 ∙ sym (later_by next old (map (λ (t : TurnOf). t.seat) b.turns) d.turn.seat (seats_of d.after) stood ordered))) d.again

      pub turns_on : TurnsBegin places most store2 next moment past (index + (if stays_on then 1 else 0)) told told2 log log2 tallies tallies2 old new
      turns_on = record {
        done = d.before ++ d.left;
        rest = d.after;
        was = d.is ∙ sym (append_assoc d.before d.left d.after);
        at = length-append d.before d.left ∙ ap (λ n. n + length d.left) d.at ∙ ap (λ n. index + n) d.count;
        turns = b.turns ++ d.turn ∷ [];
        tells = simp (d.tells, b.tells, more_twice, flat_one);
        added = simp (d.added, b.added, more_twice, flat_one);
        in_turn = simp (map-append, append_assoc, d.seat) (rw back at b.in_turn);
        each = turns_join moment b.turns (d.turn ∷ []) b.each (d.is_turn, tt);
        again = all_join (IsAgainOf places (seats_of old)) b.turns (d.turn ∷ []) b.again (again_now, tt);
        stay = simp (map-append, d.stay, flat_one, ← b.stay, front);
        keeps = subst (λ p. Keeps places most store2 next p new) (append_assoc past b.turns (d.turn ∷ [])) d.keeps;
        tallied = λ h. subst (IsTallied tallies2) (append_assoc past b.turns (d.turn ∷ [])) (d.tallied (b.tallied h));
      }

    pub turns_step : IsBetween 0 next old → IsBetween 0 next mid → (next' : ℕ) (store2 : List KeptValue) (told2 : Option (List LinksEntry)) (log2 : Option (List (List ℕ))) (tallies2 : List Tally) (new : List Phase) (stays_on : Bool) (index' : ℕ) → next' ≡ next →
        ((p : List TurnOf) → Keeps places most store1 next' p mid → StepDoes places most store2 next' moment p index told1 told2 log1 log2 tallies1 tallies2 mid new stays_on) →
        index' ≡ index + (if stays_on then 1 else 0) → TurnsBegin places most store2 next moment past index' told told2 log log2 tallies tallies2 old new
    turns_step ordered ordered1 next' store2 told2 log2 tallies2 new stays_on index' same step is =
        let d = subst (λ n. StepDoes places most store2 n moment (past ++ b.turns) index told1 told2 log1 log2 tallies1 tallies2 mid new stays_on) same
        (step (past ++ b.turns) (subst (λ n. Keeps places most store1 n (past ++ b.turns) mid) (sym same) b.keeps)) in
        subst (λ n. TurnsBegin places most store2 next moment past n told told2 log log2 tallies tallies2 old new) (sym is) (turns_on ordered ordered1 store2 told2 log2 tallies2 new stays_on d)

pub within_step : (index len len' : ℕ) (stays_on : Bool) → len' + (if stays_on then 0 else 1) ≡ len → index < len → index + (if stays_on then 1 else 0) ≤ len'
within_step index len len' true e h = omega (arith, e, h)
within_step index len len' false e h = omega (arith, e, h)

-- one session is left, and then the others
pub leave_one : (next : ℕ) (old new : LinksPlace) (p : Phase) (ps : List Phase) → MayLeave old.serves next (p ∷ ps) → LosesSession p.seat.session old new → MayLeave new.serves next ps
leave_one next old new p ps m lost = record {
  ordered = lower (p.seat.session + 1) 0 next ps (omega arith) m.ordered.1;
  served = all_zip (λ (q : Phase). (p.seat.session == q.seat.session) ≡ false) (λ (q : Phase). old.serves q.seat.session ≡ true) (λ (q : Phase). new.serves q.seat.session ≡ true) ps
      (λ q other h. lost.others q.seat.session other ∙ h) (others_after next p ps m.ordered.1) m.served.1;
}

pub left_more : (told mid after : Option (List LinksEntry)) (xs : List Served) (x : Served) →
    mid ≡ option_map (λ es. es ++ left_of (seats_of (map phase_of xs))) told → after ≡ option_map (λ es. es ++ Left x.number ∷ []) mid →
    after ≡ option_map (λ es. es ++ left_of (seats_of (map phase_of (xs ++ x ∷ [])))) told
left_more told mid after xs x e f =
    f ∙ ap (option_map (λ es. es ++ Left x.number ∷ [])) e ∙ more_twice told (left_of (seats_of (map phase_of xs))) (Left x.number ∷ [])
    ∙ ap (λ (ls : List LinksEntry). option_map (λ es. es ++ ls) told)
    (sym (ap (λ (ps : List Phase). left_of (seats_of ps)) (map-append phase_of xs (x ∷ []))
    ∙ ap left_of (map-append (λ (p : Phase). p.seat) (map phase_of xs) (phase_of x ∷ []))
    ∙ map-append (λ (s : Seat). Left s.session) (seats_of (map phase_of xs)) ((phase_of x).seat ∷ [])))
