-- A client that came: what it does to the table.
use Rattle.std.proofs.Common.{Bool, List, None, Option, Some, ap, arith, length, refl, subst, sym, true, false, ℕ, ◌++◌, ◌+◌, []}
use Rattle.std.proofs.Common.{◌<◌, ◌≤◌, ◌∙◌, ◌∷◌, ◌≡◌}
use Rattle.std.specs.Prelude.{Err, Ok, OnErr, OnOk, Result, option_map, option_to_list, slice_get, ◌==◌, if◌then◌else◌}
use Rattle.std.specs.List.{AllByRecursion}
use Rattle.std.proofs.lemmas.Grind.{flat_map-append}
use Rattle.std.proofs.lemmas.List.{append-nil, append_assoc, map-append}
use Rattle.std.proofs.lemmas.Option.{same_Some}
use Rattle.cf_lane.specs.Handled.{MayHaveMore}
use Rattle.cf_lane.specs.Log.{line_about, with_lines}
use Rattle.cf_links.specs.Links.{Came, Left, LinksEntry, LinksPlace}
use Rattle.cf_links.specs.Service.{GetsSession, LosesSession}
use Rattle.cf_relay.proofs.Lined.{lines_none}
use Rattle.cf_view.specs.declared.Endpoint.{Endpoint}
use Rattle.cf_view.specs.declared.WriteFault.{WriteFault}
use Rattle.cf_serve.proofs.Keeping.{part_none}
use Rattle.cf_serve.proofs.Missing.{begins_line}
use Rattle.cf_serve.proofs.Numbers.{all_join, all_map, all_zip, above, below, higher, members}
use Rattle.cf_serve.proofs.Rounding.{more_none, more_twice}
use Rattle.cf_serve.specs.Failing.{MissesArrival}
use Rattle.cf_serve.specs.Phase.{Phase}
use Rattle.cf_serve.specs.Door.{came_by, closed_lines, closing_value, has_line, lobby_closed}
use Rattle.cf_serve.specs.Rounds.{Arrival, AreArrivals, Seat, TurnOf, arrival_lines, closing_of, lobby_behind, lobby_with}
use Rattle.cf_serve.specs.Rounds.{taken_by, taken_of}
use Rattle.cf_serve.specs.declared.door.Closing.{Closing}
use Rattle.cf_serve.specs.declared.door.Closing.TheVariants as closing
use Rattle.cf_serve.specs.declared.door.Lobby.{Lobby}
use Rattle.cf_serve.specs.Session.{Listening}
use Rattle.cf_serve.proofs.Owing.{debt_none}
use Rattle.cf_serve.specs.Debt.{no_debt}
use Rattle.cf_serve.specs.Lending.{KeptValue}
use Rattle.cf_serve.specs.Table.{Arrive, IfOver, IsBetween, IsHeld, IsTable, Keeps, MayGo, new_phase, seats_of}
use Rattle.cf_serve.specs.declared.end.SessionEnd.{SessionEnd}

one_more : (low next : ℕ) (ps : List Phase) (p : Phase) → p.seat.session ≡ next → IsBetween low next ps → IsBetween low (next + 1) (ps ++ p ∷ [])
one_more low next [] p is b = (omega (arith, is, b), omega (arith, is))
one_more low next (q ∷ ps) p is (l, b) = (l, one_more (q.seat.session + 1) next ps p is b)

module _ (places : List Listening) (most next place : ℕ) (client : Endpoint) (ps : List Phase) where
  -- the links have it
  table_new : (store : List KeptValue) (old new : LinksPlace) → place < length places → GetsSession next old new → IsTable places most store old.serves next ps →
      IsTable places most store new.serves (next + 1) (ps ++ new_phase next place client ∷ [])
  table_new store old new placed gets t = record {
    ordered = one_more 0 next ps (new_phase next place client) refl t.ordered;
    each = all_join (MayGo places most store new.serves) ps (new_phase next place client ∷ [])
        (all_zip (λ (q : Phase). (0 ≤ q.seat.session) × (q.seat.session < next)) (MayGo places most store old.serves) (MayGo places most store new.serves) ps
        (λ q h m. record { placed = m.placed; may = m.may; served = gets.others q.seat.session (above next q.seat.session h.1) ∙ m.served; lent = m.lent })
        (members 0 next ps t.ordered) t.each)
        (record { placed = placed; may = λ at is. tt; served = gets.served; lent = λ at is. tt }, tt);
    fits = t.fits;
    free = λ session h. gets.others session (below next session (omega (arith, h))) ∙ t.free session (omega (arith, h));
  }

  pub table_in : (store : List KeptValue) (old new : LinksPlace) (qs : List Phase) (next' : ℕ) → qs ≡ ps ++ new_phase next place client ∷ [] → next' ≡ next + 1 → place < length places → GetsSession next old new →
      IsTable places most store old.serves next ps → IsTable places most store new.serves next' qs
  table_in store old new qs next' is one placed gets t = rw (is, one) (table_new store old new placed gets t)

  module _ (store : List KeptValue) (past : List TurnOf) (keeps : Keeps places most store next past ps) where
    fresh : AllByRecursion (λ (t : TurnOf). (t.seat.session == next) ≡ false) past
    fresh = all_map (λ (t : TurnOf). t.seat.session < next) (λ (t : TurnOf). (t.seat.session == next) ≡ false) past (λ t h. below t.seat.session next h) keeps.early

    over_new : (u : TurnOf) (o : Option SessionEnd) → u.seat.session < next → IfOver places most past ps u o → IfOver places most past (ps ++ new_phase next place client ∷ []) u o
    over_new u None h over = tt
    over_new u (Some e) h over = record {
      gone = all_join (λ (p : Phase). (p.seat.session == u.seat.session) ≡ false) ps (new_phase next place client ∷ []) over.gone (above next u.seat.session h, tt);
      one_end = over.one_end;
      ends = over.ends;
    }

    pub keeps_new : Keeps places most store (next + 1) past (ps ++ new_phase next place client ∷ [])
    keeps_new = record {
      early = all_map (λ (t : TurnOf). t.seat.session < next) (λ (t : TurnOf). t.seat.session < next + 1) past (λ t h. omega (arith, h)) keeps.early;
      measured = keeps.measured;
      begun = keeps.begun;
      stored = keeps.stored;
      held = all_join (IsHeld places most past) ps (new_phase next place client ∷ []) keeps.held (
        record {
          no_end = part_none (λ (t : TurnOf). option_to_list t.end) next past fresh;
          debt = sym (debt_none next no_debt past fresh);
          begun = part_none (λ (t : TurnOf). option_to_list t.begun) next past fresh;
          stands = λ at is. (part_none (λ (t : TurnOf). t.answers) next past fresh, part_none (λ (t : TurnOf). t.lines) next past fresh);
        },
        tt,
      );
      over = all_zip (λ (t : TurnOf). t.seat.session < next) (λ (t : TurnOf). IfOver places most past ps t t.end)
          (λ (t : TurnOf). IfOver places most past (ps ++ new_phase next place client ∷ []) t t.end) past (λ t h o. over_new t t.end h o) keeps.early keeps.over;
    }

-- one more number is used up
keeps_more : (places : List Listening) (most : ℕ) (store : List KeptValue) (next : ℕ) (past : List TurnOf) (ps : List Phase) → Keeps places most store next past ps → Keeps places most store (next + 1) past ps
keeps_more places most store next past ps keeps = record {
  early = all_map (λ (t : TurnOf). t.seat.session < next) (λ (t : TurnOf). t.seat.session < next + 1) past (λ t h. omega (arith, h)) keeps.early;
  measured = keeps.measured;
  begun = keeps.begun;
  stored = keeps.stored;
  held = keeps.held;
  over = keeps.over;
}

-- the links had a session and have it no longer
pub free_away : (next : ℕ) (old mid new : LinksPlace) → ((session : ℕ) → next ≤ session → old.serves session ≡ false) → GetsSession next old mid → LosesSession next mid new →
    (session : ℕ) → next + 1 ≤ session → new.serves session ≡ false
free_away next old mid new free gets lost session h =
    lost.others session (below next session (omega (arith, h))) ∙ gets.others session (below next session (omega (arith, h))) ∙ free session (omega (arith, h))

pub table_away : (places : List Listening) (most : ℕ) (store : List KeptValue) (next next' : ℕ) (ps : List Phase) (old mid new : LinksPlace) → next' ≡ next + 1 → GetsSession next old mid → LosesSession next mid new →
    IsTable places most store old.serves next ps → IsTable places most store new.serves next' ps
table_away places most store next next' ps old mid new one gets lost t = subst (λ n. IsTable places most store new.serves n ps) (sym one) (record {
  ordered = higher 0 next (next + 1) ps (omega arith) t.ordered;
  each = all_zip (λ (q : Phase). (0 ≤ q.seat.session) × (q.seat.session < next)) (MayGo places most store old.serves) (MayGo places most store new.serves) ps
      (λ q h m. record {
        placed = m.placed;
        may = m.may;
        served = lost.others q.seat.session (above next q.seat.session h.1) ∙ gets.others q.seat.session (above next q.seat.session h.1) ∙ m.served;
        lent = m.lent;
      }) (members 0 next ps t.ordered) t.each;
  free = free_away next old mid new t.free gets lost;
  fits = t.fits;
})

closed_next : (why : Closing) (lobby : Lobby) (place moment address : ℕ) → (lobby_closed why lobby place moment address).next ≡ lobby.next + 1
closed_next closing.Stranger lobby place moment address = refl
closed_next closing.Away lobby place moment address = refl

pub next_behind : (why : Closing) (lobby lobby' : Lobby) (place moment address : ℕ) → lobby' ≡ lobby_closed why lobby place moment address → lobby'.next ≡ lobby.next + 1
next_behind why lobby lobby' place moment address one = ap (λ (f : Lobby). f.next) one ∙ closed_next why lobby place moment address

-- whether one that is closed has a line
pub not_due : (b : Bool) (n : ℕ) (o : Option ℕ) → o ≡ (if b then Some n else None) → o ≡ None → b ≡ false
not_due true n o says none = let e : Some n ≡ None = sym says ∙ none in cc
not_due false n o says none = refl

pub due : (b : Bool) (n m : ℕ) (o : Option ℕ) → o ≡ (if b then Some n else None) → o ≡ Some m → (b ≡ true) × (m ≡ n)
due true n m o says some = (refl, sym (same_Some n m (sym says ∙ some)))
due false n m o says some = let e : None ≡ Some m = sym says ∙ some in cc

module _ (places : List Listening) (most moment place : ℕ) (lobby : Lobby) (told : Option (List LinksEntry)) (log : Option (List (List ℕ))) (ps : List Phase) where
  -- none came
  pub none_came : (after : Option (List LinksEntry)) → after ≡ told → Arrive places most moment place (place + 1) lobby lobby told after log log ps ps
  none_came after same = record {
    arrivals = [];
    tells = same ∙ more_none told;
    added = lines_none log;
    come = tt;
    below = tt;
    seats = sym (append-nil (seats_of ps));
    counts = refl;
    keeps = λ store past k. k;
  }

  module _ (client : Endpoint) (after : Option (List LinksEntry)) (log' : Option (List (List ℕ))) (lobby' : Lobby) (at : Listening)
      (there : slice_get places place ≡ Some at) where
    abbrev its : Seat
    its = (new_phase lobby.next place client).seat

    abbrev comer : Option Closing → List (List ℕ) → Arrival
    comer closed lines = record { seat = its; closed = closed; lines = lines }

    come_is : (closed : Option Closing) (lines : List (List ℕ)) → closed ≡ closing_of at.site (seats_of ps) place client.address →
        lines ≡ arrival_lines at lobby moment (comer closed lines) → AreArrivals places moment place lobby (seats_of ps) (comer closed lines ∷ [])
    come_is closed lines why own = (
      record {
        later = omega arith;
        at = at;
        listens = there;
        number = refl;
        why = why;
        own_lines = own;
      },
      tt,
    )

    -- one that is closed
    module _ (why : Closing) (is_closed : Some why ≡ closing_of at.site (seats_of ps) place client.address) (mid : Option (List LinksEntry))
        (came : mid ≡ option_map (λ es. es ++ Came lobby.next place client ∷ []) told)
        (left : after ≡ option_map (λ es. es ++ Left lobby.next ∷ []) mid) (one : lobby' ≡ lobby_closed why lobby place moment client.address) where
      both : after ≡ option_map (λ es. es ++ Came lobby.next place client ∷ Left lobby.next ∷ []) told
      both = left ∙ ap (option_map (λ es. es ++ Left lobby.next ∷ [])) came ∙ more_twice told (Came lobby.next place client ∷ []) (Left lobby.next ∷ [])

      kept_out : (store : List KeptValue) (past : List TurnOf) → Keeps places most store lobby.next past ps → Keeps places most store lobby'.next past ps
      kept_out store past k = subst (λ n. Keeps places most store n past ps) (sym (next_behind why lobby lobby' place moment client.address one))
          (keeps_more places most store lobby.next past ps k)

      closed_with : log' ≡ with_lines log (closed_lines why at lobby place client moment) → Arrive places most moment place (place + 1) lobby lobby' told after log log' ps ps
      closed_with added = record {
        arrivals = comer (Some why) (closed_lines why at lobby place client moment) ∷ [];
        tells = both;
        added = simp (added, append-nil);
        come = come_is (Some why) (closed_lines why at lobby place client moment) is_closed refl;
        below = (omega arith, tt);
        seats = sym (append-nil (seats_of ps));
        counts = one;
        keeps = kept_out;
      }

      abbrev its_line : List ℕ
      its_line = line_about at.site.first client moment (closing_value why (came_by why lobby place))

      -- it has no line
      pub closed_quiet : log' ≡ log → has_line why lobby place moment client.address ≡ false → Arrive places most moment place (place + 1) lobby lobby' told after log log' ps ps
      closed_quiet same not = closed_with (same ∙ lines_none log ∙ ap (λ (b : Bool). with_lines log (if b then its_line ∷ [] else [])) (sym not))

      -- it has one
      module _ (words : has_line why lobby place moment client.address ≡ true) where
        spoken : its_line ∷ [] ≡ closed_lines why at lobby place client moment
        spoken = ap (λ (b : Bool). if b then its_line ∷ [] else []) (sym words)

        pub closed_said : (r : Result Unit WriteFault) → OnOk r (log' ≡ with_lines log (its_line ∷ [])) →
            OnOk r (Arrive places most moment place (place + 1) lobby lobby' told after log log' ps ps)
        closed_said (Ok u) added = closed_with (added ∙ ap (with_lines log) spoken)
        closed_said (Err e) added = tt

        pub closed_missed : (part : List ℕ) → MayHaveMore (its_line ∷ []) log log' part →
            MissesArrival places most moment place lobby lobby' told after log log' part ps ps
        closed_missed part may =
            let w = begins_line its_line log log' part may in
            record {
              arrivals = comer (Some why) w.0 ∷ [];
              tells = both;
              added = simp (w.1.0, append-nil);
              fails = record {
                before = [];
                seat = its;
                closed = Some why;
                line = its_line;
                come = come_is (Some why) (its_line ∷ []) is_closed spoken;
                whole = w.0;
                are = refl;
                begins = w.1.1;
              };
              seats = sym (append-nil (seats_of ps));
              keeps = kept_out;
            }

    -- one that is taken
    module _ (new : List Phase) (came : after ≡ option_map (λ es. es ++ Came lobby.next place client ∷ []) told)
        (is_taken : None ≡ closing_of at.site (seats_of ps) place client.address) (is : new ≡ ps ++ new_phase lobby.next place client ∷ [])
        (one : lobby' ≡ record lobby { next = lobby.next + 1 }) where
      kept_in : (store : List KeptValue) (past : List TurnOf) → Keeps places most store lobby.next past ps → Keeps places most store lobby'.next past new
      kept_in store past k = subst (λ (f : Lobby). Keeps places most store f.next past new) (sym one)
          (subst (Keeps places most store (lobby.next + 1) past) (sym is) (keeps_new places most lobby.next place client ps store past k))

      pub came_in : log' ≡ log → Arrive places most moment place (place + 1) lobby lobby' told after log log' ps new
      came_in same = record {
        arrivals = comer None [] ∷ [];
        tells = came;
        added = same ∙ lines_none log;
        come = come_is None [] is_taken refl;
        below = (omega arith, tt);
        seats = ap seats_of is ∙ map-append (λ (p : Phase). p.seat) ps (new_phase lobby.next place client ∷ []);
        counts = one;
        keeps = kept_in;
      }

pub for_all : {E : Type 0} (P : ℕ → Type 0) (r : Result Unit E) → ((most : ℕ) → OnOk r (P most)) → OnOk r ((most : ℕ) → P most)
for_all P (Ok u) h = h
for_all P (Err e) h = tt

pub err_for_all : {E : Type 0} (F : Type 0) (P : ℕ → Type 0) (r : Result Unit E) → ((most : ℕ) → F → P most) → OnErr r F → OnErr r ((most : ℕ) → P most)
err_for_all F P (Ok u) h f = tt
err_for_all F P (Err e) h f = λ most. h most f

-- ---- places one after the other

lower_from : (places : List Listening) (moment from from' : ℕ) (lobby : Lobby) (standing : List Seat) (cs : List Arrival) → from' ≤ from →
    AreArrivals places moment from lobby standing cs → AreArrivals places moment from' lobby standing cs
lower_from places moment from from' lobby standing [] h come = tt
lower_from places moment from from' lobby standing (a ∷ cs) h (is, rest) = (
  record {
    later = omega (arith, h, is.later);
    at = is.at;
    listens = is.listens;
    number = is.number;
    why = is.why;
    own_lines = is.own_lines;
  },
  rest,
)

taken_more : (cs bs : List Arrival) → taken_of (cs ++ bs) ≡ taken_of cs ++ taken_of bs
taken_more cs bs = flat_map-append taken_by cs bs

behind_more : (lobby : Lobby) (moment : ℕ) (cs bs : List Arrival) → lobby_behind lobby moment (cs ++ bs) ≡ lobby_behind (lobby_behind lobby moment cs) moment bs
behind_more lobby moment [] bs = refl
behind_more lobby moment (c ∷ cs) bs = behind_more (lobby_with lobby moment c) moment cs bs

come_join : (places : List Listening) (moment from upto : ℕ) (lobby : Lobby) (standing : List Seat) (cs bs : List Arrival) → from ≤ upto →
    AreArrivals places moment from lobby standing cs → AllByRecursion (λ (a : Arrival). a.seat.place < upto) cs →
    AreArrivals places moment upto (lobby_behind lobby moment cs) (standing ++ taken_of cs) bs → AreArrivals places moment from lobby standing (cs ++ bs)
come_join places moment from upto lobby standing [] bs h come below later =
    lower_from places moment upto from lobby standing bs h
    (subst (λ (ss : List Seat). AreArrivals places moment upto lobby ss bs) (append-nil standing) later)
come_join places moment from upto lobby standing (a ∷ cs) bs h (is, rest) (b, below) later = (
  is,
  come_join places moment (a.seat.place + 1) upto (lobby_with lobby moment a) (standing ++ taken_by a) cs bs (omega (arith, b)) rest below
      (subst (λ (ss : List Seat). AreArrivals places moment upto (lobby_behind (lobby_with lobby moment a) moment cs) ss bs)
      (sym (append_assoc standing (taken_by a) (taken_of cs))) later),
)

module _ (places : List Listening) (most moment : ℕ) (lobby : Lobby) (told : Option (List LinksEntry)) (log : Option (List (List ℕ))) (old : List Phase) where
  pub arrive_first : Arrive places most moment 0 0 lobby lobby told told log log old old
  arrive_first = record {
    arrivals = [];
    tells = more_none told;
    added = lines_none log;
    come = tt;
    below = tt;
    seats = sym (append-nil (seats_of old));
    counts = refl;
    keeps = λ store past k. k;
  }

  pub arrive_then : (place : ℕ) (lobby1 lobby2 : Lobby) (told1 told2 : Option (List LinksEntry)) (log1 log2 : Option (List (List ℕ))) (mid new : List Phase) →
      Arrive places most moment 0 place lobby lobby1 told told1 log log1 old mid →
      Arrive places most moment place (place + 1) lobby1 lobby2 told1 told2 log1 log2 mid new →
      Arrive places most moment 0 (place + 1) lobby lobby2 told told2 log log2 old new
  arrive_then place lobby1 lobby2 told1 told2 log1 log2 mid new a b = record {
    arrivals = a.arrivals ++ b.arrivals;
    tells = simp (b.tells, a.tells, more_twice, flat_map-append);
    added = simp (b.added, a.added, more_twice, flat_map-append);
    come = come_join places moment 0 place lobby (seats_of old) a.arrivals b.arrivals (omega arith) a.come a.below
        (subst (λ (f : Lobby). AreArrivals places moment place f (seats_of old ++ taken_of a.arrivals) b.arrivals) a.counts
        (subst (λ (ss : List Seat). AreArrivals places moment place lobby1 ss b.arrivals) a.seats b.come));
    below = all_join (λ (x : Arrival). x.seat.place < place + 1) a.arrivals b.arrivals
        (all_map (λ (x : Arrival). x.seat.place < place) (λ (x : Arrival). x.seat.place < place + 1) a.arrivals (λ x h. omega (arith, h)) a.below) b.below;
    seats = b.seats ∙ ap (λ (ss : List Seat). ss ++ taken_of b.arrivals) a.seats ∙ append_assoc (seats_of old) (taken_of a.arrivals) (taken_of b.arrivals)
        ∙ ap (λ (ss : List Seat). seats_of old ++ ss) (sym (taken_more a.arrivals b.arrivals));
    counts = b.counts ∙ ap (λ (f : Lobby). lobby_behind f moment b.arrivals) a.counts ∙ sym (behind_more lobby moment a.arrivals b.arrivals);
    keeps = λ store past k. b.keeps store past (a.keeps store past k);
  }

  -- the line of the last failed
  pub arrive_missed : (place : ℕ) (lobby1 lobby2 : Lobby) (told1 told2 : Option (List LinksEntry)) (log1 log2 : Option (List (List ℕ))) (part : List ℕ) (mid new : List Phase) →
      Arrive places most moment 0 place lobby lobby1 told told1 log log1 old mid →
      MissesArrival places most moment place lobby1 lobby2 told1 told2 log1 log2 part mid new →
      MissesArrival places most moment 0 lobby lobby2 told told2 log log2 part old new
  arrive_missed place lobby1 lobby2 told1 told2 log1 log2 part mid new a b =
      let f = b.fails in
      let last : List Arrival = record { seat = f.seat; closed = f.closed; lines = f.line ∷ [] } ∷ [] in
      let cut : List Arrival = record { seat = f.seat; closed = f.closed; lines = f.whole } ∷ [] in
      record {
        arrivals = a.arrivals ++ b.arrivals;
        tells = simp (b.tells, a.tells, more_twice, flat_map-append);
        added = simp (b.added, a.added, more_twice, flat_map-append);
        fails = record {
          before = a.arrivals ++ f.before;
          seat = f.seat;
          closed = f.closed;
          line = f.line;
          come = subst (AreArrivals places moment 0 lobby (seats_of old)) (sym (append_assoc a.arrivals f.before last))
              (come_join places moment 0 place lobby (seats_of old) a.arrivals (f.before ++ last) (omega arith) a.come a.below
              (subst (λ (x : Lobby). AreArrivals places moment place x (seats_of old ++ taken_of a.arrivals) (f.before ++ last)) a.counts
              (subst (λ (ss : List Seat). AreArrivals places moment place lobby1 ss (f.before ++ last)) a.seats f.come)));
          whole = f.whole;
          are = ap (λ xs. a.arrivals ++ xs) f.are ∙ sym (append_assoc a.arrivals f.before cut);
          begins = f.begins;
        };
        seats = b.seats ∙ ap (λ (ss : List Seat). ss ++ taken_of b.arrivals) a.seats ∙ append_assoc (seats_of old) (taken_of a.arrivals) (taken_of b.arrivals)
            ∙ ap (λ (ss : List Seat). seats_of old ++ ss) (sym (taken_more a.arrivals b.arrivals));
        keeps = λ store past k. b.keeps store past (a.keeps store past k);
      }
