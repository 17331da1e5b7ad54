-- One step of a round: a session in its place had its turn.
use Rattle.std.proofs.Common.{Bool, List, None, Option, Some, ap, arith, map, refl, subst, sym, true, false, ℕ, ◌++◌, ◌<◌, ◌∙◌, ◌∷◌, ◌≡◌, ◌⊎◌, inl, inr, []}
use Rattle.std.specs.Prelude.{Err, Ok, OnErr, Result, if◌then◌else◌, is_some, not, option_to_list, slice_get, ◌&&◌, ◌==◌}
use Rattle.std.specs.List.{AllByRecursion, remove}
use Rattle.std.proofs.Math.ListN.{set}
use Rattle.std.proofs.lemmas.Bool.{eq-eqb}
use Rattle.std.proofs.lemmas.List.{length-map, map-append}
use Rattle.std.proofs.lemmas.Option.{same_Some}
use Rattle.cf_lane.specs.Caller.{RateMoments}
use Rattle.cf_links.specs.Links.{LinksEntry, LinksPlace}
use Rattle.cf_outside.specs.Pair.{Entry}
use Rattle.cf_relay.specs.Answers.{client_of, history_of}
use Rattle.cf_serve.proofs.Beginning.{before_now, begun_as, begun_before, begun_first, begun_free, begun_some, chosen, chosen_begins, chosen_left, leaves_as, not_begun, nothing_taken, now_begins}
use Rattle.cf_serve.proofs.Beginning.{now_is, now_of, now_stands}
use Rattle.cf_serve.proofs.Keeping.{keeps_end, keeps_stay, part_own}
use Rattle.cf_serve.proofs.Numbers.{all_map, all_one, all_others, all_with, all_zip, below, number_within, others, with_it, without_it}
use Rattle.cf_serve.proofs.Placing.{PhasesAt}
use Rattle.cf_serve.proofs.Storing.{AreWithin, fits_ends, fits_on, lent_ends, lent_on, stored_ends, stored_stays}
use Rattle.cf_serve.proofs.Tallying.{tallied_more}
use Rattle.cf_serve.specs.Debt.{Admits, IsMeasured, Refuses, debt_of, debt_with, must_rest}
use Rattle.cf_serve.specs.Kept.{Begins, IsBegun, Leaves, before_in, before_of, begins_in, left_to}
use Rattle.cf_serve.specs.Lending.{Fits, IsStored, KeepsOthers, KeptValue, kept_at}
use Rattle.cf_serve.specs.Minute.{IsTallied, tally_at, tally_with}
use Rattle.cf_serve.specs.Phase.{BeginsWith, HasLent, IsGivenBack, KeepsPlace, LinkedValue, MayTurn, Phase, SeatDoes, StandsAs, TurnKeeps, TurnLeaves}
use Rattle.cf_serve.specs.Phase.{counts_at, debt_at, phase_of, rings_for}
use Rattle.cf_serve.specs.Rounds.{IsAgain, IsAgainOf, Seat, TurnOf, answers_in, has_later, has_rates, lines_in, must_end, stays}
use Rattle.cf_serve.specs.Session.{Listening}
use Rattle.cf_serve.specs.Table.{AreCalm, BegunAs, IsBetween, IsTable, Keeps, MayGo, MayLeave, SeatsStep, StepDoes, seats_of}
use Rattle.cf_serve.specs.declared.debt.Debt.{Debt}
use Rattle.cf_serve.specs.declared.end.SessionEnd.{SessionEnd}
use Rattle.cf_serve.specs.declared.minute.Tally.{Tally}
use Rattle.cf_serve.specs.declared.session.Served.{Served}

-- what it leaves, at the only listening of its place
pub at_place : (places : List Listening) (place : ℕ) (at : Listening) → slice_get places place ≡ Some at → (P : Listening → Type 0) → P at →
    (other : Listening) → slice_get places place ≡ Some other → P other
at_place places place at is P p other too = subst P (same_Some at other (sym is ∙ too)) p

-- an end, or none
none_of : (o : Option SessionEnd) → is_some o ≡ not true → o ≡ None
none_of None h = refl
none_of (Some e) h = cc

some_of : (o : Option SessionEnd) → is_some o ≡ not false → (e : SessionEnd) × (o ≡ Some e)
some_of None h = cc
some_of (Some e) h = (e, refl)

stays_by : (t : TurnOf) (o : Option SessionEnd) → t.end ≡ o → stays t ≡ (elim o as (λ x. List Seat) [ None ↦ t.seat ∷ [] | Some end ↦ [] ])
stays_by t o is = ap (λ (o : Option SessionEnd). elim o as (λ x. List Seat) [ None ↦ t.seat ∷ [] | Some end ↦ [] ]) is

-- what a turn says of how its session begins and leaves, at a seat
pub record IsBegunAt (places : List Listening) (past : List TurnOf) (t : TurnOf) (z : Seat) : Type 0 where
  pub begins : (b : RateMoments) → t.begun ≡ Some b → (at : Listening) → slice_get places z.place ≡ Some at → Begins at.site (left_to z.place z.client.address past) (past ++ t ∷ []) b
  pub first : (b : RateMoments) → t.begun ≡ Some b → answers_in z.session past ≡ []
  pub met : (b : RateMoments) → t.begun ≡ Some b → (client_of t.answers).address ≡ z.client.address
  pub takes : (at : Listening) → slice_get places z.place ≡ Some at → begins_in z.session (past ++ t ∷ []) ≡ [] → history_of (answers_in z.session (past ++ t ∷ [])) ≡ []
  pub leaves : (e : SessionEnd) → t.end ≡ Some e → (at : Listening) → slice_get places z.place ≡ Some at →
      Leaves at.site (left_to z.place z.client.address past) (begins_in z.session (past ++ t ∷ [])) (answers_in z.session (past ++ t ∷ [])) t.left

begun_there : (places : List Listening) (past : List TurnOf) (t : TurnOf) → IsBegunAt places past t t.seat → IsBegun places past t
begun_there places past t h = record { begins = h.begins; first = h.first; met = h.met; takes = h.takes; leaves = h.leaves }

ended_left : {A : Type 0} (o : Option SessionEnd) (e : SessionEnd) → o ≡ Some e → (o ≡ None) ⊎ A → A
ended_left o e is (inl none) = cc (sym is ∙ none)
ended_left o e is (inr a) = a

-- the session of a place, in the table
module _ {xs : List Served} {index : ℕ} {x : Served} (s : PhasesAt xs index x) {places : List Listening} {most next : ℕ} {serves : ℕ → Bool} {store : List KeptValue}
    (table : IsTable places most store serves next (map phase_of xs)) where
  pub ordered : IsBetween 0 next (s.before ++ phase_of x ∷ s.after)
  ordered = subst (IsBetween 0 next) s.was table.ordered

  each : AllByRecursion (MayGo places most store serves) (s.before ++ phase_of x ∷ s.after)
  each = subst (AllByRecursion (MayGo places most store serves)) s.was table.each

  pub may_go : MayGo places most store serves (phase_of x)
  may_go = all_one (MayGo places most store serves) s.before (phase_of x) s.after each

  pub may_others : AllByRecursion (MayGo places most store serves) (s.before ++ s.after)
  may_others = all_others (MayGo places most store serves) s.before (phase_of x) s.after each

  -- what is kept for the others stays so
  abbrev pub Lasts : List KeptValue → Type 0
  Lasts store' = (q : Seat) (o : Option LinkedValue) → (x.number == q.session) ≡ false → (at : Listening) → slice_get places q.place ≡ Some at → HasLent at.site store q o → HasLent at.site store' q o

  -- it is gone, and the links have it no longer
  pub table_ends : (y : Served) (zs : List Served) (old new : LinksPlace) (stays_on : Bool) → zs ≡ remove (set xs index y) index → old.serves ≡ serves → stays_on ≡ false →
      KeepsPlace x.number old new stays_on → (store' : List KeptValue) → Fits places store' → Lasts store' → IsTable places most store' new.serves next (map phase_of zs)
  table_ends y zs old new true gone had ended keeps store' fits lasts = cc
  table_ends y zs old new false gone had ended keeps store' fits lasts =
      let kept : (other : ℕ) → (x.number == other) ≡ false → new.serves other ≡ serves other = λ other h. keeps.others other h ∙ ap (λ (f : ℕ → Bool). f other) had in
      subst (IsTable places most store' new.serves next) (sym (ap (map phase_of) gone ∙ s.out y)) (record {
        ordered = without_it 0 next s.before (phase_of x) s.after ordered;
        each = all_zip (λ (q : Phase). (x.number == q.seat.session) ≡ false) (MayGo places most store serves) (MayGo places most store' new.serves) (s.before ++ s.after)
            (λ q other h. record { placed = h.placed; may = h.may; served = kept q.seat.session other ∙ h.served; lent = λ at is. lasts q.seat q.linked other at is (h.lent at is) })
            (others 0 next s.before (phase_of x) s.after ordered) may_others;
        free = λ session h. kept session (below x.number session (omega (arith, h, (number_within 0 next s.before (phase_of x) s.after ordered).1))) ∙ table.free session h;
        fits = fits;
      })

  -- it stays, as another
  module _ (y : Served) (same : y ≡ record x { linked = y.linked }) where
    pub with_y : map phase_of (set xs index y) ≡ s.before ++ record { seat = (phase_of x).seat; linked = (phase_of y).linked } ∷ s.after
    with_y = s.put y ∙ ap (λ z. s.before ++ phase_of z ∷ s.after) same

    pub table_stays : (old new : LinksPlace) (stays_on : Bool) → old.serves ≡ serves → stays_on ≡ true → KeepsPlace x.number old new stays_on →
        ((at : Listening) → slice_get places x.place ≡ Some at → MayTurn at most (phase_of y).linked) → (store' : List KeptValue) → Fits places store' → Lasts store' →
        ((at : Listening) → slice_get places x.place ≡ Some at → HasLent at.site store' (phase_of x).seat (phase_of y).linked) → IsTable places most store' new.serves next (map phase_of (set xs index y))
    table_stays old new false had on keeps may store' fits lasts lent = cc
    table_stays old new true had on keeps may store' fits lasts lent =
        subst (λ f. IsTable places most store' f next (map phase_of (set xs index y))) (sym (ap (λ (p : LinksPlace). p.serves) keeps ∙ had))
        (subst (IsTable places most store' serves next) (sym with_y) (record {
          ordered = with_it 0 next s.before (phase_of x) (phase_of y).linked s.after ordered;
          each = all_with (MayGo places most store' serves) s.before (record { seat = (phase_of x).seat; linked = (phase_of y).linked }) s.after
              (record { placed = may_go.placed; may = may; served = may_go.served; lent = lent })
              (all_zip (λ (q : Phase). (x.number == q.seat.session) ≡ false) (MayGo places most store serves) (MayGo places most store' serves) (s.before ++ s.after)
              (λ q other h. record { placed = h.placed; may = h.may; served = h.served; lent = λ at is. lasts q.seat q.linked other at is (h.lent at is) })
              (others 0 next s.before (phase_of x) s.after ordered) may_others);
          free = table.free;
          fits = fits;
        }))

    -- its write failed, and the links have what they had
    pub leave_it : (serves' : ℕ → Bool) → serves' ≡ serves → MayLeave serves' next (map phase_of (set xs index y))
    leave_it serves' had =
        subst (λ f. MayLeave f next (map phase_of (set xs index y))) (sym had) (subst (MayLeave serves next) (sym with_y) (record {
          ordered = with_it 0 next s.before (phase_of x) (phase_of y).linked s.after ordered;
          served = all_with (λ (p : Phase). serves p.seat.session ≡ true) s.before (record { seat = (phase_of x).seat; linked = (phase_of y).linked }) s.after may_go.served
              (all_map (MayGo places most store serves) (λ (p : Phase). serves p.seat.session ≡ true) (s.before ++ s.after) (λ p m. m.served) may_others);
        }))

  -- whether its client came again
  again_by : (has_new : Bool) (at : Listening) → slice_get places x.place ≡ Some at → (has_new ≡ false → must_end places (seats_of (map phase_of xs)) (phase_of x).seat ≡ false) →
      (has_new && (has_rates at.site && has_later (seats_of (map phase_of xs)) (phase_of x).seat)) ≡ must_end places (seats_of (map phase_of xs)) (phase_of x).seat
  again_by true at is calm = ap (λ (o : Option Listening). elim o as (λ y. Bool) [ None ↦ false | Some a ↦ has_rates a.site && has_later (seats_of (map phase_of xs)) (phase_of x).seat ]) (sym is)
  again_by false at is calm = sym (calm refl)

  its_seat : seats_of (map phase_of xs) ≡ seats_of s.before ++ (phase_of x).seat ∷ seats_of s.after
  its_seat = ap seats_of s.was ∙ map-append (λ (p : Phase). p.seat) s.before (phase_of x ∷ s.after)

  pub again_is : (has_new again : Bool) (at : Listening) → slice_get places x.place ≡ Some at → (has_new ≡ false → AreCalm places (seats_of (map phase_of xs))) →
      again ≡ (has_new && (has_rates at.site && has_later (seats_of (map phase_of xs)) (phase_of x).seat)) → again ≡ must_end places (seats_of (map phase_of xs)) (phase_of x).seat
  again_is has_new again at is calm says = says ∙ again_by has_new at is (λ not.
      all_one (λ (z : Seat). must_end places (seats_of (map phase_of xs)) z ≡ false) (seats_of s.before) (phase_of x).seat (seats_of s.after)
      (subst (AllByRecursion (λ (z : Seat). must_end places (seats_of (map phase_of xs)) z ≡ false)) its_seat (calm not)))

  -- its place among the seats
  no_again : (again stays_on : Bool) → (again ≡ true → stays_on ≡ false) → stays_on ≡ true → again ≡ false
  no_again true stays_on over on = cc (sym (over refl) ∙ on)
  no_again false stays_on over on = refl

  module _ (again : Bool) (is : again ≡ must_end places (seats_of (map phase_of xs)) (phase_of x).seat) where
    pub seats_stay : (y : Served) → y ≡ record x { linked = y.linked } → (stays_on : Bool) → stays_on ≡ true → (again ≡ true → stays_on ≡ false) →
        SeatsStep places index (seats_of (map phase_of xs)) (seats_of (map phase_of (set xs index y))) stays_on
    seats_stay y same stays_on on over = record {
      before = seats_of s.before;
      it = (phase_of x).seat;
      after = seats_of s.after;
      was = its_seat;
      at = length-map s.before (λ (p : Phase). p.seat) ∙ s.at;
      is = ap seats_of (with_y y same) ∙ map-append (λ (p : Phase). p.seat) s.before _ ∙ ap (λ (b : Bool). seats_of s.before ++ ((if b then (phase_of x).seat ∷ [] else []) ++ seats_of s.after)) (sym on);
      calm = λ stays. sym is ∙ no_again again stays_on over stays;
    }

    pub seats_end : (y : Served) (zs : List Served) → zs ≡ remove (set xs index y) index → (stays_on : Bool) → stays_on ≡ false →
        SeatsStep places index (seats_of (map phase_of xs)) (seats_of (map phase_of zs)) stays_on
    seats_end y zs gone stays_on off = record {
      before = seats_of s.before;
      it = (phase_of x).seat;
      after = seats_of s.after;
      was = its_seat;
      at = length-map s.before (λ (p : Phase). p.seat) ∙ s.at;
      is = ap seats_of (ap (map phase_of) gone ∙ s.out y) ∙ map-append (λ (p : Phase). p.seat) s.before s.after
          ∙ ap (λ (b : Bool). seats_of s.before ++ ((if b then (phase_of x).seat ∷ [] else []) ++ seats_of s.after)) (sym off);
      calm = λ stays. cc (sym off ∙ stays);
    }

  module _ {past : List TurnOf} (keeps : Keeps places most store next past (map phase_of xs)) {at : Listening} (is_at : slice_get places x.place ≡ Some at) where
    pub keeps_it : Keeps places most store next past (s.before ++ phase_of x ∷ s.after)
    keeps_it = subst (Keeps places most store next past) s.was keeps

    pub stood : StandsAs at (before_in x.number past) most (answers_in x.number past) (lines_in x.number past) (phase_of x).linked
    stood = (all_one _ s.before (phase_of x) s.after keeps_it.held).stands at is_at

    pub own_debt : debt_at (phase_of x).linked ≡ debt_of x.number past
    own_debt = (all_one _ s.before (phase_of x) s.after keeps_it.held).debt

    own_begun : BegunAs (phase_of x).linked (begins_in x.number past)
    own_begun = (all_one _ s.before (phase_of x) s.after keeps_it.held).begun

    -- what its client's earlier sessions left, and with what it begins in this turn if it does
    abbrev pub found : RateMoments
    found = left_to x.place x.client.address past

    abbrev begins_by : RateMoments
    begins_by = chosen (has_rates at.site) (kept_at store x.place x.client.address) found

    abbrev pub now_before : Option LinkedValue → RateMoments
    now_before new = before_now (begins_in x.number past) begins_by (phase_of x).linked new

    pub begins_with : (new : Option LinkedValue) → BeginsWith (rings_for at.site store x.place x.client.address) (now_before new) (phase_of x).linked new
    begins_with new = now_begins (begins_in x.number past) begins_by (rings_for at.site store x.place x.client.address) (phase_of x).linked new own_begun
        (chosen_left (has_rates at.site) at.site past found (kept_at store x.place x.client.address) (λ rated. keeps.stored x.place x.client.address at is_at rated))

    pub stands_now : (new : Option LinkedValue) → StandsAs at (now_before new) most (answers_in x.number past) (lines_in x.number past) (phase_of x).linked
    stands_now new = now_stands (begins_in x.number past) begins_by at most (answers_in x.number past) (lines_in x.number past) (phase_of x).linked new stood

    abbrev with_seat : Seat → List Phase
    with_seat seat = s.before ++ record { seat = seat; linked = (phase_of x).linked } ∷ s.after

    module _ {again : Bool} {moment : ℕ} {told told' : Option (List LinksEntry)} {log log' : Option (List (List ℕ))} (y : Served) (stays_on : Bool) {store' : List KeptValue}
        (k : TurnKeeps at.site (phase_of x).seat moment store store' stays_on (phase_of x).linked (phase_of y).linked)
        (d : SeatDoes at again (now_before (phase_of y).linked) found most moment (answers_in x.number past) (lines_in x.number past) told told' log log' (phase_of x) (phase_of y) stays_on) where
      abbrev new : Option LinkedValue
      new = (phase_of y).linked

      abbrev all : List TurnOf
      all = past ++ d.turn ∷ []

      own : (d.turn.seat.session == x.number) ≡ true
      own = eq-eqb d.turn.seat.session x.number (ap (λ (z : Seat). z.session) d.seat)

      begins_now : begins_in x.number all ≡ now_of (begins_in x.number past) begins_by (phase_of x).linked new
      begins_now =
          part_own (λ (u : TurnOf). option_to_list u.begun) x.number past d.turn own ∙ ap (λ (o : Option RateMoments). begins_in x.number past ++ option_to_list o) d.begun
          ∙ now_is (begins_in x.number past) begins_by (phase_of x).linked new own_begun

      before_is : now_before new ≡ before_in x.number all
      before_is = ap before_of (sym begins_now)

      answers_now : answers_in x.number all ≡ answers_in x.number past ++ d.turn.answers
      answers_now = part_own (λ (u : TurnOf). u.answers) x.number past d.turn own

      begun_now : BegunAs new (begins_in x.number all)
      begun_now = subst (BegunAs new) (sym begins_now) (begun_as (begins_in x.number past) begins_by at.site (phase_of x).seat store stays_on (phase_of x).linked new own_begun k.begins)

      once : (v : LinkedValue) → new ≡ Some v → begins_in x.number all ≡ now_before new ∷ []
      once v is = begins_now ∙ subst (λ (o : Option LinkedValue). now_of (begins_in x.number past) begins_by (phase_of x).linked o ≡ now_before o ∷ []) (sym is)
          (begun_before (begins_in x.number past) begins_by at.site (phase_of x).seat store stays_on (phase_of x).linked v own_begun)

      -- what a turn leaves of it, wherever it listens
      abbrev LeavesAt : Seat → Option SessionEnd → Type 0
      LeavesAt seat end = (other : Listening) → slice_get places seat.place ≡ Some other →
          TurnLeaves other (before_in seat.session all) most seat.client (answers_in seat.session past ++ d.turn.answers) (lines_in seat.session past ++ d.turn.lines) new end

      leaves_at : (end : Option SessionEnd) → d.turn.end ≡ end → LeavesAt (phase_of x).seat end
      leaves_at end is =
          at_place places x.place at is_at (λ (o : Listening). TurnLeaves o (before_in x.number all) most (phase_of x).seat.client (answers_in x.number past ++ d.turn.answers) (lines_in x.number past ++ d.turn.lines) new end)
          (subst (λ (b : RateMoments). TurnLeaves at b most (phase_of x).seat.client (answers_in x.number past ++ d.turn.answers) (lines_in x.number past ++ d.turn.lines) new end) before_is
          (subst (TurnLeaves at (now_before new) most (phase_of x).seat.client (answers_in x.number past ++ d.turn.answers) (lines_in x.number past ++ d.turn.lines) new) is d.leaves))

      -- what its turn refused, and that it had none where it had to rest
      measured_it : IsMeasured places past d.turn
      measured_it = record {
        rests = λ too_much. d.rests (ap (λ (o : Debt). must_rest o moment) own_debt ∙ ap (λ (z : Seat). must_rest (debt_of z.session past) moment) (sym d.seat)
            ∙ ap (must_rest (debt_of d.turn.seat.session past)) (sym d.is_turn.0) ∙ too_much);
        idle = d.idle;
        refuses = subst (λ (z : Seat). (other : Listening) → slice_get places z.place ≡ Some other → Refuses other (before_in z.session all) (answers_in z.session past) d.turn.answers d.turn.refused) (sym d.seat)
            (at_place places x.place at is_at (λ (o : Listening). Refuses o (before_in x.number all) (answers_in x.number past) d.turn.answers d.turn.refused)
            (subst (λ (b : RateMoments). Refuses at b (answers_in x.number past) d.turn.answers d.turn.refused) before_is d.refuses));
        passive = d.passive;
        admits = subst (λ (z : Seat). (other : Listening) → slice_get places z.place ≡ Some other → Admits other (before_in z.session all) (answers_in z.session past) d.turn.answers d.turn.admitted) (sym d.seat)
            (at_place places x.place at is_at (λ (o : Listening). Admits o (before_in x.number all) (answers_in x.number past) d.turn.answers d.turn.admitted)
            (subst (λ (b : RateMoments). Admits at b (answers_in x.number past) d.turn.answers d.turn.admitted) before_is d.admits));
      }

      -- how it begins and what it leaves
      begun_at : IsBegunAt places past d.turn (phase_of x).seat
      begun_at = record {
        begins = λ b is. at_place places x.place at is_at (λ (o : Listening). Begins o.site found all b)
            (subst (Begins at.site found all) (sym (begun_some (begins_in x.number past) begins_by (phase_of x).linked new own_begun b (sym d.begun ∙ is)))
            (chosen_begins (has_rates at.site) at.site past d.turn found (kept_at store x.place x.client.address) refl (λ rated. keeps.stored x.place x.client.address at is_at rated)
            (begun_free at.site (phase_of x).seat store stays_on (now_before new) b (phase_of x).linked new k.begins (sym d.begun ∙ is))));
        first = λ b is. begun_first at (now_before new) (before_in x.number past) b most (answers_in x.number past) (lines_in x.number past) (phase_of x).linked new stood (sym d.begun ∙ is);
        met = d.met;
        takes = λ other there none. ap history_of answers_now
            ∙ nothing_taken at (now_before new) most (phase_of x).seat.client (answers_in x.number past ++ d.turn.answers) (lines_in x.number past ++ d.turn.lines) new d.turn.end d.leaves
            (not_begun (begins_in x.number past) begins_by at.site (phase_of x).seat store stays_on (phase_of x).linked new own_begun k.begins (sym begins_now ∙ none));
        leaves = λ e is. at_place places x.place at is_at (λ (o : Listening). Leaves o.site found (begins_in x.number all) (answers_in x.number all) d.turn.left)
            (subst (λ (es : List Entry). Leaves at.site found (begins_in x.number all) es d.turn.left) (sym answers_now)
            (leaves_as at (now_before new) found (answers_in x.number past ++ d.turn.answers) new d.turn.left (begins_in x.number all) (ended_left d.turn.end e is d.left) begun_now once));
      }

      begun_it : IsBegun places past d.turn
      begun_it = begun_there places past d.turn (subst (IsBegunAt places past d.turn) (sym d.seat) begun_at)

      -- its commands among those of its place
      tallied_it : (tallies : List Tally) → x.place < 256 → IsTallied tallies past →
          IsTallied (set tallies x.place (tally_with (tally_at tallies x.place) (counts_at (phase_of x).linked) (counts_at new))) all
      tallied_it tallies placed h =
          subst (λ (z : Seat). IsTallied (set tallies z.place (tally_with (tally_at tallies z.place) (counts_at (phase_of x).linked) (counts_at new))) all) d.seat
          (tallied_more tallies past d.turn (counts_at (phase_of x).linked) (counts_at new) (subst (λ (z : Seat). z.place < 256) (sym d.seat) placed) d.counts.0 d.counts.1 h)

      module _ (within : AreWithin places) (again_eq : again ≡ must_end places (seats_of (map phase_of xs)) (phase_of x).seat) (tallies tallies' : List Tally) (placed : x.place < 256)
          (with_turn : tallies' ≡ set tallies x.place (tally_with (tally_at tallies x.place) (counts_at (phase_of x).linked) (counts_at new))) where
        again_of : IsAgainOf places (seats_of (map phase_of xs)) d.turn
        again_of = subst (λ (z : Seat). IsAgain (must_end places (seats_of (map phase_of xs)) z) d.turn) (sym d.seat) (subst (λ (b : Bool). IsAgain b d.turn) again_eq d.again_is)

        pub step_stays : y ≡ record x { linked = y.linked } → stays_on ≡ true →
            StepDoes places most store' next moment past index told told' log log' tallies tallies' (map phase_of xs) (map phase_of (set xs index y)) stays_on
        step_stays same on =
            let none : d.turn.end ≡ None = none_of d.turn.end (d.ended ∙ ap not on) in
            let stored : IsStored places store' all = stored_stays places within past d.turn x.number moment d.is_turn.0 store store' keeps.stored table.fits k.lends none in
            record {
              before = s.before;
              it = phase_of x;
              after = s.after;
              left = record { seat = (phase_of x).seat; linked = new } ∷ [];
              was = s.was;
              at = s.at;
              is = with_y y same;
              turn = d.turn;
              seat = d.seat;
              is_turn = d.is_turn;
              again = again_of;
              tells = d.tells;
              added = d.added;
              stay = ap (λ z. z ∷ []) (sym d.seat) ∙ sym (stays_by d.turn None none);
              count = ap (λ (b : Bool). if b then 1 else 0) (sym on);
              keeps = subst (Keeps places most store' next all) (sym (with_y y same))
                  (subst (λ z. IsBetween 0 next (with_seat z) → Keeps places most store next past (with_seat z) → BegunAs new (begins_in z.session all) → LeavesAt z None →
                  Keeps places most store' next all (s.before ++ record { seat = z; linked = new } ∷ s.after)) d.seat
                  (λ o kk b l. keeps_stay places most store next past d.turn s.before s.after (phase_of x).linked new o kk measured_it begun_it store' stored b
                  (d.owes none ∙ ap (λ n. debt_with (debt_at (phase_of x).linked) n d.turn.refused) (sym d.is_turn.0)) none l) ordered keeps_it begun_now
                  (leaves_at None none));
              tallied = λ h. subst (λ (ts : List Tally). IsTallied ts all) (sym with_turn) (tallied_it tallies placed h);
            }

        pub step_ends : (zs : List Served) → zs ≡ remove (set xs index y) index → stays_on ≡ false → (store'' : List KeptValue) → KeepsOthers x.place x.client.address store' store'' →
            IsGivenBack at.site moment new (kept_at store' x.place x.client.address) (kept_at store'' x.place x.client.address) →
            StepDoes places most store'' next moment past index told told' log log' tallies tallies' (map phase_of xs) (map phase_of zs) stays_on
        step_ends zs gone off store'' kept back =
            let some : (e : SessionEnd) × (d.turn.end ≡ Some e) = some_of d.turn.end (d.ended ∙ ap not off) in
            let stored : IsStored places store'' all = stored_ends places within past d.turn x.number moment d.is_turn.0 store store' keeps.stored table.fits k.lends (phase_of x).seat d.seat some.0 some.1 at is_at
            store'' kept (now_before new) (answers_in x.number past ++ d.turn.answers) new (ended_left d.turn.end some.0 some.1 d.left) back in
            record {
              before = s.before;
              it = phase_of x;
              after = s.after;
              left = [];
              was = s.was;
              at = s.at;
              is = ap (map phase_of) gone ∙ s.out y;
              turn = d.turn;
              seat = d.seat;
              is_turn = d.is_turn;
              again = again_of;
              tells = d.tells;
              added = d.added;
              stay = sym (stays_by d.turn (Some some.0) some.1);
              count = ap (λ (b : Bool). if b then 1 else 0) (sym off);
              keeps = subst (Keeps places most store'' next all) (sym (ap (map phase_of) gone ∙ s.out y))
                  (subst (λ z. IsBetween 0 next (with_seat z) → Keeps places most store next past (with_seat z) → LeavesAt z (Some some.0) → Keeps places most store'' next all (s.before ++ s.after)) d.seat
                  (λ o kk l. keeps_end places most store next past d.turn s.before s.after (phase_of x).linked new o kk measured_it begun_it store'' stored some.0 some.1 l) ordered keeps_it
                  (leaves_at (Some some.0) some.1));
              tallied = λ h. subst (λ (ts : List Tally). IsTallied ts all) (sym with_turn) (tallied_it tallies placed h);
            }

pub on_err : {A E : Type 0} (r : Result A E) (P : Type 0) → P → OnErr r P
on_err (Ok a) P p = tt
on_err (Err e) P p = p

-- a session that ended was taken out, and gave back what it had
module _ {xs : List Served} {index : ℕ} {x : Served} (s : PhasesAt xs index x) {places : List Listening} {most next : ℕ} {serves : ℕ → Bool} {store : List KeptValue}
    (table : IsTable places most store serves next (map phase_of xs)) {at : Listening} (is_at : slice_get places x.place ≡ Some at) {moment : ℕ} {stays_on : Bool} {store' : List KeptValue} (y : Served)
    (k : TurnKeeps at.site (phase_of x).seat moment store store' stays_on (phase_of x).linked (phase_of y).linked) where
  -- what it is lent
  pub its_lent : HasLent at.site store' (phase_of x).seat (phase_of y).linked
  its_lent = k.lent ((may_go s table).lent at is_at)

  pub its_lent_at : (other : Listening) → slice_get places x.place ≡ Some other → HasLent other.site store' (phase_of x).seat (phase_of y).linked
  its_lent_at = at_place places x.place at is_at (λ (o : Listening). HasLent o.site store' (phase_of x).seat (phase_of y).linked) its_lent

  pub fits_now : Fits places store'
  fits_now = fits_on places x.number moment store store' k.lends table.fits

  pub lasts_now : Lasts s table store'
  lasts_now q o other at' is' h = lent_on at'.site x.number moment store store' k.lends q o h

  module _ (r : Served) (gone : r ≡ record x { linked = y.linked }) (store'' : List KeptValue) (others_r : KeepsOthers r.place r.client.address store' store'')
      (back_r : IsGivenBack at.site moment (phase_of r).linked (kept_at store' r.place r.client.address) (kept_at store'' r.place r.client.address)) where
    pub others_now : KeepsOthers x.place x.client.address store' store''
    others_now = subst (λ (z : Served). KeepsOthers z.place z.client.address store' store'') gone others_r

    pub back_now : IsGivenBack at.site moment (phase_of y).linked (kept_at store' x.place x.client.address) (kept_at store'' x.place x.client.address)
    back_now = subst (λ (z : Served). IsGivenBack at.site moment (phase_of z).linked (kept_at store' z.place z.client.address) (kept_at store'' z.place z.client.address)) gone back_r

    pub fits_then : Fits places store''
    fits_then = fits_ends places (phase_of x).seat at is_at moment store' store'' others_now (phase_of y).linked back_now fits_now

    pub lasts_then : Lasts s table store''
    lasts_then q o other at' is' h = lent_ends places (phase_of x).seat at is_at moment store' store'' others_now (phase_of y).linked back_now its_lent q o other at' is' (lasts_now q o other at' is' h)
