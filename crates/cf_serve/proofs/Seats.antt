-- What a round is to one session, by whether its client came again, whether it was ready and what its turn did.
use Rattle.std.proofs.Common.{List, None, Option, Some, ap, arith, inl, inr, refl, subst, sym, true, false, ℕ, ◌++◌, ◌-◌, ◌∙◌, ◌∷◌, ◌≡◌, map, []}
use Rattle.std.specs.Prelude.{Bool, is_some, not, option_map}
use Rattle.std.proofs.lemmas.List.{append-nil}
use Rattle.cf_lane.specs.Caller.{RateMoments}
use Rattle.cf_lane.specs.Handled.{MayHaveMore}
use Rattle.cf_lane.specs.Judged.{Judged}
use Rattle.cf_lane.specs.Log.{with_lines}
use Rattle.cf_lane.specs.Ring.{RingValue}
use Rattle.cf_links.specs.Links.{Left, LinksEntry, Of, Ready, SessionTold}
use Rattle.cf_outside.specs.Pair.{Entry}
use Rattle.cf_policy.specs.Site.{SiteValue}
use Rattle.cf_relay.proofs.Lined.{lines_none}
use Rattle.cf_relay.specs.Answers.{client_of, history_of}
use Rattle.cf_relay.specs.Stands.{IsCounted}
use Rattle.cf_relay.specs.Turn.{AreItemsOf}
use Rattle.cf_serve.proofs.Missing.{begins_line, last_fails}
use Rattle.cf_serve.proofs.Owing.{admits_by, admits_none, leaves_knows, leaves_left, no_items, refuses_by, refuses_none, stands_knows}
use Rattle.cf_serve.proofs.Reaching.{told_as}
use Rattle.cf_serve.proofs.Rounding.{more_none, more_twice}
use Rattle.cf_serve.proofs.Relayed.{stands_session}
use Rattle.cf_serve.specs.Failing.{MissesSeat, MissesTurn, TakesNone}
use Rattle.cf_serve.specs.Debt.{must_rest}
use Rattle.cf_serve.specs.Lending.{KeptValue}
use Rattle.cf_serve.specs.Phase.{BeginsBy, BeginsWith, LinkedValue, MayTurn, Owes, Phase, SeatDoes, StandsAs, TurnDoes, TurnLeaves, admitted_at, again_line, begun_by, debt_at}
use Rattle.cf_serve.specs.Phase.{refused_at, seat_at}
use Rattle.cf_serve.specs.Rounds.{Seat, left_by}
use Rattle.cf_serve.specs.Session.{EndsSo, Listening}
use Rattle.cf_serve.specs.declared.end.SessionEnd.{SessionEnd}
use Rattle.cf_serve.specs.declared.end.SessionEnd.TheVariants as end

abbrev more : List LinksEntry → Option (List LinksEntry) → Option (List LinksEntry)
more xs told = option_map (λ es. es ++ xs) told

-- what was told before a turn, in it, and behind it
told_all : (k : ℕ) (told ready turned after : Option (List LinksEntry)) (answers : List Entry) (left : List LinksEntry) →
    ready ≡ more (Ready k ∷ []) told → turned ≡ more (map (Of k) answers) ready → after ≡ more left turned →
    after ≡ more (Ready k ∷ (map (Of k) answers ++ left)) told
told_all k told ready turned after answers left p q r = simp (r, q, p, more_twice)

-- the items of a session that stands, and its numbers
stands_items : (at : Listening) (before : RateMoments) (most : ℕ) (es : List Entry) (own : List (List ℕ)) (o : Option LinkedValue) → StandsAs at before most es own o →
    (js : List Judged) × (AreItemsOf at.site before es js × IsCounted js (admitted_at o) (refused_at o))
stands_items at before most es own None h = ([], (no_items at before es (ap history_of h.0), record { admitted = refl; refused = refl }))
stands_items at before most es own (Some v) h =
    let k = stands_knows at before most es own (Some v) h in
    (k.0, (k.1.0, k.1.1.0))

takes_none : (at : Listening) (before : RateMoments) (most : ℕ) (es : List Entry) (own : List (List ℕ)) (o : Option LinkedValue) → StandsAs at before most es own o → TakesNone o es
takes_none at before most es own None h = ap history_of h.0
takes_none at before most es own (Some v) h = tt

-- the client that a relay met as it began
met_as : (at : Listening) (before : RateMoments) (most : ℕ) (seat : Seat) (es : List Entry) (own : List (List ℕ)) (answers : List Entry) (own' : List (List ℕ)) (site : SiteValue) (store : List KeptValue)
    (old new : Option LinkedValue) (e : Option SessionEnd) (b : RateMoments) → StandsAs at before most es own old → TurnLeaves at before most seat.client (es ++ answers) own' new e →
    (place : ℕ) → BeginsBy site (seat_at seat.session place seat.client) store (not (is_some e)) old new → begun_by before old new ≡ Some b → (client_of answers).address ≡ seat.client.address
met_as at before most seat es own answers own' site store None None e b stands leaves place by some = cc
met_as at before most seat es own answers own' site store None (Some v) None b stands leaves place by some =
    ap (λ (xs : List Entry). (client_of (xs ++ answers)).address) (sym stands.0) ∙ ap (λ (xs : List Entry). (client_of xs).address) leaves.split ∙ by.1.0
met_as at before most seat es own answers own' site store None (Some v) (Some e) b stands leaves place by some = let stays : false ≡ true = by.0 in cc
met_as at before most seat es own answers own' site store (Some u) new e b stands leaves place by some = cc

module _ (at : Listening) (before found : RateMoments) (most moment : ℕ) (es : List Entry) (own : List (List ℕ)) (told : Option (List LinksEntry)) (log : Option (List (List ℕ))) where
  none_begun : (o : Option LinkedValue) → begun_by before o o ≡ None
  none_begun None = refl
  none_begun (Some v) = refl

  -- a session that rests, or is not ready
  pub rests : (p : Phase) (after : Option (List LinksEntry)) → StandsAs at before most es own p.linked → after ≡ told →
      SeatDoes at false before found most moment es own told after log log p p true
  rests p after stands same = record {
    turn = record { seat = p.seat; moment = moment; ready = false; answers = []; lines = []; admitted = 0; refused = 0; end = None; begun = None; left = found };
    seat = refl;
    is_turn = (refl, λ idle. (refl, (refl, inr (refl, refl))));
    again_is = λ is. cc;
    rests = λ too_much. refl;
    idle = λ idle. refl;
    refuses = refuses_none at before most es own p.linked stands;
    passive = λ idle. refl;
    admits = admits_none at before most es own p.linked stands;
    counts = (omega arith, omega arith);
    owes = λ none. refl;
    tells = same ∙ more_none told;
    added = lines_none log;
    ended = refl;
    leaves = simp append-nil stands;
    begun = sym (none_begun p.linked);
    met = λ b is. cc;
    left = inl refl;
  }

  -- one whose client came again
  module _ (p : Phase) (after : Option (List LinksEntry)) (log' : Option (List (List ℕ))) (stands : StandsAs at before most es own p.linked) (may : MayTurn at most p.linked) where
    abbrev its_line : List ℕ
    its_line = again_line at.site p.seat.client moment p.linked

    ends_again : EndsSo at before most p.seat.client es (own ++ its_line ∷ []) end.Again
    ends_again =
        let k = stands_items at before most es own p.linked stands in
        record {
          stood = own;
          stands = stands_session at before most es own p.linked stands may;
          judged = k.0;
          are_items = k.1.0;
          admitted = admitted_at p.linked;
          refused = refused_at p.linked;
          counts = k.1.1;
          moment = moment;
          own_is = refl;
        }

    pub ends_over : after ≡ more (Left p.seat.session ∷ []) told → log' ≡ with_lines log (its_line ∷ []) →
        SeatDoes at true before found most moment es own told after log log' p p false
    ends_over left added =
        let knows = stands_knows at before most es own p.linked stands in
        let l = leaves_left at before found es p.linked knows in
        record {
          turn = record {
            seat = p.seat;
            moment = moment;
            ready = false;
            answers = [];
            lines = its_line ∷ [];
            admitted = 0;
            refused = 0;
            end = Some end.Again;
            begun = None;
            left = l.0;
          };
          seat = refl;
          is_turn = (refl, λ idle. (refl, (refl, inl refl)));
          again_is = (refl, refl);
          rests = λ too_much. refl;
          idle = λ idle. refl;
          refuses = refuses_none at before most es own p.linked stands;
          passive = λ idle. refl;
          admits = admits_none at before most es own p.linked stands;
          counts = (omega arith, omega arith);
          owes = λ none. cc;
          tells = left;
          added = added;
          ended = refl;
          leaves = simp append-nil (ends_again, knows);
          begun = sym (none_begun p.linked);
          met = λ b is. cc;
          left = inr (simp append-nil l.1);
        }

    pub missed_over : (part : List ℕ) → MayHaveMore (its_line ∷ []) log log' part → after ≡ told →
        MissesSeat at true before most moment es own told after log log' part p.seat (debt_at p.linked) p.linked
    missed_over part may_have same =
        let w = begins_line its_line log log' part may_have in
        record {
          turn = record { seat = p.seat; moment = moment; ready = false; answers = []; lines = w.0; admitted = 0; refused = 0; end = None; begun = None; left = found };
          its = refl;
          its_moment = refl;
          fails_in = (refl, refl);
          no_end = refl;
          no_begin = refl;
          tells = same ∙ more_none told;
          added = w.1.0;
          fails = simp append-nil (last_fails at before most p.seat.client es own its_line w.0 part end.Again ends_again w.1.1);
          takes = simp append-nil (takes_none at before most es own p.linked stands);
        }

  module _ (seat : Seat) (old new : Option LinkedValue) (ready turned : Option (List LinksEntry)) (log' : Option (List (List ℕ)))
      (is_ready : ready ≡ more (Ready seat.session ∷ []) told) (stands : StandsAs at before most es own old) (no_rest : must_rest (debt_at old) moment ≡ false) where
    module _ (left : Option (List (List RingValue))) (begins : BeginsWith left before old new) (site : SiteValue) (place : ℕ) (store : List KeptValue) where
      -- one that had its turn
      worked : (q : Phase) (after : Option (List LinksEntry)) (e : Option SessionEnd) (stays : Bool) → BeginsBy site (seat_at seat.session place seat.client) store (not (is_some e)) old new → q ≡ record { seat = seat; linked = new } → after ≡ more (left_by seat.session e) turned →
          is_some e ≡ not stays → (e ≡ Some end.Again → ⊥) → (e ≡ None → Owes moment old new) →
          TurnDoes at left most seat.client (told_as seat.session ready) (told_as seat.session turned) log log' old new e →
          SeatDoes at false before found most moment es own told after log log' (record { seat = seat; linked = old }) q stays
      worked q after e stays by is left_is ends not_again owes does =
          let x = does.leaves before es own begins stands in
          let knows = leaves_knows at before most seat.client (es ++ does.answers) (own ++ x.0) new e x.1.1 in
          let l = leaves_left at before found (es ++ does.answers) new knows in
          record {
            turn = record {
              seat = seat;
              moment = moment;
              ready = true;
              answers = does.answers;
              lines = x.0;
              admitted = admitted_at new - admitted_at old;
              refused = refused_at new - refused_at old;
              end = e;
              begun = begun_by before old new;
              left = l.0;
            };
            seat = refl;
            is_turn = (refl, λ idle. cc);
            again_is = not_again;
            rests = λ too_much. absurd (let both : true ≡ false = sym too_much ∙ no_rest in cc);
            idle = λ idle. cc;
            refuses = refuses_by at before most seat.client es does.answers own (own ++ x.0) old new e stands x.1.1;
            passive = λ idle. cc;
            admits = admits_by at before most seat.client es does.answers own (own ++ x.0) old new e stands x.1.1;
            counts = (
              ap (λ (p : Phase). admitted_at p.linked - admitted_at old) (sym is),
              ap (λ (p : Phase). refused_at p.linked - refused_at old) (sym is),
            );
            owes = λ none. ap (λ (p : Phase). debt_at p.linked) is ∙ owes none;
            tells = told_all seat.session told ready turned after does.answers (left_by seat.session e) is_ready (ap (λ (t : SessionTold). t.list) does.tells) left_is;
            added = x.1.0;
            ended = ends;
            leaves = rw is x.1.1;
            begun = ap (λ (p : Phase). begun_by before old p.linked) (sym is);
            met = λ b some. met_as at before most seat es own does.answers (own ++ x.0) site store old new e b stands x.1.1 place by some;
            left = inr (rw is l.1);
          }

      pub stays_on : (q : Phase) (e : Option SessionEnd) → BeginsBy site (seat_at seat.session place seat.client) store (not (is_some e)) old new → q ≡ record { seat = seat; linked = new } → e ≡ None → (e ≡ None → Owes moment old new) →
          TurnDoes at left most seat.client (told_as seat.session ready) (told_as seat.session turned) log log' old new e →
          SeatDoes at false before found most moment es own told turned log log' (record { seat = seat; linked = old }) q true
      stays_on q e by is none owes does = worked q turned None true (subst (λ (o : Option SessionEnd). BeginsBy site (seat_at seat.session place seat.client) store (not (is_some o)) old new) none by) is (more_none turned) refl (λ same. cc) (λ same. owes none)
          (subst (TurnDoes at left most seat.client (told_as seat.session ready) (told_as seat.session turned) log log' old new) none does)

      pub leaves_now : (q : Phase) (after : Option (List LinksEntry)) (e : Option SessionEnd) (last : SessionEnd) → BeginsBy site (seat_at seat.session place seat.client) store (not (is_some e)) old new → q ≡ record { seat = seat; linked = new } → e ≡ Some last →
          after ≡ more (Left seat.session ∷ []) turned → (e ≡ Some end.Again → ⊥) →
          TurnDoes at left most seat.client (told_as seat.session ready) (told_as seat.session turned) log log' old new e →
          SeatDoes at false before found most moment es own told after log log' (record { seat = seat; linked = old }) q false
      leaves_now q after e last by is some left_is not_again does = worked q after (Some last) false (subst (λ (o : Option SessionEnd). BeginsBy site (seat_at seat.session place seat.client) store (not (is_some o)) old new) some by) is left_is refl (λ same. not_again (some ∙ same)) (λ none. cc)
          (subst (TurnDoes at left most seat.client (told_as seat.session ready) (told_as seat.session turned) log log' old new) some does)

    -- one whose line failed
    pub missed : (part : List ℕ) → MissesTurn at most seat.client (told_as seat.session ready) (told_as seat.session turned) log log' part old →
        MissesSeat at false before most moment es own told turned log log' part seat (debt_at old) old
    missed part does =
        let x = does.fails before es own stands in
        record {
          turn = record { seat = seat; moment = moment; ready = true; answers = does.answers; lines = x.0; admitted = 0; refused = 0; end = None; begun = None; left = found };
          its = refl;
          its_moment = refl;
          fails_in = (refl, no_rest);
          no_end = refl;
          no_begin = refl;
          tells = told_all seat.session told ready turned turned does.answers [] is_ready (ap (λ (t : SessionTold). t.list) does.tells) (more_none turned);
          added = x.1.0;
          fails = x.1.1.0;
          takes = x.1.1.1;
        }
