-- What the two halves of an event do to the sessions of a client and a site, and what these put out.
use Rattle.std.proofs.Common.{◌≡◌, ℕ, ◌+◌, ◌<◌, ◌≤◌, ◌&&◌, Bool, true, false, not, List, [], ◌∷◌, ◌++◌, cond, Option, Some, None, Result, refl, sym, ap, ◌∙◌, subst, append_assoc, arith, filter, slice_get}
use Rattle.cf_isolation.proofs.Common.{AllByRecursion, AreTicks, Asset, Begun, Dropped, Endpoint, Flow, GoesOnAt, HasEvents, IsBeginning, IsPacket, IsTick, NoRoom, NoSession, PacketRefusal, PacketValue, Received, ReceivesRecord, Session, SessionEvent, Side, Went, and_parts, append-nil, begins_theirs, born_at, client_of, filter-append, goes_to_theirs, is_between, is_expired, is_flow_of, is_theirs, kept, leaves, left_by_packet, remove, same_endpoint, same_is, session_at, stays, ticked, ticks_of, with_event_at, with_events}
use Rattle.std.specs.Option.{is_some}
use Rattle.cf_run.specs.Table.{place_of, without}
use Rattle.cf_run.specs.Trace.{GoesOnWith, after_received, behind}
use Rattle.cf_isolation.proofs.Lists.{all_map}
use Rattle.cf_isolation.proofs.Output.{Output}
use Rattle.cf_isolation.proofs.Order.{IsWithin, Moves, born, comes, grows, stays_so}
use Rattle.cf_isolation.proofs.Packets.{uncut}
use Rattle.cf_isolation.proofs.Tables.{receives}
use Rattle.cf_run.proofs.Pairs.{filter_swap, next_are, ticks_are}
use Rattle.cf_isolation.proofs.Theirs.{filter_one, gives_none, gives_other, gives_theirs, none_changes, other_changes, own_changes}

pub data AtMostOne (ss : List Session) : Type 0 where
  none_there : ss ≡ [] → AtMostOne ss
  one_there : (s : Session) → ss ≡ s ∷ [] → AtMostOne ss

module _ {X : Type 0} (o : Output X) where
  abbrev pub own_of : Session → List X
  own_of s = o.own s.flow s.events

  abbrev pub AllAt : ℕ → List X → Type 0
  AllAt m xs = AllByRecursion (λ x. o.at x ≡ m) xs

  at_within : (m low high : ℕ) (xs : List X) → low ≤ m → m < high → AllAt m xs → AllByRecursion (IsWithin o.at own_of low high) xs
  at_within m low high xs a b h = all_map (λ x. o.at x ≡ m) (IsWithin o.at own_of low high) (λ x g. (omega (arith, g, a), omega (arith, g, b))) xs h

  abbrev MovesTo : List Session → List Session → List X → ℕ → ℕ → Type 0
  MovesTo before after more until now = Moves o.at own_of before after more until now

  module _ (limit : ℕ) (client site : Endpoint) (tick : ℕ) where
    abbrev mine : List Session → List Session
    mine ss = filter (is_between client site) ss

    -- ---- whom the packet finds

    abbrev pub ticked_one : Session → SessionEvent → Session
    ticked_one s t = record s { events = t ∷ s.events }

    pub data Here (found : List Session) : Type 0 where
      nobody : mine found ≡ [] → Here found
      going : (s : Session) (t : SessionEvent) → mine found ≡ ticked_one s t ∷ [] → HasEvents limit s.flow s.events → IsTick s.flow s.events tick t → t.cut ≡ None → Here found

    -- what a session put out, its first half included
    ticked_own : (f : Flow) (es : List SessionEvent) (t : SessionEvent) → HasEvents limit f es → IsTick f es tick t → o.own f (t ∷ es) ≡ o.own f es ++ o.first f t
    ticked_own f [] t h is = absurd h
    ticked_own f (d ∷ es) t h is =
        o.own_more f t (d ∷ es) ∙ ap (λ xs. o.own f (d ∷ es) ++ (o.first f t ++ xs)) (o.no_second f d es tick t is) ∙ ap (λ xs. o.own f (d ∷ es) ++ xs) (append-nil (o.first f t))

    ticked_born : (f : Flow) (es : List SessionEvent) (t : SessionEvent) → HasEvents limit f es → born_at (t ∷ es) ≡ born_at es
    ticked_born f [] t h = absurd h
    ticked_born f (d ∷ es) t h = refl

    -- and the second half with it
    went_own : (f : Flow) (es : List SessionEvent) (t e : SessionEvent) (s : Side) (p : PacketValue) → HasEvents limit f es → IsTick f es tick t → t.cut ≡ None → IsPacket f limit es t s p e →
        o.own f (e ∷ es) ≡ o.own f (t ∷ es) ++ o.second f es e
    went_own f es t e s p h is none on =
        o.own_more f e es ∙ ap (λ xs. o.own f es ++ (xs ++ o.second f es e)) (o.same_first f limit tick es t s p e is none on) ∙ sym (append_assoc (o.own f es) (o.first f t) (o.second f es e))
        ∙ ap (λ xs. xs ++ o.second f es e) (sym (ticked_own f es t h is))

    -- ---- the first half

    pub record First (table : List Session) (ticks : List SessionEvent) (c : List X) (until : ℕ) : Type 0 where
      pub left : List Session
      pub expired : List Session
      pub cut : List Session
      pub expired_is : mine (filter (λ s. is_expired s.flow s.events tick) table) ≡ expired
      pub cut_is : mine (filter leaves (with_events (kept tick table) ticks)) ≡ cut
      pub left_is : expired ++ cut ≡ left
      pub here : Here (ticked ticks tick table)
      pub moves : (past : List Session) → MovesTo (past ++ mine table) (past ++ (left ++ mine (ticked ticks tick table))) c until (tick + 1)

    module _ (table : List Session) (ticks : List SessionEvent) (are : AreTicks tick (kept tick table) ticks) (c : List X) (until : ℕ) (soon : until ≤ tick) where
      abbrev exp : Session → Bool
      exp s = is_expired s.flow s.events tick

      abbrev U : List SessionEvent
      U = ticks_of client site (kept tick table) ticks

      expired_mine : mine (filter exp table) ≡ filter exp (mine table)
      expired_mine = filter_swap (is_between client site) exp table

      kept_mine : mine (kept tick table) ≡ filter (λ s. not (exp s)) (mine table)
      kept_mine = filter_swap (is_between client site) (λ s. not (exp s)) table

      next_mine : mine (with_events (kept tick table) ticks) ≡ with_events (mine (kept tick table)) U
      next_mine = next_are client site tick (kept tick table) ticks are

      cut_mine : mine (filter leaves (with_events (kept tick table) ticks)) ≡ filter leaves (with_events (mine (kept tick table)) U)
      cut_mine = filter_swap (is_between client site) leaves (with_events (kept tick table) ticks) ∙ ap (filter leaves) next_mine

      found_mine : mine (ticked ticks tick table) ≡ filter stays (with_events (mine (kept tick table)) U)
      found_mine = filter_swap (is_between client site) stays (with_events (kept tick table) ticks) ∙ ap (filter stays) next_mine

      -- none of theirs has a first half
      nobody_ticks : (one : List Session) → mine table ≡ one → filter exp one ≡ one → filter (λ s. not (exp s)) one ≡ [] → c ≡ [] → First table ticks c until
      nobody_ticks one is gone rest empty =
          let kept_none : mine (kept tick table) ≡ [] = kept_mine ∙ ap (filter (λ s. not (exp s))) is ∙ rest in
          let found_none : mine (ticked ticks tick table) ≡ [] = found_mine ∙ ap (λ l. filter stays (with_events l U)) kept_none in
          record {
            left = one;
            expired = one;
            cut = [];
            expired_is = expired_mine ∙ ap (filter exp) is ∙ gone;
            cut_is = cut_mine ∙ ap (λ l. filter leaves (with_events l U)) kept_none;
            left_is = append-nil one;
            here = nobody found_none;
            moves = λ past.
                let same : past ++ (one ++ mine (ticked ticks tick table)) ≡ past ++ mine table =
                ap (λ l. past ++ (one ++ l)) found_none ∙ ap (λ l. past ++ l) (append-nil one) ∙ ap (λ l. past ++ l) (sym is) in
                subst (λ l. MovesTo (past ++ mine table) l c until (tick + 1)) (sym same)
                (subst (λ xs. MovesTo (past ++ mine table) (past ++ mine table) xs until (tick + 1)) (sym empty) (stays_so o.at own_of (past ++ mine table) until (tick + 1) (omega (arith, soon))));
          }

      -- their session has one
      module _ (s : Session) (is : mine table ≡ s ∷ []) (right : HasEvents limit s.flow s.events) (lives : exp s ≡ false) (t : SessionEvent) (one : U ≡ t ∷ []) (tick_is : IsTick s.flow s.events tick t)
          (c_is : c ≡ o.first s.flow t) (c_at : AllAt tick c) where
        kept_one : mine (kept tick table) ≡ s ∷ []
        kept_one = kept_mine ∙ ap (filter (λ x. not (exp x))) is ∙ filter_one (λ x. not (exp x)) true s (ap not lives)

        next_one : with_events (mine (kept tick table)) U ≡ ticked_one s t ∷ []
        next_one = ap (λ l. with_events l U) kept_one ∙ ap (with_events (s ∷ [])) one

        expired_none : mine (filter exp table) ≡ []
        expired_none = expired_mine ∙ ap (filter exp) is ∙ filter_one exp false s lives

        moves_one : (past : List Session) → MovesTo (past ++ mine table) (past ++ ticked_one s t ∷ []) c until (tick + 1)
        moves_one past =
            subst (λ l. MovesTo (past ++ l) (past ++ ticked_one s t ∷ []) c until (tick + 1)) (sym is)
            (grows o.at own_of past s (ticked_one s t) c until (tick + 1) (ticked_born s.flow s.events t right) (ticked_own s.flow s.events t right tick_is ∙ ap (λ xs. o.own s.flow s.events ++ xs) (sym c_is))
            (at_within tick until (tick + 1) c soon (omega arith) c_at) (omega (arith, soon)))

        by_cut : (b : Bool) → stays (ticked_one s t) ≡ b → First table ticks c until
        by_cut true e =
            let found_one : mine (ticked ticks tick table) ≡ ticked_one s t ∷ [] = found_mine ∙ ap (filter stays) next_one ∙ filter_one stays true (ticked_one s t) e in
            record {
              left = [];
              expired = [];
              cut = [];
              expired_is = expired_none;
              cut_is = cut_mine ∙ ap (filter leaves) next_one ∙ filter_one leaves false (ticked_one s t) (ap not e);
              left_is = refl;
              here = going s t found_one right tick_is (uncut t.cut e);
              moves = λ past. subst (λ l. MovesTo (past ++ mine table) (past ++ l) c until (tick + 1)) (sym found_one) (moves_one past);
            }
        by_cut false e =
            let found_none : mine (ticked ticks tick table) ≡ [] = found_mine ∙ ap (filter stays) next_one ∙ filter_one stays false (ticked_one s t) e in
            record {
              left = ticked_one s t ∷ [];
              expired = [];
              cut = ticked_one s t ∷ [];
              expired_is = expired_none;
              cut_is = cut_mine ∙ ap (filter leaves) next_one ∙ filter_one leaves true (ticked_one s t) (ap not e);
              left_is = refl;
              here = nobody found_none;
              moves = λ past. subst (λ l. MovesTo (past ++ mine table) (past ++ ticked_one s t ∷ l) c until (tick + 1)) (sym found_none) (moves_one past);
            }

      mine_are : AreTicks tick (mine (kept tick table)) U
      mine_are = ticks_are client site tick (kept tick table) ticks are

      none_ticks : mine (kept tick table) ≡ [] → U ≡ []
      none_ticks h = subst (λ l. AreTicks tick l U) h mine_are

      -- what they put out is that of their first halves
      abbrev pub IsOfTicks : Type 0
      IsOfTicks = c ≡ o.ticking (mine (kept tick table)) U

      of_none : IsOfTicks → mine (kept tick table) ≡ [] → c ≡ []
      of_none of is = of ∙ ap (λ l. o.ticking l U) is ∙ ap (o.ticking []) (none_ticks is) ∙ o.ticking_none

      one_tick : (s : Session) (us : List SessionEvent) → AreTicks tick (s ∷ []) us → (t : SessionEvent) × (us ≡ t ∷ []) × IsTick s.flow s.events tick t
      one_tick s [] h = absurd h
      one_tick s (t ∷ us) h = (t, ap (λ l. t ∷ l) h.1, h.0)

      by_expiry : (s : Session) → mine table ≡ s ∷ [] → HasEvents limit s.flow s.events → IsOfTicks → AllAt tick c → (b : Bool) → exp s ≡ b → First table ticks c until
      by_expiry s is right of c_at true e =
          let none : filter (λ x. not (exp x)) (s ∷ []) ≡ [] = filter_one (λ x. not (exp x)) false s (ap not e) in
          let kept_none = kept_mine ∙ ap (filter (λ x. not (exp x))) is ∙ none in
          nobody_ticks (s ∷ []) is (filter_one exp true s e) none (of_none of kept_none)
      by_expiry s is right of c_at false e =
          let kept_is = kept_mine ∙ ap (filter (λ x. not (exp x))) is ∙ filter_one (λ x. not (exp x)) true s (ap not e) in
          let ticked = one_tick s U (subst (λ l. AreTicks tick l U) kept_is mine_are) in
          by_cut s is right e ticked.0 ticked.1 ticked.2 (of ∙ ap (λ l. o.ticking l U) kept_is ∙ ap (o.ticking (s ∷ [])) ticked.1 ∙ o.ticking_one s ticked.0) c_at (stays (ticked_one s ticked.0)) refl

      pub first_turn : AtMostOne (mine table) → ((s : Session) → mine table ≡ s ∷ [] → HasEvents limit s.flow s.events) → IsOfTicks → AllAt tick c → First table ticks c until
      first_turn (none_there is) right of c_at =
          let kept_none = kept_mine ∙ ap (filter (λ x. not (exp x))) is in
          nobody_ticks [] is refl refl (of_none of kept_none)
      first_turn (one_there s is) right of c_at = by_expiry s is (right s is) of c_at (exp s) refl

    -- ---- the second half

    pub record Second (found : List Session) (r : Received) (c : List X) : Type 0 where
      pub left : List Session
      pub left_is : mine (left_by_packet r found) ≡ left
      pub few : AtMostOne (mine (after_received r found))
      pub moves : (past : List Session) → MovesTo (past ++ mine found) (past ++ (left ++ mine (after_received r found))) c (tick + 1) (tick + 2)

    module _ (found : List Session) (here : Here found) (c : List X) (c_at : AllAt (tick + 1) c) where
      here_few : Here found → AtMostOne (mine found)
      here_few (nobody h) = none_there h
      here_few (going s t h right is none) = one_there (ticked_one s t) h

      here_stay : Here found → filter stays (mine found) ≡ mine found
      here_stay (nobody h) = ap (filter stays) h ∙ sym h
      here_stay (going s t h right is none) = ap (filter stays) h ∙ filter_one stays true (ticked_one s t) (ap (λ x. not (is_some x)) none) ∙ sym h

      here_none : Here found → filter leaves (mine found) ≡ []
      here_none (nobody h) = ap (filter leaves) h
      here_none (going s t h right is none) = ap (filter leaves) h ∙ filter_one leaves false (ticked_one s t) (ap (λ x. not (not (is_some x))) none)

      -- nothing of theirs happens
      quiet : (r : Received) → mine (left_by_packet r found) ≡ [] → mine (after_received r found) ≡ mine found → c ≡ [] → Second found r c
      quiet r gone same empty = record {
        left = [];
        left_is = gone;
        few = subst AtMostOne (sym same) (here_few here);
        moves = λ past. subst (λ l. MovesTo (past ++ mine found) (past ++ l) c (tick + 1) (tick + 2)) (sym same)
            (subst (λ xs. MovesTo (past ++ mine found) (past ++ mine found) xs (tick + 1) (tick + 2)) (sym empty) (stays_so o.at own_of (past ++ mine found) (tick + 1) (tick + 2) (omega arith)));
      }

      -- a session of theirs begins
      abbrev new_one : Flow → SessionEvent → Session
      new_one f e = record { flow = f; events = e ∷ [] }

      place_same : (f : Flow) → is_flow_of client site f ≡ true → place_of (client_of f) f.site.first.endpoint found ≡ place_of client site found
      place_same f is =
          let parts = and_parts (same_endpoint (client_of f) client) (same_endpoint f.site.first.endpoint site) is in
          ap (λ x. place_of x f.site.first.endpoint found) (same_is (client_of f) client parts.0) ∙ ap (λ x. place_of client x found) (same_is f.site.first.endpoint site parts.1)

      begun_own : (f : Flow) (e : SessionEvent) → IsBeginning f tick e → o.own f (e ∷ []) ≡ o.second f [] e
      begun_own f e h = o.own_more f e [] ∙ ap (λ xs. xs ++ (o.first f e ++ o.second f [] e)) (o.own_none f) ∙ ap (λ xs. xs ++ o.second f [] e) (o.no_first f tick e h)

      begun_by : (f : Flow) (e : SessionEvent) → is_flow_of client site f ≡ true → IsBeginning f tick e → c ≡ o.second f [] e → (gives : (left : List Session) × (mine (left_by_packet (Begun f e) found) ≡ left)
          × (mine (without (client_of f) f.site.first.endpoint found) ≡ []) × (mine found ≡ left)) → Second found (Begun f e) c
      begun_by f e is h c_is (left, gone, rest, all) =
          let new = new_one f e in
          let after : mine (after_received (Begun f e) found) ≡ new ∷ [] =
          filter-append (is_between client site) (without (client_of f) f.site.first.endpoint found) (new ∷ []) ∙ ap (λ l. l ++ mine (new ∷ [])) rest ∙ filter_one (is_between client site) true new is in
          let born_is : born new ≡ tick + 1 = ap (λ x. x.tick + 1) h.client in
          record {
            left = left;
            left_is = gone;
            few = one_there new after;
            moves = λ past.
                let same : past ++ (left ++ mine (after_received (Begun f e) found)) ≡ (past ++ mine found) ++ new ∷ [] =
                ap (λ l. past ++ (left ++ l)) after ∙ ap (λ l. past ++ (l ++ new ∷ [])) (sym all) ∙ sym (append_assoc past (mine found) (new ∷ [])) in
                subst (λ l. MovesTo (past ++ mine found) l c (tick + 1) (tick + 2)) (sym same)
                (comes o.at own_of (past ++ mine found) new c (tick + 1) (tick + 2) (begun_own f e h ∙ sym c_is) (omega (arith, born_is)) (omega (arith, born_is))
                (at_within (tick + 1) (born new) (tick + 2) c (omega (arith, born_is)) (omega arith) c_at));
          }

      begun_gives : (f : Flow) (e : SessionEvent) → is_flow_of client site f ≡ true → Here found → (left : List Session) × (mine (left_by_packet (Begun f e) found) ≡ left)
          × (mine (without (client_of f) f.site.first.endpoint found) ≡ []) × (mine found ≡ left)
      begun_gives f e is (nobody h) =
          let gives = gives_none client site found (place_of client site found) refl h in
          let place = place_same f is in
          ([], ap (λ o. mine (session_at found o)) place ∙ gives.gone, ap (λ o. mine (elim o [ Some i ↦ remove found i | None ↦ found ])) place ∙ gives.stays, h)
      begun_gives f e is (going s t h right tick_is none) =
          let gives = gives_theirs client site found (ticked_one s t) (place_of client site found) refl h in
          let place = place_same f is in
          (ticked_one s t ∷ [], ap (λ o. mine (session_at found o)) place ∙ gives.gone, ap (λ o. mine (elim o [ Some i ↦ remove found i | None ↦ found ])) place ∙ gives.stays, h)

      -- another's does
      begun_other : (f : Flow) (e : SessionEvent) → is_flow_of client site f ≡ false → c ≡ [] → Second found (Begun f e) c
      begun_other f e other empty =
          let apart : (s : Session) → is_between (client_of f) f.site.first.endpoint s ≡ true → is_between client site s ≡ false = λ s h.
          let parts = and_parts (same_endpoint (client_of s.flow) (client_of f)) (same_endpoint s.flow.site.first.endpoint f.site.first.endpoint) h in
          ap (λ x. same_endpoint x client && same_endpoint s.flow.site.first.endpoint site) (same_is (client_of s.flow) (client_of f) parts.0)
          ∙ ap (λ x. same_endpoint (client_of f) client && same_endpoint x site) (same_is s.flow.site.first.endpoint f.site.first.endpoint parts.1) ∙ other in
          let gives = gives_other client site (client_of f) f.site.first.endpoint found apart (place_of (client_of f) f.site.first.endpoint found) refl in
          quiet (Begun f e) gives.gone
          (filter-append (is_between client site) (without (client_of f) f.site.first.endpoint found) (new_one f e ∷ []) ∙ ap (λ l. mine (without (client_of f) f.site.first.endpoint found) ++ l)
          (filter_one (is_between client site) false (new_one f e) other) ∙ append-nil _ ∙ gives.stays) empty

      -- their session's event goes on
      abbrev went_one : Session → SessionEvent → Session
      went_one s e = record s { events = e ∷ s.events }

      module _ (i : ℕ) (e : SessionEvent) (s : Session) (t : SessionEvent) (is : mine found ≡ ticked_one s t ∷ []) (right : HasEvents limit s.flow s.events) (tick_is : IsTick s.flow s.events tick t)
          (none : t.cut ≡ None) (from : Side) (p : PacketValue) (on : IsPacket s.flow limit s.events t from p e) (changed : mine (with_event_at i e found) ≡ went_one s e ∷ [])
          (c_is : c ≡ o.second s.flow s.events e) where
        gone_one : mine (left_by_packet (Went i e) found) ≡ filter leaves (went_one s e ∷ [])
        gone_one = filter_swap (is_between client site) leaves (with_event_at i e found) ∙ ap (filter leaves) changed

        after_one : mine (after_received (Went i e) found) ≡ filter stays (went_one s e ∷ [])
        after_one = filter_swap (is_between client site) stays (with_event_at i e found) ∙ ap (filter stays) changed

        went_moves : (past : List Session) → MovesTo (past ++ mine found) (past ++ went_one s e ∷ []) c (tick + 1) (tick + 2)
        went_moves past =
            subst (λ l. MovesTo (past ++ l) (past ++ went_one s e ∷ []) c (tick + 1) (tick + 2)) (sym is)
            (grows o.at own_of past (ticked_one s t) (went_one s e) c (tick + 1) (tick + 2) (ticked_born s.flow s.events e right ∙ sym (ticked_born s.flow s.events t right))
            (went_own s.flow s.events t e from p right tick_is none on ∙ ap (λ xs. o.own s.flow (t ∷ s.events) ++ xs) (sym c_is)) (at_within (tick + 1) (tick + 1) (tick + 2) c (omega arith) (omega arith) c_at) (omega arith))

        went_by : (b : Bool) → stays (went_one s e) ≡ b → Second found (Went i e) c
        went_by true h =
            let after = after_one ∙ filter_one stays true (went_one s e) h in
            record {
              left = [];
              left_is = gone_one ∙ filter_one leaves false (went_one s e) (ap not h);
              few = one_there (went_one s e) after;
              moves = λ past. subst (λ l. MovesTo (past ++ mine found) (past ++ l) c (tick + 1) (tick + 2)) (sym after) (went_moves past);
            }
        went_by false h =
            let after = after_one ∙ filter_one stays false (went_one s e) h in
            record {
              left = went_one s e ∷ [];
              left_is = gone_one ∙ filter_one leaves true (went_one s e) (ap not h);
              few = none_there after;
              moves = λ past. subst (λ l. MovesTo (past ++ mine found) (past ++ went_one s e ∷ l) c (tick + 1) (tick + 2)) (sym after) (went_moves past);
            }

      went_theirs : (i : ℕ) (e : SessionEvent) (x : Session) → slice_get found i ≡ Some x → is_between client site x ≡ true → (from : Side) (p : PacketValue) →
          GoesOnWith limit from p e x.flow x.events → c ≡ o.second x.flow (behind x.events) e → Here found → Second found (Went i e) c
      went_theirs i e x at_i passes from p on c_is (nobody h) = absurd (none_changes client site found i x at_i passes h)
      went_theirs i e x at_i passes from p on c_is (going s t h right tick_is none) =
          let changes = own_changes client site found i e x (ticked_one s t) at_i passes h in
          let goes : IsPacket s.flow limit s.events t from p e = subst (λ (y : Session). GoesOnWith limit from p e y.flow y.events) changes.0 on in
          let put_is : c ≡ o.second s.flow s.events e = c_is ∙ ap (λ (y : Session). o.second y.flow (behind y.events) e) changes.0 in
          went_by i e s t h right tick_is none from p goes changes.1.after put_is (stays (went_one s e)) refl

      went_other : (i : ℕ) (e : SessionEvent) (x : Session) → slice_get found i ≡ Some x → is_between client site x ≡ false → c ≡ [] → Second found (Went i e) c
      went_other i e x at_i other empty =
          let same = other_changes client site found i e x at_i other in
          quiet (Went i e) (filter_swap (is_between client site) leaves (with_event_at i e found) ∙ ap (filter leaves) same ∙ here_none here)
          (filter_swap (is_between client site) stays (with_event_at i e found) ∙ ap (filter stays) same ∙ here_stay here) empty

      -- what is put out, by what the packet is to theirs
      abbrev of_theirs : (goes begins : Bool) → Received → List X
      of_theirs goes begins r = cond goes (o.put found r) [] ++ cond begins (o.put found r) []

      went_if : (i : ℕ) (e : SessionEvent) (x : Session) → slice_get found i ≡ Some x → (from : Side) (p : PacketValue) → GoesOnWith limit from p e x.flow x.events →
          (b : Bool) → is_between client site x ≡ b → c ≡ of_theirs b false (Went i e) → Second found (Went i e) c
      went_if i e x at_i from p on true passes c_is = went_theirs i e x at_i passes from p on (c_is ∙ append-nil _ ∙ o.put_went found i e x at_i) here
      went_if i e x at_i from p on false other c_is = went_other i e x at_i other c_is

      went_at : (i : ℕ) (e : SessionEvent) (o : Option Session) → slice_get found i ≡ o → (from : Side) (p : PacketValue) → GoesOnAt limit from p e o →
          c ≡ of_theirs (is_theirs client site o) false (Went i e) → Second found (Went i e) c
      went_at i e None at_i from p on c_is = absurd on
      went_at i e (Some x) at_i from p on c_is = went_if i e x at_i from p on (is_between client site x) refl c_is

      begun_if : (f : Flow) (e : SessionEvent) → IsBeginning f tick e → (b : Bool) → is_flow_of client site f ≡ b → c ≡ of_theirs false b (Begun f e) → Second found (Begun f e) c
      begun_if f e h true is c_is = begun_by f e is h (c_is ∙ o.put_begun found f e) (begun_gives f e is here)
      begun_if f e h false other c_is = begun_other f e other c_is

      pub second_turn : (assets : List Asset) (p : Result PacketValue PacketRefusal) (r : Received) → ReceivesRecord assets limit tick found p r →
          c ≡ of_theirs (goes_to_theirs client site found r) (begins_theirs client site r) r → Second found r c
      second_turn assets =
          receives assets limit tick found (λ r. c ≡ of_theirs (goes_to_theirs client site found r) (begins_theirs client site r) r → Second found r c)
          (quiet Dropped refl refl, quiet NoRoom refl refl, quiet NoSession refl refl) (λ f e b c_is. begun_if f e b (is_flow_of client site f) refl c_is)
          (λ i e from p on c_is. went_at i e (slice_get found i) refl from p on c_is)
