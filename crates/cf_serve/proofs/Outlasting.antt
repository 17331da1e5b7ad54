-- Over the sessions of a client, one after the other, no rule of an asset lets more through than its rate.
use Rattle.cf_lane.specs.Caller.{RateMoments, caller_at, none_before}
use Rattle.cf_lane.specs.Judged.{Judged}
use Rattle.cf_lane.specs.Laws.{HasOneJudgement, RatesHold}
use Rattle.cf_lane.specs.SiteRates.{KeepsRates, used_at}
use Rattle.cf_outside.specs.Pair.{Entry}
use Rattle.cf_policy.specs.Verdict.{is_empty}
use Rattle.cf_relay.specs.Answers.{client_of, history_of}
use Rattle.cf_relay.specs.Turn.{AreItemsOf}
use Rattle.cf_serve.proofs.Parting.{CountsAs, KeepsEach, begins_as, counts_later, counts_none, counts_used, keeps_all_places, keeps_as, keeps_both, keeps_none, keeps_unrated, sessions_unused}
use Rattle.cf_serve.proofs.Standing.{Among, AreStood, IsStood, among_back, among_front, among_more, its_other, its_own, no_back, no_front, not_before, not_then, own_number, part_behind, same_number}
use Rattle.cf_serve.specs.Kept.{AreBegun, Begins, IsBegun, Leaves, before_in, before_of, begins_in, left_behind, left_from, left_to}
use Rattle.cf_serve.specs.Laws.{AreSessionsOf, IsSessionOf, begins_at, began_at, sessions_of, turns_to}
use Rattle.cf_serve.specs.Rounds.{TurnOf, answers_in, ends_in, has_rates, is_client}
use Rattle.cf_serve.specs.Session.{Listening}
use Rattle.cf_serve.specs.declared.end.SessionEnd.{SessionEnd}
use Rattle.std.proofs.Common.{Bool, List, None, Option, Some, [], ap, append_assoc, arith, false, inl, inr, is_some, refl, slice_get, subst, sym, true, ℕ, ◌&&◌, ◌*◌, ◌++◌, ◌+◌, ◌<◌, ◌∙◌, ◌∷◌, ◌≡◌, ◌≤◌, ◌||◌, ◌⊎◌}
use Rattle.std.proofs.lemmas.Bool.{and_parts, cases_Bool}
use Rattle.std.proofs.lemmas.Bool.Decides.{nat_tests}
use Rattle.std.proofs.lemmas.List.{append-nil}
use Rattle.std.specs.List.{AllByRecursion, flat_map}
use Rattle.std.specs.Prelude.{if◌then◌else◌, option_to_list, ◌==◌}

-- ---- where a session begins

none_here : (own : Bool) (o : Option RateMoments) → (own ≡ true → is_some o ≡ true → ⊥) → (if own then option_to_list o else []) ≡ []
none_here true (Some b) h = absurd (h refl refl)
none_here true None h = refl
none_here false o h = refl

begins_none : (k : ℕ) (past : List TurnOf) → ((s : TurnOf) → Among s past → (s.seat.session == k) ≡ true → is_some s.begun ≡ true → ⊥) → begins_in k past ≡ []
begins_none k [] h = refl
begins_none k (s ∷ past) h =
    ap (λ bs. bs ++ begins_in k past) (none_here (s.seat.session == k) s.begun (h s (inl refl)))
    ∙ begins_none k past (λ u m. h u (inr m))

begins_not : (own : Bool) (o : Option RateMoments) → (if own then option_to_list o else []) ≡ [] → own && is_some o ≡ false
begins_not true (Some b) e = cc e
begins_not true None e = refl
begins_not false o e = refl

up_to : (k : ℕ) (past : List TurnOf) (t : TurnOf) (ts : List TurnOf) → begins_in k past ≡ [] → (t.seat.session == k) && is_some t.begun ≡ true →
    turns_to k (past ++ t ∷ ts) ≡ past ++ t ∷ []
up_to k [] t ts none own = ap (λ (b : Bool). t ∷ (if b then [] else turns_to k ts)) own
up_to k (s ∷ past) t ts none own =
    let here = begins_not (s.seat.session == k) s.begun (no_front (if s.seat.session == k then option_to_list s.begun else []) (begins_in k past) none) in
    ap (λ (b : Bool). s ∷ (if b then [] else turns_to k (past ++ t ∷ ts))) here
    ∙ ap (λ us. s ∷ us) (up_to k past t ts (no_back (if s.seat.session == k then option_to_list s.begun else []) (begins_in k past) none) own)

begins_now : (k : ℕ) (past : List TurnOf) (t : TurnOf) (ts : List TurnOf) (b : RateMoments) → begins_in k past ≡ [] → (t.seat.session == k) ≡ true → t.begun ≡ Some b →
    begins_in k (past ++ t ∷ ts) ≡ b ∷ begins_in k ts
begins_now k past t ts b none own e =
    part_behind (λ (u : TurnOf). option_to_list u.begun) k past (t ∷ ts)
    ∙ ap (λ bs. bs ++ begins_in k (t ∷ ts)) none
    ∙ ap (λ (x : Bool). (if x then option_to_list t.begun else []) ++ begins_in k ts) own
    ∙ ap (λ o. option_to_list o ++ begins_in k ts) e

-- ---- what was left

left_more : (place address : ℕ) (left : RateMoments) (past : List TurnOf) (t : TurnOf) → left_from place address left (past ++ t ∷ []) ≡ left_behind place address (left_from place address left past) t
left_more place address left [] t = refl
left_more place address left (s ∷ past) t = left_more place address (left_behind place address left s) past t

left_same : (place address : ℕ) (past : List TurnOf) (t : TurnOf) → is_client place address t.seat && is_some t.end ≡ false → left_to place address (past ++ t ∷ []) ≡ left_to place address past
left_same place address past t e =
    left_more place address none_before past t ∙ ap (λ (b : Bool). if b then t.left else left_to place address past) e

left_new : (place address : ℕ) (past : List TurnOf) (t : TurnOf) → is_client place address t.seat && is_some t.end ≡ true → left_to place address (past ++ t ∷ []) ≡ t.left
left_new place address past t e =
    left_more place address none_before past t ∙ ap (λ (b : Bool). if b then t.left else left_to place address past) e

-- ---- behind its end a session has no answers

module _ (places : List Listening) (k : ℕ) where
  answers_not : (past : List TurnOf) (t : TurnOf) → IsStood places past t → (ends_in k past ≡ [] → ⊥) → (own : Bool) → (t.seat.session == k) ≡ own → (if t.seat.session == k then t.answers else []) ≡ []
  answers_not past t stood over true e = absurd (over (subst (λ n. ends_in n past ≡ []) (same_number t.seat.session k e) stood.still))
  answers_not past t stood over false e = ap (λ (x : Bool). if x then t.answers else []) e

  no_more : (past later : List TurnOf) → AreStood places past later → (ends_in k past ≡ [] → ⊥) → answers_in k later ≡ []
  no_more past [] stood over = refl
  no_more past (t ∷ ts) (stood, rest) over =
      ap (λ es. es ++ answers_in k ts) (answers_not past t stood over (t.seat.session == k) refl)
      ∙ no_more (past ++ t ∷ []) ts rest (λ e. over (not_before k past (t ∷ []) e))

not_empty : (some : Bool) (bs : List RateMoments) (b : RateMoments) (more : List RateMoments) → bs ≡ b ∷ more → some && is_empty bs ≡ false
not_empty true bs b more is = ap is_empty is
not_empty false bs b more is = refl

apart_from : (n k number : ℕ) → n ≡ k → (number == k) ≡ false → (n == number) ≡ false
apart_from n k number same apart = grind (arith, nat_tests)

-- ---- the sessions of one client at an asset with rates

module _ (places : List Listening) (place address : ℕ) (at : Listening) (is : slice_get places place ≡ Some at) (rates : has_rates at.site ≡ true)
    (hold : RatesHold) (only : HasOneJudgement) where
  abbrev Mine : TurnOf → Type 0
  Mine s = (is_client place address s.seat ≡ true) × (is_some s.begun ≡ true)

  -- no session of the client stands that has begun; what was left counts as all that was used
  record IsQuiet (past : List TurnOf) (used : RateMoments) : Type 0 where
    pub none : (s : TurnOf) → Among s past → Mine s → ends_in s.seat.session past ≡ [] → ⊥
    pub counts : CountsAs at.site past (left_to place address past) used

  -- one stands, whose items are among what was used
  record IsRunning (all past : List TurnOf) (used : RateMoments) : Type 0 where
    pub session : ℕ
    pub before : RateMoments
    pub first : TurnOf
    pub there : Among first past
    pub its : (first.seat.session == session) ≡ true
    pub client : is_client place address first.seat ≡ true
    pub begun : (bs : List RateMoments) × (begins_in session past ≡ before ∷ bs)
    pub still : ends_in session past ≡ []
    pub alone : (s : TurnOf) → Among s past → Mine s → ends_in s.seat.session past ≡ [] → (s.seat.session == session) ≡ true
    pub js : List Judged
    pub items : AreItemsOf at.site before (answers_in session all) js
    pub used_before : RateMoments
    pub used_is : used ≡ used_at at.site used_before js
    pub counts : CountsAs at.site past before used_before

  abbrev State : (all past : List TurnOf) → (used : RateMoments) → Type 0
  State all past used = IsQuiet past used ⊎ IsRunning all past used

  -- a turn more: no session of the client begins, or one does
  abbrev Steps : (all past : List TurnOf) → TurnOf → (used : RateMoments) → Type 0
  Steps all past t used =
      ((began_at place address past t ≡ []) × State all (past ++ t ∷ []) used)
      ⊎ ((began_at place address past t ≡ t.seat.session ∷ [])
      × ((js : List Judged) → IsSessionOf at.site all t.seat.session js → KeepsEach at.site used js × State all (past ++ t ∷ []) (used_at at.site used js)))

  began_none : (past : List TurnOf) (t : TurnOf) → is_client place address t.seat && begins_at past t ≡ false → began_at place address past t ≡ []
  began_none past t e = ap (λ (b : Bool). if b then t.seat.session ∷ [] else []) e

  began_one : (past : List TurnOf) (t : TurnOf) → is_client place address t.seat && begins_at past t ≡ true → began_at place address past t ≡ t.seat.session ∷ []
  began_one past t e = ap (λ (b : Bool). if b then t.seat.session ∷ [] else []) e

  module _ (all past : List TurnOf) (t : TurnOf) (ts : List TurnOf) (whole : all ≡ past ++ t ∷ ts) (begun : IsBegun places past t)
      (stood : IsStood places past t) (rest : AreStood places (past ++ t ∷ []) ts) where
    abbrev now : List TurnOf
    now = past ++ t ∷ []

    abbrev number : ℕ
    number = t.seat.session

    -- a turn of another client
    its_place : is_client place address t.seat ≡ true → t.seat.place ≡ place
    its_place c = same_number t.seat.place place (and_parts (t.seat.place == place) (t.seat.client.address == address) c).0

    its_address : is_client place address t.seat ≡ true → t.seat.client.address ≡ address
    its_address c = same_number t.seat.client.address address (and_parts (t.seat.place == place) (t.seat.client.address == address) c).1

    listens : is_client place address t.seat ≡ true → slice_get places t.seat.place ≡ Some at
    listens c = ap (slice_get places) (its_place c) ∙ is

    found_is : is_client place address t.seat ≡ true → left_to t.seat.place t.seat.client.address past ≡ left_to place address past
    found_is c = ap (λ p. left_to p t.seat.client.address past) (its_place c) ∙ ap (λ a. left_to place a past) (its_address c)

    open_now : t.end ≡ None → ends_in number now ≡ []
    open_now e = its_own (λ (u : TurnOf). option_to_list u.end) number past t (own_number number) ∙ ap (λ es. es ++ option_to_list t.end) stood.still ∙ ap option_to_list e

    over_now : (end : SessionEnd) → t.end ≡ Some end → ends_in number now ≡ [] → ⊥
    over_now end e none = cc (sym (ap option_to_list e) ∙ not_then number past t (own_number number) none)

    -- ---- one that has not begun

    fresh : (used : RateMoments) → is_client place address t.seat ≡ true → IsQuiet past used → begins_in number past ≡ []
    fresh used c q = begins_none number past (λ s m own some.
        q.none s m (ap (is_client place address) (stood.same s m own) ∙ c, some)
        (subst (λ n. ends_in n past ≡ []) (sym (same_number s.seat.session number own)) stood.still))

    -- ---- a turn that changes nothing

    quiet_more : (used : RateMoments) → IsQuiet past used → (Mine t → ends_in number now ≡ [] → ⊥) → left_to place address now ≡ left_to place address past → IsQuiet now used
    quiet_more used q mine left = record {
      none = λ s m own e. elim (among_more s past t m) [
        | inl front ↦ q.none s front own (not_before s.seat.session past (t ∷ []) e)
        | inr last ↦ subst (λ (u : TurnOf). Mine u → ends_in u.seat.session now ≡ [] → ⊥) last mine own e
      ];
      counts = subst (λ (u : RateMoments). CountsAs at.site now u used) (sym left) (counts_later at.site past (t ∷ []) (left_to place address past) used q.counts);
    }

    running_more : (used : RateMoments) (r : IsRunning all past used) → ends_in r.session now ≡ [] → (Mine t → (number == r.session) ≡ true) → IsRunning all now used
    running_more used r still mine = record {
      session = r.session;
      before = r.before;
      first = r.first;
      there = among_front r.first past (t ∷ []) r.there;
      its = r.its;
      client = r.client;
      begun = (r.begun.0 ++ begins_in r.session (t ∷ []), part_behind (λ (u : TurnOf). option_to_list u.begun) r.session past (t ∷ []) ∙ ap (λ bs. bs ++ begins_in r.session (t ∷ [])) r.begun.1);
      still = still;
      alone = λ s m own e. elim (among_more s past t m) [
        | inl front ↦ r.alone s front own (not_before s.seat.session past (t ∷ []) e)
        | inr last ↦ subst (λ (u : TurnOf). Mine u → (u.seat.session == r.session) ≡ true) last mine own
      ];
      js = r.js;
      items = r.items;
      used_before = r.used_before;
      used_is = r.used_is;
      counts = counts_later at.site past (t ∷ []) r.before r.used_before r.counts;
    }

    -- ---- a session that ends

    answers_now : (end : SessionEnd) → t.end ≡ Some end → answers_in number now ≡ answers_in number all
    answers_now end e =
        let parts : answers_in number (now ++ ts) ≡ answers_in number now ++ answers_in number ts = part_behind (λ (u : TurnOf). u.answers) number now ts in
        sym (ap (answers_in number) (whole ∙ sym (append_assoc past (t ∷ []) ts)) ∙ parts
        ∙ ap (λ es. answers_in number now ++ es) (no_more places number now ts rest (over_now end e)) ∙ append-nil (answers_in number now))

    module _ (used before used_before : RateMoments) (js : List Judged) (items : AreItemsOf at.site before (answers_in number all) js) (used_is : used ≡ used_at at.site used_before js)
        (counts : CountsAs at.site now before used_before) (c : is_client place address t.seat ≡ true) (end : SessionEnd) (e : t.end ≡ Some end)
        (bs : List RateMoments) (first : begins_in number now ≡ before ∷ bs) where
      left_is : t.left ≡ used_at at.site before js
      left_is =
          let left = subst (λ (begins : List RateMoments). Leaves at.site (left_to t.seat.place t.seat.client.address past) begins (answers_in number now) t.left) first (begun.leaves end e at (listens c)) in
          let its = subst (λ (es : List Entry). AreItemsOf at.site before es left.0) (answers_now end e) left.1.0 in
          let same : left.0 ≡ js = only at.site (caller_at (client_of (answers_in number all)).address before) (history_of (answers_in number all)) left.0 js its items in
          left.1.1 ∙ ap (used_at at.site before) same

      ends_quiet : ((s : TurnOf) → Among s past → Mine s → ends_in s.seat.session past ≡ [] → (s.seat.session == number) ≡ true) → IsQuiet now used
      ends_quiet alone = record {
        none = λ s m own still. elim (among_more s past t m) [
          | inl front ↦
              let its = same_number s.seat.session number (alone s front own (not_before s.seat.session past (t ∷ []) still)) in
              over_now end e (subst (λ n. ends_in n now ≡ []) its still)
          | inr last ↦ over_now end e (subst (λ (u : TurnOf). ends_in u.seat.session now ≡ []) (sym last) still)
        ];
        counts =
            subst (λ (u : RateMoments). CountsAs at.site now (left_to place address now) u) (sym used_is)
            (subst (λ (u : RateMoments). CountsAs at.site now u (used_at at.site used_before js))
            (sym (left_new place address past t (ap (λ (b : Bool). b && is_some t.end) c ∙ ap is_some e) ∙ left_is))
            (counts_used at.site now before used_before js counts));
      }

    -- ---- no session begins

    no_client : is_client place address t.seat ≡ false → is_client place address t.seat && begins_at past t ≡ false
    no_client c = ap (λ (b : Bool). b && begins_at past t) c

    no_begin : is_client place address t.seat ≡ true → begins_at past t ≡ false → is_client place address t.seat && begins_at past t ≡ false
    no_begin c e = ap (λ (b : Bool). b && begins_at past t) c ∙ e

    none_begun : t.begun ≡ None → begins_at past t ≡ false
    none_begun e = ap (λ (o : Option RateMoments). is_some o && is_empty (begins_in number past)) e

    not_mine : is_client place address t.seat ≡ false → Mine t → ⊥
    not_mine c own = cc (sym c ∙ own.0)

    not_begun : t.begun ≡ None → Mine t → ⊥
    not_begun e own = cc (sym (ap is_some e) ∙ own.1)

    -- ---- another client

    other_quiet : (used : RateMoments) → is_client place address t.seat ≡ false → IsQuiet past used → IsQuiet now used
    other_quiet used c q = quiet_more used q (λ own e. not_mine c own) (left_same place address past t (ap (λ (b : Bool). b && is_some t.end) c))

    -- each turn of a session that runs is of the client
    running_client : (used : RateMoments) (r : IsRunning all past used) → (number == r.session) ≡ true → is_client place address t.seat ≡ true
    running_client used r own =
        let first : r.first.seat.session ≡ number = same_number r.first.seat.session r.session r.its ∙ sym (same_number number r.session own) in
        ap (is_client place address) (sym (stood.same r.first r.there (ap (λ n. n == number) first ∙ own_number number))) ∙ r.client

    apart_open : (used : RateMoments) (r : IsRunning all past used) → (number == r.session) ≡ false → ends_in r.session now ≡ []
    apart_open used r apart = its_other (λ (u : TurnOf). option_to_list u.end) r.session past t apart ∙ r.still

    other_running : (used : RateMoments) (r : IsRunning all past used) → is_client place address t.seat ≡ false → (own : Bool) → (number == r.session) ≡ own → IsRunning all now used
    other_running used r c true e = cc (sym c ∙ running_client used r e)
    other_running used r c false e = running_more used r (apart_open used r e) (λ own. absurd (not_mine c own))

    other_step : (used : RateMoments) → is_client place address t.seat ≡ false → State all past used → Steps all past t used
    other_step used c (inl q) = inl (began_none past t (no_client c), inl (other_quiet used c q))
    other_step used c (inr r) = inl (began_none past t (no_client c), inr (other_running used r c (number == r.session) refl))

    -- ---- the client, and no session of it stands

    -- a session that never began leaves what it found
    unbegun_left : (used : RateMoments) → is_client place address t.seat ≡ true → IsQuiet past used → t.begun ≡ None → (o : Option SessionEnd) → t.end ≡ o → left_to place address now ≡ left_to place address past
    unbegun_left used c q e None end = left_same place address past t (ap (λ (b : Bool). b && is_some t.end) c ∙ ap is_some end)
    unbegun_left used c q e (Some why) end =
        let none : begins_in number now ≡ [] =
        its_own (λ (u : TurnOf). option_to_list u.begun) number past t (own_number number) ∙ ap (λ bs. bs ++ option_to_list t.begun) (fresh used c q) ∙ ap option_to_list e in
        let left = subst (λ (begins : List RateMoments). Leaves at.site (left_to t.seat.place t.seat.client.address past) begins (answers_in number now) t.left) none (begun.leaves why end at (listens c)) in
        left_new place address past t (ap (λ (b : Bool). b && is_some t.end) c ∙ ap is_some end) ∙ left ∙ found_is c

    quiet_unbegun : (used : RateMoments) → is_client place address t.seat ≡ true → IsQuiet past used → t.begun ≡ None → IsQuiet now used
    quiet_unbegun used c q e = quiet_more used q (λ own still. not_begun e own) (unbegun_left used c q e t.end refl)

    module _ (used : RateMoments) (c : is_client place address t.seat ≡ true) (q : IsQuiet past used) (b : RateMoments) (e : t.begun ≡ Some b) where
      first_begun : begins_in number now ≡ b ∷ []
      first_begun = begins_now number past t [] b (fresh used c q) (own_number number) e

      before_all : before_in number all ≡ b
      before_all = ap (before_in number) whole ∙ ap before_of (begins_now number past t ts b (fresh used c q) (own_number number) e)

      turns_all : turns_to number all ≡ now
      turns_all = ap (turns_to number) whole ∙ up_to number past t ts (fresh used c q) (ap (λ (x : Bool). x && is_some t.begun) (own_number number) ∙ ap is_some e)

      counts_begun : CountsAs at.site now b used
      counts_begun =
          begins_as at.site (left_to place address past) used b past t
          (subst (λ (left : RateMoments). Begins at.site left now b) (found_is c) (begun.begins b e at (listens c))) q.counts

      alone_of : (s : TurnOf) → Among s past → Mine s → ends_in s.seat.session past ≡ [] → (s.seat.session == number) ≡ true
      alone_of s m own still = absurd (q.none s m own still)

      -- behind the turn it runs, or has ended
      state_behind : (js : List Judged) → AreItemsOf at.site b (answers_in number all) js → (o : Option SessionEnd) → t.end ≡ o → State all now (used_at at.site used js)
      state_behind js items None end =
          inr (record {
            session = number;
            before = b;
            first = t;
            there = among_back t past (t ∷ []) (inl refl);
            its = own_number number;
            client = c;
            begun = ([], first_begun);
            still = open_now end;
            alone = λ s m own still. elim (among_more s past t m) [
              | inl front ↦ alone_of s front own (not_before s.seat.session past (t ∷ []) still)
              | inr last ↦ ap (λ (u : TurnOf). u.seat.session == number) (sym last) ∙ own_number number
            ];
            js = js;
            items = items;
            used_before = used;
            used_is = refl;
            counts = counts_begun;
          })
      state_behind js items (Some why) end = inl (ends_quiet (used_at at.site used js) b used js items refl counts_begun c why end [] first_begun alone_of)

      begun_step : Steps all past t used
      begun_step =
          inr (
            began_one past t
                (ap (λ (x : Bool). x && begins_at past t) c ∙ ap (λ (o : Option RateMoments). is_some o && is_empty (begins_in number past)) e ∙ ap is_empty (fresh used c q)),
            λ js own.
                let items : AreItemsOf at.site b (answers_in number all) js = subst (λ (before : RateMoments). AreItemsOf at.site before (answers_in number all) js) before_all own.items in
                let after = subst (λ (us : List TurnOf). AllByRecursion (λ (j : Judged). AllByRecursion (λ (u : TurnOf). u.moment ≤ j.moment) us) js) turns_all own.forward in (
                  keeps_as at.site now b used js counts_begun after (hold at.site (caller_at (client_of (answers_in number all)).address b) (history_of (answers_in number all)) js items),
                  state_behind js items t.end refl,
                ),
          )

    quiet_step : (used : RateMoments) → is_client place address t.seat ≡ true → IsQuiet past used → (o : Option RateMoments) → t.begun ≡ o → Steps all past t used
    quiet_step used c q None e = inl (began_none past t (no_begin c (none_begun e)), inl (quiet_unbegun used c q e))
    quiet_step used c q (Some b) e = begun_step used c q b e

    -- ---- the client, and a session of it stands

    module _ (used : RateMoments) (c : is_client place address t.seat ≡ true) (r : IsRunning all past used) where
      -- the session that stands does not begin once more
      own_none : (number == r.session) ≡ true → begins_at past t ≡ false
      own_none own = not_empty (is_some t.begun) (begins_in number past) r.before r.begun.0 (ap (λ n. begins_in n past) (same_number number r.session own) ∙ r.begun.1)

      own_running : (number == r.session) ≡ true → t.end ≡ None → IsRunning all now used
      own_running own end = running_more used r (subst (λ n. ends_in n now ≡ []) (same_number number r.session own) (open_now end)) (λ mine. own)

      own_quiet : (number == r.session) ≡ true → (why : SessionEnd) → t.end ≡ Some why → IsQuiet now used
      own_quiet own why end =
          let same : r.session ≡ number = sym (same_number number r.session own) in
          ends_quiet used r.before r.used_before r.js (subst (λ n. AreItemsOf at.site r.before (answers_in n all) r.js) same r.items) r.used_is
          (counts_later at.site past (t ∷ []) r.before r.used_before r.counts) c why end (r.begun.0 ++ begins_in number (t ∷ []))
          (part_behind (λ (u : TurnOf). option_to_list u.begun) number past (t ∷ []) ∙ ap (λ bs. bs ++ begins_in number (t ∷ [])) (ap (λ n. begins_in n past) (sym same) ∙ r.begun.1))
          (λ s m mine still. ap (λ n. s.seat.session == n) (sym same) ∙ r.alone s m mine still)

      own_state : (number == r.session) ≡ true → (o : Option SessionEnd) → t.end ≡ o → State all now used
      own_state own None end = inr (own_running own end)
      own_state own (Some why) end = inl (own_quiet own why end)

      -- and no other one begins
      no_other : (number == r.session) ≡ false → (b : RateMoments) → t.begun ≡ Some b → ⊥
      no_other apart b e =
          let first : r.first.seat.session ≡ r.session = same_number r.first.seat.session r.session r.its in
          stood.alone at (listens c) rates (ap is_some e) r.first r.there
          (ap (λ p. is_client p t.seat.client.address r.first.seat) (its_place c) ∙ ap (λ a. is_client place a r.first.seat) (its_address c) ∙ r.client)
          (apart_from r.first.seat.session r.session number first apart) (subst (λ n. ends_in n past ≡ []) (sym first) r.still)

      other_state : (number == r.session) ≡ false → (o : Option RateMoments) → t.begun ≡ o → Steps all past t used
      other_state apart None e =
          inl (began_none past t (no_begin c (none_begun e)), inr (running_more used r (apart_open used r apart) (λ own. absurd (not_begun e own))))
      other_state apart (Some b) e = absurd (no_other apart b e)

      running_step : (own : Bool) → (number == r.session) ≡ own → Steps all past t used
      running_step true own = inl (began_none past t (no_begin c (own_none own)), own_state own t.end refl)
      running_step false apart = other_state apart t.begun refl

    step : (used : RateMoments) → (c : Bool) → is_client place address t.seat ≡ c → State all past used → Steps all past t used
    step used false c state = other_step used c state
    step used true c (inl q) = quiet_step used c q t.begun refl
    step used true c (inr r) = running_step used c r (number == r.session) refl

  -- ---- turn by turn

  keeps_behind : (all past : List TurnOf) (t : TurnOf) (ts : List TurnOf) (used : RateMoments) (sessions : List (List Judged)) →
      ((now : RateMoments) (more : List (List Judged)) → State all (past ++ t ∷ []) now → AreSessionsOf at.site all (sessions_of place address (past ++ t ∷ []) ts) more →
      KeepsEach at.site now (flat_map (λ js. js) more)) →
      Steps all past t used → AreSessionsOf at.site all (began_at place address past t ++ sessions_of place address (past ++ t ∷ []) ts) sessions → KeepsEach at.site used (flat_map (λ js. js) sessions)
  keeps_behind all past t ts used sessions later (inl (none, state)) own =
      later used sessions state (subst (λ ks. AreSessionsOf at.site all (ks ++ sessions_of place address (past ++ t ∷ []) ts) sessions) none own)
  keeps_behind all past t ts used [] later (inr (one, goes)) own = absurd (subst (λ ks. AreSessionsOf at.site all (ks ++ sessions_of place address (past ++ t ∷ []) ts) []) one own)
  keeps_behind all past t ts used (js ∷ more) later (inr (one, goes)) own =
      let both = subst (λ ks. AreSessionsOf at.site all (ks ++ sessions_of place address (past ++ t ∷ []) ts) (js ∷ more)) one own in
      let here = goes js both.0 in
      keeps_both at.site used js (flat_map (λ js. js) more) here.0 (later (used_at at.site used js) more here.1 both.1)

  keeps_all : (all past later : List TurnOf) (used : RateMoments) (sessions : List (List Judged)) → all ≡ past ++ later → AreBegun places past later → AreStood places past later →
      State all past used → AreSessionsOf at.site all (sessions_of place address past later) sessions → KeepsEach at.site used (flat_map (λ js. js) sessions)
  keeps_all all past [] used [] whole begun stood state own = keeps_none at.site used
  keeps_all all past [] used (js ∷ more) whole begun stood state own = absurd own
  keeps_all all past (t ∷ ts) used sessions whole (begun, behind) (stood, rest) state own =
      keeps_behind all past t ts used sessions
      (λ now more is own. keeps_all all (past ++ t ∷ []) ts now more (whole ∙ sym (append_assoc past (t ∷ []) ts)) behind rest is own)
      (step all past t ts whole begun stood rest used (is_client place address t.seat) refl state) own

  begins_quiet : IsQuiet [] none_before
  begins_quiet = record { none = λ s m own still. absurd m; counts = counts_none at.site }

-- the sessions of a client in turns, one after the other
pub sessions_last : (places : List Listening) (place address : ℕ) (at : Listening) → slice_get places place ≡ Some at → RatesHold → HasOneJudgement → (turns : List TurnOf) →
    AreBegun places [] turns → AreStood places [] turns → (sessions : List (List Judged)) → AreSessionsOf at.site turns (sessions_of place address [] turns) sessions →
    KeepsRates at.site none_before (flat_map (λ js. js) sessions)
sessions_last places place address at is hold only turns begun stood sessions own =
    keeps_all_places at.site none_before (flat_map (λ js. js) sessions)
    (elim (cases_Bool (has_rates at.site)) [
      | inl rates ↦ keeps_all places place address at is rates hold only turns [] turns none_before sessions refl begun stood (inl (begins_quiet places place address at is rates hold only)) own
      | inr none ↦ keeps_unrated at.site none_before (flat_map (λ js. js) sessions) none
    ])
    (sessions_unused at.site turns (sessions_of place address [] turns) sessions own)
