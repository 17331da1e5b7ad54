-- A relay stands for the longer list: after answers that add nothing to the history, and after an answer of a side that was
-- asked.
use Rattle.cf_lane.specs.Caller.{RateMoments, caller_at}
use Rattle.cf_lane.specs.Rings.{KnowsRules}
use Rattle.std.proofs.Common.{Bool, List, None, Option, Some, ap, drop, false, inl, inr, length, refl, subst, sym, true, ℕ, ◌++◌, ◌+◌, ◌∙◌, ◌∷◌, ◌≡◌, ◌||◌, ◌⊎◌, []}
use Rattle.std.specs.List.{flat_map}
use Rattle.std.specs.Option.{option_or}
use Rattle.std.proofs.Math.Bool.{or-false}
use Rattle.std.proofs.Math.Seq.{drop-append_seam}
use Rattle.std.proofs.lemmas.List.{append-nil, append_assoc, append_cancel_left, length-append}
use Rattle.cf_audit.specs.declared.line.CutReason.{CutReason}
use Rattle.cf_driver.proofs.Histories.{ended_of-append, letters_more, letters_still}
use Rattle.cf_driver.proofs.Limits.{limit_is}
use Rattle.cf_driver.specs.Takes.{Takes}
use Rattle.cf_lane.specs.Follows.{AddsTo, AreJudged, AreRests, Began, Follows, Rests, rest_of, with_rest}
use Rattle.cf_lane.specs.Handled.{LaneValue, State}
use Rattle.cf_lane.specs.History.{Element, bytes_at, bytes_of, end_at, ended_of, taken}
use Rattle.cf_lane.specs.Judged.{Judged, cut_of, has_ended}
use Rattle.cf_lane.specs.Kept.{KnowsWire}
use Rattle.cf_lane.specs.Laws.{GoOn, QuietBehindEnd, StreamsGoOn}
use Rattle.cf_lane.specs.Limit.{limit_by, limit_cut}
use Rattle.cf_lane.specs.Log.{lines, with_lines}
use Rattle.cf_lane.specs.Output.{other, outputs, stream_to}
use Rattle.cf_lane.specs.declared.limit.TheConstants.{LETTER_LIMIT}
use Rattle.cf_outq.specs.SendQueue.{IsQueueOf, queue_length}
use Rattle.cf_outside.specs.Desk.{DeskValue}
use Rattle.cf_outside.specs.Pair.{Entry}
use Rattle.cf_policy.specs.Site.{SiteValue}
use Rattle.cf_stream.specs.Stream.{Stream, letter_count}
use Rattle.cf_view.specs.declared.Endpoint.{Endpoint}
use Rattle.cf_view.specs.declared.Side.{Side}
use Rattle.cf_view.specs.declared.Side.TheVariants as side
use Rattle.cf_relay.proofs.Giving.{given_more, idles_more}
use Rattle.cf_relay.proofs.Lists.{closes_more, closes_none, gives_none, history_more, meets_none, met_more, other_bytes, other_end, tells_none, told_more}
use Rattle.cf_relay.specs.Answers.{client_of, element_of, first_of, given, greatest, history_after, history_of, idles_after, is_finished, met_in, moment_of, moments}
use Rattle.cf_relay.specs.Relaying.{RelayingValue, is_closed, lane_state, letters_from, queue_to, rests_of}
use Rattle.cf_relay.specs.Stands.{Apart, IsCutShort, StandsCut, StandsFor, StandsMissed}
use Rattle.cf_relay.specs.Taken.{MissesLine, letters_brought}
use Rattle.cf_relay.specs.Turn.{IsTakeAnswer, cut_at}

-- the same items of the same history
pub follows_at : (site : SiteValue) (past : RateMoments) (h h' : List Element) (r r' : Rests) (cut : Option CutReason) (first : Option (List (List ℕ))) (now : State) → h ≡ h' → r ≡ r' →
    (f : Follows site past h r cut first now) → (g : Follows site past h' r' cut first now) × (g.judged ≡ f.judged)
follows_at site past h h' r r' cut first now e d f = rw (← e, ← d) (f, refl)

-- ---- answers that add nothing to the history: a moment, what a side took, Idle, and a close

pub record Silent (xs : List Entry) (old new : RelayingValue) (log log' : Option (List (List ℕ))) : Type 0 where
  pub history : (earlier : List Entry) → history_after earlier xs ≡ []
  pub met : flat_map met_in xs ≡ []
  pub lane : new.lane ≡ old.lane
  pub same_log : log' ≡ log
  pub rests : rests_of new ≡ rests_of old
  pub letters : (t : Side) → letters_from t new ≡ letters_from t old
  pub stands : (t : Side) (w : Stream) → IsQueueOf (queue_to t old) w → IsQueueOf (queue_to t new) w
  pub ended : (t : Side) → (queue_to t new).ended ≡ (queue_to t old).ended
  pub kept : (t : Side) → (queue_to t old).kept ≡ given t xs ++ (queue_to t new).kept
  pub acked : (t : Side) → (queue_to t new).acked ≡ (queue_to t old).acked + length (given t xs)
  pub closed : (es : List Entry) (t : Side) → is_closed t old ≡ is_finished t es → is_closed t new ≡ is_finished t (es ++ xs)
  pub done : (t : Side) → is_closed t new ≡ true → (is_closed t old ≡ true) ⊎ (((queue_to t new).kept ≡ []) × ((queue_to t new).ended ≡ true))
  pub moment : (es : List Entry) → old.moment ≡ moment_of es → new.moment ≡ moment_of (es ++ xs)
  pub idle : new.idle ≡ idles_after old.idle xs

module _ (site : SiteValue) (past : RateMoments) (first : Option (List (List ℕ))) (es xs : List Entry) (old new : RelayingValue) (log log' : Option (List (List ℕ)))
    (st : StandsFor site past first es old log) (q : Silent xs old new log log') where
  same_history : history_of (es ++ xs) ≡ history_of es
  same_history = history_more [] es xs ∙ ap (λ h. history_of es ++ h) (q.history es) ∙ append-nil (history_of es)

  same_client : client_of (es ++ xs) ≡ client_of es
  same_client = ap first_of (met_more es xs ∙ ap (λ zs. flat_map met_in es ++ zs) q.met ∙ append-nil (flat_map met_in es))

  follows_here : (f : Follows site past (history_of (es ++ xs)) (rests_of new) None first (lane_state new log')) × (f.judged ≡ st.follows.judged)
  follows_here = (
    record {
      judged = st.follows.judged;
      are_judged = subst (λ (x : List Element). AreJudged site (caller_at new.lane.client.address past) x st.follows.judged) (sym same_history)
          (subst (λ (l : LaneValue). AreJudged site (caller_at l.client.address past) (history_of es) st.follows.judged) (sym q.lane) st.follows.are_judged);
      is_cut = st.follows.is_cut;
      are_rests = subst (λ (x : List Element). AreRests site.first.protocol x (rests_of new) None) (sym same_history)
          (subst (λ (r : Rests). AreRests site.first.protocol (history_of es) r None) (sym q.rests) st.follows.are_rests);
      knows = record {
        admitted = ap (λ (l : LaneValue). l.admitted) q.lane ∙ st.follows.knows.admitted;
        refused = ap (λ (l : LaneValue). l.refused) q.lane ∙ st.follows.knows.refused;
        client_ended = q.ended side.Client ∙ st.follows.knows.client_ended;
        controller_ended = q.ended side.Controller ∙ st.follows.knows.controller_ended;
        rules = subst (λ (l : LaneValue). KnowsRules site past l.rules st.follows.judged) (sym q.lane) st.follows.knows.rules;
        wire = λ uncut. subst (λ (l : LaneValue). KnowsWire site l.wire st.follows.judged) (sym q.lane) (st.follows.knows.wire uncut);
      };
      client_stream = q.stands side.Client (stream_to site side.Client st.follows.judged) st.follows.client_stream;
      controller_stream = q.stands side.Controller (stream_to site side.Controller st.follows.judged) st.follows.controller_stream;
      of_lines = q.same_log ∙ st.follows.of_lines ∙ ap (λ (l : LaneValue). with_lines first (lines site l.client [] st.follows.judged)) (sym q.lane);
    },
    refl,
  )

  none_front : (xs ys zs : List ℕ) → xs ≡ [] → xs ≡ ys ++ zs → zs ≡ []
  none_front xs [] zs none e = sym e ∙ none
  none_front xs (y ∷ ys) zs none e = cc

  done_still : (t : Side) → (is_closed t old ≡ true) ⊎ (((queue_to t new).kept ≡ []) × ((queue_to t new).ended ≡ true)) → ((queue_to t new).kept ≡ []) × ((queue_to t new).ended ≡ true)
  done_still t (inl was) = (none_front (queue_to t old).kept (given t xs) (queue_to t new).kept (st.done t was).0 (q.kept t), q.ended t ∙ (st.done t was).1)
  done_still t (inr now) = now

  pub stands_silent : StandsFor site past first (es ++ xs) new log'
  unfolding follows_here
  stands_silent = record {
    follows = follows_here.0;
    uncut = ap (λ h. limit_cut LETTER_LIMIT h (stream_to site side.Client st.follows.judged) (stream_to site side.Controller st.follows.judged)) same_history ∙ st.uncut;
    client = ap (λ (l : LaneValue). l.client) q.lane ∙ st.client ∙ sym same_client;
    acked = λ t. q.acked t ∙ ap (λ n. n + length (given t xs)) (st.acked t) ∙ sym (length-append (given t es) (given t xs)) ∙ ap length (sym (given_more t es xs));
    front = λ t. st.front t ∙ ap (λ k. given t es ++ k) (q.kept t) ∙ sym (append_assoc (given t es) (given t xs) (queue_to t new).kept) ∙ ap (λ k. k ++ (queue_to t new).kept) (sym (given_more t es xs));
    ended = λ t. q.ended t ∙ st.ended t ∙ ap (ended_of (other t)) (sym same_history);
    letters = λ t. q.letters t ∙ st.letters t ∙ ap (λ h. letter_count (taken t h)) (sym same_history);
    closed = λ t. q.closed es t (st.closed t);
    done = λ t is. done_still t (q.done t is);
    moment = q.moment es st.moment;
    idle = q.idle ∙ ap (λ n. idles_after n xs) st.idle ∙ sym (idles_more 0 es xs);
  }

-- ---- an answer of a side that was asked

front_more : (front kept kept' out out' more : List ℕ) (acked : ℕ) → acked ≡ length front → out ≡ front ++ kept → out' ≡ out ++ more → kept' ≡ drop acked out' → out' ≡ front ++ kept'
front_more front kept kept' out out' more acked a e f k =
    let whole : out' ≡ front ++ (kept ++ more) = f ∙ ap (λ xs. xs ++ more) e ∙ append_assoc front kept more in
    whole ∙ ap (λ xs. front ++ xs) (sym (k ∙ ap (λ n. drop n out') a ∙ ap (drop (length front)) whole ∙ drop-append_seam front (kept ++ more)))

-- a relay of which one side was asked: nothing of the other side, of the closes and of the moment changed
pub record TakesTo (s : Side) (old new : RelayingValue) : Type 0 where
  pub other_rest : rest_of (other s) (rests_of new) ≡ rest_of (other s) (rests_of old)
  pub other_letters : letters_from (other s) new ≡ letters_from (other s) old
  pub closed : (t : Side) → is_closed t new ≡ is_closed t old
  pub moment : new.moment ≡ old.moment

rests_with : (s : Side) (old new : RelayingValue) → rest_of (other s) (rests_of new) ≡ rest_of (other s) (rests_of old) → with_rest s (rests_of old) (rest_of s (rests_of new)) ≡ rests_of new
rests_with side.Client old new e = ap (λ (xs : List ℕ). record { client = new.client_rest; controller = xs }) (sym e)
rests_with side.Controller old new e = ap (λ (xs : List ℕ). record { client = xs; controller = new.controller_rest }) (sym e)

not_both : (b : Bool) → b ≡ false → b ≡ true → ⊥
not_both b f t = cc

-- the side itself, or the one whose other it is
came_none : (A : Side → Type 0) (s t : Side) → A (other s) → (other t ≡ s → A (other t)) → A (other t)
came_none A side.Client side.Client p f = p
came_none A side.Client side.Controller p f = f refl
came_none A side.Controller side.Client p f = f refl
came_none A side.Controller side.Controller p f = p

both_sides : (P : Side → Type 0) (s : Side) → P s → P (other s) → (t : Side) → P t
both_sides P side.Client p q side.Client = p
both_sides P side.Client p q side.Controller = q
both_sides P side.Controller p q side.Client = q
both_sides P side.Controller p q side.Controller = p

pub goes_on_outputs : (site : SiteValue) (client : Endpoint) (js ks : List Judged) → GoOn site client js ks → (t : Side) → (more : List ℕ) × (outputs site t [] ks ≡ outputs site t [] js ++ more)
goes_on_outputs site client js ks g side.Client = (_, g.to_client)
goes_on_outputs site client js ks g side.Controller = (_, g.to_controller)

module _ (law : StreamsGoOn) (site : SiteValue) (past : RateMoments) (first : Option (List (List ℕ))) (es : List Entry) (s : Side) (answer : Entry) (taken_is : IsTakeAnswer s answer)
    (old : RelayingValue) (own log : Option (List (List ℕ))) (st : StandsFor site past first es old own) where
  one_history : history_of (es ++ answer ∷ []) ≡ history_of es ++ element_of (moment_of es) answer
  one_history = history_more [] es (answer ∷ []) ∙ ap (λ x. history_of es ++ x) (append-nil (element_of (moment_of es) answer))

  history_is : history_of es ++ element_of old.moment answer ≡ history_of (es ++ answer ∷ [])
  history_is = ap (λ m. history_of es ++ element_of m answer) st.moment ∙ sym one_history

  one_client : client_of (es ++ answer ∷ []) ≡ client_of es
  one_client = ap first_of (met_more es (answer ∷ []) ∙ ap (λ zs. flat_map met_in es ++ (zs ++ [])) (meets_none s answer taken_is) ∙ append-nil (flat_map met_in es))

  one_given : (t : Side) → given t (es ++ answer ∷ []) ≡ given t es
  one_given t = given_more t es (answer ∷ []) ∙ ap (λ zs. given t es ++ (zs ++ [])) (gives_none s t answer taken_is) ∙ append-nil (given t es)

  one_moment : moment_of (es ++ answer ∷ []) ≡ moment_of es
  one_moment = ap greatest (told_more es (answer ∷ []) ∙ ap (λ zs. moments es ++ (zs ++ [])) (tells_none s answer taken_is) ∙ append-nil (moments es))

  one_finished : (t : Side) → is_finished t (es ++ answer ∷ []) ≡ is_finished t es
  one_finished t = closes_more t es (answer ∷ []) ∙ ap (λ b. is_finished t es || (b || false)) (closes_none s t answer taken_is) ∙ or-false (is_finished t es)

  -- each later list of items puts out what was given first
  later_prefix : (client : Endpoint) (more : List Element) (ks : List Judged) → client ≡ client_of es → AreJudged site (caller_at client.address past) (history_of es ++ more) ks →
      (t : Side) → (rest : List ℕ) × (outputs site t [] ks ≡ given t (es ++ answer ∷ []) ++ rest)
  later_prefix client more ks is are t =
      let here : AreJudged site (caller_at (client_of es).address past) (history_of es) st.follows.judged = subst (λ (c : Endpoint). AreJudged site (caller_at c.address past) (history_of es) st.follows.judged) st.client st.follows.are_judged in
      let there : AreJudged site (caller_at (client_of es).address past) (history_of es ++ more) ks = subst (λ (c : Endpoint). AreJudged site (caller_at c.address past) (history_of es ++ more) ks) is are in
      let g = goes_on_outputs site (client_of es) st.follows.judged ks (law site past (client_of es) (history_of es) more st.follows.judged ks here there) t in
      ((queue_to t old).kept ++ g.0, g.1 ∙ ap (λ xs. xs ++ g.0) (st.front t) ∙ append_assoc (given t es) (queue_to t old).kept g.0 ∙ ap (λ xs. xs ++ ((queue_to t old).kept ++ g.0)) (sym (one_given t)))

  missed_at : (h : List Element) (more : List Element) (lines : Option (List (List ℕ))) (part : List ℕ) → h ≡ history_of es ++ more → IsCutShort h (history_of (es ++ answer ∷ [])) → Began site past old.lane.client h first lines part →
      StandsMissed site past first (es ++ answer ∷ []) lines part
  missed_at h more lines part e short began =
      let here : Began site past (client_of (es ++ answer ∷ [])) h first lines part = subst (λ c. Began site past c h first lines part) (st.client ∙ sym one_client) began in
      record {
        history = h;
        is_short = short;
        began = here;
        prefixes = later_prefix (client_of (es ++ answer ∷ [])) more here.judged one_client (subst (λ x. AreJudged site (caller_at (client_of (es ++ answer ∷ [])).address past) x here.judged) e here.are_judged);
      }

  -- a line failed
  pub stands_missed : (desk : DeskValue) → MissesLine site old.moment s answer (rest_of s (rests_of old)) (lane_state old log) desk → Apart own log desk.lines (λ lines. StandsMissed site past first (es ++ answer ∷ []) lines desk.line_part)
  stands_missed desk (inl (bytes, is, misses)) =
      let b = misses past (history_of es) (rests_of old) first own refl st.follows in
      let w = b.began in
      record {
        more = b.more;
        added = b.added;
        stands = missed_at (history_of es ++ bytes_at old.moment s w.handled ∷ []) (bytes_at old.moment s w.handled ∷ []) (with_lines own b.more) desk.line_part refl
            (inr (
              history_of es,
              old.moment,
              s,
              w.handled,
              w.rest,
              refl,
              sym history_is ∙ ap (λ x. history_of es ++ element_of old.moment x) is ∙ ap (λ xs. history_of es ++ bytes_at old.moment s xs ∷ []) w.piece_is,
            ))
            w.began;
      }
  stands_missed desk (inr (is, misses)) =
      let b = misses past (history_of es) (rests_of old) first own refl st.follows in
      record {
        more = b.more;
        added = b.added;
        stands = missed_at (history_of es ++ end_at old.moment s ∷ []) (end_at old.moment s ∷ []) (with_lines own b.more) desk.line_part refl
            (inl (ap (λ x. history_of es ++ element_of old.moment x) (sym is) ∙ history_is))
            b.began;
      }

  module _ (new : RelayingValue) (log' : Option (List (List ℕ))) (cut : Option CutReason) (to : TakesTo s old new)
      (hears : Takes site s (element_of old.moment answer) cut (rest_of s (rests_of old)) (rest_of s (rests_of new)) (lane_state old log) (lane_state new log')) where
    pub adds_left : AddsTo site past (history_of es ++ element_of old.moment answer) (with_rest s (rests_of old) (rest_of s (rests_of new))) cut first own log (lane_state new log')
    adds_left = hears.follows past (history_of es) (rests_of old) first own refl st.follows

    -- its own log with the lines that were added
    abbrev pub own_left : Option (List (List ℕ))
    own_left = with_lines own adds_left.more

    pub follows_left : Follows site past (history_of es ++ element_of old.moment answer) (with_rest s (rests_of old) (rest_of s (rests_of new))) cut first (lane_state new own_left)
    follows_left = adds_left.follows

    pub left_apart : (A : Option (List (List ℕ)) → Type 0) → A own_left → Apart own log log' A
    left_apart A a = record { more = adds_left.more; added = adds_left.added; stands = a }

    -- cut by an item, or by the limit after it
    pub stands_cut : (reason : CutReason) → ((js : List Judged) → cut_of js ≡ cut → IsQueueOf new.to_client (stream_to site side.Client js) → IsQueueOf new.to_controller (stream_to site side.Controller js) →
        cut_at site (es ++ answer ∷ []) js ≡ Some reason) → StandsCut site past first (es ++ answer ∷ []) new own_left reason
    stands_cut reason is_cut =
        let f = follows_left in
        let client : new.lane.client ≡ client_of (es ++ answer ∷ []) = hears.client ∙ st.client ∙ sym one_client in
        let are : AreJudged site (caller_at new.lane.client.address past) (history_of (es ++ answer ∷ [])) f.judged = subst (λ x. AreJudged site (caller_at new.lane.client.address past) x f.judged) history_is f.are_judged in
        record {
          judged = f.judged;
          are_items = subst (λ (c : Endpoint). AreJudged site (caller_at c.address past) (history_of (es ++ answer ∷ [])) f.judged) client are;
          is_cut = is_cut f.judged f.is_cut f.client_stream f.controller_stream;
          prefixes = later_prefix new.lane.client (element_of old.moment answer) f.judged (hears.client ∙ st.client) f.are_judged;
          counts = record { admitted = f.knows.admitted; refused = f.knows.refused };
          rules = f.knows.rules;
          of_lines = f.of_lines ∙ ap (λ c. with_lines first (lines site c [] f.judged)) client;
          client = client;
          moment = to.moment ∙ st.moment ∙ sym one_moment;
        }

  module _ (new : RelayingValue) (log' : Option (List (List ℕ))) (to : TakesTo s old new) (going : ended_of s (history_of es) ≡ false)
      (letters : letters_from s new ≡ letters_from s old + letters_brought old.moment s answer) (idle : new.idle ≡ idles_after old.idle (answer ∷ []))
      (hears : Takes site s (element_of old.moment answer) None (rest_of s (rests_of old)) (rest_of s (rests_of new)) (lane_state old log) (lane_state new log')) where
    letters_own : letters_from s new ≡ letter_count (taken s (history_of (es ++ answer ∷ [])))
    letters_own =
        letters ∙ ap (λ n. n + letters_brought old.moment s answer) (st.letters s) ∙ sym (letters_more s (history_of es) (element_of old.moment answer) going) ∙ ap (λ h. letter_count (taken s h)) history_is

    letters_others : letters_from (other s) new ≡ letter_count (taken (other s) (history_of (es ++ answer ∷ [])))
    letters_others =
        to.other_letters ∙ st.letters (other s)
        ∙ sym (letters_still (other s) (history_of es) (element_of old.moment answer) (other_bytes old.moment s answer taken_is) (other_end old.moment s answer taken_is))
        ∙ ap (λ h. letter_count (taken (other s) h)) history_is

    letters_here : (t : Side) → letters_from t new ≡ letter_count (taken t (history_of (es ++ answer ∷ [])))
    letters_here t = both_sides (λ u. letters_from u new ≡ letter_count (taken u (history_of (es ++ answer ∷ [])))) s letters_own letters_others t

    abbrev pub own_new : Option (List (List ℕ))
    own_new = own_left new log' None to hears

    follows_new : (f : Follows site past (history_of (es ++ answer ∷ [])) (rests_of new) None first (lane_state new own_new))
        × (f.judged ≡ (follows_left new log' None to hears).judged)
    follows_new =
        follows_at site past _ (history_of (es ++ answer ∷ [])) _ (rests_of new) None first (lane_state new own_new) history_is
        (rests_with s old new to.other_rest) (follows_left new log' None to hears)

    ended_here : (t : Side) → (queue_to t new).ended ≡ ended_of (other t) (history_of (es ++ answer ∷ []))
    ended_here side.Client =
        hears.controller_ended ∙ ap (λ b. b || ended_of side.Controller (element_of old.moment answer)) (st.ended side.Client)
        ∙ sym (ended_of-append side.Controller (history_of es) (element_of old.moment answer)) ∙ ap (ended_of side.Controller) history_is
    ended_here side.Controller =
        hears.client_ended ∙ ap (λ b. b || ended_of side.Client (element_of old.moment answer)) (st.ended side.Controller)
        ∙ sym (ended_of-append side.Client (history_of es) (element_of old.moment answer)) ∙ ap (ended_of side.Client) history_is

    acked_here : (t : Side) → (queue_to t new).acked ≡ (queue_to t old).acked
    acked_here side.Client = hears.to_client.acked
    acked_here side.Controller = hears.to_controller.acked

    go_on : GoOn site old.lane.client st.follows.judged (follows_left new log' None to hears).judged
    go_on =
        law site past old.lane.client (history_of es) (element_of old.moment answer) st.follows.judged (follows_left new log' None to hears).judged st.follows.are_judged
        (subst (λ (c : Endpoint). AreJudged site (caller_at c.address past) (history_of es ++ element_of old.moment answer) (follows_left new log' None to hears).judged) hears.client (follows_left new log' None to hears).are_judged)

    front_here : (t : Side) → outputs site t [] (follows_left new log' None to hears).judged ≡ given t es ++ (queue_to t new).kept
    front_here side.Client =
        front_more _ _ _ _ _ _ _ (acked_here side.Client ∙ st.acked side.Client) (st.front side.Client) go_on.to_client (follows_left new log' None to hears).client_stream.kept
    front_here side.Controller =
        front_more _ _ _ _ _ _ _ (acked_here side.Controller ∙ st.acked side.Controller) (st.front side.Controller) go_on.to_controller (follows_left new log' None to hears).controller_stream.kept

    -- the limit by the numbers that are kept
    limit_here : limit_by LETTER_LIMIT new.client_letters new.controller_letters (queue_length new.to_client) (queue_length new.to_controller)
        ≡ limit_cut LETTER_LIMIT (history_of (es ++ answer ∷ [])) (stream_to site side.Client (follows_left new log' None to hears).judged) (stream_to site side.Controller (follows_left new log' None to hears).judged)
    limit_here = limit_is LETTER_LIMIT site (history_of (es ++ answer ∷ [])) (follows_left new log' None to hears).judged _ _ new.to_client new.to_controller (letters_here side.Client) (letters_here side.Controller)
        (follows_left new log' None to hears).client_stream (follows_left new log' None to hears).controller_stream

    ended_kept : (t : Side) → (queue_to t old).ended ≡ true → (queue_to t new).ended ≡ true
    ended_kept side.Client is = hears.controller_ended ∙ ap (λ b. b || ended_of side.Controller (element_of old.moment answer)) is
    ended_kept side.Controller is = hears.client_ended ∙ ap (λ b. b || ended_of side.Client (element_of old.moment answer)) is

    has_end : (t : Side) → (queue_to t old).ended ≡ true → has_ended (other t) st.follows.judged ≡ true
    has_end side.Client is = sym st.follows.knows.client_ended ∙ is
    has_end side.Controller is = sym st.follows.knows.controller_ended ∙ is

    -- nothing came of the other side of a queue that has its End
    nothing_came : (t : Side) → (queue_to t old).ended ≡ true → bytes_of (other t) (element_of old.moment answer) ≡ []
    nothing_came t is = came_none (λ u. bytes_of u (element_of old.moment answer) ≡ []) s t (other_bytes old.moment s answer taken_is) (λ e. absurd (not_both (ended_of s (history_of es)) going (ap (λ u. ended_of u (history_of es)) (sym e) ∙ sym (st.ended t) ∙ is)))

    -- a queue with its End gets nothing
    outputs_still : (quiet : QuietBehindEnd) (t : Side) → (queue_to t old).ended ≡ true → outputs site t st.follows.judged go_on.ms ≡ []
    outputs_still quiet t is =
        quiet site (caller_at old.lane.client.address past) (history_of es) (element_of old.moment answer) st.follows.judged go_on.ms t st.follows.are_judged
        (subst (λ js. AreJudged site (caller_at old.lane.client.address past) (history_of es ++ element_of old.moment answer) js) go_on.all
        (subst (λ (c : Endpoint). AreJudged site (caller_at c.address past) (history_of es ++ element_of old.moment answer) (follows_left new log' None to hears).judged) hears.client (follows_left new log' None to hears).are_judged))
        (has_end t is) (nothing_came t is)

    outputs_more : (t : Side) → outputs site t [] (follows_left new log' None to hears).judged ≡ outputs site t [] st.follows.judged ++ outputs site t st.follows.judged go_on.ms
    outputs_more side.Client = go_on.to_client
    outputs_more side.Controller = go_on.to_controller

    kept_none : (quiet : QuietBehindEnd) (t : Side) → (queue_to t old).kept ≡ [] → (queue_to t old).ended ≡ true → (queue_to t new).kept ≡ []
    kept_none quiet t none is =
        append_cancel_left (given t es) (queue_to t new).kept []
        (sym (front_here t) ∙ outputs_more t ∙ ap (λ xs. outputs site t [] st.follows.judged ++ xs) (outputs_still quiet t is) ∙ append-nil (outputs site t [] st.follows.judged)
        ∙ st.front t ∙ ap (λ xs. given t es ++ xs) none)

    done_heard : (quiet : QuietBehindEnd) (t : Side) → is_closed t new ≡ true → ((queue_to t new).kept ≡ []) × ((queue_to t new).ended ≡ true)
    done_heard quiet t is =
        let was = st.done t (sym (to.closed t) ∙ is) in
        (kept_none quiet t was.0 was.1, ended_kept t was.1)

    pub stands_heard : QuietBehindEnd → limit_by LETTER_LIMIT new.client_letters new.controller_letters (queue_length new.to_client) (queue_length new.to_controller) ≡ None →
        StandsFor site past first (es ++ answer ∷ []) new own_new
    stands_heard quiet short =
        let f = follows_new in
        record {
          follows = f.0;
          uncut = ap (λ js. limit_cut LETTER_LIMIT (history_of (es ++ answer ∷ [])) (stream_to site side.Client js) (stream_to site side.Controller js)) f.1 ∙ sym limit_here ∙ short;
          client = hears.client ∙ st.client ∙ sym one_client;
          acked = λ t. acked_here t ∙ st.acked t ∙ ap length (sym (one_given t));
          front = λ t. ap (outputs site t []) f.1 ∙ front_here t ∙ ap (λ g. g ++ (queue_to t new).kept) (sym (one_given t));
          ended = ended_here;
          letters = letters_here;
          closed = λ t. to.closed t ∙ st.closed t ∙ sym (one_finished t);
          done = done_heard quiet;
          moment = to.moment ∙ st.moment ∙ sym one_moment;
          idle = idle ∙ ap (λ n. idles_after n (answer ∷ [])) st.idle ∙ sym (idles_more 0 es (answer ∷ []));
        }

    -- the limit cuts
    pub stands_full : (reason : CutReason) → limit_by LETTER_LIMIT new.client_letters new.controller_letters (queue_length new.to_client) (queue_length new.to_controller) ≡ Some reason →
        StandsCut site past first (es ++ answer ∷ []) new own_new reason
    stands_full reason full =
        stands_cut new log' None to hears reason (λ js none qc qk.
        ap (λ c. option_or c (limit_cut LETTER_LIMIT (history_of (es ++ answer ∷ [])) (stream_to site side.Client js) (stream_to site side.Controller js))) none
        ∙ sym (limit_is LETTER_LIMIT site (history_of (es ++ answer ∷ [])) js _ _ new.to_client new.to_controller (letters_here side.Client) (letters_here side.Controller) qc qk) ∙ full)
