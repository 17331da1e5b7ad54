-- A relay between two turns, and one that stopped within a turn: how it begins, goes on and ends, over any log that has the lines of its
-- own. The interface of lemmas for a loop over many sessions.
use Rattle.cf_lane.specs.Caller.{RateMoments, caller_at}
use Rattle.std.proofs.Common.{List, None, Option, ap, inl, inr, refl, subst, suc, sym, take, true, ℕ, ◌++◌, ◌<◌, ◌∙◌, ◌∷◌, ◌≡◌, []}
use Rattle.std.specs.Option.{option_or}
use Rattle.std.proofs.lemmas.List.{append-nil}
use Rattle.cf_audit.specs.Line.{Begun, Close, Cut}
use Rattle.cf_audit.specs.declared.line.CutReason.{CutReason}
use Rattle.cf_lane.specs.Follows.{AreJudged}
use Rattle.cf_lane.specs.Handled.{MayHaveMore}
use Rattle.cf_lane.specs.Judged.{Judged}
use Rattle.cf_lane.specs.Limit.{limit_cut}
use Rattle.cf_lane.specs.Log.{line_about, lines, with_lines}
use Rattle.cf_lane.specs.Output.{stream_to}
use Rattle.cf_lane.specs.declared.limit.TheConstants.{LETTER_LIMIT}
use Rattle.cf_outside.specs.Pair.{Entry}
use Rattle.cf_policy.specs.Site.{SiteValue}
use Rattle.cf_view.specs.declared.Endpoint.{Endpoint}
use Rattle.cf_view.specs.declared.Side.{Side}
use Rattle.cf_view.specs.declared.Side.TheVariants as side
use Rattle.cf_relay.proofs.Doing.{by_side}
use Rattle.cf_relay.proofs.Lined.{apart_whole, lines_both}
use Rattle.cf_relay.proofs.Stages.{does_broken, does_then, goes_on}
use Rattle.cf_relay.specs.Answers.{given, history_of}
use Rattle.cf_relay.specs.Closing.{BeginsLines, done_by}
use Rattle.cf_relay.specs.Ends.{GivenAll, IsCutEnd, IsDone, IsIdleEnd, IsLinkEnd, IsWriteEnd, LogContents, close_line, cut_line, log_of}
use Rattle.cf_relay.specs.Relaying.{AreClosed, RelayingValue, is_closed, queue_to}
use Rattle.cf_relay.specs.Scene.{DoesBetween, Scene, StopsBetween}
use Rattle.cf_relay.specs.Stands.{Apart, GivenPrefixes, IsCounted, StandsFor, StandsStopped}
use Rattle.cf_relay.specs.Turn.{AreItemsOf, BeginsStages, DoesStages, IsRelayed, IsUnstopped, Meeting, Telling, cut_at, stages, turn, turns}
use Rattle.cf_relay.specs.declared.directions.Directions.{Directions}
use Rattle.cf_relay.specs.declared.stop.Stop.{Stop}
use Rattle.cf_relay.specs.declared.stop.Stop.TheVariants as stop
use Rattle.cf_relay.proofs.Starting.{begins_last, some_idle, start_does}
use Rattle.cf_relay.specs.Turned.{HasStopped, HasTurned, begun_lines, begun_list}
use Rattle.cf_relay.specs.declared.done.RelayEnd.TheVariants as ends

-- ---- from one turn to the next

module _ (dirs : Directions) (site : SiteValue) (past : RateMoments) (listen most : ℕ) (client : Endpoint) (m : ℕ) (base : Option (List (List ℕ))) where
  -- before the first turn
  pub turned_first : (now : RelayingValue) (own : Option (List (List ℕ))) → StandsFor site past (begun_lines site client m base) (begun_list site listen client m []) now own → now.idle < most →
      HasTurned dirs site past listen most client m base [] now own
  turned_first now own st few = record { count = 0; does = refl; stands = st; few = few }

  -- a turn was done
  pub turned_more : (answers : List Entry) (old new : Scene) (own : Option (List (List ℕ))) → HasTurned dirs site past listen most client m base answers old.relaying own → (d : DoesBetween site most (turn dirs) old new) →
      new.relaying.idle < most → Apart own old.desk.lines new.desk.lines (λ log. HasTurned dirs site past listen most client m base (answers ++ d.answers) new.relaying log)
  turned_more answers old new own t d few =
      let a = d.does past (begun_lines site client m base) own (begun_list site listen client m answers) t.stands in
      record {
        more = a.1.more;
        added = a.1.added;
        stands = record {
          count = suc t.count;
          does = does_then site past most (turns dirs t.count) (turn dirs) (begun_list site listen client m []) answers d.answers t.does a.0;
          stands = a.1.stands;
          few = few;
        };
      }

  -- a turn stopped
  pub turned_stops : (answers : List Entry) (old new : Scene) (why : Stop) (own : Option (List (List ℕ))) → HasTurned dirs site past listen most client m base answers old.relaying own → (d : StopsBetween site most (turn dirs) why old new) →
      Apart own old.desk.lines new.desk.lines (λ log. HasStopped dirs site past listen most client m base (answers ++ d.answers) why new.relaying log new.desk.line_part)
  turned_stops answers old new why own t d =
      let a = d.does past (begun_lines site client m base) own (begun_list site listen client m answers) t.stands in
      record {
        more = a.1.more;
        added = a.1.added;
        stands = record {
          count = suc t.count;
          breaks = does_broken site past most (turns dirs t.count) (turn dirs) (begun_list site listen client m []) answers d.answers t.does a.0;
          some = some_idle old.relaying.idle most t.few;
          stands = a.1.stands;
        };
      }

  -- so many turns from the first on, where its own lines are the whole log
  module _ (old new : Scene) (st : StandsFor site past (begun_lines site client m base) (begun_list site listen client m []) old.relaying old.desk.lines) where
    pub turned_run : (n : ℕ) (d : DoesBetween site most (turns dirs n) old new) → new.relaying.idle < most → HasTurned dirs site past listen most client m base d.answers new.relaying new.desk.lines
    turned_run n d few =
        let a = d.does past (begun_lines site client m base) old.desk.lines (begun_list site listen client m []) st in
        record { count = n; does = a.0; stands = apart_whole old.desk.lines new.desk.lines (λ log. StandsFor site past (begun_lines site client m base) (begun_list site listen client m d.answers) new.relaying log) a.1; few = few }

    pub stopped_run : 0 < most → (n : ℕ) (why : Stop) (d : StopsBetween site most (turns dirs n) why old new) →
        HasStopped dirs site past listen most client m base d.answers why new.relaying new.desk.lines new.desk.line_part
    stopped_run some n why d =
        let a = d.does past (begun_lines site client m base) old.desk.lines (begun_list site listen client m []) st in
        record {
          count = n;
          breaks = a.0;
          some = some;
          stands = apart_whole old.desk.lines new.desk.lines (λ log. StandsStopped site past most (begun_lines site client m base) (begun_list site listen client m d.answers) why new.relaying log new.desk.line_part) a.1;
        }

-- ---- what its list and its own lines are then

module _ (dirs : Directions) (site : SiteValue) (past : RateMoments) (listen most : ℕ) (client : Endpoint) (m : ℕ) (base : Option (List (List ℕ))) (answers : List Entry) where
  does_all : 0 < most → (n : ℕ) → DoesStages site past most (turns dirs n) (begun_list site listen client m []) answers → DoesStages site past most (stages dirs listen n) [] (begun_list site listen client m answers)
  does_all few n d = does_then site past most (Meeting listen ∷ Telling ∷ []) (turns dirs n) [] (begun_list site listen client m []) answers (start_does site past listen most few client m) d

  breaks_all : 0 < most → (n : ℕ) → BeginsStages site past most (turns dirs n) (begun_list site listen client m []) answers → IsRelayed dirs site past listen most (begun_list site listen client m answers)
  breaks_all few n b = (n, does_broken site past most (Meeting listen ∷ Telling ∷ []) (turns dirs n) [] (begun_list site listen client m []) answers (start_does site past listen most few client m) b)

  -- stages that are done break off after the last
  breaks_of : (n : ℕ) → DoesStages site past most (turns dirs n) (begun_list site listen client m []) answers → BeginsStages site past most (turns dirs n) (begun_list site listen client m []) answers
  breaks_of n does =
      subst (λ ps. BeginsStages site past most ps (begun_list site listen client m []) answers) (append-nil (turns dirs n))
      (subst (λ (xs : List Entry). BeginsStages site past most (turns dirs n ++ []) (begun_list site listen client m []) xs) (append-nil answers)
      (does_broken site past most (turns dirs n) [] (begun_list site listen client m []) answers [] does refl))

  -- the lines after the open line
  lines_all : (own : Option (List (List ℕ))) (js : List Judged) → own ≡ with_lines (begun_lines site client m base) (lines site client [] js) → own ≡ with_lines base (log_of site (begun_list site listen client m answers) js)
  lines_all own js e = e ∙ lines_both base (line_about site.first client m Begun ∷ []) (lines site client [] js)

  module _ (now : RelayingValue) (own : Option (List (List ℕ))) (st : StandsFor site past (begun_lines site client m base) (begun_list site listen client m answers) now own) where
    stands_lines : own ≡ with_lines base (log_of site (begun_list site listen client m answers) st.follows.judged)
    stands_lines = lines_all own st.follows.judged (st.follows.of_lines ∙ ap (λ c. with_lines (begun_lines site client m base) (lines site c [] st.follows.judged)) st.client)

    stands_prefixes : GivenPrefixes site (begun_list site listen client m answers) st.follows.judged
    stands_prefixes s = ((queue_to s now).kept, st.front s)

    stands_items : AreItemsOf site past (begun_list site listen client m answers) st.follows.judged
    stands_items = subst (λ (c : Endpoint). AreJudged site (caller_at c.address past) (history_of (begun_list site listen client m answers)) st.follows.judged) st.client st.follows.are_judged

    stands_uncut : cut_at site (begun_list site listen client m answers) st.follows.judged ≡ None
    stands_uncut =
        ap (λ c. option_or c (limit_cut LETTER_LIMIT (history_of (begun_list site listen client m answers)) (stream_to site side.Client st.follows.judged) (stream_to site side.Controller st.follows.judged))) st.follows.is_cut ∙ st.uncut

    stands_counts : IsCounted st.follows.judged now.lane.admitted now.lane.refused
    stands_counts = record { admitted = st.follows.knows.admitted; refused = st.follows.knows.refused }

    stands_given : ((s : Side) → is_closed s now ≡ true) → GivenAll site (begun_list site listen client m answers) st.follows.judged
    stands_given closed = record {
      bytes = λ s. sym (st.front s ∙ ap (λ xs. given s (begun_list site listen client m answers) ++ xs) (st.done s (closed s)).0 ∙ append-nil (given s (begun_list site listen client m answers)));
      closed = λ s. sym (st.closed s) ∙ closed s;
    }

  -- ---- how it ends

  module _ (now : RelayingValue) (own : Option (List (List ℕ))) (t : HasTurned dirs site past listen most client m base answers now own) where
    few_turned : 0 < most
    few_turned = some_idle now.idle most t.few

    -- it goes on: so many turns were made, and its own lines are those of its items
    pub turned_stands : DoesStages site past most (stages dirs listen t.count) [] (begun_list site listen client m answers)
        × ((goes : IsUnstopped site past most (begun_list site listen client m answers)) × (own ≡ with_lines base (log_of site (begun_list site listen client m answers) goes.judged)))
    unfolding goes_on
    turned_stands = (
      does_all few_turned t.count t.does,
      (goes_on site past most (begun_lines site client m base) (begun_list site listen client m answers) now own t.stands t.few, stands_lines now own t.stands),
    )

    module _ (log : LogContents) (closed : AreClosed now) where
      both_closed : (s : Side) → is_closed s now ≡ true
      both_closed = by_side (λ s. is_closed s now ≡ true) closed.0 closed.1

      -- both sides are closed, and the close line was put
      pub turned_done : ((ls : List (List ℕ)) → with_lines own (line_about site.first client now.moment (Close now.lane.admitted now.lane.refused) ∷ []) ≡ with_lines base ls → log.Holds ls) →
          IsDone dirs site past listen most log (begun_list site listen client m answers) (done_by now ends.Done)
      unfolding goes_on
      turned_done holds = record {
        turns = t.count;
        does = does_all few_turned t.count t.does;
        goes = goes_on site past most (begun_lines site client m base) (begun_list site listen client m answers) now own t.stands t.few;
        all = stands_given now own t.stands both_closed;
        counts = stands_counts now own t.stands;
        holds_log = holds _
            (ap (λ x. with_lines x (line_about site.first client now.moment (Close now.lane.admitted now.lane.refused) ∷ [])) (stands_lines now own t.stands)
            ∙ lines_both base (log_of site (begun_list site listen client m answers) t.stands.follows.judged) (line_about site.first client now.moment (Close now.lane.admitted now.lane.refused) ∷ [])
            ∙ ap (λ k. with_lines base (log_of site (begun_list site listen client m answers) t.stands.follows.judged ++ line_about site.first client k (Close now.lane.admitted now.lane.refused) ∷ [])) t.stands.moment);
      }

      -- it failed: its own lines may have a beginning of it
      pub turned_unlogged : (all : Option (List (List ℕ))) (part : List ℕ) → MayHaveMore (line_about site.first client now.moment (Close now.lane.admitted now.lane.refused) ∷ []) own all part →
          ((ls : List (List ℕ)) → BeginsLines base all part ls → log.Begins ls) → IsWriteEnd dirs site past listen most log (begun_list site listen client m answers)
      turned_unlogged all part may begins =
          let js = t.stands.follows.judged in
          let close = close_line site (begun_list site listen client m answers) now.lane.admitted now.lane.refused in
          record {
            relayed = breaks_all few_turned t.count (breaks_of t.count t.does);
            history = history_of (begun_list site listen client m answers);
            is_short = inl refl;
            judged = js;
            are_judged = stands_items now own t.stands;
            prefixes = stands_prefixes now own t.stands;
            last = close ∷ [];
            is_last = inr (inr (stands_given now own t.stands both_closed, (now.lane.admitted, now.lane.refused, stands_counts now own t.stands, refl)));
            begins = begins _ (begins_last base all part (log_of site (begun_list site listen client m answers) js) close
                (subst (λ x. MayHaveMore (close ∷ []) x all part) (stands_lines now own t.stands)
                (subst (λ k. MayHaveMore (line_about site.first client k (Close now.lane.admitted now.lane.refused) ∷ []) own all part) t.stands.moment may)));
          }

  module _ (now : RelayingValue) (own : Option (List (List ℕ))) (part : List ℕ) (log : LogContents) where
    -- the last answer Idle, which completes their number
    pub stopped_idle : HasStopped dirs site past listen most client m base answers stop.Idle now own part → ((ls : List (List ℕ)) → own ≡ with_lines base ls → log.Holds ls) →
        IsIdleEnd dirs site past listen most log (begun_list site listen client m answers) (done_by now ends.IdleEnd)
    stopped_idle h holds =
        let st = h.stands.0 in
        record {
          judged = st.follows.judged;
          relayed = breaks_all h.some h.count h.breaks;
          are_items = stands_items now own st;
          uncut = stands_uncut now own st;
          idle = sym st.idle ∙ h.stands.1;
          prefixes = stands_prefixes now own st;
          counts = stands_counts now own st;
          holds_log = holds _ (stands_lines now own st);
        }

    -- a call on the links failed
    pub stopped_link : HasStopped dirs site past listen most client m base answers stop.Link now own part → ((ls : List (List ℕ)) → own ≡ with_lines base ls → log.Holds ls) →
        (ended : IsLinkEnd dirs site past listen most log (begun_list site listen client m answers)) × IsCounted ended.goes.judged now.lane.admitted now.lane.refused
    unfolding goes_on
    stopped_link h holds =
        let st = h.stands.0 in (
          record {
            relayed = breaks_all h.some h.count h.breaks;
            goes = goes_on site past most (begun_lines site client m base) (begun_list site listen client m answers) now own st h.stands.1;
            prefixes = stands_prefixes now own st;
            holds_log = holds _ (stands_lines now own st);
          },
          stands_counts now own st,
        )

    -- the line of an item failed
    pub stopped_write : HasStopped dirs site past listen most client m base answers stop.Write now own part → ((ls : List (List ℕ)) → BeginsLines base own part ls → log.Begins ls) →
        IsWriteEnd dirs site past listen most log (begun_list site listen client m answers)
    stopped_write h begins =
        let missed = h.stands in
        record {
          relayed = breaks_all h.some h.count h.breaks;
          history = missed.history;
          is_short = missed.is_short;
          judged = missed.began.judged;
          are_judged = missed.began.are_judged;
          prefixes = missed.prefixes;
          last = [];
          is_last = inl refl;
          begins = begins _
              (subst (BeginsLines base own part) (sym (append-nil (line_about site.first client m Begun ∷ lines site client [] missed.began.judged)))
              (suc missed.began.count, missed.began.some, missed.began.of_lines ∙ lines_both base (line_about site.first client m Begun ∷ []) (take missed.began.count (lines site client [] missed.began.judged)), missed.began.of_part));
        }

    module _ (reason : CutReason) (h : HasStopped dirs site past listen most client m base answers (stop.Cut reason) now own part) where
      -- cut, and the cut line was put
      pub stopped_cut : ((ls : List (List ℕ)) → with_lines own (line_about site.first client now.moment (Cut reason) ∷ []) ≡ with_lines base ls → log.Holds ls) →
          IsCutEnd dirs site past listen most log (begun_list site listen client m answers) (done_by now (ends.Cut reason)) reason
      stopped_cut holds =
          let st = h.stands in
          record {
            judged = st.judged;
            relayed = breaks_all h.some h.count h.breaks;
            are_items = st.are_items;
            is_cut = st.is_cut;
            prefixes = st.prefixes;
            counts = st.counts;
            holds_log = holds _
                (ap (λ x. with_lines x (line_about site.first client now.moment (Cut reason) ∷ [])) (lines_all own st.judged st.of_lines)
                ∙ lines_both base (log_of site (begun_list site listen client m answers) st.judged) (line_about site.first client now.moment (Cut reason) ∷ [])
                ∙ ap (λ k. with_lines base (log_of site (begun_list site listen client m answers) st.judged ++ line_about site.first client k (Cut reason) ∷ [])) st.moment);
          }

      -- it failed: its own lines may have a beginning of it
      pub stopped_unlogged : (all : Option (List (List ℕ))) (rest : List ℕ) → MayHaveMore (line_about site.first client now.moment (Cut reason) ∷ []) own all rest →
          ((ls : List (List ℕ)) → BeginsLines base all rest ls → log.Begins ls) → IsWriteEnd dirs site past listen most log (begun_list site listen client m answers)
      stopped_unlogged all rest may begins =
          let st = h.stands in
          let line = cut_line site (begun_list site listen client m answers) reason in
          record {
            relayed = breaks_all h.some h.count h.breaks;
            history = history_of (begun_list site listen client m answers);
            is_short = inl refl;
            judged = st.judged;
            are_judged = st.are_items;
            prefixes = st.prefixes;
            last = line ∷ [];
            is_last = inr (inl (reason, st.is_cut, refl));
            begins = begins _ (begins_last base all rest (log_of site (begun_list site listen client m answers) st.judged) line
                (subst (λ x. MayHaveMore (line ∷ []) x all rest) (lines_all own st.judged st.of_lines)
                (subst (λ k. MayHaveMore (line_about site.first client k (Cut reason) ∷ []) own all rest) st.moment may)));
          }
