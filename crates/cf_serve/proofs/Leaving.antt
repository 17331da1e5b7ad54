-- A turn, from what the relay did in it and the last line, to what it leaves of the session.
use Rattle.cf_lane.specs.Caller.{RateMoments, caller_at}
use Rattle.cf_lane.specs.Ring.{RingValue}
use Rattle.std.proofs.Common.{Bool, Err, List, None, Ok, Option, Result, Some, ap, refl, subst, sym, true, false, ℕ, []}
use Rattle.std.proofs.Common.{◌++◌, ◌<◌, ◌∙◌, ◌∷◌, ◌≡◌}
use Rattle.std.specs.Prelude.{IfErr, IsTrue, OnOk, ◌↔◌}
use Rattle.std.proofs.lemmas.Option.{none-some, same_Some}
use Rattle.cf_audit.specs.Line.{Lost, Silent, WhatValue}
use Rattle.cf_lane.specs.Log.{line_about, with_lines}
use Rattle.cf_links.specs.LinkValue.{LinkValue}
use Rattle.cf_outside.specs.Desk.{DeskValue}
use Rattle.cf_outside.specs.Pair.{Entry}
use Rattle.cf_policy.specs.Site.{SiteValue}
use Rattle.cf_relay.proofs.Turned.{stopped_cut, stopped_idle, stopped_link, turned_done, turned_more, turned_stops}
use Rattle.cf_relay.specs.Closing.{done_by}
use Rattle.cf_relay.specs.Relaying.{AreClosed, IsSound, RelayingValue}
use Rattle.cf_relay.specs.Scene.{DoesBetween, StopsBetween, scene}
use Rattle.cf_relay.specs.Taken.{KeepsLane}
use Rattle.cf_lane.specs.Follows.{AreJudged}
use Rattle.cf_relay.specs.Answers.{history_of}
use Rattle.cf_relay.specs.Stands.{StandsFor}
use Rattle.cf_relay.specs.Turn.{turn}
use Rattle.cf_relay.specs.Turned.{HasStopped, HasTurned, begun_lines, begun_list}
use Rattle.cf_relay.specs.declared.directions.Directions.TheVariants as both
use Rattle.cf_relay.specs.declared.done.RelayEnd.TheVariants as ends
use Rattle.cf_relay.specs.declared.stop.Stop.{Stop}
use Rattle.cf_relay.specs.declared.stop.Stop.TheVariants as stop
use Rattle.cf_view.specs.declared.Endpoint.{Endpoint}
use Rattle.cf_serve.proofs.Missing.{write_fails}
use Rattle.cf_serve.specs.Broken.{FailsSo}
use Rattle.cf_serve.specs.Failing.{EndsTurn, MissesTurn, TakesNone}
use Rattle.cf_serve.specs.Phase.{HasLane, KnowsOf, LinkedValue, StandsLinked, TurnDoes, end_of, last_value}
use Rattle.cf_serve.specs.Session.{EndsSo, Listening, lost_line, own_log, silent_line, with_last}
use Rattle.cf_serve.specs.declared.debt.Debt.{Debt}
use Rattle.cf_serve.specs.declared.end.SessionEnd.{SessionEnd}
use Rattle.cf_serve.specs.declared.end.SessionEnd.TheVariants as end

abbrev linked : Endpoint → RelayingValue → Debt → LinkedValue
linked met now debt = record { met = met; now = now; debt = debt }

-- a relay that answered neither an end nor a failed write went on
went_on : {X : Type 0} (r : Result Unit Stop) (closed : Bool) → end_of r closed ≡ None → (r ≡ Err stop.Write → ⊥) → OnOk r X → X
went_on (Ok u) closed is fine x = x
went_on (Err stop.Write) closed is fine x = absurd (fine refl)
went_on (Err stop.Idle) closed is fine x = cc
went_on (Err stop.Link) closed is fine x = cc
went_on (Err (stop.Cut reason)) closed is fine x = cc

-- a last line that says the same at the same moment
pub said : (site : SiteValue) (met : Endpoint) (k k' : ℕ) (w : WhatValue) (e : SessionEnd) (a a' r r' : ℕ) → k ≡ k' → w ≡ last_value e a r → a ≡ a' → r ≡ r' →
    line_about site.first met k w ≡ line_about site.first met k' (last_value e a' r')
said site met k k' w e a a' r r' p q s t = rw (p, q, s, t)

module _ (at : Listening) (most : ℕ) (client met : Endpoint) (old new : RelayingValue) (link link' : LinkValue) (d d' : DeskValue) (few : old.idle < most) (debt : Debt) where
  -- what holds of a relay that made a turn more holds of its session
  turned_so : (before : RateMoments) (does : DoesBetween at.site most (turn both.Separate) (scene old link d) (scene new link' d')) → new.idle < most → (P : List Entry → List (List ℕ) → Type 0) →
      ((m : ℕ) (answers : List Entry) (own : List (List ℕ)) → HasTurned both.Separate at.site before at.port most met m (Some []) answers new (Some own) → P (begun_list at.site at.port met m answers) own) →
      (es : List Entry) (own : List (List ℕ)) → StandsLinked at before most es own (linked met old debt) →
      (lines : List (List ℕ)) × ((d'.lines ≡ with_lines d.lines lines) × P (es ++ does.answers) (own ++ lines))
  turned_so before does fewer P f es own hs =
      let t = turned_more both.Separate at.site before at.port most met hs.moment (Some []) hs.answers (scene old link d) (scene new link' d') (Some own)
      (record { count = hs.count; does = hs.does; stands = hs.stands; few = few }) does fewer in
      (t.more, (t.added, subst (λ (xs : List Entry). P (xs ++ does.answers) (own ++ t.more)) (sym hs.split) (f hs.moment (hs.answers ++ does.answers) (own ++ t.more) t.stands)))

  -- and so of one that stopped within it
  stopped_so : (before : RateMoments) (why : Stop) (stops : StopsBetween at.site most (turn both.Separate) why (scene old link d) (scene new link' d')) → (P : List Entry → List (List ℕ) → Type 0) →
      ((m : ℕ) (answers : List Entry) (own : List (List ℕ)) → HasStopped both.Separate at.site before at.port most met m (Some []) answers why new (Some own) d'.line_part →
      P (begun_list at.site at.port met m answers) own) → (es : List Entry) (own : List (List ℕ)) → StandsLinked at before most es own (linked met old debt) →
      (lines : List (List ℕ)) × ((d'.lines ≡ with_lines d.lines lines) × P (es ++ stops.answers) (own ++ lines))
  stopped_so before why stops P f es own hs =
      let t = turned_stops both.Separate at.site before at.port most met hs.moment (Some []) hs.answers (scene old link d) (scene new link' d') why (Some own)
      (record { count = hs.count; does = hs.does; stands = hs.stands; few = few }) stops in
      (t.more, (t.added, subst (λ (xs : List Entry). P (xs ++ stops.answers) (own ++ t.more)) (sym hs.split) (f hs.moment (hs.answers ++ stops.answers) (own ++ t.more) t.stands)))

  abbrev pub last_line : SessionEnd → List ℕ
  last_line e = line_about at.site.first met new.moment (last_value e new.lane.admitted new.lane.refused)

  -- a turn ends the session, but for its last line
  abbrev pub Ends : SessionEnd → Type 0
  Ends e = EndsTurn at most client link.told link'.told d.lines d'.lines (last_line e) (Some (linked met old debt)) (Some (linked met new debt)) e

  -- with the numbers of the items, and what the rules know of them
  abbrev Counted : (before : RateMoments) → List Entry → Type 0
  Counted before es = KnowsOf at before es (Some (linked met new debt))

  -- a relay that stands for its list knows its items
  known : (before : RateMoments) (m : ℕ) (answers : List Entry) (first log : Option (List (List ℕ))) → StandsFor at.site before first (begun_list at.site at.port met m answers) new log →
      Counted before (begun_list at.site at.port met m answers)
  known before m answers first log h =
      let f = h.follows in
      let items = subst (λ (c : Endpoint). AreJudged at.site (caller_at c.address before) (history_of (begun_list at.site at.port met m answers)) f.judged) h.client f.are_judged in
      (f.judged, (items, (record { admitted = f.knows.admitted; refused = f.knows.refused }, f.knows.rules)))

  -- the last one, after which both sides are closed
  closing : DoesBetween at.site most (turn both.Separate) (scene old link d) (scene new link' d') → new.idle < most → AreClosed new → Ends end.Closed
  closing does fewer closed = record {
    answers = does.answers;
    tells = does.adds.tells;
    ends = λ before. turned_so before does fewer (λ es own. EndsSo at before most client es (own ++ last_line end.Closed ∷ []) end.Closed × Counted before es) (λ m answers own t.
        let x = turned_done both.Separate at.site before at.port most met m (Some []) answers new (Some own) t (own_log (own ++ last_line end.Closed ∷ [])) closed (λ ls e. same_Some (own ++ last_line end.Closed ∷ []) ls e) in
        ((done_by new ends.Done, x), known before m answers (begun_lines at.site met m (Some [])) (Some own) t.stands));
  }

  -- one that stopped
  stopping : (why : Stop) → StopsBetween at.site most (turn both.Separate) why (scene old link d) (scene new link' d') → (e : SessionEnd) →
      ((before : RateMoments) (m : ℕ) (answers : List Entry) (own : List (List ℕ)) →
      HasStopped both.Separate at.site before at.port most met m (Some []) answers why new (Some own) d'.line_part →
      EndsSo at before most client (begun_list at.site at.port met m answers) (own ++ last_line e ∷ []) e × Counted before (begun_list at.site at.port met m answers)) → Ends e
  stopping why stops e f = record {
    answers = stops.answers;
    tells = stops.adds.tells;
    ends = λ before. stopped_so before why stops (λ es own. EndsSo at before most client es (own ++ last_line e ∷ []) e × Counted before es) (f before);
  }

  -- its last line says the greatest moment told
  behind : (w : WhatValue) (own ls : List (List ℕ)) (k : ℕ) → Some own ≡ Some ls → new.moment ≡ k → own ++ line_about at.site.first met new.moment w ∷ [] ≡ ls ++ line_about at.site.first met k w ∷ []
  behind w own ls k same is = ap (λ xs. xs ++ line_about at.site.first met new.moment w ∷ []) (same_Some own ls same) ∙ ap (λ n. ls ++ line_about at.site.first met n w ∷ []) is

  stops_so : (why : Stop) (closed : Bool) (e : SessionEnd) → StopsBetween at.site most (turn both.Separate) why (scene old link d) (scene new link' d') → end_of (Err why) closed ≡ Some e → Ends e
  stops_so stop.Write closed e stops is = absurd (none-some e is)
  stops_so stop.Idle closed e stops is = subst Ends (same_Some _ _ is) (stopping stop.Idle stops end.Silent (λ before m answers own h.
      let x = stopped_idle both.Separate at.site before at.port most met m (Some []) answers new (Some own) d'.line_part
      (with_last (own ++ last_line end.Silent ∷ []) (silent_line at.site (begun_list at.site at.port met m answers) new.lane.admitted new.lane.refused)) h
      (λ ls same. behind (Silent new.lane.admitted new.lane.refused) own ls _ same h.stands.0.moment) in
      ((done_by new ends.IdleEnd, x), known before m answers (begun_lines at.site met m (Some [])) (Some own) h.stands.0)))
  stops_so stop.Link closed e stops is = subst Ends (same_Some _ _ is) (stopping stop.Link stops end.Lost (λ before m answers own h.
      let t = stopped_link both.Separate at.site before at.port most met m (Some []) answers new (Some own) d'.line_part
      (with_last (own ++ last_line end.Lost ∷ []) (lost_line at.site (begun_list at.site at.port met m answers) new.lane.admitted new.lane.refused)) h
      (λ ls same. behind (Lost new.lane.admitted new.lane.refused) own ls _ same h.stands.0.moment) in
      (record { admitted = new.lane.admitted; refused = new.lane.refused; ended = t.0; counts = t.1 }, known before m answers (begun_lines at.site met m (Some [])) (Some own) h.stands.0)))
  stops_so (stop.Cut reason) closed e stops is = subst Ends (same_Some _ _ is) (stopping (stop.Cut reason) stops (end.Cut reason) (λ before m answers own h.
      let x = stopped_cut both.Separate at.site before at.port most met m (Some []) answers new (Some own) d'.line_part (own_log (own ++ last_line (end.Cut reason) ∷ [])) reason h (λ ls same. same_Some (own ++ last_line (end.Cut reason) ∷ []) ls same) in
      ((done_by new (ends.Cut reason), x), (h.stands.judged, (h.stands.are_items, (h.stands.counts, h.stands.rules))))))

  -- the turn that is the last, by what the relay answered
  pub ending : (r : Result Unit Stop) (closed : Bool) (e : SessionEnd) →
      OnOk r (DoesBetween at.site most (turn both.Separate) (scene old link d) (scene new link' d')) → OnOk r (IsSound at.site most new) →
      IfErr r (λ why. StopsBetween at.site most (turn both.Separate) why (scene old link d) (scene new link' d')) →
      (IsTrue closed ↔ AreClosed new) → end_of r closed ≡ Some e → Ends e
  ending (Ok u) true e does sound stops both is = subst Ends (same_Some _ _ is) (closing does sound.few (both.0 refl))
  ending (Ok u) false e does sound stops both is = absurd (none-some e is)
  ending (Err why) closed e does sound stops both is = stops_so why closed e stops is

  -- a line amid a turn failed
  pub unlogged : (r : Result Unit Stop) → IfErr r (λ why. StopsBetween at.site most (turn both.Separate) why (scene old link d) (scene new link' d')) →
      r ≡ Err stop.Write → MissesTurn at most client link.told link'.told d.lines d'.lines d'.line_part (Some (linked met old debt))
  unlogged r stops is =
      let s : StopsBetween at.site most (turn both.Separate) stop.Write (scene old link d) (scene new link' d') =
      subst (λ (x : Result Unit Stop). IfErr x (λ why. StopsBetween at.site most (turn both.Separate) why (scene old link d) (scene new link' d'))) is stops in
      record {
        answers = s.answers;
        tells = s.adds.tells;
        fails = λ before. stopped_so before stop.Write s (λ es own. FailsSo at before most client es own d'.line_part × TakesNone (Some (linked met old debt)) es)
            (λ m answers own h. (write_fails at most client before met m answers new own d'.line_part h, tt));
      }

  -- the turn behind which it stands, by what the relay answered, where that is no failed write
  pub standing : (left : Option (List (List RingValue))) (debt' : Debt) (r : Result Unit Stop) (closed : Bool) →
      OnOk r (DoesBetween at.site most (turn both.Separate) (scene old link d) (scene new link' d')) → OnOk r (IsSound at.site most new) → end_of r closed ≡ None → (r ≡ Err stop.Write → ⊥) →
      TurnDoes at left most client link.told link'.told d.lines d'.lines (Some (linked met old debt)) (Some (linked met new debt')) None
  standing left debt' r closed does sound is fine =
      let t : DoesBetween at.site most (turn both.Separate) (scene old link d) (scene new link' d') = went_on r closed is fine does in
      record {
        answers = t.answers;
        tells = t.adds.tells;
        leaves = λ before es own begins. turned_so before t (went_on r closed is fine sound).few (λ es own. StandsLinked at before most es own (linked met new debt'))
            (λ m answers own h. record { moment = m; count = h.count; answers = answers; split = refl; does = h.does; stands = h.stands }) es own;
      }

-- the lane of a relay that answered anything but a failed write is the asset's still
lane_kept : (site : SiteValue) (met : Endpoint) (debt : Debt) (new : RelayingValue) (why : Stop) → (why ≡ stop.Write → ⊥) → KeepsLane site new.lane why → HasLane site (Some (linked met new debt))
lane_kept site met debt new stop.Idle fine h = h
lane_kept site met debt new stop.Link fine h = h
lane_kept site met debt new stop.Write fine h = absurd (fine refl)
lane_kept site met debt new (stop.Cut reason) fine h = h

pub lane_by : (site : SiteValue) (most : ℕ) (met : Endpoint) (debt : Debt) (new : RelayingValue) (r : Result Unit Stop) → (r ≡ Err stop.Write → ⊥) → OnOk r (IsSound site most new) →
    IfErr r (KeepsLane site new.lane) → HasLane site (Some (linked met new debt))
lane_by site most met debt new (Ok u) fine sound lane = sound.of_site
lane_by site most met debt new (Err why) fine sound lane = lane_kept site met debt new why (λ is. fine (ap Err is)) lane
