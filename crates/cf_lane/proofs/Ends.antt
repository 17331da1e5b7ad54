-- The law of an End.
use Rattle.cf_lane.specs.Caller.{RateMoments, caller_at}
use Rattle.cf_lane.proofs.Saying.{all_still_known}
use Rattle.cf_lane.specs.Rings.{KnowsRules}
use Rattle.cf_lane.proofs.Earlier.{cut_of-append, in_turn-append, wire_stays}
use Rattle.cf_lane.proofs.Handling.{count-more, ended-more, with_lines-nothing}
use Rattle.cf_lane.proofs.Histories.{began_by, bytes_of-append, judged_more, lines_after, no_bytes, rest_by, same_stream, stands_end}
use Rattle.cf_lane.proofs.Sides.{at_both, other_again, other_side, same_side}
use Rattle.cf_lane.specs.Follows.{AddsTo, AreJudged, AreRests, Began, BeganApart, Follows, IsRest, Rests, over, rest_of}
use Rattle.cf_lane.specs.Handled.{EndsOther, IsOpen, Knows, LaneValue, MayHaveMore, State, judged}
use Rattle.cf_lane.specs.History.{Element, bytes_of, end_at}
use Rattle.cf_lane.specs.Item.{Completes, Ended, Placed, placed}
use Rattle.cf_lane.specs.Judged.{Judged, ends, has_ended, is_admitted, is_refused}
use Rattle.cf_lane.specs.Kept.{KnowsWire}
use Rattle.cf_lane.specs.Log.{end_lines, has_unfinished, item_lines, lines, with_lines}
use Rattle.cf_lane.specs.Numbers.{item_event}
use Rattle.cf_lane.specs.Output.{other, output, outputs, stream_to}
use Rattle.cf_lane.specs.Unit.{AreUnits, Left}
use Rattle.cf_outq.specs.SendQueue.{IsQueueOf, Queue, after_end}
use Rattle.cf_policy.specs.Site.{SiteValue}
use Rattle.cf_stream.specs.Stream.{with_end}
use Rattle.cf_view.specs.declared.Endpoint.{Endpoint}
use Rattle.cf_view.specs.declared.Side.{Side}
use Rattle.std.proofs.Common.{Bool, List, None, Option, [], ap, arith, false, inl, inr, length, refl, subst, sym, take, true, ℕ, ◌++◌, ◌∙◌, ◌∷◌, ◌≡◌}
use Rattle.std.proofs.lemmas.Bool.{or_right}
use Rattle.std.proofs.lemmas.List.{append-nil}
use Rattle.std.proofs.lemmas.List.Folds.{list_any-append}
use Rattle.std.specs.List.{concat}
use Rattle.cf_lane.specs.declared.fate.Fate.TheVariants as fate
use Rattle.cf_view.specs.declared.Side.TheVariants as side

-- an End ends its side, and not the other
ends_now : (s : Side) (m n : ℕ) (js : List Judged) → has_ended s (js ++ judged m (Ended s n) fate.Carried ∷ []) ≡ true
ends_now s m n js =
    list_any-append (λ i. ends s i.item) js (judged m (Ended s n) fate.Carried ∷ []) ∙ rw (same_side s) (or_right (has_ended s js) true refl)

abbrev queue_to : Side → State → Queue
queue_to side.Client st = st.to_client
queue_to side.Controller st = st.to_controller

-- the other queue is open until its End
other_open : (s : Side) (st : State) → IsOpen s st.to_client st.to_controller → (queue_to (other s) st).ended ≡ false
other_open side.Client st goes = goes
other_open side.Controller st goes = goes

end_put : (s : Side) (old new : State) → EndsOther s old.to_client old.to_controller new.to_client new.to_controller →
    (queue_to s new ≡ queue_to s old) × (queue_to (other s) new ≡ after_end (queue_to (other s) old))
end_put side.Client old new queues = queues
end_put side.Controller old new queues = (queues.1, queues.0)

-- what is known of the queue to a side
module _ (site : SiteValue) (past : RateMoments) (h : List Element) (rests : Rests) (first : Option (List (List ℕ))) (old : State) (f : Follows site past h rests None first old) where
  knows_end : (t : Side) → (queue_to t old).ended ≡ has_ended (other t) f.judged
  knows_end side.Client = f.knows.client_ended
  knows_end side.Controller = f.knows.controller_ended

  knows_stream : (t : Side) → IsQueueOf (queue_to t old) (stream_to site t f.judged)
  knows_stream side.Client = f.client_stream
  knows_stream side.Controller = f.controller_stream

end_event : (s : Side) (n : ℕ) (earlier : List Judged) → item_event earlier fate.Carried (Ended s n) ≡ []
end_event side.Client n earlier = refl
end_event side.Controller n earlier = refl

module _ (site : SiteValue) (past : RateMoments) (unfinished : Bool) (h : List Element) (rests : Rests) (first : Option (List (List ℕ))) (moment : ℕ) (s : Side) (rest : ℕ) (old new : State)
    (is : rest ≡ length (rest_of s rests)) (f : Follows site past h rests None first old) (goes : IsOpen s old.to_client old.to_controller)
    (lane : new.lane ≡ old.lane)
    (text : new.lines ≡ with_lines old.lines (end_lines site.first old.lane.client moment s unfinished rest))
    (left : unfinished ≡ has_unfinished site site.first.protocol s f.judged) where
  abbrev e : Element
  e = end_at moment s

  abbrev j : Judged
  j = judged moment (Ended s (length (rest_of s rests))) fate.Carried

  abbrev now : List Placed
  now = placed moment (Ended s (length (rest_of s rests))) ∷ []

  same_bytes : (t : Side) → bytes_of t (h ++ e ∷ []) ≡ bytes_of t h
  same_bytes t = bytes_of-append t h e ∙ ap (λ xs. bytes_of t h ++ xs) (no_bytes s t moment) ∙ append-nil (bytes_of t h)

  rest_now : IsRest site.first.protocol (bytes_of s h) (rest_of s rests)
  rest_now = rest_by site.first.protocol h rests s f.are_rests

  completes : Completes site.first.protocol h e now
  completes = record {
    before = rest_now.units;
    was = Left (rest_of s rests);
    more = [];
    tail = Left (rest_of s rests);
    were = rest_now.cut;
    are = subst (λ us. AreUnits site.first.protocol (bytes_of s (h ++ e ∷ [])) us (Left (rest_of s rests))) (sym (append-nil rest_now.units))
        (subst (λ xs. AreUnits site.first.protocol xs rest_now.units (Left (rest_of s rests))) (sym (same_bytes s)) rest_now.cut);
    is_items = refl;
  }

  are_judged_now : AreJudged site (caller_at old.lane.client.address past) (h ++ e ∷ []) (f.judged ++ j ∷ [])
  are_judged_now = judged_more site (caller_at old.lane.client.address past) h e f.judged (j ∷ []) now [] f.are_judged f.is_cut completes refl refl (refl, tt)

  -- nothing goes out
  bytes_now : (to : Side) → outputs site to [] (f.judged ++ j ∷ []) ≡ outputs site to [] f.judged
  bytes_now to = in_turn-append (output site to) [] f.judged (j ∷ []) ∙ append-nil (outputs site to [] f.judged)

  end_lines_are : end_lines site.first old.lane.client moment s unfinished rest ≡ lines site old.lane.client f.judged (j ∷ [])
  end_lines_are =
      ap (λ n. end_lines site.first old.lane.client moment s unfinished n) is
      ∙ ap (λ b. end_lines site.first old.lane.client moment s b (length (rest_of s rests))) left ∙ sym (append-nil (item_lines site old.lane.client f.judged j j.item))

  knows_now : (new.to_client.ended ≡ has_ended side.Controller (f.judged ++ j ∷ [])) → (new.to_controller.ended ≡ has_ended side.Client (f.judged ++ j ∷ [])) →
      Knows site past new (f.judged ++ j ∷ [])
  knows_now c k = record {
    admitted = ap (λ l. l.admitted) lane ∙ f.knows.admitted ∙ sym (count-more (λ i. is_admitted i.fate) f.judged j ∙ omega arith);
    refused = ap (λ l. l.refused) lane ∙ f.knows.refused ∙ sym (count-more (λ i. is_refused i.fate) f.judged j ∙ omega arith);
    client_ended = c;
    controller_ended = k;
    rules = subst (λ r. KnowsRules site past r (f.judged ++ j ∷ [])) (sym (ap (λ l. l.rules) lane)) (all_still_known site past old.lane.rules f.judged j refl f.knows.rules);
    wire = λ e. subst (λ w. KnowsWire site w (f.judged ++ j ∷ [])) (sym (ap (λ l. l.wire) lane))
        (wire_stays site f.judged j (λ a t. refl) (λ a t b. refl) (end_event s (length (rest_of s rests)) f.judged) old.lane.wire (f.knows.wire f.is_cut));
  }

  rests_now : AreRests site.first.protocol (h ++ e ∷ []) rests None
  rests_now = (
    subst (λ xs. IsRest site.first.protocol xs rests.client) (sym (same_bytes side.Client)) f.are_rests.0,
    subst (λ xs. IsRest site.first.protocol xs rests.controller) (sym (same_bytes side.Controller)) f.are_rests.1,
  )

  by_parts : Knows site past new (f.judged ++ j ∷ []) → IsQueueOf new.to_client (stream_to site side.Client (f.judged ++ j ∷ [])) →
      IsQueueOf new.to_controller (stream_to site side.Controller (f.judged ++ j ∷ [])) → Follows site past (h ++ e ∷ []) rests None first new
  by_parts knows c k = record {
    judged = f.judged ++ j ∷ [];
    are_judged = subst (λ (l : LaneValue). AreJudged site (caller_at l.client.address past) (h ++ e ∷ []) (f.judged ++ j ∷ [])) (sym lane) are_judged_now;
    is_cut = cut_of-append f.judged (j ∷ []) f.is_cut;
    are_rests = rests_now;
    knows = knows;
    client_stream = c;
    controller_stream = k;
    of_lines = text ∙ ap (with_lines old.lines) end_lines_are ∙ lines_after site old.lane.client first old.lines f.judged (j ∷ []) f.of_lines
        ∙ ap (λ l. with_lines first (lines site l.client [] (f.judged ++ j ∷ []))) (sym lane);
  }

  abbrev Stands : Side → Type 0
  Stands t = ((queue_to t new).ended ≡ has_ended (other t) (f.judged ++ j ∷ [])) × IsQueueOf (queue_to t new) (stream_to site t (f.judged ++ j ∷ []))

  stands_own : queue_to s new ≡ queue_to s old → Stands s
  stands_own same =
      let goes_on = ended-more (other s) f.judged j (other_side s) in
      let stream = same_stream (stream_to site s (f.judged ++ j ∷ [])) (stream_to site s f.judged) (bytes_now s) goes_on in
      (ap (λ (q : Queue). q.ended) same ∙ knows_end site past h rests first old f s ∙ sym goes_on, rw (same, stream) (knows_stream site past h rests first old f s))

  stands_other : queue_to (other s) new ≡ after_end (queue_to (other s) old) → Stands (other s)
  stands_other same =
      let ends : has_ended (other (other s)) (f.judged ++ j ∷ []) ≡ true =
      ap (λ t. has_ended t (f.judged ++ j ∷ [])) (other_again s) ∙ ends_now s moment (length (rest_of s rests)) f.judged in
      let before = stream_to site (other s) f.judged in
      let stream = same_stream (stream_to site (other s) (f.judged ++ j ∷ [])) (with_end before) (bytes_now (other s)) ends in (
        ap (λ (q : Queue). q.ended) same ∙ sym ends,
        rw (same, stream) (stands_end (queue_to (other s) old) before (other_open s old goes) (knows_stream site past h rests first old f (other s))),
      )

  follows_by : EndsOther s old.to_client old.to_controller new.to_client new.to_controller → Follows site past (h ++ e ∷ []) rests None first new
  follows_by queues =
      let put = end_put s old new queues in
      let both = at_both s Stands (stands_own put.0) (stands_other put.1) in
      by_parts (knows_now both.0.0 both.1.0) both.0.1 both.1.1

  -- where the line failed, the log has the first lines
  end_began_by : (log : Option (List (List ℕ))) (part : List ℕ) → MayHaveMore (end_lines site.first old.lane.client moment s unfinished rest) old.lines log part →
      Began site past old.lane.client (h ++ e ∷ []) first log part
  end_began_by log part (inl none) =
      let behind = ap (λ b. lines site old.lane.client b (j ∷ [])) (sym (append-nil f.judged)) in
      began_by site past old.lane.client (h ++ e ∷ []) first old.lines log part f.judged (j ∷ []) [] (j ∷ []) none.1.0 are_judged_now refl f.of_lines
      (none.0 ∙ sym (with_lines-nothing old.lines)) (none.1.1 ∙ ap (λ xs. take none.1.0 (concat xs)) (end_lines_are ∙ behind))
  end_began_by log part (inr all) =
      began_by site past old.lane.client (h ++ e ∷ []) first old.lines log part f.judged (j ∷ []) (j ∷ []) [] 0 are_judged_now refl f.of_lines
      (all.0 ∙ ap (with_lines old.lines) end_lines_are) all.1

pub follows_end : (site : SiteValue) (past : RateMoments) (unfinished : Bool) (h : List Element) (rests : Rests) (first : Option (List (List ℕ))) (moment : ℕ) (s : Side) (rest : ℕ) (old new : State) →
    ((earlier : List Judged) → KnowsWire site old.lane.wire earlier → unfinished ≡ has_unfinished site site.first.protocol s earlier) →
    rest ≡ length (rest_of s rests) → Follows site past h rests None first old → IsOpen s old.to_client old.to_controller →
    new.lane ≡ old.lane → EndsOther s old.to_client old.to_controller new.to_client new.to_controller →
    new.lines ≡ with_lines old.lines (end_lines site.first old.lane.client moment s unfinished rest) →
    Follows site past (h ++ end_at moment s ∷ []) rests None first new
follows_end site past unfinished h rests first moment s rest old new left is f goes lane queues text =
    follows_by site past unfinished h rests first moment s rest old new is f goes lane text (left f.judged (f.knows.wire f.is_cut)) queues

-- over lines of its own
module _ (site : SiteValue) (unfinished : Bool) (moment : ℕ) (s : Side) (rest : ℕ) (old : State)
    (left : (earlier : List Judged) → KnowsWire site old.lane.wire earlier → unfinished ≡ has_unfinished site site.first.protocol s earlier) (goes : IsOpen s old.to_client old.to_controller) where
  pub end_apart : (new : State) → new.lane ≡ old.lane → EndsOther s old.to_client old.to_controller new.to_client new.to_controller →
      new.lines ≡ with_lines old.lines (end_lines site.first old.lane.client moment s unfinished rest) →
      (past : RateMoments) (h : List Element) (rests : Rests) (first own : Option (List (List ℕ))) → rest ≡ length (rest_of s rests) → Follows site past h rests None first (over own old) →
      AddsTo site past (h ++ end_at moment s ∷ []) rests None first own old.lines new
  end_apart new lane queues text past h rests first own is f =
      let more = end_lines site.first old.lane.client moment s unfinished rest in record {
        more = more;
        added = text;
        follows = follows_end site past unfinished h rests first moment s rest (over own old) (over (with_lines own more) new) left is f goes lane queues refl;
      }

  -- where the line failed, the log has the first lines
  pub end_fails_apart : (client : Endpoint) → client ≡ old.lane.client → (log : Option (List (List ℕ))) (part : List ℕ) →
      MayHaveMore (end_lines site.first client moment s unfinished rest) old.lines log part →
      (past : RateMoments) (h : List Element) (rests : Rests) (first own : Option (List (List ℕ))) → rest ≡ length (rest_of s rests) → Follows site past h rests None first (over own old) →
      BeganApart site past old.lane.client (h ++ end_at moment s ∷ []) first own old.lines log part
  end_fails_apart client same log part either past h rests first own is f =
      let lines = end_lines site.first old.lane.client moment s unfinished rest in
      let began = end_began_by site past unfinished h rests first moment s rest (over own old) (over (with_lines own lines) old) is f goes refl refl (left f.judged (f.knows.wire f.is_cut)) in
      elim (subst (λ (c : Endpoint). MayHaveMore (end_lines site.first c moment s unfinished rest) old.lines log part) same either) [
        | inl none ↦ record { more = []; added = none.0 ∙ sym (with_lines-nothing old.lines); began = began (with_lines own []) part (inl (with_lines-nothing own, none.1)) }
        | inr all ↦ record { more = lines; added = all.0; began = began (with_lines own lines) part (inr (refl, all.1)) }
      ]

  -- so has the whole log
  pub end_fails : (client : Endpoint) → client ≡ old.lane.client → (log : Option (List (List ℕ))) (part : List ℕ) →
      MayHaveMore (end_lines site.first client moment s unfinished rest) old.lines log part →
      (past : RateMoments) (h : List Element) (rests : Rests) (first : Option (List (List ℕ))) → rest ≡ length (rest_of s rests) → Follows site past h rests None first old →
      Began site past old.lane.client (h ++ end_at moment s ∷ []) first log part
  end_fails client same log part either past h rests first is f =
      let a = end_fails_apart client same log part either past h rests first old.lines is f in
      subst (λ l. Began site past old.lane.client (h ++ end_at moment s ∷ []) first l part) (sym a.added) a.began
