-- A lane to which nothing was handed.
use Rattle.cf_lane.specs.Caller.{Caller, newcomer, none_before}
use Rattle.std.proofs.Common.{◌≡◌, ℕ, List, [], ◌∷◌, ◌++◌, map, Option, None, refl, sym, ◌∙◌, subst}
use Rattle.cf_lane.specs.Follows.{AreJudged, Follows, no_rests}
use Rattle.cf_lane.specs.Handled.{Knows, LaneValue, state}
use Rattle.cf_lane.specs.Item.{Placed}
use Rattle.cf_lane.specs.Judged.{Judged, has_ended, place_of}
use Rattle.cf_outq.specs.SendQueue.{Queue}
use Rattle.cf_policy.specs.Site.{SiteValue}
use Rattle.cf_view.specs.declared.Endpoint.{Endpoint}
use Rattle.cf_view.specs.declared.Side.TheVariants as side
use Rattle.cf_session.specs.Parts.{IsLaneAfter}
use Rattle.cf_session.specs.Work.{no_work}

none_of : (js : List Judged) (dropped : List Placed) → [] ≡ map place_of js ++ dropped → js ≡ []
none_of [] dropped e = refl
none_of (j ∷ js) dropped e = cc

none_judged : (site : SiteValue) (client : Caller) (js : List Judged) → AreJudged site client [] js → js ≡ []
none_judged site client js a = none_of js a.dropped (sym a.are_items ∙ a.are_first)

-- what a lane knows hangs on its queues by their Ends alone
pub knows_on : (site : SiteValue) (lane : LaneValue) (c k c' k' : Queue) (log log' : Option (List (List ℕ))) (js : List Judged) → Knows site none_before (state lane c k log) js →
    c'.ended ≡ has_ended side.Controller js → k'.ended ≡ has_ended side.Client js → Knows site none_before (state lane c' k' log') js
knows_on site lane c k c' k' log log' js h a b = record { admitted = h.admitted; refused = h.refused; client_ended = a; controller_ended = b; rules = h.rules; wire = h.wire }

pub lane_begins : (site : SiteValue) (client : Endpoint) (lane : LaneValue) (c k : Queue) → lane.client ≡ client →
    Follows site none_before [] no_rests None None (state lane c k None) → IsLaneAfter site client lane no_rests [] no_work
lane_begins site client lane c k is f =
    let none = none_judged site (newcomer lane.client.address) f.judged f.are_judged in
    let are : AreJudged site (newcomer client.address) [] [] = subst (λ (e : Endpoint). AreJudged site (newcomer e.address) [] []) is (subst (AreJudged site (newcomer lane.client.address) []) none f.are_judged) in
    let knows : Knows site none_before (state lane c k None) [] = subst (Knows site none_before (state lane c k None)) none f.knows in
    record {
      works = record { judged = []; are_judged = are; is_work = refl };
      is_client = is;
      are_rests = f.are_rests;
      knows = λ c' k' log a b. knows_on site lane c k c' k' None log [] knows a b;
    }
