-- The numbers of a lane.
use Rattle.cf_lane.specs.Caller.{none_before}
use Rattle.std.proofs.Common.{◌≡◌, List, None, sym, ap, ◌∙◌}
use Rattle.cf_lane.specs.Follows.{Rests}
use Rattle.cf_lane.specs.Handled.{Knows, LaneValue, state}
use Rattle.cf_lane.specs.History.{Element}
use Rattle.cf_outq.specs.SendQueue.{IsQueueOf, Queue}
use Rattle.cf_policy.specs.Site.{SiteValue}
use Rattle.cf_view.specs.declared.Endpoint.{Endpoint}
use Rattle.cf_session.specs.Parts.{IsLaneAfter}
use Rattle.cf_session.specs.Work.{Work}

module _ (site : SiteValue) (client : Endpoint) (lane : LaneValue) (r : Rests) (h : List Element) (w : Work) (c k : Queue) (l : IsLaneAfter site client lane r h w) (qc : IsQueueOf c w.to_client) (qk : IsQueueOf k w.to_controller) where
  knows : Knows site none_before (state lane c k None) l.works.judged
  knows = l.knows c k None (qc.ended ∙ ap (λ (x : Work). x.to_client.ended) l.works.is_work) (qk.ended ∙ ap (λ (x : Work). x.to_controller.ended) l.works.is_work)

  pub admitted_is : lane.admitted ≡ w.admitted
  admitted_is = knows.admitted ∙ sym (ap (λ (x : Work). x.admitted) l.works.is_work)

  pub refused_is : lane.refused ≡ w.refused
  refused_is = knows.refused ∙ sym (ap (λ (x : Work). x.refused) l.works.is_work)
