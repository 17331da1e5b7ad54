-- Bytes and End are handed to the lane.
use Rattle.std.proofs.Common.{◌≡◌, ℕ, List, [], ◌++◌, Option, Some, None, true, false, refl, ap, ◌∙◌, append_assoc}
use Rattle.std.specs.Option.{is_some}
use Rattle.std.proofs.lemmas.Bool.{false≢true}
use Rattle.cf_audit.specs.declared.CutReason.{CutReason}
use Rattle.cf_lane.specs.Follows.{Rests, rest_of, with_rest}
use Rattle.cf_lane.specs.Handled.{LaneValue}
use Rattle.cf_lane.specs.History.{Element}
use Rattle.cf_outq.specs.SendQueue.{Queue}
use Rattle.cf_policy.specs.Site.{SiteValue}
use Rattle.cf_stream.specs.Stream.{Stream}
use Rattle.cf_view.specs.declared.Endpoint.{Endpoint}
use Rattle.cf_view.specs.declared.Side.{Side}
use Rattle.cf_view.specs.declared.Side.TheVariants as side
use Rattle.cf_session.proofs.Telling.{then_told}
use Rattle.cf_session.specs.Told.{Told}
use Rattle.cf_session.specs.Turn.{AreUncut, FollowsMore}
use Rattle.cf_session.specs.Work.{Work, fed_at}

pub rest_of-with : (s : Side) (r : Rests) (rest : List ℕ) → rest_of s (with_rest s r rest) ≡ rest
rest_of-with side.Client r rest = refl
rest_of-with side.Controller r rest = refl

-- bytes were fed, and then End
pub follows_both : (site : SiteValue) (client : Endpoint) (now : ℕ) (s : Side) (r : Rests) (h : List Element) (w : Work) (piece : List ℕ)
    (lane1 lane2 : LaneValue) (c1 k1 c2 k2 : Queue) (cut : Option CutReason) (t0 t1 t2 : Told) →
    (first : FollowsMore site client now s r h w (record { bytes = piece; ended = false }) lane1 c1 k1 cut t0 t1) →
    FollowsMore site client now s r h first.work (record { bytes = piece; ended = true }) lane2 c2 k2 None t1 t2 →
    FollowsMore site client now s r h w (record { bytes = piece; ended = true }) lane2 c2 k2 None t0 t2
follows_both site client now s r h w piece lane1 lane2 c1 k1 c2 k2 cut t0 t1 t2 a b = record {
  work = b.work;
  lane_stands = b.lane_stands;
  client_stands = b.client_stands;
  controller_stands = b.controller_stands;
  cut_is = b.cut_is;
  lines = a.lines ++ b.lines;
  log_is = b.log_is ∙ ap (λ xs. xs ++ b.lines) a.log_is ∙ append_assoc w.log a.lines b.lines;
  told = then_told t0 t1 t2 [] [] a.lines b.lines a.told b.told;
}

pub none_of : {A : Type 0} (o : Option A) → false ≡ is_some o → o ≡ None
none_of None e = refl
none_of (Some x) e = absurd (false≢true e)

-- where the letters did not cut the session, it may go on
pub still_uncut : {site : SiteValue} {client : Endpoint} {now : ℕ} {s : Side} {r : Rests} {h : List Element} {w : Work} {letters : Stream} {lane : LaneValue} {c k : Queue} {cut : Option CutReason} {t0 t1 : Told} →
    (a : FollowsMore site client now s r h w letters lane c k cut t0 t1) → cut ≡ None → AreUncut site client r (h ++ fed_at now s letters) a.work lane c k
still_uncut a none = record { lane_stands = a.lane_stands; uncut = a.cut_is ∙ none; client_stands = a.client_stands; controller_stands = a.controller_stands }
