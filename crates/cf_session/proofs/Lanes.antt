-- The lane stands for a history, in the session's words.
use Rattle.cf_lane.specs.Caller.{newcomer, none_before}
use Rattle.std.proofs.Common.{◌≡◌, ℕ, Bool, true, false, cond, List, [], ◌∷◌, ◌++◌, Option, Some, None, refl, sym, ap, ◌∙◌, subst}
use Rattle.std.proofs.lemmas.List.{append-nil}
use Rattle.std.proofs.lemmas.Option.{same_Some}
use Rattle.cf_audit.specs.declared.CutReason.{CutReason}
use Rattle.cf_lane.specs.Follows.{AreJudged, AreRests, Follows, IsRest, Rests}
use Rattle.cf_lane.specs.Handled.{LaneValue, State, state}
use Rattle.cf_lane.specs.History.{Element, bytes_at, bytes_in, bytes_of, end_at, letters_at}
use Rattle.cf_lane.specs.Laws.{EndJoins, NothingTaken}
use Rattle.cf_lane.specs.Log.{lines}
use Rattle.cf_outq.specs.SendQueue.{IsQueueOf, Queue}
use Rattle.cf_outside.specs.Desk.{DeskValue}
use Rattle.cf_policy.specs.Site.{SiteValue}
use Rattle.cf_policy.specs.declared.Protocol.{Protocol}
use Rattle.cf_stream.specs.Stream.{Stream}
use Rattle.cf_view.specs.declared.Endpoint.{Endpoint}
use Rattle.cf_view.specs.declared.Side.{Side}
use Rattle.cf_view.specs.declared.Side.TheVariants as side
use Rattle.cf_session.proofs.Fed.{bytes_of-append, some_letters}
use Rattle.cf_session.proofs.NewLane.{knows_on}
use Rattle.cf_session.proofs.Telling.{told_lines}
use Rattle.cf_session.specs.Parts.{IsLaneAfter}
use Rattle.cf_session.specs.Told.{told}
use Rattle.cf_session.specs.Turn.{AreUncut, FollowsMore}
use Rattle.cf_session.specs.Work.{Work, fed_at, work_by}

-- ---- histories

nothing_in : (s t : Side) (m : ℕ) → bytes_in t (bytes_at m s []) ≡ []
nothing_in side.Client side.Client m = refl
nothing_in side.Client side.Controller m = refl
nothing_in side.Controller side.Client m = refl
nothing_in side.Controller side.Controller m = refl

same_bytes : (t s : Side) (h : List Element) (m : ℕ) → bytes_of t (h ++ bytes_at m s [] ∷ []) ≡ bytes_of t h
same_bytes t s h m =
    bytes_of-append t h (bytes_at m s [] ∷ []) ∙ ap (λ xs. bytes_of t h ++ (xs ++ [])) (nothing_in s t m) ∙ append-nil (bytes_of t h)

rests_without : (p : Protocol) (h : List Element) (m : ℕ) (s : Side) (r : Rests) (cut : Option CutReason) → AreRests p (h ++ bytes_at m s [] ∷ []) r cut → AreRests p h r cut
rests_without p h m s r None a = (subst (λ xs. IsRest p xs r.client) (same_bytes side.Client s h m) a.0, subst (λ xs. IsRest p xs r.controller) (same_bytes side.Controller s h m) a.1)
rests_without p h m s r (Some c) a = a

module _ (nothing : NothingTaken) (ends : EndJoins) (site : SiteValue) (m : ℕ) (s : Side) (h : List Element) (r : Rests) (cut : Option CutReason) (first : Option (List (List ℕ))) (now : State) where
  -- no letters are no element
  without : Follows site none_before (h ++ bytes_at m s [] ∷ []) r cut first now → Follows site none_before (h ++ []) r cut first now
  without f = subst (λ x. Follows site none_before x r cut first now) (sym (append-nil h)) (record {
    judged = f.judged;
    are_judged = subst (λ x. AreJudged site (newcomer now.lane.client.address) x f.judged) (append-nil h) (nothing site (newcomer now.lane.client.address) h [] m s f.judged f.are_judged);
    is_cut = f.is_cut;
    are_rests = rests_without site.first.protocol h m s r cut f.are_rests;
    knows = f.knows;
    client_stream = f.client_stream;
    controller_stream = f.controller_stream;
    of_lines = f.of_lines;
  })

  pub as_fed : (piece : List ℕ) (ended : Bool) → Follows site none_before (h ++ letters_at m s piece ended ∷ []) r cut first now → Follows site none_before (h ++ fed_at m s (record { bytes = piece; ended = ended })) r cut first now
  as_fed [] false f = without f
  as_fed [] true f = f
  as_fed (b ∷ bytes) ended f = rw (some_letters b bytes ended) f

  -- bytes and then End at one moment
  pub as_ended : (piece : List ℕ) → Follows site none_before ((h ++ fed_at m s (record { bytes = piece; ended = false })) ++ end_at m s ∷ []) r cut first now → Follows site none_before (h ++ fed_at m s (record { bytes = piece; ended = true })) r cut first now
  as_ended [] f = subst (λ x. Follows site none_before (x ++ end_at m s ∷ []) r cut first now) (append-nil h) f
  as_ended (b ∷ bytes) f =
      let two : Follows site none_before ((h ++ bytes_at m s (b ∷ bytes) ∷ []) ++ end_at m s ∷ []) r cut first now =
      subst (λ x. Follows site none_before ((h ++ cond x [] (bytes_at m s (b ∷ bytes) ∷ [])) ++ end_at m s ∷ []) r cut first now) (some_letters b bytes false) f in
      rw (some_letters b bytes true) (ends site none_before h r cut first now m s (b ∷ bytes) two)

-- ---- there

of_client : (site : SiteValue) (client : Endpoint) (lane : LaneValue) (r : Rests) (h : List Element) (w : Work) → IsLaneAfter site client lane r h w → IsLaneAfter site lane.client lane r h w
of_client site client lane r h w l = subst (λ e. IsLaneAfter site e lane r h w) (sym l.is_client) l

-- over the lines of the lane's own work
pub follows_of : {site : SiteValue} {client : Endpoint} {lane : LaneValue} {r : Rests} {h : List Element} {w : Work} {c k : Queue} → AreUncut site client r h w lane c k → Follows site none_before h r None (Some []) (state lane c k (Some w.log))
follows_of {site} {client} {lane} {r} {h} {w} {c} {k} st =
    let o = of_client site client lane r h w st.lane_stands in
    record {
      judged = o.works.judged;
      are_judged = o.works.are_judged;
      is_cut = sym (ap (λ (x : Work). x.cut) o.works.is_work) ∙ st.uncut;
      are_rests = subst (AreRests site.first.protocol h r) st.uncut o.are_rests;
      knows = o.knows c k (Some w.log) (st.client_stands.ended ∙ ap (λ (x : Work). x.to_client.ended) o.works.is_work) (st.controller_stands.ended ∙ ap (λ (x : Work). x.to_controller.ended) o.works.is_work);
      client_stream = subst (λ (x : Work). IsQueueOf c x.to_client) o.works.is_work st.client_stands;
      controller_stream = subst (λ (x : Work). IsQueueOf k x.to_controller) o.works.is_work st.controller_stands;
      of_lines = ap (λ (x : Work). Some x.log) o.works.is_work;
    }

-- ---- and back

pub more_of : (site : SiteValue) (client : Endpoint) (now : ℕ) (s : Side) (r : Rests) (h : List Element) (w : Work) (letters : Stream) (lane : LaneValue) (c k : Queue) (cut : Option CutReason) (d0 d1 : DeskValue) (more : List (List ℕ)) →
    lane.client ≡ client → Follows site none_before (h ++ fed_at now s letters) r cut (Some []) (state lane c k (Some (w.log ++ more))) → d1.packets ≡ d0.packets → d1.lines ≡ Rattle.cf_lane.specs.Log.with_lines d0.lines more →
    FollowsMore site client now s r h w letters lane c k cut (told d0) (told d1)
more_of site client now s r h w letters lane c k cut d0 d1 more is f same added = record {
  work = work_by site lane.client f.judged;
  lane_stands = subst (λ e. IsLaneAfter site e lane r (h ++ fed_at now s letters) (work_by site lane.client f.judged)) is (record {
    works = record { judged = f.judged; are_judged = f.are_judged; is_work = refl };
    is_client = refl;
    are_rests = subst (AreRests site.first.protocol (h ++ fed_at now s letters) r) (sym f.is_cut) f.are_rests;
    knows = λ c' k' log a b. knows_on site lane c k c' k' _ log f.judged f.knows a b;
  });
  client_stands = f.client_stream;
  controller_stands = f.controller_stream;
  cut_is = f.is_cut;
  lines = more;
  log_is = sym (same_Some _ _ f.of_lines);
  told = told_lines d0 d1 more same added;
}
