-- The headline of a run, and what it logs.
use Rattle.cf_lane.specs.Caller.{newcomer}
use Rattle.std.proofs.Common.{◌≡◌, ℕ, ◌^◌, ◌≤◌, true, false, Option, None, Some, List, [], ◌∷◌, ◌++◌, map, refl, sym, ap, ◌∙◌}
use Rattle.std.proofs.lemmas.List.{append-nil}
use Rattle.std.specs.Option.{is_some}
use Rattle.cf_decode.specs.Laws.{FragmentsDecode}
use Rattle.cf_decode.specs.Stations.{StationsDecode}
use Rattle.cf_lane.specs.Laws.{HasOneJudgement, RatesHold}
use Rattle.cf_lane.specs.Output.{outputs}
use Rattle.cf_audit.specs.declared.CutReason.{CutReason}
use Rattle.cf_policy.specs.declared.Asset.{Asset}
use Rattle.cf_session.specs.Event.{AreEvents as AreSessionEvents}
use Rattle.cf_session.specs.Laws.{FirstCopiesAreTaken, HasOneStream as SessionHasOneStream, IsFront, SendsWhatIsLetIn, WorkIsOfTheTaken}
use Rattle.cf_session.specs.Session.{Flow, SessionEvent, client_of, history, work_of}
use Rattle.cf_session.specs.Work.{Work, Works, work_by}
use Rattle.cf_stream.specs.Stream.{Byte, End, Letter, Stream, letters}
use Rattle.cf_view.specs.declared.Side.TheVariants as side
use Rattle.cf_run.specs.Headline.{HasHeadline, IsFaithful, RunsHaveHeadline, SendsUpToTheEdge, bytes_among}
use Rattle.cf_run.specs.Logged.{EachIsLogged, IsLogged, RunsAreLogged}
use Rattle.cf_run.specs.Sessions.{HasEvents, HasRightEvents, sessions_of}
use Rattle.cf_run.specs.Table.{Session}
use Rattle.cf_run.specs.Trace.{AreRunEvents, RunEvent, ends_cut}
use Rattle.cf_run.proofs.Isolation.{right_events, uncut_before}
use Rattle.cf_run.proofs.Sessions.{each-map, sessions_right}

-- ---- the bytes of a beginning of a stream are a beginning of its bytes

bytes-append : (xs ys : List Letter) → bytes_among (xs ++ ys) ≡ bytes_among xs ++ bytes_among ys
bytes-append [] ys = refl
bytes-append (Byte b ∷ xs) ys = ap (λ l. b ∷ l) (bytes-append xs ys)
bytes-append (End ∷ xs) ys = bytes-append xs ys

bytes-bytes : (bs : List ℕ) → bytes_among (map Byte bs) ≡ bs
bytes-bytes [] = refl
bytes-bytes (b ∷ bs) = ap (λ l. b ∷ l) (bytes-bytes bs)

bytes-letters : (bs : List ℕ) (ended : _) → bytes_among (letters (record { bytes = bs; ended = ended })) ≡ bs
bytes-letters bs true = bytes-append (map Byte bs) (End ∷ []) ∙ append-nil (bytes_among (map Byte bs)) ∙ bytes-bytes bs
bytes-letters bs false = bytes-append (map Byte bs) [] ∙ append-nil (bytes_among (map Byte bs)) ∙ bytes-bytes bs

front_bytes : (whole : Stream) (taken : List Letter) → (h : IsFront whole taken) → whole.bytes ≡ bytes_among taken ++ bytes_among h.more
front_bytes whole taken h = sym (bytes-letters whole.bytes whole.ended) ∙ ap bytes_among h.is ∙ bytes-append taken h.more

-- ---- one session

no_cut : (c : Option CutReason) → is_some c ≡ false → c ≡ None
no_cut None e = refl
no_cut (Some r) e = cc

module _ (one : SessionHasOneStream) (copies : FirstCopiesAreTaken) (works : WorkIsOfTheTaken) (fragments : FragmentsDecode) (stations : StationsDecode) (keep : RatesHold) (reaches : SendsWhatIsLetIn) (limit : ℕ) (small : limit ≤ 2 ^ 30) where
  far : (f : Flow) (es : List SessionEvent) → HasEvents limit f es → ends_cut es ≡ false → SendsUpToTheEdge (record { flow = f; events = es })
  far f [] h uncut = absurd h
  far f (e ∷ es) h uncut = let (to_controller, to_client) = reaches f limit es e small h.0 (no_cut e.cut uncut) in record { to_controller = to_controller; to_client = to_client }

  faithful : (f : Flow) (es : List SessionEvent) → HasEvents limit f es → IsFaithful (record { flow = f; events = es })
  faithful f es h =
      let are : AreSessionEvents f limit es = right_events limit f es h in
      let w : Works f.site (client_of f) (history es) (work_of es) = works f limit es are in
      record {
        judged = w.judged;
        is_judged = record {
          taken = copies f limit es are;
          are_judged = w.are_judged;
          to_controller = ap (λ (x : Work). x.to_controller) w.is_work;
          to_client = ap (λ (x : Work). x.to_client) w.is_work;
        };
        far = far f es h;
        rates = keep f.site (newcomer (client_of f).address) (history es) w.judged w.are_judged;
        decodes = λ taken re.
            (let front : IsFront (work_of es).to_controller taken = (one f limit es taken small are (uncut_before limit f es h)).0 re in
            let bytes : outputs f.site side.Controller [] w.judged ≡ bytes_among taken ++ bytes_among front.more =
            sym (ap (λ (x : Work). x.to_controller.bytes) w.is_work) ∙ front_bytes (work_of es).to_controller taken front in
            let client = newcomer (client_of f).address in
            record {
              front = front;
              makes = fragments f.site client (history es) w.judged (bytes_among taken) (bytes_among front.more) w.are_judged bytes;
              by_station = λ differ. stations f.site client (history es) w.judged (bytes_among taken) (bytes_among front.more) differ w.are_judged bytes;
            });
      }

  pub headline : (assets : List Asset) (es : List RunEvent) → AreRunEvents assets limit es → HasHeadline es
  headline assets [] h = tt
  headline assets (e ∷ es) h =
      (each-map (HasRightEvents limit) IsFaithful (λ s right. faithful s.flow s.events right) (sessions_of (e ∷ es)) (sessions_right assets limit (e ∷ es) h), headline assets es h.1)

pub has_headline : SessionHasOneStream → FirstCopiesAreTaken → WorkIsOfTheTaken → FragmentsDecode → StationsDecode → RatesHold → SendsWhatIsLetIn → RunsHaveHeadline
has_headline one copies works fragments stations keep reaches assets limit es small h = headline one copies works fragments stations keep reaches limit small assets es h

-- ---- what is logged

module _ (one : HasOneJudgement) (works : WorkIsOfTheTaken) (limit : ℕ) where
  logged_one : (s : Session) → HasRightEvents limit s → IsLogged s
  logged_one s h = λ judged are.
      let w : Works s.flow.site (client_of s.flow) (history s.events) (work_of s.events) = works s.flow limit s.events (right_events limit s.flow s.events h) in
      w.is_work ∙ ap (work_by s.flow.site (client_of s.flow)) (one s.flow.site (newcomer (client_of s.flow).address) (history s.events) w.judged judged w.are_judged are)

  all_logged : (assets : List Asset) (es : List RunEvent) → AreRunEvents assets limit es → EachIsLogged es
  all_logged assets [] h = tt
  all_logged assets (e ∷ es) h =
      (each-map (HasRightEvents limit) IsLogged logged_one (sessions_of (e ∷ es)) (sessions_right assets limit (e ∷ es) h), all_logged assets es h.1)

pub are_logged : HasOneJudgement → WorkIsOfTheTaken → RunsAreLogged
are_logged one works assets limit es h = all_logged one works limit assets es h
