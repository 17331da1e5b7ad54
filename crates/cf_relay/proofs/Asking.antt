-- Asking a side, and the limit after it, is a stage that is done, or one that breaks off.
use Rattle.std.proofs.Common.{Err, List, None, Ok, Option, Result, Some, ap, arith, false, inl, inr, refl, subst, sym, ℕ, ◌++◌, ◌+◌, ◌<◌, ◌∙◌, ◌∷◌, ◌≡◌, ◌≤◌, ◌||◌, []}
use Rattle.std.specs.Prelude.{IfErr, OnOk}
use Rattle.std.specs.List.{list_any}
use Rattle.std.specs.Option.{option_or}
use Rattle.std.proofs.Math.Bool.{or-false}
use Rattle.cf_audit.specs.declared.line.CutReason.{CutReason}
use Rattle.cf_lane.specs.Follows.{over, rest_of}
use Rattle.cf_lane.specs.Handled.{WritesLog}
use Rattle.cf_lane.specs.Laws.{QuietBehindEnd, StreamsGoOn}
use Rattle.cf_lane.specs.Limit.{limit_by, limit_cut}
use Rattle.cf_lane.specs.Output.{other, stream_to}
use Rattle.cf_lane.specs.declared.limit.TheConstants.{LETTER_LIMIT}
use Rattle.cf_links.specs.LinkValue.{LinkValue}
use Rattle.cf_links.specs.Links.{SessionTold, with_answers}
use Rattle.cf_outq.specs.SendQueue.{queue_length}
use Rattle.cf_outside.specs.Desk.{DeskValue}
use Rattle.cf_outside.specs.Pair.{Entry, Idle}
use Rattle.cf_policy.specs.Site.{SiteValue}
use Rattle.cf_view.specs.declared.Side.{Side}
use Rattle.cf_view.specs.declared.Side.TheVariants as side
use Rattle.cf_relay.proofs.Doing.{IsQuiet, by_own, by_side, quiet_idle, quiet_none, silent_kept}
use Rattle.cf_relay.proofs.Giving.{with_none}
use Rattle.cf_relay.proofs.Lined.{apart_none}
use Rattle.cf_relay.proofs.Stages.{breaks_nothing, no_take, one_broken, one_stage, open_ended, takes_stage}
use Rattle.cf_relay.proofs.Standing.{Silent, TakesTo, left_apart, stands_cut, stands_full, stands_heard, stands_missed, stands_silent}
use Rattle.cf_relay.specs.Answers.{closes, history_of, idles_after}
use Rattle.cf_relay.specs.Relaying.{RelayingValue, is_closed, lane_state, letters_from, queue_to, rests_of}
use Rattle.cf_relay.specs.Scene.{AddsAnswers, DoesBetween, RoseBy, StopsBetween, StopsBy, scene}
use Rattle.cf_relay.specs.Taken.{LimitBy, MayTakeNow, TakeState, TakesAnswer, TakesBy, take_state}
use Rattle.cf_relay.specs.Turn.{Taking}
use Rattle.cf_relay.specs.declared.directions.Directions.{Directions}
use Rattle.cf_relay.specs.declared.stop.Stop.{Stop}
use Rattle.cf_relay.specs.declared.stop.Stop.TheVariants as stop

-- what a call on a side changes of a relay
abbrev pub take_state_of : Side → RelayingValue → Option (List (List ℕ)) → SessionTold → TakeState
take_state_of s now log told = take_state (lane_state now log) (rest_of s (rests_of now)) (letters_from s now) now.idle told

rests_same : (s : Side) (old new : RelayingValue) → rest_of s (rests_of new) ≡ rest_of s (rests_of old) → rest_of (other s) (rests_of new) ≡ rest_of (other s) (rests_of old) → rests_of new ≡ rests_of old
rests_same side.Client old new e d = ap (λ (xs : List ℕ). record { client = xs; controller = new.controller_rest }) e ∙ ap (λ (xs : List ℕ). record { client = old.client_rest; controller = xs }) d
rests_same side.Controller old new e d = ap (λ (xs : List ℕ). record { client = new.client_rest; controller = xs }) e ∙ ap (λ (xs : List ℕ). record { client = xs; controller = old.controller_rest }) d

-- the same over a log of its own
own_same : (own : Option (List (List ℕ))) (a b : TakeState) → a ≡ b → record a { state = over own a.state } ≡ record b { state = over own b.state }
own_same own a b same = ap (λ (x : TakeState). record x { state = over own x.state }) same

-- nothing came, or an answer Idle: the lane, its queues and its log are as they were
silent_asked : (s : Side) (answers : List Entry) (old new : RelayingValue) (log log' : Option (List (List ℕ))) (told told' t : SessionTold) (n : ℕ) → TakesTo s old new → IsQuiet answers → ((t : Side) → list_any (closes t) answers ≡ false) →
    take_state_of s new log' told' ≡ record (take_state_of s old log told) { idle = n; told = t } → n ≡ idles_after old.idle answers → Silent answers old new log log'
silent_asked s answers old new log log' told told' t n to quiet unclosed same idle =
    silent_kept answers old new log log' quiet
    (record {
      lane = ap (λ (x : TakeState). x.state.lane) same;
      rests = rests_same s old new (ap (λ (x : TakeState). x.rest) same) to.other_rest;
      letters = by_own (λ t. letters_from t new ≡ letters_from t old) s (ap (λ (x : TakeState). x.letters) same) to.other_letters;
      queues = by_side (λ t. queue_to t new ≡ queue_to t old) (ap (λ (x : TakeState). x.state.to_client) same) (ap (λ (x : TakeState). x.state.to_controller) same);
      moment = to.moment;
    })
    (ap (λ (x : TakeState). x.state.lines) same) (ap (λ (x : TakeState). x.idle) same ∙ idle)
    (λ t. to.closed t ∙ sym (ap (λ b. is_closed t old || b) (unclosed t) ∙ or-false (is_closed t old))) (λ t is. inl (sym (to.closed t) ∙ is))

none_some : (x : Option CutReason) (reason : CutReason) → x ≡ None → x ≡ Some reason → ⊥
none_some x reason none is = cc

-- ---- a side was asked, or passed over, and what followed

module _ (law : StreamsGoOn) (quiet : QuietBehindEnd) (dirs : Directions) (site : SiteValue) (most : ℕ) (s : Side) (old new : RelayingValue) (links links' : LinkValue) (desk desk' : DeskValue) (few : old.idle < most) (to : TakesTo s old new)
    (later : links.faults ≤ links'.faults) (idles : (start : ℕ) → RoseBy old.idle start links.idles → RoseBy new.idle start links'.idles) (log : WritesLog desk desk') where
  adds_answer : (answers : List Entry) → links'.told ≡ with_answers links.told answers → AddsAnswers (scene old links desk) (scene new links' desk') answers
  adds_answer answers e = record { tells = e; link = later; idles = idles; log = log }

  -- passed over
  skip_goes : links'.faults ≡ links.faults → take_state_of s new desk'.lines links'.told ≡ take_state_of s old desk.lines links.told → (MayTakeNow dirs site s old.to_client old.to_controller → ⊥) →
      DoesBetween site most (Taking dirs s ∷ []) (scene old links desk) (scene new links' desk')
  skip_goes still same never = record {
    answers = [];
    adds = adds_answer [] (ap (λ (x : TakeState). x.told) same ∙ with_none links.told);
    still = still;
    does = λ past first own es st. (
      one_stage site past most (Taking dirs s) es [] (no_take site past most first es old own st few dirs s never),
      apart_none own desk.lines desk'.lines _ (ap (λ (x : TakeState). x.state.lines) same)
          (stands_silent site past first es [] old new own own st
          (silent_asked s [] old new own own links.told links'.told links.told old.idle to quiet_none (λ t. refl) (own_same own _ _ same) refl)),
    );
  }

  take_goes : links'.faults ≡ links.faults → MayTakeNow dirs site s old.to_client old.to_controller → TakesAnswer site old.moment s None (take_state_of s old desk.lines links.told) (take_state_of s new desk'.lines links'.told) →
      limit_by LETTER_LIMIT new.client_letters new.controller_letters (queue_length new.to_client) (queue_length new.to_controller) ≡ None → DoesBetween site most (Taking dirs s ∷ []) (scene old links desk) (scene new links' desk')
  take_goes still may takes short = record {
    answers = takes.answer ∷ [];
    adds = adds_answer (takes.answer ∷ []) takes.answers.tells;
    still = still;
    does = λ past first own es st. (
      one_stage site past most (Taking dirs s) es (takes.answer ∷ []) (takes_stage site past most first es old own st few dirs s takes.answer may takes.answers.is_taken),
      left_apart law site past first es s takes.answer takes.answers.is_taken old own desk.lines st new desk'.lines None to takes.hears _
          (stands_heard law site past first es s takes.answer takes.answers.is_taken old own desk.lines st new desk'.lines to (open_ended site past most first es old own st s may.open_still)
          takes.answers.letters takes.answers.idles takes.hears quiet short),
    );
  }

  full_stops : links'.faults ≡ links.faults → MayTakeNow dirs site s old.to_client old.to_controller → TakesAnswer site old.moment s None (take_state_of s old desk.lines links.told) (take_state_of s new desk'.lines links'.told) → (reason : CutReason) →
      limit_by LETTER_LIMIT new.client_letters new.controller_letters (queue_length new.to_client) (queue_length new.to_controller) ≡ Some reason → StopsBetween site most (Taking dirs s ∷ []) (stop.Cut reason) (scene old links desk) (scene new links' desk')
  full_stops still may takes reason full = record {
    answers = takes.answer ∷ [];
    adds = adds_answer (takes.answer ∷ []) takes.answers.tells;
    cause = still;
    does = λ past first own es st. (
      one_broken site past most (Taking dirs s) es (takes.answer ∷ []) (takes_stage site past most first es old own st few dirs s takes.answer may takes.answers.is_taken),
      left_apart law site past first es s takes.answer takes.answers.is_taken old own desk.lines st new desk'.lines None to takes.hears _
          (stands_full law site past first es s takes.answer takes.answers.is_taken old own desk.lines st new desk'.lines to (open_ended site past most first es old own st s may.open_still)
          takes.answers.letters takes.answers.idles takes.hears reason full),
    );
  }

  pub take_stops : (why : Stop) → TakesBy dirs site old.moment most s (take_state_of s old desk.lines links.told) (take_state_of s new desk'.lines links'.told) desk' (Err why) →
      StopsBy why (scene old links desk) (scene new links' desk') → StopsBetween site most (Taking dirs s ∷ []) why (scene old links desk) (scene new links' desk')
  take_stops stop.Idle (may, full, same) cause = record {
    answers = Idle s ∷ [];
    adds = adds_answer (Idle s ∷ []) (ap (λ (x : TakeState). x.told) same);
    cause = cause;
    does = λ past first own es st. (
      one_broken site past most (Taking dirs s) es (Idle s ∷ []) (takes_stage site past most first es old own st few dirs s (Idle s) may refl),
      apart_none own desk.lines desk'.lines _ (ap (λ (x : TakeState). x.state.lines) same) (
        stands_silent site past first es (Idle s ∷ []) old new own own st
            (silent_asked s (Idle s ∷ []) old new own own links.told links'.told (with_answers links.told (Idle s ∷ [])) (old.idle + 1) to (quiet_idle s) (λ t. refl) (own_same own _ _ same) (omega arith)),
        full,
      ),
    );
  }
  take_stops stop.Link same cause = record {
    answers = [];
    adds = adds_answer [] (ap (λ (x : TakeState). x.told) same ∙ with_none links.told);
    cause = cause;
    does = λ past first own es st. (
      breaks_nothing site past most (Taking dirs s ∷ []) es,
      apart_none own desk.lines desk'.lines _ (ap (λ (x : TakeState). x.state.lines) same) (
        stands_silent site past first es [] old new own own st
            (silent_asked s [] old new own own links.told links'.told links.told old.idle to quiet_none (λ t. refl) (own_same own _ _ same) refl),
        subst (λ (n : ℕ). n < most) (sym (ap (λ (x : TakeState). x.idle) same)) few,
      ),
    );
  }
  take_stops stop.Write (may, (answer, answers, misses)) cause = record {
    answers = answer ∷ [];
    adds = adds_answer (answer ∷ []) answers.tells;
    cause = cause;
    does = λ past first own es st. (
      one_broken site past most (Taking dirs s) es (answer ∷ []) (takes_stage site past most first es old own st few dirs s answer may answers.is_taken),
      stands_missed law site past first es s answer answers.is_taken old own desk.lines st desk' misses,
    );
  }
  take_stops (stop.Cut reason) (may, takes) cause = record {
    answers = takes.answer ∷ [];
    adds = adds_answer (takes.answer ∷ []) takes.answers.tells;
    cause = cause;
    does = λ past first own es st. (
      one_broken site past most (Taking dirs s) es (takes.answer ∷ []) (takes_stage site past most first es old own st few dirs s takes.answer may takes.answers.is_taken),
      left_apart law site past first es s takes.answer takes.answers.is_taken old own desk.lines st new desk'.lines (Some reason) to takes.hears _
          (stands_cut law site past first es s takes.answer takes.answers.is_taken old own desk.lines st new desk'.lines (Some reason) to takes.hears reason
          (λ js cuts qc qk. ap (λ c. option_or c (limit_cut LETTER_LIMIT (history_of (es ++ takes.answer ∷ [])) (stream_to site side.Client js) (stream_to site side.Controller js))) cuts)),
    );
  }

  letters_same : take_state_of s new desk'.lines links'.told ≡ take_state_of s old desk.lines links.told → (t : Side) → letters_from t new ≡ letters_from t old
  letters_same same = by_own (λ t. letters_from t new ≡ letters_from t old) s (ap (λ (x : TakeState). x.letters) same) to.other_letters

  limit_same : take_state_of s new desk'.lines links'.told ≡ take_state_of s old desk.lines links.told →
      limit_by LETTER_LIMIT old.client_letters old.controller_letters (queue_length old.to_client) (queue_length old.to_controller)
      ≡ limit_by LETTER_LIMIT new.client_letters new.controller_letters (queue_length new.to_client) (queue_length new.to_controller)
  limit_same same =
      let c : new.client_letters ≡ old.client_letters = letters_same same side.Client in
      let k : new.controller_letters ≡ old.controller_letters = letters_same same side.Controller in
      let p : new.to_client ≡ old.to_client = ap (λ (x : TakeState). x.state.to_client) same in
      let q : new.to_controller ≡ old.to_controller = ap (λ (x : TakeState). x.state.to_controller) same in
      rw (c, k, p, q) refl

  -- a side that was passed over leaves what it was, which was short
  pub limit_goes : links'.faults ≡ links.faults → (x : Unit {0}) (r : Result Unit Stop) → TakesBy dirs site old.moment most s (take_state_of s old desk.lines links.told) (take_state_of s new desk'.lines links'.told) desk' (Ok x) →
      limit_by LETTER_LIMIT old.client_letters old.controller_letters (queue_length old.to_client) (queue_length old.to_controller) ≡ None →
      LimitBy new.client_letters new.controller_letters (queue_length new.to_client) (queue_length new.to_controller) r →
      OnOk r (DoesBetween site most (Taking dirs s ∷ []) (scene old links desk) (scene new links' desk')) × IfErr r (λ why. StopsBetween site most (Taking dirs s ∷ []) why (scene old links desk) (scene new links' desk'))
  limit_goes still x (Ok y) (inl (never, same)) short limit = (skip_goes still same never, tt)
  limit_goes still x (Ok y) (inr (may, goes, takes)) short limit = (take_goes still may takes limit, tt)
  limit_goes still x (Err stop.Idle) takes short limit = absurd limit
  limit_goes still x (Err stop.Link) takes short limit = absurd limit
  limit_goes still x (Err stop.Write) takes short limit = absurd limit
  limit_goes still x (Err (stop.Cut reason)) (inl (never, same)) short limit = absurd (none_some _ reason (sym (limit_same same) ∙ short) limit)
  limit_goes still x (Err (stop.Cut reason)) (inr (may, goes, takes)) short limit = (tt, full_stops still may takes reason limit)
