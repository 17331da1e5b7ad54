-- A side that is asked, with the limit tested after it.
use Rattle.std.proofs.Common.{Err, List, None, Ok, Option, Result, ap, arith, inl, inr, length, refl, subst, sym, ℕ, ◌+◌, ◌<◌, ◌∙◌, ◌∷◌, ◌≡◌, ◌≤◌, []}
use Rattle.std.specs.Prelude.{IfErr, OnOk}
use Rattle.std.specs.Result.{IsErrAnd}
use Rattle.cf_driver.proofs.Limits.{limit_none}
use Rattle.cf_driver.specs.declared.heard.Heard.{Heard}
use Rattle.cf_lane.specs.Follows.{rest_of}
use Rattle.cf_lane.specs.Handled.{IsLaneOf, LaneValue, WritesLog, debt, debt_limit, state}
use Rattle.cf_lane.specs.Laws.{QuietBehindEnd, StreamsGoOn}
use Rattle.cf_lane.specs.Limit.{limit_by}
use Rattle.cf_lane.specs.Output.{other}
use Rattle.cf_lane.specs.declared.limit.TheConstants.{LETTER_LIMIT}
use Rattle.cf_links.specs.LinkValue.{LinkValue}
use Rattle.cf_links.specs.Links.{SessionTold}
use Rattle.cf_outq.specs.SendQueue.{IsQueue, Queue, queue_length}
use Rattle.cf_outside.specs.Desk.{DeskValue}
use Rattle.cf_outside.specs.Faults.{HasCause}
use Rattle.cf_outside.specs.Pair.{FaultsBy}
use Rattle.cf_policy.specs.Site.{SiteValue}
use Rattle.cf_view.specs.declared.Side.{Side}
use Rattle.cf_view.specs.declared.Side.TheVariants as side
use Rattle.cf_relay.proofs.Asking.{limit_goes, take_state_of, take_stops}
use Rattle.cf_relay.proofs.Doing.{by_side}
use Rattle.cf_relay.proofs.Moving.{ask_moves}
use Rattle.cf_relay.proofs.Scenes.{faults_of, no_fault, on_ok, stop_cause}
use Rattle.cf_relay.proofs.Serving.{handed_on, keeps_each, of_each, with_each}
use Rattle.cf_relay.proofs.Standing.{TakesTo}
use Rattle.cf_relay.specs.Relaying.{AsksOrRests, IsShort, IsSound, RelayingValue, is_closed, letters_from, relaying_value, rests_of}
use Rattle.cf_relay.specs.Scene.{DoesBetween, RoseBy, StopsBetween, scene}
use Rattle.cf_relay.specs.Sides.{of_side, with_side}
use Rattle.cf_relay.specs.Taken.{KeepsLane, LimitBy, TakeState, TakesBy, letters_brought, take_state}
use Rattle.cf_relay.specs.Turn.{Taking}
use Rattle.cf_relay.specs.declared.directions.Directions.{Directions}
use Rattle.cf_relay.specs.declared.relaying.Relaying.{Relaying}
use Rattle.cf_relay.specs.declared.sides.Sides.{Sides}
use Rattle.cf_relay.specs.declared.stop.Stop.{Stop}
use Rattle.cf_relay.specs.declared.stop.Stop.TheVariants as stop

short_none : (now : RelayingValue) → IsShort now → limit_by LETTER_LIMIT now.client_letters now.controller_letters (queue_length now.to_client) (queue_length now.to_controller) ≡ None
short_none now h = limit_none LETTER_LIMIT now.client_letters now.controller_letters (queue_length now.to_client) (queue_length now.to_controller) h.client h.controller h.to_client h.to_controller

-- a relay of which a side was asked
abbrev pub taken_of : Side → Relaying → LaneValue → (c k : Queue) → Heard → ℕ → RelayingValue
taken_of s old lane c k heard n = relaying_value (record old { lane = lane; to = record { client = c; controller = k }; from = with_side s old.from heard; idle = n })

takes_side : (s : Side) (old : Relaying) (lane : LaneValue) (c k : Queue) (heard : Heard) (n : ℕ) → TakesTo s (relaying_value old) (taken_of s old lane c k heard n)
takes_side s old lane c k heard n = record {
  other_rest = by_side (λ s. rest_of (other s) (rests_of (taken_of s old lane c k heard n)) ≡ rest_of (other s) (rests_of (relaying_value old))) refl refl s;
  other_letters = by_side (λ s. letters_from (other s) (taken_of s old lane c k heard n) ≡ letters_from (other s) (relaying_value old)) refl refl s;
  moment = refl;
  closed = by_side (λ t. is_closed t (taken_of s old lane c k heard n) ≡ is_closed t (relaying_value old)) refl refl;
}

module _ (law : StreamsGoOn) (quiet : QuietBehindEnd) (dirs : Directions) (site : SiteValue) (most : ℕ) (s : Side) (old new : RelayingValue) (links links' : LinkValue) (desk desk' : DeskValue) (few : old.idle < most) (to : TakesTo s old new)
    (idles : (start : ℕ) → RoseBy old.idle start links.idles → RoseBy new.idle start links'.idles) (log : WritesLog desk desk')
    (r : Result (Unit {0}) Stop) (link : FaultsBy links.faults links'.faults (r ≡ Err stop.Link)) (write : HasCause desk.faults desk'.faults (r ≡ Err stop.Write)) where
  ask_breaks : (why : Stop) → r ≡ Err why → TakesBy dirs site old.moment most s (take_state_of s old desk.lines links.told) (take_state_of s new desk'.lines links'.told) desk' (Err why) →
      StopsBetween site most (Taking dirs s ∷ []) why (scene old links desk) (scene new links' desk')
  ask_breaks why was takes =
      take_stops law quiet dirs site most s old new links links' desk desk' few to link.later idles log why takes
      (stop_cause why (scene old links desk) (scene new links' desk') (faults_of links.faults links'.faults r why was link) (λ is. write.rose (was ∙ ap Err is)))

  asks : (x : Unit {0}) → r ≡ Ok x → (full : Result (Unit {0}) Stop) → TakesBy dirs site old.moment most s (take_state_of s old desk.lines links.told) (take_state_of s new desk'.lines links'.told) desk' (Ok x) →
      IsShort old → LimitBy new.client_letters new.controller_letters (queue_length new.to_client) (queue_length new.to_controller) full →
      OnOk full (DoesBetween site most (Taking dirs s ∷ []) (scene old links desk) (scene new links' desk')) × IfErr full (λ why. StopsBetween site most (Taking dirs s ∷ []) why (scene old links desk) (scene new links' desk'))
  asks x was full takes short limit = limit_goes law quiet dirs site most s old new links links' desk desk' few to link.later idles log (no_fault links.faults links'.faults r x was link) x full takes (short_none old short) limit

asked : (dirs : Directions) (site : SiteValue) (most : ℕ) (s : Side) (old new : RelayingValue) (log log' : Option (List (List ℕ))) (told told' : SessionTold) (desk : DeskValue) → old.idle < most → TakesTo s old new → (x : Unit {0}) (full : Result (Unit {0}) Stop) →
    TakesBy dirs site old.moment most s (take_state_of s old log told) (take_state_of s new log' told') desk (Ok x) → OnOk full (AsksOrRests dirs site s most old new)
asked dirs site most s old new log log' told told' desk few to x (Ok y) takes = ask_moves dirs site most s old new log log' told told' desk few to x takes
asked dirs site most s old new log log' told told' desk few to x (Err e) takes = tt

-- ---- the calls of a side that is asked

queue_fits : (q : Queue) → IsQueue q → length q.kept + q.acked ≤ queue_length q
queue_fits q h = omega (arith, h.kept, h.acked, h.sent)

pub heard_within : (site : SiteValue) (most : ℕ) (s : Side) (old : Relaying) (heard : Heard) → IsSound site most (relaying_value old) → heard ≡ of_side s old.from → (length heard.rest.items < 300) × (heard.letters < LETTER_LIMIT)
heard_within site most s old heard sound lent = (
  subst (λ (h : Heard). length h.rest.items < 300) (sym lent) (of_each (λ (h : Heard). length h.rest.items < 300) s old.from sound.client_rest sound.controller_rest),
  subst (λ (h : Heard). h.letters < LETTER_LIMIT) (sym lent) (of_each (λ (h : Heard). h.letters < LETTER_LIMIT) s old.from sound.short.client sound.short.controller),
)

counts_with : (s : Side) (from : Sides Heard) (h : Heard) (before after brought : ℕ) → before + (length from.client.rest.items + length from.controller.rest.items) ≤ from.client.letters + from.controller.letters →
    after + length h.rest.items ≤ before + (length (of_side s from).rest.items + brought) → h.letters ≡ (of_side s from).letters + brought →
    after + (length (with_side s from h).client.rest.items + length (with_side s from h).controller.rest.items) ≤ (with_side s from h).client.letters + (with_side s from h).controller.letters
counts_with side.Client from h before after brought was now letters = omega (arith, was, now, letters)
counts_with side.Controller from h before after brought was now letters = omega (arith, was, now, letters)

-- what the calls of a side that is asked come to
pub record Asked (dirs : Directions) (site : SiteValue) (most : ℕ) (s : Side) (r : Result (Unit {0}) Stop) (old : Relaying) (new : RelayingValue) (links links' : LinkValue) (desk desk' : DeskValue) : Type 0 where
  pub goes : OnOk r (DoesBetween site most (Taking dirs s ∷ []) (scene (relaying_value old) links desk) (scene new links' desk'))
  pub stops : IfErr r (λ why. StopsBetween site most (Taking dirs s ∷ []) why (scene (relaying_value old) links desk) (scene new links' desk'))
  pub sound : OnOk r (IsSound site most new)
  pub moves : OnOk r (AsksOrRests dirs site s most (relaying_value old) new)

module _ (law : StreamsGoOn) (quiet : QuietBehindEnd) (dirs : Directions) (site : SiteValue) (most : ℕ) (s : Side) (old : Relaying) (heard heard' : Heard) (lane : LaneValue) (c k : Queue) (idle' : ℕ) (links links' : LinkValue) (desk desk' : DeskValue)
    (sound : IsSound site most (relaying_value old)) (lent : heard ≡ of_side s old.from)
    (idles : (start : ℕ) → RoseBy old.idle start links.idles → RoseBy idle' start links'.idles) (log : WritesLog desk desk') (r : Result (Unit {0}) Stop)
    (link : FaultsBy links.faults links'.faults (r ≡ Err stop.Link)) (write : HasCause desk.faults desk'.faults (r ≡ Err stop.Write)) where
  abbrev Takes : Result (Unit {0}) Stop → Type 0
  Takes r = TakesBy dirs site old.moment most s (take_state (state old.lane old.to.client old.to.controller desk.lines) heard.rest.items heard.letters old.idle links.told)
      (take_state (state lane c k desk'.lines) heard'.rest.items heard'.letters idle' links'.told) desk' r

  takes_at : (r : Result (Unit {0}) Stop) → Takes r → TakesBy dirs site old.moment most s (take_state_of s (relaying_value old) desk.lines links.told)
      (take_state_of s (taken_of s old lane c k heard' idle') desk'.lines links'.told) desk' r
  takes_at r takes =
      subst (λ x. TakesBy dirs site old.moment most s x (take_state_of s (taken_of s old lane c k heard' idle') desk'.lines links'.told) desk' r)
      (ap (λ (h : Heard). take_state (state old.lane old.to.client old.to.controller desk.lines) h.rest.items h.letters old.idle links.told) lent
      ∙ by_side (λ s. take_state (state old.lane old.to.client old.to.controller desk.lines) (of_side s old.from).rest.items (of_side s old.from).letters old.idle links.told
      ≡ take_state_of s (relaying_value old) desk.lines links.told) refl refl s)
      (subst (λ x. TakesBy dirs site old.moment most s (take_state (state old.lane old.to.client old.to.controller desk.lines) heard.rest.items heard.letters old.idle links.told) x desk' r)
      (by_side (λ s. take_state (state lane c k desk'.lines) heard'.rest.items heard'.letters idle' links'.told ≡ take_state_of s (taken_of s old lane c k heard' idle') desk'.lines links'.told) refl refl s) takes)

  -- what a `?` hands on
  pub take_broke : {T : Type 0} (answer : Result T Stop) (why : Stop) → IsErrAnd answer (λ e. e ≡ why) → r ≡ Err why → Takes (Err why) →
      IfErr answer (λ e. StopsBetween site most (Taking dirs s ∷ []) e (scene (relaying_value old) links desk) (scene (taken_of s old lane c k heard' idle') links' desk'))
  take_broke answer why is was takes =
      handed_on answer why (λ e. StopsBetween site most (Taking dirs s ∷ []) e (scene (relaying_value old) links desk) (scene (taken_of s old lane c k heard' idle') links' desk')) is
      (ask_breaks law quiet dirs site most s (relaying_value old) (taken_of s old lane c k heard' idle') links links' desk desk' sound.few (takes_side s old lane c k heard' idle') idles log r link write why was (takes_at (Err why) takes))

  -- the lane stays the site's
  lane_broke : (why : Stop) → Takes (Err why) → KeepsLane site lane why
  lane_broke stop.Idle takes = subst (IsLaneOf site) (sym (ap (λ (z : TakeState). z.state.lane) takes.2)) sound.of_site
  lane_broke stop.Link takes = subst (IsLaneOf site) (sym (ap (λ (z : TakeState). z.state.lane) takes)) sound.of_site
  lane_broke stop.Write takes = tt
  lane_broke (stop.Cut reason) takes = takes.1.hears.of_site

  pub take_lane : {T : Type 0} (answer : Result T Stop) (why : Stop) → IsErrAnd answer (λ e. e ≡ why) → Takes (Err why) → IfErr answer (KeepsLane site lane)
  take_lane answer why is takes = handed_on answer why (KeepsLane site lane) is (lane_broke why takes)

  lane_went : (x : Unit {0}) → Takes (Ok x) → IsLaneOf site lane
  lane_went x (inl (never, same)) = subst (IsLaneOf site) (sym (ap (λ (z : TakeState). z.state.lane) same)) sound.of_site
  lane_went x (inr (may, few, done)) = done.hears.of_site

  pub take_lane_on : (x : Unit {0}) → Takes (Ok x) → (full : Result (Unit {0}) Stop) → IfErr full (KeepsLane site lane)
  take_lane_on x takes full = keeps_each site lane lane refl (lane_went x takes) full

  module _ (x : Unit {0}) (was : r ≡ Ok x) (takes : Takes (Ok x)) (full : Result (Unit {0}) Stop) where
    counts_at : (before after brought : ℕ) → before + (length old.from.client.rest.items + length old.from.controller.rest.items) ≤ old.from.client.letters + old.from.controller.letters →
        after + length heard'.rest.items ≤ before + (length heard.rest.items + brought) → heard'.letters ≡ heard.letters + brought →
        after + (length (with_side s old.from heard').client.rest.items + length (with_side s old.from heard').controller.rest.items)
        ≤ (with_side s old.from heard').client.letters + (with_side s old.from heard').controller.letters
    counts_at before after brought was now letters =
        let rest : length heard.rest.items ≡ length (of_side s old.from).rest.items = ap (λ (h : Heard). length h.rest.items) lent in
        let count : heard.letters ≡ (of_side s old.from).letters = ap (λ (h : Heard). h.letters) lent in
        counts_with s old.from heard' before after brought was (omega (arith, now, rest)) (omega (arith, letters, count))

    rests_at : length heard'.rest.items < 300 → (length (with_side s old.from heard').client.rest.items < 300) × (length (with_side s old.from heard').controller.rest.items < 300)
    rests_at few = with_each (λ (h : Heard). length h.rest.items < 300) s old.from heard' sound.client_rest sound.controller_rest few

    sound_by : Takes (Ok x) → IsShort (taken_of s old lane c k heard' idle') → IsQueue c → IsQueue k → IsSound site most (taken_of s old lane c k heard' idle')
    sound_by (inl (never, same)) short qc qk =
        let l : lane ≡ old.lane = ap (λ (z : TakeState). z.state.lane) same in
        let rest : length heard'.rest.items ≡ length heard.rest.items = ap (λ (z : TakeState). length z.rest) same in
        let letters : heard'.letters ≡ heard.letters = ap (λ (z : TakeState). z.letters) same in
        let numbers : lane.admitted + lane.refused ≡ old.lane.admitted + old.lane.refused = ap (λ (v : LaneValue). v.admitted + v.refused) l in
        let little = of_each (λ (h : Heard). length h.rest.items < 300) s old.from sound.client_rest sound.controller_rest in
        let each = rests_at (omega (arith, rest, ap (λ (h : Heard). length h.rest.items) lent, little)) in
        record {
          of_site = subst (IsLaneOf site) (sym l) sound.of_site;
          debt = subst (λ (v : LaneValue). debt v ≤ debt_limit site) (sym l) sound.debt;
          short = short;
          to_client = queue_fits c qc;
          to_controller = queue_fits k qk;
          client_rest = each.0;
          controller_rest = each.1;
          counts = counts_at (old.lane.admitted + old.lane.refused) (lane.admitted + lane.refused) 0 sound.counts (omega (arith, numbers, rest)) (omega (arith, letters));
          few = subst (λ (n : ℕ). n < most) (sym (ap (λ (z : TakeState). z.idle) same)) sound.few;
        }
    sound_by (inr (may, few, done)) short qc qk =
        let each = rests_at done.hears.short in
        record {
          of_site = done.hears.of_site;
          debt = done.hears.debt;
          short = short;
          to_client = queue_fits c qc;
          to_controller = queue_fits k qk;
          client_rest = each.0;
          controller_rest = each.1;
          counts = counts_at (old.lane.admitted + old.lane.refused) (lane.admitted + lane.refused) (letters_brought old.moment s done.answer) sound.counts (omega (arith, done.hears.counts)) done.answers.letters;
          few = few;
        }

    pub taken : LimitBy (with_side s old.from heard').client.letters (with_side s old.from heard').controller.letters (queue_length c) (queue_length k) full → OnOk full (IsShort (taken_of s old lane c k heard' idle')) → IsQueue c → IsQueue k →
        Asked dirs site most s full old (taken_of s old lane c k heard' idle') links links' desk desk'
    taken limit short qc qk =
        let stage =
        asks law quiet dirs site most s (relaying_value old) (taken_of s old lane c k heard' idle') links links' desk desk' sound.few (takes_side s old lane c k heard' idle') idles log r link write x was full (takes_at (Ok x) takes) sound.short limit in
        record {
          goes = stage.0;
          stops = stage.1;
          sound = on_ok full (IsShort (taken_of s old lane c k heard' idle')) (IsSound site most (taken_of s old lane c k heard' idle')) (λ small. sound_by takes small qc qk) short;
          moves = asked dirs site most s (relaying_value old) (taken_of s old lane c k heard' idle') desk.lines desk'.lines links.told links'.told desk' sound.few (takes_side s old lane c k heard' idle') x full (takes_at (Ok x) takes);
        }
