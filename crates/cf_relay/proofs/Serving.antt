-- A side that is given what is queued for it, and closed where that is all.
use Rattle.std.proofs.Common.{Bool, Err, List, Ok, Result, ap, arith, cond, length, refl, subst, sym, true, ℕ, ◌+◌, ◌<◌, ◌∙◌, ◌∷◌, ◌≡◌, ◌≤◌, []}
use Rattle.std.specs.Prelude.{IfErr, OnOk}
use Rattle.std.specs.Result.{IsErrAnd}
use Rattle.std.proofs.lemmas.List.{length-append}
use Rattle.cf_lane.specs.Handled.{IsLaneOf, LaneValue}
use Rattle.cf_lane.specs.Output.{other}
use Rattle.cf_lane.specs.declared.limit.TheConstants.{LETTER_LIMIT}
use Rattle.cf_links.specs.LinkValue.{LinkValue}
use Rattle.cf_links.specs.Links.{LinksPlace, SessionTold}
use Rattle.cf_outq.specs.SendQueue.{IsQueueOf, Queue, queue_length}
use Rattle.cf_outside.specs.Desk.{DeskValue}
use Rattle.cf_outside.specs.Pair.{Entry, FaultsBy}
use Rattle.cf_policy.specs.Site.{SiteValue}
use Rattle.cf_stream.specs.Stream.{Stream}
use Rattle.cf_view.specs.declared.Side.{Side}
use Rattle.cf_view.specs.declared.Side.TheVariants as side
use Rattle.cf_relay.proofs.Doing.{ClosesTo, GivesTo, by_side, finish_goes, finish_stops, give_goes, give_stops}
use Rattle.cf_relay.proofs.Moving.{serve_moves}
use Rattle.cf_relay.proofs.Scenes.{all_ok, faults_of, goes_stops, goes_then, no_fault, stops_more}
use Rattle.cf_relay.specs.Answers.{given}
use Rattle.cf_relay.specs.Gave.{FinishesBy, Gave, GaveBy}
use Rattle.cf_relay.specs.Relaying.{IsSound, RelayingValue, ServesOrRests, is_closed, letters_from, queue_to, relaying_value}
use Rattle.cf_relay.specs.Scene.{DoesBetween, RoseBy, Scene, StopsBetween, StopsBy, scene}
use Rattle.cf_relay.specs.Sides.{of_side, with_side}
use Rattle.cf_relay.specs.Taken.{KeepsLane, StaysWhole}
use Rattle.cf_relay.specs.Turn.{Finishing, Giving}
use Rattle.cf_relay.specs.declared.relaying.Relaying.{Relaying}
use Rattle.cf_relay.specs.declared.sides.Sides.{Sides}
use Rattle.cf_relay.specs.declared.stop.Stop.{Stop}
use Rattle.cf_relay.specs.declared.stop.Stop.TheVariants as stop

-- what a `?` hands on
pub handed_on : {T : Type 0} (r : Result T Stop) (e : Stop) (P : Stop → Type 0) → IsErrAnd r (λ x. x ≡ e) → P e → IfErr r P
handed_on (Ok x) e P is p = tt
handed_on (Err x) e P is p = subst P (sym is) p

-- where it hands on an error there is no success
pub not_ok : {T : Type 0} (r : Result T Stop) (e : Stop) (P : Type 0) → IsErrAnd r (λ x. x ≡ e) → OnOk r P
not_ok (Ok x) e P is = absurd is
not_ok (Err x) e P is = tt

-- a desk that is whole, however a call ends
pub whole_any : (r : Result (Unit {0}) Stop) (desk : DeskValue) → desk.whole ≡ true → StaysWhole r desk
whole_any (Ok x) desk is = is
whole_any (Err stop.Idle) desk is = is
whole_any (Err stop.Link) desk is = is
whole_any (Err stop.Write) desk is = tt
whole_any (Err (stop.Cut reason)) desk is = is

-- what it hands on leaves the desk as the call did
pub whole_on : (r : Result (Unit {0}) Stop) (e : Stop) (desk : DeskValue) → IsErrAnd r (λ x. x ≡ e) → StaysWhole (Err e) desk → StaysWhole r desk
whole_on (Ok x) e desk is whole = absurd is
whole_on (Err x) e desk is whole = subst (λ e. StaysWhole (Err e) desk) (sym is) whole

-- a lane that stays as it was is one of the site still
pub keeps_any : (site : SiteValue) (old new : LaneValue) (e : Stop) → new ≡ old → IsLaneOf site old → KeepsLane site new e
keeps_any site old new stop.Idle same is = subst (IsLaneOf site) (sym same) is
keeps_any site old new stop.Link same is = subst (IsLaneOf site) (sym same) is
keeps_any site old new stop.Write same is = tt
keeps_any site old new (stop.Cut reason) same is = subst (IsLaneOf site) (sym same) is

pub keeps_each : (site : SiteValue) (old new : LaneValue) → new ≡ old → IsLaneOf site old → (r : Result (Unit {0}) Stop) → IfErr r (KeepsLane site new)
keeps_each site old new same is (Ok x) = tt
keeps_each site old new same is (Err e) = keeps_any site old new e same is

-- ---- of each side

pub of_each : {T : Type 0} (P : T → Type 0) (s : Side) (both : Sides T) → P both.client → P both.controller → P (of_side s both)
of_each P s both p q = by_side (λ s. P (of_side s both)) p q s

pub with_each : {T : Type 0} (P : T → Type 0) (s : Side) (both : Sides T) (x : T) → P both.client → P both.controller → P x → P (with_side s both x).client × P (with_side s both x).controller
with_each P side.Client both x p q r = (r, q)
with_each P side.Controller both x p q r = (p, r)

-- a relay whose queue to a side was given from
abbrev pub given_to : Side → Relaying → Queue → ℕ → RelayingValue
given_to s old q n = relaying_value (record old { to = with_side s old.to q; idle = n })

-- and the side was closed, or not
abbrev pub served_to : Side → Relaying → Queue → ℕ → Bool → RelayingValue
served_to s old q n b = relaying_value (record old { to = with_side s old.to q; finished = with_side s old.finished b; idle = n })

gives_side : (s : Side) (old : Relaying) (q : Queue) (n : ℕ) → GivesTo s (relaying_value old) (given_to s old q n)
gives_side s old q n = record {
  lane = refl;
  rests = refl;
  moment = refl;
  same = by_side (λ s. queue_to (other s) (given_to s old q n) ≡ queue_to (other s) (relaying_value old)) refl refl s;
  letters = by_side (λ t. letters_from t (given_to s old q n) ≡ letters_from t (relaying_value old)) refl refl;
  closed = by_side (λ t. is_closed t (given_to s old q n) ≡ is_closed t (relaying_value old)) refl refl;
}

closes_side : (s : Side) (old : Relaying) (q : Queue) (n : ℕ) (b : Bool) → ClosesTo s (given_to s old q n) (served_to s old q n b)
closes_side s old q n b = record {
  keeps = record {
    lane = refl;
    rests = refl;
    letters = by_side (λ t. letters_from t (served_to s old q n b) ≡ letters_from t (given_to s old q n)) refl refl;
    queues = by_side (λ t. queue_to t (served_to s old q n b) ≡ queue_to t (given_to s old q n)) refl refl;
    moment = refl;
  };
  others = by_side (λ s. is_closed (other s) (served_to s old q n b) ≡ is_closed (other s) (given_to s old q n)) refl refl s;
  idle = refl;
}

finish_cause : (s : Side) (q : Queue) (a b : Bool) (told told' : SessionTold) (old new : Scene) (why : Stop) → FinishesBy s q a b told told' (Err why) →
    FaultsBy old.links.faults new.links.faults (why ≡ stop.Link) → StopsBy why old new
finish_cause s q a b told told' old new stop.Link finishes link = link.rose refl
finish_cause s q a b told told' old new stop.Idle finishes link = absurd finishes
finish_cause s q a b told told' old new stop.Write finishes link = absurd finishes
finish_cause s q a b told told' old new (stop.Cut reason) finishes link = absurd finishes

module _ (most : ℕ) (s : Side) (old mid new : RelayingValue) (links linksm links' : LinkValue) (few : mid.idle < most) (closes : ClosesTo s mid new)
    (gives : (site : SiteValue) (desk : DeskValue) → DoesBetween site most (Giving s ∷ []) (scene old links desk) (scene mid linksm desk)) (same : links'.idles ≡ linksm.idles) where
  serve_goes : (r : Result (Unit {0}) Stop) → FinishesBy s (queue_to s mid) (is_closed s mid) (is_closed s new) linksm.told links'.told r → FaultsBy linksm.faults links'.faults (r ≡ Err stop.Link) →
      OnOk r ((site : SiteValue) (desk : DeskValue) → DoesBetween site most (Giving s ∷ Finishing s ∷ []) (scene old links desk) (scene new links' desk))
  serve_goes (Ok x) finishes cause = λ site desk. goes_then (gives site desk)
      (finish_goes site most s mid new linksm links' desk few closes cause.later same (cause.still (λ is. cc)) x finishes)
  serve_goes (Err e) finishes cause = tt

  serve_stops : (r : Result (Unit {0}) Stop) → FinishesBy s (queue_to s mid) (is_closed s mid) (is_closed s new) linksm.told links'.told r → FaultsBy linksm.faults links'.faults (r ≡ Err stop.Link) →
      IfErr r (λ why. (site : SiteValue) (desk : DeskValue) → StopsBetween site most (Giving s ∷ Finishing s ∷ []) why (scene old links desk) (scene new links' desk))
  serve_stops (Ok x) finishes cause = tt
  serve_stops (Err e) finishes cause = λ site desk. goes_stops (gives site desk)
      (finish_stops site most s mid new linksm links' desk few closes cause.later same e finishes
      (finish_cause s (queue_to s mid) (is_closed s mid) (is_closed s new) linksm.told links'.told (scene mid linksm desk) (scene new links' desk) e finishes (faults_of linksm.faults links'.faults (Err e) e refl cause)))

-- a give broke off
give_cause : (s : Side) (most : ℕ) (q q' : Queue) (a b : SessionTold) (i j : ℕ) (old new : Scene) (why : Stop) → GaveBy s most q q' a b i j (Err why) →
    FaultsBy old.links.faults new.links.faults (why ≡ stop.Link) → StopsBy why old new
give_cause s most q q' a b i j old new stop.Link gave link = link.rose refl
give_cause s most q q' a b i j old new stop.Idle gave link = link.still (λ is. cc)
give_cause s most q q' a b i j old new stop.Write gave link = absurd gave
give_cause s most q q' a b i j old new (stop.Cut reason) gave link = absurd gave

give_breaks : (site : SiteValue) (most : ℕ) (s : Side) (old new : RelayingValue) (links links' : LinkValue) (desk : DeskValue) → old.idle < most → GivesTo s old new →
    ((w : Stream) → IsQueueOf (queue_to s old) w → IsQueueOf (queue_to s new) w) → (r : Result (Unit {0}) Stop) (why : Stop) → r ≡ Err why → FaultsBy links.faults links'.faults (r ≡ Err stop.Link) →
    ((start : ℕ) → RoseBy old.idle start links.idles → RoseBy new.idle start links'.idles) →
    GaveBy s most (queue_to s old) (queue_to s new) links.told links'.told old.idle new.idle (Err why) →
    StopsBetween site most (Giving s ∷ Finishing s ∷ []) why (scene old links desk) (scene new links' desk)
give_breaks site most s old new links links' desk few to stands r why was cause idles gave =
    stops_more (Finishing s ∷ []) (give_stops site most s old new links links' desk few to stands cause.later idles why gave
    (give_cause s most (queue_to s old) (queue_to s new) links.told links'.told old.idle new.idle (scene old links desk) (scene new links' desk) why gave (faults_of links.faults links'.faults r why was cause)))

-- ---- the calls of a side that is served

-- a queue that is short of the limit, and has room for its bytes after the letters that were acknowledged
record IsWithinLimit (q : Queue) : Type 0 where
  pub short : queue_length q < LETTER_LIMIT
  pub fits : length q.kept + q.acked ≤ queue_length q

gave_within : (s : Side) (q q' : Queue) (told told' : SessionTold) (idle idle' : ℕ) (answers : List Entry) → Gave s q q' told told' idle idle' answers → IsWithinLimit q → IsWithinLimit q'
gave_within s q q' told told' idle idle' answers gave h =
    let e : queue_length q' ≡ queue_length q = ap (λ n. n + cond q'.ended 1 0) gave.pushed ∙ ap {B = ℕ} (λ b. q.pushed + cond b 1 0) gave.ended in
    let k : length q.kept ≡ length (given s answers) + length q'.kept = ap length gave.kept ∙ length-append (given s answers) q'.kept in
    record { short = omega (arith, e, h.short); fits = omega (arith, e, k, gave.acked, h.fits) }

-- what the calls of a side that is served come to
pub record Served (most : ℕ) (s : Side) (r : Result (Unit {0}) Stop) (old : Relaying) (new : RelayingValue) (links links' : LinkValue) : Type 0 where
  pub goes : OnOk r ((site : SiteValue) (desk : DeskValue) → DoesBetween site most (Giving s ∷ Finishing s ∷ []) (scene (relaying_value old) links desk) (scene new links' desk))
  pub stops : IfErr r (λ why. (site : SiteValue) (desk : DeskValue) → StopsBetween site most (Giving s ∷ Finishing s ∷ []) why (scene (relaying_value old) links desk) (scene new links' desk))
  pub sound : OnOk r ((site : SiteValue) → IsSound site most (relaying_value old) → IsSound site most new)
  pub moves : OnOk r (ServesOrRests s most (relaying_value old) new)

module _ (most : ℕ) (s : Side) (old : Relaying) (queue queue' : Queue) (idle' : ℕ) (links links' : LinkValue) (few : old.idle < most) (lent : queue ≡ of_side s old.to)
    (stands : (w : Stream) → IsQueueOf queue w → IsQueueOf queue' w) (idles : (start : ℕ) → RoseBy old.idle start links.idles → RoseBy idle' start links'.idles)
    (r : Result (Unit {0}) Stop) (cause : FaultsBy links.faults links'.faults (r ≡ Err stop.Link)) where
  at_queues : (P : Queue → Queue → Type 0) → P queue queue' → P (queue_to s (relaying_value old)) (queue_to s (given_to s old queue' idle'))
  at_queues P p =
      subst (λ x. P x (queue_to s (given_to s old queue' idle'))) (lent ∙ by_side (λ s. of_side s old.to ≡ queue_to s (relaying_value old)) refl refl s)
      (subst (λ x. P queue x) (by_side (λ s. queue' ≡ queue_to s (given_to s old queue' idle')) refl refl s) p)

  gave_at : (r : Result (Unit {0}) Stop) → GaveBy s most queue queue' links.told links'.told old.idle idle' r →
      GaveBy s most (queue_to s (relaying_value old)) (queue_to s (given_to s old queue' idle')) links.told links'.told old.idle idle' r
  gave_at r gave = at_queues (λ x y. GaveBy s most x y links.told links'.told old.idle idle' r) gave

  stands_at : (w : Stream) → IsQueueOf (queue_to s (relaying_value old)) w → IsQueueOf (queue_to s (given_to s old queue' idle')) w
  stands_at = at_queues (λ x y. (w : Stream) → IsQueueOf x w → IsQueueOf y w) stands

  -- what a `?` hands on
  pub give_broke : {T : Type 0} (answer : Result T Stop) (why : Stop) → IsErrAnd answer (λ e. e ≡ why) → r ≡ Err why → GaveBy s most queue queue' links.told links'.told old.idle idle' (Err why) →
      IfErr answer (λ e. (site : SiteValue) (desk : DeskValue) → StopsBetween site most (Giving s ∷ Finishing s ∷ []) e (scene (relaying_value old) links desk) (scene (given_to s old queue' idle') links' desk))
  give_broke answer why is was gave =
      handed_on answer why (λ e. (site : SiteValue) (desk : DeskValue) → StopsBetween site most (Giving s ∷ Finishing s ∷ []) e (scene (relaying_value old) links desk) (scene (given_to s old queue' idle') links' desk)) is
      (λ site desk. give_breaks site most s (relaying_value old) (given_to s old queue' idle') links links' desk few (gives_side s old queue' idle') stands_at r why was cause idles (gave_at (Err why) gave))

  module _ (x : Unit {0}) (was : r ≡ Ok x) (gave : GaveBy s most queue queue' links.told links'.told old.idle idle' (Ok x)) where
    gave_goes : (site : SiteValue) (desk : DeskValue) → DoesBetween site most (Giving s ∷ []) (scene (relaying_value old) links desk) (scene (given_to s old queue' idle') links' desk)
    gave_goes = λ site desk. give_goes site most s (relaying_value old) (given_to s old queue' idle') links links' desk few (gives_side s old queue' idle') stands_at cause.later idles
        (no_fault links.faults links'.faults r x was cause) x (gave_at (Ok x) gave)

    module _ (finished finished' : Bool) (links'' : LinkValue) (shut : finished ≡ of_side s old.finished) (same : links''.idles ≡ links'.idles) (f : Result (Unit {0}) Stop)
        (finishes : FinishesBy s queue' finished finished' links'.told links''.told f) (late : FaultsBy links'.faults links''.faults (f ≡ Err stop.Link)) where
      finishes_at : FinishesBy s (queue_to s (given_to s old queue' idle')) (is_closed s (given_to s old queue' idle')) (is_closed s (served_to s old queue' idle' finished')) links'.told links''.told f
      finishes_at =
          subst (λ q. FinishesBy s q (is_closed s (given_to s old queue' idle')) (is_closed s (served_to s old queue' idle' finished')) links'.told links''.told f)
          (by_side (λ s. queue' ≡ queue_to s (given_to s old queue' idle')) refl refl s)
          (subst (λ b. FinishesBy s queue' b (is_closed s (served_to s old queue' idle' finished')) links'.told links''.told f)
          (shut ∙ by_side (λ s. of_side s old.finished ≡ is_closed s (given_to s old queue' idle')) refl refl s)
          (subst (λ b. FinishesBy s queue' finished b links'.told links''.told f) (by_side (λ s. finished' ≡ is_closed s (served_to s old queue' idle' finished')) refl refl s) finishes))

      served_sound : (site : SiteValue) → IsSound site most (relaying_value old) → IsSound site most (served_to s old queue' idle' finished')
      served_sound site h =
          let client : IsWithinLimit old.to.client = record { short = h.short.to_client; fits = h.to_client } in
          let controller : IsWithinLimit old.to.controller = record { short = h.short.to_controller; fits = h.to_controller } in
          let each = with_each IsWithinLimit s old.to queue' client controller
          (gave_within s queue queue' links.told links'.told old.idle idle' gave.0 gave.1 (subst IsWithinLimit (sym lent) (of_each IsWithinLimit s old.to client controller))) in
          record {
            of_site = h.of_site;
            debt = h.debt;
            short = record { client = h.short.client; controller = h.short.controller; to_client = each.0.short; to_controller = each.1.short };
            to_client = each.0.fits;
            to_controller = each.1.fits;
            client_rest = h.client_rest;
            controller_rest = h.controller_rest;
            counts = h.counts;
            few = gave.3;
          }

      served_moves : (f : Result (Unit {0}) Stop) → FinishesBy s (queue_to s (given_to s old queue' idle')) (is_closed s (given_to s old queue' idle')) (is_closed s (served_to s old queue' idle' finished')) links'.told links''.told f →
          OnOk f (ServesOrRests s most (relaying_value old) (served_to s old queue' idle' finished'))
      served_moves (Ok y) done = serve_moves most s (relaying_value old) (given_to s old queue' idle') (served_to s old queue' idle' finished') few (gives_side s old queue' idle') (closes_side s old queue' idle' finished')
          links.told links'.told links'.told links''.told x y (gave_at (Ok x) gave) done
      served_moves (Err e) done = tt

      pub served : Served most s f old (served_to s old queue' idle' finished') links links''
      served = record {
        goes = serve_goes most s (relaying_value old) (given_to s old queue' idle') (served_to s old queue' idle' finished') links links' links'' gave.3 (closes_side s old queue' idle' finished') gave_goes same f finishes_at late;
        stops = serve_stops most s (relaying_value old) (given_to s old queue' idle') (served_to s old queue' idle' finished') links links' links'' gave.3 (closes_side s old queue' idle' finished') gave_goes same f finishes_at late;
        sound = all_ok f _ served_sound;
        moves = served_moves f finishes_at;
      }
