-- What comes of asking for the controller of a session.
use Rattle.cf_lane.specs.Caller.{RateMoments, caller_at}
use Rattle.cf_lane.specs.Ring.{RingValue}
use Rattle.std.proofs.Common.{Err, List, None, Ok, Option, Result, Some, ap, refl, subst, sym, ℕ, ◌++◌, ◌<◌, ◌∙◌, ◌∷◌, ◌≡◌, []}
use Rattle.std.specs.Prelude.{IfOk, OnErr}
use Rattle.std.proofs.Common.{arith, if◌then◌else◌}
use Rattle.std.proofs.lemmas.List.{append_assoc}
use Rattle.cf_links.specs.Links.{LinksEntry, Of, SessionTold, with_answers, with_entry}
use Rattle.cf_outside.specs.Pair.{Entry, met_at}
use Rattle.cf_lane.specs.Handled.{IsLaneOf, LaneValue, debt}
use Rattle.cf_policy.specs.Site.{SiteValue}
use Rattle.cf_policy.specs.declared.Asset.{Asset}
use Rattle.cf_relay.proofs.Starting.{empty_judged, relayed_met}
use Rattle.cf_relay.specs.Relaying.{IsSound, RelayingValue, begun_value}
use Rattle.cf_relay.specs.declared.directions.Directions.TheVariants as both
use Rattle.cf_serve.proofs.Rounding.{more_none}
use Rattle.cf_view.specs.declared.Endpoint.{Endpoint}
use Rattle.cf_view.specs.declared.WriteFault.{WriteFault}
use Rattle.cf_lane.specs.Rings.{IsLeft}
use Rattle.cf_serve.specs.Failing.{MissesReach}
use Rattle.cf_serve.specs.Lending.{KeptRings, KeptValue, kept_at, rings_in}
use Rattle.cf_serve.specs.Rounds.{has_rates}
use Rattle.cf_serve.specs.Phase.{BeginsWith, LinkedValue, ReachDoes, ReachLeaves, StandsAs, TurnDoes, linked_value, rings_for}
use Rattle.cf_serve.specs.Session.{EndsSo, Listening, lost_line}
use Rattle.cf_serve.specs.declared.end.SessionEnd.{SessionEnd}
use Rattle.cf_serve.specs.declared.end.SessionEnd.TheVariants as end
use Rattle.cf_serve.specs.declared.session.Linked.{Linked}
use Rattle.cf_serve.specs.declared.session.Reached.{Reached}
use Rattle.cf_serve.specs.declared.session.Reached.TheVariants as reached

abbrev pub told_as : ℕ → Option (List LinksEntry) → SessionTold
told_as session list = record { session = session; list = list }

-- nothing was told
pub told_none : (session : ℕ) (list : Option (List LinksEntry)) → told_as session list ≡ with_answers (told_as session list) []
told_none session list = ap (told_as session) (more_none list)

-- one answer and then more
pub told_more : (session : ℕ) (list : Option (List LinksEntry)) (x : Entry) (xs : List Entry) →
    with_answers (with_entry (told_as session list) x) xs ≡ with_answers (told_as session list) (x ∷ xs)
told_more session None x xs = refl
told_more session (Some es) x xs = ap (λ ys. told_as session (Some ys)) (append_assoc es (Of session x ∷ []) _)

pub told_same : (told : SessionTold) → told ≡ with_answers told []
told_same told = told_none told.session told.list

-- a lane that was just made, in a relay that begins
pub fresh_sound : (site : SiteValue) (most m : ℕ) (lane : LaneValue) (v : RelayingValue) → 0 < most → IsLaneOf site lane → (lane.admitted ≡ 0) × (lane.refused ≡ 0) × (debt lane ≡ 0) → v ≡ begun_value lane m →
    IsSound site most v
fresh_sound site most m lane v few of_site counts is = subst (IsSound site most) (sym is) (record {
  of_site = of_site;
  debt = omega (arith, counts.2);
  short = record { client = omega arith; controller = omega arith; to_client = omega arith; to_controller = omega arith };
  to_client = omega arith;
  to_controller = omega arith;
  client_rest = omega arith;
  controller_rest = omega arith;
  counts = omega (arith, counts.0, counts.1);
  few = few;
})

-- of one that was turned away, whatever was left and whatever was told
module _ (at : Listening) (most : ℕ) (client : Endpoint) (earlier : List Entry) (log log' : Option (List (List ℕ))) where
  pub refused_any : (r : Result Reached WriteFault) → IfOk r (λ v. (left : Option (List (List RingValue))) (told : SessionTold) → ReachDoes at left most client earlier told told log log' v) →
      (left : Option (List (List RingValue))) (told : SessionTold) → IfOk r (λ v. ReachDoes at left most client earlier told told log log' v)
  refused_any (Ok v) does left told = does left told
  refused_any (Err e) does left told = tt

  pub refused_missed : (part : List ℕ) (r : Result Reached WriteFault) → OnErr r ((told : SessionTold) → MissesReach at most client earlier told told log log' part) →
      (told : SessionTold) → OnErr r (MissesReach at most client earlier told told log log' part)
  refused_missed part (Ok v) does told = tt
  refused_missed part (Err e) does told = does told

-- what was left is the same, where the same is kept
pub rings_same : (at : Listening) (most : ℕ) (client : Endpoint) (store store' : List KeptValue) (place : ℕ) → kept_at store' place client.address ≡ kept_at store place client.address →
    (earlier : List Entry) (told told' : SessionTold) (log log' : Option (List (List ℕ))) (r : Result Reached WriteFault) →
    IfOk r (λ v. ReachDoes at (rings_for at.site store' place client.address) most client earlier told told' log log' v) →
    IfOk r (λ v. ReachDoes at (rings_for at.site store place client.address) most client earlier told told' log log' v)
rings_same at most client store store' place same earlier told told' log log' r does =
    subst (λ (k : Option KeptRings). IfOk r (λ v. ReachDoes at (if has_rates at.site then rings_in k else None) most client earlier told told' log log' v)) same does

-- whatever was left, whoever came and whatever was told
module _ (at : Listening) (most : ℕ) (earlier : List Entry) (log log' : Option (List (List ℕ))) where
  pub reached_any : (r : Result Reached WriteFault) → IfOk r (λ v. (left : Option (List (List RingValue))) (client : Endpoint) (told : SessionTold) → ReachDoes at left most client earlier told told log log' v) →
      (left : Option (List (List RingValue))) (client : Endpoint) (told told' : SessionTold) → told' ≡ told → IfOk r (λ v. ReachDoes at left most client earlier told told' log log' v)
  reached_any (Ok v) does left client told told' same = subst (λ (t : SessionTold). ReachDoes at left most client earlier told t log log' v) (sym same) (does left client told)
  reached_any (Err e) does left client told told' same = tt

  pub missed_any : {A : Type 0} (r : Result A WriteFault) (part : List ℕ) → OnErr r ((client : Endpoint) (told : SessionTold) → MissesReach at most client earlier told told log log' part) →
      (client : Endpoint) (told told' : SessionTold) → told' ≡ told → OnErr r (MissesReach at most client earlier told told' log log' part)
  missed_any (Ok v) part does client told told' same = tt
  missed_any (Err e) part does client told told' same = subst (λ (t : SessionTold). MissesReach at most client earlier told t log log' part) (sym same) (does client told)

  pub reached_told : (r : Result Reached WriteFault) (left : Option (List (List RingValue))) (client : Endpoint) → IfOk r (λ v. (told : SessionTold) → ReachDoes at left most client earlier told told log log' v) →
      (told : SessionTold) → IfOk r (λ v. ReachDoes at left most client earlier told told log log' v)
  reached_told (Ok v) left client does told = does told
  reached_told (Err e) left client does told = tt

  pub missed_told : {A : Type 0} (r : Result A WriteFault) (part : List ℕ) (client : Endpoint) → OnErr r ((told : SessionTold) → MissesReach at most client earlier told told log log' part) →
      (told : SessionTold) → OnErr r (MissesReach at most client earlier told told log log' part)
  missed_told (Ok v) part client does told = tt
  missed_told (Err e) part client does told = does told

module _ (at : Listening) (most : ℕ) (client : Endpoint) where
  -- the clock failed before the first moment
  pub lost_first : (few : 0 < most) (met : Endpoint) (before : RateMoments) →
      EndsSo at before most client (met_at at.port at.site.first.endpoint met ∷ []) (lost_line at.site (met_at at.port at.site.first.endpoint met ∷ []) 0 0 ∷ []) end.Lost
  lost_first few met before = record {
    admitted = 0;
    refused = 0;
    ended = record {
      relayed = relayed_met at.site before at.port most few both.Separate met;
      goes = record { judged = []; are_items = empty_judged at.site (caller_at met.address before); uncut = refl; idle = few };
      prefixes = λ s. ([], refl);
      holds_log = refl;
    };
    counts = record { admitted = refl; refused = refl };
  }

  module _ (session : ℕ) (list : Option (List LinksEntry)) (after : SessionTold) (log log' : Option (List (List ℕ))) where
    -- an answer and what came then
    pub then_reached : (left : Option (List (List RingValue))) (earlier : List Entry) (mid : SessionTold) (x : Entry) (r : Result Reached WriteFault) → mid ≡ with_entry (told_as session list) x →
        IfOk r (λ reached. ReachDoes at left most client (earlier ++ x ∷ []) mid after log log' reached) →
        IfOk r (λ reached. ReachDoes at left most client earlier (told_as session list) after log log' reached)
    then_reached left earlier mid x (Ok v) is does = record {
      answers = x ∷ does.answers;
      lines = does.lines;
      tells = does.tells ∙ ap (λ t. with_answers t does.answers) is ∙ told_more session list x does.answers;
      added = does.added;
      leaves = subst (λ (es : List Entry). ReachLeaves at left most client es does.lines v) (append_assoc earlier (x ∷ []) does.answers) does.leaves;
    }
    then_reached left earlier mid x (Err e) is does = tt

    -- an end before the first turn
    pub ended_turn : (left : Option (List (List RingValue))) (o : Option LinkedValue) (v : Reached) (e : SessionEnd) → o ≡ None → v ≡ reached.Ended e →
        ReachDoes at left most client [] (told_as session list) after log log' v → TurnDoes at left most client (told_as session list) after log log' o o (Some e)
    ended_turn left o v e none is does = record {
      answers = does.answers;
      tells = does.tells;
      leaves = λ before es own begins h.
          let n : (es ≡ []) × (own ≡ []) = subst (λ x. StandsAs at before most es own x) none h in
          let y = subst (λ x. ReachLeaves at left most client does.answers does.lines x) is does.leaves in
          (does.lines, (does.added, rw (n.0, n.1, none) (y.0 before, y.1)));
    }

    -- a relay that begins
    pub begun_turn : (left : Option (List (List RingValue))) (o new : Option LinkedValue) (v : Reached) (linked : Linked) → o ≡ None → v ≡ reached.Begun linked → new ≡ Some (linked_value linked) →
        ReachDoes at left most client [] (told_as session list) after log log' v → TurnDoes at left most client (told_as session list) after log log' o new None
    begun_turn left o new v linked none is one does = record {
      answers = does.answers;
      tells = does.tells;
      leaves = λ before es own begins h.
          let n : (es ≡ []) × (own ≡ []) = subst (λ x. StandsAs at before most es own x) none h in
          let b : IsLeft left before = subst (λ x. BeginsWith left before None x) one (subst (λ x. BeginsWith left before x new) none begins) in
          let y = subst (λ x. ReachLeaves at left most client does.answers does.lines x) is does.leaves in
          (does.lines, (does.added, rw (n.0, n.1, one) (y before b)));
    }

    -- one that is waited for
    pub waits_turn : (left : Option (List (List RingValue))) (o : Option LinkedValue) (v : Reached) → o ≡ None → v ≡ reached.Waiting →
        ReachDoes at left most client [] (told_as session list) after log log' v → TurnDoes at left most client (told_as session list) after log log' o o None
    waits_turn left o v none is does = record {
      answers = does.answers;
      tells = does.tells;
      leaves = λ before es own begins h.
          let n : (es ≡ []) × (own ≡ []) = subst (λ x. StandsAs at before most es own x) none h in
          let y = subst (λ x. ReachLeaves at left most client does.answers does.lines x) is does.leaves in
          (does.lines, (does.added, rw (n.0, n.1, none) y));
    }

-- the controller that is reached is that of the site's first asset
pub met_first : (told told' : SessionTold) (listen : ℕ) (one first : Asset) (met : Endpoint) → one ≡ first → told' ≡ with_entry told (met_at listen one.endpoint met) →
    told' ≡ with_entry told (met_at listen first.endpoint met)
met_first told told' listen one first met same entry = subst (λ (a : Asset). told' ≡ with_entry told (met_at listen a.endpoint met)) same entry
