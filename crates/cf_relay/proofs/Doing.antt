-- What the code does between two places is a stage that is done, or one that breaks off.
use Rattle.std.proofs.Common.{Err, List, Ok, Option, ap, arith, false, inl, inr, length, map, max, refl, subst, sym, true, ℕ, ◌++◌, ◌+◌, ◌<◌, ◌∙◌, ◌∷◌, ◌≡◌, ◌≤◌, ◌||◌, ◌⊎◌, if◌then◌else◌, []}
use Rattle.std.specs.List.{flat_map, list_any}
use Rattle.std.proofs.Math.Bool.{or-false, or-true}
use Rattle.std.proofs.lemmas.List.{append-nil}
use Rattle.cf_lane.specs.History.{is_side}
use Rattle.cf_lane.specs.Output.{other}
use Rattle.cf_links.specs.LinkValue.{LinkValue}
use Rattle.cf_links.specs.Links.{SessionTold, with_entry}
use Rattle.cf_outq.specs.SendQueue.{IsQueueOf, Queue}
use Rattle.cf_outside.specs.Desk.{DeskValue}
use Rattle.cf_outside.specs.Faults.{Rose}
use Rattle.cf_outside.specs.Pair.{Entry, Finished, Idle, Moment, Took}
use Rattle.cf_policy.specs.Site.{SiteValue}
use Rattle.cf_stream.specs.Stream.{Stream}
use Rattle.cf_view.specs.declared.Side.{Side}
use Rattle.cf_view.specs.declared.Side.TheVariants as side
use Rattle.cf_relay.proofs.Giving.{with_none}
use Rattle.cf_relay.proofs.Lined.{apart_none}
use Rattle.cf_relay.proofs.Lists.{closes_more, told_more}
use Rattle.cf_relay.proofs.Scenes.{writes_none}
use Rattle.cf_relay.proofs.Stages.{begins_stage, breaks_nothing, finishes_stage, gives_stage, no_finish, one_broken, one_stage, tells_stage}
use Rattle.cf_relay.proofs.Standing.{Silent, stands_silent}
use Rattle.cf_relay.specs.Answers.{closes, given, greatest, history_after, idles_after, is_finished, met_in, moments}
use Rattle.cf_relay.specs.Gave.{FinishesBy, Gave, GaveBy, OnlyEndIsLeft}
use Rattle.cf_relay.specs.Relaying.{AreClosed, RelayingValue, is_closed, letters_from, queue_to, rests_of}
use Rattle.cf_relay.specs.Scene.{DoesBetween, RoseBy, StopsBetween, StopsBy, scene}
use Rattle.cf_relay.specs.Stands.{StandsFor}
use Rattle.cf_relay.specs.Turn.{BeginsToGive, Finishing, Giving, GivesQueued, HasBytes, Stage, Telling}
use Rattle.cf_relay.specs.declared.stop.Stop.{Stop}
use Rattle.cf_relay.specs.declared.stop.Stop.TheVariants as stop

-- ---- both sides

-- a fact of both sides
pub by_side : (P : Side → Type 0) → P side.Client → P side.Controller → (t : Side) → P t
by_side P p q side.Client = p
by_side P p q side.Controller = q

pub by_own : (P : Side → Type 0) (s : Side) → P s → P (other s) → (t : Side) → P t
by_own P side.Client p q side.Client = p
by_own P side.Client p q side.Controller = q
by_own P side.Controller p q side.Client = q
by_own P side.Controller p q side.Controller = p

-- ---- silent answers

-- nothing of a relay changed but which sides are closed, and the number of answers Idle
pub record KeepsQueues (old new : RelayingValue) : Type 0 where
  pub lane : new.lane ≡ old.lane
  pub rests : rests_of new ≡ rests_of old
  pub letters : (t : Side) → letters_from t new ≡ letters_from t old
  pub queues : (t : Side) → queue_to t new ≡ queue_to t old
  pub moment : new.moment ≡ old.moment

-- answers that are no more than answers Idle and closes
pub record IsQuiet (answers : List Entry) : Type 0 where
  pub history : (earlier : List Entry) → history_after earlier answers ≡ []
  pub met : flat_map met_in answers ≡ []
  pub told : moments answers ≡ []
  pub gives : (t : Side) → given t answers ≡ []

pub quiet_none : IsQuiet []
quiet_none = record { history = λ earlier. refl; met = refl; told = refl; gives = λ t. refl }

pub quiet_idle : (s : Side) → IsQuiet (Idle s ∷ [])
quiet_idle s = record { history = λ earlier. refl; met = refl; told = refl; gives = λ t. refl }

quiet_close : (s : Side) → IsQuiet (Finished s ∷ [])
quiet_close s = record { history = λ earlier. refl; met = refl; told = refl; gives = λ t. refl }

pub silent_kept : (answers : List Entry) (old new : RelayingValue) (log log' : Option (List (List ℕ))) → IsQuiet answers → KeepsQueues old new → log' ≡ log → new.idle ≡ idles_after old.idle answers →
    ((t : Side) → is_closed t new ≡ (is_closed t old || list_any (closes t) answers)) →
    ((t : Side) → is_closed t new ≡ true → (is_closed t old ≡ true) ⊎ (((queue_to t new).kept ≡ []) × ((queue_to t new).ended ≡ true))) → Silent answers old new log log'
silent_kept answers old new log log' quiet keeps same idle closed done = record {
  history = quiet.history;
  met = quiet.met;
  lane = keeps.lane;
  same_log = same;
  rests = keeps.rests;
  letters = keeps.letters;
  stands = λ t w q. subst (λ (k : Queue). IsQueueOf k w) (sym (keeps.queues t)) q;
  ended = λ t. ap (λ (k : Queue). k.ended) (keeps.queues t);
  kept = λ t. ap (λ (k : Queue). k.kept) (sym (keeps.queues t)) ∙ ap (λ xs. xs ++ (queue_to t new).kept) (sym (quiet.gives t));
  acked = λ t. omega (arith, ap (λ (k : Queue). k.acked) (keeps.queues t), ap length (quiet.gives t));
  closed = λ es t e. closed t ∙ ap (λ b. b || list_any (closes t) answers) e ∙ sym (closes_more t es answers);
  done = done;
  moment = λ es e. keeps.moment ∙ e ∙ ap greatest (sym (told_more es answers ∙ ap (λ ms. moments es ++ ms) quiet.told ∙ append-nil (moments es)));
  idle = idle;
}

greatest_more : (xs : List ℕ) (m : ℕ) → greatest (xs ++ m ∷ []) ≡ max (greatest xs) m
greatest_more [] m = omega arith
greatest_more (x ∷ xs) m = omega (arith, greatest_more xs m)

silent_moment : (old : RelayingValue) (log : Option (List (List ℕ))) (m : ℕ) → Silent (Moment m ∷ []) old (record old { moment = max old.moment m }) log log
silent_moment old log m = record {
  history = λ earlier. refl;
  met = refl;
  lane = refl;
  same_log = refl;
  rests = refl;
  letters = by_side (λ t. letters_from t (record old { moment = max old.moment m }) ≡ letters_from t old) refl refl;
  stands = λ t w. by_side (λ t. IsQueueOf (queue_to t old) w → IsQueueOf (queue_to t (record old { moment = max old.moment m })) w) (λ q. q) (λ q. q) t;
  ended = by_side (λ t. (queue_to t (record old { moment = max old.moment m })).ended ≡ (queue_to t old).ended) refl refl;
  kept = by_side (λ t. (queue_to t old).kept ≡ [] ++ (queue_to t (record old { moment = max old.moment m })).kept) refl refl;
  acked = by_side (λ t. (queue_to t (record old { moment = max old.moment m })).acked ≡ (queue_to t old).acked + 0) (omega arith) (omega arith);
  closed = λ es t e. by_side (λ t. is_closed t (record old { moment = max old.moment m }) ≡ is_closed t old) refl refl t ∙ e ∙ sym (closes_more t es (Moment m ∷ []) ∙ or-false (is_finished t es));
  done = λ t is. inl (by_side (λ t. is_closed t old ≡ is_closed t (record old { moment = max old.moment m })) refl refl t ∙ is);
  moment = λ es e. ap (λ n. max n m) e ∙ sym (greatest_more (moments es) m) ∙ ap greatest (sym (told_more es (Moment m ∷ [])));
  idle = refl;
}

-- nothing of the relay changed but the queue to a side and the number of answers Idle
pub record GivesTo (s : Side) (old new : RelayingValue) : Type 0 where
  pub lane : new.lane ≡ old.lane
  pub rests : rests_of new ≡ rests_of old
  pub letters : (t : Side) → letters_from t new ≡ letters_from t old
  pub closed : (t : Side) → is_closed t new ≡ is_closed t old
  pub moment : new.moment ≡ old.moment
  pub same : queue_to (other s) new ≡ queue_to (other s) old

-- five facts of a list of answers that gives to a side
pub record IsGiving (s : Side) (answers : List Entry) : Type 0 where
  pub history : (earlier : List Entry) → history_after earlier answers ≡ []
  pub met : flat_map met_in answers ≡ []
  pub told : moments answers ≡ []
  pub closes_nothing : (t : Side) → list_any (closes t) answers ≡ false
  pub others : given (other s) answers ≡ []

other_side : (s : Side) → is_side (other s) s ≡ false
other_side side.Client = refl
other_side side.Controller = refl

giving_front : (s : Side) (pieces : List (List ℕ)) (rest : List Entry) → IsGiving s rest → IsGiving s (map (Took s) pieces ++ rest)
giving_front s [] rest is = is
giving_front s (p ∷ pieces) rest is =
    let g = giving_front s pieces rest is in
    record {
      history = λ earlier. g.history (earlier ++ Took s p ∷ []);
      met = g.met;
      told = g.told;
      closes_nothing = g.closes_nothing;
      others = ap (λ b. (if b then p else []) ++ given (other s) (map (Took s) pieces ++ rest)) (other_side s) ∙ g.others;
    }

giving_pieces : (s : Side) (pieces : List (List ℕ)) → IsGiving s (map (Took s) pieces)
giving_pieces s pieces = subst (IsGiving s) (append-nil (map (Took s) pieces)) (giving_front s pieces [] (record { history = λ earlier. refl; met = refl; told = refl; closes_nothing = λ t. refl; others = refl }))

giving_idle : (s : Side) (pieces : List (List ℕ)) → IsGiving s (map (Took s) pieces ++ Idle s ∷ [])
giving_idle s pieces = giving_front s pieces (Idle s ∷ []) (record { history = λ earlier. refl; met = refl; told = refl; closes_nothing = λ t. refl; others = refl })

giving_until : (s : Side) (pieces : List (List ℕ)) (rest : List ℕ) (answers : List Entry) →
    ((rest ≡ []) × (answers ≡ map (Took s) pieces)) ⊎ (HasBytes rest × (answers ≡ map (Took s) pieces ++ Idle s ∷ [])) → IsGiving s answers
giving_until s pieces rest answers (inl (none, e)) = subst (IsGiving s) (sym e) (giving_pieces s pieces)
giving_until s pieces rest answers (inr (some, e)) = subst (IsGiving s) (sym e) (giving_idle s pieces)

giving_all : (s : Side) (queued : List ℕ) (answers : List Entry) → GivesQueued s queued answers → IsGiving s answers
giving_all s queued answers g = giving_until s g.pieces g.rest answers g.until

giving_begun : (s : Side) (queued : List ℕ) (answers : List Entry) → BeginsToGive s queued answers → IsGiving s answers
giving_begun s queued answers g = subst (IsGiving s) (sym g.all) (giving_pieces s g.pieces)

silent_gives : (s : Side) (old new : RelayingValue) (log : Option (List (List ℕ))) (told told' : SessionTold) (answers : List Entry) → IsGiving s answers → GivesTo s old new →
    Gave s (queue_to s old) (queue_to s new) told told' old.idle new.idle answers → ((w : Stream) → IsQueueOf (queue_to s old) w → IsQueueOf (queue_to s new) w) → Silent answers old new log log
silent_gives s old new log told told' answers is to gave stands = record {
  history = is.history;
  met = is.met;
  lane = to.lane;
  same_log = refl;
  rests = to.rests;
  letters = to.letters;
  stands = λ t w. by_own (λ t. IsQueueOf (queue_to t old) w → IsQueueOf (queue_to t new) w) s (stands w) (λ q. subst (λ (k : Queue). IsQueueOf k w) (sym to.same) q) t;
  ended = by_own (λ t. (queue_to t new).ended ≡ (queue_to t old).ended) s gave.ended (ap (λ (k : Queue). k.ended) to.same);
  kept = by_own (λ t. (queue_to t old).kept ≡ given t answers ++ (queue_to t new).kept) s gave.kept (ap (λ (k : Queue). k.kept) (sym to.same) ∙ ap (λ xs. xs ++ (queue_to (other s) new).kept) (sym is.others));
  acked = by_own (λ t. (queue_to t new).acked ≡ (queue_to t old).acked + length (given t answers)) s gave.acked (omega (arith, ap (λ (k : Queue). k.acked) to.same, ap length is.others));
  done = λ t is. inl (sym (to.closed t) ∙ is);
  closed = λ es t e. to.closed t ∙ e ∙ sym (closes_more t es answers ∙ ap (λ b. is_finished t es || b) (is.closes_nothing t) ∙ or-false (is_finished t es));
  moment = λ es e. to.moment ∙ e ∙ ap greatest (sym (told_more es answers ∙ ap (λ ms. moments es ++ ms) is.told ∙ append-nil (moments es)));
  idle = gave.counts;
}

-- ---- telling

pub tell_goes : (site : SiteValue) (most : ℕ) (old : RelayingValue) (links links' : LinkValue) (desk : DeskValue) (m now : ℕ) → now ≡ max old.moment m → old.idle < most → (AreClosed old → ⊥) → links'.told ≡ with_entry links.told (Moment m) →
    links.faults ≤ links'.faults → links'.faults ≡ links.faults → links'.idles ≡ links.idles → DoesBetween site most (Telling ∷ []) (scene old links desk) (scene (record old { moment = now }) links' desk)
tell_goes site most old links links' desk m now is few still e later none same =
    subst (λ n. DoesBetween site most (Telling ∷ []) (scene old links desk) (scene (record old { moment = n }) links' desk)) (sym is) (record {
      answers = Moment m ∷ [];
      adds = record { tells = e; link = later; idles = λ start r. omega (arith, r, same); log = writes_none desk };
      still = none;
      does = λ past first own es st. (
        one_stage site past most Telling es (Moment m ∷ []) (tells_stage site past most first es old own st few still m),
        apart_none own desk.lines desk.lines _ refl (stands_silent site past first es (Moment m ∷ []) old (record old { moment = max old.moment m }) own own st (silent_moment old own m)),
      );
    })

-- nothing was done, and a call on the pair failed
pub link_stops : (site : SiteValue) (most : ℕ) (ps : List Stage) (old : RelayingValue) (links links' : LinkValue) (desk : DeskValue) → old.idle < most → links'.told ≡ links.told → Rose links.faults links'.faults →
    links'.idles ≡ links.idles → links.faults ≤ links'.faults → StopsBetween site most ps stop.Link (scene old links desk) (scene old links' desk)
link_stops site most ps old links links' desk few e rose same later = record {
  answers = [];
  adds = record { tells = e ∙ with_none links.told; link = later; idles = λ start r. omega (arith, r, same); log = writes_none desk };
  cause = rose;
  does = λ past first own es st. (breaks_nothing site past most ps es, apart_none own desk.lines desk.lines _ refl (subst (λ (x : List Entry). StandsFor site past first x old own) (sym (append-nil es)) st, few));
}

-- ---- giving

module _ (site : SiteValue) (most : ℕ) (s : Side) (old new : RelayingValue) (links links' : LinkValue) (desk : DeskValue) (few : old.idle < most) (to : GivesTo s old new)
    (stands : (w : Stream) → IsQueueOf (queue_to s old) w → IsQueueOf (queue_to s new) w) (later : links.faults ≤ links'.faults)
    (idles : (start : ℕ) → RoseBy old.idle start links.idles → RoseBy new.idle start links'.idles) where
  pub give_goes : links'.faults ≡ links.faults → (x : Unit {0}) → GaveBy s most (queue_to s old) (queue_to s new) links.told links'.told old.idle new.idle (Ok x) → DoesBetween site most (Giving s ∷ []) (scene old links desk) (scene new links' desk)
  give_goes still x (answers, gave, gives, goes) = record {
    answers = answers;
    adds = record { tells = gave.tells; link = later; idles = idles; log = writes_none desk };
    still = still;
    does = λ past first own es st. (
      one_stage site past most (Giving s) es answers (gives_stage site past most first es old own st few s answers gives),
      apart_none own desk.lines desk.lines _ refl (stands_silent site past first es answers old new own own st (silent_gives s old new own links.told links'.told answers (giving_all s (queue_to s old).kept answers gives) to gave stands)),
    );
  }

  pub give_stops : (why : Stop) → GaveBy s most (queue_to s old) (queue_to s new) links.told links'.told old.idle new.idle (Err why) → StopsBy why (scene old links desk) (scene new links' desk) →
      StopsBetween site most (Giving s ∷ []) why (scene old links desk) (scene new links' desk)
  give_stops stop.Idle (answers, gave, gives, full) cause = record {
    answers = answers;
    adds = record { tells = gave.tells; link = later; idles = idles; log = writes_none desk };
    cause = cause;
    does = λ past first own es st. (
      one_broken site past most (Giving s) es answers (gives_stage site past most first es old own st few s answers gives),
      apart_none own desk.lines desk.lines _ refl (stands_silent site past first es answers old new own own st (silent_gives s old new own links.told links'.told answers (giving_all s (queue_to s old).kept answers gives) to gave stands), full),
    );
  }
  give_stops stop.Link (answers, gave, begins, goes) cause = record {
    answers = answers;
    adds = record { tells = gave.tells; link = later; idles = idles; log = writes_none desk };
    cause = cause;
    does = λ past first own es st. (
      inl (begins_stage site past most first es old own st few s answers begins),
      apart_none own desk.lines desk.lines _ refl (stands_silent site past first es answers old new own own st (silent_gives s old new own links.told links'.told answers (giving_begun s (queue_to s old).kept answers begins) to gave stands), goes),
    );
  }
  give_stops stop.Write gave cause = absurd gave
  give_stops (stop.Cut reason) gave cause = absurd gave

-- ---- closing

-- nothing of the relay changed but that a side was closed
pub record ClosesTo (s : Side) (old new : RelayingValue) : Type 0 where
  pub keeps : KeepsQueues old new
  pub others : is_closed (other s) new ≡ is_closed (other s) old
  pub idle : new.idle ≡ old.idle

own_close : (s : Side) → closes s (Finished s) ≡ true
own_close side.Client = refl
own_close side.Controller = refl

other_close : (s : Side) → closes (other s) (Finished s) ≡ false
other_close side.Client = refl
other_close side.Controller = refl

silent_close : (s : Side) (old new : RelayingValue) (log : Option (List (List ℕ))) → ClosesTo s old new → is_closed s new ≡ true → OnlyEndIsLeft (queue_to s old) (is_closed s old) → Silent (Finished s ∷ []) old new log log
silent_close s old new log to closed last =
    silent_kept (Finished s ∷ []) old new log log (quiet_close s) to.keeps refl to.idle
    (by_own (λ t. is_closed t new ≡ (is_closed t old || list_any (closes t) (Finished s ∷ []))) s (closed ∙ sym (rw (own_close s, or-true) refl))
    (to.others ∙ sym (rw (other_close s, or-false) refl)))
    (by_own (λ t. is_closed t new ≡ true → (is_closed t old ≡ true) ⊎ (((queue_to t new).kept ≡ []) × ((queue_to t new).ended ≡ true))) s
    (λ is. inr (ap (λ (k : Queue). k.kept) (to.keeps.queues s) ∙ last.0, ap (λ (k : Queue). k.ended) (to.keeps.queues s) ∙ last.1)) (λ is. inl (sym to.others ∙ is)))

silent_same : (s : Side) (old new : RelayingValue) (log : Option (List (List ℕ))) → ClosesTo s old new → is_closed s new ≡ is_closed s old → Silent [] old new log log
silent_same s old new log to closed =
    let same : (t : Side) → is_closed t new ≡ is_closed t old = by_own (λ t. is_closed t new ≡ is_closed t old) s closed to.others in
    silent_kept [] old new log log quiet_none to.keeps refl to.idle (λ t. same t ∙ sym (or-false (is_closed t old))) (λ t is. inl (sym (same t) ∙ is))

module _ (site : SiteValue) (most : ℕ) (s : Side) (old new : RelayingValue) (links links' : LinkValue) (desk : DeskValue) (few : old.idle < most) (to : ClosesTo s old new)
    (later : links.faults ≤ links'.faults) (same : links'.idles ≡ links.idles) where
  pub finish_goes : links'.faults ≡ links.faults → (x : Unit {0}) → FinishesBy s (queue_to s old) (is_closed s old) (is_closed s new) links.told links'.told (Ok x) → DoesBetween site most (Finishing s ∷ []) (scene old links desk) (scene new links' desk)
  finish_goes still x (inl (last, closed, tells)) = record {
    answers = Finished s ∷ [];
    adds = record { tells = tells; link = later; idles = λ start r. omega (arith, r, same, to.idle); log = writes_none desk };
    still = still;
    does = λ past first own es st. (
      one_stage site past most (Finishing s) es (Finished s ∷ []) (finishes_stage site past most first es old own st few s last),
      apart_none own desk.lines desk.lines _ refl (stands_silent site past first es (Finished s ∷ []) old new own own st (silent_close s old new own to closed last)),
    );
  }
  finish_goes still x (inr (never, closed, tells)) = record {
    answers = [];
    adds = record { tells = tells ∙ with_none links.told; link = later; idles = λ start r. omega (arith, r, same, to.idle); log = writes_none desk };
    still = still;
    does = λ past first own es st. (
      one_stage site past most (Finishing s) es [] (no_finish site past most first es old own st few s never),
      apart_none own desk.lines desk.lines _ refl (stands_silent site past first es [] old new own own st (silent_same s old new own to closed)),
    );
  }

  pub finish_stops : (why : Stop) → FinishesBy s (queue_to s old) (is_closed s old) (is_closed s new) links.told links'.told (Err why) → StopsBy why (scene old links desk) (scene new links' desk) →
      StopsBetween site most (Finishing s ∷ []) why (scene old links desk) (scene new links' desk)
  finish_stops stop.Link (closed, tells) cause = record {
    answers = [];
    adds = record { tells = tells ∙ with_none links.told; link = later; idles = λ start r. omega (arith, r, same, to.idle); log = writes_none desk };
    cause = cause;
    does = λ past first own es st. (
      breaks_nothing site past most (Finishing s ∷ []) es,
      apart_none own desk.lines desk.lines _ refl (stands_silent site past first es [] old new own own st (silent_same s old new own to closed), omega (arith, few, to.idle)),
    );
  }
  finish_stops stop.Idle none cause = absurd none
  finish_stops stop.Write none cause = absurd none
  finish_stops (stop.Cut reason) none cause = absurd none
