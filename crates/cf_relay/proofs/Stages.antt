-- What the code does in a stage is that stage of the turn, for the list so far; and stages one after the other.
use Rattle.cf_lane.specs.Caller.{RateMoments, caller_at}
use Rattle.std.proofs.Common.{Bool, List, Option, ap, cond, drop, false, inl, inr, length, refl, subst, sym, true, ℕ, ◌++◌, ◌+◌, ◌<◌, ◌∙◌, ◌∷◌, ◌≡◌, ◌≤◌, ◌&&◌, []}
use Rattle.std.specs.Option.{option_or}
use Rattle.std.proofs.lemmas.List.{append-nil, append_assoc}
use Rattle.cf_lane.specs.Follows.{AreJudged}
use Rattle.cf_lane.specs.Handled.{IsOpen}
use Rattle.cf_lane.specs.History.{ended_of}
use Rattle.cf_lane.specs.Limit.{limit_cut}
use Rattle.cf_lane.specs.Output.{other, outputs, stream_to}
use Rattle.cf_lane.specs.declared.limit.TheConstants.{LETTER_LIMIT}
use Rattle.cf_outside.specs.Pair.{Entry, Finished, Moment}
use Rattle.cf_policy.specs.Site.{SiteValue}
use Rattle.cf_stream.specs.Sizes.{window_size}
use Rattle.cf_stream.specs.Stream.{letter_count}
use Rattle.cf_view.specs.declared.Endpoint.{Endpoint}
use Rattle.cf_view.specs.declared.Side.{Side}
use Rattle.cf_view.specs.declared.Side.TheVariants as side
use Rattle.cf_relay.specs.Answers.{history_of, is_finished}
use Rattle.cf_relay.specs.Gave.{OnlyEndIsLeft}
use Rattle.cf_relay.specs.Relaying.{AreClosed, RelayingValue, is_closed, queue_to}
use Rattle.cf_relay.specs.Stands.{StandsFor}
use Rattle.cf_relay.specs.Reading.{most_back}
use Rattle.cf_relay.specs.Taken.{MayTakeNow, back_of, onward_of}
use Rattle.cf_relay.specs.Turn.{BeginsStage, BeginsToGive, BeginsStages, IsUnstopped, DoesStages, Finishing, Giving, GivesQueued, IsStage, IsTakeAnswer, MayFinish, MayTake, Meeting, Stage, Taking, Telling, queue_of}
use Rattle.cf_relay.specs.declared.directions.Directions.{Directions}

not_both : (a b : Bool) → (a ≡ true → b ≡ true → ⊥) → (a && b) ≡ false
not_both true true h = absurd (h refl refl)
not_both true false h = refl
not_both false b h = refl

module _ (site : SiteValue) (past : RateMoments) (most : ℕ) (first : Option (List (List ℕ))) (es : List Entry) (now : RelayingValue) (log : Option (List (List ℕ))) (st : StandsFor site past first es now log) where
  unfoldable pub goes_on : now.idle < most → IsUnstopped site past most es
  goes_on few = record {
    judged = st.follows.judged;
    are_items = subst (λ (c : Endpoint). AreJudged site (caller_at c.address past) (history_of es) st.follows.judged) st.client st.follows.are_judged;
    uncut = ap (λ c. option_or c (limit_cut LETTER_LIMIT (history_of es) (stream_to site side.Client st.follows.judged) (stream_to site side.Controller st.follows.judged))) st.follows.is_cut ∙ st.uncut;
    idle = subst (λ (n : ℕ). n < most) st.idle few;
  }

  queue_bytes : (s : Side) → (queue_of site s es st.follows.judged).bytes ≡ (queue_to s now).kept
  queue_bytes side.Client = sym (st.follows.client_stream.kept ∙ ap (λ n. drop n (outputs site side.Client [] st.follows.judged)) (st.acked side.Client))
  queue_bytes side.Controller = sym (st.follows.controller_stream.kept ∙ ap (λ n. drop n (outputs site side.Controller [] st.follows.judged)) (st.acked side.Controller))

  queue_ended : (s : Side) → (queue_of site s es st.follows.judged).ended ≡ (queue_to s now).ended
  queue_ended side.Client = sym st.follows.knows.client_ended
  queue_ended side.Controller = sym st.follows.knows.controller_ended

  queue_letters : (s : Side) → letter_count (queue_of site s es st.follows.judged) ≡ length (queue_to s now).kept + cond (queue_to s now).ended 1 0
  queue_letters s = ap (λ xs. length xs + cond (queue_of site s es st.follows.judged).ended 1 0) (queue_bytes s) ∙ ap (λ b. length (queue_to s now).kept + cond b 1 0) (queue_ended s)

  pub tells_stage : now.idle < most → (AreClosed now → ⊥) → (m : ℕ) → IsStage site past most Telling es (Moment m ∷ [])
  unfolding goes_on
  tells_stage few still m =
      (goes_on few, (not_both (is_finished side.Client es) (is_finished side.Controller es) (λ c k. still (st.closed side.Client ∙ c, st.closed side.Controller ∙ k)), (m, refl)))

  pub gives_stage : now.idle < most → (s : Side) (answers : List Entry) → GivesQueued s (queue_to s now).kept answers → IsStage site past most (Giving s) es answers
  unfolding goes_on
  gives_stage few s answers gives = (goes_on few, subst (λ (q : List ℕ). GivesQueued s q answers) (sym (queue_bytes s)) gives)

  pub begins_stage : now.idle < most → (s : Side) (answers : List Entry) → BeginsToGive s (queue_to s now).kept answers → BeginsStage site past most (Giving s) es answers
  unfolding goes_on
  begins_stage few s answers begins = inr (goes_on few, subst (λ (q : List ℕ). BeginsToGive s q answers) (sym (queue_bytes s)) begins)

  may_finish : (s : Side) → OnlyEndIsLeft (queue_to s now) (is_closed s now) → MayFinish site s es st.follows.judged
  may_finish s last = record { empty = queue_bytes s ∙ last.0; ends = queue_ended s ∙ last.1; first = sym (st.closed s) ∙ last.2 }

  is_last : (s : Side) → MayFinish site s es st.follows.judged → OnlyEndIsLeft (queue_to s now) (is_closed s now)
  is_last s may = (sym (queue_bytes s) ∙ may.empty, sym (queue_ended s) ∙ may.ends, st.closed s ∙ may.first)

  pub finishes_stage : now.idle < most → (s : Side) → OnlyEndIsLeft (queue_to s now) (is_closed s now) → IsStage site past most (Finishing s) es (Finished s ∷ [])
  unfolding goes_on
  finishes_stage few s last = (goes_on few, inl (may_finish s last, refl))

  pub no_finish : now.idle < most → (s : Side) → (OnlyEndIsLeft (queue_to s now) (is_closed s now) → ⊥) → IsStage site past most (Finishing s) es []
  unfolding goes_on
  no_finish few s never = (goes_on few, inr ((λ may. never (is_last s may)), refl))

  pub open_ended : (s : Side) → IsOpen s now.to_client now.to_controller → ended_of s (history_of es) ≡ false
  open_ended side.Client is = sym (st.ended side.Controller) ∙ is
  open_ended side.Controller is = sym (st.ended side.Client) ∙ is

  ended_open : (s : Side) → ended_of s (history_of es) ≡ false → IsOpen s now.to_client now.to_controller
  ended_open side.Client is = st.ended side.Controller ∙ is
  ended_open side.Controller is = st.ended side.Client ∙ is

  onward_letters : (s : Side) → letter_count (queue_of site (other s) es st.follows.judged) ≡ length (onward_of s now.to_client now.to_controller).kept + cond (onward_of s now.to_client now.to_controller).ended 1 0
  onward_letters side.Client = queue_letters side.Controller
  onward_letters side.Controller = queue_letters side.Client

  back_letters : (s : Side) → letter_count (queue_of site s es st.follows.judged) ≡ length (back_of s now.to_client now.to_controller).kept + cond (back_of s now.to_client now.to_controller).ended 1 0
  back_letters side.Client = queue_letters side.Client
  back_letters side.Controller = queue_letters side.Controller

  may_take : (dirs : Directions) (s : Side) → MayTakeNow dirs site s now.to_client now.to_controller → MayTake dirs site s es st.follows.judged
  may_take dirs s may = record {
    open_still = open_ended s may.open_still;
    onward = subst (λ (n : ℕ). n ≤ window_size) (sym (onward_letters s)) may.onward;
    back = subst (λ (n : ℕ). n ≤ most_back dirs site) (sym (back_letters s)) may.back;
  }

  may_take_now : (dirs : Directions) (s : Side) → MayTake dirs site s es st.follows.judged → MayTakeNow dirs site s now.to_client now.to_controller
  may_take_now dirs s may = record {
    open_still = ended_open s may.open_still;
    onward = subst (λ (n : ℕ). n ≤ window_size) (onward_letters s) may.onward;
    back = subst (λ (n : ℕ). n ≤ most_back dirs site) (back_letters s) may.back;
  }

  pub takes_stage : now.idle < most → (dirs : Directions) (s : Side) (answer : Entry) → MayTakeNow dirs site s now.to_client now.to_controller → IsTakeAnswer s answer → IsStage site past most (Taking dirs s) es (answer ∷ [])
  unfolding goes_on
  takes_stage few dirs s answer may taken = (goes_on few, inl (may_take dirs s may, (answer, taken, refl)))

  pub no_take : now.idle < most → (dirs : Directions) (s : Side) → (MayTakeNow dirs site s now.to_client now.to_controller → ⊥) → IsStage site past most (Taking dirs s) es []
  unfolding goes_on
  no_take few dirs s never = (goes_on few, inr ((λ may. never (may_take_now dirs s may)), refl))

-- ---- stages one after the other

pub one_stage : (site : SiteValue) (past : RateMoments) (most : ℕ) (p : Stage) (es answers : List Entry) → IsStage site past most p es answers → DoesStages site past most (p ∷ []) es answers
one_stage site past most p es answers is = (answers, [], sym (append-nil answers), is, refl)

pub one_broken : (site : SiteValue) (past : RateMoments) (most : ℕ) (p : Stage) (es answers : List Entry) → IsStage site past most p es answers → BeginsStages site past most (p ∷ []) es answers
one_broken site past most p es answers is = inr (answers, [], sym (append-nil answers), is, refl)

pub does_then : (site : SiteValue) (past : RateMoments) (most : ℕ) (ps qs : List Stage) (a xs ys : List Entry) → DoesStages site past most ps a xs → DoesStages site past most qs (a ++ xs) ys → DoesStages site past most (ps ++ qs) a (xs ++ ys)
does_then site past most [] qs a xs ys none does =
    subst (λ (zs : List Entry). DoesStages site past most qs a zs) (ap (λ (zs : List Entry). zs ++ ys) (sym none)) (subst (λ (zs : List Entry). DoesStages site past most qs zs ys) (ap (λ zs. a ++ zs) none ∙ append-nil a) does)
does_then site past most (p ∷ ps) qs a xs ys (now, next, e, whole, later) does = (
  now,
  next ++ ys,
  ap (λ zs. zs ++ ys) e ∙ append_assoc now next ys,
  whole,
  does_then site past most ps qs (a ++ now) next ys later (subst (λ (zs : List Entry). DoesStages site past most qs zs ys) (ap (λ zs. a ++ zs) e ∙ sym (append_assoc a now next)) does),
)

pub does_broken : (site : SiteValue) (past : RateMoments) (most : ℕ) (ps qs : List Stage) (a xs ys : List Entry) → DoesStages site past most ps a xs → BeginsStages site past most qs (a ++ xs) ys → BeginsStages site past most (ps ++ qs) a (xs ++ ys)
does_broken site past most [] qs a xs ys none breaks =
    subst (λ (zs : List Entry). BeginsStages site past most qs a zs) (ap (λ (zs : List Entry). zs ++ ys) (sym none)) (subst (λ (zs : List Entry). BeginsStages site past most qs zs ys) (ap (λ zs. a ++ zs) none ∙ append-nil a) breaks)
does_broken site past most (p ∷ ps) qs a xs ys (now, next, e, whole, later) breaks =
    inr (
      now,
      next ++ ys,
      ap (λ zs. zs ++ ys) e ∙ append_assoc now next ys,
      whole,
      does_broken site past most ps qs (a ++ now) next ys later (subst (λ (zs : List Entry). BeginsStages site past most qs zs ys) (ap (λ zs. a ++ zs) e ∙ sym (append_assoc a now next)) breaks),
    )

-- nothing of them
begins_nothing : (site : SiteValue) (past : RateMoments) (most : ℕ) (p : Stage) (a : List Entry) → BeginsStage site past most p a []
begins_nothing site past most (Meeting listen) a = refl
begins_nothing site past most Telling a = refl
begins_nothing site past most (Taking dirs s) a = refl
begins_nothing site past most (Giving s) a = inl refl
begins_nothing site past most (Finishing s) a = refl

pub breaks_nothing : (site : SiteValue) (past : RateMoments) (most : ℕ) (ps : List Stage) (a : List Entry) → BeginsStages site past most ps a []
breaks_nothing site past most [] a = refl
breaks_nothing site past most (p ∷ ps) a = inl (begins_nothing site past most p a)

-- stages that break off, and others that were to follow
pub breaks_more : (site : SiteValue) (past : RateMoments) (most : ℕ) (ps qs : List Stage) (a xs : List Entry) → BeginsStages site past most ps a xs → BeginsStages site past most (ps ++ qs) a xs
breaks_more site past most [] qs a xs none = subst (λ (zs : List Entry). BeginsStages site past most qs a zs) (sym none) (breaks_nothing site past most qs a)
breaks_more site past most (p ∷ ps) qs a xs (inl begins) = inl begins
breaks_more site past most (p ∷ ps) qs a xs (inr (now, next, e, whole, later)) = inr (now, next, e, whole, breaks_more site past most ps qs (a ++ now) next later)
