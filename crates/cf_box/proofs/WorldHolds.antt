-- What holds where a world was made and run to its end, and what never comes.
use Rattle.std.proofs.Common.{◌≡◌, ◌≢◌, ℕ, List, Result, Ok, Err, sym, subst, inl, inr}
use Rattle.cf_world.specs.World.{LeavesWorld}
use Rattle.cf_policylang.specs.declared.PolicyRefusal.{PolicyRefusal}
use Rattle.cf_run.specs.Headline.{RunsHaveHeadline}
use Rattle.cf_run.specs.Logged.{RunsAreLogged}
use Rattle.cf_run.specs.RunCapture.{RunNamesValue}
use Rattle.cf_run.specs.SiteOf.{SessionsHaveSites}
use Rattle.cf_words.specs.Command.{Command, World}
use Rattle.cf_ending.specs.Ending.{Reports}
use Rattle.cf_box.specs.Ends.{Meets, RefusesPolicy}
use Rattle.cf_ending.specs.Outside.{Outside}
use Rattle.cf_box.specs.Status.{TellsMade}
use Rattle.cf_box.specs.World.{HasMade, WorldHolds, made_names}
use Rattle.cf_ending.specs.declared.Done.{Done}
use Rattle.cf_ending.specs.declared.Stop.{Stop}
use Rattle.cf_box.proofs.RunHolds.{holds_from}
use Rattle.cf_box.proofs.Statuses.{Explains, IsOf, Unprinted, capture_told, cut_told, explained, not_done, refusal_told}

module _ (law : RunsHaveHeadline) (own : SessionsHaveSites) (logs : RunsAreLogged) (failed : Type 0) (status : ℕ) (sessions : ℕ) (policy : List ℕ) (names : RunNamesValue) (before middle after : Outside) where
  -- after the last printed text the files are the same
  still_made : (between : Outside) → after.files ≡ middle.files → HasMade sessions policy names before middle between → HasMade sessions policy names before after between
  still_made between same made = record {
    leaves = subst (λ f. LeavesWorld sessions (made_names policy names) before.files.content f.content) (sym same) made.leaves;
    same_policy = subst (λ f. f.content policy ≡ between.files.content policy) (sym same) made.same_policy;
    same_capture = subst (λ f. f.content names.capture ≡ between.files.content names.capture) (sym same) made.same_capture;
    others = made.others;
    sink = made.sink;
    pair = made.pair;
  }

  world_from : (seed : ℕ) (r : Result Done Stop) → Meets (World seed sessions policy names) before middle r → Reports r middle after status → IsOf r failed status → status ≡ 0 →
      WorldHolds sessions policy names before after
  world_from seed (Ok d) m reports h is = record {
    between = m.0;
    made = still_made m.0 reports.files m.1;
    holds = holds_from law own logs failed status policy names m.0 middle after (Ok d) m.2 reports h is;
  }
  world_from seed (Err s) m reports h is = absurd (not_done failed status s h is)

module _ {c : Command} {before after : Outside} {status : ℕ} (e : Explains c before after status) where
  pub world_told : RunsHaveHeadline → SessionsHaveSites → RunsAreLogged → (seed sessions : ℕ) (policy : List ℕ) (names : RunNamesValue) → c ≡ World seed sessions policy names → status ≡ 0 →
      WorldHolds sessions policy names before after
  world_told law own logs seed sessions policy names is =
      world_from law own logs (Unprinted e) status sessions policy names before e.middle after seed e.r (subst (λ k. Meets k before e.middle e.r) is e.meets) e.reports (explained e)

own_not_refused : (seed sessions : ℕ) (policy : List ℕ) (names : RunNamesValue) (before : Outside) (r : PolicyRefusal) → TellsMade (World seed sessions policy names) before →
    RefusesPolicy (World seed sessions policy names) before r → ⊥
own_not_refused seed sessions policy names before r tells (inl cause) = cc (cause.1)
own_not_refused seed sessions policy names before r tells (inr (inl cause)) = cc (cause.2)
own_not_refused seed sessions policy names before r tells (inr (inr made)) = tells.0 made

-- what it made is taken
pub own_told : (seed sessions : ℕ) (policy : List ℕ) (names : RunNamesValue) {before after : Outside} {status : ℕ} → Explains (World seed sessions policy names) before after status →
    TellsMade (World seed sessions policy names) before → (status ≢ 5) × (status ≢ 6) × (status ≢ 7)
own_told seed sessions policy names {before = before} e tells = (
  λ is. let cause = refusal_told e is in own_not_refused seed sessions policy names before cause.0 tells cause.1,
  λ is. tells.1 (capture_told e is).1,
  λ is. tells.1 (cut_told e is).1,
)
