-- What holds where a run came to its end.
use Rattle.std.proofs.Common.{◌≡◌, ℕ, ◌^◌, ◌≤◌, List, [], ◌∷◌, Result, Ok, Err, sym, subst, ◌∙◌, ap, inl, inr, arith}
use Rattle.cf_lane.specs.declared.limit.TheConstants.{LETTER_LIMIT}
use Rattle.cf_outside.specs.Frames.{KeepsOtherFiles}
use Rattle.cf_outside.specs.Sink.{printed_with}
use Rattle.cf_records.specs.Capture.{FileEnd}
use Rattle.cf_run.specs.Headline.{RunsHaveHeadline}
use Rattle.cf_run.specs.Logged.{RunsAreLogged}
use Rattle.cf_run.specs.RunCapture.{RunNamesValue, RunsTo}
use Rattle.cf_run.specs.SiteOf.{SessionsHaveSites}
use Rattle.cf_run.specs.declared.summary.Summary.{Summary}
use Rattle.cf_words.specs.Command.{Command, Run}
use Rattle.cf_ending.specs.Ending.{Puts, Reports, summary_text}
use Rattle.cf_box.specs.Ends.{Meets}
use Rattle.cf_ending.specs.Outside.{Outside, SinkValue}
use Rattle.cf_box.specs.Run.{HasRun}
use Rattle.cf_box.specs.RunHolds.{RunHolds}
use Rattle.cf_ending.specs.declared.Done.{Done}
use Rattle.cf_ending.specs.declared.Done.TheVariants as done
use Rattle.cf_ending.specs.declared.Stop.{Stop}
use Rattle.cf_box.proofs.Statuses.{Explains, IsOf, Unprinted, explained, not_done}

-- a text was put, where the status says so
was_put : (text : List ℕ) (before after : SinkValue) (status : ℕ) → Puts text 0 4 before after status → status ≡ 0 → after.text ≡ printed_with before.text text
was_put text before after status (inl h) e = h.1
was_put text before after status (inr h) e = absurd (omega (arith, e, h.0))

small : LETTER_LIMIT ≤ 2 ^ 30
small = omega arith

module _ (law : RunsHaveHeadline) (own : SessionsHaveSites) (logs : RunsAreLogged) (failed : Type 0) (status : ℕ) (policy_name : List ℕ) (names : RunNamesValue) (before middle after : Outside) where
  holds_by : (summary : Summary) → HasRun policy_name names before middle (Ok summary) → Reports (Ok (done.Ran summary)) middle after status → status ≡ 0 → RunHolds policy_name names before after
  holds_by summary run reports is =
      let same : middle.files.content ≡ after.files.content = sym (ap (λ f. f.content) reports.files) in
      let runs : RunsTo run.policy.assets LETTER_LIMIT names before.files.content after.files.content FileEnd run.runs.0 summary =
      subst (λ c. RunsTo run.policy.assets LETTER_LIMIT names before.files.content c FileEnd run.runs.0 summary) same run.runs.1 in
      record {
        policy = run.policy;
        has = run.has;
        place = run.runs.0;
        summary = summary;
        runs = runs;
        headline = law run.policy.assets LETTER_LIMIT runs.leaves.is_run.events small runs.leaves.is_run.are;
        sites = own run.policy.assets LETTER_LIMIT runs.leaves.is_run.events run.within runs.leaves.is_run.are;
        logged = logs run.policy.assets LETTER_LIMIT runs.leaves.is_run.events runs.leaves.is_run.are;
        others = subst (λ c. KeepsOtherFiles (names.out ∷ names.log ∷ []) before.files.content c) same run.others;
        printed = was_put (summary_text summary) middle.sink after.sink status reports.prints is ∙ ap (λ (s : SinkValue). printed_with s.text (summary_text summary)) run.sink;
        pair = reports.pair ∙ run.pair;
      }

  pub holds_from : (r : Result Done Stop) → Meets (Run policy_name names) before middle r → Reports r middle after status → IsOf r failed status → status ≡ 0 → RunHolds policy_name names before after
  holds_from (Ok d) m reports h is = holds_by m.0 m.1 (subst (λ x. Reports (Ok x) middle after status) m.2 reports) is
  holds_from (Err s) m reports h is = absurd (not_done failed status s h is)

pub run_told : RunsHaveHeadline → SessionsHaveSites → RunsAreLogged → {c : Command} {before after : Outside} {status : ℕ} (e : Explains c before after status) → (policy_name : List ℕ) (names : RunNamesValue) →
    c ≡ Run policy_name names → status ≡ 0 → RunHolds policy_name names before after
run_told law own logs {c = c} {before = before} {after = after} {status = status} e policy_name names is =
    holds_from law own logs (Unprinted e) status policy_name names before e.middle after e.r (subst (λ k. Meets k before e.middle e.r) is e.meets) e.reports (explained e)
