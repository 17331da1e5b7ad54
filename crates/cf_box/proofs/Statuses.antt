-- What a status tells, from the answer that explains it.
use Rattle.cf_lane.specs.Caller.{newcomer}
use Rattle.std.proofs.lemmas.List.{append-nil}
use Rattle.std.proofs.Common.{◌≡◌, ◌≢◌, ◌⊎◌, ◌++◌, [], ℕ, List, Option, None, Some, Result, Ok, Err, sym, subst, ◌≤◌, ◌∙◌, ap, inl, inr, arith}
use Rattle.cf_audit.specs.declared.line.CutReason.{CutReason}
use Rattle.cf_lane.specs.Follows.{AreJudged}
use Rattle.cf_lane.specs.Laws.{LanePassesAllowed, RatesHold}
use Rattle.cf_lane.specs.Output.{outputs}
use Rattle.cf_view.specs.declared.Side.TheVariants as side
use Rattle.cf_sift.specs.Names.{SiftNamesValue}
use Rattle.cf_sift.specs.Stored.{stored_history}
use Rattle.cf_outside.specs.Faults.{Rose}
use Rattle.cf_outside.specs.PairValue.{PairValue}
use Rattle.cf_policylang.specs.declared.PolicyRefusal.{PolicyRefusal}
use Rattle.cf_words.specs.Command.{Command, Compare, Draft, Judge, Migrate, Packets, Review, Run, Relay, World, Sift, Learn, input_files}
use Rattle.cf_ending.specs.Ending.{Prints, Reports, end_text, status_of, stop_status, unprinted_status}
use Rattle.cf_box.specs.Ends.{CutsCapture, CutsRun, CutsStream, Denies, EndsIdle, ExceedsCells, ExceedsRules, LacksAsset, LinkFails, Meets, RefusesCapture, RefusesPolicy}
use Rattle.cf_box.specs.Draft.{HoldsDraft}
use Rattle.cf_box.specs.Learn.{HoldsLearned}
use Rattle.cf_box.specs.Migrate.{KeepsMeaning}
use Rattle.cf_ending.specs.Outside.{Outside, ReadFailed, RoseIn, SinkValue, WriteFailed}
use Rattle.cf_box.specs.Packets.{Lists, ListsFile}
use Rattle.cf_box.specs.Review.{HoldsReview, ReviewHolds, WritesReview}
use Rattle.cf_review.specs.declared.Counts.{Counts}
use Rattle.cf_unobjected.specs.Allowed.{UnobjectedAreAllowed}
use Rattle.cf_box.specs.Status.{Includes, JudgedClean, SiftPassesAllowed}
use Rattle.cf_ending.specs.declared.Denial.{Denial}
use Rattle.cf_ending.specs.declared.Denial.TheVariants as denial
use Rattle.cf_ending.specs.declared.CaptureRefusal.{CaptureRefusal}
use Rattle.cf_ending.specs.declared.Done.{Done}
use Rattle.cf_ending.specs.declared.Done.TheVariants as done
use Rattle.cf_ending.specs.declared.Stop.{Stop}
use Rattle.cf_ending.specs.declared.Stop.TheVariants as stop

-- the status is that of an ending, printed or not
abbrev pub IsOf : Result Done Stop → (failed : Type 0) → ℕ → Type 0
IsOf r failed status = (status ≡ status_of r) ⊎ ((status ≡ unprinted_status r) × failed)

printed : (text : Option (List ℕ)) (put unprinted : ℕ) (before after : SinkValue) (status : ℕ) → Prints text put unprinted before after status →
    (status ≡ put) ⊎ ((status ≡ unprinted) × Rose before.faults after.faults)
printed None put unprinted before after status h = inl h.0
printed (Some text) put unprinted before after status (inl h) = inl h.0
printed (Some text) put unprinted before after status (inr h) = inr (h.0, h.1)

-- the answer of a command explains a status: it was the answer between the two moments, and then it was reported
pub record Explains (c : Command) (before after : Outside) (status : ℕ) : Type 0 where
  pub r : Result Done Stop
  pub middle : Outside
  pub meets : Meets c before middle r
  pub reports : Reports r middle after status
  pub early : before.sink.faults ≤ middle.sink.faults
  pub late : middle.sink.faults ≤ after.sink.faults

module _ (failed : Type 0) (status : ℕ) where
  pub stop_is : (s : Stop) → IsOf (Err s) failed status → status ≡ stop_status s
  stop_is s (inl h) = h
  stop_is s (inr h) = h.0

  -- another ending's status is another
  other : (r : Result Done Stop) (n : ℕ) → IsOf r failed status → status ≡ n → status_of r ≢ n → unprinted_status r ≢ n → ⊥
  other r n (inl h) is printed unprinted = printed (sym h ∙ is)
  other r n (inr h) is printed unprinted = unprinted (sym h.0 ∙ is)

  -- work that stopped was not done
  pub not_done : (s : Stop) → IsOf (Err s) failed status → status ≢ 0
  not_done stop.ReadFault h is = other (Err stop.ReadFault) 0 h is (omega arith) (omega arith)
  not_done s h is = other (Err s) 0 h is (omega arith) (omega arith)

  module _ (c : Command) (before middle : Outside) where
    read_from : (r : Result Done Stop) → Meets c before middle r → IsOf r failed status → status ≡ 3 → ReadFailed c before middle
    read_from (Err stop.ReadFault) meets h is = meets.0
    read_from r meets h is = absurd (other r 3 h is (omega arith) (omega arith))

    write_from : (r : Result Done Stop) → Meets c before middle r → IsOf r failed status → status ≡ 4 → WriteFailed before middle ⊎ failed
    write_from (Err stop.WriteFault) meets h is = inl meets.0.0
    write_from (Ok d) meets (inl h) is = absurd (omega arith)
    write_from (Ok d) meets (inr h) is = inr h.1
    write_from r meets h is = absurd (other r 4 h is (omega arith) (omega arith))

    refusal_from : (r : Result Done Stop) → Meets c before middle r → IsOf r failed status → status ≡ 5 → (p : PolicyRefusal) × RefusesPolicy c
        before p
    refusal_from (Err (stop.PolicyRefused p)) meets h is = (p, meets.0)
    refusal_from r meets h is = absurd (other r 5 h is (omega arith) (omega arith))

    capture_from : (r : Result Done Stop) → Meets c before middle r → IsOf r failed status → status ≡ 6 → (p : CaptureRefusal) × RefusesCapture c
        before p
    capture_from (Err (stop.CaptureRefused p)) meets h is = (p, meets.0.0)
    capture_from r meets h is = absurd (other r 6 h is (omega arith) (omega arith))

    -- a run's capture that is cut is one: a line a command
    run_cut : (k : Command) (place : ℕ) → CutsRun k before place → CutsCapture k before place
    run_cut (Run policy names) place cut = cut
    run_cut (World seed sessions policy names) place cut = cut
    run_cut _ place cut = absurd cut

    cut_from : (r : Result Done Stop) → Meets c before middle r → IsOf r failed status → status ≡ 7 → (place : ℕ) × CutsCapture c before place
    cut_from (Err (stop.CaptureCut place)) meets h is = (place, meets.0.0)
    cut_from (Err (stop.RunCut place summary)) meets h is = (place, run_cut c place meets.0.0)
    cut_from r meets h is = absurd (other r 7 h is (omega arith) (omega arith))

    lack_from : (r : Result Done Stop) → Meets c before middle r → IsOf r failed status → status ≡ 10 → LacksAsset c before
    lack_from (Err stop.UnknownAsset) meets h is = meets.0
    lack_from r meets h is = absurd (other r 10 h is (omega arith) (omega arith))

    -- a call on the pair failed where the command asks it
    link_of : (k : Command) (pair : PairValue) → LinkFails k before pair → Rose before.pair.faults pair.faults
    link_of (Relay policy asset port idles log) pair fails = fails
    link_of _ pair fails = absurd fails

    link_from : (r : Result Done Stop) → Meets c before middle r → IsOf r failed status → status ≡ 8 → Rose before.pair.faults middle.pair.faults
    link_from (Err stop.LinkFault) meets h is = link_of c middle.pair meets.0.0
    link_from r meets h is = absurd (other r 8 h is (omega arith) (omega arith))

    idle_from : (r : Result Done Stop) → Meets c before middle r → IsOf r failed status → status ≡ 9 → EndsIdle c before middle.pair
    idle_from (Err stop.IdleEnd) meets h is = meets.0.0
    idle_from r meets h is = absurd (other r 9 h is (omega arith) (omega arith))

    stream_from : (r : Result Done Stop) → Meets c before middle r → IsOf r failed status → status ≡ 12 → (reason : CutReason) × CutsStream c before middle.pair reason
    stream_from (Err (stop.Cut reason)) meets h is = (reason, meets.0.0)
    stream_from r meets h is = absurd (other r 12 h is (omega arith) (omega arith))

    denied_from : (r : Result Done Stop) → Meets c before middle r → IsOf r failed status → status ≡ 15 → (why : Denial) × Denies c before why
    denied_from (Err (stop.Denied why)) meets h is = (why, meets.0.0)
    denied_from r meets h is = absurd (other r 15 h is (omega arith) (omega arith))

    rules_from : (r : Result Done Stop) → Meets c before middle r → IsOf r failed status → status ≡ 16 → (name : List ℕ) × ExceedsRules c before name
    rules_from (Err (stop.TooManyRules name)) meets h is = (name.bytes, meets.0.0)
    rules_from r meets h is = absurd (other r 16 h is (omega arith) (omega arith))

    cells_from : (r : Result Done Stop) → Meets c before middle r → IsOf r failed status → status ≡ 17 → (name : List ℕ) × ExceedsCells c before name
    cells_from (Err (stop.TooManyCells name)) meets h is = (name.bytes, meets.0.0)
    cells_from r meets h is = absurd (other r 17 h is (omega arith) (omega arith))

  -- a policy that was compared is included in the other
  includes_from : (before middle : Outside) (policy second : List ℕ) (r : Result Done Stop) → Meets (Compare policy second) before middle r → IsOf r failed status →
      status ≡ 0 → Includes policy second before
  includes_from before middle policy second (Ok d) m h is = m.includes
  includes_from before middle policy second (Err s) m h is = absurd (not_done s h is)

  -- nothing that was judged is objected to
  judged_from : UnobjectedAreAllowed → (before middle : Outside) (policy capture : List ℕ) (r : Result Done Stop) → Meets (Judge policy capture) before middle r →
      IsOf r failed status → status ≡ 0 → JudgedClean policy capture before
  judged_from law before middle policy capture (Ok d) m h is =
      let k = m.keeps in
      let watched = k.2.has_flows in
      (d, k, law k.0.assets watched.newest k.3.judged (record { flows = k.1; are_flows = watched.are_flows; judges = k.3.judges }) k.3.clean)
  judged_from law before middle policy capture (Err s) m h is = absurd (not_done s h is)

  -- a policy that was written anew means what it meant
  migrates_from : (before middle after : Outside) (policy out : List ℕ) → after.files ≡ middle.files → (r : Result Done Stop) →
      Meets (Migrate policy out) before middle r → IsOf r failed status → status ≡ 0 → KeepsMeaning policy out before after
  migrates_from before middle after policy out same (Ok d) m h is =
      let k = m.keeps in
      let t = k.holds_text in
      record { meaning = k.meaning; has = k.has; holds_text = record { text = t.text; is_document = t.is_document; means = t.means; in_file = ap (λ f. f.content out) same ∙ t.in_file } }
  migrates_from before middle after policy out same (Err s) m h is = absurd (not_done s h is)

  -- a policy that was learned is written
  learns_from : (before middle after : Outside) (policy capture out : List ℕ) → after.files ≡ middle.files → (r : Result Done Stop) →
      Meets (Learn policy capture out) before middle r → IsOf r failed status → status ≡ 0 → HoldsLearned policy capture out before after
  learns_from before middle after policy capture out same (Ok d) m h is =
      let k = m.holds in
      let t = k.holds_text in
      record { learned = k.learned; learns = k.learns; holds_text = record { text = t.text; is_document = t.is_document; means = t.means; in_file = ap (λ f. f.content out) same ∙ t.in_file } }
  learns_from before middle after policy capture out same (Err s) m h is = absurd (not_done s h is)

  -- a policy that was drafted is written
  drafts_from : (before middle after : Outside) (policy out : List ℕ) (captures : List (List ℕ)) → after.files ≡ middle.files → (r : Result Done Stop) →
      Meets (Draft policy out captures) before middle r → IsOf r failed status → status ≡ 0 → HoldsDraft policy out captures before after
  drafts_from before middle after policy out captures same (Ok d) m h is =
      let k = m.holds in record { draft = k.draft; drafts = k.drafts; in_file = ap (λ f. f.content out) same ∙ k.in_file }
  drafts_from before middle after policy out captures same (Err s) m h is = absurd (not_done s h is)

  -- a review is written where it has a remark, and where it has none
  reviewed_holds : (before middle after : Outside) (policy : List ℕ) (captures : List (List ℕ)) (log : List ℕ) (counts : Counts) → after.files ≡ middle.files → WritesReview policy captures log before middle counts →
      HoldsReview policy captures log before after
  reviewed_holds before middle after policy captures log counts same w =
      let h = w.holds in
      record { known = h.known; stamps = h.stamps; reviewed = h.reviewed; has = h.has; in_file = ap (λ f. f.content log) same ∙ h.in_file }

  reviews_from : (before middle after : Outside) (policy : List ℕ) (captures : List (List ℕ)) (log : List ℕ) → after.files ≡ middle.files → (r : Result Done Stop) →
      Meets (Review policy captures log) before middle r → IsOf r failed status → (status ≡ 0) ⊎ (status ≡ 15) → ReviewHolds policy captures log before after status
  unfolding reviewed_holds
  reviews_from before middle after policy captures log same (Ok (done.Reviewed counts)) m h is = record {
    holds = reviewed_holds before middle after policy captures log counts same m.0;
    clean = λ e. m.1;
    remarked = λ e. absurd (other (Ok (done.Reviewed counts)) 15 h e (omega arith) (omega arith));
  }
  reviews_from before middle after policy captures log same (Err (stop.Denied (denial.Remarks counts))) m h is = record {
    holds = reviewed_holds before middle after policy captures log counts same m.1.0;
    clean = λ e. absurd (not_done (stop.Denied (denial.Remarks counts)) h e);
    remarked = λ e. m.1.1;
  }
  reviews_from before middle after policy captures log same (Err (stop.Denied _)) m h is = absurd m.0.0
  reviews_from before middle after policy captures log same (Ok d) m h is = absurd m
  reviews_from before middle after policy captures log same (Err s) m h (inl is) = absurd (not_done s h is)
  reviews_from before middle after policy captures log same (Err s) m h (inr is) = absurd (other (Err s) 15 h is (omega arith) (omega arith))

  -- what was filtered is what the policy allows
  passes_from : LanePassesAllowed → RatesHold → (before middle after : Outside) (policy name : List ℕ) (client : ℕ) (names : SiftNamesValue) → after.files ≡ middle.files →
      (r : Result Done Stop) → Meets (Sift policy name client names) before middle r → IsOf r failed status → status ≡ 0 →
      SiftPassesAllowed policy name client names before after
  passes_from law keep before middle after policy name client names same (Ok d) m h is =
      let t = m.takes in
      let s = t.sifted in
      let whole : stored_history s.bytes ≡ s.history = s.goes.begins ∙ ap (λ l. s.history ++ l) (s.goes.all t.is_cut) ∙ append-nil s.history in
      let are = subst (λ l. AreJudged t.site (newcomer client) l s.judged) (sym whole) s.goes.are_judged in
      record {
        site = t.site;
        finds = t.finds;
        bytes = s.bytes;
        whole = s.whole;
        judged = s.judged;
        are_judged = are;
        passed = outputs t.site side.Controller [] s.judged;
        passes = law t.site (newcomer client) (stored_history s.bytes) s.judged are;
        rates = keep t.site (newcomer client) (stored_history s.bytes) s.judged are;
        output = ap (λ f. f.content names.out) same ∙ s.have.of_out;
      }
  passes_from law keep before middle after policy name client names same (Err s) m h is = absurd (not_done s h is)

  -- each record of a capture has its line, and nothing else was told
  lists_from : (before middle after : Outside) (file : List ℕ) (r : Result Done Stop) → Meets (Packets file) before middle r → Reports r middle
      after status →
      IsOf r failed status → status ≡ 0 → (dropped : ℕ) × Lists file before after (done.Listed dropped)
  lists_from before middle after file (Ok (done.Listed dropped)) m reports h is = (
    dropped,
    record {
      lists = subst (λ s. ListsFile (before.files.content file) before.sink s (Ok (done.Listed dropped))) (sym reports.prints.1) m.lists;
      content = ap (λ f. f.content) reports.files ∙ m.content;
      pair = reports.pair ∙ m.pair;
    },
  )
  lists_from before middle after file (Ok _) m reports h is = cc (m.lists.answers.0)
  lists_from before middle after file (Err s) m reports h is = absurd (not_done s h is)

module _ {c : Command} {before after : Outside} {status : ℕ} (e : Explains c before after status) where
  -- the last put failed
  abbrev pub Unprinted : Type 0
  Unprinted = Rose e.middle.sink.faults after.sink.faults

  pub explained : IsOf e.r Unprinted status
  explained = printed (end_text e.r) (status_of e.r) (unprinted_status e.r) e.middle.sink after.sink status e.reports.prints

  -- a write that failed in either part failed
  pub write_failed : WriteFailed before e.middle ⊎ Unprinted → WriteFailed before after
  write_failed (inl (inl rose)) = inl (subst (λ f. Rose before.files.write_faults f.write_faults) (sym e.reports.files) rose)
  write_failed (inl (inr rose)) = let late = e.late in inr (omega arith)
  write_failed (inr rose) = let early = e.early in inr (omega arith)

  pub read_failed : ReadFailed c before e.middle → ReadFailed c before after
  read_failed rose = subst (λ f. RoseIn (input_files c) before.files.read_faults f.read_faults) (sym e.reports.files) rose

  pub read_told : status ≡ 3 → ReadFailed c before after
  read_told is = read_failed (read_from Unprinted status c before e.middle e.r e.meets explained is)

  pub write_told : status ≡ 4 → WriteFailed before after
  write_told is = write_failed (write_from Unprinted status c before e.middle e.r e.meets explained is)

  pub refusal_told : status ≡ 5 → (p : PolicyRefusal) × RefusesPolicy c before p
  refusal_told = refusal_from Unprinted status c before e.middle e.r e.meets explained

  pub capture_told : status ≡ 6 → (p : CaptureRefusal) × RefusesCapture c before p
  capture_told = capture_from Unprinted status c before e.middle e.r e.meets explained

  pub cut_told : status ≡ 7 → (place : ℕ) × CutsCapture c before place
  cut_told = cut_from Unprinted status c before e.middle e.r e.meets explained

  pub lack_told : status ≡ 10 → LacksAsset c before
  lack_told = lack_from Unprinted status c before e.middle e.r e.meets explained

  pub link_told : status ≡ 8 → Rose before.pair.faults after.pair.faults
  link_told is = subst (λ p. Rose before.pair.faults p.faults) (sym e.reports.pair) (link_from Unprinted status c before e.middle e.r e.meets explained is)

  pub idle_told : status ≡ 9 → EndsIdle c before after.pair
  idle_told is = subst (λ p. EndsIdle c before p) (sym e.reports.pair) (idle_from Unprinted status c before e.middle e.r e.meets explained is)

  pub stream_told : status ≡ 12 → (reason : CutReason) × CutsStream c before after.pair reason
  stream_told is =
      subst (λ p. (reason : CutReason) × CutsStream c before p reason) (sym e.reports.pair)
      (stream_from Unprinted status c before e.middle e.r e.meets explained is)

  pub denied_told : status ≡ 15 → (why : Denial) × Denies c before why
  denied_told = denied_from Unprinted status c before e.middle e.r e.meets explained

  pub cells_told : status ≡ 17 → (name : List ℕ) × ExceedsCells c before name
  cells_told = cells_from Unprinted status c before e.middle e.r e.meets explained

  pub rules_told : status ≡ 16 → (name : List ℕ) × ExceedsRules c before name
  rules_told = rules_from Unprinted status c before e.middle e.r e.meets explained

  pub includes_told : (policy second : List ℕ) → c ≡ Compare policy second → status ≡ 0 → Includes policy second before
  includes_told policy second is =
      includes_from Unprinted status before e.middle policy second e.r (subst (λ k. Meets k before e.middle e.r) is e.meets) explained

  pub judged_told : UnobjectedAreAllowed → (policy capture : List ℕ) → c ≡ Judge policy capture → status ≡ 0 → JudgedClean policy capture before
  judged_told law policy capture is =
      judged_from Unprinted status law before e.middle policy capture e.r (subst (λ k. Meets k before e.middle e.r) is e.meets) explained

  pub migrates_told : (policy out : List ℕ) → c ≡ Migrate policy out → status ≡ 0 → KeepsMeaning policy out before after
  migrates_told policy out is =
      migrates_from Unprinted status before e.middle after policy out e.reports.files e.r (subst (λ k. Meets k before e.middle e.r) is e.meets) explained

  pub learns_told : (policy capture out : List ℕ) → c ≡ Learn policy capture out → status ≡ 0 → HoldsLearned policy capture out before after
  learns_told policy capture out is =
      learns_from Unprinted status before e.middle after policy capture out e.reports.files e.r (subst (λ k. Meets k before e.middle e.r) is e.meets) explained

  pub drafts_told : (policy out : List ℕ) (captures : List (List ℕ)) → c ≡ Draft policy out captures → status ≡ 0 → HoldsDraft policy out captures before after
  drafts_told policy out captures is =
      drafts_from Unprinted status before e.middle after policy out captures e.reports.files e.r (subst (λ k. Meets k before e.middle e.r) is e.meets) explained

  pub reviews_told : (policy : List ℕ) (captures : List (List ℕ)) (log : List ℕ) → c ≡ Review policy captures log → (status ≡ 0) ⊎ (status ≡ 15) → ReviewHolds policy captures log before after status
  reviews_told policy captures log is =
      reviews_from Unprinted status before e.middle after policy captures log e.reports.files e.r (subst (λ k. Meets k before e.middle e.r) is e.meets) explained

  pub passes_told : LanePassesAllowed → RatesHold → (policy name : List ℕ) (client : ℕ) (names : SiftNamesValue) → c ≡ Sift policy name client names → status ≡ 0 →
      SiftPassesAllowed policy name client names before after
  passes_told law keep policy name client names is =
      passes_from Unprinted status law keep before e.middle after policy name client names e.reports.files e.r
      (subst (λ k. Meets k before e.middle e.r) is e.meets) explained

  pub lists_told : (file : List ℕ) → c ≡ Packets file → status ≡ 0 → (dropped : ℕ) × Lists file before after (done.Listed dropped)
  lists_told file is =
      lists_from Unprinted status before e.middle after file e.r (subst (λ k. Meets k before e.middle e.r) is e.meets) e.reports explained
