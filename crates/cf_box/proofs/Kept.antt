-- Which files are as they were.
use Rattle.std.proofs.Common.{◌≡◌, ◌≢◌, ℕ, List, [], ◌∷◌, Result, Ok, Err, sym, subst, ◌∙◌, ap, inl, inr, arith}
use Rattle.cf_outside.specs.Frames.{KeepsOtherFiles}
use Rattle.cf_relay.specs.declared.done.RelayDone.{RelayDone}
use Rattle.cf_relay.specs.declared.done.RelayEnd.{RelayEnd}
use Rattle.cf_relay.specs.declared.done.RelayEnd.TheVariants as ends
use Rattle.cf_relay.specs.declared.done.RelayFault.{RelayFault}
use Rattle.cf_relay.specs.declared.done.RelayFault.TheVariants as relay_fault
use Rattle.cf_run.specs.RunCapture.{RunNamesValue}
use Rattle.cf_run.specs.declared.run.RunFault.{RunFault}
use Rattle.cf_run.specs.declared.run.RunFault.TheVariants as fault
use Rattle.cf_run.specs.declared.run.RunRefusal.TheVariants as by
use Rattle.cf_words.specs.Command.{Command, Check, Compare, Draft, Judge, Migrate, Packets, Review, Run, Relay, World, Sift, output_files, Learn}
use Rattle.cf_ending.specs.Ending.{status_of, stop_status}
use Rattle.cf_box.specs.Ends.{Does, Leaves, Meets, StopsFor}
use Rattle.cf_box.specs.Draft.{DraftLeaves}
use Rattle.cf_box.specs.Learn.{LearnLeaves}
use Rattle.cf_box.specs.Migrate.{MigrateLeaves}
use Rattle.cf_ending.specs.Outside.{Outside}
use Rattle.cf_box.specs.Relay.{HasRelayed, end_answer, relay_answer}
use Rattle.cf_box.specs.Review.{DoesReview, ReviewLeaves}
use Rattle.cf_box.specs.Run.{RunLeaves, run_stop}
use Rattle.cf_box.specs.Sift.{SiftLeaves}
use Rattle.cf_box.specs.Status.{TellsMade, WritesNothing}
use Rattle.cf_ending.specs.declared.Denial.TheVariants as denial
use Rattle.cf_ending.specs.declared.Done.{Done}
use Rattle.cf_ending.specs.declared.Done.TheVariants as done
use Rattle.cf_ending.specs.declared.Stop.{Stop}
use Rattle.cf_ending.specs.declared.Stop.TheVariants as stop
use Rattle.cf_sift.specs.Names.{SiftNamesValue}
use Rattle.cf_box.proofs.Statuses.{Explains, IsOf, Unprinted, explained, stop_is}

-- a status that is none of those at which nothing is written
none_of : (n : ℕ) → WritesNothing n → n ≢ 2 → n ≢ 5 → n ≢ 10 → ⊥
none_of n (inl e) a b c = a e
none_of n (inr (inl e)) a b c = b e
none_of n (inr (inr e)) a b c = c e

-- no fault of a run has one
not_of_run : (f : RunFault) → WritesNothing (stop_status (run_stop f)) → ⊥
not_of_run (fault.Refused by.TooLong) w = none_of 6 w (omega arith) (omega arith) (omega arith)
not_of_run f w = none_of (stop_status (run_stop f)) w (omega arith) (omega arith) (omega arith)

-- nor has the end of a relay
not_of_end : (admitted refused : ℕ) (end : RelayEnd) (s : Stop) → WritesNothing (stop_status s) → end_answer admitted refused end ≡ Err s → ⊥
not_of_end admitted refused ends.Done s w is = cc is
not_of_end admitted refused ends.IdleEnd s w is = none_of 9 (subst (λ r. WritesNothing (status_of r)) (sym is) w) (omega arith) (omega arith) (omega arith)
not_of_end admitted refused (ends.Cut reason) s w is = none_of 12 (subst (λ r. WritesNothing (status_of r)) (sym is) w) (omega arith) (omega arith) (omega arith)

not_of_relay : (s : Stop) → WritesNothing (stop_status s) → (answer : Result RelayDone RelayFault) → relay_answer answer ≡ Err s → ⊥
not_of_relay s w (Ok relayed) is = not_of_end relayed.admitted relayed.refused relayed.end s w is
not_of_relay s w (Err relay_fault.NoMemory) is = none_of 13 (subst (λ r. WritesNothing (status_of r)) (sym is) w) (omega arith) (omega arith) (omega arith)
not_of_relay s w (Err f) is = none_of (status_of (relay_answer (Err f))) (subst (λ r. WritesNothing (status_of r)) (sym is) w) (omega arith) (omega arith) (omega arith)

module _ (before after : Outside) where
  abbrev Keeps : Command → Type 0
  Keeps k = KeepsOtherFiles (output_files k) before.files.content after.files.content

  nothing_written : (k : Command) → after.files.content ≡ before.files.content → Keeps k
  nothing_written k same = λ other _. ap (λ f. f other) same

  -- a relay writes its log alone
  relay_keeps : (policy asset : List ℕ) (port idles : ℕ) (log : List ℕ) (answer : Result RelayDone RelayFault) → HasRelayed policy asset port idles log before after answer →
      KeepsOtherFiles (log ∷ []) before.files.content after.files.content
  relay_keeps policy asset port idles log answer relayed = λ other none. relayed.others other none.0

  review_done_keeps : (policy : List ℕ) (captures : List (List ℕ)) (log : List ℕ) (d : Done) → DoesReview policy captures log before after d → Keeps (Review policy captures log)
  review_done_keeps policy captures log (done.Reviewed counts) m = m.0.others
  review_done_keeps policy captures log d m = absurd m

  -- what was done keeps every file but the outputs: a line a command
  done_keeps : (k : Command) (d : Done) → Does k before after d → Keeps k
  done_keeps (Check policy) d m = nothing_written (Check policy) m.same.content
  done_keeps (Compare policy other) d m = nothing_written (Compare policy other) m.same.content
  done_keeps (Judge policy capture) d m = nothing_written (Judge policy capture) m.same.content
  done_keeps (Packets file) d m = nothing_written (Packets file) m.content
  done_keeps (Review policy captures log) d m = review_done_keeps policy captures log d m
  done_keeps (Run policy names) d m = m.1.others
  done_keeps (Relay policy asset port idles log) d m = relay_keeps policy asset port idles log m.0 m.1
  done_keeps (World seed sessions policy names) d m = λ other none. m.2.1.others other none.1.1 ∙ m.1.others other (none.0, (none.1.0, tt))
  done_keeps (Sift policy asset client names) d m = m.takes.sifted.others
  done_keeps _ d m = m.others

  sift_keeps : (policy asset : List ℕ) (client : ℕ) (names : SiftNamesValue) (s : Stop) → SiftLeaves policy asset client names before after s → Keeps (Sift policy asset client names)
  sift_keeps policy asset client names stop.ReadFault (inl l) = nothing_written (Sift policy asset client names) l.content
  sift_keeps policy asset client names stop.ReadFault (inr l) = l.left.others
  sift_keeps policy asset client names stop.WriteFault l = elim l.left [ inl u ↦ u.others | inr w ↦ w.others ]
  sift_keeps policy asset client names (stop.Cut reason) l = l.sifted.others
  sift_keeps policy asset client names s l = nothing_written (Sift policy asset client names) l.content

  migrate_keeps : (policy out : List ℕ) (s : Stop) → MigrateLeaves policy out before after s → Keeps (Migrate policy out)
  migrate_keeps policy out stop.WriteFault l = l.others
  migrate_keeps policy out s l = nothing_written (Migrate policy out) l.content

  learn_keeps : (policy capture out : List ℕ) (s : Stop) → LearnLeaves policy capture out before after s → Keeps (Learn policy capture out)
  learn_keeps policy capture out stop.WriteFault l = l.others
  learn_keeps policy capture out s l = nothing_written (Learn policy capture out) l.content

  draft_keeps : (policy out : List ℕ) (captures : List (List ℕ)) (s : Stop) → DraftLeaves policy out captures before after s → Keeps (Draft policy out captures)
  draft_keeps policy out captures stop.WriteFault l = l.others
  draft_keeps policy out captures s l = nothing_written (Draft policy out captures) l.content

  review_keeps : (policy : List ℕ) (captures : List (List ℕ)) (log : List ℕ) (s : Stop) → ReviewLeaves policy captures log before after s → Keeps (Review policy captures log)
  review_keeps policy captures log (stop.Denied (denial.Remarks counts)) l = l.0.others
  review_keeps policy captures log stop.WriteFault l = l.others
  review_keeps policy captures log s l = nothing_written (Review policy captures log) l.content

  -- a run that stopped, from another moment on
  run_stop_keeps : (between : Outside) (policy : List ℕ) (names : RunNamesValue) (s : Stop) → RunLeaves policy names between after s →
      KeepsOtherFiles (names.out ∷ names.log ∷ []) between.files.content after.files.content
  run_stop_keeps between policy names s (inl l) = λ other none. ap (λ f. f other) l.1.content
  run_stop_keeps between policy names s (inr l) = l.1.others

  -- and so does what stopped: a line a command
  stop_keeps : (k : Command) (s : Stop) → Leaves k before after s → Keeps k
  stop_keeps (Check policy) s l = nothing_written (Check policy) l.same.content
  stop_keeps (Compare policy other) s l = nothing_written (Compare policy other) l.same.content
  stop_keeps (Judge policy capture) s l = nothing_written (Judge policy capture) l.same.content
  stop_keeps (Draft policy out captures) s l = draft_keeps policy out captures s l
  stop_keeps (Learn policy capture out) s l = learn_keeps policy capture out s l
  stop_keeps (Review policy captures log) s l = review_keeps policy captures log s l
  stop_keeps (Migrate policy out) s l = migrate_keeps policy out s l
  stop_keeps (Packets file) s l = nothing_written (Packets file) l.content
  stop_keeps (Run policy names) s (inl l) = nothing_written (Run policy names) l.1.content
  stop_keeps (Run policy names) s (inr l) = l.1.others
  stop_keeps (Relay policy asset port idles log) s (inl l) = nothing_written (Relay policy asset port idles log) l.1.content
  stop_keeps (Relay policy asset port idles log) s (inr l) = relay_keeps policy asset port idles log l.0 l.1
  stop_keeps (World seed sessions policy names) s (inl l) = λ other none. l.1.others other (none.0, (none.1.0, tt))
  stop_keeps (World seed sessions policy names) s (inr l) = λ other none. run_stop_keeps l.0 policy names s l.2 other none.1.1 ∙ l.1.others other (none.0, (none.1.0, tt))
  stop_keeps (Sift policy asset client names) s l = sift_keeps policy asset client names s l

  pub keeps_from : (c : Command) (r : Result Done Stop) → Meets c before after r → Keeps c
  keeps_from c (Ok d) m = done_keeps c d m
  keeps_from c (Err s) m = stop_keeps c s m.1

  sift_unwritten : (policy asset : List ℕ) (client : ℕ) (names : SiftNamesValue) (s : Stop) → WritesNothing (stop_status s) → SiftLeaves policy asset client names before after s → after.files.content ≡ before.files.content
  sift_unwritten policy asset client names stop.ReadFault w l = absurd (none_of 3 w (omega arith) (omega arith) (omega arith))
  sift_unwritten policy asset client names stop.WriteFault w l = absurd (none_of 4 w (omega arith) (omega arith) (omega arith))
  sift_unwritten policy asset client names (stop.Cut reason) w l = absurd (none_of 12 w (omega arith) (omega arith) (omega arith))
  sift_unwritten policy asset client names s w l = l.content

  migrate_unwritten : (policy out : List ℕ) (s : Stop) → WritesNothing (stop_status s) → MigrateLeaves policy out before after s → after.files.content ≡ before.files.content
  migrate_unwritten policy out stop.WriteFault w l = absurd (none_of 4 w (omega arith) (omega arith) (omega arith))
  migrate_unwritten policy out s w l = l.content

  learn_unwritten : (policy capture out : List ℕ) (s : Stop) → WritesNothing (stop_status s) → LearnLeaves policy capture out before after s → after.files.content ≡ before.files.content
  learn_unwritten policy capture out stop.WriteFault w l = absurd (none_of 4 w (omega arith) (omega arith) (omega arith))
  learn_unwritten policy capture out s w l = l.content

  draft_unwritten : (policy out : List ℕ) (captures : List (List ℕ)) (s : Stop) → WritesNothing (stop_status s) → DraftLeaves policy out captures before after s → after.files.content ≡ before.files.content
  draft_unwritten policy out captures stop.WriteFault w l = absurd (none_of 4 w (omega arith) (omega arith) (omega arith))
  draft_unwritten policy out captures s w l = l.content

  review_unwritten : (policy : List ℕ) (captures : List (List ℕ)) (log : List ℕ) (s : Stop) → WritesNothing (stop_status s) → ReviewLeaves policy captures log before after s → after.files.content ≡ before.files.content
  review_unwritten policy captures log (stop.Denied (denial.Remarks counts)) w l = absurd (none_of 15 w (omega arith) (omega arith) (omega arith))
  review_unwritten policy captures log stop.WriteFault w l = absurd (none_of 4 w (omega arith) (omega arith) (omega arith))
  review_unwritten policy captures log s w l = l.content

  -- no stop of a world whose files tell what they hold has one
  not_of_world : (seed sessions : ℕ) (policy : List ℕ) (names : RunNamesValue) (s : Stop) → WritesNothing (stop_status s) → TellsMade (World seed sessions policy names) before →
      StopsFor (World seed sessions policy names) before after s → ⊥
  not_of_world seed sessions policy names stop.ReadFault w t f = none_of 3 w (omega arith) (omega arith) (omega arith)
  not_of_world seed sessions policy names stop.WriteFault w t f = none_of 4 w (omega arith) (omega arith) (omega arith)
  not_of_world seed sessions policy names (stop.PolicyRefused r) w t (inl f) = cc (f.1)
  not_of_world seed sessions policy names (stop.PolicyRefused r) w t (inr (inl f)) = cc (f.2)
  not_of_world seed sessions policy names (stop.PolicyRefused r) w t (inr (inr f)) = t.0 f
  not_of_world seed sessions policy names (stop.CaptureRefused r) w t f = t.1 f.0
  not_of_world seed sessions policy names (stop.CaptureCut place) w t f = t.1 f.0
  not_of_world seed sessions policy names (stop.RunCut place summary) w t f = t.1 f.0
  not_of_world seed sessions policy names stop.UnknownAsset w t f = cc (f.3)
  not_of_world seed sessions policy names stop.NoMemory w t f = none_of 13 w (omega arith) (omega arith) (omega arith)
  not_of_world seed sessions policy names _ w t f = f.0

  -- such a status leaves the files as they were: a line a command
  unwritten_by : (k : Command) (s : Stop) → WritesNothing (stop_status s) → TellsMade k before → StopsFor k before after s → Leaves k before after s → after.files.content ≡ before.files.content
  unwritten_by (Draft policy out captures) s w t f l = draft_unwritten policy out captures s w l
  unwritten_by (Learn policy capture out) s w t f l = learn_unwritten policy capture out s w l
  unwritten_by (Review policy captures log) s w t f l = review_unwritten policy captures log s w l
  unwritten_by (Migrate policy out) s w t f l = migrate_unwritten policy out s w l
  unwritten_by (Packets file) s w t f l = l.content
  unwritten_by (Run policy names) s w t f (inl l) = l.1.content
  unwritten_by (Run policy names) s w t f (inr l) = absurd (not_of_run l.0 (subst (λ t. WritesNothing (stop_status t)) l.2 w))
  unwritten_by (Relay policy asset port idles log) s w t f (inl l) = l.1.content
  unwritten_by (Relay policy asset port idles log) s w t f (inr l) = absurd (not_of_relay s w l.0 l.2)
  unwritten_by (World seed sessions policy names) s w t f l = absurd (not_of_world seed sessions policy names s w t f)
  unwritten_by (Sift policy asset client names) s w t f l = sift_unwritten policy asset client names s w l
  unwritten_by _ s w t f l = l.same.content

  module _ (failed : Type 0) (status : ℕ) where
    unwritten_from : (c : Command) (r : Result Done Stop) → Meets c before after r → IsOf r failed status → WritesNothing status → TellsMade c before → after.files.content ≡ before.files.content
    unwritten_from c (Ok d) meets (inl h) w t = absurd (none_of 0 (subst WritesNothing h w) (omega arith) (omega arith) (omega arith))
    unwritten_from c (Ok d) meets (inr h) w t = absurd (none_of 4 (subst WritesNothing h.0 w) (omega arith) (omega arith) (omega arith))
    unwritten_from c (Err s) meets h w t = unwritten_by c s (subst WritesNothing (stop_is failed status s h) w) t meets.0 meets.1

module _ {c : Command} {before after : Outside} {status : ℕ} (e : Explains c before after status) where
  pub kept_told : KeepsOtherFiles (output_files c) before.files.content after.files.content
  kept_told =
      subst (λ f. KeepsOtherFiles (output_files c) before.files.content f) (sym (ap (λ f. f.content) e.reports.files)) (keeps_from before e.middle c e.r e.meets)

  pub unwritten_told : WritesNothing status → TellsMade c before → after.files.content ≡ before.files.content
  unwritten_told w t = ap (λ f. f.content) e.reports.files ∙ unwritten_from before e.middle (Unprinted e) status c e.r e.meets (explained e) w t
