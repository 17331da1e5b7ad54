-- A capture that is told and refused, or cut: with what else the work over it can end.
use Rattle.std.proofs.Common.{◌≡◌, ◌⊎◌, ℕ, List, [], ◌∷◌, arith, Result, Ok, Err, subst, inl, inr, refl}
use Rattle.cf_outside.specs.Files.{Content, holds}
use Rattle.cf_policylang.specs.declared.PolicyRefusal.{PolicyRefusal}
use Rattle.cf_records.specs.Capture.{AtPlace, Cut, FileEnd, Record}
use Rattle.cf_watch.specs.Recorded.{HaveRecords, IsWhole}
use Rattle.cf_run.specs.RunCapture.{HasRunRecords, RunNamesValue}
use Rattle.cf_view.specs.declared.LinkSet.{LinkSet}
use Rattle.cf_view.specs.declared.LinkSet.TheVariants as set
use Rattle.cf_watch.specs.Watch.{EndsAt as WatchEnd}
use Rattle.cf_ending.specs.Captures.{EndsAt, EndsIn, Refuses}
use Rattle.cf_words.specs.Command.{Command, Draft, Judge, Packets, Review, Run, Learn}
use Rattle.cf_box.specs.Ends.{Meets, RefusesPolicy}
use Rattle.cf_box.specs.Judge.{Objects}
use Rattle.cf_box.specs.InForm.{TellsFirst}
use Rattle.cf_box.specs.Recording.{CapturesCut, CapturesRefuse}
use Rattle.cf_box.specs.Watching.{ReviewCuts, ReviewRefuses, WatchCuts, WatchRefuses}
use Rattle.cf_ending.specs.Outside.{Outside, ReadFailed, WriteFailed}
use Rattle.cf_box.specs.Packets.{HasListedRecords}
use Rattle.cf_box.specs.PolicyFile.{TellsPolicy}
use Rattle.cf_box.specs.Review.{DoesReview, HoldsReview, Remarks}
use Rattle.cf_box.specs.Status.{TellsCutAt, TellsCutCapture, TellsRefusal, TellsRefusedCapture}
use Rattle.cf_ending.specs.declared.Denial.{Denial}
use Rattle.cf_ending.specs.declared.Denial.TheVariants as denial
use Rattle.cf_ending.specs.declared.CaptureRefusal.{CaptureRefusal}
use Rattle.cf_ending.specs.declared.Done.{Done}
use Rattle.cf_ending.specs.declared.Done.TheVariants as done
use Rattle.cf_ending.specs.declared.Stop.{Stop}
use Rattle.cf_ending.specs.declared.Stop.TheVariants as stop
use Rattle.cf_box.proofs.CaptureStops.{listed, listed_to}
use Rattle.cf_box.proofs.Complete.{Refusing, ends_refused, known_unrefused, listing_once, listing_uncut, listing_unrefused, run_once}
use Rattle.cf_box.proofs.Statuses.{IsOf, stop_is}

-- a capture that ends with the file is not cut
listing_apart : (kinds : LinkSet) (bytes : List ℕ) (end cut : ℕ) → EndsIn kinds HasListedRecords (holds bytes) FileEnd end →
    EndsIn kinds HasListedRecords (holds bytes) Cut cut → ⊥
listing_apart kinds bytes end cut e g = cc (listing_once kinds bytes FileEnd Cut end cut e g)

run_apart : (bytes : List ℕ) (end cut : ℕ) → EndsAt HasRunRecords (holds bytes) FileEnd end → EndsAt HasRunRecords (holds bytes) Cut cut → ⊥
run_apart bytes end cut e g = cc (run_once bytes FileEnd Cut end cut e g)

-- ---- captures of a recording

-- each is read to its end
abbrev pub AllWhole : (content : List ℕ → Content) → (captures : List (List ℕ)) → Type 0
AllWhole content [] = Unit {0}
AllWhole content (capture ∷ captures) = IsWhole (content capture) × AllWhole content captures

all_whole : (content : List ℕ → Content) (captures : List (List ℕ)) (records : List Record) → HaveRecords content captures records → AllWhole content captures
all_whole content [] records have = tt
all_whole content (capture ∷ captures) records (first, later, here, rest, is) = ((first, here), all_whole content captures later rest)

whole_end : (file : Content) (bytes : List ℕ) → file ≡ holds bytes → (w : IsWhole file) → EndsIn set.Recorded HasListedRecords (holds bytes) FileEnd w.1.place
whole_end file bytes told w = subst (λ f. EndsIn set.Recorded HasListedRecords f FileEnd w.1.place) told (record { form = w.1.form; has_form = w.1.has_form; records = w.0; are_records = w.1.are_records })

-- one that is refused, or cut, is not
refused_here : (file : Content) → TellsRefusal ReviewRefuses file → IsWhole file → ⊥
refused_here file t w = ends_refused set.Recorded HasListedRecords t.bytes (listing_once set.Recorded t.bytes) t.refusal t.refuses.0 FileEnd w.1.place (whole_end file t.bytes t.told w)

cut_here : (file : Content) → TellsCutAt ReviewCuts file → IsWhole file → ⊥
cut_here file t w = listing_apart set.Recorded t.bytes w.1.place t.place (whole_end file t.bytes t.told w) t.cuts

refused_whole : (content : List ℕ → Content) (captures : List (List ℕ)) → TellsFirst (TellsRefusal ReviewRefuses) content captures → AllWhole content captures → ⊥
refused_whole content [] t w = t
refused_whole content (capture ∷ captures) (inl t) w = refused_here (content capture) t w.0
refused_whole content (capture ∷ captures) (inr t) w = refused_whole content captures t.1 w.1

cut_whole : (content : List ℕ → Content) (captures : List (List ℕ)) → TellsFirst (TellsCutAt ReviewCuts) content captures → AllWhole content captures → ⊥
cut_whole content [] t w = t
cut_whole content (capture ∷ captures) (inl t) w = cut_here (content capture) t w.0
cut_whole content (capture ∷ captures) (inr t) w = cut_whole content captures t.1 w.1

-- the first that is refused is not cut, nor is one before it
refused_uncut : (content : List ℕ → Content) (captures : List (List ℕ)) → TellsFirst (TellsRefusal ReviewRefuses) content captures → (place : ℕ) → CapturesCut content captures place → ⊥
refused_uncut content [] t place c = t
refused_uncut content (capture ∷ captures) (inl t) place (inl c) =
    ends_refused set.Recorded HasListedRecords t.bytes (listing_once set.Recorded t.bytes) t.refusal t.refuses.0 Cut place (subst (λ f. ReviewCuts f place) t.told c)
refused_uncut content (capture ∷ captures) (inl t) place (inr c) = refused_here (content capture) t c.0
refused_uncut content (capture ∷ captures) (inr ((bytes, told, has), t)) place (inl c) = listing_uncut set.Recorded bytes has place (subst (λ f. ReviewCuts f place) told c)
refused_uncut content (capture ∷ captures) (inr t) place (inr c) = refused_uncut content captures t.1 place c.1

cut_unrefused : (content : List ℕ → Content) (captures : List (List ℕ)) → TellsFirst (TellsCutAt ReviewCuts) content captures → (r : CaptureRefusal) → CapturesRefuse content captures r → ⊥
cut_unrefused content [] t r c = t
cut_unrefused content (capture ∷ captures) (inl t) r (inl c) =
    ends_refused set.Recorded HasListedRecords t.bytes (listing_once set.Recorded t.bytes) r (subst (λ f. ReviewRefuses f r) t.told c).0 Cut t.place t.cuts
cut_unrefused content (capture ∷ captures) (inl t) r (inr c) = cut_here (content capture) t c.0
cut_unrefused content (capture ∷ captures) (inr ((bytes, told, has), t)) r (inl c) = listing_unrefused set.Recorded bytes has r (subst (λ f. ReviewRefuses f r) told c).0
cut_unrefused content (capture ∷ captures) (inr t) r (inr c) = cut_unrefused content captures t.1 r c.1

module _ (failed : Type 0) (status : ℕ) (before after : Outside) where
  -- what is due where a write may have failed before
  abbrev pub DueBehind : Command → ℕ → Type 0
  DueBehind c n = (status ≡ n) ⊎ (((status ≡ 4) × (WriteFailed before after ⊎ failed)) ⊎ (((status ≡ 3) × ReadFailed c before after) ⊎ (status ≡ 13)))

  -- of a capture, the places where its records end so, and what refuses it: it has one such end
  module _ (c : Command) (Ends : AtPlace → ℕ → Type 0) (IsRefused : CaptureRefusal → Type 0)
      (apart : (r : CaptureRefusal) → IsRefused r → (found : AtPlace) (place : ℕ) → Ends found place → Refusing found) (once : (end cut : ℕ) → Ends FileEnd end → Ends Cut cut → ⊥) where
    -- what an answer of the work over the capture means of it
    abbrev EndsBy : Result Done Stop → Type 0
    EndsBy (Ok d) = (place : ℕ) × Ends FileEnd place
    EndsBy (Err (stop.CaptureRefused r)) = IsRefused r
    EndsBy (Err (stop.CaptureCut place)) = Ends Cut place
    EndsBy (Err (stop.RunCut place summary)) = Ends Cut place
    EndsBy (Err (stop.Denied why)) = (place : ℕ) × Ends FileEnd place
    EndsBy (Err (stop.TooManyRules name)) = (place : ℕ) × Ends FileEnd place
    EndsBy (Err stop.ReadFault) = ReadFailed c before after
    EndsBy (Err stop.WriteFault) = WriteFailed before after
    EndsBy (Err stop.NoMemory) = Unit {0}
    EndsBy (Err _) = ⊥

    refused_due : (refused : CaptureRefusal) → IsRefused refused → (r : Result Done Stop) → EndsBy r → IsOf r failed status → DueBehind c 6
    refused_due refused is (Ok d) h of = absurd (apart refused is FileEnd h.0 h.1)
    refused_due refused is (Err (stop.CaptureRefused r)) h of = inl (stop_is failed status (stop.CaptureRefused r) of)
    refused_due refused is (Err (stop.CaptureCut place)) h of = absurd (apart refused is Cut place h)
    refused_due refused is (Err (stop.RunCut place summary)) h of = absurd (apart refused is Cut place h)
    refused_due refused is (Err (stop.Denied why)) h of = absurd (apart refused is FileEnd h.0 h.1)
    refused_due refused is (Err (stop.TooManyRules name)) h of = absurd (apart refused is FileEnd h.0 h.1)
    refused_due refused is (Err stop.ReadFault) h of = inr (inr (inl (stop_is failed status stop.ReadFault of, h)))
    refused_due refused is (Err stop.WriteFault) h of = inr (inl (stop_is failed status stop.WriteFault of, inl h))
    refused_due refused is (Err stop.NoMemory) h of = inr (inr (inr (stop_is failed status stop.NoMemory of)))
    refused_due refused is (Err s) h of = absurd h

    cut_due : (cut : ℕ) → Ends Cut cut → (r : Result Done Stop) → EndsBy r → IsOf r failed status → DueBehind c 7
    cut_due cut is (Ok d) h of = absurd (once h.0 cut h.1 is)
    cut_due cut is (Err (stop.CaptureRefused r)) h of = absurd (apart r h Cut cut is)
    cut_due cut is (Err (stop.CaptureCut place)) h of = inl (stop_is failed status (stop.CaptureCut place) of)
    cut_due cut is (Err (stop.RunCut place summary)) h of = inl (stop_is failed status (stop.RunCut place summary) of)
    cut_due cut is (Err (stop.Denied why)) h of = absurd (once h.0 cut h.1 is)
    cut_due cut is (Err (stop.TooManyRules name)) h of = absurd (once h.0 cut h.1 is)
    cut_due cut is (Err stop.ReadFault) h of = inr (inr (inl (stop_is failed status stop.ReadFault of, h)))
    cut_due cut is (Err stop.WriteFault) h of = inr (inl (stop_is failed status stop.WriteFault of, inl h))
    cut_due cut is (Err stop.NoMemory) h of = inr (inr (inr (stop_is failed status stop.NoMemory of)))
    cut_due cut is (Err s) h of = absurd h

  -- ---- a listing

  module _ (capture bytes : List ℕ) (told : before.files.content capture ≡ holds bytes) where
    abbrev ListingBy : Result Done Stop → Type 0
    ListingBy r = EndsBy (Packets capture) (EndsAt HasListedRecords (holds bytes)) (Refuses HasListedRecords (holds bytes)) (ends_refused set.Plain HasListedRecords bytes (listing_once set.Plain bytes)) (listing_apart set.Plain bytes) r

    unread_policy : (r : PolicyRefusal) → RefusesPolicy (Packets capture) before r → ⊥
    unread_policy r (inl cause) = let none = cause.1 in cc
    unread_policy r (inr (inl cause)) = let none = cause.2 in cc
    unread_policy r (inr (inr made)) = made

    listing_by : (r : Result Done Stop) → Meets (Packets capture) before after r → ListingBy r
    listing_by (Ok d) meets =
        let l = meets.lists in (l.last.place, subst (λ f. EndsAt HasListedRecords f FileEnd l.last.place) told (listed_to FileEnd l l.answers.1))
    listing_by (Err (stop.CaptureRefused r)) meets = subst (λ f. Refuses HasListedRecords f r) told meets.0.0.0
    listing_by (Err (stop.CaptureCut place)) meets = subst (λ f. EndsAt HasListedRecords f Cut place) told meets.0.0
    listing_by (Err stop.ReadFault) meets = meets.0
    listing_by (Err stop.WriteFault) meets = meets.0.0
    listing_by (Err stop.NoMemory) meets = tt
    listing_by (Err (stop.PolicyRefused r)) meets = absurd (unread_policy r meets.0)
    listing_by (Err stop.UnknownAsset) meets = let none = meets.0.2 in cc
    listing_by (Err _) meets = absurd meets.0.0

  -- ---- a run

  module _ (policy : List ℕ) (names : RunNamesValue) (known : TellsPolicy (before.files.content policy)) (bytes : List ℕ) (told : before.files.content names.capture ≡ holds bytes) where
    abbrev RunBy : Result Done Stop → Type 0
    RunBy r = EndsBy (Run policy names) (EndsAt HasRunRecords (holds bytes)) (Refuses HasRunRecords (holds bytes)) (ends_refused set.Plain HasRunRecords bytes (run_once bytes)) (run_apart bytes) r

    run_by : (r : Result Done Stop) → Meets (Run policy names) before after r → RunBy r
    run_by (Ok d) meets =
        let r = meets.1.runs.1 in
        let at : EndsAt HasRunRecords (before.files.content names.capture) FileEnd meets.1.runs.0 =
        record { form = r.form; has_form = r.has_form; records = r.records; are_records = r.are_records } in
        (meets.1.runs.0, subst (λ f. EndsAt HasRunRecords f FileEnd meets.1.runs.0) told at)
    run_by (Err (stop.CaptureRefused r)) meets = subst (λ f. Refuses HasRunRecords f r) told meets.0.0
    run_by (Err (stop.CaptureCut place)) meets = subst (λ f. EndsAt HasRunRecords f Cut place) told meets.0.0
    run_by (Err (stop.RunCut place summary)) meets = subst (λ f. EndsAt HasRunRecords f Cut place) told meets.0.0
    run_by (Err stop.ReadFault) meets = meets.0
    run_by (Err stop.WriteFault) meets = meets.0.0
    run_by (Err stop.NoMemory) meets = tt
    run_by (Err (stop.PolicyRefused r)) meets =
        absurd (known_unrefused (Run policy names) before policy known.bytes known.policy r refl known.told known.means (λ second e. cc e) meets.0)
    run_by (Err stop.UnknownAsset) meets = let none = meets.0.3 in cc
    run_by (Err _) meets = absurd meets.0.0

  -- ---- a capture that is watched

  module _ (c : Command) (policy capture : List ℕ) (known : TellsPolicy (before.files.content policy)) (bytes : List ℕ) (told : before.files.content capture ≡ holds bytes) where
    -- one that is refused is watched to no other end
    watch_apart : (r : CaptureRefusal) → WatchRefuses (holds bytes) r → (found : AtPlace) (place : ℕ) → WatchEnd set.Plain (holds bytes) found place → Refusing found
    watch_apart r (inl (is, long)) found place e = absurd (omega (arith, e.short, long))
    watch_apart r (inr s) found place e = ends_refused set.Plain HasListedRecords bytes (listing_once set.Plain bytes) r s.refuses.0 found place (listed set.Plain (holds bytes) found place e)

    watch_once : (end cut : ℕ) → WatchEnd set.Plain (holds bytes) FileEnd end → WatchEnd set.Plain (holds bytes) Cut cut → ⊥
    watch_once end cut e g = listing_apart set.Plain bytes end cut (listed set.Plain (holds bytes) FileEnd end e) (listed set.Plain (holds bytes) Cut cut g)

    abbrev WatchedBy : Result Done Stop → Type 0
    WatchedBy r = EndsBy c (WatchEnd set.Plain (holds bytes)) (WatchRefuses (holds bytes)) watch_apart watch_once r

    abbrev ToItsEnd : Type 0
    ToItsEnd = (place : ℕ) × WatchEnd set.Plain (holds bytes) FileEnd place

    to_its_end : (place : ℕ) → WatchEnd set.Plain (before.files.content capture) FileEnd place → ToItsEnd
    to_its_end place e = (place, subst (λ f. WatchEnd set.Plain f FileEnd place) told e)

    watched_refused : (refused : CaptureRefusal) → WatchRefuses (holds bytes) refused → (r : Result Done Stop) → WatchedBy r → IsOf r failed status → DueBehind c 6
    watched_refused = refused_due c (WatchEnd set.Plain (holds bytes)) (WatchRefuses (holds bytes)) watch_apart watch_once

    watched_cut : (cut : ℕ) → WatchCuts (holds bytes) cut → (r : Result Done Stop) → WatchedBy r → IsOf r failed status → DueBehind c 7
    watched_cut = cut_due c (WatchEnd set.Plain (holds bytes)) (WatchRefuses (holds bytes)) watch_apart watch_once

  module _ (policy capture : List ℕ) (known : TellsPolicy (before.files.content policy)) (bytes : List ℕ) (told : before.files.content capture ≡ holds bytes) where
    -- a judgement
    objects_end : (why : Denial) → Objects policy capture before why → ToItsEnd (Judge policy capture) policy capture known bytes told
    objects_end (denial.Objects tells) o = to_its_end (Judge policy capture) policy capture known bytes told o.2.has_flows.place o.2.has_flows.ends
    objects_end _ o = absurd o

    judge_by : (r : Result Done Stop) → Meets (Judge policy capture) before after r → WatchedBy (Judge policy capture) policy capture known bytes told r
    judge_by (Ok d) meets = let has = meets.keeps.2.has_flows in to_its_end (Judge policy capture) policy capture known bytes told has.place has.ends
    judge_by (Err (stop.CaptureRefused r)) meets = subst (λ f. WatchRefuses f r) told meets.0.0
    judge_by (Err (stop.CaptureCut place)) meets = subst (λ f. WatchCuts f place) told meets.0.0
    judge_by (Err stop.ReadFault) meets = meets.0
    judge_by (Err stop.WriteFault) meets = meets.0.0
    judge_by (Err stop.NoMemory) meets = tt
    judge_by (Err (stop.PolicyRefused r)) meets =
        absurd (known_unrefused (Judge policy capture) before policy known.bytes known.policy r refl known.told known.means (λ second e. cc e) meets.0)
    judge_by (Err stop.UnknownAsset) meets = let none = meets.0.3 in cc
    judge_by (Err (stop.Denied why)) meets = objects_end why meets.0.0
    judge_by (Err _) meets = absurd meets.0.0

    -- what is learned of a capture
    learn_by : (out : List ℕ) (r : Result Done Stop) → Meets (Learn policy capture out) before after r → WatchedBy (Learn policy capture out) policy capture known bytes told r
    learn_by out (Ok d) meets = let has = meets.holds.learns.watched.has_flows in to_its_end (Learn policy capture out) policy capture known bytes told has.place has.ends
    learn_by out (Err (stop.CaptureRefused r)) meets = subst (λ f. WatchRefuses f r) told meets.0.0
    learn_by out (Err (stop.CaptureCut place)) meets = subst (λ f. WatchCuts f place) told meets.0.0
    learn_by out (Err stop.ReadFault) meets = meets.0
    learn_by out (Err stop.WriteFault) meets = meets.0.0
    learn_by out (Err stop.NoMemory) meets = tt
    learn_by out (Err (stop.PolicyRefused r)) meets =
        absurd (known_unrefused (Learn policy capture out) before policy known.bytes known.policy r refl known.told known.means (λ second e. cc e) meets.0)
    learn_by out (Err stop.UnknownAsset) meets = let none = meets.0.3 in cc
    learn_by out (Err (stop.TooManyRules name)) meets = let has = meets.0.0.2.has_flows in to_its_end (Learn policy capture out) policy capture known bytes told has.place has.ends
    learn_by out (Err _) meets = absurd meets.0.0

  -- ---- captures of a recording

  module _ (c : Command) (captures : List (List ℕ)) where
    -- what an answer of the work over the captures means of them
    abbrev RecordedBy : Result Done Stop → Type 0
    RecordedBy (Ok d) = AllWhole before.files.content captures
    RecordedBy (Err (stop.CaptureRefused r)) = CapturesRefuse before.files.content captures r
    RecordedBy (Err (stop.CaptureCut place)) = CapturesCut before.files.content captures place
    RecordedBy (Err (stop.Denied why)) = AllWhole before.files.content captures
    RecordedBy (Err (stop.TooManyRules name)) = AllWhole before.files.content captures
    RecordedBy (Err stop.ReadFault) = ReadFailed c before after
    RecordedBy (Err stop.WriteFault) = WriteFailed before after
    RecordedBy (Err stop.NoMemory) = Unit {0}
    RecordedBy (Err _) = ⊥

    recorded_refused : TellsFirst (TellsRefusal ReviewRefuses) before.files.content captures → (r : Result Done Stop) → RecordedBy r → IsOf r failed status → DueBehind c 6
    recorded_refused t (Ok d) h of = absurd (refused_whole before.files.content captures t h)
    recorded_refused t (Err (stop.CaptureRefused r)) h of = inl (stop_is failed status (stop.CaptureRefused r) of)
    recorded_refused t (Err (stop.CaptureCut place)) h of = absurd (refused_uncut before.files.content captures t place h)
    recorded_refused t (Err (stop.Denied why)) h of = absurd (refused_whole before.files.content captures t h)
    recorded_refused t (Err (stop.TooManyRules name)) h of = absurd (refused_whole before.files.content captures t h)
    recorded_refused t (Err stop.ReadFault) h of = inr (inr (inl (stop_is failed status stop.ReadFault of, h)))
    recorded_refused t (Err stop.WriteFault) h of = inr (inl (stop_is failed status stop.WriteFault of, inl h))
    recorded_refused t (Err stop.NoMemory) h of = inr (inr (inr (stop_is failed status stop.NoMemory of)))
    recorded_refused t (Err s) h of = absurd h

    recorded_cut : TellsFirst (TellsCutAt ReviewCuts) before.files.content captures → (r : Result Done Stop) → RecordedBy r → IsOf r failed status → DueBehind c 7
    recorded_cut t (Ok d) h of = absurd (cut_whole before.files.content captures t h)
    recorded_cut t (Err (stop.CaptureRefused r)) h of = absurd (cut_unrefused before.files.content captures t r h)
    recorded_cut t (Err (stop.CaptureCut place)) h of = inl (stop_is failed status (stop.CaptureCut place) of)
    recorded_cut t (Err (stop.Denied why)) h of = absurd (cut_whole before.files.content captures t h)
    recorded_cut t (Err (stop.TooManyRules name)) h of = absurd (cut_whole before.files.content captures t h)
    recorded_cut t (Err stop.ReadFault) h of = inr (inr (inl (stop_is failed status stop.ReadFault of, h)))
    recorded_cut t (Err stop.WriteFault) h of = inr (inl (stop_is failed status stop.WriteFault of, inl h))
    recorded_cut t (Err stop.NoMemory) h of = inr (inr (inr (stop_is failed status stop.NoMemory of)))
    recorded_cut t (Err s) h of = absurd h

  -- a review
  module _ (policy : List ℕ) (captures : List (List ℕ)) (log : List ℕ) (known : TellsPolicy (before.files.content policy)) where
    remarks_whole : (why : Denial) → Remarks policy captures before why → AllWhole before.files.content captures
    remarks_whole (denial.Remarks counts) o = let has = o.3.recorded in all_whole before.files.content captures has.records has.have
    remarks_whole _ o = absurd o

    review_whole : (d : Done) → DoesReview policy captures log before after d → AllWhole before.files.content captures
    review_whole (done.Reviewed counts) m =
        let h : HoldsReview policy captures log before after = m.0.holds in
        let has = h.has.recorded in all_whole before.files.content captures has.records has.have
    review_whole d m = absurd m

    review_by : (r : Result Done Stop) → Meets (Review policy captures log) before after r → RecordedBy (Review policy captures log) captures r
    review_by (Ok d) meets = review_whole d meets
    review_by (Err (stop.CaptureRefused r)) meets = meets.0.0
    review_by (Err (stop.CaptureCut place)) meets = meets.0.0
    review_by (Err stop.ReadFault) meets = meets.0
    review_by (Err stop.WriteFault) meets = meets.0.0
    review_by (Err stop.NoMemory) meets = tt
    review_by (Err (stop.PolicyRefused r)) meets =
        absurd (known_unrefused (Review policy captures log) before policy known.bytes known.policy r refl known.told known.means (λ second e. cc e) meets.0)
    review_by (Err stop.UnknownAsset) meets = let none = meets.0.3 in cc
    review_by (Err (stop.Denied why)) meets = remarks_whole why meets.0.0
    review_by (Err _) meets = absurd meets.0.0

  -- what is drafted
  module _ (policy out : List ℕ) (captures : List (List ℕ)) (known : TellsPolicy (before.files.content policy)) where
    draft_by : (r : Result Done Stop) → Meets (Draft policy out captures) before after r → RecordedBy (Draft policy out captures) captures r
    draft_by (Ok d) meets = let has = meets.holds.drafts.has_read.is_read.recorded in all_whole before.files.content captures has.records has.have
    draft_by (Err (stop.CaptureRefused r)) meets = meets.0.0
    draft_by (Err (stop.CaptureCut place)) meets = meets.0.0
    draft_by (Err stop.ReadFault) meets = meets.0
    draft_by (Err stop.WriteFault) meets = meets.0.0
    draft_by (Err stop.NoMemory) meets = tt
    draft_by (Err (stop.PolicyRefused r)) meets =
        absurd (known_unrefused (Draft policy out captures) before policy known.bytes known.policy r refl known.told known.means (λ second e. cc e) meets.0)
    draft_by (Err stop.UnknownAsset) meets = let none = meets.0.3 in cc
    draft_by (Err (stop.TooManyRules name)) meets = let has = meets.0.0.2.is_read.recorded in all_whole before.files.content captures has.records has.have
    draft_by (Err _) meets = absurd meets.0.0

  -- ---- a line a command that reads a capture

  pub capture_from : (c : Command) → TellsRefusedCapture c before → (r : Result Done Stop) → Meets c before after r → IsOf r failed status → DueBehind c 6
  capture_from (Packets capture) t r meets h =
      refused_due (Packets capture) (EndsAt HasListedRecords (holds t.bytes)) (Refuses HasListedRecords (holds t.bytes)) (ends_refused set.Plain HasListedRecords t.bytes (listing_once set.Plain t.bytes)) (listing_apart set.Plain t.bytes)
      t.refusal t.refuses.0 r (listing_by capture t.bytes t.told r meets) h
  capture_from (Run policy names) (known, t) r meets h =
      refused_due (Run policy names) (EndsAt HasRunRecords (holds t.bytes)) (Refuses HasRunRecords (holds t.bytes)) (ends_refused set.Plain HasRunRecords t.bytes (run_once t.bytes)) (run_apart t.bytes)
      t.refusal t.refuses r (run_by policy names known t.bytes t.told r meets) h
  capture_from (Judge policy capture) (known, t) r meets h =
      watched_refused (Judge policy capture) policy capture known t.bytes t.told t.refusal t.refuses r (judge_by policy capture known t.bytes t.told r meets) h
  capture_from (Draft policy out captures) (known, t) r meets h = recorded_refused (Draft policy out captures) captures t r (draft_by policy out captures known r meets) h
  capture_from (Review policy captures log) (known, t) r meets h = recorded_refused (Review policy captures log) captures t r (review_by policy captures log known r meets) h
  capture_from (Learn policy capture out) (known, t) r meets h =
      watched_refused (Learn policy capture out) policy capture known t.bytes t.told t.refusal t.refuses r (learn_by policy capture known t.bytes t.told out r meets) h
  capture_from c t r meets h = absurd t

  pub capture_cut_from : (c : Command) → TellsCutCapture c before → (r : Result Done Stop) → Meets c before after r → IsOf r failed status → DueBehind c 7
  capture_cut_from (Packets capture) t r meets h =
      cut_due (Packets capture) (EndsAt HasListedRecords (holds t.bytes)) (Refuses HasListedRecords (holds t.bytes)) (ends_refused set.Plain HasListedRecords t.bytes (listing_once set.Plain t.bytes)) (listing_apart set.Plain t.bytes)
      t.place t.cuts r (listing_by capture t.bytes t.told r meets) h
  capture_cut_from (Run policy names) (known, t) r meets h =
      cut_due (Run policy names) (EndsAt HasRunRecords (holds t.bytes)) (Refuses HasRunRecords (holds t.bytes)) (ends_refused set.Plain HasRunRecords t.bytes (run_once t.bytes)) (run_apart t.bytes)
      t.place t.cuts r (run_by policy names known t.bytes t.told r meets) h
  capture_cut_from (Judge policy capture) (known, t) r meets h =
      watched_cut (Judge policy capture) policy capture known t.bytes t.told t.place t.cuts r (judge_by policy capture known t.bytes t.told r meets) h
  capture_cut_from (Draft policy out captures) (known, t) r meets h = recorded_cut (Draft policy out captures) captures t r (draft_by policy out captures known r meets) h
  capture_cut_from (Review policy captures log) (known, t) r meets h = recorded_cut (Review policy captures log) captures t r (review_by policy captures log known r meets) h
  capture_cut_from (Learn policy capture out) (known, t) r meets h =
      watched_cut (Learn policy capture out) policy capture known t.bytes t.told t.place t.cuts r (learn_by policy capture known t.bytes t.told out r meets) h
  capture_cut_from c t r meets h = absurd t
