-- Where all is in form and nothing fails, the work is done.
use Rattle.std.proofs.lemmas.Option.{get_or_from_slice_get, slice_get_within}
use Rattle.std.proofs.Common.{◌≤◌, length, arith, ◌≡◌, ◌⊎◌, ℕ, List, [], ◌∷◌, All, Some, Result, Ok, Err, drop, refl, sym, subst, ◌∙◌, ap, inl, inr}
use Rattle.cf_outside.specs.Files.{Content, holds, IsWhole}
use Rattle.cf_records.proofs.RecordLists.{one_list, one_timed_list}
use Rattle.cf_records.specs.Capture.{AreRecords, AtPlace, Clock, Cut, FileEnd, Large, LastPlace, Record, Refused, TooLong}
use Rattle.cf_records.specs.Form.{first_place, form_in}
use Rattle.cf_view.specs.declared.LinkSet.{LinkSet}
use Rattle.cf_view.specs.declared.LinkSet.TheVariants as set
use Rattle.cf_records.specs.Moments.{AreTimed, first_moment}
use Rattle.cf_records.specs.declared.BlockRefusal.TheVariants as block
use Rattle.cf_records.specs.declared.Form.{Form}
use Rattle.cf_records.specs.declared.FormRefusal.{FormRefusal}
use Rattle.cf_records.specs.declared.FormRefusal.TheVariants as form
use Rattle.cf_compare.specs.Outcome.{HasNothing, StopsAt}
use Rattle.cf_policy.specs.declared.Asset.{Asset}
use Rattle.cf_policy.specs.declared.Policy.{Policy}
use Rattle.cf_policylang.specs.Documents.{policy_meaning}
use Rattle.cf_policylang.specs.declared.PolicyRefusal.{PolicyRefusal}
use Rattle.cf_run.specs.RunCapture.{HasRunRecords}
use Rattle.cf_ending.specs.Captures.{EndsAt, EndsIn, Refuses, RefusesIn}
use Rattle.cf_words.specs.Command.{Command, Compare, Draft, Judge, Packets, Review, Run, World, asset_name, capture_file, other_file, policy_file, recording_files, Learn}
use Rattle.cf_box.specs.Compare.{ExceedsAt, IsNotIncluded}
use Rattle.cf_box.specs.Ends.{CutsCapture, CutsRun, CutsStream, Denies, EndsIdle, ExceedsCells, ExceedsRules, LacksAsset, LinkFails, Meets, RefusesCapture, RefusesMadePolicy, RefusesPolicy}
use Rattle.cf_ending.specs.Outside.{Outside, ReadFailed, WriteFailed}
use Rattle.cf_box.specs.Packets.{HasListedRecords}
use Rattle.cf_box.specs.PolicyFile.{HasPolicy, IsRefusedBy, asset_named}
use Rattle.cf_box.specs.Run.{RunCuts, RunRefuses}
use Rattle.cf_watch.specs.declared.fault.TheConstants.{CAPTURE_LIMIT}
use Rattle.cf_box.specs.InForm.{HasRecordsIn, HasRecordsToItsEnd, HasTimedRecords, TellsAll}
use Rattle.cf_box.specs.Recording.{CapturesCut, CapturesRefuse}
use Rattle.cf_box.specs.Watching.{ReviewCuts, ReviewRefuses, WatchCuts, WatchRefuses}
use Rattle.cf_box.specs.Status.{EndsWell, HasInput, HoldsWhatItAsks, NothingFails, TellsMade}
use Rattle.cf_ending.specs.declared.Denial.{Denial}
use Rattle.cf_ending.specs.declared.Denial.TheVariants as denial
use Rattle.cf_ending.specs.declared.CaptureRefusal.{CaptureRefusal}
use Rattle.cf_ending.specs.declared.CaptureRefusal.TheVariants as refusal
use Rattle.cf_ending.specs.declared.Done.{Done}
use Rattle.cf_ending.specs.declared.Stop.{Stop}
use Rattle.cf_ending.specs.declared.Stop.TheVariants as stop
use Rattle.cf_box.proofs.CaptureStops.{listed}
use Rattle.cf_box.proofs.Statuses.{Explains, IsOf, explained, read_failed, write_failed}

-- bytes that are told have one meaning
pub not_refused : (file : Content) (bytes : List ℕ) (p : Policy) (r : PolicyRefusal) → file ≡ holds bytes → policy_meaning bytes ≡ Ok p → IsRefusedBy
    file r → ⊥
not_refused file bytes p r told means refused =
    let refuses : policy_meaning bytes ≡ Err r = subst (λ f. IsRefusedBy f r) told refused in
    cc

-- bytes that are told are read
pub same_bytes : (file : Content) (bytes read : List ℕ) → file ≡ holds bytes → IsWhole file read → read ≡ bytes
same_bytes file bytes read told whole = subst (λ f. IsWhole f read) told whole

pub same_policy : (file : Content) (bytes : List ℕ) (p q : Policy) → file ≡ holds bytes → policy_meaning bytes ≡ Ok p → HasPolicy file q → q ≡ p
same_policy file bytes p q told means has =
    let same : has.bytes ≡ bytes = same_bytes file bytes has.bytes told has.whole in
    let meaning : policy_meaning bytes ≡ Ok q = ap policy_meaning (sym same) ∙ has.means in
    cc

-- an asset that a told policy has is not lacking
pub not_lacking : (c : Command) (before : Outside) (file name bytes : List ℕ) (p : Policy) (asset : Asset) → before.files.content file ≡ holds bytes → policy_meaning bytes ≡ Ok p →
    asset_named name p ≡ Some asset → policy_file c ≡ Some file → asset_name c ≡ Some name → LacksAsset c before → ⊥
not_lacking c before file name bytes p asset told means named of_policy of_asset cause =
    let e = cause.2 in
    let f = cause.3 in
    let here : cause.0 ≡ file = cc in
    let called : cause.1 ≡ name = cc in
    let has : HasPolicy (before.files.content file) cause.4.0 = subst (λ x. HasPolicy (before.files.content x) cause.4.0) here cause.4.1 in
    let same : cause.4.0 ≡ p = same_policy (before.files.content file) bytes p cause.4.0 told means has in
    let none = cause.4.2 in
    cc

-- a policy that is told and has a meaning is not refused, where it is the command's one policy
pub known_unrefused : (c : Command) (before : Outside) (file bytes : List ℕ) (p : Policy) (r : PolicyRefusal) → policy_file c ≡ Some file → before.files.content file ≡ holds bytes →
    policy_meaning bytes ≡ Ok p → ((second : List ℕ) → other_file c ≡ Some second → ⊥) → RefusesPolicy c before r → ⊥
known_unrefused c before file bytes p r needs told means one (inl cause) =
    let e = cause.1 in
    let here : cause.0 ≡ file = cc in
    not_refused (before.files.content file) bytes p r told means (subst (λ f. IsRefusedBy (before.files.content f) r) here cause.2)
known_unrefused c before file bytes p r needs told means one (inr (inl cause)) = one cause.0 cause.2
known_unrefused c before file bytes p r needs told means one (inr (inr made)) = made_unread c before file needs made
  where
    -- a command that reads a policy file makes none for itself
    made_unread : (c : Command) (before : Outside) (file : List ℕ) → policy_file c ≡ Some file → RefusesMadePolicy c before → ⊥
    made_unread (World seed sessions policy names) before file e made = cc e
    made_unread _ before file e made = made

-- the octets of a file have one list of records, so one end
pub listing_once : (kinds : LinkSet) (bytes : List ℕ) (found other : AtPlace) (place there : ℕ) →
    EndsIn kinds HasListedRecords (holds bytes) found place → EndsIn kinds HasListedRecords (holds bytes) other there → found ≡ other
listing_once kinds bytes found other place there e g =
    let here = e.has_form in
    let also = g.has_form in
    let same : e.form ≡ g.form = cc in
    let start = first_place g.form in
    ap (λ l. l.found) (one_list g.form start (drop start bytes) e.records g.records (record { place = place; found = found }) (record { place = there; found = other })
    (subst (λ x. AreRecords x (first_place x) (drop (first_place x) bytes) e.records (record { place = place; found = found })) same e.are_records) g.are_records).1

pub run_once : (bytes : List ℕ) (found other : AtPlace) (place there : ℕ) → EndsAt HasRunRecords (holds bytes) found place → EndsAt HasRunRecords (holds bytes) other there → found ≡ other
run_once bytes found other place there e g =
    let here = e.has_form in
    let also = g.has_form in
    let same : e.form ≡ g.form = cc in
    let start = first_place g.form in
    ap (λ l. l.found) (one_timed_list g.form first_moment start (drop start bytes) e.records g.records (record { place = place; found = found }) (record { place = there; found = other })
    (subst (λ x. AreTimed x first_moment (first_place x) (drop (first_place x) bytes) e.records (record { place = place; found = found })) same e.are_records) g.are_records).1

-- what refuses a capture
abbrev pub Refusing : AtPlace → Type 0
Refusing TooLong = Unit {0}
Refusing Clock = Unit {0}
Refusing Large = Unit {0}
Refusing (Refused of) = Unit {0}
Refusing _ = ⊥

-- a capture that is refused ends in no other way
module _ (kinds : LinkSet) (Has : Content → Form → List Record → LastPlace → Type 0) (bytes : List ℕ)
    (once : (found other : AtPlace) (place there : ℕ) → EndsIn kinds Has (holds bytes) found place → EndsIn kinds Has (holds bytes) other there → found ≡ other) where
  no_form : (of : FormRefusal) (found : AtPlace) (place : ℕ) → form_in kinds bytes ≡ Err of → EndsIn kinds Has (holds bytes) found place → ⊥
  no_form of found place refused e = let here = e.has_form in cc

  ends_so : (at found : AtPlace) (place : ℕ) → (there : ℕ) × EndsIn kinds Has (holds bytes) at there → EndsIn kinds Has (holds bytes) found place → Refusing at → Refusing found
  ends_so at found place h e refuses = subst Refusing (once at found h.0 place h.1 e) refuses

  pub ends_refused : (r : CaptureRefusal) → RefusesIn kinds Has (holds bytes) r → (found : AtPlace) (place : ℕ) → EndsIn kinds Has (holds bytes) found place → Refusing found
  ends_refused refusal.Short h found place e = absurd (no_form form.Short found place h e)
  ends_refused refusal.Magic h found place e = absurd (no_form form.Magic found place h e)
  ends_refused refusal.Version h found place e = absurd (no_form form.Version found place h e)
  ends_refused refusal.LinkType h found place e = absurd (no_form form.LinkType found place h e)
  ends_refused refusal.Long h found place e = absurd h
  ends_refused refusal.Section (inl h) found place e = absurd (no_form form.Section found place h e)
  ends_refused refusal.Section (inr h) found place e = ends_so (Refused block.Section) found place h e tt
  ends_refused _ h found place e = ends_so _ found place h e tt

-- so one whose header is read and whose records end with the file is not refused, nor cut
listing_end : (kinds : LinkSet) (bytes : List ℕ) (has : HasRecordsIn kinds bytes) → EndsIn kinds HasListedRecords (holds bytes) FileEnd has.2.1
listing_end kinds bytes has = record { form = has.0; has_form = has.1; records = has.2.0; are_records = has.2.2 }

run_end : (bytes : List ℕ) (has : HasTimedRecords bytes) → EndsAt HasRunRecords (holds bytes) FileEnd has.2.1
run_end bytes has = record { form = has.0; has_form = has.1; records = has.2.0; are_records = has.2.2 }

pub listing_unrefused : (kinds : LinkSet) (bytes : List ℕ) → HasRecordsIn kinds bytes → (r : CaptureRefusal) → RefusesIn kinds HasListedRecords (holds bytes) r → ⊥
listing_unrefused kinds bytes has r h = ends_refused kinds HasListedRecords bytes (listing_once kinds bytes) r h FileEnd has.2.1 (listing_end kinds bytes has)

pub listing_uncut : (kinds : LinkSet) (bytes : List ℕ) → HasRecordsIn kinds bytes → (place : ℕ) → EndsIn kinds HasListedRecords (holds bytes) Cut place → ⊥
listing_uncut kinds bytes has place h = cc (listing_once kinds bytes Cut FileEnd place has.2.1 h (listing_end kinds bytes has))

pub not_refused_run : (bytes : List ℕ) → HasTimedRecords bytes → (r : CaptureRefusal) → RunRefuses (holds bytes) r → ⊥
not_refused_run bytes has r h = ends_refused set.Plain HasRunRecords bytes (run_once bytes) r h FileEnd has.2.1 (run_end bytes has)

pub not_cut_run : (bytes : List ℕ) → HasTimedRecords bytes → (place : ℕ) → RunCuts (holds bytes) place → ⊥
not_cut_run bytes has place h = cc (run_once bytes Cut FileEnd place has.2.1 h (run_end bytes has))

-- a watched capture that is not too long
pub not_refused_watch : (bytes : List ℕ) → HasRecordsToItsEnd bytes × (length bytes ≤ CAPTURE_LIMIT) → (file : Content) → file ≡ holds bytes → (r : CaptureRefusal) → WatchRefuses file r → ⊥
not_refused_watch bytes has file told r h = by (subst (λ f. WatchRefuses f r) told h)
  where
    by : WatchRefuses (holds bytes) r → ⊥
    by (inl (is, long)) = omega (arith, has.1, long)
    by (inr s) = listing_unrefused set.Plain bytes has.0 r s.refuses.0

pub not_cut_watch : (bytes : List ℕ) → HasRecordsToItsEnd bytes × (length bytes ≤ CAPTURE_LIMIT) → (file : Content) → file ≡ holds bytes → (place : ℕ) → WatchCuts file place → ⊥
not_cut_watch bytes has file told place h = listing_uncut set.Plain bytes has.0 place (listed set.Plain (holds bytes) Cut place (subst (λ f. WatchCuts f place) told h))

-- captures of a recording that are told and in form are neither
pub not_refused_all : (content : List ℕ → Content) (captures : List (List ℕ)) → TellsAll content captures → (r : CaptureRefusal) → CapturesRefuse content captures r → ⊥
not_refused_all content [] all r none = none
not_refused_all content (capture ∷ captures) ((bytes, told, has), rest) r (inl h) = listing_unrefused set.Recorded bytes has r (subst (λ f. ReviewRefuses f r) told h).0
not_refused_all content (capture ∷ captures) (here, rest) r (inr later) = not_refused_all content captures rest r later.1

pub not_cut_all : (content : List ℕ → Content) (captures : List (List ℕ)) → TellsAll content captures → (place : ℕ) → CapturesCut content captures place → ⊥
not_cut_all content [] all place none = none
not_cut_all content (capture ∷ captures) ((bytes, told, has), rest) place (inl h) = listing_uncut set.Recorded bytes has place (subst (λ f. ReviewCuts f place) told h)
not_cut_all content (capture ∷ captures) (here, rest) place (inr later) = not_cut_all content captures rest place later.1

abbrev pub IsInForm : Command → Outside → Type 0
IsInForm c before = (file : List ℕ) → capture_file c ≡ Some file → (bytes : List ℕ) × (before.files.content file ≡ holds bytes) × EndsWell c bytes

-- so no command's capture in form is refused, nor cut, nor is its run: a line a command
pub record EndsInForm (c : Command) (before : Outside) : Type 0 where
  pub refused : (r : CaptureRefusal) → RefusesCapture c before r → ⊥
  pub cut : (place : ℕ) → CutsCapture c before place → ⊥
  pub run_cut : (place : ℕ) → CutsRun c before place → ⊥

pub ends_in_form : (c : Command) (before : Outside) → IsInForm c before → TellsMade c before → TellsAll before.files.content (recording_files c) → EndsInForm c before
ends_in_form (Packets capture) before good tells all =
    let (bytes, told, has) = good capture refl in
    record {
      refused = λ r h. listing_unrefused set.Plain bytes has r (subst (λ f. Refuses HasListedRecords f r) told h.0);
      cut = λ place h. listing_uncut set.Plain bytes has place (subst (λ f. EndsAt HasListedRecords f Cut place) told h);
      run_cut = λ place h. h;
    }
ends_in_form (Run policy names) before good tells all =
    let (bytes, told, has) = good names.capture refl in
    let uncut : (place : ℕ) → RunCuts (before.files.content names.capture) place → ⊥ = λ place h. not_cut_run bytes has place (subst (λ f. RunCuts f place) told h) in
    record { refused = λ r h. not_refused_run bytes has r (subst (λ f. RunRefuses f r) told h); cut = uncut; run_cut = uncut }
ends_in_form (Judge policy capture) before good tells all =
    let (bytes, told, has) = good capture refl in
    record { refused = not_refused_watch bytes has _ told; cut = not_cut_watch bytes has _ told; run_cut = λ place h. h }
ends_in_form (Learn policy capture out) before good tells all =
    let (bytes, told, has) = good capture refl in
    record { refused = not_refused_watch bytes has _ told; cut = not_cut_watch bytes has _ told; run_cut = λ place h. h }
ends_in_form (Draft policy out captures) before good tells all = record {
  refused = not_refused_all before.files.content captures all;
  cut = not_cut_all before.files.content captures all;
  run_cut = λ place h. h;
}
ends_in_form (Review policy captures log) before good tells all = record {
  refused = not_refused_all before.files.content captures all;
  cut = not_cut_all before.files.content captures all;
  run_cut = λ place h. h;
}
ends_in_form (World seed sessions policy names) before good tells all = record { refused = λ r h. tells.1 h; cut = λ place h. tells.1 h; run_cut = λ place h. tells.1 h }
ends_in_form _ before good tells all = record { refused = λ r h. h; cut = λ place h. h; run_cut = λ place h. h }

-- nor is a policy that has a meaning, or that the command made
made_none : (c : Command) (before : Outside) → TellsMade c before → RefusesMadePolicy c before → ⊥
made_none (World seed sessions policy names) before tells made = tells.0 made
made_none _ before tells made = made

refusal_none : (c : Command) (before middle : Outside) (r : PolicyRefusal) → HasInput c before middle → RefusesPolicy c before r → ⊥
refusal_none c before middle r input (inl cause) =
    let here = input.policy cause.0 cause.1 in
    not_refused (before.files.content cause.0) here.0 here.2.0 r here.1 here.2.1 cause.2
refusal_none c before middle r input (inr (inl cause)) =
    let here = input.other cause.0 cause.2 in
    not_refused (before.files.content cause.0) here.0 here.2.0 r here.1 here.2.1 cause.4.2
refusal_none c before middle r input (inr (inr made)) = made_none c before input.made made

-- an asset of which nothing stands against inclusion stops no comparison
stops_nowhere : (ours theirs : Policy) (place : ℕ) (reason : Asset → Type 0) → All (HasNothing theirs) ours.assets → StopsAt ours theirs place reason →
    ((asset : Asset) → HasNothing theirs asset → reason asset → ⊥) → ⊥
stops_nowhere ours theirs place reason all s lacks =
    lacks s.asset (subst (HasNothing theirs) (get_or_from_slice_get ours.assets place s.asset s.asset s.here)
    (all place s.asset (slice_get_within ours.assets place s.asset s.here))) s.stops

not_denied : (ours theirs : Policy) → All (HasNothing theirs) ours.assets → (why : Denial) → IsNotIncluded ours theirs why → ⊥
not_denied ours theirs all (denial.NoPartner name) d = stops_nowhere ours theirs d.0 _ all d.1 (λ asset none s. none.partner s.1)
not_denied ours theirs all (denial.Allows name client act) d = stops_nowhere ours theirs d.0 _ all d.1 (λ asset none s. none.difference client act s.1)
not_denied ours theirs all _ d = d

not_exceeding : (ours theirs : Policy) (name : List ℕ) → All (HasNothing theirs) ours.assets → ExceedsAt ours theirs name → ⊥
not_exceeding ours theirs name all d = stops_nowhere ours theirs d.0 _ all d.1 (λ asset none s. none.cells s.1)

-- what is asked and is so is not denied, and is not too much: a line a command that asks
asked_holds : (c : Command) (before : Outside) (why : Denial) → HoldsWhatItAsks c before → Denies c before why → ⊥
asked_holds (Compare policy other) before why asked d = not_denied d.0 d.1 (asked d.0 d.1 d.2) why d.3
asked_holds (Judge policy capture) before why asked d = asked why d
asked_holds (Review policy captures log) before why asked d = asked why d
asked_holds c before why asked d = absurd d

asked_is_small : (c : Command) (before : Outside) (name : List ℕ) → HoldsWhatItAsks c before → ExceedsCells c before name → ⊥
asked_is_small (Compare policy other) before name asked d = not_exceeding d.0 d.1 name (asked d.0 d.1 d.2) d.3
asked_is_small c before name asked d = absurd d

asked_is_room : (c : Command) (before : Outside) (name : List ℕ) → HoldsWhatItAsks c before → ExceedsRules c before name → ⊥
asked_is_room (Draft policy out captures) before name asked d = asked name d
asked_is_room (Learn policy capture out) before name asked d = asked name d
asked_is_room c before name asked d = absurd d

module _ (c : Command) (before middle : Outside) (failed : Type 0) (status : ℕ) (input : HasInput c before middle)
    (reads : ReadFailed c before middle → ⊥) (writes : WriteFailed before middle → ⊥) (links : LinkFails c before middle.pair → ⊥) (puts : failed → ⊥) where
  in_form : EndsInForm c before
  in_form = ends_in_form c before input.capture input.made input.recording

  is_complete : (r : Result Done Stop) → Meets c before middle r → IsOf r failed status → (status ≡ 0) ⊎ (status ≡ 13)
  is_complete (Ok d) meets (inl h) = inl h
  is_complete (Ok d) meets (inr h) = absurd (puts h.1)
  is_complete (Err stop.NoMemory) meets (inl h) = inr h
  is_complete (Err stop.NoMemory) meets (inr h) = inr h.0
  is_complete (Err stop.ReadFault) meets h = absurd (reads meets.0)
  is_complete (Err stop.WriteFault) meets h = absurd (writes meets.0.0)
  is_complete (Err (stop.PolicyRefused r)) meets h =
      absurd (refusal_none c before middle r input meets.0)
  is_complete (Err stop.UnknownAsset) meets h =
      let cause : LacksAsset c before = meets.0 in
      let here = input.policy cause.0 cause.2 in
      let found = here.2.2 cause.1 cause.3 in
      absurd (not_lacking c before cause.0 cause.1 here.0 here.2.0 found.0 here.1 here.2.1 found.1 cause.2 cause.3 cause)
  is_complete (Err (stop.CaptureRefused r)) meets h = absurd (in_form.refused r meets.0.0)
  is_complete (Err (stop.CaptureCut place)) meets h = absurd (in_form.cut place meets.0.0)
  is_complete (Err (stop.RunCut place summary)) meets h = absurd (in_form.run_cut place meets.0.0)
  is_complete (Err stop.LinkFault) meets h = absurd (links meets.0.0)
  is_complete (Err stop.IdleEnd) meets h = absurd (input.idle meets.0.0)
  is_complete (Err (stop.Cut reason)) meets h = absurd (input.stream reason meets.0.0)
  is_complete (Err (stop.Denied why)) meets h = absurd (asked_holds c before why input.holds meets.0.0)
  is_complete (Err (stop.TooManyRules name)) meets h = absurd (asked_is_room c before name.bytes input.holds meets.0.0)
  is_complete (Err (stop.TooManyCells name)) meets h = absurd (asked_is_small c before name.bytes input.holds meets.0.0)

-- what the pair gives is the same at the answer and at the end
at_answer : (c : Command) (before middle after : Outside) → after.pair ≡ middle.pair → HasInput c before after → HasInput c before middle
at_answer c before middle after same input = record {
  policy = input.policy;
  capture = input.capture;
  recording = input.recording;
  stream = λ reason cut. input.stream reason (subst (λ p. CutsStream c before p reason) (sym same) cut);
  idle = λ ends. input.idle (subst (λ p. EndsIdle c before p) (sym same) ends);
  made = input.made;
  other = input.other;
  holds = input.holds;
}

pub complete_told : {c : Command} {before after : Outside} {status : ℕ} (e : Explains c before after status) → HasInput c before after → NothingFails c
    before after →
    (status ≡ 0) ⊎ (status ≡ 13)
complete_told {c = c} {before = before} {after = after} e input fails =
    is_complete c before e.middle _ _ (at_answer c before e.middle after e.reports.pair input) (λ rose. fails.reads (read_failed e rose)) (λ rose. fails.writes (write_failed e (inl rose)))
    (λ rose. fails.links (subst (λ p. LinkFails c before p) (sym e.reports.pair) rose))
    (λ rose. fails.writes (write_failed e (inr rose))) e.r e.meets (explained e)
