-- The judgement of a told policy and a told capture is one, and what the status of a judge tells of it.
use Rattle.std.proofs.Common.{◌≡◌, ℕ, List, None, Some, Result, Ok, Err, drop, reverse, slice_get, refl, sym, subst, ◌∙◌, ap, inl, inr}
use Rattle.std.proofs.lemmas.List.{reverse-reverse}
use Rattle.cf_judge.specs.Objections.{IsJudgementOf}
use Rattle.cf_judge.specs.declared.Judged.{Judged as Judgement}
use Rattle.cf_outside.specs.Files.{Content, holds}
use Rattle.cf_policy.specs.declared.Policy.{Policy}
use Rattle.cf_records.proofs.RecordLists.{one_list}
use Rattle.cf_records.specs.Capture.{AreRecords, FileEnd, Record}
use Rattle.cf_records.specs.Form.{first_place, form_in}
use Rattle.cf_records.specs.Reader.{HasFormIn}
use Rattle.cf_unobjected.specs.OneJudgement.{IsJudgementOfRecords, RecordsHaveOneJudgement}
use Rattle.cf_watch.specs.Flow.{AreFlowsOf}
use Rattle.cf_watch.specs.Watch.{EndsAt, HasRecords}
use Rattle.cf_watch.specs.Watched.{watched}
use Rattle.cf_view.specs.declared.LinkSet.TheVariants as set
use Rattle.cf_words.specs.Command.{Command, Judge}
use Rattle.cf_box.specs.Ends.{LacksAsset, Meets}
use Rattle.cf_box.specs.Judge.{HasJudgement, HasNoObjection, JudgesClean, ObjectsTo}
use Rattle.cf_box.specs.InForm.{HasRecordsToItsEnd}
use Rattle.cf_box.specs.Status.{SaysOfJudgement, TellsInForm, has_none, has_one, is_not_known}
use Rattle.cf_ending.specs.Denial.{denial_text}
use Rattle.cf_ending.specs.Ending.{Puts, Reports}
use Rattle.cf_ending.specs.Outside.{Outside, ReadFailed, SinkValue, WriteFailed}
use Rattle.cf_ending.specs.declared.Denial.TheVariants as denial
use Rattle.cf_ending.specs.declared.Done.{Done}
use Rattle.cf_ending.specs.declared.Stop.{Stop}
use Rattle.cf_ending.specs.declared.Stop.TheVariants as stop
use Rattle.cf_box.proofs.Complete.{known_unrefused, not_cut_watch, not_refused_watch, same_policy}
use Rattle.cf_box.proofs.Statuses.{Explains, IsOf, Unprinted, explained, read_failed, stop_is, write_failed}

-- the records of a told capture are these
told_records : (file : Content) (bytes : List ℕ) (has : HasRecordsToItsEnd bytes) → file ≡ holds bytes → (place : ℕ) (e : EndsAt set.Plain file FileEnd place) → e.records ≡ has.2.0
told_records file bytes has told place e =
    let here : form_in set.Plain bytes ≡ Ok e.form = subst (λ f. HasFormIn set.Plain f (Ok e.form)) told e.has_form in
    let also = has.1 in
    let same : e.form ≡ has.0 = cc in
    let records : HasRecords (holds bytes) e.form e.records (record { place = place; found = FileEnd }) =
    subst (λ f. HasRecords f e.form e.records (record { place = place; found = FileEnd })) told e.are_records in
    (one_list has.0 (first_place has.0) (drop (first_place has.0) bytes) e.records has.2.0 (record { place = place; found = FileEnd }) (record { place = has.2.1; found = FileEnd })
    (subst (λ x. AreRecords x (first_place x) (drop (first_place x) bytes) e.records (record { place = place; found = FileEnd })) same records) has.2.2).0

module _ (law : RecordsHaveOneJudgement) (policy capture : List ℕ) (before : Outside) (t : TellsInForm policy capture before) where
  same_known : (p : Policy) (j : Judgement) → HasJudgement policy capture before p j → p ≡ t.known.policy
  same_known p j h = same_policy (before.files.content policy) t.known.bytes t.known.policy p t.known.told t.known.means h.watched.has_policy

  abbrev newest : List Record
  newest = reverse t.ends.2.0

  same_newest : (p : Policy) (j : Judgement) (h : HasJudgement policy capture before p j) → h.watched.has_flows.newest ≡ newest
  same_newest p j h =
      let f = h.watched.has_flows in
      sym (reverse-reverse f.newest) ∙ ap reverse (sym f.are_newest ∙ told_records (before.files.content capture) t.bytes t.ends t.told f.place f.ends)

  -- each is the judgement of the records that the bytes have
  of_records : (p : Policy) (j : Judgement) → HasJudgement policy capture before p j → IsJudgementOfRecords t.known.policy.assets newest j
  of_records p j h = record {
    flows = h.flows;
    are_flows = subst (λ n. AreFlowsOf (watched t.known.policy.assets n) h.flows) (same_newest p j h)
        (subst (λ (q : Policy). AreFlowsOf (watched q.assets h.watched.has_flows.newest) h.flows) (same_known p j h) h.watched.has_flows.are_flows);
    judges = subst (λ (q : Policy). IsJudgementOf q.assets h.flows j) (same_known p j h) h.judges;
  }

  one_judgement : (p q : Policy) (j k : Judgement) → HasJudgement policy capture before p j → HasJudgement policy capture before q k → (q ≡ p) × (j ≡ k)
  one_judgement p q j k h g =
      (same_known q k g ∙ sym (same_known p j h), law t.known.policy.assets newest j k (of_records p j h) (of_records q k g))

  module _ (failed : Type 0) (status : ℕ) (middle after : Outside) (rise : ReadFailed (Judge policy capture) before middle → ReadFailed (Judge policy capture) before after) (wrote : failed → WriteFailed before after)
      (p : Policy) (j : Judgement) (mine : HasJudgement policy capture before p j) where
    none_of : (d : Done) → JudgesClean policy capture before middle d → j.objection ≡ None
    none_of d m =
        let no : HasNoObjection m.keeps.0 m.keeps.1 d = m.keeps.3 in
        let same = one_judgement p m.keeps.0 j no.judged mine (record { flows = m.keeps.1; watched = m.keeps.2; judges = no.judges }) in
        ap (λ (x : Judgement). x.objection) same.1 ∙ no.clean

    said_from : (r : Result Done Stop) → Meets (Judge policy capture) before middle r → Reports r middle after status → IsOf r failed status → SaysOfJudgement (Judge policy capture) p j before after status
    said_from (Ok d) m reports (inl e) = has_none (none_of d m) (inl e)
    said_from (Ok d) m reports (inr e) = has_none (none_of d m) (inr (e.0, wrote e.1))
    said_from (Err stop.ReadFault) m reports h = is_not_known (inl (stop_is failed status stop.ReadFault h, rise m.0))
    said_from (Err stop.NoMemory) m reports h = is_not_known (inr (stop_is failed status stop.NoMemory h))
    said_from (Err (stop.PolicyRefused r)) m reports h =
        absurd (known_unrefused (Judge policy capture) before policy t.known.bytes t.known.policy r refl t.known.told t.known.means (λ second e. cc e) m.0)
    said_from (Err stop.UnknownAsset) m reports h = let cause : LacksAsset (Judge policy capture) before = m.0 in absurd (cc (cause.3))
    said_from (Err stop.WriteFault) m reports h = absurd (m.1.unwritten refl)
    said_from (Err (stop.CaptureRefused r)) m reports h = absurd (not_refused_watch t.bytes (t.ends, t.short) _ t.told r m.0.0)
    said_from (Err (stop.CaptureCut place)) m reports h = absurd (not_cut_watch t.bytes (t.ends, t.short) _ t.told place m.0.0)
    said_from (Err (stop.Denied (denial.Objects tells))) m reports h =
        let cause = m.0.0 in
        let s : ObjectsTo cause.0 cause.1 tells = cause.3 in
        let same = one_judgement p cause.0 j s.judged mine (record { flows = cause.1; watched = cause.2; judges = s.judges }) in
        has_one s.objection (ap (λ (x : Judgement). x.objection) same.1 ∙ s.is) (record {
          asset = s.asset;
          here = subst (λ (q : Policy). slice_get q.assets s.objection.asset ≡ Some s.asset) same.0 s.here;
          tells = tells;
          told = s.told;
          put = subst (λ (k : SinkValue). Puts (denial_text (denial.Objects tells)) 15 15 k after.sink status) m.1.same.sink reports.prints;
        })
    said_from (Err (stop.Denied _)) m reports h = absurd m.0.0
    said_from (Err _) m reports h = absurd m.0.0

pub judgement_told : RecordsHaveOneJudgement → {c : Command} {before after : Outside} {status : ℕ} (e : Explains c before after status) → (policy capture : List ℕ) →
    c ≡ Judge policy capture → TellsInForm policy capture before → (p : Policy) (j : Judgement) → HasJudgement policy capture before p j → SaysOfJudgement c p j before after status
judgement_told law {c = c} {before = before} {after = after} {status = status} e policy capture is t p j h =
    subst (λ k. SaysOfJudgement k p j before after status) (sym is)
    (said_from law policy capture before t (Unprinted e) status e.middle after (subst (λ k. ReadFailed k before e.middle → ReadFailed k before after) is (read_failed e))
    (λ rose. write_failed e (inr rose)) p j h e.r (subst (λ k. Meets k before e.middle e.r) is e.meets) e.reports (explained e))
