-- The records of a capture that were taken so far, behind those of the captures before.
use Rattle.std.proofs.Common.{◌≡◌, ◌≤◌, ℕ, All, List, [], ◌∷◌, ◌++◌, ◌∙◌, ◌^◌, ap, map, reverse, Result, Ok, Err, refl, vec_items, sym, subst, arith}
use Rattle.std.specs.List.{AllByRecursion}
use Rattle.std.proofs.lemmas.List.{reverse-append, reverse-reverse}
use Rattle.std.proofs.lemmas.List.Elements.{All-from_recursion}
use Rattle.std.proofs.lemmas.Result.{IfOk-weaker}
use Rattle.std.specs.Prelude.{IfOk}
use Rattle.cf_outside.specs.Files.{Content, IsAtEnd}
use Rattle.cf_policy.specs.declared.Asset.{Asset}
use Rattle.cf_records.proofs.Behind.{StandsBehind}
use Rattle.cf_records.specs.Capture.{AtPlace, FileEnd, IsLast, Large, Record}
use Rattle.cf_records.specs.Form.{first_place}
use Rattle.cf_records.specs.Reader.{FindsRecord, HasFormIn, ReaderValue}
use Rattle.cf_records.specs.declared.Form.{Form}
use Rattle.cf_records.specs.declared.NextRecord.TheVariants as next
use Rattle.cf_view.specs.declared.LinkSet.TheVariants as set
use Rattle.cf_watch.specs.Flow.{AreFlowsOf}
use Rattle.cf_watch.specs.FlowValue.{AreStretchesFor, IsForAsset, StretchValue, flow_value, stretch_value}
use Rattle.cf_watch.specs.Recorded.{IsCaptureIn, IsReadTo, IsRecordingOf, StopsAs, large_by}
use Rattle.cf_watch.specs.Recorder.{HasRecorded, IsRecorderFor, IsRecorderOf}
use Rattle.cf_watch.specs.Trail.{IsWatchOf, all_kept}
use Rattle.cf_watch.specs.Seen.{seen_by}
use Rattle.cf_watch.specs.Stretches.{all_stretches}
use Rattle.cf_watch.specs.Watch.{HasFlows, kinds_by}
use Rattle.cf_watch.specs.Watched.{Watched}
use Rattle.cf_watch.specs.declared.fault.TheConstants.{CAPTURE_LIMIT}
use Rattle.cf_watch.specs.declared.fault.WatchFault.TheVariants as fault
use Rattle.cf_watch.specs.declared.recorder.Recorder.{Recorder}
use Rattle.cf_watch.specs.declared.scope.Scope.{Scope}
use Rattle.cf_watch.specs.declared.scope.Scope.TheVariants as scope
use Rattle.cf_watch.specs.declared.flow.Recording.{Recording}
use Rattle.cf_watch.proofs.AllKept.{are_flows, values_kept}
use Rattle.cf_watch.proofs.ForAssets.{are_for_seen}
use Rattle.cf_watch.proofs.Seen.{watched_is_seen}
use Rattle.cf_watch.proofs.StretchFlows.{stretches_are_for}
use Rattle.cf_watch.proofs.Lengths.{large_is_long}
use Rattle.cf_watch.proofs.Leading.{Leads, leads_first, leads_on, leads_to}

-- ---- records, one after the other

-- these records of a file stand in front of a reader's place, the newest first, and were taken behind those before by one of whom P says what it
-- has heard
pub record SoFar {H : Type 0} (P : List Record → H → Type 0) (by : Scope) (file : Content) (start : Form) (reader : ReaderValue) (old now : H) : Type 0 where
  pub has_form : HasFormIn (kinds_by by) file (Ok start)
  pub newest : List Record
  pub leads : Leads file start reader.form reader.place (reverse newest)
  pub more : (earlier : List Record) → P earlier old → P (newest ++ earlier) now

pub so_far_first : {H : Type 0} (P : List Record → H → Type 0) (by : Scope) (file : Content) (reader : ReaderValue) (old : H) → HasFormIn (kinds_by by) file (Ok reader.form) →
    reader.place ≡ first_place reader.form → SoFar P by file reader.form reader old old
so_far_first P by file reader old h first = record {
  has_form = h;
  newest = [];
  leads = subst (λ n. Leads file reader.form reader.form n []) (sym first) (leads_first (kinds_by by) file reader.form h);
  more = λ earlier is. is;
}

module _ {H : Type 0} {P : List Record → H → Type 0} {by : Scope} {file : Content} {start : Form} {reader : ReaderValue} {old now : H} (so : SoFar P by file start reader old now) where
  -- one more
  pub so_far_on : (new_reader : ReaderValue) (stamp : ℕ) (new : H) → FindsRecord file reader new_reader (next.Whole stamp) →
      ((newest : List Record) → P newest now → P (record { stamp = stamp; link = new_reader.link; body = new_reader.body } ∷ newest) new) →
      SoFar P by file start new_reader old new
  so_far_on new_reader stamp new found takes =
      let r : Record = record { stamp = stamp; link = new_reader.link; body = new_reader.body } in
      record {
        has_form = so.has_form;
        newest = r ∷ so.newest;
        leads = subst (Leads file start new_reader.form new_reader.place) (sym (reverse-append (r ∷ []) so.newest)) (leads_on file start reader new_reader stamp (reverse so.newest) so.leads found);
        more = λ earlier is. takes (so.newest ++ earlier) (so.more earlier is);
      }

  -- the records end here
  pub read_to : (place : ℕ) (found : AtPlace) → StandsBehind file reader place found → IsLast found → IsReadTo (kinds_by by) file found place
  read_to place found stands is = record {
    form = start;
    has_form = so.has_form;
    records = reverse so.newest;
    are_records = leads_to file start reader place (reverse so.newest) found so.leads stands is;
  }

  -- with the file
  pub is_capture : (place : ℕ) → StandsBehind file reader place FileEnd → IsCaptureIn (kinds_by by) file (reverse so.newest)
  is_capture place stands = record {
    form = start;
    has_form = so.has_form;
    place = place;
    are_records = leads_to file start reader place (reverse so.newest) FileEnd so.leads stands tt;
  }

module _ {H : Type 0} {P : List Record → H → Type 0} {file : Content} {start : Form} {reader : ReaderValue} {old now : H} where
  -- they end below an octet at place 2^40
  pub large_stops : {by : Scope} (so : SoFar P by file start reader old now) (place : ℕ) → StandsBehind file reader place Large → place ≤ 2 ^ 40 →
      StopsAs by file (fault.Refused (large_by by))
  large_stops {by = scope.Connections} so place stands near = (refl, large_is_long file reader place CAPTURE_LIMIT stands near (omega arith))
  large_stops {by = scope.Recording} so place stands near = (refl, (place, read_to so place Large stands tt))

-- ---- the flows of what was taken

module _ (by : Scope) (assets : List Asset) (newest : List Record) (r : Recorder) (is : IsRecorderFor by assets newest r) where
  pub flows_now : AreFlowsOf (seen_by by assets newest) (map flow_value r.watch.flows.items)
  flows_now = subst (AreFlowsOf (seen_by by assets newest)) (values_kept r.watch.flows.items)
      (are_flows by r.count r.watch (seen_by by assets newest) (all_kept r.watch.flows.items) is.heard)

  flows_for : AllByRecursion (IsForAsset assets) (map flow_value r.watch.flows.items)
  flows_for = are_for_seen by assets newest (map flow_value r.watch.flows.items) flows_now

  pub for_assets : All (IsForAsset assets) (map flow_value r.watch.flows.items)
  for_assets = All-from_recursion (IsForAsset assets) (map flow_value r.watch.flows.items) flows_for

  pub for_assets_too : (stretches : List StretchValue) → stretches ≡ all_stretches (seen_by by assets newest) (map flow_value r.watch.flows.items) → AreStretchesFor assets stretches
  for_assets_too stretches same =
      subst (AreStretchesFor assets) (sym same) (stretches_are_for assets (seen_by by assets newest) (map flow_value r.watch.flows.items) flows_for)

-- those of a recording
pub is_recording : (assets : List Asset) (records : List Record) (r : Recorder) (stretches : List StretchValue) → IsRecorderOf assets records r →
    stretches ≡ all_stretches (seen_by scope.Recording assets (reverse records)) (map flow_value r.watch.flows.items) →
    IsRecordingOf assets records (map flow_value r.watch.flows.items) stretches r.stamps.items
is_recording assets records r stretches is others = record {
  are_flows = flows_now scope.Recording assets (reverse records) r is;
  are_stretches = others;
  are_stamps = is.stamped refl ∙ ap (map (λ (x : Record). x.stamp)) (reverse-reverse records);
}

-- those of connections
pub has_flows : (assets : List Asset) (file : Content) (newest : List Record) (r : Recorder) → IsAtEnd file CAPTURE_LIMIT → IsCaptureIn set.Plain file (reverse newest) →
    IsRecorderFor scope.Connections assets newest r → HasFlows assets file (map flow_value r.watch.flows.items)
has_flows assets file newest r short capture is = record {
  newest = newest;
  place = capture.place;
  ends = record { short = short; form = capture.form; has_form = capture.has_form; records = reverse newest; are_records = capture.are_records };
  are_newest = refl;
  are_flows = subst (λ ws. AreFlowsOf ws (map flow_value r.watch.flows.items)) (sym (watched_is_seen assets newest)) (flows_now scope.Connections assets newest r is);
}

-- what is made of all that was kept
module _ {E : Type 0} (self : Recorder) (r : Result Recording E) where
  abbrev KeepsStretches : Recording → Type 0
  KeepsStretches x = (by : Scope) (number : ℕ) (ws : List Watched) → IsWatchOf by number self.watch ws (all_kept self.watch.flows.items) →
      map stretch_value x.stretches.items ≡ all_stretches ws (map flow_value self.watch.flows.items)

  pub finished : IfOk r (λ x. x.flows ≡ self.watch.flows) → IfOk r (λ x. x.stamps ≡ self.stamps) → IfOk r KeepsStretches →
      IfOk r (λ x. (assets : List Asset) (records : List Record) → IsRecorderOf assets records self → IsRecordingOf assets records (map flow_value x.flows.items) (map stretch_value x.stretches.items) x.stamps.items)
  finished flows stamps others = made r flows stamps others
    where
      made : (r : Result Recording E) → IfOk r (λ x. x.flows ≡ self.watch.flows) → IfOk r (λ x. x.stamps ≡ self.stamps) → IfOk r KeepsStretches →
          IfOk r (λ x. (assets : List Asset) (records : List Record) → IsRecorderOf assets records self → IsRecordingOf assets records (map flow_value x.flows.items) (map stretch_value x.stretches.items) x.stamps.items)
      made (Ok x) flows stamps others = λ assets records is.
          subst (λ fs. IsRecordingOf assets records fs (map stretch_value x.stretches.items) x.stamps.items) (ap (λ fs. map flow_value (vec_items fs)) (sym flows))
          (subst (λ ss. IsRecordingOf assets records (map flow_value self.watch.flows.items) (map stretch_value x.stretches.items) ss) (ap (λ ss. vec_items ss) (sym stamps))
          (is_recording assets records self (map stretch_value x.stretches.items) is (others scope.Recording self.count (seen_by scope.Recording assets (reverse records)) is.heard)))
      made (Err e) flows stamps others = flows

  pub finished_for : IfOk r (λ x. x.flows ≡ self.watch.flows) → IfOk r (λ x. (assets : List Asset) → HasRecorded assets self → All (IsForAsset assets) (map flow_value x.flows.items))
  finished_for flows = IfOk-weaker r (λ x. x.flows ≡ self.watch.flows) (λ x. (assets : List Asset) → HasRecorded assets self → All (IsForAsset assets) (map flow_value x.flows.items))
      (λ x same assets has.
      subst (All (IsForAsset assets)) (ap (λ fs. map flow_value (vec_items fs)) (sym same)) (for_assets scope.Recording assets (reverse has.0) self has.1)) flows

  pub finished_for_too : IfOk r KeepsStretches → IfOk r (λ x. (assets : List Asset) → HasRecorded assets self → AreStretchesFor assets (map stretch_value x.stretches.items))
  finished_for_too others = IfOk-weaker r KeepsStretches (λ x. (assets : List Asset) → HasRecorded assets self → AreStretchesFor assets (map stretch_value x.stretches.items))
      (λ x keeps assets has.
      for_assets_too scope.Recording assets (reverse has.0) self has.1 (map stretch_value x.stretches.items) (keeps scope.Recording self.count (seen_by scope.Recording assets (reverse has.0)) has.1.heard)) others
