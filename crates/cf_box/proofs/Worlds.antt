-- A run of a world, as the answer of `world`.
use Rattle.std.proofs.Common.{◌≡◌, ◌⊎◌, ℕ, ◌≤◌, nat_lt, true, false, List, [], ◌∷◌, ◌++◌, length, take, drop, Result, Ok, Err, refl, sym, ap, ◌∙◌, subst, arith, inl, inr}
use Rattle.std.proofs.lemmas.Bool.Decides.{nat_tests}
use Rattle.std.proofs.lemmas.List.{take-append-drop}
use Rattle.cf_outside.specs.Faults.{Rose}
use Rattle.cf_outside.specs.Files.{Content, untold}
use Rattle.cf_outside.specs.Frames.{KeepsOtherFiles}
use Rattle.cf_pcap.specs.Header.{header_of, output_header, output_octets}
use Rattle.cf_pcapng.specs.Block.{is_section}
use Rattle.cf_records.specs.Form.{form_of}
use Rattle.cf_records.specs.declared.Form.TheVariants as form
use Rattle.cf_policylang.specs.declared.PolicyRefusal.{PolicyRefusal}
use Rattle.cf_run.specs.RunCapture.{RunNamesValue}
use Rattle.cf_hosts.specs.Document.{made_policy}
use Rattle.cf_world.specs.World.{HoldsCapture, HoldsPolicy, LeavesWorld}
use Rattle.cf_words.specs.Command.{Command, Run, World}
use Rattle.cf_box.specs.Ends.{LacksAsset, Meets, PassesPolicy, RefusesPolicy, StopsFor}
use Rattle.cf_ending.specs.Outside.{Outside, RoseIn}
use Rattle.cf_box.specs.PolicyFile.{IsRefusedBy}
use Rattle.cf_box.specs.Run.{RunCuts, RunRefuses}
use Rattle.cf_box.specs.InForm.{HasTimedRecords}
use Rattle.cf_box.specs.World.{HasMade, made_names}
use Rattle.cf_words.specs.Forms.{IsFitWorld}
use Rattle.cf_ending.specs.declared.CaptureRefusal.{CaptureRefusal}
use Rattle.cf_ending.specs.declared.Done.{Done}
use Rattle.cf_ending.specs.declared.Stop.{Stop}
use Rattle.cf_ending.specs.declared.Stop.TheVariants as stop
use Rattle.cf_box.proofs.Complete.{not_cut_run, not_refused, not_refused_run}
use Rattle.cf_box.proofs.Kept.{keeps_from}

-- ---- what was made is in form where the files tell

long : (rest : List ℕ) → nat_lt (length (output_octets ++ rest)) 24 ≡ false
long rest = grind (arith, nat_tests)

header_read : (rest : List ℕ) → header_of (output_octets ++ rest) ≡ Ok output_header
header_read rest = rw (long rest) refl

some : (rest : List ℕ) → nat_lt 3 (length (output_octets ++ rest)) ≡ true
some rest = grind (arith, nat_tests)

no_section_first : (rest : List ℕ) → is_section (output_octets ++ rest) ≡ false
unfolding is_section
no_section_first rest = rw (some rest) refl

form_read : (rest : List ℕ) → form_of (output_octets ++ rest) ≡ Ok (form.Classic output_header)
form_read rest = rw (no_section_first rest, header_read rest) refl

pub form_told : (octets : List ℕ) → take 24 octets ≡ output_octets → form_of octets ≡ Ok (form.Classic output_header)
form_told octets first =
    let whole : output_octets ++ drop 24 octets ≡ octets = ap (λ (l : List ℕ). l ++ drop 24 octets) (sym first) ∙ take-append-drop 24 octets in
    subst (λ o. form_of o ≡ Ok (form.Classic output_header)) whole (form_read (drop 24 octets))

untold_policy : (old new : Content) (r : PolicyRefusal) → HoldsPolicy old new → IsRefusedBy new r → old ≡ untold
untold_policy untold new r h refused = refl
untold_policy _ new r h refused = absurd (not_refused new h.text made_policy r h.in_file h.means refused)

in_form : (sessions : ℕ) (old new : Content) (h : HoldsCapture sessions old new) → HasTimedRecords h.octets
in_form sessions old new h = (form.Classic output_header, form_told h.octets h.is_capture.header, (h.records, length h.octets, h.is_capture.timed))

untold_refused : (sessions : ℕ) (old new : Content) (r : CaptureRefusal) → HoldsCapture sessions old new → RunRefuses new r → old ≡ untold
untold_refused sessions untold new r h refused = refl
untold_refused sessions old new r h refused = absurd (not_refused_run h.octets (in_form sessions old new h) r (subst (λ f. RunRefuses f r) h.in_file refused))

untold_cut : (sessions : ℕ) (old new : Content) (place : ℕ) → HoldsCapture sessions old new → RunCuts new place → old ≡ untold
untold_cut sessions untold new place h cut = refl
untold_cut sessions old new place h cut = absurd (not_cut_run h.octets (in_form sessions old new h) place (subst (λ f. RunCuts f place) h.in_file cut))

-- ---- the answer

module _ (seed sessions : ℕ) (policy : List ℕ) (names : RunNamesValue) where
  abbrev Own : Command
  Own = World seed sessions policy names

  -- it reads no policy and no asset but its own
  pub passes_own : (before : Outside) → PassesPolicy Own before
  passes_own before = record { policy = λ file e. cc e; other = λ file e. cc e; asset = λ file name e f. cc e }

  module _ (before between after : Outside) (fit : IsFitWorld sessions policy names)
      (made : LeavesWorld sessions (made_names policy names) before.files.content between.files.content)
      (others : KeepsOtherFiles (policy ∷ names.capture ∷ []) before.files.content between.files.content)
      (reads : between.files.read_faults ≡ before.files.read_faults) (writes : before.files.write_faults ≤ between.files.write_faults)
      (sink : between.sink ≡ before.sink) (pair : between.pair ≡ before.pair) where
    has_made : KeepsOtherFiles (names.out ∷ names.log ∷ []) between.files.content after.files.content → HasMade sessions policy names before after between
    has_made kept =
        let same_policy : after.files.content policy ≡ between.files.content policy = kept policy (fit.policy_out, (fit.policy_log, tt)) in
        let same_capture : after.files.content names.capture ≡ between.files.content names.capture =
        kept names.capture (fit.apart.capture_out, (fit.apart.capture_log, tt)) in
        record {
          leaves = record {
            policy = subst (HoldsPolicy (before.files.content policy)) (sym same_policy) made.policy;
            capture = subst (HoldsCapture sessions (before.files.content names.capture)) (sym same_capture) made.capture;
          };
          same_policy = same_policy;
          same_capture = same_capture;
          others = others;
          sink = sink;
          pair = pair;
        }

    own_refused : (r : PolicyRefusal) → RefusesPolicy (Run policy names) between r → RefusesPolicy Own before r
    own_refused r (inl cause) =
        let e = cause.1 in
        let same : cause.0 ≡ policy = cc in
        inr (inr (untold_policy (before.files.content policy) (between.files.content policy) r made.policy
        (subst (λ f. IsRefusedBy (between.files.content f) r) same cause.2)))
    own_refused r (inr (inl cause)) = cc (cause.2)
    own_refused r (inr (inr made)) = absurd made

    -- why the run stopped is why the world did
    stops : (s : Stop) → StopsFor (Run policy names) between after s → StopsFor Own before after s
    stops stop.ReadFault h = subst (λ (f : List ℕ → ℕ). RoseIn (policy ∷ names.capture ∷ []) f after.files.read_faults) reads h
    stops stop.WriteFault h = (wrote h.0, passes_own before)
      where
        wrote : Rose between.files.write_faults after.files.write_faults ⊎ Rose between.sink.faults after.sink.faults → Rose before.files.write_faults after.files.write_faults ⊎ Rose before.sink.faults after.sink.faults
        wrote (inl rose) = inl (omega (arith, rose, writes))
        wrote (inr rose) = inr (subst (λ s. Rose s.faults after.sink.faults) sink rose)
    stops (stop.PolicyRefused r) h = own_refused r h
    stops (stop.CaptureRefused r) h = (untold_refused sessions (before.files.content names.capture) (between.files.content names.capture) r made.capture h.0, passes_own before)
    stops (stop.CaptureCut place) h = (untold_cut sessions (before.files.content names.capture) (between.files.content names.capture) place made.capture h.0, passes_own before)
    stops (stop.RunCut place summary) h = (untold_cut sessions (before.files.content names.capture) (between.files.content names.capture) place made.capture h.0, passes_own before)
    stops stop.UnknownAsset h = let cause : LacksAsset (Run policy names) between = h in cc (cause.3)
    stops stop.NoMemory h = tt
    stops _ h = absurd h.0

    pub world_meets : (r : Result Done Stop) → Meets (Run policy names) between after r → Meets Own before after r
    world_meets (Ok d) m = (between, has_made (keeps_from between after (Run policy names) (Ok d) m), m)
    world_meets (Err s) m = (stops s m.0, inr (between, has_made (keeps_from between after (Run policy names) (Err s) m), m.1))
