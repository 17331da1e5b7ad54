-- The records of a capture that were run over so far.
use Rattle.std.proofs.Common.{◌≡◌, ◌≢◌, ◌+◌, ◌*◌, ◌-◌, ◌^◌, ◌<◌, ◌≤◌, max, ℕ, zero, suc, true, List, [], ◌∷◌, ◌++◌, map, drop, take, Some, None, Ok, Err, refl, sym, ap, ◌∙◌, subst, append_assoc, arith, Result, IsErrAnd}
use Rattle.std.specs.List.{concat, flat_map}
use Rattle.std.proofs.lemmas.List.{append-nil, drop-drop}
use Rattle.std.proofs.lemmas.List.Folds.{flat_map-map}
use Rattle.std.proofs.lemmas.Bool.{and_parts}
use Rattle.std.proofs.lemmas.Bool.Decides.{nat_tests}
use Rattle.cf_outside.proofs.Lines.{file_lines-whole}
use Rattle.cf_outside.specs.Files.{Content, untold, absent, holds, IsWhole}
use Rattle.cf_outside.specs.Lines.{ends_with_line, file_lines, file_part}
use Rattle.cf_packet.specs.Packet.{read_record}
use Rattle.cf_records.proofs.RecordLists.{have_timed_records}
use Rattle.cf_records.specs.Capture.{AtPlace, Clock, FileEnd, Fits, IsLast, LastPlace, Record, form_behind}
use Rattle.cf_records.specs.Form.{first_place}
use Rattle.cf_records.specs.Moments.{AreTimed, first_moment, moment_from, timed}
use Rattle.cf_records.specs.declared.form.Form.{Form}
use Rattle.cf_pcap.specs.Header.{output_octets}
use Rattle.cf_policy.specs.declared.Asset.{Asset}
use Rattle.cf_session.specs.Broken.{octets_of}
use Rattle.cf_session.specs.Sent.{Sent}
use Rattle.cf_session.specs.Told.{emitted, with_both, with_more}
use Rattle.cf_run.specs.FileDesk.{are_whole, files_desk, files_told}
use Rattle.cf_run.specs.Half.{StepBreaks, StepStops}
use Rattle.cf_run.specs.OutputFile.{ends_with_record, file_packets, packet_part, record_octets}
use Rattle.cf_records.specs.Reader.{FindsRecord, HasForm, PassesTo, ReaderValue}
use Rattle.cf_run.specs.Run.{capture_of, input_of, inputs, inputs_from, inputs_of}
use Rattle.cf_run.specs.RunCapture.{BeginsWithRecords, BreaksOff, HasRunRecords, HoldsOctets, LeavesRun, RunNamesValue, RunsPartly, RunsRecords, RunsTo, StopsBetween, StopsIn, step_fault}
use Rattle.cf_run.specs.Step.{EngineValue, IsEngineOf, StepsOn}
use Rattle.cf_run.specs.Trace.{AreRunEvents, RunEvent, Input, logged, logged_in_first, logged_in_second, sent, sent_in_first, sent_in_second, table_after}
use Rattle.cf_run.specs.declared.engine.StepFault.{StepFault}
use Rattle.cf_run.specs.declared.engine.StepFault.TheVariants as stepped
use Rattle.cf_records.specs.Pieces.{IsPastRecord}
use Rattle.cf_records.specs.declared.record_reader.NextRecord.{NextRecord}
use Rattle.cf_records.specs.declared.record_reader.NextRecord.TheVariants as answer
use Rattle.cf_run.specs.declared.run.RunFault.{RunFault}
use Rattle.cf_run.specs.declared.summary.Summary.{Summary}
use Rattle.cf_records.proofs.Behind.{StandsBehind}
use Rattle.cf_run.proofs.HalfFiles.{capture_amid, log_amid, no_line_part, no_packet_part}
use Rattle.cf_run.proofs.OutputFiles.{file_is}
use Rattle.cf_run.proofs.Timers.{both_both, both_nothing}
use Rattle.cf_view.specs.Moment.{moment_limit}

-- with these records in front, the records from a place on are those of the file, as far as it is told; there its form is this one
abbrev pub Leads : Content → (start form : Form) → (least place : ℕ) → List Record → Type 0
Leads untold start form least place records = Unit {0}
Leads absent start form least place records = ⊥
Leads (holds all) start form least place records =
    (more : List Record) (last : LastPlace) → AreTimed form least place (drop place all) more last →
    AreTimed start first_moment (first_place start) (drop (first_place start) all) (records ++ more) last

leads_first : (file : Content) (start : Form) → HasForm file (Ok start) → Leads file start start first_moment (first_place start) []
leads_first untold start h = tt
leads_first absent start h = absurd h
leads_first (holds all) start h = λ more last are. are

pub in_time : (least used : ℕ) (r : Record) → moment_from least r < moment_limit → timed least (Fits r used) ≡ Fits r used
in_time least used r early = grind (arith, nat_tests)

pub too_late : (least used : ℕ) (r : Record) → moment_limit ≤ moment_from least r → timed least (Fits r used) ≡ Clock
too_late least used r late = grind (arith, nat_tests)

-- after blocks that are passed over stand the records that stand before them
passed_back : (all : List ℕ) (count : ℕ) (old form : Form) (least from place : ℕ) (rs : List Record) (last : LastPlace) → PassesTo all count old from form place →
    AreTimed form least place (drop place all) rs last → AreTimed old least from (drop from all) rs last
passed_back all zero old form least from place rs last (same, here) are =
    subst (λ n. AreTimed old least n (drop n all) rs last) here (subst (λ x. AreTimed x least place (drop place all) rs last) same are)
passed_back all (suc count) old form least from place rs last (used, at, rest) are =
    let (pieces, behind, is) = passed_back all count (form_behind old (drop from all)) form least (from + used) place rs last rest are in
    (None ∷ pieces, (used, ap (timed least) at, rw drop-drop behind), is)

leads_on : (file : Content) (start : Form) (old new : ReaderValue) (least stamp : ℕ) (records : List Record) → Leads file start old.form least old.place records →
    FindsRecord file old new (answer.Whole stamp) → max stamp least < moment_limit →
    Leads file start new.form (max stamp least + 2) new.place (records ++ record { stamp = stamp; link = new.link; body = new.body } ∷ [])
leads_on untold start old new least stamp records leads found early = tt
leads_on absent start old new least stamp records leads found early = absurd leads
leads_on (holds all) start old new least stamp records leads (count, f, place, used, passes, at, behind, there) early = λ more last are.
    let r : Record = record { stamp = stamp; link = new.link; body = new.body } in
    let (pieces, rest, is) = subst (λ n. AreTimed (form_behind f (drop place all)) (max stamp least + 2) n (drop n all) more last) there
    (subst (λ x. AreTimed x (max stamp least + 2) new.place (drop new.place all) more last) behind are) in
    let here : AreTimed f least place (drop place all) (r ∷ more) last =
    (Some r ∷ pieces, (used, ap (timed least) at ∙ in_time least used r early, rw drop-drop rest), ap (λ rs. r ∷ rs) is) in
    rw append_assoc (leads (r ∷ more) last (passed_back all count old.form f least old.place place (r ∷ more) last passes here))

-- the records end where something else stands
leads_to : (file : Content) (start : Form) (old : ReaderValue) (least place : ℕ) (records : List Record) (found last : AtPlace) → Leads file start old.form least old.place records →
    StandsBehind file old place found → timed least found ≡ last → IsLast last → HasRunRecords file start records (record { place = place; found = last })
leads_to untold start old least place records found last leads stands e is = tt
leads_to absent start old least place records found last leads stands e is = absurd leads
leads_to (holds all) start old least place records found last leads (count, f, passes, at) e is =
    rw append-nil at (leads [] (record { place = place; found = last })
    (passed_back all count old.form f least old.place place [] (record { place = place; found = last }) passes ([], (refl, ap (timed least) at ∙ e, is), refl)))

-- whatever follows, they are the first
leads_somewhere : (file : Content) (start form : Form) (least place : ℕ) (records : List Record) → Leads file start form least place records → BeginsWithRecords file start records
leads_somewhere untold start form least place records leads = ([], record { place = 0; found = FileEnd }, tt)
leads_somewhere absent start form least place records leads = absurd leads
leads_somewhere (holds all) start form least place records leads =
    let (more, last, are) = have_timed_records form least place (drop place all) in
    (more, last, leads more last are)

-- ---- what the two files hold

capture_told : (before after : Content) (all : List Sent) → IsWhole before output_octets → file_packets after ≡ with_more (file_packets before) (map emitted all) →
    ends_with_record after ≡ true → HoldsOctets before after (capture_of all)
capture_told untold after all w h e = tt
capture_told absent after all w h e = absurd w
capture_told (holds octets) after all w h e =
    let first : file_packets (holds output_octets) ≡ Some [] = refl in
    let told : file_packets after ≡ Some (map emitted all) =
    h ∙ ap (λ xs. with_more (file_packets (holds xs)) (map emitted all)) (sym w) ∙ ap (λ ps. with_more ps (map emitted all)) first in
    file_is after (map emitted all) told
    ∙ ap (λ part. holds (output_octets ++ (flat_map record_octets (map emitted all) ++ part))) (no_packet_part after e)
    ∙ ap (λ rs. holds (output_octets ++ rs)) (append-nil (flat_map record_octets (map emitted all)) ∙ flat_map-map record_octets emitted all)

log_told : (before after : Content) (lines : List (List ℕ)) → IsWhole before [] → file_lines after ≡ with_more (file_lines before) lines →
    ends_with_line after ≡ true → HoldsOctets before after (concat lines)
log_told untold after lines w h e = tt
log_told absent after lines w h e = absurd w
log_told (holds octets) after lines w h e =
    file_lines-whole after lines (h ∙ ap (λ xs. with_more (file_lines (holds xs)) lines) (sym w)) e

record_end_first : (file : Content) → IsWhole file output_octets → ends_with_record file ≡ true
record_end_first untold w = refl
record_end_first absent w = absurd w
record_end_first (holds all) w = ap (λ xs. ends_with_record (holds xs)) (sym w)

line_end_first : (file : Content) → IsWhole file [] → ends_with_line file ≡ true
line_end_first untold w = refl
line_end_first absent w = absurd w
line_end_first (holds all) w = ap (λ xs. ends_with_line (holds xs)) (sym w)

pub whole_first : (out log : List ℕ) (content : List ℕ → Content) → IsWhole (content out) output_octets → IsWhole (content log) [] → are_whole out log content ≡ true
whole_first out log content o l = rw (record_end_first (content out) o, line_end_first (content log) l) refl

-- ---- the loop

-- how much there is to read where this was read last: behind a record something, and else nothing
abbrev pub more_after : NextRecord → ℕ
more_after (answer.Whole stamp) = 1
more_after _ = 0

pub less_after : (read : NextRecord) (from to : ℕ) → IsPastRecord read from to → to ≤ 2 ^ 40 → 2 * (2 ^ 40 - to) + more_after read < 2 * (2 ^ 40 - from) + 1
less_after (answer.Whole stamp) from to on near = omega (arith, on, near)
less_after answer.End from to on near = omega (arith, on, near)
less_after answer.Cut from to on near = omega (arith, on, near)
less_after answer.TooLong from to on near = omega (arith, on, near)
less_after (answer.Refused refusal) from to on near = omega (arith, on, near)
less_after answer.Large from to on near = omega (arith, on, near)
less_after answer.Failed from to on near = omega (arith, on, near)

some_more : (rs : List Record) (r : Record) → rs ++ r ∷ [] ≢ []
some_more [] r e = cc e
some_more (x ∷ rs) r e = cc e

-- what holds of the files before and now, after the records that were read, where the next moment is this one at least: each was
-- an event, and what they sent and logged was put after the header of the one file and into the empty other
pub record SoFar (assets : List Asset) (limit : ℕ) (names : RunNamesValue) (before now : List ℕ → Content) (start : Form) (least : ℕ)
    (reader : ReaderValue) (engine : EngineValue) : Type 0 where
  pub has_form : HasForm (before names.capture) (Ok start)
  pub out : IsWhole (before names.out) output_octets
  pub log : IsWhole (before names.log) []
  pub capture : now names.capture ≡ before names.capture
  pub records : List Record
  pub events : List RunEvent
  pub leads : Leads (before names.capture) start reader.form least reader.place records
  pub given : (more : List Record) → inputs (records ++ more) ≡ inputs_of events ++ inputs_from least more
  pub stands : IsEngineOf assets engine events
  pub limited : engine.limit ≡ limit
  pub told : files_told names.out names.log now ≡ with_both (files_told names.out names.log before) (sent events) (logged events)

-- no record yet
pub nothing_so_far : {assets : List Asset} {names : RunNamesValue} {files : List ℕ → Content} {reader : ReaderValue} {engine : EngineValue} →
    HasForm (files names.capture) (Ok reader.form) → IsWhole (files names.out) output_octets → IsWhole (files names.log) [] → reader.place ≡ first_place reader.form →
    IsEngineOf assets engine [] → SoFar assets engine.limit names files files reader.form first_moment reader engine
nothing_so_far {assets} {names} {files} {reader} {engine} h out log place stands = record {
  has_form = h;
  out = out;
  log = log;
  capture = refl;
  records = [];
  events = [];
  leads = subst (λ n. Leads (files names.capture) reader.form reader.form first_moment n []) (sym place) (leads_first (files names.capture) reader.form h);
  given = λ more. refl;
  stands = stands;
  limited = refl;
  told = sym (both_nothing (files_told names.out names.log files));
}

-- where files were read alone they are as they were
still_so_far : {assets : List Asset} {limit : ℕ} {names : RunNamesValue} {before now files : List ℕ → Content} {start : Form} {least : ℕ} {reader : ReaderValue} {engine : EngineValue} →
    SoFar assets limit names before now start least reader engine → files ≡ now → SoFar assets limit names before files start least reader engine
still_so_far {names = names} a same = record {
  has_form = a.has_form;
  out = a.out;
  log = a.log;
  capture = ap (λ (f : List ℕ → Content). f names.capture) same ∙ a.capture;
  records = a.records;
  events = a.events;
  leads = a.leads;
  given = a.given;
  stands = a.stands;
  limited = a.limited;
  told = ap (λ (f : List ℕ → Content). files_told names.out names.log f) same ∙ a.told;
}

module _ {assets : List Asset} {limit : ℕ} {names : RunNamesValue} {before now : List ℕ → Content} {start : Form} {least : ℕ} {reader : ReaderValue} {engine : EngineValue}
    (a : SoFar assets limit names before now start least reader engine) where
  -- one record more: it is read, it is in time, and its event is handled
  one_so_far : (stamp : ℕ) {next : ReaderValue} {moment : ℕ} {files after : List ℕ → Content} {new : EngineValue} → FindsRecord (now names.capture) reader next (answer.Whole stamp) →
      files ≡ now → moment ≡ max stamp least → moment < moment_limit →
      ((events : List RunEvent) → IsEngineOf assets engine events → (event : RunEvent) × StepsOn assets moment (read_record next.link next.body) events new
      (files_told names.out names.log files) (files_told names.out names.log after) event) →
      new.limit ≡ engine.limit → after names.capture ≡ files names.capture → SoFar assets limit names before after start (moment + 2) next new
  one_so_far stamp {next} {moment} {files} {after} {new} found still is early steps limited kept =
      let r : Record = record { stamp = stamp; link = next.link; body = next.body } in
      let (event, step) = steps a.events a.stands in
      let packets = sent_in_first event ++ sent_in_second event in
      let lines = logged_in_first (table_after a.events) event ++ logged_in_second (table_after a.events) event in
      let on : Leads (before names.capture) start next.form (moment_from least r + 2) next.place (a.records ++ r ∷ []) =
      leads_on (before names.capture) start reader next least stamp a.records a.leads
      (subst (λ f. FindsRecord f reader next (answer.Whole stamp)) a.capture found) (omega (arith, is, early)) in
      let input : event.input ≡ input_of least r =
      rw (step.input, is) refl in
      record {
        has_form = a.has_form;
        out = a.out;
        log = a.log;
        capture = kept ∙ ap (λ (f : List ℕ → Content). f names.capture) still ∙ a.capture;
        records = a.records ++ r ∷ [];
        events = event ∷ a.events;
        leads = subst (λ n. Leads (before names.capture) start next.form (n + 2) next.place (a.records ++ r ∷ [])) (sym is) on;
        given = subst (λ n. (more : List Record) → inputs ((a.records ++ r ∷ []) ++ more) ≡ inputs_of (event ∷ a.events) ++ inputs_from (n + 2) more) (sym is)
            (λ more.
            ap inputs (append_assoc a.records (r ∷ []) more) ∙ a.given (r ∷ more)
            ∙ sym (append_assoc (inputs_of a.events) (input_of least r ∷ []) (inputs_from (moment_from least r + 2) more))
            ∙ ap (λ i. (inputs_of a.events ++ i ∷ []) ++ inputs_from (moment_from least r + 2) more) (sym input));
        stands = step.stands;
        limited = limited ∙ a.limited;
        told = step.told ∙ ap (λ (f : List ℕ → Content). with_both (files_told names.out names.log f) packets lines) still ∙ ap (λ t. with_both t packets lines) a.told
            ∙ both_both (files_told names.out names.log before) (sent a.events) packets (logged a.events) lines;
      }

  -- so it is behind the read that comes next, and there is a record
  pub next_so_far : (stamp : ℕ) {next : ReaderValue} {moment : ℕ} {files after later : List ℕ → Content} {new : EngineValue} → FindsRecord (now names.capture) reader next (answer.Whole stamp) →
      files ≡ now → moment ≡ max stamp least → moment < moment_limit →
      ((events : List RunEvent) → IsEngineOf assets engine events → (event : RunEvent) × StepsOn assets moment (read_record next.link next.body) events new
      (files_told names.out names.log files) (files_told names.out names.log after) event) →
      new.limit ≡ engine.limit → after names.capture ≡ files names.capture → later ≡ after →
      (so : SoFar assets limit names before later start (moment + 2) next new) × (so.records ≢ [])
  unfolding one_so_far still_so_far
  next_so_far stamp {next} {moment} {files} {after} {later} {new} found still is early steps limited kept same =
      let r : Record = record { stamp = stamp; link = next.link; body = next.body } in
      (still_so_far (one_so_far stamp found still is early steps limited kept) same, some_more a.records r)

  -- ---- the next record is read, and its event stopped

  module _ (stamp : ℕ) (next : ReaderValue) (moment : ℕ) (files after : List ℕ → Content) (read : FindsRecord (now names.capture) reader next (answer.Whole stamp))
      (still : files ≡ now) (is : moment ≡ max stamp least) (early : moment < moment_limit) where
    abbrev input : Input
    input = record { moment = moment; packet = read_record next.link next.body }

    stops_in : StopsIn assets limit names before after a.events input
    stops_in =
        let r : Record = record { stamp = stamp; link = next.link; body = next.body } in
        let on : Leads (before names.capture) start next.form (moment_from least r + 2) next.place (a.records ++ r ∷ []) =
        leads_on (before names.capture) start reader next least stamp a.records a.leads
        (subst (λ f. FindsRecord f reader next (answer.Whole stamp)) a.capture read) (omega (arith, is, early)) in
        let given : ℕ → Input = λ n. record { moment = n; packet = read_record next.link next.body } in
        let same_input : input ≡ input_of least r = ap given is in
        record {
          form = start;
          has_form = a.has_form;
          records = a.records;
          next = r;
          are_first = leads_somewhere (before names.capture) start next.form (moment_from least r + 2) next.place (a.records ++ r ∷ []) on;
          are = subst (λ n. AreRunEvents assets n a.events) a.limited a.stands.are;
          rises = a.stands.rises;
          are_inputs = ap (λ i. inputs_of a.events ++ i ∷ []) same_input ∙ sym (a.given (r ∷ []));
        }

    -- what is told of the files, after the events so far
    told_behind : (packets : List Sent) (lines : List (List ℕ)) → files_told names.out names.log after ≡ with_both (files_told names.out names.log files) packets lines →
        files_told names.out names.log after ≡ with_both (files_told names.out names.log before) (sent a.events ++ packets) (logged a.events ++ lines)
    told_behind packets lines h =
        h ∙ ap (λ (f : List ℕ → Content). with_both (files_told names.out names.log f) packets lines) still ∙ ap (λ t. with_both t packets lines) a.told
        ∙ both_both (files_told names.out names.log before) (sent a.events) packets (logged a.events) lines

    -- a write failed amid a half of it
    pub breaks_off : are_whole names.out names.log files ≡ true → StepBreaks assets limit (table_after a.events) input (files_desk names.out names.log files) (files_desk names.out names.log after) →
        BreaksOff assets limit names before after
    breaks_off whole (half, is_half, b) =
        let (record_end, line_end) = and_parts _ _ whole in
        let told = told_behind (half.sent_before ++ b.gone) (half.logged_before ++ b.put) b.is_told in
        let packets = ap (λ t. t.packets) told ∙ ap (λ xs. with_more (file_packets (before names.out)) (map emitted xs)) (sym (append_assoc (sent a.events) half.sent_before b.gone)) in
        let lines = ap (λ t. t.lines) told ∙ ap (λ xs. with_more (file_lines (before names.log)) xs) (sym (append_assoc (logged a.events) half.logged_before b.put)) in
        let out = capture_amid (before names.out) (after names.out) (sent a.events ++ half.sent_before) b.gone b.left (packet_part (files names.out)) a.out packets (no_packet_part (files names.out) record_end) b.packet_part in
        let log = log_amid (before names.log) (after names.log) (logged a.events ++ half.logged_before) b.put b.missing (file_part (files names.log)) a.log lines (no_line_part (files names.log) line_end) b.line_part in
        record {
          events = a.events;
          input = input;
          stops = stops_in;
          half = half;
          is_half = is_half;
          octets_out = out.0;
          in_out = subst (λ xs. HoldsOctets (before names.out) (after names.out) (capture_of (sent a.events ++ half.sent_before) ++ take out.0 (octets_of record_octets xs))) (sym b.are_sent) out.1;
          octets_log = log.0;
          in_log = subst (λ xs. HoldsOctets (before names.log) (after names.log) (concat (logged a.events ++ half.logged_before) ++ take log.0 (concat xs))) (sym b.are_lines) log.1;
        }

    -- memory ran out between its halves
    pub stops_between : are_whole names.out names.log after ≡ true → StepStops assets (table_after a.events) input (files_told names.out names.log files) (files_told names.out names.log after) →
        StopsBetween assets limit names before after
    stops_between whole (half, is_half, h) =
        let (record_end, line_end) = and_parts _ _ whole in
        let told = told_behind half.sent half.logged h in
        record {
          events = a.events;
          input = input;
          stops = stops_in;
          half = half;
          is_half = is_half;
          in_out = capture_told (before names.out) (after names.out) (sent a.events ++ half.sent) a.out (ap (λ t. t.packets) told) record_end;
          in_log = log_told (before names.log) (after names.log) (logged a.events ++ half.logged) a.log (ap (λ t. t.lines) told) line_end;
        }

  module _ (whole : are_whole names.out names.log now ≡ true) where
    -- the two files are those of a run over the records so far
    leaves : {files : List ℕ → Content} → files ≡ now → LeavesRun assets limit names before files a.records engine.summary
    leaves {files} still =
        let (record_end, line_end) = and_parts _ _ whole in
        let held : LeavesRun assets limit names before now a.records engine.summary = record {
          out = capture_of (sent a.events);
          log = concat (logged a.events);
          is_run = record {
            events = a.events;
            are = subst (λ n. AreRunEvents assets n a.events) a.limited a.stands.are;
            rises = a.stands.rises;
            are_inputs = sym (rw append-nil at (a.given []) ∙ append-nil (inputs_of a.events));
            capture = refl;
            lines = refl;
            counts = a.stands.counts;
          };
          in_out = capture_told (before names.out) (now names.out) (sent a.events) a.out (ap (λ t. t.packets) a.told) record_end;
          in_log = log_told (before names.log) (now names.log) (logged a.events) a.log (ap (λ t. t.lines) a.told) line_end;
        } in
        subst (λ f. LeavesRun assets limit names before f a.records engine.summary) (sym still) held

    -- something else stands after them
    pub runs_to : (found : AtPlace) {files : List ℕ → Content} {last : AtPlace} {place : ℕ} {summary : Summary} → files ≡ now → (at : ℕ) → StandsBehind (now names.capture) reader at found →
        timed least found ≡ last → IsLast last → place ≡ at → summary ≡ engine.summary → RunsTo assets limit names before files last place summary
    runs_to found {files} {last} {place} {summary} still at stands e is p s =
        let stood = subst (λ f. StandsBehind f reader at found) a.capture stands in
        record {
          form = start;
          has_form = a.has_form;
          records = a.records;
          are_records = subst (λ (n : ℕ). HasRunRecords (before names.capture) start a.records (record { place = n; found = last })) (sym p)
              (leads_to (before names.capture) start reader least at a.records found last a.leads stood e is);
          leaves = subst (λ counts. LeavesRun assets limit names before files a.records counts) (sym s) (leaves still);
        }

    -- nothing is known of what follows
    pub runs_partly : {files : List ℕ → Content} → files ≡ now → a.records ≢ [] → RunsPartly assets limit names before files
    runs_partly still some = record {
      form = start;
      has_form = a.has_form;
      records = a.records;
      some = some;
      are_first = leads_somewhere (before names.capture) start reader.form least reader.place a.records a.leads;
      summary = engine.summary;
      leaves = leaves still;
    }

-- why an event stopped, as the run has it
pub stopped : (assets : List Asset) (limit : ℕ) (names : RunNamesValue) (before after : List ℕ → Content) (f : StepFault) → (f ≡ stepped.Write → BreaksOff assets limit names before after) →
    (f ≡ stepped.NoMemory → StopsBetween assets limit names before after) → RunsRecords assets limit names before after (Err (step_fault f))
stopped assets limit names before after stepped.NoMemory write memory = memory refl
stopped assets limit names before after stepped.Write write memory = write refl

-- and told on
pub told_on : (assets : List Asset) (limit : ℕ) (names : RunNamesValue) (before after : List ℕ → Content) (f : StepFault) (r : Result Summary RunFault) → IsErrAnd r (λ told. told ≡ step_fault f) →
    RunsRecords assets limit names before after (Err (step_fault f)) → RunsRecords assets limit names before after r
told_on assets limit names before after f (Ok x) is h = absurd is
told_on assets limit names before after f (Err told) is h = subst (λ t. RunsRecords assets limit names before after (Err t)) (sym is) h
