-- Records that are listed one by one, where lines are gathered before they are put.
use Rattle.std.proofs.Common.{◌≡◌, ◌≢◌, ◌⊎◌, ℕ, zero, suc, ◌+◌, List, [], ◌∷◌, ◌++◌, cond, length, min, take, drop, Option, Some, None, Result, Ok, Err, refl, subst, sym, ap, ◌∙◌, append_assoc, inl, inr, arith}
use Rattle.std.proofs.lemmas.List.{append-nil, length-append, drop-drop, take_all, take-append-le}
use Rattle.std.proofs.lemmas.Bool.{cases_lt}
use Rattle.std.proofs.lemmas.List.Sums.{sum_by-append}
use Rattle.std.proofs.Math.Seq.{take-append-add}
use Rattle.cf_outside.specs.Files.{Content, untold, absent, holds}
use Rattle.cf_outside.specs.Sink.{printed_with}
use Rattle.cf_records.proofs.Behind.{StandsBehind}
use Rattle.cf_records.proofs.RecordLists.{have_records}
use Rattle.cf_records.specs.Capture.{AreRecords, AtPlace, FileEnd, IsLast, LastPlace, Record, Refused, form_behind}
use Rattle.cf_records.specs.Form.{first_place}
use Rattle.cf_records.specs.Reader.{FindsRecord, HasForm, PassesTo, ReaderValue}
use Rattle.cf_records.specs.declared.BlockRefusal.{BlockRefusal}
use Rattle.cf_records.specs.declared.BlockRefusal.TheVariants as block
use Rattle.cf_records.specs.declared.Form.{Form}
use Rattle.cf_records.specs.declared.NextRecord.TheVariants as next
use Rattle.cf_ending.specs.Captures.{block_refusal}
use Rattle.cf_ending.specs.declared.Done.{Done}
use Rattle.cf_ending.specs.declared.Stop.{Stop}
use Rattle.cf_ending.specs.declared.Stop.TheVariants as stop
use Rattle.cf_ending.specs.PacketLine.{dropped_in, is_dropped, lines_from, record_line}
use Rattle.cf_box.specs.Packets.{HasListed, HasListedRecords, ListingAnswers}

-- with these records in front, the records from a place on are those of the file, as far as it is told; there its form is this one
abbrev Leads : Content → (start file_form : Form) → (place : ℕ) → List Record → Type 0
Leads untold start file_form place records = Unit {0}
Leads absent start file_form place records = ⊥
Leads (holds all) start file_form place records =
    (more : List Record) (last : LastPlace) → AreRecords file_form place (drop place all) more last →
    AreRecords start (first_place start) (drop (first_place start) all) (records ++ more) last

leads_first : (file : Content) (start : Form) → HasForm file (Ok start) → Leads file start start (first_place start) []
leads_first untold start h = tt
leads_first absent start h = absurd h
leads_first (holds all) start h = λ more last are. are

-- after blocks that are passed over stand the records that stand before them
passed_back : (all : List ℕ) (count : ℕ) (old new : Form) (from place : ℕ) (rs : List Record) (last : LastPlace) → PassesTo all count old from new place →
    AreRecords new place (drop place all) rs last → AreRecords old from (drop from all) rs last
passed_back all zero old new from place rs last (same, here) are =
    subst (λ n. AreRecords old n (drop n all) rs last) here (subst (λ x. AreRecords x place (drop place all) rs last) same are)
passed_back all (suc count) old new from place rs last (used, at, rest) are =
    let (pieces, behind, is) = passed_back all count (form_behind old (drop from all)) new (from + used) place rs last rest are in
    (None ∷ pieces, (used, at, rw drop-drop behind), is)

leads_on : (file : Content) (start : Form) (old new : ReaderValue) (stamp : ℕ) (records : List Record) → Leads file start old.form old.place records →
    FindsRecord file old new (next.Whole stamp) →
    Leads file start new.form new.place (records ++ record { stamp = stamp; link = new.link; body = new.body } ∷ [])
leads_on untold start old new stamp records leads found = tt
leads_on absent start old new stamp records leads found = absurd leads
leads_on (holds all) start old new stamp records leads (count, f, place, used, passes, at, behind, there) = λ more last are.
    let r : Record = record { stamp = stamp; link = new.link; body = new.body } in
    let (pieces, rest, is) = subst (λ n. AreRecords (form_behind f (drop place all)) n (drop n all) more last) there
    (subst (λ x. AreRecords x new.place (drop new.place all) more last) behind are) in
    let here : AreRecords f place (drop place all) (r ∷ more) last =
    (Some r ∷ pieces, (used, at, rw drop-drop rest), ap (λ rs. r ∷ rs) is) in
    rw append_assoc (leads (r ∷ more) last (passed_back all count old.form f old.place place (r ∷ more) last passes here))

-- the records end where something else stands
leads_to : (file : Content) (start : Form) (old : ReaderValue) (place : ℕ) (records : List Record) (found : AtPlace) → Leads file start old.form old.place records →
    StandsBehind file old place found → IsLast found → HasListedRecords file start records (record { place = place; found = found })
leads_to untold start old place records found leads stands is = tt
leads_to absent start old place records found leads stands is = absurd leads
leads_to (holds all) start old place records found leads (count, f, passes, at) is =
    rw append-nil at (leads [] (record { place = place; found = found })
    (passed_back all count old.form f old.place place [] (record { place = place; found = found }) passes ([], (refl, at, is), refl)))

-- whatever follows, they are the first
leads_somewhere : (file : Content) (start file_form : Form) (place : ℕ) (records : List Record) → Leads file start file_form place records →
    (more : List Record) × (last : LastPlace) × HasListedRecords file start (records ++ more) last
leads_somewhere untold start file_form place records leads = ([], record { place = 0; found = FileEnd }, tt)
leads_somewhere absent start file_form place records leads = absurd leads
leads_somewhere (holds all) start file_form place records leads =
    let (more, last, are) = have_records file_form place (drop place all) in
    (more, last, leads more last are)

-- bytes put after bytes
pub with_nothing : (text : Option (List ℕ)) → text ≡ printed_with text []
with_nothing None = refl
with_nothing (Some bytes) = ap Some (sym (append-nil bytes))

with_more : (text : Option (List ℕ)) (a b : List ℕ) → printed_with (printed_with text a) b ≡ printed_with text (a ++ b)
with_more None a b = refl
with_more (Some bytes) a b = ap Some (append_assoc bytes a b)

-- the lines of records before records
lines_more : (n : ℕ) (rs ss : List Record) → lines_from n (rs ++ ss) ≡ lines_from n rs ++ lines_from (n + length rs) ss
lines_more n [] ss = ap (λ k. lines_from k ss) (omega arith)
lines_more n (r ∷ rs) ss =
    let on : (n + 1) + length rs ≡ n + length (r ∷ rs) = omega arith in
    ap (λ lines. record_line n r ++ lines) (lines_more (n + 1) rs ss)
    ∙ sym (append_assoc (record_line n r) (lines_from (n + 1) rs) (lines_from ((n + 1) + length rs) ss))
    ∙ ap (λ k. lines_from n (r ∷ rs) ++ lines_from k ss) on

-- a prefix of what stands between what was put and what was not
take_between : (k : ℕ) (a b c : List ℕ) → take (length a + min k (length b)) (a ++ (b ++ c)) ≡ a ++ take k b
take_between k a b c =
    rw (take-append-add a (b ++ c) (min k (length b)), take-append-le (min k (length b)) b c (omega arith))
    (ap (λ xs. a ++ xs) (elim (cases_lt k (length b)) as (λ _. take (min k (length b)) b ≡ take k b) [
      | inl below ↦ ap (λ n. take n b) (omega arith)
      | inr past ↦ take_all (min k (length b)) b (omega arith) ∙ sym (take_all k b past)
    ]))

-- records that follow each other up to a place: the first of their lines were put, and the others are gathered
pub record AreListed (file : Content) (start : Form) (reader : ReaderValue) (number dropped : ℕ) (old now : Option (List ℕ)) (gathered : List ℕ) : Type 0 where
  pub has_form : HasForm file (Ok start)
  pub records : List Record
  pub numbered : number ≡ 1 + length records
  pub are_dropped : dropped ≡ dropped_in records
  pub leads : Leads file start reader.form reader.place records
  pub put : List ℕ
  pub was_put : now ≡ printed_with old put
  pub lines : put ++ gathered ≡ lines_from 1 records

pub none_listed : {file : Content} {reader : ReaderValue} {old : Option (List ℕ)} {gathered : List ℕ} → HasForm file (Ok reader.form) → reader.place ≡ first_place reader.form → gathered ≡ [] →
    AreListed file reader.form reader 1 0 old old gathered
none_listed {file} {reader} {old} {gathered} h first none = record {
  has_form = h;
  records = [];
  numbered = refl;
  are_dropped = refl;
  leads = subst (λ n. Leads file reader.form reader.form n []) (sym first) (leads_first file reader.form h);
  put = [];
  was_put = with_nothing old;
  lines = none;
}

module _ {file : Content} {start : Form} {reader : ReaderValue} {number dropped : ℕ} {old now : Option (List ℕ)} {gathered : List ℕ} (listed : AreListed file start reader number dropped old now gathered) where
  abbrev pub all : List ℕ
  all = lines_from 1 listed.records

  -- some of the lines that were gathered are put
  pub more_put : {new : Option (List ℕ)} {rest : List ℕ} (some : List ℕ) → gathered ≡ some ++ rest → new ≡ printed_with now some → AreListed file start reader number dropped old new rest
  more_put {new} {rest} some first put = record {
    has_form = listed.has_form;
    records = listed.records;
    numbered = listed.numbered;
    are_dropped = listed.are_dropped;
    leads = listed.leads;
    put = listed.put ++ some;
    was_put = put ∙ ap (λ text. printed_with text some) listed.was_put ∙ with_more old listed.put some;
    lines = append_assoc listed.put some rest ∙ ap (λ xs. listed.put ++ xs) (sym first) ∙ listed.lines;
  }

  -- the line of the next record is gathered
  pub one_listed : {new : List ℕ} {one : ℕ} (next_reader : ReaderValue) (stamp : ℕ) → FindsRecord file reader next_reader (next.Whole stamp) →
      new ≡ gathered ++ record_line number (record { stamp = stamp; link = next_reader.link; body = next_reader.body }) →
      one ≡ dropped_in (record { stamp = stamp; link = next_reader.link; body = next_reader.body } ∷ []) →
      AreListed file start next_reader (number + 1) (dropped + one) old now new
  one_listed {new} {one} next_reader stamp found is count =
      let r : Record = record { stamp = stamp; link = next_reader.link; body = next_reader.body } in
      let line = record_line number r in
      let lines : lines_from 1 (listed.records ++ r ∷ []) ≡ all ++ line =
      lines_more 1 listed.records (r ∷ []) ∙ ap (λ k. all ++ (record_line k r ++ [])) (sym listed.numbered) ∙ ap (λ text. all ++ text) (append-nil line) in
      record {
        has_form = listed.has_form;
        records = listed.records ++ r ∷ [];
        numbered = omega (arith, listed.numbered, length-append listed.records (r ∷ []));
        are_dropped = omega (arith, listed.are_dropped, count, sum_by-append (λ x. cond (is_dropped x) 1 0) listed.records (r ∷ []));
        leads = leads_on file start reader next_reader stamp listed.records listed.leads found;
        put = listed.put;
        was_put = listed.was_put;
        lines = ap (λ xs. listed.put ++ xs) is ∙ sym (append_assoc listed.put gathered line) ∙ ap (λ xs. xs ++ line) listed.lines ∙ sym lines;
      }

  -- all lines are put
  all_put : {new : Option (List ℕ)} → new ≡ printed_with now gathered → new ≡ printed_with old all
  all_put put = put ∙ ap (λ text. printed_with text gathered) listed.was_put ∙ with_more old listed.put gathered ∙ ap (printed_with old) listed.lines

  -- they are, and something else stands after their records
  pub ends_at : (failed : Type 0) {new : Option (List ℕ)} (answer : Result Done Stop) (at : ℕ) (found : AtPlace) → StandsBehind file reader at found → IsLast found → new ≡ printed_with now gathered →
      (new ≡ printed_with old all → ListingAnswers listed.records (record { place = at; found = found }) old new failed answer) → HasListed file old new failed answer
  ends_at failed answer at found stands is put answers = record {
    form = start;
    has_form = listed.has_form;
    records = listed.records;
    last = record { place = at; found = found };
    are_records = leads_to file start reader at listed.records found listed.leads stands is;
    answers = answers (all_put put);
  }

  -- they are, and the next read failed
  pub ends_partly : (failed : Type 0) {new : Option (List ℕ)} → new ≡ printed_with now gathered → HasListed file old new failed (Err stop.ReadFault)
  ends_partly failed put =
      let (more, last, are) = leads_somewhere file start reader.form reader.place listed.records listed.leads in
      record {
        form = start;
        has_form = listed.has_form;
        records = listed.records ++ more;
        last = last;
        are_records = are;
        answers = (length listed.records, all_put put ∙ ap (λ rs. printed_with old (lines_from 1 rs)) (sym (take-append-le (length listed.records) listed.records more (omega arith) ∙ take_all (length listed.records) listed.records (omega arith))));
      }

  -- a put of the lines that were gathered failed
  pub ends_unput : {failed : Type 0} {new : Option (List ℕ)} → failed → (k : ℕ) × (new ≡ printed_with now (take k gathered)) → HasListed file old new failed (Err stop.WriteFault)
  ends_unput fails (k, put) =
      let (more, last, are) = leads_somewhere file start reader.form reader.place listed.records listed.leads in
      let behind = lines_from (1 + length listed.records) more in
      let lines : lines_from 1 (listed.records ++ more) ≡ listed.put ++ (gathered ++ behind) =
      lines_more 1 listed.records more ∙ ap (λ xs. xs ++ behind) (sym listed.lines) ∙ append_assoc listed.put gathered behind in
      record {
        form = start;
        has_form = listed.has_form;
        records = listed.records ++ more;
        last = last;
        are_records = are;
        answers = (
          fails,
          (
            length listed.put + min k (length gathered),
            put ∙ ap (λ text. printed_with text (take k gathered)) listed.was_put ∙ with_more old listed.put (take k gathered)
                ∙ ap (printed_with old) (sym (ap (take (length listed.put + min k (length gathered))) lines ∙ take_between k listed.put gathered behind)),
          ),
        );
      }

  -- the lines that were gathered last were put, and something else stands after their records; or their put failed
  pub finished : {failed fails : Type 0} {new : Option (List ℕ)} (answer ended : Result Done Stop) (at : ℕ) (found : AtPlace) → StandsBehind file reader at found → IsLast found →
      (new ≡ printed_with old all → ListingAnswers listed.records (record { place = at; found = found }) old new failed ended) → (fails → failed) →
      ((answer ≡ ended) × (new ≡ printed_with now gathered)) ⊎ ((answer ≡ Err stop.WriteFault) × fails × ((k : ℕ) × (new ≡ printed_with now (take k gathered)))) →
      HasListed file old new failed answer
  finished {failed} {fails} {new} answer ended at found stands is answers weaken (inl h) =
      subst (λ r. HasListed file old new failed r) (sym h.0) (ends_at failed ended at found stands is h.1 answers)
  finished {failed} {fails} {new} answer ended at found stands is answers weaken (inr h) =
      subst (λ r. HasListed file old new failed r) (sym h.0) (ends_unput (weaken h.1) h.2)

  pub finished_partly : {failed fails : Type 0} {new : Option (List ℕ)} (answer : Result Done Stop) → (fails → failed) →
      ((answer ≡ Err stop.ReadFault) × (new ≡ printed_with now gathered)) ⊎ ((answer ≡ Err stop.WriteFault) × fails × ((k : ℕ) × (new ≡ printed_with now (take k gathered)))) →
      HasListed file old new failed answer
  finished_partly {failed} {fails} {new} answer weaken (inl h) = subst (λ r. HasListed file old new failed r) (sym h.0) (ends_partly failed h.1)
  finished_partly {failed} {fails} {new} answer weaken (inr h) = subst (λ r. HasListed file old new failed r) (sym h.0) (ends_unput (weaken h.1) h.2)

-- a block that is refused ends the records so
pub block_answers : (of : BlockRefusal) (records : List Record) (last : LastPlace) (before after : Option (List ℕ)) (failed : Type 0) → last.found ≡ Refused of →
    after ≡ printed_with before (lines_from 1 records) → ListingAnswers records last before after failed (Err (stop.CaptureRefused (block_refusal of)))
block_answers block.Block records last before after failed e put = (e, put)
block_answers _ records last before after failed e put = (e, put)

-- an ending that is no failed read is none
pub not_read : {A B C : Type 0} (answer ended : Result Done Stop) → ((answer ≡ ended) × A) ⊎ ((answer ≡ Err stop.WriteFault) × B × C) → ended ≢ Err stop.ReadFault → answer ≡ Err stop.ReadFault → ⊥
not_read answer ended (inl h) other is = other (sym h.0 ∙ is)
not_read answer ended (inr h) other is = let write = h.0 in cc
