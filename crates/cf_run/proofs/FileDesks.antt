-- A desk over two files.
use Rattle.std.proofs.Common.{◌≡◌, ◌≢◌, ◌&&◌, not, ℕ, Bool, true, false, List, [], ◌∷◌, take, bytes_eq, refl, sym, ap, ◌∙◌, subst, inl, inr}
use Rattle.std.specs.Borrow.{GName}
use Rattle.std.proofs.lemmas.Bool.{and_from, and_parts}
use Rattle.std.proofs.lemmas.Slice.Eq.{bytes_eq-Decides}
use Rattle.cf_outside.specs.Faults.{HasCause}
use Rattle.cf_outside.specs.Files.{Content, with_appended, KeepsOthers}
use Rattle.cf_outside.specs.Desk.{Emits, PutsLine}
use Rattle.cf_outside.specs.Lines.{is_line, file_lines, file_part, ends_with_line}
use Rattle.cf_outside.specs.declared.files.WriteAnswer.TheVariants as write
use Rattle.cf_outside.proofs.Lines.{file_lines-line, ends_with_line-line, file_lines-part, file_part-line}
use Rattle.cf_run.specs.OutputFile.{IsRecord, file_packets, packet_part, record_octets, ends_with_record}
use Rattle.cf_run.specs.FileDesk.{are_whole, file_desk}
use Rattle.cf_run.proofs.OutputFiles.{file_packets-part, recorded}

module _ (l : GName) (failed : Bool) (f f' : ℕ) (r r' : List ℕ → ℕ) (out log : List ℕ) (old new : List ℕ → Content)
    (whole : (not failed && not (bytes_eq out log) && ends_with_record (old out) && ends_with_line (old log)) ≡ true) (reads : r' ≡ r) where
  ends_log : ends_with_line (old log) ≡ true
  ends_log = (and_parts _ _ whole).1

  ends_out : ends_with_record (old out) ≡ true
  ends_out = (and_parts _ _ (and_parts _ _ whole).0).1

  apart : out ≢ log
  apart e =
      let differ : not (bytes_eq out log) ≡ true = (and_parts _ _ (and_parts _ _ (and_parts _ _ whole).0).0).1 in
      let same : not (bytes_eq out log) ≡ false = ap not ((bytes_eq-Decides out log).1 e) in
      cc

  module _ (octets : List ℕ) (moment : ℕ) (packet : List ℕ) (is : octets ≡ record_octets (record { moment = moment; bytes = packet })) (one : IsRecord octets (record { moment = moment; bytes = packet })) (others : KeepsOthers out old new) where
    pub emitted : new out ≡ with_appended (old out) octets → HasCause f f' (write.Done ≡ write.Failed) →
        Emits moment packet (file_desk failed l f r out log old) (file_desk failed l f' r' out log new) write.Done
    emitted appended cause =
        let same : new log ≡ old log = others log (λ e. apart (sym e)) in
        let done : ends_with_record (new out) ≡ true = ap ends_with_record appended ∙ (recorded (old out) octets _ one ends_out).ends in
        record {
          packets = ap file_packets appended ∙ (recorded (old out) octets _ one ends_out).packets;
          packet_part = λ _. ap packet_part appended ∙ (recorded (old out) octets _ one ends_out).part;
          lines = ap file_lines same;
          line_part = ap file_part same;
          whole = rw (done, same, ends_out) refl;
          cause = cause;
          keeps = record { later = cause.later; lender = refl; reads = reads; names = refl; octets = refl; others = λ other h. others other h.0 };
        }

    pub emit_failed : ((k : ℕ) × (new out ≡ with_appended (old out) (take k octets))) → HasCause f f' (write.Failed ≡ write.Failed) →
        Emits moment packet (file_desk failed l f r out log old) (file_desk true l f' r' out log new) write.Failed
    emit_failed (k, appended) cause =
        let same : new log ≡ old log = others log (λ e. apart (sym e)) in
        record {
          packets = elim (file_packets-part (old out) octets _ k one ends_out) [
            | inl (none, (j, part)) ↦ inl (ap file_packets appended ∙ none, (j, ap packet_part appended ∙ part ∙ ap (take j) is))
            | inr (all, part) ↦ inr (ap file_packets appended ∙ all, ap packet_part appended ∙ part)
          ];
          packet_part = λ e. cc;
          lines = ap file_lines same;
          line_part = ap file_part same;
          whole = refl;
          cause = cause;
          keeps = record { later = cause.later; lender = refl; reads = reads; names = refl; octets = refl; others = λ other h. others other h.0 };
        }

  module _ (text : List ℕ) (line : is_line text ≡ true) (others : KeepsOthers log old new) where
    pub put : new log ≡ with_appended (old log) text → HasCause f f' (write.Done ≡ write.Failed) →
        PutsLine text (file_desk failed l f r out log old) (file_desk failed l f' r' out log new) write.Done
    put appended cause =
        let same : new out ≡ old out = others out apart in
        let done : ends_with_line (new log) ≡ true = ap ends_with_line appended ∙ ends_with_line-line (old log) text line ends_log in
        record {
          packets = ap file_packets same;
          packet_part = ap packet_part same;
          lines = ap file_lines appended ∙ file_lines-line (old log) text line ends_log;
          line_part = λ _. ap file_part appended ∙ file_part-line (old log) text line ends_log;
          whole = rw (done, same, ends_log) refl;
          cause = cause;
          keeps = record { later = cause.later; lender = refl; reads = reads; names = refl; octets = refl; others = λ other h. others other h.1.0 };
        }

    pub put_failed : ((k : ℕ) × (new log ≡ with_appended (old log) (take k text))) → HasCause f f' (write.Failed ≡ write.Failed) →
        PutsLine text (file_desk failed l f r out log old) (file_desk true l f' r' out log new) write.Failed
    put_failed (k, appended) cause =
        let same : new out ≡ old out = others out apart in
        record {
          packets = ap file_packets same;
          packet_part = ap packet_part same;
          lines = elim (file_lines-part (old log) text k line ends_log) [
            | inl (none, (j, part)) ↦ inl (ap file_lines appended ∙ none, (j, ap file_part appended ∙ part))
            | inr (all, part) ↦ inr (ap file_lines appended ∙ all, ap file_part appended ∙ part)
          ];
          line_part = λ e. cc;
          whole = refl;
          cause = cause;
          keeps = record { later = cause.later; lender = refl; reads = reads; names = refl; octets = refl; others = λ other h. others other h.1.0 };
        }

pub ruleset file_desk_laws = (emitted, emit_failed, put, put_failed)

-- a whole desk over two files has both whole
pub whole_files : (failed : Bool) (out log out' log' : List ℕ) (content : List ℕ → Content) → (out' ∷ log' ∷ []) ≡ out ∷ log ∷ [] →
    (not failed && not (bytes_eq out' log') && ends_with_record (content out') && ends_with_line (content log')) ≡ true → are_whole out log content ≡ true
whole_files failed out log out' log' content names h =
    let o : out' ≡ out = cc in
    let n : log' ≡ log = cc in
    let record_end : ends_with_record (content out') ≡ true = (and_parts _ _ (and_parts _ _ h).0).1 in
    let line_end : ends_with_line (content log') ≡ true = (and_parts _ _ h).1 in
    let both : are_whole out' log' content ≡ true = and_from (ends_with_record (content out')) (ends_with_line (content log')) record_end line_end in
    subst (λ x. are_whole x log content ≡ true) o (subst (λ x. are_whole out' x content ≡ true) n both)
