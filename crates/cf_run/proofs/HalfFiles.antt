-- The two files, where a write failed amid a half of an event.
use Rattle.std.proofs.Common.{◌≡◌, ◌+◌, ℕ, true, List, [], ◌++◌, length, take, map, Some, refl, sym, ap, ◌∙◌, append_assoc, inl, inr}
use Rattle.std.specs.List.{concat}
use Rattle.std.proofs.Math.Seq.{take-append-add}
use Rattle.std.proofs.lemmas.Grind.{flat_map-append}
use Rattle.std.proofs.lemmas.List.Folds.{concat-append, flat_map-map}
use Rattle.std.proofs.lemmas.Bool.{and_parts}
use Rattle.cf_outside.proofs.Lines.{lines_from-rest, nothing}
use Rattle.cf_outside.specs.Files.{Content, IsWhole, absent, holds, untold}
use Rattle.cf_outside.specs.Lines.{ends_with_line, file_lines, file_part}
use Rattle.cf_pcap.specs.Header.{output_octets}
use Rattle.cf_session.specs.Broken.{IsPartOf, octets_of}
use Rattle.cf_session.specs.Sent.{Sent}
use Rattle.cf_session.specs.Told.{emitted, with_more}
use Rattle.cf_run.specs.OutputFile.{ends_with_record, file_packets, packet_part, record_octets}
use Rattle.cf_run.specs.Run.{capture_of}
use Rattle.cf_run.specs.RunCapture.{HoldsOctets}
use Rattle.cf_run.proofs.OutputFiles.{file_is}

-- a whole file has nothing after its last record or line
pub no_packet_part : (file : Content) → ends_with_record file ≡ true → packet_part file ≡ []
no_packet_part untold e = refl
no_packet_part absent e = refl
no_packet_part (holds all) e = nothing _ (and_parts _ _ e).1

pub no_line_part : (file : Content) → ends_with_line file ≡ true → file_part file ≡ []
no_line_part untold e = refl
no_line_part absent e = refl
no_line_part (holds all) e = nothing _ e

log_is : (file : Content) (lines : List (List ℕ)) → file_lines file ≡ Some lines → file ≡ holds (concat lines ++ file_part file)
log_is untold lines h = cc
log_is absent lines h = cc
log_is (holds all) lines h = ap holds (sym (lines_from-rest [] all) ∙ ap (λ ls. concat ls ++ file_part (holds all)) (some_same h))
  where
    some_same : {A : Type 0} {x y : A} → Some x ≡ Some y → x ≡ y
    some_same e = cc

-- what stands after whole things is a beginning of the octets that come next
part_taken : (next was now : List ℕ) → was ≡ [] → IsPartOf next was now → (some : ℕ) × (now ≡ take some next)
part_taken next was now none (inl same) = (0, same ∙ none)
part_taken next was now none (inr part) = part

octets-append : (a b : List Sent) → octets_of record_octets (a ++ b) ≡ octets_of record_octets a ++ octets_of record_octets b
octets-append a b = flat_map-append (λ (s : Sent). record_octets (emitted s)) a b

joined : (header fore gone left : List ℕ) (some : ℕ) → header ++ ((fore ++ gone) ++ take some left) ≡ (header ++ fore) ++ take (length gone + some) (gone ++ left)
joined header fore gone left some =
    ap (λ xs. header ++ xs) (append_assoc fore gone (take some left)) ∙ sym (append_assoc header fore (gone ++ take some left))
    ∙ ap (λ xs. (header ++ fore) ++ xs) (sym (take-append-add gone left some))

-- OUT has the packets of the events before, the first ones of the half, and a beginning of the next one
pub capture_amid : (before after : Content) (fore gone left : List Sent) (was : List ℕ) → IsWhole before output_octets → file_packets after ≡ with_more (file_packets before) (map emitted (fore ++ gone)) → was ≡ [] →
    IsPartOf (octets_of record_octets left) was (packet_part after) → (some : ℕ) × HoldsOctets before after (capture_of fore ++ take some (octets_of record_octets (gone ++ left)))
capture_amid untold after fore gone left was w h none part = (0, tt)
capture_amid absent after fore gone left was w h none part = absurd w
capture_amid (holds octets) after fore gone left was w h none part =
    let first : file_packets (holds output_octets) ≡ Some [] = refl in
    let all = fore ++ gone in
    let told : file_packets after ≡ Some (map emitted all) =
    h ∙ ap (λ xs. with_more (file_packets (holds xs)) (map emitted all)) (sym w) ∙ ap (λ ps. with_more ps (map emitted all)) first in
    let behind = part_taken (octets_of record_octets left) was (packet_part after) none part in
    let gone_octets = octets_of record_octets gone in (
      length gone_octets + behind.0,
      file_is after (map emitted all) told
          ∙ ap (λ rs. holds (output_octets ++ (rs ++ packet_part after))) (flat_map-map record_octets emitted all ∙ octets-append fore gone)
          ∙ ap (λ p. holds (output_octets ++ ((octets_of record_octets fore ++ gone_octets) ++ p))) behind.1
          ∙ ap holds (joined output_octets (octets_of record_octets fore) gone_octets (octets_of record_octets left) behind.0)
          ∙ ap (λ xs. holds (capture_of fore ++ take (length gone_octets + behind.0) xs)) (sym (octets-append gone left)),
    )

-- LOG has the lines of the same, the first ones of the half, and a beginning of the next one
pub log_amid : (before after : Content) (fore put missing : List (List ℕ)) (was : List ℕ) → IsWhole before [] → file_lines after ≡ with_more (file_lines before) (fore ++ put) → was ≡ [] →
    IsPartOf (concat missing) was (file_part after) → (some : ℕ) × HoldsOctets before after (concat fore ++ take some (concat (put ++ missing)))
log_amid untold after fore put missing was w h none part = (0, tt)
log_amid absent after fore put missing was w h none part = absurd w
log_amid (holds octets) after fore put missing was w h none part =
    let told : file_lines after ≡ Some (fore ++ put) = h ∙ ap (λ xs. with_more (file_lines (holds xs)) (fore ++ put)) (sym w) in
    let behind = part_taken (concat missing) was (file_part after) none part in (
      length (concat put) + behind.0,
      log_is after (fore ++ put) told
          ∙ ap (λ ls. holds (ls ++ file_part after)) (concat-append fore put)
          ∙ ap (λ p. holds ((concat fore ++ concat put) ++ p)) behind.1
          ∙ ap holds (joined [] (concat fore) (concat put) (concat missing) behind.0)
          ∙ ap (λ xs. holds (concat fore ++ take (length (concat put) + behind.0) xs)) (sym (concat-append put missing)),
    )
