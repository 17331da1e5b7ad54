use Rattle.std.proofs.Common.{◌≡◌, ◌+◌, ◌++◌, [], List, ℕ, length, refl, ap, ◌∙◌, arith, subst}
use Rattle.std.proofs.lemmas.List.{append-nil}
use Rattle.cf_pcap.specs.Header.{output_header}
use Rattle.cf_pcap.specs.Record.{Whole, head_octets, record_of}
use Rattle.cf_run.proofs.OutputFiles.{packet_in-record, packet_in-beginning}
use Rattle.cf_run.proofs.file_desk.record_head.Goals as goal

pub returns-clause-one : goal.returns-clause-one
returns-clause-one c =
    let body = c.args.packet.now in
    let head = c.write_record_head.new.out in
    let octets = head_octets c.args.moment (length body) ++ body in
    let whole : head ++ body ++ [] ≡ octets = append-nil (head ++ body) ∙ ap (λ xs. xs ++ body) c.write_record_head.ensures.octets in
    let read : record_of output_header octets ≡ Whole c.args.moment body (16 + length body) =
    subst (λ (xs : List ℕ). record_of output_header xs ≡ Whole c.args.moment body (16 + length body)) whole (c.write_record_head.ensures.again body [] refl) in
    record {
      some = omega arith;
      whole = packet_in-record octets (record { moment = c.args.moment; bytes = body }) (16 + length body) refl read;
      first = λ count below. packet_in-beginning octets body c.args.moment count refl c.requires.packet below;
    }
