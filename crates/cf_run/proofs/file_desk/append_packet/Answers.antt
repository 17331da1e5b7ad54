use Rattle.std.proofs.Common.{◌++◌, List, subst, ℕ}
use Rattle.cf_outside.specs.Files.{Appends}
use Rattle.cf_run.proofs.file_desk.append_packet.Goals as goal

pub returns-then-packet-le-SHORT_PACKET-clause-file : goal.returns-then-packet-le-SHORT_PACKET-clause-file
returns-then-packet-le-SHORT_PACKET-clause-file g c =
    let name = c.args.name.now in
    let content = g.F.Files.content in
    subst (λ (head : List ℕ). Appends (head ++ c.args.packet.now) (content c.args.files.now name) (content c.append_joined.new.files name) c.append_joined.result) c.record_head-head.ensures.octets c.append_joined.ensures.file

pub returns-else-packet-le-SHORT_PACKET-clause-file : goal.returns-else-packet-le-SHORT_PACKET-clause-file
returns-else-packet-le-SHORT_PACKET-clause-file g c =
    let name = c.args.name.now in
    let content = g.F.Files.content in
    subst (λ (head : List ℕ). Appends (head ++ c.args.packet.now) (content c.args.files.now name) (content c.append_parts.new.files name) c.append_parts.result) c.record_head-head.ensures.octets c.append_parts.ensures.file
