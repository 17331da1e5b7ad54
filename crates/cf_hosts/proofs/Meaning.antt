-- What the document of a world means, and how long its text is at most.
use Rattle.std.proofs.Common.{◌≡◌, ℕ, ◌≤◌, false, nat_lt, List, length, Ok, refl, subst, arith}
use Rattle.std.proofs.lemmas.Bool.Decides.{nat_tests}
use Rattle.std.specs.Fmt.{digits}
use Rattle.toml.specs.Data.{Members, members_depth}
use Rattle.toml.specs.Text.{IsDocumentText, expressions}
use Rattle.toml_writer.specs.Text.{string_text, key_text, encoding_of, escaped, needs_escape, quotes_after}
use Rattle.cf_policylang.specs.Documents.{document, text_meaning}
use Rattle.cf_hosts.proofs.Lengths.{lines_room, lines_short}
use Rattle.cf_hosts.specs.Document.{IsDocument, made_policy}
use Rattle.cf_hosts.specs.Tables.{document_table}

document_means : document document_table ≡ Ok made_policy
unfolding digits
document_means = refl

room : lines_room (expressions document_table) ≡ 567
unfolding string_text key_text encoding_of escaped needs_escape quotes_after digits
room = refl

-- the text is no longer than a policy's text may be
is_short : (text : List ℕ) → IsDocumentText false document_table text → nat_lt 4194304 (length text) ≡ false
is_short text h =
    let short : length text ≤ lines_room (expressions document_table) = lines_short false (expressions document_table) text refl h in
    let room_of = room in
    grind (arith, nat_tests)

pub text_means : (text : List ℕ) (ms : Members) → ms ≡ document_table → (members_depth ms ≤ 80 → text_meaning text ≡ document ms) → IsDocumentText false ms text → IsDocument text
text_means text ms e means is =
    let here = rw e at means in
    let same : text_meaning text ≡ document document_table = here (omega arith) in
    let is_text : IsDocumentText false document_table text = subst (λ m. IsDocumentText false m text) e is in
    rw (is_short text is_text, same) document_means
