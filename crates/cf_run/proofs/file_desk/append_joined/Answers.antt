use Rattle.std.proofs.Common.{◌+◌, ◌++◌, ◌∙◌, List, ap, arith, length, subst, ℕ}
use Rattle.cf_outside.specs.Files.{Appends}
use Rattle.cf_run.proofs.Joined.{joined}
use Rattle.cf_run.proofs.file_desk.append_joined.Goals as goal

pub returns-clause-file : goal.returns-clause-file
returns-clause-file g c =
    let name = c.args.name.now in
    let content = g.F.Files.content in
    let head = c.copy_from_slice.new.self in
    let packet = c.copy_from_slice-2.new.self in
    let is = joined head _ packet (16 + length c.args.packet.now) (omega arith) (omega arith) ∙ ap (λ (xs : List ℕ). xs ++ packet) c.copy_from_slice.ensures.after ∙ ap (λ (xs : List ℕ). c.args.head.now ++ xs) c.copy_from_slice-2.ensures.after in
    subst (λ (xs : List ℕ). Appends xs (content c.args.files.now name) (content c.append.new.self name) c.append.result) is c.append.ensures.file
