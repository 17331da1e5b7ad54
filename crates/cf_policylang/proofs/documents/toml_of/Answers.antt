use Rattle.std.proofs.Common.{◌∙◌, refl, sym}
use Rattle.std.proofs.lemmas.Bool.{true≢false}
use Rattle.cf_policylang.proofs.Texts.{toml_read, refused_text}
use Rattle.cf_policylang.proofs.documents.toml_of.Goals as goal

pub returns-in-Ok : goal.returns-in-Ok
returns-in-Ok c = rw (toml_read c.args.bytes.now _ c.in-Ok.ensures.ok.0 c.in-Ok.ensures.ok.1) refl

-- the error was no want of memory
pub returns-else-is_memory : goal.returns-else-is_memory
returns-else-is_memory c =
    rw (c.into.ensures, c.refusal.ensures) (refused_text c.args.bytes.now
    (c.in-Err.ensures.refused (λ memory. true≢false (sym (c.is_memory.ensures.1 memory) ∙ c.if-is_memory.false))))
