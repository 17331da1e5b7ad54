use Rattle.std.proofs.Common.{ℕ, List, subst, refl, ◌∙◌, arith}
use Rattle.std.proofs.lemmas.Grind.{common_steps}
use Rattle.cf_outside.specs.Files.{Content, IsAtEnd}
use Rattle.cf_outside.proofs.Content.{begins_all, begins_more}
use Rattle.cf_outside.proofs.Frames.{cause_on}
use Rattle.cf_outside.proofs.whole.read_through.Goals as goal

pub returns-in-Failed : goal.returns-in-Failed
returns-in-Failed g c =
    let inv = c.turns.invariant in
    record {
      whole = tt;
      short = tt;
      long = λ e. cc;
      reads = record {
        same = c.in-Failed.ensures.same ∙ inv.same;
        cause = cause_on inv.reads c.in-Failed.ensures.cause (λ failed. refl);
        writes = c.in-Failed.ensures.writes ∙ inv.writes;
      };
    }

pub returns-in-End : goal.returns-in-End
returns-in-End g c =
    let content = g.F.Files.content in
    let inv = c.turns.invariant in
    let file = content c.args.files.now c.args.name.now in
    let ends : IsAtEnd file c.len.result = subst (λ (f : List ℕ → Content). IsAtEnd (f c.args.name.now) c.len.result) inv.same c.in-End.ensures.bytes in
    record {
      whole = begins_all file c.turns.bytes.items c.len.result (omega arith) inv.begins ends;
      short = inv.short;
      long = λ e. cc;
      reads = record {
        same = c.in-End.ensures.same ∙ inv.same;
        cause = cause_on inv.reads c.in-End.ensures.cause (λ failed. cc);
        writes = c.in-End.ensures.writes ∙ inv.writes;
      };
    }

pub turns-preserved : goal.turns-preserved
turns-preserved g c =
    let inv = c.turns.invariant in
    record {
      begins = grind (arith, begins_more);
      short = grind (arith, common_steps);
      same = c.in-Got.ensures.same ∙ inv.same;
      reads = cause_on inv.reads c.in-Got.ensures.cause (λ failed. absurd failed);
      writes = c.in-Got.ensures.writes ∙ inv.writes;
    }
