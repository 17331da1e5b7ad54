use Rattle.std.proofs.Common.{◌≡◌, ◌-◌, ◌^◌, ◌≤◌, ℕ, List, [], None, true, length}
use Rattle.cf_outside.specs.Faults.{HasCauseIn}
use Rattle.cf_outside.specs.Files.{Content}
use Rattle.cf_outside.specs.Frames.{KeepsOtherFiles}
use Rattle.cf_outside.specs.Lines.{ends_with_line}
use Rattle.cf_view.specs.declared.Endpoint.{Endpoint}
use Rattle.cf_sift.specs.Sifting.{IsSiftingOf, IsReady}
use Rattle.cf_sift.specs.Names.{sift_names_value, sift_output_names}
use Rattle.cf_sift.specs.Taken.{IsTakenTo}
use Rattle.cf_sift.proofs.stream.take_stream.Given as goal

abbrev pub invariant-pieces : goal.invariant-pieces
invariant-pieces g l =
    let content = g.F.Files.content in
    record {
      taken : (client : Endpoint) (first : List ℕ → Content) → IsSiftingOf l.site client (sift_names_value l.names) first (content l.fn.files) [] None l.fn.sifting →
          IsTakenTo l.site client (sift_names_value l.names) first (content l.fn.files) (content l.files) l.at l.sifting;
      ready : IsReady l.site l.sifting;
      letters : l.sifting.heard.letters ≡ l.at;
      whole : ends_with_line (content l.files l.names.log.now) ≡ true;
      others : KeepsOtherFiles (sift_output_names (sift_names_value l.names)) (content l.fn.files) (content l.files);
      piece : length l.piece ≡ 4096;
      buffer : length l.buffer ≡ 4096;
      reads : HasCauseIn l.names.stream.now (g.F.Files.read_faults l.fn.files) (g.F.Files.read_faults l.files) ⊥;
      writes : g.F.Files.write_faults l.fn.files ≤ g.F.Files.write_faults l.files;
    }

abbrev pub decreases-pieces : goal.decreases-pieces
decreases-pieces g l = 2 ^ 30 - l.at
