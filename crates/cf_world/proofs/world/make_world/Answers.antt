use Rattle.std.proofs.Common.{List, ap, inr, ◌∙◌, ℕ}
use Rattle.std.proofs.lemmas.Result.{err_from_is_err_and}
use Rattle.std.specs.Prelude.{string_bytes}
use Rattle.cf_outside.specs.Files.{Content, content_after_write}
use Rattle.cf_world.proofs.SoFar.{header_part, world_made}
use Rattle.cf_world.specs.World.{HoldsPolicy, WorldNamesValue, world_names_value}
use Rattle.cf_world.proofs.world.make_world.Given.{Over}
use Rattle.cf_world.proofs.world.make_world.Goals as goal
use Rattle.cf_world.proofs.world.make_world.Goals.{After-begin_capture}

-- the policy was written
module _ (g : Over) (c : After-begin_capture g) where
  abbrev names : WorldNamesValue
  names = world_names_value c.args.names.now

  abbrev before : List ℕ → Content
  before = g.F.Files.content c.args.files.now

  abbrev mid : List ℕ → Content
  mid = g.F.Files.content c.write_whole.new.files

  policy : HoldsPolicy (before names.policy) (mid names.policy)
  policy = record {
    text = string_bytes c.in_ok-document.document.text;
    means = c.in_ok-document.ensures.text;
    in_file = c.in_ok-write_whole.ensures.done ∙ ap (λ octets. content_after_write (before names.policy) octets) c.as_bytes.ensures.value;
  }

pub make_records-requires-clause-sound : goal.make_records-requires-clause-sound
make_records-requires-clause-sound g c = c.in-Ok.ensures.sound c.in_ok-document.document.policy.assets

pub returns-in_err-begin_capture-clause-makes : goal.returns-in_err-begin_capture-clause-makes
returns-in_err-begin_capture-clause-makes g c =
    let at = (goal.at.returns-in_err-begin_capture-clause-makes g c).After-begin_capture in
    let is = err_from_is_err_and c.from_residual-in_err-begin_capture.result c.from_residual-in_err-begin_capture.ensures.1 in
    rw is.1 (inr (inr (header_part c.args.sessions (names g at) (before g at) (mid g at) (g.F.Files.content c.begin_capture.new.files) c.requires.apart (policy g at)
    c.write_whole.ensures.writes.others c.begin_capture.ensures.writes.others c.in_err-begin_capture.ensures.partly)))

pub returns-clause-makes : goal.returns-clause-makes
returns-clause-makes g c =
    let at = (goal.at.returns-clause-makes g c).After-begin_capture in
    world_made c.args.sessions (names g at) (before g at) (mid g at) (g.F.Files.content c.begin_capture.new.files) c.requires.apart (policy g at)
    c.write_whole.ensures.writes.others c.begin_capture.ensures.writes.others (g.F.Files.content c.make_records.new.files) c.make_records.result
    c.in_ok-begin_capture.ensures.done c.make_records.ensures.writes.others c.make_records.ensures.made
