use Rattle.std.proofs.Common.{[], None, List, inl, inr, ℕ}
use Rattle.std.proofs.lemmas.Result.{err_from_is_err_and}
use Rattle.cf_outside.specs.Files.{Content}
use Rattle.cf_sift.specs.Names.{SiftNamesValue, sift_names_value}
use Rattle.cf_sift.specs.Sifted.{created, stored_client}
use Rattle.cf_sift.specs.Sifting.{IsSiftingOf}
use Rattle.cf_sift.proofs.Sifted.{fault_ends, sifted, some_fails, starts_sifting}
use Rattle.cf_sift.proofs.sift.sift_stream.Given.{Over}
use Rattle.cf_sift.proofs.sift.sift_stream.Goals as goal
use Rattle.cf_sift.proofs.sift.sift_stream.Goals.{In_ok-create_outputs}

-- the outputs were created
module _ (g : Over) (c : In_ok-create_outputs g) where
  abbrev names : SiftNamesValue
  names = sift_names_value c.args.names.now

  abbrev before : List ℕ → Content
  before = g.F.Files.content c.args.files.now

  abbrev mid : List ℕ → Content
  mid = g.F.Files.content c.create_outputs.new.files

  start : IsSiftingOf c.args.site.now (stored_client c.args.client) names (created before) mid [] None c.in_ok-sifting.sifting
  start =
      let n = c.in_ok-sifting.ensures in
      let o = c.in_ok-create_outputs.ensures in
      starts_sifting c.args.site.now c.args.client names before mid o.done o.writes.others c.requires.apart c.in_ok-sifting.sifting n.follows n.client n.letters n.ready.controller.goes

pub returns-in_err-create_outputs-clause-ends : goal.returns-in_err-create_outputs-clause-ends
returns-in_err-create_outputs-clause-ends g c =
    let o = c.in_err-create_outputs.ensures in
    let is = err_from_is_err_and c.from_residual-in_err-create_outputs.result c.from_residual-in_err-create_outputs.ensures.1 in
    rw (is.1, is.2) (inl (record { fails = o.fault; others = o.writes.others }))

pub returns-in_err-cut-clause-ends : goal.returns-in_err-cut-clause-ends
returns-in_err-cut-clause-ends g c =
    let at = (goal.at.returns-in_err-cut-clause-ends g c).In_ok-create_outputs in
    let o = c.in_ok-create_outputs.ensures in
    let t = c.take_stream.ensures in
    fault_ends c.args.site.now c.args.client (names g at) (before g at) (mid g at) o.done o.writes.others c.requires.apart
    (g.F.Files.content c.take_stream.new.files) c.take_stream.result c.in_err-cut.field-0.0 c.from_residual-in_err-cut.result
    c.in_err-cut.ensures.others c.in_err-cut.was c.from_residual-in_err-cut.ensures.1
    (λ r. t.read r (stored_client c.args.client) _ (start g at)) (λ w. t.write w (stored_client c.args.client) _ (start g at)) t.memory

pub returns-in_err-log_cut-clause-ends : goal.returns-in_err-log_cut-clause-ends
returns-in_err-log_cut-clause-ends g c =
    let at = (goal.at.returns-in_err-log_cut-clause-ends g c).In_ok-create_outputs in
    let o = c.in_ok-create_outputs.ensures in
    let t = c.in_ok-cut.ensures in
    let new = g.F.Files.content c.log_cut.new.files in
    let is = err_from_is_err_and c.from_residual-in_err-log_cut.result c.from_residual-in_err-log_cut.ensures.1 in
    rw (is.1, is.2) (inr (some_fails c.args.site.now c.args.client (names g at) (before g at) (mid g at) o.done o.writes.others c.requires.apart
    (g.F.Files.content c.take_stream.new.files) c.in_ok-cut.cut c.take_stream.new.sifting (t.taken (stored_client c.args.client) _ (start g at)) t.others
    new c.in_err-log_cut.ensures.some c.log_cut.ensures.writes.others c.in_err-log_cut.ensures.fails))

pub returns-clause-ends : goal.returns-clause-ends
returns-clause-ends g c =
    let at = (goal.at.returns-clause-ends g c).In_ok-create_outputs in
    let o = c.in_ok-create_outputs.ensures in
    let t = c.in_ok-cut.ensures in
    let l = c.in_ok-log_cut.ensures in
    sifted c.args.site.now c.args.client (names g at) (before g at) (mid g at) o.done o.writes.others c.requires.apart
    (g.F.Files.content c.take_stream.new.files) c.in_ok-cut.cut c.take_stream.new.sifting (t.taken (stored_client c.args.client) _ (start g at)) t.others
    (g.F.Files.content c.log_cut.new.files) c.admitted.result c.refused.result l.writes.others l.lines l.whole c.admitted.ensures c.refused.ensures
