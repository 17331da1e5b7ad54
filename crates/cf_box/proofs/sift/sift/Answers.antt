use Rattle.std.proofs.Common.{arith, refl, subst, Err, sym, inl}
use Rattle.cf_words.specs.Command.{Sift}
use Rattle.cf_ending.specs.Outside.{FilesValue, files_value, outside}
use Rattle.cf_box.specs.PolicyFile.{FindsSite}
use Rattle.cf_box.specs.Sift.{SiftLeaves}
use Rattle.cf_box.proofs.Passing.{unread_leaves}
use Rattle.cf_box.proofs.Reading.{rises_both, since_read}
use Rattle.cf_box.proofs.Sifting.{sift_cuts, sift_ends, sift_fails}
use Rattle.cf_policy.specs.Site.{SiteValue}
use Rattle.cf_sift.specs.Names.{SiftNamesValue, sift_names_value}
use Rattle.cf_sift.specs.Sifted.{IsSifted, SiftEnds}
use Rattle.cf_outside.specs.Faults.{Rose}
use Rattle.cf_box.proofs.sift.sift.Given.{Over}
use Rattle.cf_box.proofs.sift.sift.Goals as goal
use Rattle.cf_box.proofs.sift.sift.Goals.{After-sift_stream}

pub returns-in-Err-clause-meets : goal.returns-in-Err-clause-meets
returns-in-Err-clause-meets g c = λ sink pair. (
  c.in-Err.ensures.stop (Sift c.args.policy_file.now c.args.asset_name.now c.args.client (sift_names_value c.args.names.now)) sink pair refl,
  unread_leaves (SiftLeaves c.args.policy_file.now c.args.asset_name.now c.args.client (sift_names_value c.args.names.now) _ _) _ _ (λ same. inl same) (λ r same. same) (λ same. same)
      c.in-Err.stop c.in-Err.ensures.early (record { content = c.load_policy.ensures.only.content; sink = refl; pair = refl }),
)

-- the site was found, and its stream was taken
module _ (g : Over) (c : After-sift_stream g) where
  abbrev before : FilesValue
  before = files_value g.F.Files c.args.files.now

  abbrev after : FilesValue
  after = files_value g.F.Files c.sift_stream.new.files

  abbrev names : SiftNamesValue
  names = sift_names_value c.args.names.now

  abbrev site : SiteValue
  site = c.in-Some.site

  finds : FindsSite (before.content c.args.policy_file.now) c.args.asset_name.now site
  finds = record { policy = c.in-Ok.policy; has = c.in-Ok.ensures.has; named = sym c.in-Some.ensures.named }

pub returns-in-Err-sift_stream-clause-meets : goal.returns-in-Err-sift_stream-clause-meets
returns-in-Err-sift_stream-clause-meets g c = λ sink pair.
    let at = (goal.at.returns-in-Err-sift_stream-clause-meets g c).After-sift_stream in
    let fault = c.in-Err-sift_stream.fault in
    let stream = c.in-Err-sift_stream.ensures in
    let only = c.load_policy.ensures.only in
    let ends = subst (λ k. SiftEnds (site g at) c.args.client (names g at) k (after g at).content (Err fault)) only.content stream.ends in
    sift_fails c.args.policy_file.now c.args.asset_name.now c.args.client (names g at) (outside (before g at) sink pair) (outside (after g at) sink pair) (site g at) (finds g at) refl refl
    fault c.sift_stop.result c.sift_stop.ensures
    (λ is. since_read (before g at) (files_value g.F.Files c.load_policy.new.files) (after g at) only c.args.names.now.stream.now (stream.read.rose is))
    (λ is. subst (λ n. Rose n (after g at).write_faults) only.writes (stream.write.rose is))
    ends

pub returns-in-Some-cut-clause-later : goal.returns-in-Some-cut-clause-later
returns-in-Some-cut-clause-later g c =
    let faults = g.F.Files.read_faults in
    record {
      reads = rises_both c.args.policy_file.now c.args.names.now.stream.now (faults c.args.files.now) (faults c.load_policy.new.files) (faults c.sift_stream.new.files)
          c.load_policy.ensures.only.reads c.in-Ok-sift_stream.ensures.read;
      writes = omega (arith, c.load_policy.ensures.only.writes, c.in-Ok-sift_stream.ensures.write.later);
    }

pub returns-in-Some-cut-clause-meets : goal.returns-in-Some-cut-clause-meets
returns-in-Some-cut-clause-meets g c = λ sink pair.
    let at = (goal.at.returns-in-Some-cut-clause-meets g c).After-sift_stream in
    sift_cuts c.args.policy_file.now c.args.asset_name.now c.args.client (names g at) (outside (before g at) sink pair) (outside (after g at) sink pair) (site g at) (finds g at) refl refl
    c.in-Ok-sift_stream.done c.in-Some-cut.reason c.in-Some-cut.is
    (subst (λ k. IsSifted (site g at) c.args.client (names g at) k (after g at).content c.in-Ok-sift_stream.done) c.load_policy.ensures.only.content c.in-Ok-sift_stream.ensures.ends)

pub returns-clause-meets : goal.returns-clause-meets
returns-clause-meets g c = λ sink pair.
    let at = (goal.at.returns-clause-meets g c).After-sift_stream in
    sift_ends c.args.policy_file.now c.args.asset_name.now c.args.client (names g at) (outside (before g at) sink pair) (outside (after g at) sink pair) (site g at) (finds g at) refl refl
    c.in-Ok-sift_stream.done c.in-None.is
    (subst (λ k. IsSifted (site g at) c.args.client (names g at) k (after g at).content c.in-Ok-sift_stream.done) c.load_policy.ensures.only.content c.in-Ok-sift_stream.ensures.ends)
