use Rattle.std.proofs.Common.{◌≡◌, ap, rules}
use Rattle.cf_driver.specs.Takes.{MissesEnd}
use Rattle.cf_lane.specs.Handled.{State}
use Rattle.cf_outside.specs.Files.{Content}
use Rattle.cf_outside.specs.Lines.{file_lines, file_part}
use Rattle.cf_view.specs.declared.Side.TheVariants as side
use Rattle.cf_sift.specs.Sifting.{state_of}
use Rattle.cf_sift.proofs.Draining.{misses}
use Rattle.cf_sift.proofs.sifting.Sifting.end.Goals as goal

pub returns-clause-misses : goal.returns-clause-misses
returns-clause-misses g c =
    let files = c.log_desk-desk.ensures.files in
    let log = c.log_desk-desk.ensures.log in
    let same : g.F.Files.content c.log_desk-desk.result.files.now c.log_desk-desk.result.log.now ≡ g.F.Files.content c.args.files.now c.args.log.now = cc in
    misses _ (λ (s : State) (l : Content). MissesEnd c.args.site.now 0 side.Client c.args.self.now.heard.rest.items s (file_lines l) (file_part l))
    _ _ _ _ (ap (state_of c.args.self.now) same) (search rules) c.end.ensures.misses
