use Rattle.std.proofs.Common.{rules, sym}
use Rattle.std.proofs.lemmas.Option.{same_Some}
use Rattle.cf_relay.proofs.Files.{begins_file, both_true, ends_over, holds_file, last_content}
use Rattle.cf_relay.specs.Ends.{RelayEnds, file_log}
use Rattle.cf_relay.proofs.top.relay_logged.Goals as goal

pub returns-clause-ends : goal.returns-clause-ends
returns-clause-ends g c = λ first created.
    let site = c.args.site.now in
    let d = c.relay_desk.new.desk in
    let e = c.relay_desk.ensures.ends in (
      e.0,
      e.1,
      last_content g.F.Files.content _ d.files.now c.args.log.now d.log.now (λ x. RelayEnds site c.args.listen c.args.most (file_log first x) ⊥ e.0 c.relay_desk.result)
          (let own = sym (same_Some _ _ c.relay_desk.ensures.log.keeps.lender) in search rules) c.relay_desk.ensures.log.keeps.names
          (ends_over site c.args.listen c.args.most _ (file_log first (g.F.Files.content d.files.now d.log.now)) e.0
          (λ ls h. holds_file first (g.F.Files.content c.args.files.now c.args.log.now) (g.F.Files.content d.files.now d.log.now) ls created h.0 (both_true d.failed _ h.1))
          (λ ls h. begins_file first (g.F.Files.content c.args.files.now c.args.log.now) (g.F.Files.content d.files.now d.log.now) ls created h) ⊥ c.relay_desk.result e.2),
    )
