use Rattle.std.proofs.Common.{ap, arith, ◌*◌, []}
use Rattle.cf_relay.proofs.Files.{ends_same, write_first}
use Rattle.cf_relay.proofs.OnePair.{all_none}
use Rattle.cf_relay.proofs.top.relay.Goals as goal

pub returns-in-Failed-clause-ends : goal.returns-in-Failed-clause-ends
returns-in-Failed-clause-ends g c =
    ([], all_none _, write_first c.args.site.now c.args.listen (2 * c.args.idles) (g.F.Files.content c.args.files.now c.args.log.now) (g.F.Files.content c.create.new.self c.args.log.now) (omega arith) c.in-Failed.ensures.file)

pub returns-clause-ends : goal.returns-clause-ends
returns-clause-ends g c =
    let e = c.relay_logged.ensures.ends (g.F.Files.content c.args.files.now c.args.log.now) c.in-Done.ensures.file in
    (e.0, e.1, ends_same c.args.site.now c.args.listen _ (2 * c.args.idles) _ e.0 _ c.relay_logged.result (ap (λ n. 2 * n) c.from-most.ensures) e.2)
