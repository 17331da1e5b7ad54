use Rattle.std.proofs.Common.{IfErr, OnOk, ap, rules, sym, ℕ}
use Rattle.std.proofs.lemmas.Option.{same_Some}
use Rattle.cf_links.specs.Links.{LinksPlace}
use Rattle.cf_relay.proofs.OnePair.{at_pair}
use Rattle.cf_relay.specs.Only.{only_links}
use Rattle.cf_relay.specs.Relaying.{relaying_value}
use Rattle.cf_relay.specs.Scene.{DoesBetween, StopsBetween, scene}
use Rattle.cf_relay.specs.Turn.{turns}
use Rattle.cf_relay.specs.declared.directions.Directions.TheVariants as both
use Rattle.cf_relay.proofs.relaying.Relaying.run_pair.Goals as goal

pub returns-clause-goes : goal.returns-clause-goes
returns-clause-goes g c =
    let from = scene (relaying_value c.args.self.now) (only_links g.P.Pair c.args.pair.now) (g.D.Desk.value c.args.desk.now) in
    at_pair _ c.run.new.links.pair.now
    (λ x. OnOk c.run.result ((n : ℕ) × DoesBetween c.args.site.now c.args.most (turns both.Together n) from (scene (relaying_value c.run.new.self) (only_links g.P.Pair x) (g.D.Desk.value c.run.new.desk))))
    (let own = sym (same_Some _ _ (ap (λ (p : LinksPlace). p.lender) c.run.ensures.place)) in search rules) c.run.ensures.goes

pub returns-clause-stops : goal.returns-clause-stops
returns-clause-stops g c =
    let from = scene (relaying_value c.args.self.now) (only_links g.P.Pair c.args.pair.now) (g.D.Desk.value c.args.desk.now) in
    at_pair _ c.run.new.links.pair.now
    (λ x. IfErr c.run.result (λ stop. (n : ℕ) × StopsBetween c.args.site.now c.args.most (turns both.Together n) stop from (scene (relaying_value c.run.new.self) (only_links g.P.Pair x) (g.D.Desk.value c.run.new.desk))))
    (let own = sym (same_Some _ _ (ap (λ (p : LinksPlace). p.lender) c.run.ensures.place)) in search rules) c.run.ensures.stops
