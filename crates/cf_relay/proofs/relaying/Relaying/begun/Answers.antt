use Rattle.std.proofs.Common.{subst, sym, ◌∷◌, []}
use Rattle.cf_outside.specs.Pair.{Moment, met_at}
use Rattle.cf_relay.proofs.Starting.{begun_is, first_stands}
use Rattle.cf_relay.specs.Relaying.{RelayingValue}
use Rattle.cf_relay.specs.Stands.{StandsFor}
use Rattle.cf_relay.proofs.relaying.Relaying.begun.Goals as goal

pub returns-clause-stands : goal.returns-clause-stands
returns-clause-stands c = λ site past listen client first new.
    subst (λ (v : RelayingValue). StandsFor site past first (met_at listen site.first.endpoint client ∷ Moment c.args.moment ∷ []) v first)
    (sym (begun_is c.args.lane c.args.to_client c.args.to_controller _ _ _ _ c.args.moment c.requires.to_client c.requires.to_controller c.none.ensures.rest c.none.ensures.letters c.none-2.ensures.rest c.none-2.ensures.letters))
    (first_stands site past listen client c.args.moment first c.args.lane new)
