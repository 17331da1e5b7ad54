use Rattle.cf_serve.proofs.Outlasting.{sessions_last}
use Rattle.cf_serve.proofs.Rising.{all_stood}
use Rattle.cf_serve.specs.Phase.{listenings}
use Rattle.cf_serve.specs.Rounds.{turns_of}
use Rattle.cf_serve.proofs.laws.rates_last_over_sessions.Goals as goal

pub returns : goal.returns
returns c = record {
  last = λ places most entries lines served place address at sessions is own.
      sessions_last (listenings places) place address at is c.rates_hold.ensures c.has_one_judgement.ensures (turns_of served.rounds) served.begun
      (all_stood (listenings places) served.rounds served.lobby served.standing served.in_turn) sessions own;
}
