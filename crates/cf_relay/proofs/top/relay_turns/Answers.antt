use Rattle.cf_lane.specs.Caller.{none_before}
use Rattle.cf_relay.proofs.Ending.{close_faults, close_idles, done_ends, stop_ends, stop_faults, stop_idles}
use Rattle.cf_relay.proofs.OnePair.{told_back}
use Rattle.cf_relay.proofs.Starting.{some_idle}
use Rattle.cf_relay.proofs.Turned.{stopped_run, turned_run}
use Rattle.cf_relay.specs.Relaying.{relaying_value}
use Rattle.cf_relay.specs.declared.directions.Directions.TheVariants as both
use Rattle.cf_relay.proofs.top.relay_turns.Goals as goal

pub returns-in-Ok-clause-ends : goal.returns-in-Ok-clause-ends
returns-in-Ok-clause-ends g c = λ base listen m st.
    let go = c.in-Ok.ensures.goes in (
      go.1.answers,
      told_back _ _ go.1.answers go.1.adds.tells,
      done_ends c.args.site.now listen c.args.most c.args.client m base go.1.answers (relaying_value c.run_pair.new.self) (g.D.Desk.value c.run_pair.new.desk) (g.D.Desk.value c.close.new.desk)
          (turned_run both.Together c.args.site.now none_before listen c.args.most c.args.client m base _ _ st go.0 go.1 c.in-Ok.ensures.few) c.in-Ok.ensures.closed c.close.result c.close.ensures.closes,
    )

pub returns-in-Ok-clause-idle : goal.returns-in-Ok-clause-idle
returns-in-Ok-clause-idle g c = λ base listen m st start rose.
    close_idles c.args.site.now c.args.client (relaying_value c.run_pair.new.self) (g.D.Desk.value c.run_pair.new.desk) (g.D.Desk.value c.close.new.desk) c.args.most start _ c.close.result c.close.ensures.closes

pub returns-clause-ends : goal.returns-clause-ends
returns-clause-ends g c = λ base listen m st.
    let go = c.in-Err.ensures.stops in (
      go.1.answers,
      told_back _ _ go.1.answers go.1.adds.tells,
      stop_ends c.args.site.now listen c.args.most c.args.client m base go.1.answers (relaying_value c.run_pair.new.self) (g.D.Desk.value c.run_pair.new.desk) (g.D.Desk.value c.stopped.new.desk) c.in-Err.stop
          (stopped_run both.Together c.args.site.now none_before listen c.args.most c.args.client m base _ _ st (some_idle _ _ c.requires.sound.few) go.0 c.in-Err.stop go.1) c.in-Err.ensures.whole c.stopped.result c.stopped.ensures.stops,
    )

pub returns-clause-idle : goal.returns-clause-idle
returns-clause-idle g c = λ base listen m st start rose.
    let go = c.in-Err.ensures.stops in
    let h = stopped_run both.Together c.args.site.now none_before listen c.args.most c.args.client m base _ _ st (some_idle _ _ c.requires.sound.few) go.0 c.in-Err.stop go.1 in
    stop_idles c.args.site.now c.args.most _ _ c.args.client (relaying_value c.run_pair.new.self) (g.D.Desk.value c.run_pair.new.desk) (g.D.Desk.value c.stopped.new.desk) start _ c.in-Err.stop c.stopped.result h.stands c.stopped.ensures.stops
    (go.1.adds.idles start rose)

pub returns-in-Ok-clause-link : goal.returns-in-Ok-clause-link
returns-in-Ok-clause-link g c =
    close_faults c.args.site.now c.args.client (relaying_value c.run_pair.new.self) (g.D.Desk.value c.run_pair.new.desk) (g.D.Desk.value c.close.new.desk) _ _ c.close.result c.close.ensures.closes c.in-Ok.ensures.goes.1.still

pub returns-clause-link : goal.returns-clause-link
returns-clause-link g c =
    let go = c.in-Err.ensures.stops.1 in
    stop_faults c.args.site.now c.args.client (relaying_value c.run_pair.new.self) (g.D.Desk.value c.run_pair.new.desk) (g.D.Desk.value c.stopped.new.desk) _ _ c.in-Err.stop c.stopped.result c.stopped.ensures.stops go.adds.link go.cause
