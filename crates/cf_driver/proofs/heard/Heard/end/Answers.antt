use Rattle.cf_driver.proofs.Taking.{misses_end, on_err, takes_end}
use Rattle.cf_driver.proofs.heard.Heard.end.Goals as goal

pub returns-in_err-ended-clause-misses : goal.returns-in_err-ended-clause-misses
returns-in_err-ended-clause-misses g c =
    on_err _ _ (misses_end _ _ c.args.side _ c.ended.new.self _ _ c.ended.new.to_client c.ended.new.to_controller _ (g.D.Desk.value c.ended.new.desk).lines _ _ _ _ c.len-rest.ensures.value c.in_err-ended.ensures.fails_apart)

pub returns-clause-takes : goal.returns-clause-takes
returns-clause-takes g c =
    takes_end _ _ c.args.side _ _ _ _ _ _ _ _ _ _ c.len-rest.ensures.value c.in_ok-ended.ensures.apart c.requires.little c.requires.of_site c.requires.debt c.ended.ensures.lane c.in_ok-ended.ensures.queues
