use Rattle.cf_isolation.proofs.Logging.{alike_in_lines, logs_hold, logs_isolated, logs_own, logs_to_the_next}
use Rattle.cf_isolation.proofs.laws.logs_hold_sessions.Goals as goal

pub returns : goal.returns
returns c =
    let law = c.sessions_are_right.ensures in
    let works = c.work_is_of_what_was_taken.ensures in
    let held = logs_hold law works in
    let owned = logs_own law works in
    record {
      lines = held;
      lines_to_the_next = logs_to_the_next law works;
      isolated = logs_isolated held c.runs_isolate_sessions.ensures;
      owned = owned;
      alike = alike_in_lines c.events_are_fixed.ensures law owned;
    }
