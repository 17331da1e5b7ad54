-- All that a run sends may be written at its moment.
use Rattle.std.proofs.Common.{ℕ, ◌+◌, ◌<◌, List, sym, subst, arith}
use Rattle.cf_isolation.proofs.Common.{AllByRecursion, AreRight, AreRunEvents, Asset, Flow, IsWritable, RunEvent, Sent, SessionEvent, SessionsAreRight, moment, sent, sent_first, sent_second, tick_of}
use Rattle.cf_view.specs.Moment.{moment_limit}
use Rattle.cf_isolation.specs.ReadBack.{MayBeWritten}
use Rattle.cf_isolation.proofs.Legs.{LegsRight}
use Rattle.cf_isolation.proofs.Lists.{all_map}
use Rattle.cf_isolation.proofs.Packets.{first_all, second_all, sent_all}
use Rattle.cf_isolation.proofs.Writing.{Sends, sends_writable}

abbrev AreWritten : List Sent → Type 0
AreWritten ss = AllByRecursion MayBeWritten ss

-- what the two ends of a session send in an event
module _ (f : Flow) (es : List SessionEvent) (e : SessionEvent) (legs : LegsRight f es) (right : AreRight f es e) where
  controller_sends : Sends IsWritable e.controller
  controller_sends = sends_writable _ _ e.controller legs.controller right.controller

  client_sends : Sends IsWritable e.client
  client_sends = sends_writable _ _ e.client legs.client right.client

  first_written : e.client.tick < moment_limit → AreWritten (sent_first e)
  first_written m = first_all IsWritable MayBeWritten e controller_sends client_sends (λ p h. record { moment = m; packet = h })

  second_written : moment e.client < moment_limit → AreWritten (sent_second e)
  second_written m = second_all IsWritable MayBeWritten e controller_sends client_sends (λ p h. record { moment = m; packet = h })

pub written : SessionsAreRight → (assets : List Asset) (limit : ℕ) (events : List RunEvent) → AreRunEvents assets limit events → AllByRecursion (λ e. e.input.moment < moment_limit) events → AreWritten (sent events)
written law assets limit events are m =
    sent_all law assets limit (λ tick. tick + 1 < moment_limit) MayBeWritten
    (λ tick small f own es t legs right now. first_written f es t legs right (omega (arith, small, now)))
    (λ tick small f own es e legs right now. second_written f es e legs right (subst (λ n. n + 1 < moment_limit) (sym now) small)) events are
    (all_map (λ e. e.input.moment < moment_limit) (λ e. tick_of e.input + 1 < moment_limit) (λ e h. omega (arith, h)) events m)
