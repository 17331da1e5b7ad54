-- What a run logs and counts, of all sessions of a run at every moment: EachIsLogged.
use Rattle.cf_lane.specs.Caller.{newcomer}
use Rattle.std.specs.Prelude.{◌≡◌, ℕ, List, [], ◌∷◌}
use Rattle.std.specs.List.{AllByRecursion}
use Rattle.cf_lane.specs.Follows.{AreJudged}
use Rattle.cf_lane.specs.Judged.{Judged}
use Rattle.cf_policy.specs.declared.Asset.{Asset}
use Rattle.cf_session.specs.Session.{client_of, history, work_of}
use Rattle.cf_session.specs.Work.{work_by}
use Rattle.cf_run.specs.Sessions.{sessions_of}
use Rattle.cf_run.specs.Table.{Session}
use Rattle.cf_run.specs.Trace.{AreRunEvents, RunEvent}

-- the judged items of all that was taken of both sides of a session: its streams, its lines, its counts and why it is cut are theirs
abbrev pub IsLogged : Session → Type 0
IsLogged session =
    (judged : List Judged) → AreJudged session.flow.site (newcomer (client_of session.flow).address) (history session.events) judged
    → work_of session.events ≡ work_by session.flow.site (client_of session.flow) judged

-- the lines and counts after each event of a run, of the sessions in the table and those that left it
abbrev pub EachIsLogged : List RunEvent → Type 0
EachIsLogged [] = Unit {0}
EachIsLogged (event ∷ earlier) = AllByRecursion IsLogged (sessions_of (event ∷ earlier)) × EachIsLogged earlier

abbrev pub RunsAreLogged : Type 0
RunsAreLogged = (assets : List Asset) (limit : ℕ) (events : List RunEvent) → AreRunEvents assets limit events → EachIsLogged events
