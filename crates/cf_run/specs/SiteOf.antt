-- Each session of a run is with a site that is in form: SessionsHaveSites.
use Rattle.std.specs.Prelude.{ℕ, List}
use Rattle.std.specs.List.{AllByRecursion}
use Rattle.cf_policy.specs.Site.{IsSiteWithin}
use Rattle.cf_policy.specs.Within.{AreAssetsWithin}
use Rattle.cf_policy.specs.declared.Asset.{Asset}
use Rattle.cf_run.specs.Sessions.{sessions_of}
use Rattle.cf_run.specs.Table.{Session}
use Rattle.cf_run.specs.Trace.{AreRunEvents, RunEvent}

-- the assets that a session is with are a site in form: no two of them have one station
abbrev pub HasSite : Session → Type 0
HasSite session = IsSiteWithin session.flow.site

-- so it is of all sessions of a run under a policy that was read
abbrev pub SessionsHaveSites : Type 0
SessionsHaveSites =
    (assets : List Asset) (limit : ℕ) (events : List RunEvent) → AreAssetsWithin assets → AreRunEvents assets limit events
    → AllByRecursion HasSite (sessions_of events)
