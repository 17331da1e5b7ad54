-- The headline, of all sessions of a run at every moment: HasHeadline. Read this file first.
--
-- In one session all segments that went towards the controller carry one letter per place of its stream, so whatever copies it takes,
-- it puts together a beginning of one stream; and that decodes to the first of what was let through to it, in order, and then to a
-- proper prefix of the next; and of its units those with the station of one asset decode to a beginning of what that asset's rules admit
-- of the client's commands for it. What was let through is the list `passed` of the items that the policy's meaning judged; these are the
-- items of all letters that were taken of the client and of the controller, of each by first copies. And it is said how far: where its
-- last event did not cut a session, each open end has sent as many letters as its stream has below the greatest edge that its peer
-- showed. Amid an event an end has sent fewer of the same segments, in their order, and what is put together of fewer segments is put
-- together of all (`cf_session`, `FewerPartsAreEnough`). The lines of these items, and their counts, are in `Logged`.
use Rattle.cf_lane.specs.Caller.{newcomer, none_before}
use Rattle.std.specs.Prelude.{◌≡◌, ℕ, ◌^◌, ◌≤◌, false, List, [], ◌∷◌}
use Rattle.std.specs.List.{AllByRecursion}
use Rattle.cf_decode.specs.Laws.{MakesFirstOf}
use Rattle.cf_decode.specs.Passed.{passed}
use Rattle.cf_decode.specs.Stations.{DecodesByStation, HasOwnStations}
use Rattle.cf_lane.specs.Follows.{AreJudged}
use Rattle.cf_lane.specs.Judged.{Judged}
use Rattle.cf_lane.specs.Output.{stream_to}
use Rattle.cf_lane.specs.SiteRates.{KeepsRates}
use Rattle.cf_policy.specs.declared.Asset.{Asset}
use Rattle.cf_session.specs.Event.{AreTaken}
use Rattle.cf_session.specs.Laws.{IsFront, IsReassembly, IsSentUpTo, parts_of}
use Rattle.cf_session.specs.Session.{client_ends, client_of, clients, controller_ends, controllers, history, work_of}
use Rattle.cf_stream.specs.Stream.{Byte, End, Letter}
use Rattle.cf_view.specs.declared.Side.TheVariants as side
use Rattle.cf_run.specs.Sessions.{sessions_of}
use Rattle.cf_run.specs.Table.{Session}
use Rattle.cf_run.specs.Trace.{AreRunEvents, RunEvent, ends_cut}

-- the bytes among letters
abbrev pub bytes_among : List Letter → List ℕ
bytes_among [] = []
bytes_among (Byte b ∷ letters) = b ∷ bytes_among letters
bytes_among (End ∷ letters) = bytes_among letters

-- the history of a session is what was taken of both sides, of each by first copies; it has these judged items, and the streams to the
-- two sides are theirs
pub record IsJudged (session : Session) (judged : List Judged) : Type 0 where
  pub taken : AreTaken session.flow session.events
  pub are_judged : AreJudged session.flow.site (newcomer (client_of session.flow).address) (history session.events) judged
  pub to_controller : (work_of session.events).to_controller ≡ stream_to session.flow.site side.Controller judged
  pub to_client : (work_of session.events).to_client ≡ stream_to session.flow.site side.Client judged

-- letters that a controller put together are a beginning of the stream to it, and decode to the first of what was let through, and for each
-- asset, as the stations of a site differ, to the first of what its rules admit
pub record Decodes (session : Session) (judged : List Judged) (taken : List Letter) : Type 0 where
  pub front : IsFront (work_of session.events).to_controller taken
  pub makes : MakesFirstOf session.flow.site (passed session.flow.site judged) (bytes_among taken)
  pub by_station :
      HasOwnStations session.flow.site →
      DecodesByStation session.flow.site (newcomer (client_of session.flow).address) judged (bytes_among taken)

-- each open end has sent as many letters as its stream has below the greatest edge that its peer showed
pub record SendsUpToTheEdge (session : Session) : Type 0 where
  pub to_controller : IsSentUpTo (controller_ends session.flow).role (controllers session.events) (work_of session.events).to_controller
  pub to_client : IsSentUpTo (client_ends session.flow).role (clients session.events) (work_of session.events).to_client

-- the headline of one session: whatever copies of letters it takes of all segments that went to it; and no rule of an asset let more
-- through than its rate
pub record IsFaithful (session : Session) : Type 0 where
  pub judged : List Judged
  pub is_judged : IsJudged session judged
  pub rates : KeepsRates session.flow.site none_before judged
  pub far : ends_cut session.events ≡ false → SendsUpToTheEdge session
  pub decodes :
      (taken : List Letter) → IsReassembly (parts_of (controller_ends session.flow).role (controllers session.events)) taken →
      Decodes session judged taken

-- the headline of a run: after each of its events, of the sessions in the table and those that left it
abbrev pub HasHeadline : List RunEvent → Type 0
HasHeadline [] = Unit {0}
HasHeadline (event ∷ earlier) = AllByRecursion IsFaithful (sessions_of (event ∷ earlier)) × HasHeadline earlier

abbrev pub RunsHaveHeadline : Type 0
RunsHaveHeadline = (assets : List Asset) (limit : ℕ) (events : List RunEvent) → limit ≤ 2 ^ 30 → AreRunEvents assets limit events
    → HasHeadline events
