-- What a lane makes of all that was taken of two sides. The main definition is `Works`, read from the end.
use Rattle.cf_lane.specs.Caller.{newcomer}
use Rattle.std.specs.Prelude.{◌≡◌, ℕ, ◌==◌, count_by, if◌then◌else◌, List, [], ◌∷◌, Option, None}
use Rattle.cf_audit.specs.declared.CutReason.{CutReason}
use Rattle.cf_lane.specs.Follows.{AreJudged}
use Rattle.cf_lane.specs.History.{Element}
use Rattle.cf_lane.specs.Judged.{Judged, cut_of, is_admitted, is_refused}
use Rattle.cf_lane.specs.Log.{lines}
use Rattle.cf_lane.specs.Output.{stream_to}
use Rattle.cf_policy.specs.Site.{SiteValue}
use Rattle.cf_stream.specs.Stream.{Stream, letter_count, no_letters}
use Rattle.cf_view.specs.declared.Endpoint.{Endpoint}
use Rattle.cf_view.specs.declared.Side.{Side}
use Rattle.cf_view.specs.declared.Side.TheVariants as side

-- the letters of a side that an event took newly, as one element of the history; no letters are none
abbrev pub fed_at : (now : ℕ) → Side → (letters : Stream) → List Element
fed_at now s letters = if letter_count letters == 0 then [] else record { moment = now; side = s; letters = letters } ∷ []

-- all that a session sees of a lane
pub record Work : Type 0 where
  -- the streams to the two sides
  pub to_client : Stream
  pub to_controller : Stream
  -- the lines of the items, the oldest first
  pub log : List (List ℕ)
  -- how many commands were admitted, and how many refused
  pub admitted : ℕ
  pub refused : ℕ
  -- why the first item that cuts does so
  pub cut : Option CutReason

-- the work of which nothing was taken, and nothing made
abbrev pub no_work : Work
no_work = record { to_client = no_letters; to_controller = no_letters; log = []; admitted = 0; refused = 0; cut = None }

-- what judged items come to
abbrev pub work_by : SiteValue → (client : Endpoint) → List Judged → Work
work_by site client judged = record {
  to_client = stream_to site side.Client judged;
  to_controller = stream_to site side.Controller judged;
  log = lines site client [] judged;
  admitted = count_by (λ j. is_admitted j.fate) judged;
  refused = count_by (λ j. is_refused j.fate) judged;
  cut = cut_of judged;
}

-- the work of the items of a history, the oldest element first
pub record Works (site : SiteValue) (client : Endpoint) (history : List Element) (work : Work) : Type 0 where
  pub judged : List Judged
  pub are_judged : AreJudged site (newcomer client.address) history judged
  pub is_work : work ≡ work_by site client judged
