-- Steps of the proof: a relay between two turns, `HasTurned`, and one that stopped within a turn, `HasStopped`, each over lines
-- of its own.
use Rattle.cf_lane.specs.Caller.{RateMoments}
use Rattle.cf_audit.specs.Line.{Begun}
use Rattle.cf_lane.specs.Log.{line_about, with_lines}
use Rattle.cf_outside.specs.Pair.{Entry, Moment, met_at}
use Rattle.cf_policy.specs.Site.{SiteValue}
use Rattle.cf_view.specs.declared.Endpoint.{Endpoint}
use Rattle.std.specs.Prelude.{List, Option, [], ℕ, ◌<◌, ◌∷◌}
use Rattle.cf_relay.specs.Relaying.{RelayingValue}
use Rattle.cf_relay.specs.Stands.{StandsFor, StandsStopped}
use Rattle.cf_relay.specs.Turn.{BeginsStages, DoesStages, turns}
use Rattle.cf_relay.specs.declared.directions.Directions.{Directions}
use Rattle.cf_relay.specs.declared.stop.Stop.{Stop}

-- the list of a relay of a port: a client is met beside the controller, a moment is told, and then there are these answers
abbrev pub begun_list : SiteValue → (listen : ℕ) → Endpoint → (moment : ℕ) → List Entry → List Entry
begun_list site listen client moment answers = met_at listen site.first.endpoint client ∷ Moment moment ∷ answers

-- the lines with which it begins: what stood there, and the line of its beginning
abbrev pub begun_lines : SiteValue → Endpoint → (moment : ℕ) → (base : Option (List (List ℕ))) → Option (List (List ℕ))
begun_lines site client moment base = with_lines base (line_about site.first client moment Begun ∷ [])

-- a relay that has made so many turns, and goes on
pub record HasTurned (directions : Directions) (site : SiteValue) (past : RateMoments) (listen most : ℕ) (client : Endpoint)
    (moment : ℕ) (base : Option (List (List ℕ))) (answers : List Entry) (now : RelayingValue) (own : Option (List (List ℕ))) : Type 0 where
  pub count : ℕ
  pub does : DoesStages site past most (turns directions count) (begun_list site listen client moment []) answers
  pub stands : StandsFor site past (begun_lines site client moment base) (begun_list site listen client moment answers) now own
  pub few : now.idle < most

-- a relay that stopped within a turn; a line that failed left a part after its own lines
pub record HasStopped (directions : Directions) (site : SiteValue) (past : RateMoments) (listen most : ℕ) (client : Endpoint)
    (moment : ℕ) (base : Option (List (List ℕ))) (answers : List Entry) (why : Stop) (now : RelayingValue)
    (own : Option (List (List ℕ))) (part : List ℕ) : Type 0 where
  pub count : ℕ
  pub breaks : BeginsStages site past most (turns directions count) (begun_list site listen client moment []) answers
  pub some : 0 < most
  pub stands : StandsStopped site past most (begun_lines site client moment base) (begun_list site listen client moment answers) why now
      own part
