-- What was done between two places of the code: stages that are done, DoesBetween, or that break off, StopsBetween.
use Rattle.cf_lane.specs.Caller.{RateMoments}
use Rattle.cf_lane.specs.Handled.{WritesLog}
use Rattle.cf_links.specs.LinkValue.{LinkValue, link_value}
use Rattle.cf_links.specs.Links.{with_answers}
use Rattle.cf_links.specs.declared.Links.{Ghosts as LinksOf}
use Rattle.cf_outside.specs.Desk.{DeskValue}
use Rattle.cf_outside.specs.Faults.{Rose}
use Rattle.cf_outside.specs.Pair.{Entry}
use Rattle.cf_outside.specs.declared.Desk.{Ghosts as DeskOf}
use Rattle.cf_policy.specs.Site.{SiteValue}
use Rattle.std.specs.Prelude.{List, Option, min, ℕ, ◌++◌, ◌+◌, ◌-◌, ◌^◌, ◌≡◌, ◌≤◌}
use Rattle.cf_relay.specs.Relaying.{RelayingValue, relaying_value}
use Rattle.cf_relay.specs.Stands.{Apart, StandsFor, StandsStopped}
use Rattle.cf_relay.specs.Turn.{BeginsStages, DoesStages, Stage}
use Rattle.cf_relay.specs.declared.relaying.Relaying.{Relaying}
use Rattle.cf_relay.specs.declared.stop.Stop.{Stop}
use Rattle.cf_relay.specs.declared.stop.Stop.TheVariants as stop

-- a relay with the links of its session and its desk
pub record Scene : Type 0 where
  pub relaying : RelayingValue
  pub links : LinkValue
  pub desk : DeskValue

abbrev pub scene : RelayingValue → LinkValue → DeskValue → Scene
scene relaying links desk = record { relaying = relaying; links = links; desk = desk }

abbrev pub scene_of : {L D : Type 0} → LinksOf L → (session : ℕ) → DeskOf D → Relaying → L → D → Scene
scene_of L session D relaying links desk = scene (relaying_value relaying) (link_value L session links) (D.value desk)

-- a count was raised so often; it stays where a u64 ends
abbrev pub RoseBy : ℕ → ℕ → ℕ → Type 0
RoseBy n before now = min (before + n) (2 ^ 64 - 1) ≤ now

-- answers were added, counts did not fall, each answer Idle was counted, and nothing but the log was written
pub record AddsAnswers (old new : Scene) (answers : List Entry) : Type 0 where
  pub tells : new.links.told ≡ with_answers old.links.told answers
  pub link : old.links.faults ≤ new.links.faults
  pub idles : (start : ℕ) → RoseBy old.relaying.idle start old.links.idles → RoseBy new.relaying.idle start new.links.idles
  pub log : WritesLog old.desk new.desk

-- the stages are done, whatever list and whatever lines of its own came before; no call on the links failed
pub record DoesBetween (site : SiteValue) (most : ℕ) (stages : List Stage) (old new : Scene) : Type 0 where
  pub answers : List Entry
  pub adds : AddsAnswers old new answers
  pub still : new.links.faults ≡ old.links.faults
  pub does : (past : RateMoments) (first own : Option (List (List ℕ))) (es : List Entry) → StandsFor site past first es old.relaying own →
      DoesStages site past most stages es answers
      × Apart own old.desk.lines new.desk.lines (λ log. StandsFor site past first (es ++ answers) new.relaying log)

-- a stop has its cause; a call on the links failed in one of them alone
abbrev pub StopsBy : Stop → (old new : Scene) → Type 0
StopsBy stop.Idle old new = new.links.faults ≡ old.links.faults
StopsBy (stop.Cut reason) old new = new.links.faults ≡ old.links.faults
StopsBy stop.Link old new = Rose old.links.faults new.links.faults
StopsBy stop.Write old new = (new.links.faults ≡ old.links.faults) × Rose old.desk.faults new.desk.faults

-- the stages break off, whatever list and whatever lines of its own came before
pub record StopsBetween (site : SiteValue) (most : ℕ) (stages : List Stage) (stop : Stop) (old new : Scene) : Type 0 where
  pub answers : List Entry
  pub adds : AddsAnswers old new answers
  pub cause : StopsBy stop old new
  pub does : (past : RateMoments) (first own : Option (List (List ℕ))) (es : List Entry) → StandsFor site past first es old.relaying own →
      BeginsStages site past most stages es answers × Apart own old.desk.lines new.desk.lines
      (λ log. StandsStopped site past most first (es ++ answers) stop new.relaying log new.desk.line_part)
